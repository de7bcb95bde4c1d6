-- What is ready to be merged into a grid.
use Rattle.std.proofs.Common.{◌≡◌, ℕ, ◌+◌, ◌<◌, inl, inr, Bool, true, false, ◌||◌, List, [], ◌∷◌, ◌++◌, map, take, length, get_or, zero, suc, ap, refl, sym, arith, ◌∙◌, nat_eq, cond, None, append_assoc}
use Rattle.std.specs.List.{filter}
use Rattle.std.proofs.Math.Bool.{or-true}
use Rattle.std.proofs.lemmas.Bool.{cases_eq, eq-eqb, ne_eqb}
use Rattle.std.proofs.lemmas.List.{map-append, map_more}
use Rattle.cube_math.specs.Points.{PointValue}
use Rattle.cube_math.specs.Cubes.{CubeValue, cell}
use Rattle.octree_model.specs.Numbers.{has, with_number, ascending}
use Rattle.octree_model.specs.Voxels.{VoxelValue}
use Rattle.octree_model.proofs.AscendingLaws.{has-ascending, ascending_push}
use Rattle.occupancy_grid.specs.Grids.{GridValue, AddsSomePages}
use Rattle.occupancy_grid.specs.Pages.{page_of}
use Rattle.occupancy_grid.proofs.NumberSets.{or_more, same_numbers, has-append, has_left, has_right}
use Rattle.voxel_sampler.specs.Nears.{NearValue, near_key, near_of, cells_of, least_nears, voxel_of}
use Rattle.voxel_sampler.specs.Order.{IsAscending}
use Rattle.voxel_sampler.specs.Ready.{ReadyValue, IsReadyFor}
use Rattle.voxel_sampler.specs.Runs.{is_lower, voxel_cells}
use Rattle.voxel_sampler.specs.Updates.{is_change}
use Rattle.voxel_sampler.proofs.Keys.{key_in, no_key, cells_of-least_nears, cells_of_points}
use Rattle.voxel_sampler.proofs.Rising.{AllOver, Rising, ascending_rising, rising_from}

same_tests : (a b : Bool) → (a ≡ true → b ≡ true) → (b ≡ true → a ≡ true) → a ≡ b
same_tests true true f g = refl
same_tests false false f g = refl
same_tests true false f g = sym (f refl)
same_tests false true f g = g refl

-- ---- numbers of numbers
has_map : (f : ℕ → ℕ) (z : ℕ) (ks : List ℕ) → has z ks ≡ true → has (f z) (map f ks) ≡ true
has_map f z [] h = h
has_map f z (k ∷ ks) h = elim (cases_eq z k) [
  | inl same ↦ ap (λ b. b || has (f z) (map f ks)) (eq-eqb _ _ (ap f same))
  | inr other ↦ ap (λ b. nat_eq (f z) (f k) || b) (has_map f z ks (sym (ap (λ b. b || has z ks) (ne_eqb _ _ other)) ∙ h)) ∙ or-true (nat_eq (f z) (f k))
]

has_map_some : (f : ℕ → ℕ) (p : ℕ) (ks : List ℕ) → has p (map f ks) ≡ true → (z : ℕ) × (has z ks ≡ true) × (f z ≡ p)
has_map_some f p [] h = absurd (false_true h)
  where
    false_true : false ≡ true → ⊥
    false_true e = cc
has_map_some f p (k ∷ ks) h = elim (cases_eq p (f k)) [
  | inl same ↦ (k, ap (λ b. b || has k ks) (eq-eqb k k refl), sym same)
  | inr other ↦
      let rest : (z : ℕ) × (has z ks ≡ true) × (f z ≡ p) = has_map_some f p ks (sym (ap (λ b. b || has p (map f ks)) (ne_eqb _ _ other)) ∙ h) in
      (rest.0, ap (λ b. nat_eq rest.0 k || b) rest.1 ∙ or-true (nat_eq rest.0 k), rest.2)
]

-- the pages of cells do not depend on their order
same_pages : (p : ℕ) (ks : List ℕ) → has p (map page_of (ascending ks)) ≡ has p (map page_of ks)
same_pages p ks = same_tests (has p (map page_of (ascending ks))) (has p (map page_of ks))
    (λ h. let some : (z : ℕ) × (has z (ascending ks) ≡ true) × (page_of z ≡ p) = has_map_some page_of p (ascending ks) h in
    ap (λ q. has q (map page_of ks)) (sym some.2) ∙ has_map page_of some.0 ks (sym (has-ascending some.0 ks) ∙ some.1))
    (λ h. let some : (z : ℕ) × (has z ks ≡ true) × (page_of z ≡ p) = has_map_some page_of p ks h in
    ap (λ q. has q (map page_of (ascending ks))) (sym some.2) ∙ has_map page_of some.0 (ascending ks) (has-ascending some.0 ks ∙ some.1))

all_pages : (p : ℕ) (old ks : List ℕ) → has p (old ++ map page_of (ascending ks)) ≡ has p (old ++ map page_of ks)
all_pages p old ks = has-append p old (map page_of (ascending ks)) ∙ ap (λ b. has p old || b) (same_pages p ks) ∙ sym (has-append p old (map page_of ks))

pub pages_of_points : (old ks : List ℕ) → ascending (old ++ map page_of (ascending ks)) ≡ ascending (old ++ map page_of ks)
pages_of_points old ks = same_numbers (old ++ map page_of (ascending ks)) (old ++ map page_of ks) (λ p. all_pages p old ks)

pub some_of_points : (old new : GridValue) (ks : List ℕ) → AddsSomePages old new (ascending ks) → AddsSomePages old new ks
some_of_points old new ks adds = record { same = adds.same; kept = adds.kept; few = λ p h. sym (all_pages p old.pages ks) ∙ adds.few p h }

pub no_pages : (grid : GridValue) (ks : List ℕ) → AddsSomePages grid grid ks
no_pages grid ks = record { same = refl; kept = λ p h. h; few = λ p h. has_left p grid.pages (map page_of ks) h }

-- ---- the cells of the run
cells_of_voxels : (ns : List NearValue) → voxel_cells (map voxel_of ns) ≡ cells_of ns
cells_of_voxels [] = refl
cells_of_voxels (n ∷ ns) = ap (λ ks. n.cell ∷ ks) (cells_of_voxels ns)

over-filter : (p : NearValue → Bool) (m : ℕ) (ns : List NearValue) → AllOver m (cells_of ns) → AllOver m (cells_of (filter p ns))
over-filter p m [] h = tt
over-filter p m (n ∷ ns) h = elim (p n) as (λ b. AllOver m (cells_of (cond b (n ∷ filter p ns) (filter p ns)))) [ true ↦ (h.0, over-filter p m ns h.1) | false ↦ over-filter p m ns h.1 ]

rising-filter : (p : NearValue → Bool) (ns : List NearValue) → Rising (cells_of ns) → Rising (cells_of (filter p ns))
rising-filter p [] h = tt
rising-filter p (n ∷ ns) h = elim (p n) as (λ b. Rising (cells_of (cond b (n ∷ filter p ns) (filter p ns)))) [ true ↦ (over-filter p n.cell ns h.0, rising-filter p ns h.1) | false ↦ rising-filter p ns h.1 ]

kept_cell : (p : NearValue → Bool) (z : ℕ) (ns : List NearValue) → has z (cells_of (filter p ns)) ≡ true → has z (cells_of ns) ≡ true
kept_cell p z [] h = h
kept_cell p z (n ∷ ns) h = elim (p n) as (λ b. has z (cells_of (cond b (n ∷ filter p ns) (filter p ns))) ≡ true → has z (cells_of (n ∷ ns)) ≡ true) [
  | true ↦ λ e. or_more (nat_eq z n.cell) (has z (cells_of (filter p ns))) (has z (cells_of ns)) (kept_cell p z ns) e
  | false ↦ λ e. ap (λ b. nat_eq z n.cell || b) (kept_cell p z ns e) ∙ or-true (nat_eq z n.cell)
] h

-- an entry of a cell that is new is a change
new_cells : (best : List NearValue) (z : ℕ) (ns : List NearValue) → key_in best z ≡ None → has z (cells_of (filter (is_change best) ns)) ≡ has z (cells_of ns)
new_cells best z [] none = refl
new_cells best z (n ∷ ns) none = elim (cases_eq z n.cell) [
  | inl same ↦
      let changes : is_change best n ≡ true = ap (λ y. is_lower (near_key n) (key_in best y)) (sym same) ∙ ap (is_lower (near_key n)) none in
      ap (λ b. has z (cells_of (cond b (n ∷ filter (is_change best) ns) (filter (is_change best) ns)))) changes
      ∙ ap (λ b. b || has z (cells_of (filter (is_change best) ns))) (eq-eqb _ _ same) ∙ sym (ap (λ b. b || has z (cells_of ns)) (eq-eqb _ _ same))
  | inr other ↦ either (is_change best n) (ne_eqb _ _ other) ∙ new_cells best z ns none ∙ sym (ap (λ b. b || has z (cells_of ns)) (ne_eqb _ _ other))
]
  where
    either : (b : Bool) → nat_eq z n.cell ≡ false → has z (cells_of (cond b (n ∷ filter (is_change best) ns) (filter (is_change best) ns))) ≡ has z (cells_of (filter (is_change best) ns))
    either true e = ap (λ b. b || has z (cells_of (filter (is_change best) ns))) e
    either false e = refl

cells_to_come : (best lowest : List NearValue) → cells_of (least_nears (best ++ lowest)) ≡ ascending (cells_of best ++ cells_of (filter (is_change best) lowest))
cells_to_come best lowest = cells_of-least_nears (best ++ lowest) ∙ same_numbers (cells_of (best ++ lowest)) (cells_of best ++ cells_of (filter (is_change best) lowest)) (λ z.
    ap (has z) (map-append (λ (n : NearValue). n.cell) best lowest) ∙ has-append z (cells_of best) (cells_of lowest)
    ∙ either z (has z (cells_of best)) refl
    ∙ sym (has-append z (cells_of best) (cells_of (filter (is_change best) lowest))))
  where
    either : (z : ℕ) (b : Bool) → has z (cells_of best) ≡ b → (has z (cells_of best) || has z (cells_of lowest)) ≡ (has z (cells_of best) || has z (cells_of (filter (is_change best) lowest)))
    either z true e = ap (λ b. b || has z (cells_of lowest)) e ∙ sym (ap (λ b. b || has z (cells_of (filter (is_change best) lowest))) e)
    either z false e = ap (λ b. has z (cells_of best) || b) (sym (new_cells best z lowest (no_key best z e)))

-- what was made of the least keys of points is ready for the grid that has the pages of their cells
pub is_ready : (grid grid' : GridValue) (best lowest : List NearValue) (ready : ReadyValue) → grid.cells ≡ cells_of best → IsAscending (cells_of best) → IsAscending (cells_of lowest) → ready.nears ≡ least_nears (best ++ lowest)
    → ready.run ≡ map voxel_of (filter (is_change best) lowest) → grid'.cells ≡ grid.cells → grid'.pages ≡ ascending (grid.pages ++ map page_of (cells_of lowest)) → IsReadyFor grid' best ready
is_ready grid grid' best lowest ready cells known order nears run same pages =
    let run_cells : voxel_cells ready.run ≡ cells_of (filter (is_change best) lowest) = ap voxel_cells run ∙ cells_of_voxels (filter (is_change best) lowest) in
    record {
      cells = same ∙ cells;
      known = ap ascending (same ∙ cells) ∙ known ∙ sym (same ∙ cells);
      order = ap ascending run_cells ∙ ascending_rising (cells_of (filter (is_change best) lowest)) (rising-filter (is_change best) lowest (rising_from (cells_of lowest) order)) ∙ sym run_cells;
      more = ap cells_of nears ∙ cells_to_come best lowest ∙ ap (λ (ks : List ℕ). ascending (ks ++ cells_of (filter (is_change best) lowest))) (sym (same ∙ cells)) ∙ ap (λ (ks : List ℕ). ascending (grid'.cells ++ ks)) (sym run_cells);
      pages = λ z h.
          let there : has z (cells_of lowest) ≡ true = kept_cell (is_change best) z lowest (sym (ap (has z) run_cells) ∙ h) in
          ap (has (page_of z)) pages ∙ has-ascending (page_of z) (grid.pages ++ map page_of (cells_of lowest))
          ∙ has_right (page_of z) grid.pages (map page_of (cells_of lowest)) (has_map page_of z (cells_of lowest) there);
    }

-- ---- one cell of the run after the other
pub one_cell_more : (grid grid' grid'' : GridValue) (run : List VoxelValue) (i : ℕ) (v : VoxelValue) → i < length run → v ≡ get_or run i v
    → grid' ≡ record grid { cells = ascending (grid.cells ++ voxel_cells (take i run)) } → grid'' ≡ record grid' { cells = with_number v.cell grid'.cells }
    → grid'' ≡ record grid { cells = ascending (grid.cells ++ voxel_cells (take (i + 1) run)) }
one_cell_more grid grid' grid'' run i v l is before set =
    set ∙ ap (λ (g : GridValue). record g { cells = with_number v.cell g.cells }) before
    ∙ ap (λ (ks : List ℕ). record grid { cells = ks }) cells
  where
    cells : with_number v.cell (ascending (grid.cells ++ voxel_cells (take i run))) ≡ ascending (grid.cells ++ voxel_cells (take (i + 1) run))
    cells =
        sym (ascending_push (grid.cells ++ voxel_cells (take i run)) v.cell)
        ∙ ap ascending (append_assoc grid.cells (voxel_cells (take i run)) (v.cell ∷ [])
        ∙ ap (λ (ks : List ℕ). grid.cells ++ ks) (sym (map_more (λ (w : VoxelValue). w.cell) run i v l ∙ ap (λ (w : VoxelValue). voxel_cells (take i run) ++ w.cell ∷ []) (sym is))))

-- a voxel of the run has its page
pub page_of_run : (grid : GridValue) (best : List NearValue) (ready : ReadyValue) (i : ℕ) (v : VoxelValue) → IsReadyFor grid best ready → i < length ready.run → v ≡ get_or ready.run i v → has (page_of v.cell) grid.pages ≡ true
page_of_run grid best ready i v ready_for l is = ready_for.pages v.cell (has_read ready.run i v l is)
  where
    has_read : (vs : List VoxelValue) (i : ℕ) (v : VoxelValue) → i < length vs → v ≡ get_or vs i v → has v.cell (voxel_cells vs) ≡ true
    has_read [] i v l is = absurd (omega arith)
    has_read (w ∷ ws) zero v l is = ap (λ b. b || has v.cell (voxel_cells ws)) (eq-eqb _ _ (ap (λ (x : VoxelValue). x.cell) is))
    has_read (w ∷ ws) (suc i) v l is = ap (λ b. nat_eq v.cell w.cell || b) (has_read ws i v (omega arith) is) ∙ or-true (nat_eq v.cell w.cell)

-- the cells of the least keys of points
pub cells_are : (c : CubeValue) (ps : List PointValue) (lowest lent : List NearValue) (zs zs' : List ℕ) → lowest ≡ least_nears (map (near_of c) ps) → lent ≡ lowest → zs ≡ cells_of lent → zs' ≡ zs → zs' ≡ ascending (map (cell c) ps)
cells_are c ps lowest lent zs zs' is lends cells same =
    same ∙ cells ∙ ap cells_of (lends ∙ is) ∙ cells_of-least_nears (map (near_of c) ps) ∙ ap ascending (cells_of_points c ps)
