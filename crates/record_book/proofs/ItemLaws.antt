-- Which items are published, and that their points are those of the published batches.
use Rattle.std.proofs.Common.{◌≡◌, ℕ, ◌+◌, ◌<◌, ◌≤◌, ◌⊎◌, inl, inr, Bool, true, false, ◌&&◌, ◌||◌, nat_le, nat_lt, cond, List, [], ◌∷◌, ◌++◌, map, take, length, get_or, filter, count_by, Option, Some, None, ap, sym, ◌∙◌, refl, arith, add-one, add_assoc, append_assoc, length-append, pos}
use Rattle.std.specs.Prelude.{slice_get, suc, zero}
use Rattle.std.specs.List.{All, cons_option, filter_map, list_any}
use Rattle.std.specs.Option.{option_map_or}
use Rattle.std.proofs.lemmas.Bool.{cases_lt, le-leb, le-ltb, lt-leb, lt-ltb}
use Rattle.std.proofs.lemmas.List.{append-nil, map-append, take_all, take_more}
use Rattle.std.proofs.lemmas.List.Elements.{All-head, All-tail, filter-append, filter_map-append}
use Rattle.std.proofs.lemmas.List.Sums.{sum_by-cons}
use Rattle.std.proofs.lemmas.Simd.{map-map}
use Rattle.std.proofs.lemmas.Option.{none-some, same_Some, slice_get-get_or}
use Rattle.cube_math.specs.Points.{PointValue}
use Rattle.octree_model.specs.Numbers.{up_to}
use Rattle.record_model.specs.Records.{Record}
use Rattle.record_model.specs.declared.event.Event.TheVariants.{Admission, Look, Publication}
use Rattle.record_book.specs.BookKept.{is_published}
use Rattle.record_book.specs.KeptBatches.{KeptValue, kept_from, kept_of, points_in}
use Rattle.record_book.specs.PublishedItems.{has_item, published_batches}
use Rattle.record_book.specs.declared.row.Standing.{Standing}
use Rattle.record_book.specs.declared.row.Standing.TheVariants.{Out, Published, Abandoned}
use Rattle.record_book.proofs.KeptLaws.{ordered, part_of}

-- ---- which batch has an item

both : (a b : Bool) → a ≡ true → b ≡ true → (a && b) ≡ true
both true b e f = f
both false b e f = absurd (cc)

first_no : (a b : Bool) → a ≡ false → (a && b) ≡ false
first_no true b e = absurd (cc)
first_no false b e = refl

second_no : (a b : Bool) → b ≡ false → (a && b) ≡ false
second_no true b e = e
second_no false b e = refl

pub has : (b : KeptValue) (item : ℕ) → b.first ≤ item → item < b.first + length b.points → has_item b item ≡ true
has b item low high = both (nat_le b.first item) (nat_lt item (b.first + length b.points)) (le-leb _ _ low) (lt-ltb _ _ high)

has_not_before : (b : KeptValue) (item : ℕ) → item < b.first → has_item b item ≡ false
has_not_before b item low = first_no (nat_le b.first item) (nat_lt item (b.first + length b.points)) (lt-leb _ _ low)

has_not_behind : (b : KeptValue) (item : ℕ) → b.first + length b.points ≤ item → has_item b item ≡ false
has_not_behind b item high = second_no (nat_le b.first item) (nat_lt item (b.first + length b.points)) (le-ltb _ _ high)

-- one batch alone has it
pub only_here : (events : Record) (place other item : ℕ) (b c : KeptValue) → slice_get (kept_of events) place ≡ Some b
    → slice_get (kept_of events) other ≡ Some c → b.first ≤ item → item < b.first + length b.points → (other ≡ place → ⊥) → has_item c item ≡ false
only_here events place other item b c there at low high differ = elim (cases_lt other place) [
  | inl before ↦ has_not_behind c item (omega (arith, ordered 0 events other place c b at there before))
  | inr behind ↦ has_not_before c item (let o = ordered 0 events place other b c there at (strict differ behind) in omega (arith, o))
]
  where
    strict : {n m : ℕ} → (n ≡ m → ⊥) → m ≤ n → m < n
    strict differ low = omega arith

module _ (item : ℕ) where
  -- no batch has it
  unpublished : (kept : List KeptValue) (standings : List Standing)
      → ((j : ℕ) (c : KeptValue) → slice_get kept j ≡ Some c → has_item c item ≡ false)
      → list_any (λ (b : KeptValue). has_item b item) (published_batches kept standings) ≡ false
  unpublished [] standings none = refl
  unpublished (k ∷ kept) [] none = refl
  unpublished (k ∷ kept) (Out ∷ standings) none = unpublished kept standings (λ j c at. none (suc j) c at)
  unpublished (k ∷ kept) (Published ∷ standings) none =
      ap (λ v. v || list_any (λ (b : KeptValue). has_item b item) (published_batches kept standings)) (none zero k refl)
      ∙ unpublished kept standings (λ j c at. none (suc j) c at)
  unpublished (k ∷ kept) (Abandoned ∷ standings) none = unpublished kept standings (λ j c at. none (suc j) c at)

  -- the one that has it tells whether it is published
  pub published_as : (kept : List KeptValue) (standings : List Standing) (place : ℕ) (b : KeptValue) (s : Standing)
      → slice_get kept place ≡ Some b → slice_get standings place ≡ Some s → has_item b item ≡ true
      → ((j : ℕ) (c : KeptValue) → slice_get kept j ≡ Some c → (j ≡ place → ⊥) → has_item c item ≡ false)
      → list_any (λ (c : KeptValue). has_item c item) (published_batches kept standings) ≡ is_published s
  published_as [] standings place b s there stands has others = absurd (none-some b there)
  published_as (k ∷ kept) [] place b s there stands has others = absurd (none-some s stands)
  published_as (k ∷ kept) (Out ∷ standings) zero b s there stands has others =
      unpublished kept standings (λ j c at. others (suc j) c at (λ e. absurd (omega arith))) ∙ ap is_published (same_Some Out s stands)
  published_as (k ∷ kept) (Published ∷ standings) zero b s there stands has others =
      ap (λ v. v || list_any (λ (c : KeptValue). has_item c item) (published_batches kept standings))
      (ap (λ (x : KeptValue). has_item x item) (same_Some k b there) ∙ has) ∙ ap is_published (same_Some Published s stands)
  published_as (k ∷ kept) (Abandoned ∷ standings) zero b s there stands has others =
      unpublished kept standings (λ j c at. others (suc j) c at (λ e. absurd (omega arith))) ∙ ap is_published (same_Some Abandoned s stands)
  published_as (k ∷ kept) (Out ∷ standings) (suc place) b s there stands has others =
      published_as kept standings place b s there stands has (λ j c at differ. others (suc j) c at (λ e. differ (omega (arith, e))))
  published_as (k ∷ kept) (Published ∷ standings) (suc place) b s there stands has others =
      ap (λ v. v || list_any (λ (c : KeptValue). has_item c item) (published_batches kept standings)) (others zero k refl (λ e. absurd (omega (arith, e))))
      ∙ published_as kept standings place b s there stands has (λ j c at differ. others (suc j) c at (λ e. differ (omega (arith, e))))
  published_as (k ∷ kept) (Abandoned ∷ standings) (suc place) b s there stands has others =
      published_as kept standings place b s there stands has (λ j c at differ. others (suc j) c at (λ e. differ (omega (arith, e))))

-- an item is published where its batch is
pub published_there : (events : Record) (standings : List Standing) (place item : ℕ) (b : KeptValue) (s : Standing)
    → slice_get (kept_of events) place ≡ Some b → slice_get standings place ≡ Some s → b.first ≤ item → item < b.first + length b.points
    → list_any (λ (c : KeptValue). has_item c item) (published_batches (kept_of events) standings) ≡ is_published s
published_there events standings place item b s there stands low high =
    published_as item (kept_of events) standings place b s there stands (has b item low high)
    (λ j c at differ. only_here events place j item b c there at low high differ)

-- ---- all items

-- the numbers below a sum
up_to-add : (a b : ℕ) → up_to (a + b) ≡ up_to a ++ map (λ k. a + k) (up_to b)
up_to-add a zero = ap up_to (plain a) ∙ sym (append-nil (up_to a))
  where
    plain : (n : ℕ) → n + 0 ≡ n
    plain n = omega arith
up_to-add a (suc b) =
    ap up_to (next a b) ∙ ap (λ (l : List ℕ). l ++ (a + b) ∷ []) (up_to-add a b)
    ∙ append_assoc (up_to a) (map (λ k. a + k) (up_to b)) ((a + b) ∷ [])
    ∙ ap (λ (l : List ℕ). up_to a ++ l) (sym (map-append (λ k. a + k) (up_to b) (b ∷ [])))
  where
    next : (n m : ℕ) → n + suc m ≡ suc (n + m)
    next n m = omega arith

at_most : (n : ℕ) → n ≤ n
at_most n = omega arith

-- any point
pub origin : PointValue
origin = record { x = pos 0; y = pos 0; z = pos 0; rgb = 0 }

-- a published batch's points stand before those of the later ones
batch_first : (b : KeptValue) (kept : List KeptValue) (s : Standing) (standings : List Standing)
    → cond (is_published s) (take (length b.points) b.points) [] ++ points_in (published_batches kept standings)
    ≡ points_in (published_batches (b ∷ kept) (s ∷ standings))
batch_first b kept Out standings = refl
batch_first b kept Published standings =
    ap (λ (l : List PointValue). l ++ points_in (published_batches kept standings)) (take_all (length b.points) b.points (at_most (length b.points)))
batch_first b kept Abandoned standings = refl

module _ (points_at : ℕ → Option PointValue) (passes : ℕ → Bool) where
  -- the points of those of some items that pass
  abbrev pub passing : List ℕ → List PointValue
  passing items = filter_map points_at (filter passes items)

  passing-append : (items more : List ℕ) → passing (items ++ more) ≡ passing items ++ passing more
  passing-append items more =
      ap (filter_map points_at) (filter-append passes items more) ∙ filter_map-append points_at (filter passes items) (filter passes more)

  passing-cons : (item : ℕ) (items : List ℕ)
      → passing (item ∷ items) ≡ cond (passes item) (cons_option (points_at item) (passing items)) (passing items)
  passing-cons item items = split (passes item) (filter passes items)
    where
      split : (b : Bool) (rest : List ℕ)
          → filter_map points_at (cond b (item ∷ rest) rest) ≡ cond b (cons_option (points_at item) (filter_map points_at rest)) (filter_map points_at rest)
      split true rest = refl
      split false rest = refl

  -- one item
  passing-one : (item : ℕ) (v : Bool) (p : PointValue) → passes item ≡ v → points_at item ≡ Some p → passing (item ∷ []) ≡ cond v (p ∷ []) []
  passing-one item v p e f =
      passing-cons item [] ∙ ap (λ (b : Bool). cond b (cons_option (points_at item) []) []) e
      ∙ ap (λ (o : Option PointValue). cond v (cons_option o []) []) f

  -- one item more of a list
  pub passing_more_yes : (items : List ℕ) (i d : ℕ) (p : PointValue) → i < length items → passes (get_or items i d) ≡ true
      → points_at (get_or items i d) ≡ Some p → passing (take (i + 1) items) ≡ passing (take i items) ++ p ∷ []
  passing_more_yes items i d p low e f =
      ap passing (take_more items i d low) ∙ passing-append (take i items) (get_or items i d ∷ [])
      ∙ ap (λ (l : List PointValue). passing (take i items) ++ l) (passing-one (get_or items i d) true p e f)

  pub passing_more_no : (items : List ℕ) (i d : ℕ) → i < length items → passes (get_or items i d) ≡ false
      → passing (take (i + 1) items) ≡ passing (take i items)
  passing_more_no items i d low e =
      ap passing (take_more items i d low) ∙ passing-append (take i items) (get_or items i d ∷ [])
      ∙ ap (λ (l : List PointValue). passing (take i items) ++ l)
      (passing-cons (get_or items i d) [] ∙ ap (λ (b : Bool). cond b (cons_option (points_at (get_or items i d)) []) []) e)
      ∙ append-nil (passing (take i items))

  -- the items of one batch
  of_batch : (first n : ℕ) (v : Bool) (points : List PointValue) → n ≤ length points
      → ((k : ℕ) → k < n → (passes (first + k) ≡ v) × (points_at (first + k) ≡ slice_get points k))
      → passing (map (λ k. first + k) (up_to n)) ≡ cond v (take n points) []
  of_batch first zero true points low each = refl
  of_batch first zero false points low each = refl
  of_batch first (suc n) v points low each =
      ap passing (map-append (λ k. first + k) (up_to n) (n ∷ []))
      ∙ passing-append (map (λ k. first + k) (up_to n)) ((first + n) ∷ [])
      ∙ ap (λ (l : List PointValue). l ++ passing ((first + n) ∷ [])) (of_batch first n v points (omega arith) (λ k less. each k (omega arith)))
      ∙ ap (λ (l : List PointValue). cond v (take n points) [] ++ l)
      (passing-one (first + n) v (get_or points n origin) (each n (omega arith)).0
      ((each n (omega arith)).1 ∙ slice_get-get_or points n origin (omega arith)))
      ∙ joined v (take n points) (get_or points n origin) ∙ ap (λ (l : List PointValue). cond v l []) (taken n points (omega arith))
    where
      joined : (b : Bool) (ps : List PointValue) (p : PointValue) → cond b ps [] ++ cond b (p ∷ []) [] ≡ cond b (ps ++ p ∷ []) []
      joined true ps p = refl
      joined false ps p = refl

      taken : (m : ℕ) (ps : List PointValue) → m < length ps → take m ps ++ get_or ps m origin ∷ [] ≡ take (suc m) ps
      taken m ps less = sym (take_more ps m origin less) ∙ ap (λ (k : ℕ). take k ps) (add-one m)

  -- all items, where those of each batch pass as it is published
  pub of_all : (first : ℕ) (events : Record) (standings : List Standing) → length standings ≡ length (kept_from first events)
      → ((place k : ℕ) (b : KeptValue) (s : Standing) → slice_get (kept_from first events) place ≡ Some b → slice_get standings place ≡ Some s
      → k < length b.points → (passes (b.first + k) ≡ is_published s) × (points_at (b.first + k) ≡ slice_get b.points k))
      → passing (map (λ k. first + k) (up_to (length (points_in (kept_from first events))))) ≡ points_in (published_batches (kept_from first events) standings)
  of_all first [] [] stand each = refl
  of_all first [] (s ∷ standings) stand each = absurd (omega arith)
  of_all first ((Admission input points, loader) ∷ events) [] stand each = absurd (omega arith)
  of_all first ((Admission input points, loader) ∷ events) (s ∷ standings) stand each =
      let b : KeptValue = record { input = input; loader = loader; first = first; points = points } in
      let rest : List KeptValue = kept_from (first + length points) events in
      ap (λ (n : ℕ). passing (map (λ k. first + k) (up_to n))) (length-append points (points_in rest))
      ∙ ap (λ (l : List ℕ). passing (map (λ k. first + k) l)) (up_to-add (length points) (length (points_in rest)))
      ∙ ap passing (map-append (λ k. first + k) (up_to (length points)) (map (λ k. length points + k) (up_to (length (points_in rest)))))
      ∙ passing-append (map (λ k. first + k) (up_to (length points))) (map (λ k. first + k) (map (λ k. length points + k) (up_to (length (points_in rest)))))
      ∙ ap (λ (l : List PointValue). l ++ passing (map (λ k. first + k) (map (λ k. length points + k) (up_to (length (points_in rest))))))
      (of_batch first (length points) (is_published s) points (at_most (length points)) (λ k less. each 0 k b s refl refl less))
      ∙ ap (λ (l : List ℕ). cond (is_published s) (take (length points) points) [] ++ passing l)
      (further first (length points) (up_to (length (points_in rest))))
      ∙ ap (λ (l : List PointValue). cond (is_published s) (take (length points) points) [] ++ l)
      (of_all (first + length points) events standings (omega (arith, stand)) (λ place k c t at stands less. each (suc place) k c t at stands less))
      ∙ batch_first b rest s standings
    where
      further : (a c : ℕ) (ns : List ℕ) → map (λ k. a + k) (map (λ k. c + k) ns) ≡ map (λ k. a + c + k) ns
      further a c ns = map-map (λ k. a + k) (λ k. c + k) ns ∙ ap (λ (f : ℕ → ℕ). map f ns) (λ i k. sym (add_assoc a c k) i)
  of_all first ((Publication input points, loader) ∷ events) standings stand each = of_all first events standings stand each
  of_all first ((Look, pass) ∷ events) standings stand each = of_all first events standings stand each

  -- the points that pass a test are those of the items whose points pass it
  pub passing-filter : (test : PointValue → Bool) (items : List ℕ)
      → filter test (passing items) ≡ passing (filter (λ item. option_map_or test (points_at item) false) items)
  passing-filter test [] = refl
  passing-filter test (item ∷ items) =
      let kept : List ℕ = filter (λ x. option_map_or test (points_at x) false) items in
      ap (filter test) (passing-cons item items)
      ∙ by_point (passes item) (points_at item) (passing items)
      ∙ ap (λ (l : List PointValue). cond (option_map_or test (points_at item) false) (cond (passes item) (cons_option (points_at item) l) l) l)
      (passing-filter test items)
      ∙ ap (λ (l : List PointValue). cond (option_map_or test (points_at item) false) l (passing kept)) (sym (passing-cons item kept))
      ∙ sym (inside_cond (option_map_or test (points_at item) false) kept)
    where
      by_point : (b : Bool) (o : Option PointValue) (ps : List PointValue)
          → filter test (cond b (cons_option o ps) ps)
          ≡ cond (option_map_or test o false) (cond b (cons_option o (filter test ps)) (filter test ps)) (filter test ps)
      by_point true None ps = refl
      by_point true (Some p) ps = refl
      by_point false None ps = refl
      by_point false (Some p) ps = same (test p) (filter test ps)
        where
          same : (b : Bool) (qs : List PointValue) → qs ≡ cond b qs qs
          same true qs = refl
          same false qs = refl

      inside_cond : (b : Bool) (rest : List ℕ) → passing (cond b (item ∷ rest) rest) ≡ cond b (passing (item ∷ rest)) (passing rest)
      inside_cond true rest = refl
      inside_cond false rest = refl

  -- as many points as items that pass
  pub length-passing : (most : ℕ) → ((item : ℕ) → item < most → (p : PointValue) × (points_at item ≡ Some p))
      → (items : List ℕ) → All (λ item. item < most) items → length (passing items) ≡ count_by passes items
  length-passing most some [] low = refl
  length-passing most some (item ∷ items) low =
      let here = some item (All-head (λ (x : ℕ). x < most) item items low) in
      ap length (passing-cons item items)
      ∙ counted (passes item) (points_at item) here.0 (passing items) here.1
      ∙ ap (λ (n : ℕ). cond (passes item) 1 0 + n) (length-passing most some items (All-tail (λ (x : ℕ). x < most) item items low))
      ∙ sym (sum_by-cons (λ (x : ℕ). cond (passes x) 1 0) item items)
    where
      counted : (b : Bool) (o : Option PointValue) (p : PointValue) (ps : List PointValue) → o ≡ Some p
          → length (cond b (cons_option o ps) ps) ≡ cond b 1 0 + length ps
      counted true None p ps e = absurd (cc)
      counted true (Some q) p ps e = omega arith
      counted false o p ps e = omega arith
