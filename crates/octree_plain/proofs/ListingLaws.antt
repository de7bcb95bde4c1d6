-- The text of an octree.
use Rattle.std.proofs.Common.{◌≡◌, ℕ, ◌+◌, ◌<◌, ◌^◌, ◌-◌, List, [], ◌∷◌, ◌++◌, Bool, false, length, replicate, take, get_or, codes, decimal, slice_get, Some, Result, OnOk, ap, ◌∙◌, sym, subst, append_assoc, arith}
use Rattle.std.specs.Fmt.{signed_decimal, digits, format_spec, padded_integral, char_count, digits_output, styled_digits_output}
use Rattle.std.specs.List.{flat_map}
use Rattle.std.specs.Option.{option_map}
use Rattle.std.specs.declared.alloc.AllocError.{AllocError}
use Rattle.std.proofs.lemmas.List.{append-nil, flat_map_more, take_more}
use Rattle.std.proofs.lemmas.Option.{get_or_from_slice_get}
use Rattle.cube_math.specs.Points.{PointValue}
use Rattle.cube_math.specs.Cubes.{CubeValue}
use Rattle.octree_model.specs.Voxels.{VoxelValue}
use Rattle.octree_model.specs.declared.tree.Tree.{Tree}
use Rattle.octree_model.specs.declared.tree.Tree.TheOpen.{Tree-F}
use Rattle.octree_model.specs.declared.tree.Tree.TheFolds.{fold-roll-Tree}
use Rattle.octree_model.specs.declared.tree.Tree.TheVariants.{Leaf, rolls-Leaf}
use Rattle.octree_plain.specs.Listing.{LinesAt, colour_text, path_text, voxel_line, leaf_line, cube_line, line_feed, lines, tree_lines, node_lines}

-- what `{:06x}` writes of a colour number
six_digits : (rgb : ℕ) → padded_integral (format_spec 32 0 4 6 (2 ^ 64 - 1)) false [] (digits 16 false rgb) ≡ colour_text rgb
unfolding padded_integral char_count
six_digits rgb =
    let zeros : 6 - length (digits 16 false rgb) - 0 - 0 ≡ 6 - length (digits 16 false rgb) = omega arith in
    ap (λ k. replicate k 48 ++ (digits 16 false rgb ++ [])) zeros ∙ ap (λ (l : List ℕ). replicate (6 - length (digits 16 false rgb)) 48 ++ l) (append-nil (digits 16 false rgb))

pub colour_written : (d : _) (s : _) (rgb : ℕ) → digits_output d ≡ Some (digits 16 false rgb) → s ≡ format_spec 32 0 4 6 (2 ^ 64 - 1) → styled_digits_output d s ≡ Some (colour_text rgb)
colour_written d s rgb is_hex is_six =
    ap (styled_digits_output d) is_six ∙ ap (option_map (padded_integral (format_spec 32 0 4 6 (2 ^ 64 - 1)) false [])) is_hex ∙ ap Some (six_digits rgb)

pieces : (a b c d e : List ℕ) → a ++ (b ++ (c ++ (d ++ e))) ≡ a ++ b ++ c ++ d ++ e
pieces a b c d e = simp append_assoc

-- one octant more
pub path_more : (path : List ℕ) (i g : ℕ) (before now new : List ℕ) → i < length path → slice_get path i ≡ Some g → now ≡ before ++ codes "r" ++ flat_map decimal (take i path) → new ≡ now ++ decimal g
    → new ≡ before ++ codes "r" ++ flat_map decimal (take (i + 1) path)
path_more path i g before now new l at is step =
    let taken : take (i + 1) path ≡ take i path ++ g ∷ [] = take_more path i g l ∙ ap (λ o. take i path ++ o ∷ []) (get_or_from_slice_get path i g g at) in
    step ∙ ap (λ (l : List ℕ). l ++ decimal g) is ∙ flat_map_more decimal (before ++ codes "r") (take i path) g
    ∙ ap (λ (l : List ℕ). before ++ codes "r" ++ flat_map decimal l) (sym taken)

-- one voxel more
pub voxel_more : (vs : List VoxelValue) (i : ℕ) (v : VoxelValue) (before now new : List ℕ) → i < length vs → v ≡ get_or vs i v → now ≡ before ++ flat_map voxel_line (take i vs)
    → new ≡ now ++ (codes "v " ++ (decimal v.cell ++ (codes " " ++ (colour_text v.rgb ++ line_feed)))) → new ≡ before ++ flat_map voxel_line (take (i + 1) vs)
voxel_more vs i v before now new l at is step =
    let taken : take (i + 1) vs ≡ take i vs ++ v ∷ [] = take_more vs i v l ∙ ap (λ (o : VoxelValue). take i vs ++ o ∷ []) (sym at) in
    let line : codes "v " ++ (decimal v.cell ++ (codes " " ++ (colour_text v.rgb ++ line_feed))) ≡ voxel_line v =
    pieces (codes "v ") (decimal v.cell) (codes " ") (colour_text v.rgb) line_feed in
    step ∙ ap (λ (l : List ℕ). now ++ l) line ∙ ap (λ (l : List ℕ). l ++ voxel_line v) is ∙ flat_map_more voxel_line before (take i vs) v
    ∙ ap (λ (l : List VoxelValue). before ++ flat_map voxel_line l) (sym taken)

lines-Leaf : (voxels : Bool) (ps : List PointValue) (path : List ℕ) → lines voxels (Leaf ps) path ≡ leaf_line path (length ps)
lines-Leaf voxels ps path =
    ap (λ t. lines voxels t path) (sym (rolls-Leaf ps)) ∙ ap (λ (f : LinesAt). f path) (fold-roll-Tree LinesAt LinesAt tree_lines (node_lines voxels) (Tree-F.Leaf ps))

-- a leaf's line
pub leaf_written : (r : Result (Unit {0}) AllocError) (old mid new path : List ℕ) (n : ℕ) (ps : List PointValue) (t : Tree) (voxels : Bool) → mid ≡ old ++ path_text path
    → OnOk r (new ≡ mid ++ (codes " leaf " ++ (decimal n ++ line_feed))) → n ≡ length ps → t ≡ Leaf ps → OnOk r (new ≡ old ++ lines voxels t path)
leaf_written r old mid new path n ps t voxels is_mid written is_n is_leaf =
    let P : List ℕ → Type 0 = λ text. OnOk r (new ≡ text) in
    let text : old ++ path_text path ++ (codes " leaf " ++ (decimal n ++ line_feed)) ≡ old ++ leaf_line path n = simp append_assoc in
    let same : mid ++ (codes " leaf " ++ (decimal n ++ line_feed)) ≡ old ++ lines voxels t path =
    ap (λ (l : List ℕ). l ++ (codes " leaf " ++ (decimal n ++ line_feed))) is_mid ∙ text ∙ ap (λ k. old ++ leaf_line path k) is_n
    ∙ ap (λ (l : List ℕ). old ++ l) (sym (lines-Leaf voxels ps path)) ∙ ap (λ u. old ++ lines voxels u path) (sym is_leaf) in
    subst P same written

-- a cube's line, as it is written piece by piece
pub cube_pieces : (c : CubeValue) → codes "cube " ++ (signed_decimal c.ox ++ (codes " " ++ (signed_decimal c.oy ++ (codes " " ++ (signed_decimal c.oz ++ (codes " " ++ (decimal c.bits ++ line_feed))))))) ≡ cube_line c
cube_pieces c = simp append_assoc
