-- What a reader has still before it: points, or nodes.
use Rattle.std.proofs.Common.{◌≡◌, ℕ, zero, suc, ◌+◌, ◌*◌, ◌/◌, ◌-◌, ◌^◌, ◌<◌, ◌≤◌, ◌≢◌, Bool, true, IsTrue, List, [], ◌∷◌, ◌++◌, length, drop, get_or, flat_map, ap, ◌∙◌, sym, refl, arith, append_assoc, length-append}
use Rattle.std.specs.List.{All, AllByRecursion}
use Rattle.std.proofs.lemmas.List.{drop-drop, drop_at, append-nil, length-drop}
use Rattle.std.proofs.lemmas.List.Elements.{recursion_from_All, All-from_recursion}
use Rattle.cube_math.specs.Points.{PointValue}
use Rattle.octree_model.specs.Voxels.{VoxelValue}
use Rattle.octree_file.specs.Order.{IsPoint}
use Rattle.octree_file.specs.Spelling.{point_bytes, u32_bytes, voxel_bytes}
use Rattle.octree_reader.specs.Heads.{u32_at}
use Rattle.octree_reader.specs.Nodes.{FileNode, LeafOf, InnerOf, IsNode, node_bytes, node_points}
use Rattle.octree_reader.proofs.FieldLaws.{number_back}

-- ---- points
-- behind k of so many points, the points that are left stand in the bytes
pub record PointsLeft (bytes : List ℕ) (k count : ℕ) (points all : List PointValue) (rest : List ℕ) : Type 0 where
  pub left : List PointValue
  pub each : AllByRecursion IsPoint left
  pub long : k + length left ≡ count
  pub at : drop (16 * k) bytes ≡ flat_map point_bytes left ++ rest
  pub found : points ++ left ≡ all

pub all_left : (bytes : List ℕ) (count : ℕ) (old more : List PointValue) (rest : List ℕ) → All IsPoint more → length more ≡ count
    → bytes ≡ flat_map point_bytes more ++ rest → PointsLeft bytes 0 count old (old ++ more) rest
all_left bytes count old more rest each long is = record {
  left = more;
  each = recursion_from_All IsPoint more each;
  long = omega arith;
  at = is;
  found = refl;
}

-- the next point, and what is left behind it
pub record NextPoint (bytes : List ℕ) (k count : ℕ) (points all : List PointValue) (rest : List ℕ) : Type 0 where
  pub point : PointValue
  pub is : IsPoint point
  pub behind : List ℕ
  pub at : drop (16 * k) bytes ≡ point_bytes point ++ behind
  pub then : PointsLeft bytes (k + 1) count (points ++ point ∷ []) all rest

pub next_point : (bytes : List ℕ) (k count : ℕ) (points all : List PointValue) (rest : List ℕ) → PointsLeft bytes k count points all rest → k < count
    → NextPoint bytes k count points all rest
next_point bytes k count points all rest l more = one l.left l.each l.long l.at l.found
  where
    one : (left : List PointValue) → AllByRecursion IsPoint left → k + length left ≡ count → drop (16 * k) bytes ≡ flat_map point_bytes left ++ rest
        → points ++ left ≡ all → NextPoint bytes k count points all rest
    one [] each long at found = absurd (omega arith)
    one (p ∷ ps) each long at found =
        let place : 16 * (k + 1) ≡ 16 * k + 16 = omega arith in
        record {
          point = p;
          is = each.0;
          behind = flat_map point_bytes ps ++ rest;
          at = at;
          then = record {
            left = ps;
            each = each.1;
            long = omega arith;
            at = ap (λ n. drop n bytes) place ∙ sym (drop-drop 16 (16 * k) bytes) ∙ ap (drop 16) at;
            found = append_assoc points (p ∷ []) ps ∙ found;
          };
        }

pub no_point_left : (bytes : List ℕ) (k count : ℕ) (points all : List PointValue) (rest : List ℕ) → PointsLeft bytes k count points all rest
    → count ≤ k → points ≡ all
no_point_left bytes k count points all rest l none = one l.left l.long l.found
  where
    one : (left : List PointValue) → k + length left ≡ count → points ++ left ≡ all → points ≡ all
    one [] long found = sym (append-nil points) ∙ found
    one (p ∷ ps) long found = absurd (omega arith)

-- ---- nodes
-- the nodes that are left stand in the bytes from a place on
pub record NodesLeft (bytes : List ℕ) (place : ℕ) (points all : List PointValue) : Type 0 where
  pub left : List FileNode
  pub each : AllByRecursion IsNode left
  pub at : drop place bytes ≡ flat_map node_bytes left
  pub found : points ++ flat_map node_points left ≡ all

pub record NextNode (bytes : List ℕ) (place : ℕ) (points all : List PointValue) : Type 0 where
  pub node : FileNode
  pub is : IsNode node
  pub behind : List ℕ
  pub at : drop place bytes ≡ node_bytes node ++ behind
  pub then : (taken : ℕ) (after : List PointValue) → taken ≡ length (node_bytes node) → after ≡ points ++ node_points node
      → NodesLeft bytes (place + taken) after all

pub next_node : (bytes : List ℕ) (place : ℕ) (points all : List PointValue) → NodesLeft bytes place points all → place < length bytes
    → NextNode bytes place points all
next_node bytes place points all l more = one l.left l.each l.at l.found
  where
    one : (left : List FileNode) → AllByRecursion IsNode left → drop place bytes ≡ flat_map node_bytes left → points ++ flat_map node_points left ≡ all
        → NextNode bytes place points all
    one [] each at found = absurd (omega (arith, ap length at, length-drop place bytes))
    one (n ∷ ns) each at found = record {
      node = n;
      is = each.0;
      behind = flat_map node_bytes ns;
      at = at;
      then = λ taken after long is. record {
        left = ns;
        each = each.1;
        at = sym (drop-drop taken place bytes) ∙ ap (drop taken) at ∙ drop_at (node_bytes n) (flat_map node_bytes ns) taken (sym long);
        found = ap (λ (ps : List PointValue). ps ++ flat_map node_points ns) is ∙ append_assoc points (node_points n) (flat_map node_points ns) ∙ found;
      };
    }

pub no_node_left : (bytes : List ℕ) (place : ℕ) (points all : List PointValue) → NodesLeft bytes place points all → length bytes ≤ place → points ≡ all
no_node_left bytes place points all l none = one l.left l.at l.found
  where
    one : (left : List FileNode) → drop place bytes ≡ flat_map node_bytes left → points ++ flat_map node_points left ≡ all → points ≡ all
    one [] at found = sym (append-nil points) ∙ found
    one (LeafOf ps ∷ ns) at found = absurd (omega (arith, ap length at, length-drop place bytes))
    one (InnerOf vs ∷ ns) at found = absurd (omega (arith, ap length at, length-drop place bytes))

-- ---- one node
-- a node of this kind, with so many items of this size, stands first
pub record StandsFirst (bytes : List ℕ) (kind size count : ℕ) (items rest : List ℕ) : Type 0 where
  pub first : get_or bytes 0 0 ≡ kind
  pub counted : u32_at bytes 1 ≡ count
  pub behind : drop 5 bytes ≡ items ++ rest
  pub long : length bytes ≡ 5 + size * count + length rest

point_sizes : (ps : List PointValue) → length (flat_map point_bytes ps) ≡ 16 * length ps
point_sizes [] = refl
point_sizes (p ∷ ps) = let rest : length (flat_map point_bytes ps) ≡ 16 * length ps = point_sizes ps in omega arith

voxel_sizes : (vs : List VoxelValue) → length (flat_map voxel_bytes vs) ≡ 8 * length vs
voxel_sizes [] = refl
voxel_sizes (v ∷ vs) = let rest : length (flat_map voxel_bytes vs) ≡ 8 * length vs = voxel_sizes vs in omega arith

pub leaf_first : (bytes : List ℕ) (ps : List PointValue) (rest : List ℕ) → length ps < 2 ^ 32 → bytes ≡ node_bytes (LeafOf ps) ++ rest
    → StandsFirst bytes 0 16 (length ps) (flat_map point_bytes ps) rest
leaf_first bytes ps rest few is = record {
  first = ap (λ (b : List ℕ). get_or b 0 0) is;
  counted = ap (λ (b : List ℕ). u32_at b 1) is ∙ number_back (length ps) few;
  behind = ap (drop 5) is;
  long = omega (arith, ap length is, length-append (flat_map point_bytes ps) rest, point_sizes ps);
}

pub inner_first : (bytes : List ℕ) (vs : List VoxelValue) (rest : List ℕ) → length vs < 2 ^ 32 → bytes ≡ node_bytes (InnerOf vs) ++ rest
    → StandsFirst bytes 1 8 (length vs) (flat_map voxel_bytes vs) rest
inner_first bytes vs rest few is = record {
  first = ap (λ (b : List ℕ). get_or b 0 0) is;
  counted = ap (λ (b : List ℕ). u32_at b 1) is ∙ number_back (length vs) few;
  behind = ap (drop 5) is;
  long = omega (arith, ap length is, length-append (flat_map voxel_bytes vs) rest, voxel_sizes vs);
}

pub leaf_size : (ps : List PointValue) → length (node_bytes (LeafOf ps)) ≡ 5 + 16 * length ps
leaf_size ps = omega (arith, point_sizes ps)

pub inner_size : (vs : List VoxelValue) → length (node_bytes (InnerOf vs)) ≡ 5 + 8 * length vs
inner_size vs = omega (arith, voxel_sizes vs)

-- what is read of a first node: an inner node
pub inner_read : (bytes : List ℕ) (count : ℕ) (points : List PointValue) (node : FileNode) (rest : List ℕ) → get_or bytes 0 0 ≡ 1 → count ≡ u32_at bytes 1
    → IsNode node → bytes ≡ node_bytes node ++ rest → (5 + 8 * count ≡ length (node_bytes node)) × (points ≡ points ++ node_points node)
inner_read bytes count points (LeafOf ps) rest first counted is e = absurd (omega (arith, (leaf_first bytes ps rest is.1 e).first))
inner_read bytes count points (InnerOf vs) rest first counted is e =
    (omega (arith, (inner_first bytes vs rest is e).counted, inner_size vs), sym (append-nil points))

-- a leaf, of whose points is told what becomes of them
pub leaf_read : (bytes : List ℕ) (count : ℕ) (points after : List PointValue) (done : Bool) (node : FileNode) (rest : List ℕ)
    → get_or bytes 0 0 ≡ 0 → count ≡ u32_at bytes 1
    → ((more : List PointValue) (behind : List ℕ) → All IsPoint more → length more ≡ count → drop 5 bytes ≡ flat_map point_bytes more ++ behind
    → IsTrue done × (after ≡ points ++ more))
    → IsNode node → bytes ≡ node_bytes node ++ rest → IsTrue done × (5 + 16 * count ≡ length (node_bytes node)) × (after ≡ points ++ node_points node)
leaf_read bytes count points after done (LeafOf ps) rest first counted pushed is e =
    let l : StandsFirst bytes 0 16 (length ps) (flat_map point_bytes ps) rest = leaf_first bytes ps rest is.1 e in
    let told : IsTrue done × (after ≡ points ++ ps) = pushed ps rest is.0 (sym l.counted ∙ sym counted) l.behind in
    (told.0, omega (arith, l.counted, leaf_size ps), told.1)
leaf_read bytes count points after done (InnerOf vs) rest first counted pushed is e = absurd (omega (arith, (inner_first bytes vs rest is e).first))

-- no node stands where there is no room for one
pub no_node : (bytes : List ℕ) (count : ℕ) (node : FileNode) (rest : List ℕ) → count ≡ u32_at bytes 1
    → (get_or bytes 0 0 ≡ 1 → (length bytes - 5) / 8 < count) → (get_or bytes 0 0 ≡ 0 → (length bytes - 5) / 16 < count)
    → IsNode node → bytes ≡ node_bytes node ++ rest → ⊥
no_node bytes count (LeafOf ps) rest counted inner leaf is e =
    let l : StandsFirst bytes 0 16 (length ps) (flat_map point_bytes ps) rest = leaf_first bytes ps rest is.1 e in
    let small : (length bytes - 5) / 16 < count = leaf l.first in
    omega (arith, l.counted, l.long)
no_node bytes count (InnerOf vs) rest counted inner leaf is e =
    let l : StandsFirst bytes 1 8 (length vs) (flat_map voxel_bytes vs) rest = inner_first bytes vs rest is e in
    let small : (length bytes - 5) / 8 < count = inner l.first in
    omega (arith, l.counted, l.long)
