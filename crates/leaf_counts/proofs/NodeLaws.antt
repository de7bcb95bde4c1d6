-- What a leaf and an inner node are, and the nodes below them.
pub use Rattle.cube_math.proofs.Ways.{next_of}
use Rattle.std.proofs.Common.{◌≡◌, ℕ, ◌+◌, List, map, sum, ap, ◌∙◌, sym}
use Rattle.leaf_counts.specs.declared.counts.Counts.{Counts, out-Counts, out-roll-Counts}
use Rattle.leaf_counts.specs.declared.counts.Counts.TheOpen.{Counts-F}
use Rattle.leaf_counts.specs.declared.counts.Counts.TheFolds.{fold-roll-Counts}
use Rattle.leaf_counts.specs.declared.counts.Counts.TheVariants.{Leaf, Inner, rolls-Leaf, rolls-Inner}
use Rattle.leaf_counts.specs.Nodes.{NodesAt, layer_nodes, node_at, node_total, layer_total}

pub out-Leaf : (n : ℕ) → out-Counts (Leaf n) ≡ Counts-F.Leaf n
out-Leaf n = ap out-Counts (sym (rolls-Leaf n)) ∙ out-roll-Counts (Counts-F.Leaf n)

pub out-Inner : (n : ℕ) (ts : List Counts) → out-Counts (Inner n ts) ≡ Counts-F.Inner n ts
out-Inner n ts = ap out-Counts (sym (rolls-Inner n ts)) ∙ out-roll-Counts (Counts-F.Inner n ts)

-- an inner node is no leaf, and has one count and one list of children
pub no_leaf : (n : ℕ) (ts : List Counts) (m : ℕ) → Inner n ts ≡ Leaf m → ⊥
no_leaf n ts m e = let same : Counts-F.Inner n ts ≡ Counts-F.Leaf m = sym (out-Inner n ts) ∙ ap out-Counts e ∙ out-Leaf m in cc

pub same_leaf : (n m : ℕ) → Leaf n ≡ Leaf m → n ≡ m
same_leaf n m e = let same : out-Counts (Leaf n) ≡ Counts-F.Leaf m = ap out-Counts e ∙ out-Leaf m in let first : out-Counts (Leaf n) ≡ Counts-F.Leaf n = out-Leaf n in cc

pub same_inner : (n m : ℕ) (ts us : List Counts) → Inner n ts ≡ Inner m us → (n ≡ m) × (ts ≡ us)
same_inner n m ts us e = let same : Counts-F.Inner n ts ≡ Counts-F.Inner m us = sym (out-Inner n ts) ∙ ap out-Counts e ∙ out-Inner m us in (cc, cc)

pub node_at-Leaf : (n : ℕ) → node_at (Leaf n) ≡ layer_nodes (Counts-F.Leaf n)
node_at-Leaf n = ap node_at (sym (rolls-Leaf n)) ∙ fold-roll-Counts NodesAt layer_nodes (Counts-F.Leaf n)

pub node_at-Inner : (n : ℕ) (ts : List Counts) → node_at (Inner n ts) ≡ layer_nodes (Counts-F.Inner n (map node_at ts))
node_at-Inner n ts = ap node_at (sym (rolls-Inner n ts)) ∙ fold-roll-Counts NodesAt layer_nodes (Counts-F.Inner n ts)

pub total-Leaf : (n : ℕ) → node_total (Leaf n) ≡ 1
total-Leaf n = ap node_total (sym (rolls-Leaf n)) ∙ fold-roll-Counts ℕ layer_total (Counts-F.Leaf n)

pub total-Inner : (n : ℕ) (ts : List Counts) → node_total (Inner n ts) ≡ 1 + sum (map node_total ts)
total-Inner n ts = ap node_total (sym (rolls-Inner n ts)) ∙ fold-roll-Counts ℕ layer_total (Counts-F.Inner n ts)
