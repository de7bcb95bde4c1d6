-- Nodes in path order.
use Rattle.std.proofs.Common.{◌≡◌, Bool, true, false, cond, List, [], ◌∷◌, ◌++◌, refl}
use Rattle.std.specs.List.{AllByRecursion, filter}
use Rattle.picture_model.specs.Cuts.{is_before, in_path_order}
use Rattle.octree_model.specs.declared.outline.OutlineNode.{OutlineNode}
use Rattle.camera_cut.proofs.Lists.{each-append, each-filter, all_from_each}

-- each node's path stands before the paths of all later nodes
abbrev pub Ordered : List OutlineNode → Type 0
Ordered [] = Unit {0}
Ordered (n ∷ ns) = AllByRecursion (λ (m : OutlineNode). is_before n.path m.path ≡ true) ns × Ordered ns

pub ordered-append : (xs ys : List OutlineNode) → Ordered xs → Ordered ys → AllByRecursion (λ (n : OutlineNode). AllByRecursion (λ (m : OutlineNode). is_before n.path m.path ≡ true) ys) xs → Ordered (xs ++ ys)
ordered-append [] ys p q r = q
ordered-append (x ∷ xs) ys p q r = (each-append (λ (m : OutlineNode). is_before x.path m.path ≡ true) xs ys p.0 r.0, ordered-append xs ys p.1 q r.1)

ordered_kept : (b : Bool) (n : OutlineNode) (ns : List OutlineNode) → Ordered (n ∷ ns) → Ordered (cond b (n ∷ ns) ns)
ordered_kept true n ns h = h
ordered_kept false n ns h = h.1

pub ordered-filter : (f : OutlineNode → Bool) (ns : List OutlineNode) → Ordered ns → Ordered (filter f ns)
ordered-filter f [] h = tt
ordered-filter f (n ∷ ns) h =
    ordered_kept (f n) n (filter f ns) (each-filter (λ (m : OutlineNode). is_before n.path m.path ≡ true) f ns h.0, ordered-filter f ns h.1)

pub in_order : (ns : List OutlineNode) → Ordered ns → in_path_order ns ≡ true
in_order [] h = refl
in_order (n ∷ ns) h = rw (all_from_each (λ (m : OutlineNode). is_before n.path m.path) ns h.0, in_order ns h.1) refl
