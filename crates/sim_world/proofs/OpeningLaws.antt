-- The opening world: nobody has a seat, and its version is that of no points.
use Rattle.std.proofs.Common.{◌≡◌, ℕ, zero, suc, ◌-◌, false, not, [], ◌∷◌, map, replicate, refl, sym, ap, ◌∙◌, arith}
use Rattle.std.specs.Prelude.{Some, filter}
use Rattle.std.proofs.lemmas.Option.{none-some, same_Some}
use Rattle.std.proofs.lemmas.Bool.{le-leb}
use Rattle.cube_math.specs.Cubes.{CubeValue}
use Rattle.octree_model.specs.Numbers.{up_to}
use Rattle.octree_model.specs.Octree.{octree_at}
use Rattle.octree_model.specs.Outlines.{OutlineAt, outline}
use Rattle.octree_model.specs.declared.outline.OutlineNode.{OutlineNode}
use Rattle.octree_model.specs.declared.tree.Tree.{Tree}
use Rattle.octree_model.specs.declared.tree.Tree.TheVariants.{Leaf as LeafTree}
use Rattle.list_machine.specs.declared.views.Leaf.{Leaf}
use Rattle.list_machine.specs.declared.views.Stage.TheVariants.{Open}
use Rattle.list_machine.specs.Facts.{IsAt}
use Rattle.list_machine.specs.Steps.{opening_leaf}
use Rattle.list_machine.proofs.Lists.{at_both}
use Rattle.list_machine.proofs.Openings.{opening_sound}
use Rattle.camera_cut.proofs.CutLaws.{outline_at-Leaf}
use Rattle.sim_world.proofs.Members.{in_map_at}
use Rattle.sim_world.proofs.SeatLaws.{seat_of}
use Rattle.sim_world.proofs.ViewerLaws.{AreViewed, look_in, same_place}
use Rattle.octree_model.specs.Leaves.{leaves}
use Rattle.sim_world.specs.Jobs.{JobValue, batches_of}
use Rattle.sim_world.specs.Stores.{IsStored}
use Rattle.sim_world.specs.Worlds.{Actor, admits, loader, looks, opening_world, viewer}

empty_octree : (leaf depth : ℕ) (c : CubeValue) → octree_at leaf depth c [] ≡ LeafTree []
unfolding octree_at
empty_octree leaf zero c = refl
empty_octree leaf (suc depth) c = rw (le-leb 0 leaf (omega arith)) refl

one_node : (leaf : ℕ) (c : CubeValue) → leaves leaf c [] ≡ record { path = []; cube = c; inner = false } ∷ []
one_node leaf c = ap (λ (t : Tree). filter (λ (n : OutlineNode). not n.inner) (outline t c)) (empty_octree leaf (c.bits - 7) c)
    ∙ ap (λ (f : OutlineAt). filter (λ (n : OutlineNode). not n.inner) (f [] c)) (outline_at-Leaf [])

-- nothing was done with any list
untouched : (n l : ℕ) (a : Leaf) → IsAt (replicate n opening_leaf) l a → a.stage ≡ Open
untouched zero l a at = absurd (none-some a at)
untouched (suc n) zero a at = ap (λ (e : Leaf). e.stage) (sym (same_Some opening_leaf a at))
untouched (suc n) (suc l) a at = untouched n l a at

pub stored : (job : JobValue) → IsStored job (opening_world job)
stored job = record {
  sound = opening_sound job.config.nodes;
  current = λ free. record {
    version = record { nodes = sym (one_node job.config.leaf job.config.cube); small = λ x p item. absurd (none-some (x, p) item.1) };
    whole = refl;
    opened = λ r a leaf at. untouched job.config.nodes r.list a at;
    covers = λ x p r item leaf lies. absurd (none-some (x, p) item.1);
  };
}

-- an actor at the start
at_start : (job : JobValue) (b : ℕ) (x : Actor) (F : Type 0) → IsAt (opening_world job).actors b x
    → ((k : ℕ) → loader (batches_of job k) admits ≡ x → F) → (viewer 1 looks ≡ x → F) → F
at_start job b x F at load view =
    at_both (map (λ k. loader (batches_of job k) admits) (up_to job.loaders)) (map (λ k. viewer 1 looks) (up_to job.viewers)) b x F at
    (λ i p. let t = in_map_at (λ k. loader (batches_of job k) admits) (up_to job.loaders) i x p in load t.0 t.2)
    (λ i p. let t = in_map_at (λ (k : ℕ). viewer 1 looks) (up_to job.viewers) i x p in view t.2)

no_seat : (job : JobValue) (b : ℕ) (x : Actor) (j : ℕ) → IsAt (opening_world job).actors b x → seat_of x ≡ Some j → ⊥
no_seat job b x j at seat = at_start job b x ⊥ at (λ k is. none-some j (ap seat_of is ∙ seat)) (λ is. none-some j (ap seat_of is ∙ seat))

pub viewed : (job : JobValue) → AreViewed job (opening_world job)
viewed job = record {
  looking =
      λ b n place v at e. at_start job b (viewer n place) _ at (λ k is. absurd (cc))
      (λ is. absurd (none-some v (ap look_in (same_place 1 n looks place is) ∙ e)));
  shown = λ i x at. absurd (none-some x at);
  apart = λ b c x y j p q e e'. absurd (no_seat job b x j p e);
  below = λ b x j p e. absurd (no_seat job b x j p e);
}
