-- The version of no events, and which part of a record its last publication ends.
use Rattle.std.proofs.Common.{◌≡◌, ℕ, ◌+◌, ◌-◌, ◌<◌, Bool, true, false, cond, nat_lt, List, [], ◌∷◌, ◌++◌, map, length, ap, sym, ◌∙◌, refl, arith, inl, length-append}
use Rattle.std.proofs.lemmas.Bool.{lt-ltb}
use Rattle.cube_math.specs.Points.{PointValue}
use Rattle.cube_math.specs.Cubes.{CubeValue}
use Rattle.octree_model.specs.Octree.{octree}
use Rattle.octree_model.specs.Outlines.{OutlineAt, outline, outline_at, tree_outline, node_outline}
use Rattle.octree_model.specs.declared.tree.Tree.TheFolds.{fold-roll-Tree}
use Rattle.octree_model.specs.declared.tree.Tree.TheOpen.{Tree-F}
use Rattle.octree_model.specs.declared.tree.Tree.TheVariants.{Leaf, rolls-Leaf}
use Rattle.octree_model.proofs.OctreeLaws.{leaf_by_count}
use Rattle.record_model.specs.Records.{Record, journal}
use Rattle.cube_math.specs.declared.config.Config.{Config}
use Rattle.record_model.specs.declared.event.Event.{Event}
use Rattle.record_model.specs.declared.event.Event.TheVariants.{Admission, Look, Publication}
use Rattle.record_model.proofs.RecordLaws.{length-journal}
use Rattle.version_rows.specs.Journals.{AreBatchesOf, IsVersionOf, facts_of_node, facts_of_nodes, has_publication, up_to_publication}
use Rattle.version_rows.specs.Versions.{ChainsValue, Leaf as LeafRole}

outline_at-Leaf : (ps : List PointValue) (path : List ℕ) (cube : CubeValue) → outline_at (Leaf ps) path cube ≡ record { path = path; cube = cube; inner = false } ∷ []
outline_at-Leaf ps path cube = ap (λ (o : OutlineAt). o path cube) (ap outline_at (sym (rolls-Leaf ps)) ∙ fold-roll-Tree OutlineAt OutlineAt tree_outline node_outline (Tree-F.Leaf ps))

-- the octree of no points is a leaf
outline_of_none : (config : Config) → outline (octree config.leaf config.cube []) config.cube ≡ record { path = []; cube = config.cube; inner = false } ∷ []
outline_of_none config =
    ap (λ t. outline t config.cube) (sym (leaf_by_count config.leaf (config.cube.bits - 7) config.cube [] (λ k d low. absurd (omega arith)) (inl (omega arith)))) ∙ outline_at-Leaf [] [] config.cube

pub opening : (config : Config) (chains : ChainsValue)
    → IsVersionOf config [] record { cube = config.cube; nodes = record { path = []; cube = config.cube; count = 0; admitted = 0; role = LeafRole chains } ∷ []; batches = [] }
opening config chains = record {
  cube = refl;
  nodes = sym (ap (map (facts_of_node [])) (outline_of_none config));
  batches = record {
    entries = refl;
    numbers = refl;
    within = λ k d low. absurd (omega arith);
    admitted = λ k d low. absurd (omega arith);
    apart = λ i j d low high. absurd (omega arith);
  };
}

-- whether something is published in a record that goes on
published_in : (events more : Record) → has_publication (events ++ more) ≡ nat_lt 0 (length (journal events) + length (journal more))
published_in events more = ap (nat_lt 0) (length-journal events more)

-- a record whose last event is a publication has one from each of its events on
pub ends_there : (events : Record) (input loader : ℕ) (points : List PointValue) → up_to_publication (events ++ (Publication input points, loader) ∷ []) ≡ events ++ (Publication input points, loader) ∷ []
ends_there [] input loader points = refl
ends_there (e ∷ events) input loader points =
    ap (λ b. cond b (e ∷ up_to_publication (events ++ (Publication input points, loader) ∷ [])) []) (published_in (e ∷ events) ((Publication input points, loader) ∷ []) ∙ lt-ltb 0 _ (some (length (journal (e ∷ events)))))
    ∙ ap (λ (l : Record). e ∷ l) (ends_there events input loader points)
  where
    some : (n : ℕ) → 0 < n + 1
    some n = omega arith

-- an event that is no publication changes nothing of it
pub ends_before : (events : Record) (more : Record) → journal more ≡ [] → up_to_publication more ≡ [] → up_to_publication (events ++ more) ≡ up_to_publication events
ends_before [] more none nothing = nothing
ends_before (e ∷ events) more none nothing =
    ap (λ b. cond b (e ∷ up_to_publication (events ++ more)) []) (published_in (e ∷ events) more ∙ ap (nat_lt 0) (same (length (journal (e ∷ events))) (length (journal more)) (ap length none)))
    ∙ ap (λ (l : Record). cond (has_publication (e ∷ events)) (e ∷ l) []) (ends_before events more none nothing)
  where
    same : (a b : ℕ) → b ≡ 0 → a + b ≡ a
    same a b z = omega arith
