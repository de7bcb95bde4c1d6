-- Once all slots are read, a frame has the items of its version's octree.
use Rattle.std.proofs.Common.{◌≡◌, ℕ, zero, suc, ◌<◌, Bool, true, false, cond, not, ◌&&◌, List, [], ◌∷◌, ◌++◌, map, refl, ap, ◌∙◌, sym, subst, append-nil}
use Rattle.std.specs.Prelude.{filter}
use Rattle.cube_math.specs.Points.{PointValue}
use Rattle.cube_math.specs.Cubes.{CubeValue, contains}
use Rattle.octree_model.specs.Numbers.{has, up_to}
use Rattle.octree_model.specs.Octree.{inside, octree}
use Rattle.octree_model.specs.Outlines.{outline}
use Rattle.octree_model.specs.declared.outline.OutlineNode.{OutlineNode}
use Rattle.picture_model.specs.Cuts.{in_cut}
use Rattle.picture_model.specs.Items.{items, point_item}
use Rattle.list_machine.proofs.Lists.{at_filter}
use Rattle.list_machine.specs.declared.views.Guest.{Guest}
use Rattle.sim_world.proofs.Members.{in_map, in_map_back, in_flat_map, in_filter, in_up_to, flat_map_same}
use Rattle.sim_world.proofs.LookLaws.{Found, IsLooking}
use Rattle.camera_cut.specs.Showings.{shown_by}
use Rattle.camera_cut.proofs.ShowingLaws.{items_of_cut}
use Rattle.octree_model.specs.Leaves.{leaves}
use Rattle.sim_world.specs.Frames.{chunk_slots, cut_in, frame_items, is_shown, node_items, row_slots, slots_due}
use Rattle.sim_world.specs.Jobs.{JobValue}
use Rattle.sim_world.specs.Stores.{IsVersion, Covers, IsIn}
use Rattle.sim_world.specs.Versions.{LeafRow, WorldVersion, chunks_of, found_points, leaf_node, points_in, published_items}
use Rattle.sim_world.specs.Worlds.{Look, Slot}

-- points of which all items were found
all_found : (c : CubeValue) (found : List ℕ) (xs : List (ℕ × PointValue))
    → ((x : ℕ) (p : PointValue) → IsIn xs (x, p) → contains c p ≡ true → has x found ≡ true)
    → found_points c xs found ≡ inside c (map (λ (x : ℕ × PointValue). x.1) xs)
all_found c found [] all = refl
all_found c found ((x, p) ∷ xs) all = by (contains c p) refl (all_found c found xs (λ y q r. all y q (suc r.0, r.1))) where
  by : (b : Bool) → contains c p ≡ b → found_points c xs found ≡ inside c (map (λ (x : ℕ × PointValue). x.1) xs)
      → map (λ (x : ℕ × PointValue). x.1)
      (cond (b && has x found) ((x, p) ∷ filter (λ (y : ℕ × PointValue). contains c y.1 && has y.0 found) xs)
      (filter (λ (y : ℕ × PointValue). contains c y.1 && has y.0 found) xs))
      ≡ cond b (p ∷ inside c (map (λ (x : ℕ × PointValue). x.1) xs)) (inside c (map (λ (x : ℕ × PointValue). x.1) xs))
  by true e rest = rw (all x p (zero, refl) e) (ap (λ (ps : List PointValue). p ∷ ps) rest)
  by false e rest = rest

-- a slot of a chunk of a shown leaf is due
is_due : (job : JobValue) (v : WorldVersion) (r : LeafRow) (c k : ℕ) → IsIn v.leaves r → is_shown job v r ≡ true → IsIn (chunks_of r) c → k < 256
    → IsIn (slots_due job v) record { chunk = c; place = k }
is_due job v r c k leaf shown chunk lt =
    let d : Slot = record { chunk = c; place = k } in
    let one : IsIn (chunk_slots c) d = in_map (λ (i : ℕ). record { chunk = c; place = i }) (up_to 256) k (in_up_to 256 k lt) in
    in_flat_map row_slots (filter (is_shown job v) v.leaves) r d (in_filter (is_shown job v) v.leaves r leaf shown)
    (in_flat_map chunk_slots (chunks_of r) c d chunk one)

module _ (job : JobValue) (v : Look) (is : IsVersion job v.version) (facts : List _) (covers : Covers v.version facts)
    (found : Found facts (slots_due job v.version) v.found) where
  -- each published item of a shown leaf was found
  item_found : (n : OutlineNode) → IsIn (cut_in job v.version) n → n.inner ≡ false → (x : ℕ) (p : PointValue)
      → IsIn (published_items v.version) (x, p) → contains n.cube p ≡ true → has x v.found ≡ true
  item_found n shown leaf x p item lies =
      let c =
      at_filter (in_cut job.camera (outline (octree job.config.leaf job.config.cube (points_in v.version)) job.config.cube))
      (outline (octree job.config.leaf job.config.cube (points_in v.version)) job.config.cube) shown.0 n shown.1 in
      let among : IsIn (leaves job.config.leaf job.config.cube (points_in v.version)) n =
      in_filter (λ (m : OutlineNode). not m.inner) (outline (octree job.config.leaf job.config.cube (points_in v.version)) job.config.cube) n
      (c.0, c.1) (ap not leaf) in
      let r = in_map_back leaf_node v.version.leaves n (subst (λ (ns : List OutlineNode). IsIn ns n) (sym is.nodes) among) in
      let seen : is_shown job v.version r.0 ≡ true =
      ap (in_cut job.camera (outline (octree job.config.leaf job.config.cube (points_in v.version)) job.config.cube)) r.2 ∙ c.2 in
      let inside : contains r.0.cube p ≡ true = ap (λ (m : OutlineNode). contains m.cube p) r.2 ∙ lies in
      let s = covers x p r.0 item r.1 inside in
      found r.0.list s.0 s.1 x (is.small x p item) s.2 (is_due job v.version r.0 s.0 s.1 r.1 seen s.3 s.4)

  pub all_items : frame_items job v ≡ items job.camera (octree job.config.leaf job.config.cube (points_in v.version)) job.config.cube
  all_items =
      flat_map_same (node_items v.version v.found) (shown_by (points_in v.version)) (cut_in job v.version) (λ n shown. by n shown n.inner refl)
      ∙ sym (items_of_cut job.camera job.config.leaf job.config.cube (points_in v.version)) where
        by : (n : OutlineNode) → IsIn (cut_in job v.version) n → (b : Bool) → n.inner ≡ b → node_items v.version v.found n ≡ shown_by (points_in v.version) n
        by n shown true e = rw e refl
        by n shown false e = rw e (ap (map point_item) (all_found n.cube v.found (published_items v.version) (item_found n shown e)))

-- a frame with nothing left to be read has the items of its version
pub finished_items : (job : JobValue) (guests : List Guest) (v : Look) → IsVersion job v.version → IsLooking job guests v → v.todo ≡ []
    → frame_items job v ≡ items job.camera (octree job.config.leaf job.config.cube (points_in v.version)) job.config.cube
finished_items job guests v is look done =
    let all : look.past ≡ slots_due job v.version = sym (append-nil look.past) ∙ (ap (λ (t : List Slot). look.past ++ t) (sym done) ∙ look.slots) in
    all_items job v is look.guest.facts look.covers (subst (λ (past : List Slot). Found look.guest.facts past v.found) all look.found)
