-- A version stays the record's until a publication.
use Rattle.std.proofs.Common.{◌≡◌, ℕ, ◌+◌, ◌≤◌, List, [], ◌∷◌, ◌++◌, All, map, take, drop, length, ap, sym, ◌∙◌, refl, arith, append_assoc, length-append}
use Rattle.std.proofs.lemmas.List.{append-nil, drop-append-le, take-append-le, length-map, length-drop}
use Rattle.std.proofs.lemmas.List.Elements.{All-head, All-tail}
use Rattle.cube_math.specs.Points.{PointValue}
use Rattle.octree_model.specs.Octree.{inside, octree}
use Rattle.octree_model.specs.Outlines.{outline}
use Rattle.octree_model.specs.declared.outline.OutlineNode.{OutlineNode}
use Rattle.record_model.specs.Admissions.{admitted_points}
use Rattle.record_model.specs.Records.{Record, JournalEntry, journal, published, flat}
use Rattle.record_model.specs.declared.event.Event.{Event}
use Rattle.record_model.specs.declared.event.Event.TheVariants.{Admission, Publication}
use Rattle.record_model.proofs.RecordLaws.{journal-append, length-journal}
use Rattle.cube_math.specs.declared.config.Config.{Config}
use Rattle.version_rows.specs.Journals.{AreBatchesOf, HasAdmission, IsVersionOf, entry_of_row, facts_of_node, facts_of_nodes, up_to_publication}
use Rattle.version_rows.specs.Versions.{BatchRowValue, VersionValue}
use Rattle.version_rows.proofs.VersionLaws.{ends_before}

-- the points of a part of a list stay where the list goes on
part_stays : (first len : ℕ) (ps qs : List PointValue) → first + len ≤ length ps → take len (drop first (ps ++ qs)) ≡ take len (drop first ps)
part_stays first len ps qs low =
    ap (take len) (drop-append-le first ps qs (omega arith)) ∙ take-append-le len (drop first ps) qs (omega (arith, length-drop first ps))

-- functions that agree on each element give the same list
pub same_map : {X Y : Type 0} (P : X → Type 0) (f g : X → Y) (xs : List X) → All P xs → ((x : X) → P x → f x ≡ g x) → map f xs ≡ map g xs
same_map P f g [] all same = refl
same_map P f g (x ∷ xs) all same = (λ i. same x (All-head P x xs all) i ∷ same_map P f g xs (All-tail P x xs all) same i)

-- an admission stays one
admission_stays : (events : Record) (e : Event × ℕ) (r : BatchRowValue) → HasAdmission events r → HasAdmission (events ++ e ∷ []) r
admission_stays events e r a = record {
  before = a.before;
  points = a.points;
  behind = a.behind ++ e ∷ [];
  is = sym (append_assoc a.before ((Admission r.input a.points, r.loader) ∷ a.behind) (e ∷ [])) ∙ ap (λ (l : Record). l ++ e ∷ []) a.is;
  first = a.first;
  len = a.len;
}

pub each_stays : (events : Record) (e : Event × ℕ) (rows : List BatchRowValue) → All (HasAdmission events) rows → All (HasAdmission (events ++ e ∷ [])) rows
each_stays events e rows all = λ k d low. admission_stays events e _ (all k d low)

-- the rows of batches are those of the record behind an event that publishes nothing
pub batches_stay : (events : Record) (rows : List BatchRowValue) (e : Event × ℕ) (more : List PointValue)
    → journal (e ∷ []) ≡ [] → admitted_points (events ++ e ∷ []) ≡ admitted_points events ++ more → AreBatchesOf events rows
    → AreBatchesOf (events ++ e ∷ []) rows
batches_stay events rows e more none items are =
    let after : Record = events ++ e ∷ [] in
    let entries : journal after ≡ journal events =
    journal-append events (e ∷ []) ∙ ap (λ (l : List JournalEntry). journal events ++ l) none ∙ append-nil (journal events) in
    let same : map (entry_of_row after) rows ≡ map (entry_of_row events) rows =
    same_map (λ (r : BatchRowValue). r.first + r.len ≤ length (admitted_points events)) (entry_of_row after) (entry_of_row events) rows are.within
    (λ r low. ap (λ (ps : List PointValue). record { input = r.input; loader = r.loader; points = ps })
    (ap (λ (ps : List PointValue). take r.len (drop r.first ps)) items ∙ part_stays r.first r.len (admitted_points events) more low)) in
    record {
      entries = same ∙ are.entries ∙ sym entries;
      numbers = are.numbers;
      within = λ k d low. further (length more) (are.within k d low) (ap length items ∙ length-append (admitted_points events) more);
      admitted = each_stays events e rows are.admitted;
      apart = are.apart;
    }
  where
    further : {a n l : ℕ} (m : ℕ) → a ≤ n → l ≡ n + m → a ≤ l
    further m low e = omega arith

-- an event that publishes nothing changes no version
pub stays : (config : Config) (events : Record) (v : VersionValue) (e : Event × ℕ) (more : List PointValue)
    → journal (e ∷ []) ≡ [] → up_to_publication (e ∷ []) ≡ [] → admitted_points (events ++ e ∷ []) ≡ admitted_points events ++ more
    → IsVersionOf config events v → IsVersionOf config (events ++ e ∷ []) v
stays config events v e more none nothing items is =
    let after : Record = events ++ e ∷ [] in
    let entries : journal after ≡ journal events =
    journal-append events (e ∷ []) ∙ ap (λ (l : List JournalEntry). journal events ++ l) none ∙ append-nil (journal events) in
    let points : published after ≡ published events = ap flat entries in
    let until : up_to_publication after ≡ up_to_publication events = ends_before events (e ∷ []) none nothing in
    record {
      cube = is.cube;
      nodes = is.nodes ∙ sym (nodes_stay config events after points until);
      batches = batches_stay events v.batches e more none items is.batches;
    }
  where
    nodes_stay : (config : Config) (events after : Record) → published after ≡ published events → up_to_publication after ≡ up_to_publication events
        → facts_of_nodes config after ≡ facts_of_nodes config events
    nodes_stay config events after points until = (λ i. map (λ (n : OutlineNode). record {
      path = n.path;
      cube = n.cube;
      inner = n.inner;
      count = length (inside n.cube (points i));
      admitted = length (inside n.cube (admitted_points (until i)));
    }) (outline (octree config.leaf config.cube (points i)) config.cube))

-- a version has as many rows as there are publications
so_many_rows : (config : Config) (events : Record) (v : VersionValue) → IsVersionOf config events v → length v.batches ≡ length (journal events)
so_many_rows config events v is = sym (length-map v.batches (entry_of_row events)) ∙ ap length is.batches.entries

-- so a publication ends it
pub no_longer : (config : Config) (events : Record) (v : VersionValue) (input loader : ℕ) (points : List PointValue)
    → IsVersionOf config events v → IsVersionOf config (events ++ (Publication input points, loader) ∷ []) v → ⊥
no_longer config events v input loader points is later =
    let one = so_many_rows config events v is in
    let two = so_many_rows config (events ++ (Publication input points, loader) ∷ []) v later in
    let more = length-journal events ((Publication input points, loader) ∷ []) in
    absurd_of (length v.batches) (length (journal events)) one (two ∙ more)
  where
    absurd_of : (a b : ℕ) → a ≡ b → a ≡ b + 1 → ⊥
    absurd_of a b e k = omega arith
