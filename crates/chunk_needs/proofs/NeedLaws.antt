-- What one event more does to the chunks.
use Rattle.std.proofs.Common.{◌≡◌, ℕ, ◌+◌, ◌-◌, Bool, true, false, not, cond, List, [], ◌∷◌, ◌++◌, length, filter, sum_by, IsTrue, ap, ◌∙◌, sym, refl, arith, append_assoc, length-append}
use Rattle.std.proofs.lemmas.List.{append-nil}
use Rattle.std.proofs.lemmas.List.Sums.{sum_by-append, sum_by-cons}
use Rattle.std.proofs.lemmas.List.Filters.{sum_by-filter_both}
use Rattle.std.proofs.lemmas.List.Elements.{filter-append}
use Rattle.std.specs.List.{flat_map}
use Rattle.chunk_pool.specs.Amounts.{chunks_for}
use Rattle.cube_math.specs.Points.{PointValue}
use Rattle.cube_math.specs.Cubes.{contains, cube_at}
use Rattle.octree_model.specs.Octree.{inside}
use Rattle.leaf_counts.specs.declared.counts.Counts.{Counts}
use Rattle.leaf_counts.specs.Nodes.{is_leaf_at}
use Rattle.leaf_counts.specs.Overfull.{overfull}
use Rattle.leaf_counts.specs.Paths.{leaf_paths}
use Rattle.leaf_counts.proofs.CountLaws.{counted_is}
use Rattle.leaf_counts.proofs.CountLaws as laws
use Rattle.leaf_counts.proofs.NewLaws.{no_new_leaves}
use Rattle.leaf_counts.proofs.PathLaws.{leaf_paths-Leaf}
use Rattle.record_model.specs.Admissions.{AdmissionValue, admissions, admissions_from, admitted_points}
use Rattle.record_model.specs.Records.{Record, published}
use Rattle.cube_math.specs.declared.config.Config.{Config}
use Rattle.record_model.specs.declared.event.Event.TheVariants.{Admission, Publication, Look}
use Rattle.record_model.proofs.RecordLaws.{admissions-admission, admissions-look, admissions-publication, published-admission, published-look, published-publication}
use Rattle.chunk_needs.specs.Leaves.{counts_of, is_leaf_of, leaves, number_in, split_leaves}
use Rattle.chunk_needs.specs.Needs.{leaf_chunks, live, more_chunks, need}
use Rattle.chunk_needs.specs.Slots.{granted, owned}
use Rattle.leaf_counts.proofs.LeafLaws.{staying, leaf_between, overfull_are_split}
use Rattle.chunk_needs.proofs.SumLaws.{same_sum, same_sum_in, sum_both, sum_one}

-- all leaves are leaves
all_leaves : (config : Config) (points : List PointValue) → filter (λ path. not (is_leaf_of config points path)) (leaf_paths (counts_of config points)) ≡ []
all_leaves config points = no_new_leaves config.leaf config.cube points (counts_of config points) (counted_is config.leaf config.cube points)

granted_more : (config : Config) (events : Record) (input loader : ℕ) (points : List PointValue) (path : List ℕ) → is_leaf_of config (published events) path ≡ true
    → granted config (events ++ (Admission input points, loader) ∷ []) path ≡ granted config events path + number_in config path points
granted_more config events input loader points path leaf =
    let f : AdmissionValue → ℕ = λ a. cond (is_leaf_of config a.before path) (number_in config path a.points) 0 in
    ap (sum_by f) (admissions-admission events input loader points) ∙ sum_by-append f (admissions events) (record { before = published events; points = points } ∷ [])
    ∙ ap (λ n. granted config events path + n) (sum_one f record { before = published events; points = points } ∙ ap (λ b. cond b (number_in config path points) 0) leaf)

owned_same : (config : Config) (events : Record) (input loader : ℕ) (points : List PointValue) (path : List ℕ) → is_leaf_of config (published events) path ≡ true
    → owned config (events ++ (Admission input points, loader) ∷ []) path ≡ owned config events path
owned_same config events input loader points path leaf =
    let f : AdmissionValue → ℕ = λ a. cond (is_leaf_of config a.before path) 0 (number_in config path a.points) in
    ap (sum_by f) (admissions-admission events input loader points) ∙ sum_by-append f (admissions events) (record { before = published events; points = points } ∷ [])
    ∙ ap (λ n. owned config events path + n) (sum_one f record { before = published events; points = points } ∙ ap (λ b. cond b 0 (number_in config path points)) leaf)
    ∙ nothing (owned config events path)
  where
    nothing : (n : ℕ) → n + 0 ≡ n
    nothing n = omega arith

-- what is live after an admission: each leaf's list has grown by the chunks for the slots granted in it
live_grows : (config : Config) (events : Record) (input loader : ℕ) (points : List PointValue)
    → live config (events ++ (Admission input points, loader) ∷ []) ≡ live config events + sum_by (more_chunks config events points) (leaves config events)
live_grows config events input loader points =
    let after : Record = events ++ (Admission input points, loader) ∷ [] in
    let f : List ℕ → ℕ = leaf_chunks config events in
    let h : List ℕ → ℕ = leaf_chunks config after in
    let same_leaves : leaves config after ≡ leaves config events = ap (λ (ps : List PointValue). leaf_paths (counts_of config ps)) (published-admission events input loader points) in
    let sums : sum_by h (leaves config events) ≡ sum_by (λ path. f path + more_chunks config events points path) (leaves config events) =
    same_sum (is_leaf_of config (published events)) h (λ path. f path + more_chunks config events points path) (leaves config events) (all_leaves config (published events))
    (λ path leaf. more (granted config events path) (number_in config path points) (owned config events path) _ _ (granted_more config events input loader points path leaf) (owned_same config events input loader points path leaf)) in
    ap (sum_by h) same_leaves ∙ sums ∙ sum_both f (more_chunks config events points) (leaves config events)
  where
    more : (c n o c' o' : ℕ) → c' ≡ c + n → o' ≡ o → chunks_for c' + chunks_for o' ≡ (chunks_for c + chunks_for o) + (chunks_for (c + n) - chunks_for c)
    more c n o c' o' e e' = omega arith

-- an admission needs, over the leaves, the chunks for the slots granted then less those for the slots granted before
pub need_of_admission : (config : Config) (events : Record) (input loader : ℕ) (points : List PointValue)
    → need config events (Admission input points, loader) ≡ sum_by (more_chunks config events points) (leaves config events)
need_of_admission config events input loader points = less _ _ _ (live_grows config events input loader points)
  where
    less : (a b d : ℕ) → a ≡ b + d → a - b ≡ d
    less a b d e = omega arith

-- and so much more is live then
pub live_after_admission : (config : Config) (events : Record) (input loader : ℕ) (points : List PointValue)
    → live config (events ++ (Admission input points, loader) ∷ []) ≡ live config events + need config events (Admission input points, loader)
live_after_admission config events input loader points =
    live_grows config events input loader points ∙ ap (λ n. live config events + n) (sym (need_of_admission config events input loader points))

-- each admission came when a first part of the published points was published
AllEarlier : List PointValue → List AdmissionValue → Type 0
AllEarlier all [] = Unit {0}
AllEarlier all (a ∷ as') = ((rest : List PointValue) × (a.before ++ rest ≡ all)) × AllEarlier all as'

earlier : (before all rest : List PointValue) (events : Record) → before ++ published events ≡ all → AllEarlier all (admissions_from before events)
unfolding AllEarlier
earlier before all rest [] e = tt
earlier before all rest ((Admission input points, loader) ∷ events) e = ((published events, e), earlier before all rest events e)
earlier before all rest ((Publication input points, loader) ∷ events) e = earlier (before ++ points) all rest events (append_assoc before points (published events) ∙ e)
earlier before all rest ((Look, loader) ∷ events) e = earlier before all rest events e

never_before : (config : Config) (before rest all points : List PointValue) (path : List ℕ) → before ++ rest ≡ all → is_leaf_of config all path ≡ false → is_leaf_of config (all ++ points) path ≡ true → is_leaf_of config before path ≡ false
never_before config before rest all points path e new leaf = either (is_leaf_of config before path) refl
  where
    at : (ps : List PointValue) → is_leaf_of config ps path ≡ is_leaf_at (laws.counts_of config.leaf config.cube ps) path
    at ps = ap (λ (t : Counts). is_leaf_at t path) (counted_is config.leaf config.cube ps)

    differ : false ≡ true → ⊥
    differ h = cc

    either : (b : Bool) → is_leaf_of config before path ≡ b → is_leaf_of config before path ≡ false
    either false is = is
    either true is =
        let now : is_leaf_of config ((before ++ rest) ++ points) path ≡ true = ap (λ (l : List PointValue). is_leaf_of config (l ++ points) path) e ∙ leaf in
        let then : is_leaf_of config (before ++ rest) path ≡ true = at (before ++ rest) ∙ leaf_between path config.leaf config.cube before rest points (sym (at before) ∙ is) (sym (at ((before ++ rest) ++ points)) ∙ now) in
        absurd (differ (sym new ∙ ap (λ (l : List PointValue). is_leaf_of config l path) (sym e) ∙ then))

-- a leaf that a publication made was none before
no_grants : (config : Config) (all points : List PointValue) (path : List ℕ) (as' : List AdmissionValue) → AllEarlier all as' → is_leaf_of config all path ≡ false → is_leaf_of config (all ++ points) path ≡ true
    → sum_by (λ (a : AdmissionValue). cond (is_leaf_of config a.before path) (number_in config path a.points) 0) as' ≡ 0
unfolding AllEarlier
no_grants config all points path [] early new leaf = refl
no_grants config all points path (a ∷ as') early new leaf =
    let f : AdmissionValue → ℕ = λ b. cond (is_leaf_of config b.before path) (number_in config path b.points) 0 in
    let rest : sum_by f as' ≡ 0 = no_grants config all points path as' early.1 new leaf in
    let not_then : is_leaf_of config a.before path ≡ false = never_before config a.before early.0.0 all points path early.0.1 new leaf in
    sum_by-cons f a as' ∙ (λ i. cond (not_then i) (number_in config path a.points) 0 + rest i)

-- what is live then, and the chunks of the leaves that were split, are what was live before and what the publication needs
pub live_after_publication : (config : Config) (events : Record) (input loader : ℕ) (points : List PointValue)
    → live config (events ++ (Publication input points, loader) ∷ []) + sum_by (leaf_chunks config events) (split_leaves config events (Publication input points, loader))
    ≡ live config events + need config events (Publication input points, loader)
live_after_publication config events input loader points =
    let after : Record = events ++ (Publication input points, loader) ∷ [] in
    let f : List ℕ → ℕ = leaf_chunks config events in
    let P : List ℕ → Bool = is_leaf_of config (published events) in
    let Q : List ℕ → Bool = is_leaf_of config (published after) in
    let L : List (List ℕ) = leaves config events in
    let L' : List (List ℕ) = leaves config after in
    let same : live config after ≡ sum_by f L' = chunks_same config events after L' (admissions-publication events input loader points) in
    let both : sum_by f (filter P L') + sum_by f (filter (λ x. not (P x)) L') ≡ sum_by f L' = sum_by-filter_both P (λ x. not (P x)) (λ x. refl) f L' in
    let both' : sum_by f (filter Q L) + sum_by f (filter (λ x. not (Q x)) L) ≡ sum_by f L = sum_by-filter_both Q (λ x. not (Q x)) (λ x. refl) f L in
    let stay : filter P L' ≡ filter Q L = stays_as config (published events) points (published after) (published-publication events input loader points) in
    let stay_sum : sum_by f (filter P L') ≡ sum_by f (filter Q L) = ap (sum_by f) stay in
    let made : sum_by f (filter (λ x. not (P x)) L') ≡ need config events (Publication input points, loader) =
    same_sum_in (λ x. not (P x)) Q f (λ path. chunks_for (owned config after path)) L' (all_leaves config (published after)) (λ path new leaf. new_chunks config events after points path (admissions-publication events input loader points) (published-publication events input loader points) (not_true (P path) new) leaf) in
    omega (arith, same, both, both', stay_sum, made)
  where
    not_true : (b : Bool) → not b ≡ true → b ≡ false
    not_true false e = refl
    not_true true e = sym e

    chunks_same : (config : Config) (events after : Record) (paths : List (List ℕ)) → admissions after ≡ admissions events → sum_by (leaf_chunks config after) paths ≡ sum_by (leaf_chunks config events) paths
    chunks_same config events after paths e = ap (λ (l : List AdmissionValue). sum_by (λ path. chunks_for (sum_by (λ (a : AdmissionValue). cond (is_leaf_of config a.before path) (number_in config path a.points) 0) l) + chunks_for (sum_by (λ (a : AdmissionValue). cond (is_leaf_of config a.before path) 0 (number_in config path a.points)) l)) paths) e

    stays_as : (config : Config) (ps qs all : List PointValue) → all ≡ ps ++ qs → filter (is_leaf_of config ps) (leaf_paths (counts_of config all)) ≡ filter (is_leaf_of config all) (leaf_paths (counts_of config ps))
    stays_as config ps qs all e =
        let at : (l : List PointValue) → counts_of config l ≡ laws.counts_of config.leaf config.cube l = counted_is config.leaf config.cube in
        (λ i. filter (is_leaf_at (at ps i)) (leaf_paths ((ap (counts_of config) e ∙ at (ps ++ qs)) i)))
        ∙ staying config.cube.bits config.leaf config.cube ps qs (omega arith)
        ∙ (λ i. filter (is_leaf_at (sym (ap (counts_of config) e ∙ at (ps ++ qs)) i)) (leaf_paths (sym (at ps) i)))

    sum_is : (a b c : ℕ) → a ≡ 0 → c ≡ b → chunks_for a + chunks_for b ≡ chunks_for c
    sum_is a b c e k = omega arith

    new_chunks : (config : Config) (events after : Record) (points : List PointValue) (path : List ℕ) → admissions after ≡ admissions events → published after ≡ published events ++ points
        → is_leaf_of config (published events) path ≡ false → is_leaf_of config (published after) path ≡ true → leaf_chunks config events path ≡ chunks_for (owned config after path)
    new_chunks config events after points path e k new leaf =
        let none : granted config events path ≡ 0 = no_grants config (published events) points path (admissions events) (earlier [] (published events) [] events refl) new (ap (λ (l : List PointValue). is_leaf_of config l path) (sym k) ∙ leaf) in
        let own : owned config after path ≡ owned config events path = ap (sum_by (λ (a : AdmissionValue). cond (is_leaf_of config a.before path) 0 (number_in config path a.points))) e in
        sum_is (granted config events path) (owned config events path) (owned config after path) none own

abbrev all_items : List AdmissionValue → List PointValue
all_items as' = flat_map (λ (a : AdmissionValue). a.points) as'

pub number-append : (config : Config) (path : List ℕ) (ps qs : List PointValue) → number_in config path (ps ++ qs) ≡ number_in config path ps + number_in config path qs
number-append config path ps qs = ap length (filter-append (contains (cube_at config.cube path)) ps qs) ∙ length-append (inside (cube_at config.cube path) ps) (inside (cube_at config.cube path) qs)

all_owned : (config : Config) (all points : List PointValue) (path : List ℕ) (as' : List AdmissionValue) → AllEarlier all as' → is_leaf_of config all path ≡ false → is_leaf_of config (all ++ points) path ≡ true
    → sum_by (λ (a : AdmissionValue). cond (is_leaf_of config a.before path) 0 (number_in config path a.points)) as' ≡ number_in config path (all_items as')
unfolding AllEarlier
all_owned config all points path [] early new leaf = refl
all_owned config all points path (a ∷ as') early new leaf =
    let f : AdmissionValue → ℕ = λ b. cond (is_leaf_of config b.before path) 0 (number_in config path b.points) in
    let rest : sum_by f as' ≡ number_in config path (all_items as') = all_owned config all points path as' early.1 new leaf in
    let not_then : is_leaf_of config a.before path ≡ false = never_before config a.before early.0.0 all points path early.0.1 new leaf in
    sum_by-cons f a as' ∙ (λ i. cond (not_then i) 0 (number_in config path a.points) + rest i) ∙ sym (number-append config path a.points (all_items as'))

-- a leaf that a publication made owns slots for all admitted points in its cube
pub made_leaf_owns : (config : Config) (events : Record) (input loader : ℕ) (points : List PointValue) (path : List ℕ)
    → is_leaf_of config (published events) path ≡ false → is_leaf_of config (published (events ++ (Publication input points, loader) ∷ [])) path ≡ true
    → owned config (events ++ (Publication input points, loader) ∷ []) path ≡ number_in config path (admitted_points events)
made_leaf_owns config events input loader points path new leaf =
    ap (sum_by (λ (a : AdmissionValue). cond (is_leaf_of config a.before path) 0 (number_in config path a.points))) (admissions-publication events input loader points)
    ∙ all_owned config (published events) points path (admissions events) (earlier [] (published events) [] events refl) new (ap (λ (l : List PointValue). is_leaf_of config l path) (sym (published-publication events input loader points)) ∙ leaf)

pub split_is_overfull : (config : Config) (events : Record) (input loader : ℕ) (points : List PointValue)
    → overfull config.leaf config.cube (counts_of config (published events)) points ≡ split_leaves config events (Publication input points, loader)
split_is_overfull config events input loader points =
    let at : (l : List PointValue) → counts_of config l ≡ laws.counts_of config.leaf config.cube l = counted_is config.leaf config.cube in
    (λ i. overfull config.leaf config.cube (at (published events) i) points)
    ∙ overfull_are_split config.leaf config.cube (published events) points
    ∙ (λ i. filter (λ path. not (is_leaf_at (sym (ap (counts_of config) (published-publication events input loader points) ∙ at (published events ++ points)) i) path)) (leaf_paths (sym (at (published events)) i)))

pub look_live : (config : Config) (events : Record) (pass : ℕ) → live config (events ++ (Look, pass) ∷ []) ≡ live config events
look_live config events pass =
    let same : admissions (events ++ (Look, pass) ∷ []) ≡ admissions events = admissions-look events pass in
    let points : published (events ++ (Look, pass) ∷ []) ≡ published events = published-look events pass in
    (λ i. sum_by (λ path. chunks_for (sum_by (λ (a : AdmissionValue). cond (is_leaf_of config a.before path) (number_in config path a.points) 0) (same i)) + chunks_for (sum_by (λ (a : AdmissionValue). cond (is_leaf_of config a.before path) 0 (number_in config path a.points)) (same i))) (leaf_paths (counts_of config (points i))))

root_alone : (config : Config) → leaf_paths (counts_of config []) ≡ [] ∷ []
root_alone config = ap leaf_paths (sym (laws.no_points config.leaf config.cube)) ∙ leaf_paths-Leaf 0

pub nothing_live : (config : Config) → live config [] ≡ 0
nothing_live config = ap (sum_by (leaf_chunks config [])) (root_alone config) ∙ sum_one (leaf_chunks config []) []

pub first_need : (config : Config) (input loader : ℕ) (points : List PointValue) → need config [] (Admission input points, loader) ≡ chunks_for (number_in config [] points)
first_need config input loader points =
    need_of_admission config [] input loader points ∙ ap (sum_by (more_chunks config [] points)) (root_alone config) ∙ sum_one (more_chunks config [] points) [] ∙ less (number_in config [] points)
  where
    less : (n : ℕ) → chunks_for (0 + n) - chunks_for 0 ≡ chunks_for n
    less n = omega arith

-- an admission adds to what a path owns where it leads to no leaf
granted_same : (config : Config) (events : Record) (input loader : ℕ) (points : List PointValue) (path : List ℕ) → is_leaf_of config (published events) path ≡ false
    → granted config (events ++ (Admission input points, loader) ∷ []) path ≡ granted config events path
granted_same config events input loader points path none =
    let f : AdmissionValue → ℕ = λ a. cond (is_leaf_of config a.before path) (number_in config path a.points) 0 in
    ap (sum_by f) (admissions-admission events input loader points) ∙ sum_by-append f (admissions events) (record { before = published events; points = points } ∷ [])
    ∙ ap (λ n. granted config events path + n) (sum_one f record { before = published events; points = points } ∙ ap (λ b. cond b (number_in config path points) 0) none)
    ∙ nothing (granted config events path)
  where
    nothing : (n : ℕ) → n + 0 ≡ n
    nothing n = omega arith

owned_more : (config : Config) (events : Record) (input loader : ℕ) (points : List PointValue) (path : List ℕ) → is_leaf_of config (published events) path ≡ false
    → owned config (events ++ (Admission input points, loader) ∷ []) path ≡ owned config events path + number_in config path points
owned_more config events input loader points path none =
    let f : AdmissionValue → ℕ = λ a. cond (is_leaf_of config a.before path) 0 (number_in config path a.points) in
    ap (sum_by f) (admissions-admission events input loader points) ∙ sum_by-append f (admissions events) (record { before = published events; points = points } ∷ [])
    ∙ ap (λ n. owned config events path + n) (sum_one f record { before = published events; points = points } ∙ ap (λ b. cond b 0 (number_in config path points)) none)

pub admitted_at_leaf : (config : Config) (events : Record) (input loader : ℕ) (points : List PointValue) (path : List ℕ) → is_leaf_of config (published events) path ≡ true
    → (granted config (events ++ (Admission input points, loader) ∷ []) path ≡ granted config events path + number_in config path points)
    × (owned config (events ++ (Admission input points, loader) ∷ []) path ≡ owned config events path)
admitted_at_leaf config events input loader points path leaf = (granted_more config events input loader points path leaf, owned_same config events input loader points path leaf)

pub admitted_elsewhere : (config : Config) (events : Record) (input loader : ℕ) (points : List PointValue) (path : List ℕ) → is_leaf_of config (published events) path ≡ false
    → (granted config (events ++ (Admission input points, loader) ∷ []) path ≡ granted config events path)
    × (owned config (events ++ (Admission input points, loader) ∷ []) path ≡ owned config events path + number_in config path points)
admitted_elsewhere config events input loader points path none = (granted_same config events input loader points path none, owned_more config events input loader points path none)

-- events that admit nothing change neither
pub slots_stay : (config : Config) (events after : Record) (path : List ℕ) → admissions after ≡ admissions events → (granted config after path ≡ granted config events path) × (owned config after path ≡ owned config events path)
slots_stay config events after path same = (
  ap (sum_by (λ (a : AdmissionValue). cond (is_leaf_of config a.before path) (number_in config path a.points) 0)) same,
  ap (sum_by (λ (a : AdmissionValue). cond (is_leaf_of config a.before path) 0 (number_in config path a.points))) same,
)
