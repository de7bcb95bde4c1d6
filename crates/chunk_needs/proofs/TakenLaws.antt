-- What a record ever took of chunks is enough for its nodes and its points.
use Rattle.std.proofs.Common.{◌≡◌, ℕ, suc, ◌+◌, ◌-◌, ◌*◌, ◌/◌, ◌≤◌, Bool, true, false, not, cond, List, [], ◌∷◌, ◌++◌, length, filter, sum_by, ap, ◌∙◌, sym, refl, arith, subst, append-nil, append_assoc}
use Rattle.std.proofs.Math.Nat.{mul-le-mul_left}
use Rattle.std.proofs.lemmas.List.Sums.{sum_by-cons, sum_by-append}
use Rattle.std.specs.List.{flat_map}
use Rattle.chunk_pool.specs.Amounts.{chunks_for, enough}
use Rattle.cube_math.specs.Points.{PointValue}
use Rattle.cube_math.specs.Cubes.{contains}
use Rattle.octree_model.specs.Octree.{inside, octree}
use Rattle.octree_model.specs.Counts.{nodes}
use Rattle.leaf_counts.specs.declared.counts.Counts.{Counts}
use Rattle.leaf_counts.specs.Nodes.{is_leaf_at, node_total}
use Rattle.leaf_counts.specs.Paths.{leaf_paths}
use Rattle.leaf_counts.proofs.CountLaws.{counts_of, counted_is}
use Rattle.leaf_counts.proofs.TotalLaws.{total_at}
use Rattle.record_model.specs.Admissions.{AdmissionValue, admissions, admitted, admitted_points}
use Rattle.record_model.specs.Records.{Record, published}
use Rattle.cube_math.specs.declared.config.Config.{Config}
use Rattle.record_model.specs.declared.event.Event.{Event}
use Rattle.record_model.specs.declared.event.Event.TheVariants.{Admission, Publication, Look}
use Rattle.record_model.proofs.RecordLaws.{admissions-admission, admissions-look, admissions-publication, admitted-items, published-admission, published-look, published-publication}
use Rattle.chunk_needs.specs.Leaves as leaves
use Rattle.chunk_needs.specs.Leaves.{is_leaf_of, leaves, number_in, split_leaves}
use Rattle.chunk_needs.specs.Limits.{nodes_of}
use Rattle.chunk_needs.specs.Needs.{leaf_chunks, live, need, taken, taken_behind}
use Rattle.chunk_needs.specs.Slots.{granted, owned}
use Rattle.chunk_needs.proofs.NeedLaws.{live_after_admission, live_after_publication, look_live, nothing_live, number-append}
use Rattle.chunk_needs.proofs.LevelLaws.{filled, inner_le, inner_sum, leaf_sum, levels, split_sum, splits_become_inner}

-- points by admissions
abbrev all_points : List AdmissionValue → List PointValue
all_points as' = flat_map (λ (a : AdmissionValue). a.points) as'

number_joined : (config : Config) (path : List ℕ) (as' : List AdmissionValue) → number_in config path (all_points as') ≡ sum_by (λ (a : AdmissionValue). number_in config path a.points) as'
number_joined config path [] = refl
number_joined config path (a ∷ as') =
    let r = number_joined config path as' in let x = number-append config path a.points (all_points as') in let y = sum_by-cons (λ (b : AdmissionValue). number_in config path b.points) a as' in omega arith

-- each admitted point of a leaf is granted or owned
pub granted_or_owned : (config : Config) (path : List ℕ) (as' : List AdmissionValue)
    → sum_by (λ (a : AdmissionValue). cond (is_leaf_of config a.before path) (number_in config path a.points) 0) as' + sum_by (λ (a : AdmissionValue). cond (is_leaf_of config a.before path) 0 (number_in config path a.points)) as'
    ≡ number_in config path (all_points as')
granted_or_owned config path [] = refl
granted_or_owned config path (a ∷ as') =
    let f : AdmissionValue → ℕ = λ b. cond (is_leaf_of config b.before path) (number_in config path b.points) 0 in
    let h : AdmissionValue → ℕ = λ b. cond (is_leaf_of config b.before path) 0 (number_in config path b.points) in
    let r = granted_or_owned config path as' in
    let x = number-append config path a.points (all_points as') in
    let y = sum_by-cons f a as' in
    let z = sum_by-cons h a as' in
    let o : f a + h a ≡ number_in config path a.points = by (is_leaf_of config a.before path) (number_in config path a.points) in
    omega arith
  where
    by : (b : Bool) (n : ℕ) → cond b n 0 + cond b 0 n ≡ n
    by true n = omega arith
    by false n = omega arith

-- two for a node, and the chunks that its admitted points fill
abbrev room : Config → Record → List ℕ → ℕ
room config events path = filled config.cube (admitted_points events) path

chunks_in_room : (config : Config) (events : Record) (path : List ℕ) → leaf_chunks config events path ≤ room config events path
chunks_in_room config events path = fit (granted config events path) (owned config events path) (number_in config path (admitted_points events)) (granted_or_owned config path (admissions events))
  where
    fit : (a b n : ℕ) → a + b ≡ n → chunks_for a + chunks_for b ≤ 2 + n / 256
    fit a b n e = omega arith

sum_le_all : {X : Type 0} (f h : X → ℕ) (xs : List X) → ((x : X) → f x ≤ h x) → sum_by f xs ≤ sum_by h xs
sum_le_all f h [] e = omega arith
sum_le_all f h (x ∷ xs) e = let r = sum_le_all f h xs e in let a = sum_by-cons f x xs in let b = sum_by-cons h x xs in let t = e x in omega arith

filter_sum : {X : Type 0} (f : X → ℕ) (test : X → Bool) (xs : List X) → sum_by f (filter (λ x. not (test x)) xs) ≡ sum_by (λ x. cond (test x) 0 (f x)) xs
filter_sum f test [] = refl
filter_sum f test (x ∷ xs) = by (test x) (filter_sum f test xs) ∙ sym (sum_by-cons (λ y. cond (test y) 0 (f y)) x xs)
  where
    by : (b : Bool) → sum_by f (filter (λ y. not (test y)) xs) ≡ sum_by (λ y. cond (test y) 0 (f y)) xs
        → sum_by f (cond (not b) (x ∷ filter (λ y. not (test y)) xs) (filter (λ y. not (test y)) xs)) ≡ cond b 0 (f x) + sum_by (λ y. cond (test y) 0 (f y)) xs
    by true r = let t : sum_by f (filter (λ y. not (test y)) xs) ≡ 0 + sum_by (λ y. cond (test y) 0 (f y)) xs = omega arith in t
    by false r = let a = sum_by-cons f x (filter (λ y. not (test y)) xs) in let t : sum_by f (x ∷ filter (λ y. not (test y)) xs) ≡ f x + sum_by (λ y. cond (test y) 0 (f y)) xs = omega arith in t

-- what bounds the chunks taken: those that live, and the room of the inner nodes
abbrev potential : Config → Record → ℕ
potential config events = inner_sum (config.cube.bits - 7) config.leaf config.cube (published events) (room config events) + live config events

look_step : (config : Config) (events : Record) (pass : ℕ) → potential config (events ++ (Look, pass) ∷ []) ≡ potential config events
look_step config events pass =
    let same : admissions (events ++ (Look, pass) ∷ []) ≡ admissions events = admissions-look events pass in
    let points : published (events ++ (Look, pass) ∷ []) ≡ published events = published-look events pass in
    (λ i. inner_sum (config.cube.bits - 7) config.leaf config.cube (points i) (filled config.cube (all_points (same i))) + look_live config events pass i)

module _ (config : Config) (events : Record) (input loader : ℕ) (points : List PointValue) where
  admission_room : (path : List ℕ) → room config events path ≤ room config (events ++ (Admission input points, loader) ∷ []) path
  admission_room path =
      let a = number_joined config path (admissions events) in
      let b : number_in config path (admitted_points (events ++ (Admission input points, loader) ∷ [])) ≡ sum_by (λ (x : AdmissionValue). number_in config path x.points) (admissions events ++ record { before = published events; points = points } ∷ []) =
      number_joined config path (admissions (events ++ (Admission input points, loader) ∷ [])) ∙ ap (sum_by (λ (x : AdmissionValue). number_in config path x.points)) (admissions-admission events input loader points) in
      let d = sum_by-append (λ (x : AdmissionValue). number_in config path x.points) (admissions events) (record { before = published events; points = points } ∷ []) in
      quotient (number_in config path (admitted_points events)) (number_in config path (admitted_points (events ++ (Admission input points, loader) ∷ []))) (omega arith)
    where
      quotient : (x y : ℕ) → x ≤ y → 2 + x / 256 ≤ 2 + y / 256
      quotient x y le = omega arith

  admission_step : potential config events + need config events (Admission input points, loader) ≤ potential config (events ++ (Admission input points, loader) ∷ [])
  admission_step =
      let a = live_after_admission config events input loader points in
      let b = inner_le (config.cube.bits - 7) config.leaf config.cube (published events) (room config events) (room config (events ++ (Admission input points, loader) ∷ [])) admission_room in
      let d = ap (λ (ps : List PointValue). inner_sum (config.cube.bits - 7) config.leaf config.cube ps (room config (events ++ (Admission input points, loader) ∷ []))) (published-admission events input loader points) in
      omega arith

  publication_step : potential config events + need config events (Publication input points, loader) ≤ potential config (events ++ (Publication input points, loader) ∷ [])
  publication_step =
      let then : Record = events ++ (Publication input points, loader) ∷ [] in
      let same : admissions then ≡ admissions events = admissions-publication events input loader points in
      let more : published then ≡ published events ++ points = published-publication events input loader points in
      let at : (ps : List PointValue) → leaves.counts_of config ps ≡ counts_of config.leaf config.cube ps = counted_is config.leaf config.cube in
      let balance = live_after_publication config events input loader points in
      let grow = splits_become_inner (config.cube.bits - 7) config.leaf config.cube (published events) points (room config events) refl in
      let inner : inner_sum (config.cube.bits - 7) config.leaf config.cube (published then) (room config then) ≡ inner_sum (config.cube.bits - 7) config.leaf config.cube (published events ++ points) (room config events) =
      (λ i. inner_sum (config.cube.bits - 7) config.leaf config.cube (more i) (filled config.cube (all_points (same i)))) in
      let split : sum_by (leaf_chunks config events) (split_leaves config events (Publication input points, loader)) ≡ split_sum config.leaf config.cube (published events) points (leaf_chunks config events) =
      filter_sum (leaf_chunks config events) (is_leaf_of config (published then)) (leaves config events)
      ∙ (λ i. sum_by (λ path. cond (is_leaf_at ((ap (leaves.counts_of config) more ∙ at (published events ++ points)) i) path) 0 (leaf_chunks config events path)) (leaf_paths (at (published events) i))) in
      let le : split_sum config.leaf config.cube (published events) points (leaf_chunks config events) ≤ split_sum config.leaf config.cube (published events) points (room config events) =
      sum_le_all (λ path. cond (is_leaf_at (counts_of config.leaf config.cube (published events ++ points)) path) 0 (leaf_chunks config events path)) (λ path. cond (is_leaf_at (counts_of config.leaf config.cube (published events ++ points)) path) 0 (room config events path)) (leaf_paths (counts_of config.leaf config.cube (published events)))
      (λ path. by (is_leaf_at (counts_of config.leaf config.cube (published events ++ points)) path) (chunks_in_room config events path)) in
      omega arith
    where
      by : {x y : ℕ} (b : Bool) → x ≤ y → cond b 0 x ≤ cond b 0 y
      by true le = omega arith
      by false le = le

step : (config : Config) (events : Record) (e : Event × ℕ) → potential config events + need config events e ≤ potential config (events ++ e ∷ [])
step config events (Admission input points, loader) = admission_step config events input loader points
step config events (Publication input points, loader) = publication_step config events input loader points
step config events (Look, pass) = let a = look_step config events pass in omega arith

walk : (config : Config) (before events : Record) (t : ℕ) → t ≤ potential config before → t + taken_behind config before events ≤ potential config (before ++ events)
walk config before [] t le = let a = ap (potential config) (append-nil before) in let z : t + 0 ≤ potential config (before ++ []) = omega arith in z
walk config before (e ∷ events) t le =
    let s = step config before e in
    let r = walk config (before ++ e ∷ []) events (t + need config before e) (omega arith) in
    let a = ap (potential config) (append_assoc before (e ∷ []) events) in
    let z : t + (need config before e + taken_behind config (before ++ e ∷ []) events) ≤ potential config (before ++ e ∷ events) = omega arith in z

-- all that was taken
filter_short : {X : Type 0} (test : X → Bool) (xs : List X) → length (filter test xs) ≤ length xs
filter_short test [] = omega arith
filter_short test (x ∷ xs) = by (test x) (filter_short test xs)
  where
    by : (b : Bool) → length (filter test xs) ≤ length xs → length (cond b (x ∷ filter test xs) (filter test xs)) ≤ suc (length xs)
    by true r = omega arith
    by false r = omega arith

pub taken_enough : (config : Config) (events : Record) → 7 ≤ config.cube.bits → taken config events ≤ enough config.cube.bits (admitted events) (nodes_of config (published events))
taken_enough config events high =
    let w : 0 + taken_behind config [] events ≤ potential config events = walk config [] events 0 (let t : 0 ≤ potential config [] = omega arith in t) in
    let at : leaves.counts_of config (published events) ≡ counts_of config.leaf config.cube (published events) = counted_is config.leaf config.cube (published events) in
    let a : live config events ≤ leaf_sum config.leaf config.cube (published events) (room config events) =
    subst (λ (t : Counts). sum_by (leaf_chunks config events) (leaf_paths (leaves.counts_of config (published events))) ≤ sum_by (room config events) (leaf_paths t)) at
    (sum_le_all (leaf_chunks config events) (room config events) (leaf_paths (leaves.counts_of config (published events))) (chunks_in_room config events)) in
    let b = levels (config.cube.bits - 7) config.leaf config.cube (published events) (admitted_points events) refl in
    let total : node_total (counts_of config.leaf config.cube (published events)) ≡ nodes (octree config.leaf config.cube (published events)) = ap node_total (sym at) ∙ total_at config.leaf (config.cube.bits - 7) config.cube (published events) in
    let short = filter_short (contains config.cube) (admitted_points events) in
    let long = admitted-items events in
    let part : length (inside config.cube (admitted_points events)) / 256 ≤ (admitted events + 255) / 256 = quotient (length (inside config.cube (admitted_points events))) (admitted events) (omega arith) in
    let product : ((config.cube.bits - 7) + 1) * (length (inside config.cube (admitted_points events)) / 256) ≤ ((config.cube.bits - 7) + 1) * ((admitted events + 255) / 256) = mul-le-mul_left ((config.cube.bits - 7) + 1) part in
    let six : ((config.cube.bits - 7) + 1) * ((admitted events + 255) / 256) ≡ (config.cube.bits - 6) * ((admitted events + 255) / 256) = ap (λ (n : ℕ). n * ((admitted events + 255) / 256)) (let e : (config.cube.bits - 7) + 1 ≡ config.cube.bits - 6 = omega arith in e) in
    omega arith
  where
    quotient : (x y : ℕ) → x ≤ y → x / 256 ≤ (y + 255) / 256
    quotient x y le = omega arith

pub taken_adds : (config : Config) (events : Record) (e : Event × ℕ) → taken config (events ++ e ∷ []) ≡ taken config events + need config events e
taken_adds config events e = from [] events
  where
    from : (before es : Record) → taken_behind config before (es ++ e ∷ []) ≡ taken_behind config before es + need config (before ++ es) e
    from before [] = (let t : need config before e + 0 ≡ 0 + need config before e = omega arith in t) ∙ ap (λ (l : Record). 0 + need config l e) (sym (append-nil before))
    from before (x ∷ es) =
        let r = from (before ++ x ∷ []) es in
        let a = ap (λ (l : Record). need config l e) (append_assoc before (x ∷ []) es) in
        let t : need config before x + taken_behind config (before ++ x ∷ []) (es ++ e ∷ []) ≡ (need config before x + taken_behind config (before ++ x ∷ []) es) + need config (before ++ x ∷ es) e = omega arith in t

-- no more chunks live than were ever taken
live_step : (config : Config) (events : Record) (e : Event × ℕ) → live config (events ++ e ∷ []) ≤ live config events + need config events e
live_step config events (Admission input points, loader) = let a = live_after_admission config events input loader points in omega arith
live_step config events (Publication input points, loader) = let a = live_after_publication config events input loader points in omega arith
live_step config events (Look, pass) = let a = look_live config events pass in omega arith

live_behind : (config : Config) (before events : Record) → live config (before ++ events) ≤ live config before + taken_behind config before events
live_behind config before [] = let a = ap (live config) (append-nil before) in omega arith
live_behind config before (e ∷ events) =
    let one = live_step config before e in
    let rest = live_behind config (before ++ e ∷ []) events in
    let a = ap (live config) (append_assoc before (e ∷ []) events) in
    omega arith

pub live_taken : (config : Config) (events : Record) → live config events ≤ taken config events
live_taken config events = let a = live_behind config [] events in let z = nothing_live config in omega arith
