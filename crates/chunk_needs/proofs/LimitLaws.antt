-- Which records keep the limits.
use Rattle.std.proofs.Common.{◌≡◌, ◌≤◌, ℕ, ◌+◌, List, [], ◌∷◌, ◌++◌, length, sum_by, ap, arith}
use Rattle.cube_math.specs.Points.{PointValue}
use Rattle.cube_math.specs.declared.config.Config.{Config}
use Rattle.batch_bounds.proofs.Counts.{nodes_rise, one_node}
use Rattle.record_model.specs.Admissions.{admissions, admissions_from, admitted, AdmissionValue}
use Rattle.record_model.specs.Records.{Record, IsPrefix, published}
use Rattle.record_model.specs.declared.event.Event.TheVariants.{Look}
use Rattle.record_model.proofs.RecordLaws.{admissions-append, admissions-look, published-append, published-look}
use Rattle.std.proofs.lemmas.List.Sums.{sum_by-append}
use Rattle.chunk_needs.specs.Limits.{IsWithin, nodes_of}

pub nodes_of-append : (config : Config) (ps qs : List PointValue) → nodes_of config ps ≤ nodes_of config (ps ++ qs)
nodes_of-append config ps qs = nodes_rise config.leaf config.cube ps qs

admitted_rises : (events more : Record) → admitted events ≤ admitted (events ++ more)
admitted_rises events more =
    let a = ap (sum_by (λ (x : AdmissionValue). length x.points)) (admissions-append events more) in
    let b = sum_by-append (λ (x : AdmissionValue). length x.points) (admissions events) (admissions_from (published events) more) in
    omega arith

nodes_rise_on : (config : Config) (events more : Record) → nodes_of config (published events) ≤ nodes_of config (published (events ++ more))
nodes_rise_on config events more =
    let a = nodes_of-append config (published events) (published more) in
    let b = ap (nodes_of config) (published-append events more) in
    omega arith

at_end : (seen events rest : Record) → seen ++ rest ≡ events → (admitted (seen ++ rest) ≡ admitted events) × (published (seen ++ rest) ≡ published events)
at_end seen events rest e = (ap admitted e, ap published e)

-- a beginning of a record that keeps the limits does
pub within_before : (config : Config) (seen events : Record) → IsPrefix seen events → IsWithin config events → IsWithin config seen
within_before config seen events begins w =
    let a = admitted_rises seen begins.0 in
    let n = nodes_rise_on config seen begins.0 in
    let e = at_end seen events begins.0 begins.1 in
    let m = ap (nodes_of config) e.1 in
    record { points = (let x = w.points in let y = e.0 in omega arith); nodes = (let x = w.nodes in omega arith) }

-- a look keeps them
pub within_look : (config : Config) (events : Record) (pass : ℕ) → IsWithin config events → IsWithin config (events ++ (Look, pass) ∷ [])
within_look config events pass w =
    let a = ap (sum_by (λ (x : AdmissionValue). length x.points)) (admissions-look events pass) in
    let n = ap (nodes_of config) (published-look events pass) in
    record { points = (let x = w.points in omega arith); nodes = (let x = w.nodes in omega arith) }

-- and a record of no events, where one node is allowed
pub within_nothing : (config : Config) → 1 ≤ config.nodes → IsWithin config []
within_nothing config some = record { points = omega arith; nodes = (let a = one_node config.leaf config.cube in omega arith) }
