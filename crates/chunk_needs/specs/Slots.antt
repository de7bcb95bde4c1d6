-- How many points a record admitted in a leaf: since it is one, and before.
use Rattle.std.specs.Prelude.{ℕ, List, sum_by, if◌then◌else◌}
use Rattle.record_model.specs.Records.{Record}
use Rattle.record_model.specs.Admissions.{AdmissionValue, admissions}
use Rattle.cube_math.specs.declared.config.Config.{Config}
use Rattle.chunk_needs.specs.Leaves.{is_leaf_of, number_in}

-- the points in a leaf's cube that were admitted while the path led to a leaf: slots were granted for them in its list
abbrev pub granted : Config → Record → List ℕ → ℕ
granted config events path = sum_by (λ (a : AdmissionValue). if is_leaf_of config a.before path then number_in config path a.points else 0) (admissions events)

-- the points in a leaf's cube that were admitted before the path led to a leaf: its list owns slots for them
abbrev pub owned : Config → Record → List ℕ → ℕ
owned config events path = sum_by (λ (a : AdmissionValue). if is_leaf_of config a.before path then 0 else number_in config path a.points) (admissions events)
