-- Counts that never fall, and the answers that they account for.
use Rattle.std.specs.Prelude.{ℕ, ◌≡◌, ◌≢◌, ◌+◌, ◌-◌, ◌^◌, ◌≤◌, min, Result, Err, OnOk, OnErr, IsErrOf}

-- a count rose, or stands at the end of its type
abbrev pub Rose : ℕ → ℕ → Type 0
Rose old new = min (old + 1) (2 ^ 64 - 1) ≤ new

-- a count rises by one at an error, and only there
pub record HasCause {T E : Type 0} (old new : ℕ) (result : Result T E) : Type 0 where
  pub later : old ≤ new
  pub once : new ≤ old + 1
  pub failed : OnErr result (Rose old new)
  pub calm : OnOk result (new ≡ old)

-- each of the two counts rises by one at an error of its own, and only there
pub record HasCauses {T E : Type 0} (faults faults' missing missing' : ℕ) (failed no_file : E)
    (result : Result T E) : Type 0 where
  pub faults_later : faults ≤ faults'
  pub faults_once : faults' ≤ faults + 1
  pub failed_rose : IsErrOf result failed → Rose faults faults'
  pub faults_calm : result ≢ Err failed → faults' ≡ faults
  pub missing_later : missing ≤ missing'
  pub missing_once : missing' ≤ missing + 1
  pub no_file_rose : IsErrOf result no_file → Rose missing missing'
  pub missing_calm : result ≢ Err no_file → missing' ≡ missing
