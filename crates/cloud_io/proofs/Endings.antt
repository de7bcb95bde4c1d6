-- How the reading of a whole file ends.
use Rattle.std.proofs.Common.{◌≡◌, ◌+◌, ◌≤◌, inl, ℕ, List, Option, Result, Ok, Err, ap, ◌∙◌, refl, arith}
use Rattle.std.specs.Prelude.{◌≢◌, IsErrAnd}
use Rattle.cloud_io.specs.Counts.{Rose, HasCause, HasCauses}
use Rattle.cloud_io.specs.Files.{Folder, Opened, AgreesWith}
use Rattle.cloud_io.specs.Whole.{read_fault, ReadsWhole, ReadsTo}
use Rattle.cloud_io.specs.declared.faults.OpenFault.{OpenFault}
use Rattle.cloud_io.specs.declared.faults.OpenFault.TheVariants.{NoFile as OpenNoFile, Failed as OpenFailed, Memory as OpenMemory}
use Rattle.cloud_io.specs.declared.faults.ReadFault.{ReadFault}
use Rattle.cloud_io.specs.declared.faults.ReadFault.TheVariants.{NoFile, Failed, TooLong, Memory}

-- the error that an answer has
pub err_is : {T E : Type 0} (r : Result T E) (fault : E) → IsErrAnd r (λ made. made ≡ fault) → r ≡ Err fault
err_is (Ok x) fault h = absurd h
err_is (Err made) fault h = ap (λ e. Err e) h

-- a file that was not opened is not read
pub told_unopened : (A : Type 0) (files : Option Folder) (name : List ℕ) (most : ℕ) (fault : OpenFault) → AgreesWith files name (Err fault) → ReadsWhole {A = A} files name most (Err (read_fault fault))
told_unopened A files name most OpenNoFile h = h
told_unopened A files name most OpenFailed h = tt
told_unopened A files name most OpenMemory h = tt

pub left_unopened : (A : Type 0) (files : Option Folder) (old new : Opened) (name : List ℕ) (most : ℕ) (fault : OpenFault) → new ≡ old → ReadsTo {A = A} files old new name most (Err (read_fault fault))
left_unopened A files old new name most OpenNoFile same = same
left_unopened A files old new name most OpenFailed same = inl same
left_unopened A files old new name most OpenMemory same = inl same

-- an answer that accounts for no count
quiet : {T : Type 0} (faults faults' missing missing' : ℕ) (result : Result T ReadFault) → faults' ≡ faults → missing' ≡ missing → result ≢ Err Failed → result ≢ Err NoFile → HasCauses faults faults' missing missing' Failed NoFile result
quiet faults faults' missing missing' result f m failed no_file = record {
  faults_later = omega (arith, f);
  faults_once = omega (arith, f);
  failed_rose = λ e. absurd (failed e);
  faults_calm = λ e. f;
  missing_later = omega (arith, m);
  missing_once = omega (arith, m);
  no_file_rose = λ e. absurd (no_file e);
  missing_calm = λ e. m;
}

pub quiet_ok : {T : Type 0} (faults faults' missing missing' : ℕ) (x : T) → faults' ≡ faults → missing' ≡ missing → HasCauses faults faults' missing missing' Failed NoFile (Ok x)
quiet_ok faults faults' missing missing' x f m = quiet faults faults' missing missing' (Ok x) f m (λ e. cc) (λ e. cc)

pub quiet_memory : (T : Type 0) (faults faults' missing missing' : ℕ) → faults' ≡ faults → missing' ≡ missing → HasCauses {T = T} faults faults' missing missing' Failed NoFile (Err Memory)
quiet_memory T faults faults' missing missing' f m = quiet {T = T} faults faults' missing missing' (Err Memory) f m (λ e. cc) (λ e. cc)

pub quiet_too_long : (T : Type 0) (faults faults' missing missing' most : ℕ) → faults' ≡ faults → missing' ≡ missing → HasCauses {T = T} faults faults' missing missing' Failed NoFile (Err (TooLong most))
quiet_too_long T faults faults' missing missing' most f m = quiet {T = T} faults faults' missing missing' (Err (TooLong most)) f m (λ e. cc) (λ e. cc)

-- an answer that accounts for the count of faults
failed_once : (T : Type 0) (faults faults' missing missing' : ℕ) → faults ≤ faults' → faults' ≤ faults + 1 → Rose faults faults' → missing' ≡ missing → HasCauses {T = T} faults faults' missing missing' Failed NoFile (Err Failed)
failed_once T faults faults' missing missing' later once rose m = record {
  faults_later = later;
  faults_once = once;
  failed_rose = λ e. rose;
  faults_calm = λ e. absurd (e refl);
  missing_later = omega (arith, m);
  missing_once = omega (arith, m);
  no_file_rose = λ e. cc;
  missing_calm = λ e. m;
}

-- an answer that accounts for the count of missing names
no_file_once : (T : Type 0) (faults faults' missing missing' : ℕ) → faults' ≡ faults → missing ≤ missing' → missing' ≤ missing + 1 → Rose missing missing' → HasCauses {T = T} faults faults' missing missing' Failed NoFile (Err NoFile)
no_file_once T faults faults' missing missing' f later once rose = record {
  faults_later = omega (arith, f);
  faults_once = omega (arith, f);
  failed_rose = λ e. cc;
  faults_calm = λ e. f;
  missing_later = later;
  missing_once = once;
  no_file_rose = λ e. rose;
  missing_calm = λ e. absurd (e refl);
}

-- a file that was not opened, by the fault of its opening
pub causes_unopened : (T : Type 0) (faults faults' missing missing' : ℕ) (fault : OpenFault) → HasCauses {T = ℕ} faults faults' missing missing' OpenFailed OpenNoFile (Err fault) → HasCauses {T = T} faults faults' missing missing' Failed NoFile (Err (read_fault fault))
causes_unopened T faults faults' missing missing' OpenNoFile h = no_file_once T faults faults' missing missing' (h.faults_calm (λ e. cc)) h.missing_later h.missing_once (h.no_file_rose refl)
causes_unopened T faults faults' missing missing' OpenFailed h = failed_once T faults faults' missing missing' h.faults_later h.faults_once (h.failed_rose refl) (h.missing_calm (λ e. cc))
causes_unopened T faults faults' missing missing' OpenMemory h = quiet_memory T faults faults' missing missing' (h.faults_calm (λ e. cc)) (h.missing_calm (λ e. cc))

-- a read that failed behind others that did not
pub causes_failed : (T : Type 0) {E : Type 0} (faults mid faults' missing missing_mid missing' : ℕ) (failed : E) → mid ≡ faults → missing_mid ≡ missing → HasCause {T = ℕ} mid faults' (Err failed) → missing' ≡ missing_mid → HasCauses {T = T} faults faults' missing missing' Failed NoFile (Err Failed)
causes_failed T faults mid faults' missing missing_mid missing' failed f m cause same =
    failed_once T faults faults' missing missing' (omega (arith, f, cause.later)) (omega (arith, f, cause.once)) (omega (arith, f, cause.failed)) (same ∙ m)
