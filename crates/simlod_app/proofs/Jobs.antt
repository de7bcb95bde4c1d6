-- The job of the words, and what is due of it.
use Rattle.std.proofs.Common.{◌≡◌, ◌⊎◌, inl, inr, ℕ, List, [], Option, Result, Ok, Err, ap, ◌∙◌, sym, refl, subst, Global}
use Rattle.std.specs.Prelude.{Vec, vec_items, Bool, true, false}
use Rattle.cloud_io.specs.Files.{Folder, Opened}
use Rattle.cube_math.specs.Points.{PointValue}
use Rattle.run_report.specs.declared.fault.Fault.{Fault}
use Rattle.run_report.specs.declared.fault.Fault.TheVariants.{Command}
use Rattle.run_words.specs.Commands.{Text}
use Rattle.run_words.specs.declared.command.CommandName.{CommandName}
use Rattle.run_words.specs.Jobs.{job}
use Rattle.run_words.specs.Values.{JobValue}
use Rattle.run_words.specs.declared.words.WordsFault.{WordsFault}
use Rattle.run_words.specs.declared.words.WordsFault.TheVariants as words
use Rattle.simlod_app.specs.declared.reading.Reading.{Reading}
use Rattle.simlod_app.specs.Dues.{IsDue, GivesOver, Gives}
use Rattle.simlod_app.specs.Outcomes.{IsReached, IsNextOf}
use Rattle.simlod_app.specs.Reads.{AllEnded, AreOpened, AreReadFor, AreReadWhole, MayCutShort, OfFiles, files_named, job_files}
use Rattle.simlod_app.specs.RunFaults.{words_fault, IsOrMemory}
use Rattle.simlod_app.specs.Runs.{Source, ◌>>=◌, clouds_of, clouds_output, is_run, or_words_fault, reading_of, run_here, job_here, job_output, words_output}
use Rattle.simlod_app.proofs.DueLaws.{due_first, due_apart, gives_apart, gives_through, gives_next}
use Rattle.simlod_app.proofs.Openings.{none_opened, none_to_end, of_all, of_each}

-- each refusal of the words is due by itself
due_of_words : (due : Result JobValue Fault) (e : WordsFault) → due ≡ Err (words_fault e) → IsDue (λ name. ⊥) ⊥ due (words_fault e)
due_of_words due words.Command is = is
due_of_words due (words.Word at) is = is
due_of_words due words.Options is = is
due_of_words due (words.Value option) is = is
due_of_words due (words.Pixels n) is = is
due_of_words due words.Memory is = tt

due_in_place : (due : Result JobValue Fault) (f g : Fault) → f ≡ g → IsDue (λ name. ⊥) ⊥ due g → IsDue (λ name. ⊥) ⊥ due f
due_in_place due f g same h = subst (λ (e : Fault). IsDue (λ name. ⊥) ⊥ due e) (sym same) h

-- a command that is not run here
pub other_command : (j : JobValue) (command : CommandName) (run : Bool) → j.command ≡ command → run ≡ is_run command → run ≡ false → run_here j ≡ Err Command
unfolding run_here
other_command j command run is same not_run = rw (ap is_run is ∙ sym same ∙ not_run) refl

pub runs_here : (j : JobValue) (command : CommandName) (run : Bool) → j.command ≡ command → run ≡ is_run command → run ≡ true → run_here j ≡ Ok j
unfolding run_here
runs_here j command run is same runs = rw (ap is_run is ∙ sym same ∙ runs) refl

-- words that are no job
pub no_job : (ws : List Text) (e : WordsFault) (f : Fault) → (e ≡ words.Memory) ⊎ (job ws ≡ Err e) → IsOrMemory (words_fault e) f → IsDue (λ name. ⊥) ⊥ (job_here ws) f
unfolding job_here
no_job ws e f refused (inl memory) = due_in_place (job_here ws) f _ memory tt
no_job ws e f (inl memory) (inr is) = due_in_place (job_here ws) f _ (is ∙ ap words_fault memory) tt
no_job ws e f (inr refused) (inr is) = due_in_place (job_here ws) f _ is (due_of_words (job_here ws) e (ap (λ r. or_words_fault r >>= run_here) refused))

-- words that are a job
pub a_job : (ws : List Text) (j : JobValue) (found : Result JobValue Fault) → job ws ≡ Ok j → Gives (λ k. k) found (run_here j) → Gives (λ k. k) found (job_here ws)
unfolding job_here
a_job ws j found is h = gives_next (λ name. ⊥) ⊥ (λ k. k) (or_words_fault (job ws)) j run_here found (ap or_words_fault is) h

-- words that are no job here: no file is opened
pub refused_words : (told : Option Folder) (ws : List Text) (old : Opened) (fails misses : Type 0) (f : Fault) → IsDue (λ name. ⊥) ⊥ (job_here ws) f
    → (opened : Opened) × AreOpened told (job_files ws) old old opened × (MayCutShort f ⊎ AllEnded opened)
    × OfFiles told (job_files ws) opened (λ files. IsDue (λ name. IsNextOf ws files name × fails) misses (words_output ws files) f)
refused_words told ws old fails misses f h = (
  [],
  none_opened told (job_files ws) old,
  inr none_to_end,
  of_all told (job_files ws) [] (λ files. IsDue (λ name. IsNextOf ws files name × fails) misses (words_output ws files) f)
      (λ files. due_first (λ name. IsNextOf ws files name × fails) misses (job_here ws) _ f (due_apart _ misses (job_here ws) f h)),
)

-- what is due of a job is due of its words
due_of_job : (ws : List Text) (j : JobValue) (files : List Source) (fails misses : Type 0) (found : Result (Vec ℕ Global) Fault) → job_here ws ≡ Ok j
    → GivesOver (λ name. IsReached (reading_of j) files name × fails) misses vec_items found (job_output j files)
    → GivesOver (λ name. IsNextOf ws files name × fails) misses vec_items found (words_output ws files)
due_of_job ws j files fails misses found is h =
    gives_next (λ name. IsNextOf ws files name × fails) misses vec_items (job_here ws) j (λ k. job_output k files) found is
    (gives_through (λ name. IsReached (reading_of j) files name × fails) (λ name. IsNextOf ws files name × fails) misses misses vec_items found
    (job_output j files) (job_output j files) (λ name r. ((j, is, r.0), r.1)) (λ m. m) refl h)

pub answer_of_job : (told : Option Folder) (ws : List Text) (j : JobValue) (old new : Opened) (fails misses : Type 0) (found : Result (Vec ℕ Global) Fault) → job_here ws ≡ Ok j
    → (opened : Opened) × AreOpened told j.files old new opened × AreReadFor found j.files opened
    × OfFiles told j.files opened (λ files. GivesOver (λ name. IsReached (reading_of j) files name × fails) misses vec_items found (job_output j files))
    → (opened : Opened) × AreOpened told (job_files ws) old new opened × AreReadFor found (job_files ws) opened
    × OfFiles told (job_files ws) opened (λ files. GivesOver (λ name. IsNextOf ws files name × fails) misses vec_items found (words_output ws files))
answer_of_job told ws j old new fails misses found is h =
    let names : j.files ≡ job_files ws = sym (ap files_named is) in
    let P : List Source → Type 0 = λ files. GivesOver (λ name. IsNextOf ws files name × fails) misses vec_items found (words_output ws files) in (
      h.0,
      subst (λ (ns : List Text). AreOpened told ns old new h.0) names h.1,
      subst (λ (ns : List Text). AreReadFor found ns h.0) names h.2,
      subst (λ (ns : List Text). OfFiles told ns h.0 P) names
          (of_each told j.files h.0 (λ files. GivesOver (λ name. IsReached (reading_of j) files name × fails) misses vec_items found (job_output j files)) P
          (λ files g. due_of_job ws j files fails misses found is g) h.3),
    )

-- files whose reading ended by a fault
pub clouds_refused : (told : Option Folder) (j : JobValue) (names : List Text) (how : Reading) (old new : Opened) (fails misses : Type 0) (f : Fault) → names ≡ j.files → how ≡ reading_of j
    → (opened : Opened) × AreOpened told names old new opened × (MayCutShort f ⊎ AllEnded opened)
    × OfFiles told names opened (λ files. IsDue (λ name. IsReached how files name × fails) misses (clouds_of how files) f)
    → (opened : Opened) × AreOpened told j.files old new opened × (MayCutShort f ⊎ AllEnded opened)
    × OfFiles told j.files opened (λ files. IsDue (λ name. IsReached (reading_of j) files name × fails) misses (job_output j files) f)
clouds_refused told j names how old new fails misses f named same h =
    let P : List Source → Type 0 = λ files. IsDue (λ name. IsReached (reading_of j) files name × fails) misses (job_output j files) f in (
      h.0,
      subst (λ (ns : List Text). AreOpened told ns old new h.0) named h.1,
      h.2,
      subst (λ (ns : List Text). OfFiles told ns h.0 P) named
          (of_each told names h.0 (λ files. IsDue (λ name. IsReached how files name × fails) misses (clouds_of how files) f) P
          (λ files d. due_first (λ name. IsReached (reading_of j) files name × fails) misses (clouds_of (reading_of j) files) (clouds_output j) f
          (subst (λ (r : Reading). IsDue (λ name. IsReached r files name × fails) misses (clouds_of r files) f) same d)) h.3),
    )

read_for : (names : List Text) (opened : Opened) (found : Result (Vec ℕ Global) Fault) → AreReadWhole names opened → AreReadFor found names opened
read_for names opened (Ok text) whole = whole
read_for names opened (Err f) whole = inr whole.ended

-- files that were read
pub clouds_shown : (told : Option Folder) (j : JobValue) (names : List Text) (how : Reading) (old new : Opened) (fails misses : Type 0) (clouds : List (List PointValue)) (found : Result (Vec ℕ Global) Fault) → names ≡ j.files → how ≡ reading_of j
    → (opened : Opened) × AreOpened told names old new opened × AreReadWhole names opened × OfFiles told names opened (λ files. clouds_of how files ≡ Ok clouds)
    → Gives vec_items found (clouds_output j clouds)
    → (opened : Opened) × AreOpened told j.files old new opened × AreReadFor found j.files opened
    × OfFiles told j.files opened (λ files. GivesOver (λ name. IsReached (reading_of j) files name × fails) misses vec_items found (job_output j files))
clouds_shown told j names how old new fails misses clouds found named same h gives =
    let P : List Source → Type 0 = λ files. GivesOver (λ name. IsReached (reading_of j) files name × fails) misses vec_items found (job_output j files) in (
      h.0,
      subst (λ (ns : List Text). AreOpened told ns old new h.0) named h.1,
      read_for j.files h.0 found (subst (λ (ns : List Text). AreReadWhole ns h.0) named h.2),
      subst (λ (ns : List Text). OfFiles told ns h.0 P) named
          (of_each told names h.0 (λ files. clouds_of how files ≡ Ok clouds) P
          (λ files is. gives_next (λ name. IsReached (reading_of j) files name × fails) misses vec_items (clouds_of (reading_of j) files) clouds (clouds_output j) found
          (ap (λ (r : Reading). clouds_of r files) (sym same) ∙ is)
          (gives_apart (λ name. IsReached (reading_of j) files name × fails) misses vec_items found (clouds_output j clouds) gives)) h.3),
    )
