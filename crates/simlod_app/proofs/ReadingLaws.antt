-- What is due of all files, by what is due of the next one.
use Rattle.std.proofs.Common.{◌≡◌, ◌⊎◌, inl, inr, ℕ, List, ◌∷◌, ◌++◌, map, Option, Ok, subst}
use Rattle.std.specs.Prelude.{IfSome, IsSomeAnd, IsTrue}
use Rattle.cloud_io.specs.Files.{Folder, Opened, OpenedFile}
use Rattle.cube_math.specs.Points.{PointValue}
use Rattle.run_report.specs.declared.fault.Fault.{Fault}
use Rattle.run_report.specs.declared.fault.Fault.TheVariants as fault
use Rattle.run_words.specs.Commands.{Text}
use Rattle.simlod_app.specs.declared.reading.Reading.{Reading}
use Rattle.simlod_app.specs.Dues.{IsDue}
use Rattle.simlod_app.specs.Outcomes.{IsReached}
use Rattle.simlod_app.specs.Reads.{AllEnded, AreOpened, IsOpened, MayCutShort, OfFile, OfFiles, listed, source_of}
use Rattle.simlod_app.specs.Runs.{Framed, clouds_of, framed_in, frame_step}
use Rattle.simlod_app.proofs.Openings.{AreRead, is_ended, of_files, opened_next, read_for_next}
use Rattle.simlod_app.proofs.Readings.{refused_frame, refused_next}

-- what is due of the files of these names, where their reading ends by a fault
abbrev pub Ended : Option Folder → List Text → Reading → Opened → Opened → Type 0 → Type 0 → Fault → Type 0
Ended told names how old new fails misses f =
    (opened : Opened) × AreOpened told names old new opened × (MayCutShort f ⊎ AllEnded opened)
    × OfFiles told names opened (λ files. IsDue (λ name. IsReached how files name × fails) misses (clouds_of how files) f)

-- the next file could not be read, or its bytes are refused
pub ended_next : (told : Option Folder) (names more : List Text) (how : Reading) (first : Option Framed) (clouds : List (List PointValue)) (old mid new : Opened) (name : Text) (file : Option OpenedFile)
    (fails fails' misses misses' : Type 0) (f : Fault) → AreRead told names how first clouds old mid → IsOpened told name mid new file → MayCutShort f ⊎ IfSome file (λ o. IsTrue o.ended)
    → (fails → fails') → (misses → misses') → OfFile told name file (λ content. IsDue (λ failed. (failed ≡ name) × fails) misses (framed_in how name content) f)
    → Ended told (names ++ name ∷ more) how old new fails' misses' f
ended_next told names more how first clouds old mid new name file fails fails' misses misses' f before next read failing missing due = (
  before.opened ++ listed file,
  opened_next told names more how first clouds old mid new name file before next,
  read_for_next before.opened file f before.ended read,
  of_files told names more how first clouds old mid new name file (λ content. IsDue (λ failed. (failed ≡ name) × fails) misses (framed_in how name content) f)
      (λ files. IsDue (λ failed. IsReached how files failed × fails') misses' (clouds_of how files) f) before next
      (λ content rest d. refused_next how first clouds (map source_of before.opened) rest name content fails fails' misses misses' f before.have failing missing d) due,
)

-- the next file was read, and is in another frame than the first
pub ended_frame : (told : Option Folder) (names more : List Text) (how : Reading) (first : Option Framed) (clouds : List (List PointValue)) (old mid new : Opened) (name : Text) (file : Option OpenedFile)
    (cloud : List PointValue) (frame : Option (List ℕ)) (fails misses : Type 0) (f : Fault) → AreRead told names how first clouds old mid → IsOpened told name mid new file → IsSomeAnd file (λ o. IsTrue o.ended)
    → OfFile told name file (λ content. framed_in how name content ≡ Ok (cloud, frame)) → IsDue (λ failed. ⊥) ⊥ (frame_step first name frame) f
    → Ended told (names ++ name ∷ more) how old new fails misses f
ended_frame told names more how first clouds old mid new name file cloud frame fails misses f before next ended read due = (
  before.opened ++ listed file,
  opened_next told names more how first clouds old mid new name file before next,
  read_for_next before.opened file f before.ended (inr (is_ended file ended)),
  of_files told names more how first clouds old mid new name file (λ content. framed_in how name content ≡ Ok (cloud, frame))
      (λ files. IsDue (λ failed. IsReached how files failed × fails) misses (clouds_of how files) f) before next
      (λ content rest is. refused_frame how first clouds (map source_of before.opened) rest name content cloud frame (λ failed. IsReached how (map source_of before.opened ++ (name, content) ∷ rest) failed × fails) misses f before.have is due) read,
)

-- the next file was read, and there is no memory for it
pub ended_full : (told : Option Folder) (names more : List Text) (how : Reading) (first : Option Framed) (clouds : List (List PointValue)) (old mid new : Opened) (name : Text) (file : Option OpenedFile)
    (fails misses : Type 0) (Q : Option (List ℕ) → Type 0) → AreRead told names how first clouds old mid → IsOpened told name mid new file → OfFile told name file Q
    → Ended told (names ++ name ∷ more) how old new fails misses fault.Memory
ended_full told names more how first clouds old mid new name file fails misses Q before next has = (
  before.opened ++ listed file,
  opened_next told names more how first clouds old mid new name file before next,
  inl tt,
  of_files told names more how first clouds old mid new name file Q (λ files. IsDue (λ failed. IsReached how files failed × fails) misses (clouds_of how files) fault.Memory) before next
      (λ content rest q. tt) has,
)

-- what inputs that keep their files tell
pub opened_told : (told before : Option Folder) (name : Text) (mid new : Opened) (file : Option OpenedFile) → told ≡ before → IsOpened told name mid new file → IsOpened before name mid new file
opened_told told before name mid new file same is = subst (λ (t : Option Folder). IsOpened t name mid new file) same is

pub file_told : (told before : Option Folder) (name : Text) (file : Option OpenedFile) (P : Option (List ℕ) → Type 0) → told ≡ before → OfFile told name file P → OfFile before name file P
file_told told before name file P same is = subst (λ (t : Option Folder). OfFile t name file P) same is
