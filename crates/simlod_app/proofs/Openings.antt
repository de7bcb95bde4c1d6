-- The files that a run has opened, and what is known of all files by them.
use Rattle.std.proofs.Common.{◌≡◌, ◌⊎◌, inl, inr, ℕ, ◌-◌, List, [], ◌∷◌, ◌++◌, map, length, length-append, take, drop, Some, None, Option, Ok, ap, ◌∙◌, sym, refl, subst, arith, append_assoc}
use Rattle.std.specs.Prelude.{All, IfSome, IsSomeAnd, IsTrue, option_map}
use Rattle.std.proofs.lemmas.List.{append-nil, length-map, map-append}
use Rattle.std.proofs.lemmas.List.Elements.{All-nil, All-append, All-cons, All-head, All-tail, All-take}
use Rattle.std.proofs.Math.Seq.{take-append_seam, drop-append_seam}
use Rattle.std.specs.Io.{StartsWith}
use Rattle.cloud_io.specs.Files.{Folder, Opened, OpenedFile, IsGivenBy}
use Rattle.cube_math.specs.Points.{PointValue}
use Rattle.run_report.specs.declared.fault.Fault.{Fault}
use Rattle.run_words.specs.Commands.{Text}
use Rattle.simlod_app.specs.declared.reading.Reading.{Reading}
use Rattle.simlod_app.specs.Reads.{AllEnded, AreOpened, AreReadWhole, IsOpened, MayCutShort, OfFile, OfFiles, files_in, files_read, listed, source_of, unknown}
use Rattle.simlod_app.specs.Runs.{Source, Framed, clouds_of, framed_in, frame_step}
use Rattle.simlod_app.proofs.Readings.{HaveClouds, have_clouds, one_more}

abbrev pub name_of : OpenedFile → Text
name_of o = o.name

-- the first so many files were opened and read to their ends, and have these clouds
pub record AreRead (told : Option Folder) (names : List Text) (how : Reading) (first : Option Framed) (clouds : List (List PointValue)) (old new : Opened) : Type 0 where
  pub opened : Opened
  pub behind : new ≡ old ++ opened
  pub all : map name_of opened ≡ names
  pub ended : AllEnded opened
  pub given : IfSome told (λ folder. All (IsGivenBy folder) opened)
  pub have : HaveClouds how first clouds (map source_of opened)

none_given : (told : Option Folder) → IfSome told (λ folder. All (IsGivenBy folder) [])
none_given None = tt
none_given (Some folder) = All-nil (IsGivenBy folder)

pub none_read : (told : Option Folder) (how : Reading) (old : Opened) → AreRead told [] how None [] old old
none_read told how old = record {
  opened = [];
  behind = sym (append-nil old);
  all = refl;
  ended = All-nil (λ (o : OpenedFile). IsTrue o.ended);
  given = none_given told;
  have = record { frame = refl; read = refl };
}

more_given : (told : Option Folder) (opened : Opened) (file : Option OpenedFile) → IfSome told (λ folder. All (IsGivenBy folder) opened) → IfSome told (λ folder. IfSome file (IsGivenBy folder))
    → IfSome told (λ folder. All (IsGivenBy folder) (opened ++ listed file))
more_given None opened file before one = tt
more_given (Some folder) opened None before one = subst (λ (os : Opened). All (IsGivenBy folder) os) (sym (append-nil opened)) before
more_given (Some folder) opened (Some o) before one = All-append (IsGivenBy folder) opened (o ∷ []) before (All-cons (IsGivenBy folder) o [] one (All-nil (IsGivenBy folder)))

more_ended : (opened : Opened) (file : Option OpenedFile) → AllEnded opened → IfSome file (λ o. IsTrue o.ended) → AllEnded (opened ++ listed file)
more_ended opened None before one = subst AllEnded (sym (append-nil opened)) before
more_ended opened (Some o) before one = All-append (λ (o : OpenedFile). IsTrue o.ended) opened (o ∷ []) before (All-cons (λ (o : OpenedFile). IsTrue o.ended) o [] one (All-nil (λ (o : OpenedFile). IsTrue o.ended)))

-- opened files that have the first of the names
begins : (opened : Opened) (names more : List Text) → map name_of opened ≡ names → map name_of opened ≡ take (length opened) (names ++ more)
begins opened names more all =
    let len : length opened ≡ length names = sym (length-map opened name_of) ∙ ap length all in
    all ∙ sym (take-append_seam names more) ∙ ap (λ (n : ℕ). take n (names ++ more)) (sym len)

past : (opened : Opened) (names more : List Text) → map name_of opened ≡ names → drop (length opened) (names ++ more) ≡ more
past opened names more all =
    let len : length opened ≡ length names = sym (length-map opened name_of) ∙ ap length all in
    ap (λ (n : ℕ). drop n (names ++ more)) len ∙ drop-append_seam names more

names_more : (opened : Opened) (o : OpenedFile) (names : List Text) (name : Text) → map name_of opened ≡ names → o.name ≡ name → map name_of (opened ++ o ∷ []) ≡ names ++ name ∷ []
names_more opened o names name all named = map-append name_of opened (o ∷ []) ∙ ap (λ (ns : List Text). ns ++ o.name ∷ []) all ∙ ap (λ (n : Text). names ++ n ∷ []) named

first_more : (opened : Opened) (file : Option OpenedFile) (names more : List Text) (name : Text) → map name_of opened ≡ names → IfSome file (λ o. o.name ≡ name)
    → map name_of (opened ++ listed file) ≡ take (length (opened ++ listed file)) (names ++ name ∷ more)
first_more opened None names more name all named = subst (λ (os : Opened). map name_of os ≡ take (length os) (names ++ name ∷ more)) (sym (append-nil opened)) (begins opened names (name ∷ more) all)
first_more opened (Some o) names more name all named =
    begins (opened ++ o ∷ []) (names ++ name ∷ []) more (names_more opened o names name all named) ∙ ap (take (length (opened ++ o ∷ []))) (append_assoc names (name ∷ []) more)

ended_more : (opened : Opened) (file : Option OpenedFile) → AllEnded opened → AllEnded (take (length (opened ++ listed file) - 1) (opened ++ listed file))
ended_more opened None ended = All-take (λ (o : OpenedFile). IsTrue o.ended) (length (opened ++ []) - 1) (opened ++ []) (more_ended opened None ended tt)
ended_more opened (Some o) ended =
    let len : length (opened ++ o ∷ []) - 1 ≡ length opened = omega (arith, length-append opened (o ∷ [])) in
    subst AllEnded (sym (ap (λ (n : ℕ). take n (opened ++ o ∷ [])) len ∙ take-append_seam opened (o ∷ []))) ended

-- the files that were opened, where the reading of the next one ends all
pub opened_next : (told : Option Folder) (names more : List Text) (how : Reading) (first : Option Framed) (clouds : List (List PointValue)) (old mid new : Opened) (name : Text) (file : Option OpenedFile)
    (before : AreRead told names how first clouds old mid) → IsOpened told name mid new file → AreOpened told (names ++ name ∷ more) old new (before.opened ++ listed file)
opened_next told names more how first clouds old mid new name file before next = record {
  behind = next.behind ∙ ap (λ (os : Opened). os ++ listed file) before.behind ∙ append_assoc old before.opened (listed file);
  first = first_more before.opened file names more name before.all next.named;
  ended = ended_more before.opened file before.ended;
  given = more_given told before.opened file before.given next.given;
}

pub read_for_next : (opened : Opened) (file : Option OpenedFile) (f : Fault) → AllEnded opened → MayCutShort f ⊎ IfSome file (λ o. IsTrue o.ended) → MayCutShort f ⊎ AllEnded (opened ++ listed file)
read_for_next opened file f before (inl cut) = inl cut
read_for_next opened file f before (inr one) = inr (more_ended opened file before one)

-- a file that was read to its end
pub is_ended : (file : Option OpenedFile) → IsSomeAnd file (λ o. IsTrue o.ended) → IfSome file (λ o. IsTrue o.ended)
is_ended None h = tt
is_ended (Some o) h = h

-- all files as they were read, with the next one
read_shape : (names more : List Text) (name : Text) (opened : Opened) (file : Option OpenedFile) → map name_of opened ≡ names → IfSome file (λ o. o.name ≡ name)
    → files_read (names ++ name ∷ more) (opened ++ listed file) ≡ map source_of opened ++ (name, option_map (λ o. o.given) file) ∷ map unknown more
unfolding files_read
read_shape names more name opened None all named =
    ap (λ (os : Opened). map source_of os ++ map unknown (drop (length os) (names ++ name ∷ more))) (append-nil opened)
    ∙ ap (λ (ns : List Text). map source_of opened ++ map unknown ns) (past opened names (name ∷ more) all)
read_shape names more name opened (Some o) all named =
    let os : Opened = opened ++ o ∷ [] in
    ap (λ (ns : List Text). map source_of os ++ map unknown (drop (length os) ns)) (sym (append_assoc names (name ∷ []) more))
    ∙ ap (λ (ns : List Text). map source_of os ++ map unknown ns) (past os (names ++ name ∷ []) more (names_more opened o names name all named))
    ∙ ap (λ (fs : List Source). fs ++ map unknown more) (map-append source_of opened (o ∷ []))
    ∙ append_assoc (map source_of opened) (source_of o ∷ []) (map unknown more)
    ∙ ap (λ (n : Text). map source_of opened ++ (n, Some o.given) ∷ map unknown more) named

-- what a file has whose end was told
all_given : (given : List ℕ) (ended : Type 0) (content : Option (List ℕ)) → IsSomeAnd content (λ bytes. StartsWith bytes given × (ended → given ≡ bytes)) → ended → content ≡ Some given
all_given given ended None h is = absurd h
all_given given ended (Some bytes) h is = ap Some (sym (h.1 is))

-- files that were read to their ends, as the folder has them
told_sources : (folder : Folder) (opened : Opened) → AllEnded opened → All (IsGivenBy folder) opened → map (λ name. (name, folder name)) (map name_of opened) ≡ map source_of opened
told_sources folder [] ended given = refl
told_sources folder (o ∷ opened) ended given =
    let here : folder o.name ≡ Some o.given = all_given o.given (IsTrue o.ended) (folder o.name) (All-head (IsGivenBy folder) o opened given) (All-head (λ (p : OpenedFile). IsTrue p.ended) o opened ended) in
    let rest = told_sources folder opened (All-tail (λ (p : OpenedFile). IsTrue p.ended) o opened ended) (All-tail (IsGivenBy folder) o opened given) in
    ap (λ (c : Option (List ℕ)). (o.name, c) ∷ map (λ name. (name, folder name)) (map name_of opened)) here ∙ ap (λ (fs : List Source). (o.name, Some o.given) ∷ fs) rest

folder_shape : (folder : Folder) (names more : List Text) (opened : Opened) → map name_of opened ≡ names → AllEnded opened → All (IsGivenBy folder) opened
    → files_in folder (names ++ more) ≡ map source_of opened ++ map (λ name. (name, folder name)) more
unfolding files_in
folder_shape folder names more opened all ended given =
    map-append (λ (name : Text). (name, folder name)) names more
    ∙ ap (λ (ns : List Text). map (λ name. (name, folder name)) ns ++ map (λ name. (name, folder name)) more) (sym all)
    ∙ ap (λ (fs : List Source). fs ++ map (λ name. (name, folder name)) more) (told_sources folder opened ended given)

-- a fact of all files, by what is known of the next one
pub of_files : (told : Option Folder) (names more : List Text) (how : Reading) (first : Option Framed) (clouds : List (List PointValue)) (old mid new : Opened) (name : Text) (file : Option OpenedFile)
    (Q : Option (List ℕ) → Type 0) (P : List Source → Type 0) (before : AreRead told names how first clouds old mid) → IsOpened told name mid new file
    → ((content : Option (List ℕ)) (rest : List Source) → Q content → P (map source_of before.opened ++ (name, content) ∷ rest)) → OfFile told name file Q
    → OfFiles told (names ++ name ∷ more) (before.opened ++ listed file) P
of_files told names more how first clouds old mid new name file Q P before next makes of =
    (subst P (sym (read_shape names more name before.opened file before.all next.named)) (makes (option_map (λ o. o.given) file) (map unknown more) of.0), of_folder told before.given of.1)
  where
    of_folder : (told : Option Folder) → IfSome told (λ folder. All (IsGivenBy folder) before.opened) → IfSome told (λ folder. Q (folder name)) → IfSome told (λ folder. P (files_in folder (names ++ name ∷ more)))
    of_folder None given has = tt
    of_folder (Some folder) given has =
        subst P (sym (folder_shape folder names (name ∷ more) before.opened before.all before.ended given)) (makes (folder name) (map (λ name. (name, folder name)) more) has)

-- one file more was read
one_more_file : (told : Option Folder) (names : List Text) (how : Reading) (first after : Option Framed) (clouds : List (List PointValue)) (old mid new : Opened) (name : Text) (o : OpenedFile) (cloud : List PointValue)
    (frame : Option (List ℕ)) → AreRead told names how first clouds old mid → IsOpened told name mid new (Some o) → IsTrue o.ended → framed_in how name (Some o.given) ≡ Ok (cloud, frame) → frame_step first name frame ≡ Ok after
    → AreRead told (names ++ name ∷ []) how after (clouds ++ cloud ∷ []) old new
one_more_file told names how first after clouds old mid new name o cloud frame before next ended read step =
    let files : map source_of (before.opened ++ o ∷ []) ≡ map source_of before.opened ++ (name, Some o.given) ∷ [] =
    map-append source_of before.opened (o ∷ []) ∙ ap (λ (n : Text). map source_of before.opened ++ (n, Some o.given) ∷ []) next.named in
    record {
      opened = before.opened ++ o ∷ [];
      behind = next.behind ∙ ap (λ (os : Opened). os ++ o ∷ []) before.behind ∙ append_assoc old before.opened (o ∷ []);
      all = names_more before.opened o names name before.all next.named;
      ended = more_ended before.opened (Some o) before.ended ended;
      given = more_given told before.opened (Some o) before.given next.given;
      have = subst (λ (fs : List Source). HaveClouds how after (clouds ++ cloud ∷ []) fs) (sym files)
          (one_more how first after clouds (map source_of before.opened) name (Some o.given) cloud frame before.have read step);
    }

pub one_more_read : (told : Option Folder) (names : List Text) (how : Reading) (first after : Option Framed) (clouds : List (List PointValue)) (old mid new : Opened) (name : Text) (file : Option OpenedFile) (cloud : List PointValue)
    (frame : Option (List ℕ)) → AreRead told names how first clouds old mid → IsOpened told name mid new file → IsSomeAnd file (λ o. IsTrue o.ended) → framed_in how name (option_map (λ o. o.given) file) ≡ Ok (cloud, frame) → frame_step first name frame ≡ Ok after
    → AreRead told (names ++ name ∷ []) how after (clouds ++ cloud ∷ []) old new
one_more_read told names how first after clouds old mid new name None cloud frame before next ended read step = absurd ended
one_more_read told names how first after clouds old mid new name (Some o) cloud frame before next ended read step = one_more_file told names how first after clouds old mid new name o cloud frame before next ended read step

-- files that were all opened
as_read : (names : List Text) (opened : Opened) → map name_of opened ≡ names → files_read names opened ≡ map source_of opened
unfolding files_read
as_read names opened all =
    ap (λ (ns : List Text). map source_of opened ++ map unknown (drop (length opened) ns)) (sym (append-nil names))
    ∙ ap (λ (ns : List Text). map source_of opened ++ map unknown ns) (past opened names [] all)
    ∙ append-nil (map source_of opened)

-- all files were read
abbrev pub AllRead : Option Folder → List Text → Reading → List (List PointValue) → Opened → Opened → Type 0
AllRead told names how clouds old new =
    (opened : Opened) × AreOpened told names old new opened × AreReadWhole names opened × OfFiles told names opened (λ files. clouds_of how files ≡ Ok clouds)

pub all_read : (told : Option Folder) (names : List Text) (how : Reading) (first : Option Framed) (clouds : List (List PointValue)) (old new : Opened) → AreRead told names how first clouds old new → AllRead told names how clouds old new
all_read told names how first clouds old new read =
    let P : List Source → Type 0 = λ files. clouds_of how files ≡ Ok clouds in
    let whole : P (map source_of read.opened) = have_clouds how first clouds (map source_of read.opened) read.have in (
      read.opened,
      record {
        behind = read.behind;
        first = begins read.opened names [] read.all ∙ ap (take (length read.opened)) (append-nil names);
        ended = All-take (λ (o : OpenedFile). IsTrue o.ended) (length read.opened - 1) read.opened read.ended;
        given = read.given;
      },
      record { all = read.all; ended = read.ended },
      (subst P (sym (as_read names read.opened read.all)) whole, as_told told whole read.given),
    )
  where
    as_told : (told : Option Folder) → clouds_of how (map source_of read.opened) ≡ Ok clouds → IfSome told (λ folder. All (IsGivenBy folder) read.opened) → IfSome told (λ folder. clouds_of how (files_in folder names) ≡ Ok clouds)
    as_told None whole given = tt
    as_told (Some folder) whole given =
        let same : files_in folder names ≡ map source_of read.opened =
        ap (files_in folder) (sym (append-nil names)) ∙ folder_shape folder names [] read.opened read.all read.ended given ∙ append-nil (map source_of read.opened) in
        subst (λ (files : List Source). clouds_of how files ≡ Ok clouds) (sym same) whole

-- a fact of all files by another
pub of_each : (told : Option Folder) (names : List Text) (opened : Opened) (P Q : List Source → Type 0) → ((files : List Source) → P files → Q files) → OfFiles told names opened P → OfFiles told names opened Q
of_each None names opened P Q makes of = (makes (files_read names opened) of.0, tt)
of_each (Some folder) names opened P Q makes of = (makes (files_read names opened) of.0, makes (files_in folder names) of.1)

-- a fact of whatever files there are
pub of_all : (told : Option Folder) (names : List Text) (opened : Opened) (P : List Source → Type 0) → ((files : List Source) → P files) → OfFiles told names opened P
of_all None names opened P always = (always (files_read names opened), tt)
of_all (Some folder) names opened P always = (always (files_read names opened), always (files_in folder names))

-- no file was opened
pub none_opened : (told : Option Folder) (names : List Text) (old : Opened) → AreOpened told names old old []
none_opened told names old = record { behind = sym (append-nil old); first = refl; ended = All-nil (λ (o : OpenedFile). IsTrue o.ended); given = none_given told }

pub none_to_end : AllEnded []
none_to_end = All-nil (λ (o : OpenedFile). IsTrue o.ended)
