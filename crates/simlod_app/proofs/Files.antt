-- One file that was read, or not.
use Rattle.std.proofs.Common.{◌≡◌, ◌⊎◌, inl, inr, ℕ, ◌<◌, ◌≤◌, List, length, Bool, true, false, nat_lt, Some, None, Option, Result, Ok, Err, ap, ◌∙◌, sym, refl, subst, Global, if◌then◌else◌}
use Rattle.std.specs.Prelude.{Vec, IfSome, IsSomeAnd, IfOk, IsTrue, option_map}
use Rattle.std.proofs.lemmas.Bool.{lt-ltb, le-ltb}
use Rattle.std.proofs.lemmas.List.{append-nil}
use Rattle.cloud_io.specs.Counts.{Rose, HasCauses}
use Rattle.cloud_io.specs.Files.{Folder, Opened, OpenedFile, begun, finished}
use Rattle.cloud_io.specs.Whole.{OpensAs, ReadsWhole, ReadsTo, StopsWithin}
use Rattle.cloud_io.specs.declared.faults.ReadFault.{ReadFault}
use Rattle.cloud_io.specs.declared.faults.ReadFault.TheVariants as reading
use Rattle.cube_math.specs.Points.{PointValue}
use Rattle.las_points.specs.Clouds.{CloudValue}
use Rattle.las_points.specs.Fields.{frame}
use Rattle.las_points.specs.Reading.{las, cloud, unless, IsFault as IsLasFault}
use Rattle.las_points.specs.Refusals.{first_refusal}
use Rattle.las_points.specs.declared.reader.LasFault.{LasFault}
use Rattle.las_points.specs.declared.reader.LasFault.TheVariants as bad
use Rattle.las_points.specs.declared.reader.RgbByte.{RgbByte}
use Rattle.run_report.specs.declared.fault.Fault.{Fault}
use Rattle.run_report.specs.declared.fault.Fault.TheVariants as fault
use Rattle.run_words.specs.Commands.{Text}
use Rattle.xyz_points.specs.Reading.{xyz, IsFault}
use Rattle.xyz_points.specs.declared.reader.XyzFault.{XyzFault}
use Rattle.xyz_points.specs.declared.reader.XyzFault.TheVariants as text
use Rattle.simlod_app.specs.declared.reading.Reading.{Reading}
use Rattle.simlod_app.specs.declared.reading.FileCloud.{FileCloud}
use Rattle.simlod_app.specs.Dues.{IsDue, GivesOver, Gives}
use Rattle.simlod_app.specs.Reads.{IsOpened, IsReadFor, MayCutShort, OfFile}
use Rattle.simlod_app.specs.RunFaults.{read_fault, xyz_fault, las_fault, IsOrMemory}
use Rattle.simlod_app.specs.Runs.{is_las, las_frame, frame_of, points_in, or_xyz_fault, or_las_fault, rgb_byte, beside_frame, framed_in}
use Rattle.simlod_app.proofs.DueLaws.{due_first, gives_through}

-- what is due of a file whose reading ended by a fault, by what it gave and by what the inputs tell
pub record IsDueOf (told : Option Folder) (name : Text) (how : Reading) (old new : Opened) (fails misses : Type 0) (f : Fault) : Type 0 where
  pub file : Option OpenedFile
  pub opened : IsOpened told name old new file
  pub read : MayCutShort f ⊎ IfSome file (λ o. IsTrue o.ended)
  pub due : OfFile told name file (λ content. IsDue (λ failed. (failed ≡ name) × fails) misses (framed_in how name content) f)

of_folder : (told : Option Folder) (P : Folder → Type 0) → ((folder : Folder) → P folder) → IfSome told P
of_folder None P always = tt
of_folder (Some folder) P always = always folder

-- no file was opened
unopened : (told : Option Folder) (name : Text) (old new : Opened) → new ≡ old → IsOpened told name old new None
unopened told name old new same = record { behind = same ∙ sym (append-nil old); named = tt; given = of_folder told _ (λ folder. tt) }

-- one was
opened_as : (told : Option Folder) (name : Text) (old new : Opened) (o : OpenedFile) → OpensAs told old new o → o.name ≡ name → IsOpened told name old new (Some o)
opened_as told name old new o one named = record { behind = one.behind; named = named; given = one.given }

-- a fact that holds of whatever a file has
of_any : (told : Option Folder) (name : Text) (file : Option OpenedFile) (P : Option (List ℕ) → Type 0) → ((content : Option (List ℕ)) → P content) → OfFile told name file P
of_any None name file P always = (always (option_map (λ o. o.given) file), tt)
of_any (Some folder) name file P always = (always (option_map (λ o. o.given) file), always (folder name))

-- a file that was left before its end
cut_short : (told : Option Folder) (name : Text) (how : Reading) (old new : Opened) (fails misses : Type 0) (f : Fault) → MayCutShort f → ((content : Option (List ℕ)) → IsDue (λ failed. (failed ≡ name) × fails) misses (framed_in how name content) f)
    → StopsWithin told old new name 1000000000 → IsDueOf told name how old new fails misses f
cut_short told name how old new fails misses f may due (inl same) =
    let P : Option (List ℕ) → Type 0 = λ content. IsDue (λ failed. (failed ≡ name) × fails) misses (framed_in how name content) f in
    record { file = None; opened = unopened told name old new same; read = inl may; due = of_any told name None P due }
cut_short told name how old new fails misses f may due (inr stops) =
    let P : Option (List ℕ) → Type 0 = λ content. IsDue (λ failed. (failed ≡ name) × fails) misses (framed_in how name content) f in
    let file : Option OpenedFile = Some (begun name stops.0) in
    record { file = file; opened = opened_as told name old new (begun name stops.0) stops.2 refl; read = inl may; due = of_any told name file P due }

-- what is due of bytes, by their number
by_length : (how : Reading) (name : Text) (bytes : List ℕ) (b : Bool) → nat_lt 1000000000 (length bytes) ≡ b → framed_in how name (Some bytes) ≡ beside_frame (name, Some bytes) (if b then Err (fault.TooLong name) else points_in how name bytes)
by_length how name bytes b is = ap (λ c. beside_frame (name, Some bytes) (if c then Err (fault.TooLong name) else points_in how name bytes)) is

too_long : (how : Reading) (name : Text) (bytes : List ℕ) → 1000000000 < length bytes → framed_in how name (Some bytes) ≡ Err (fault.TooLong name)
too_long how name bytes long = by_length how name bytes true (lt-ltb _ _ long)

long_told : (told : Option Folder) (name : Text) (how : Reading) (fails misses : Type 0) → IfSome told (λ folder. IsSomeAnd (folder name) (λ bytes. 1000000000 < length bytes))
    → IfSome told (λ folder. IsDue (λ failed. (failed ≡ name) × fails) misses (framed_in how name (folder name)) (fault.TooLong name))
long_told None name how fails misses tells = tt
long_told (Some folder) name how fails misses tells = long (folder name) tells
  where
    long : (o : Option (List ℕ)) → IsSomeAnd o (λ bytes. 1000000000 < length bytes) → framed_in how name o ≡ Err (fault.TooLong name)
    long None h = absurd h
    long (Some bytes) h = too_long how name bytes h

missing_told : (told : Option Folder) (name : Text) (how : Reading) (fails misses : Type 0) → misses → IfSome told (λ folder. folder name ≡ None)
    → IfSome told (λ folder. IsDue (λ failed. (failed ≡ name) × fails) misses (framed_in how name (folder name)) (fault.NoFile name))
missing_told None name how fails misses missed tells = tt
missing_told (Some folder) name how fails misses missed tells = (missed, ap (framed_in how name) tells)

-- a file that was not read to its end
unread : (told : Option Folder) (old new : Opened) (name : Text) (how : Reading) (faults faults' missing missing' : ℕ) (e : ReadFault)
    → ReadsWhole {A = Global} told name 1000000000 (Err e) → ReadsTo {A = Global} told old new name 1000000000 (Err e) → HasCauses {T = Vec ℕ Global} {E = ReadFault} faults faults' missing missing' reading.Failed reading.NoFile (Err e)
    → IsDueOf told name how old new (Rose faults faults') (Rose missing missing') (read_fault name e)
unread told old new name how faults faults' missing missing' reading.NoFile tells left causes =
    let missed : Rose missing missing' = causes.no_file_rose refl in
    record {
      file = None;
      opened = unopened told name old new left;
      read = inr tt;
      due = ((missed, refl), missing_told told name how (Rose faults faults') (Rose missing missing') missed tells);
    }
unread told old new name how faults faults' missing missing' reading.Failed tells left causes =
    cut_short told name how old new (Rose faults faults') (Rose missing missing') (fault.ReadFault name) tt (λ content. (refl, causes.failed_rose refl)) left
unread told old new name how faults faults' missing missing' (reading.TooLong most) tells left causes =
    let given : List ℕ = left.1.0 in
    record {
      file = Some (begun name given);
      opened = opened_as told name old new (begun name given) left.1.2 refl;
      read = inl tt;
      due = (too_long how name given left.1.1, long_told told name how (Rose faults faults') (Rose missing missing') tells);
    }
unread told old new name how faults faults' missing missing' reading.Memory tells left causes =
    cut_short told name how old new (Rose faults faults') (Rose missing missing') fault.Memory tt (λ content. tt) left

-- the same where there was no memory for the name
unnamed : (told : Option Folder) (name : Text) (how : Reading) (old new : Opened) (fails misses : Type 0) (f : Fault) → IsDueOf told name how old new fails misses f → IsDueOf told name how old new fails misses fault.Memory
unnamed told name how old new fails misses f h =
    let P : Option (List ℕ) → Type 0 = λ content. IsDue (λ failed. (failed ≡ name) × fails) misses (framed_in how name content) fault.Memory in
    record { file = h.file; opened = h.opened; read = inl tt; due = of_any told name h.file P (λ content. tt) }

pub not_read : (told : Option Folder) (old new : Opened) (name : Text) (how : Reading) (faults faults' missing missing' : ℕ) (e : ReadFault) (f : Fault)
    → ReadsWhole {A = Global} told name 1000000000 (Err e) → ReadsTo {A = Global} told old new name 1000000000 (Err e) → HasCauses {T = Vec ℕ Global} {E = ReadFault} faults faults' missing missing' reading.Failed reading.NoFile (Err e)
    → IsOrMemory (read_fault name e) f → IsDueOf told name how old new (Rose faults faults') (Rose missing missing') f
not_read told old new name how faults faults' missing missing' e f tells left causes (inl memory) =
    subst (λ (g : Fault). IsDueOf told name how old new (Rose faults faults') (Rose missing missing') g) (sym memory)
    (unnamed told name how old new (Rose faults faults') (Rose missing missing') (read_fault name e) (unread told old new name how faults faults' missing missing' e tells left causes))
not_read told old new name how faults faults' missing missing' e f tells left causes (inr is) =
    subst (λ (g : Fault). IsDueOf told name how old new (Rose faults faults') (Rose missing missing') g) (sym is) (unread told old new name how faults faults' missing missing' e tells left causes)

abbrev pub framed : FileCloud → List PointValue × Option (List ℕ)
framed c = (c.points.items, c.frame)

-- a file of which the bytes were read
pub record IsParsed (told : Option Folder) (name : Text) (how : Reading) (old new : Opened) (fails misses : Type 0) (found : Result FileCloud Fault) : Type 0 where
  pub file : Option OpenedFile
  pub opened : IsOpened told name old new file
  pub read : IsReadFor found file
  pub due : OfFile told name file (λ content. GivesOver (λ failed. (failed ≡ name) × fails) misses framed found (framed_in how name content))

read_whole : (name : Text) (bytes : List ℕ) (found : Result FileCloud Fault) → IsReadFor found (Some (finished name bytes))
read_whole name bytes (Ok cloud) = refl
read_whole name bytes (Err f) = inr refl

pub parsed : (told : Option Folder) (name : Text) (how : Reading) (old new : Opened) (bytes slice : List ℕ) (found : Result FileCloud Fault) (fails misses : Type 0) → OpensAs told old new (finished name bytes) → length bytes ≤ 1000000000 → slice ≡ bytes
    → IfSome told (λ folder. folder name ≡ Some bytes) → Gives framed found (beside_frame (name, Some slice) (points_in how name slice)) → IsParsed told name how old new fails misses found
parsed told name how old new bytes slice found fails misses one short lent tells gives =
    let P : Option (List ℕ) → Type 0 = λ content. GivesOver (λ failed. (failed ≡ name) × fails) misses framed found (framed_in how name content) in
    let here : P (Some bytes) =
    gives_through (λ failed. ⊥) (λ failed. (failed ≡ name) × fails) ⊥ misses framed found (beside_frame (name, Some slice) (points_in how name slice)) (framed_in how name (Some bytes))
    (λ failed no. absurd no) (λ no. absurd no)
    (by_length how name bytes false (le-ltb _ _ short) ∙ ap (λ bs. beside_frame (name, Some bs) (points_in how name bs)) (sym lent)) gives in
    record {
      file = Some (finished name bytes);
      opened = opened_as told name old new (finished name bytes) one refl;
      read = read_whole name bytes found;
      due = (here, told_bytes told tells here);
    }
  where
    told_bytes : (told : Option Folder) → IfSome told (λ folder. folder name ≡ Some bytes) → GivesOver (λ failed. (failed ≡ name) × fails) misses framed found (framed_in how name (Some bytes))
        → IfSome told (λ folder. GivesOver (λ failed. (failed ≡ name) × fails) misses framed found (framed_in how name (folder name)))
    told_bytes None is here = tt
    told_bytes (Some folder) is here = subst (λ (content : Option (List ℕ)). GivesOver (λ failed. (failed ≡ name) × fails) misses framed found (framed_in how name content)) (sym is) here

-- points beside the scales and offsets of their file
beside : (name : Text) (bytes : List ℕ) (found : Result FileCloud Fault) (r : Result (List PointValue) Fault) (o : Option (List ℕ)) → las_frame (name, Some bytes) ≡ o
    → Gives (λ c. c.points.items) found r → IfOk found (λ c. c.frame ≡ o) → Gives framed found (beside_frame (name, Some bytes) r)
beside name bytes (Ok c) r o is points same = ap (beside_frame (name, Some bytes)) points ∙ ap (λ f. Ok (c.points.items, f)) (is ∙ sym same)
beside name bytes (Err f) r o is points same = due_first (λ failed. ⊥) ⊥ r (λ ps. Ok (ps, las_frame (name, Some bytes))) f points

pub as_las : (name : Text) (how : Reading) (bytes : List ℕ) (found : Result FileCloud Fault) (rgb : RgbByte) → is_las name ≡ true → rgb ≡ rgb_byte how.low → Gives (λ c. c.points.items) found (or_las_fault name (las rgb bytes)) → IfOk found (λ c. c.frame ≡ Some (frame bytes))
    → Gives framed found (beside_frame (name, Some bytes) (points_in how name bytes))
as_las name how bytes found rgb is_named same_byte points same =
    let read : points_in how name bytes ≡ or_las_fault name (las rgb bytes) = ap (λ b. if b then or_las_fault name (las (rgb_byte how.low) bytes) else or_xyz_fault name (xyz how.decimals bytes)) is_named ∙ ap (λ r. or_las_fault name (las r bytes)) (sym same_byte) in
    beside name bytes found (points_in how name bytes) (Some (frame bytes)) (ap (λ b. if b then Some (frame_of (name, Some bytes)) else None) is_named)
    (gives_through (λ failed. ⊥) (λ failed. ⊥) ⊥ ⊥ (λ c. c.points.items) found (or_las_fault name (las rgb bytes)) (points_in how name bytes) (λ failed no. no) (λ no. no) read points) same

pub as_xyz : (name : Text) (how : Reading) (bytes : List ℕ) (found : Result FileCloud Fault) → is_las name ≡ false → Gives (λ c. c.points.items) found (or_xyz_fault name (xyz how.decimals bytes)) → IfOk found (λ c. c.frame ≡ None)
    → Gives framed found (beside_frame (name, Some bytes) (points_in how name bytes))
as_xyz name how bytes found plain points same =
    let read : points_in how name bytes ≡ or_xyz_fault name (xyz how.decimals bytes) = rw plain refl in
    beside name bytes found (points_in how name bytes) None (ap (λ b. if b then Some (frame_of (name, Some bytes)) else None) plain)
    (gives_through (λ failed. ⊥) (λ failed. ⊥) ⊥ ⊥ (λ c. c.points.items) found (or_xyz_fault name (xyz how.decimals bytes)) (points_in how name bytes) (λ failed no. no) (λ no. no) read points) same

-- a text with a fault
faulty_text : (name : Text) (due : Result (List PointValue) Fault) (e : XyzFault) (decimals : ℕ) (bytes : List ℕ) → due ≡ or_xyz_fault name (xyz decimals bytes) → IsFault decimals bytes e → IsDue (λ failed. ⊥) ⊥ due (xyz_fault name e)
faulty_text name due (text.Fields line n) decimals bytes is h = is ∙ ap (or_xyz_fault name) h
faulty_text name due (text.Number line field) decimals bytes is h = is ∙ ap (or_xyz_fault name) h
faulty_text name due (text.Range line field) decimals bytes is h = is ∙ ap (or_xyz_fault name) h
faulty_text name due text.Memory decimals bytes is h = tt

pub bad_text : (name : Text) (decimals : ℕ) (bytes : List ℕ) (e : XyzFault) (f : Fault) → IsFault decimals bytes e → IsOrMemory (xyz_fault name e) f → IsDue (λ failed. ⊥) ⊥ (or_xyz_fault name (xyz decimals bytes)) f
bad_text name decimals bytes e f is (inl memory) = subst (λ (g : Fault). IsDue (λ failed. ⊥) ⊥ (or_xyz_fault name (xyz decimals bytes)) g) (sym memory) tt
bad_text name decimals bytes e f is (inr same) = subst (λ (g : Fault). IsDue (λ failed. ⊥) ⊥ (or_xyz_fault name (xyz decimals bytes)) g) (sym same) (faulty_text name (or_xyz_fault name (xyz decimals bytes)) e decimals bytes refl is)

-- a LAS file with a fault
faulty_las : (name : Text) (rgb : RgbByte) (bytes : List ℕ) (e : LasFault) → IsLasFault rgb bytes e → IsDue (λ failed. ⊥) ⊥ (or_las_fault name (las rgb bytes)) (las_fault name e)
faulty_las name rgb bytes bad.NotLas h = ap (or_las_fault name) h
faulty_las name rgb bytes (bad.HeaderShort have) h = ap (or_las_fault name) h
faulty_las name rgb bytes (bad.Version major minor) h = ap (or_las_fault name) h
faulty_las name rgb bytes (bad.Compressed byte) h = ap (or_las_fault name) h
faulty_las name rgb bytes (bad.Format byte) h = ap (or_las_fault name) h
faulty_las name rgb bytes (bad.Length have need) h = ap (or_las_fault name) h
faulty_las name rgb bytes (bad.Start offset header) h = ap (or_las_fault name) h
faulty_las name rgb bytes (bad.PointsShort have need) h = ap (or_las_fault name) h
faulty_las name rgb bytes bad.Memory h = tt

pub bad_las : (name : Text) (rgb : RgbByte) (bytes : List ℕ) (e : LasFault) (f : Fault) → IsLasFault rgb bytes e → IsOrMemory (las_fault name e) f → IsDue (λ failed. ⊥) ⊥ (or_las_fault name (las rgb bytes)) f
bad_las name rgb bytes e f is (inl memory) = subst (λ (g : Fault). IsDue (λ failed. ⊥) ⊥ (or_las_fault name (las rgb bytes)) g) (sym memory) tt
bad_las name rgb bytes e f is (inr same) = subst (λ (g : Fault). IsDue (λ failed. ⊥) ⊥ (or_las_fault name (las rgb bytes)) g) (sym same) (faulty_las name rgb bytes e is)

-- the scales and offsets of a LAS file that was read
pub frame_read : (rgb : RgbByte) (bytes : List ℕ) (c : CloudValue) → las rgb bytes ≡ Ok c → c.frame ≡ frame bytes
unfolding las
frame_read rgb bytes c is = by_refusal (first_refusal bytes) is
  where
    frame_or : Result CloudValue LasFault → List ℕ
    frame_or (Ok d) = d.frame
    frame_or (Err e) = frame bytes

    by_refusal : (o : Option LasFault) → unless o (cloud rgb bytes) ≡ Ok c → c.frame ≡ frame bytes
    by_refusal None h = sym (ap frame_or h)
    by_refusal (Some e) h = cc
