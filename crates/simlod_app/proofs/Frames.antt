-- The first LAS file, and the scales and offsets of those behind it.
use Rattle.std.proofs.Common.{◌≡◌, ℕ, List, [], ◌∷◌, ◌++◌, map, Bool, true, false, not, cond, ◌&&◌, Some, None, Option, Result, Ok, Err, ap, ◌∙◌, sym, refl, if◌then◌else◌}
use Rattle.std.specs.Prelude.{find, option_map}
use Rattle.std.specs.Option.{option_or}
use Rattle.std.specs.Str.{bytes_eq}
use Rattle.std.proofs.lemmas.Bool.{eq-eqb}
use Rattle.cube_math.specs.Points.{PointValue}
use Rattle.run_report.specs.declared.fault.Fault.{Fault}
use Rattle.run_report.specs.declared.fault.Fault.TheVariants.{Frames}
use Rattle.run_words.specs.Commands.{Text}
use Rattle.xyz_points.specs.Reading.{and_then, all_or_first_error}
use Rattle.simlod_app.specs.declared.reading.Reading.{Reading}
use Rattle.simlod_app.specs.Runs.{Source, Framed, is_las, frame_of, framed_file, las_frame, first_frame, in_frame, frame_step, cloud_in, cloud_of, beside_frame, framed_in, clouds_of, ◌>>=◌}

-- the clouds of files among files of which this is the first LAS file
abbrev pub clouds_with : Reading → Option Framed → List Source → Result (List (List PointValue)) Fault
clouds_with how first files = all_or_first_error (map (cloud_of how first) files)

pub clouds_of-is : (how : Reading) (files : List Source) → clouds_of how files ≡ clouds_with how (first_frame files) files
unfolding clouds_of
clouds_of-is how files = refl

found_or : (b : Bool) (file : Source) (o p : Option Source) → option_map framed_file (cond b (Some file) o) ≡ option_or (option_map framed_file (cond b (Some file) None)) (option_map framed_file o)
found_or true file o p = refl
found_or false file o p = refl

or_or : (a b c : Option Framed) → option_or a (option_or b c) ≡ option_or (option_or a b) c
or_or None b c = refl
or_or (Some x) b c = refl

or_none : (a : Option Framed) → option_or a None ≡ a
or_none None = refl
or_none (Some x) = refl

-- the first LAS file of files behind others
pub first_frame-append : (files others : List Source) → first_frame (files ++ others) ≡ option_or (first_frame files) (first_frame others)
first_frame-append [] others = refl
first_frame-append (file ∷ files) others =
    let here : Option Framed = option_map framed_file (cond (is_las file.0) (Some file) None) in
    found_or (is_las file.0) file (find (λ f. is_las f.0) (files ++ others)) None
    ∙ ap (option_or here) (first_frame-append files others)
    ∙ or_or here (first_frame files) (first_frame others)
    ∙ ap (λ o. option_or o (first_frame others)) (sym (found_or (is_las file.0) file (find (λ f. is_las f.0) files) None))

no_frame : (file : Source) (files : List Source) (b : Bool) → is_las file.0 ≡ b → first_frame (file ∷ files) ≡ None → (b ≡ false) × (first_frame files ≡ None)
no_frame file files true is none = let e : Some (file.0, frame_of file) ≡ None = ap (λ b. option_map framed_file (cond b (Some file) (find (λ f. is_las f.0) files))) (sym is) ∙ none in cc
no_frame file files false is none = (refl, ap (λ b. option_map framed_file (cond b (Some file) (find (λ f. is_las f.0) files))) (sym is) ∙ none)

-- a file that is no LAS file has its points whatever the first one is
plain_in_frame : (first : Option Framed) (file : Source) (ps : List PointValue) → is_las file.0 ≡ false → in_frame first file ps ≡ Ok ps
plain_in_frame None file ps plain = refl
plain_in_frame (Some first) file ps plain = ap (λ b. if b && not (bytes_eq (frame_of file) first.1) then Err (Frames file.0 first.0) else Ok ps) plain

plain_cloud : (r : Result (List PointValue) Fault) (first : Option Framed) (file : Source) → is_las file.0 ≡ false → (r >>= in_frame first file) ≡ (r >>= in_frame None file)
plain_cloud (Ok ps) first file plain = plain_in_frame first file ps plain
plain_cloud (Err f) first file plain = refl

same_tail : (b : Result (List PointValue) Fault) (xs ys : List (Result (List PointValue) Fault)) → all_or_first_error xs ≡ all_or_first_error ys → all_or_first_error (b ∷ xs) ≡ all_or_first_error (b ∷ ys)
same_tail (Ok ps) xs ys e = ap (λ r. and_then r (λ more. Ok (ps ∷ more))) e
same_tail (Err f) xs ys e = refl

-- files of which none is a LAS file have their clouds whatever the first one is
pub without_las : (how : Reading) (first : Option Framed) (files : List Source) → first_frame files ≡ None → clouds_with how first files ≡ clouds_with how None files
without_las how first [] none = refl
without_las how first (file ∷ files) none =
    let parts : (is_las file.0 ≡ false) × (first_frame files ≡ None) = no_frame file files (is_las file.0) refl none in
    ap (λ c. all_or_first_error (c ∷ map (cloud_of how first) files)) (plain_cloud (cloud_in how file.0 file.1) first file parts.0)
    ∙ same_tail (cloud_of how None file) (map (cloud_of how first) files) (map (cloud_of how None) files) (without_las how first files parts.1)

-- files that were read stay read among more files behind them
pub settled : (how : Reading) (first : Option Framed) (files others : List Source) (clouds : List (List PointValue)) → first_frame files ≡ first → clouds_with how first files ≡ Ok clouds
    → clouds_with how (first_frame (files ++ others)) files ≡ Ok clouds
settled how None files others clouds is read = without_las how (first_frame (files ++ others)) files is ∙ read
settled how (Some first) files others clouds is read =
    ap (λ f. clouds_with how f files) (first_frame-append files others ∙ ap (λ f. option_or f (first_frame others)) is) ∙ read

-- what reading a file gave: its points, and its scales and offsets
pub record IsReadAs (how : Reading) (name : Text) (content : Option (List ℕ)) (ps : List PointValue) (frame : Option (List ℕ)) : Type 0 where
  pub points : cloud_in how name content ≡ Ok ps
  pub framed : frame ≡ las_frame (name, content)

pair_of : List PointValue × Option (List ℕ) → Result (List PointValue × Option (List ℕ)) Fault → List PointValue × Option (List ℕ)
pair_of d (Ok pair) = pair
pair_of d (Err f) = d

pub read_as : (how : Reading) (name : Text) (content : Option (List ℕ)) (ps : List PointValue) (frame : Option (List ℕ)) → framed_in how name content ≡ Ok (ps, frame) → IsReadAs how name content ps frame
unfolding pair_of
read_as how name content ps frame is = parts (cloud_in how name content) refl is
  where
    parts : (r : Result (List PointValue) Fault) → cloud_in how name content ≡ r → beside_frame (name, content) r ≡ Ok (ps, frame) → IsReadAs how name content ps frame
    parts (Ok qs) e h = record {
      points = e ∙ ap (λ r. Ok (pair_of (ps, frame) r).0) h;
      framed = sym (ap (λ r. (pair_of (ps, frame) r).1) h);
    }
    parts (Err f) e h = cc

refusal_of : Result (List PointValue × Option (List ℕ)) Fault → Result (List PointValue) Fault
refusal_of (Ok pair) = Ok pair.0
refusal_of (Err f) = Err f

pub not_read_as : (how : Reading) (name : Text) (content : Option (List ℕ)) (e : Fault) → framed_in how name content ≡ Err e → cloud_in how name content ≡ Err e
unfolding refusal_of
not_read_as how name content e is = parts (cloud_in how name content) is
  where
    parts : (r : Result (List PointValue) Fault) → beside_frame (name, content) r ≡ Err e → r ≡ Err e
    parts (Ok qs) h = cc
    parts (Err f) h = ap refusal_of h

same_bytes : (bytes : List ℕ) → bytes_eq bytes bytes ≡ true
same_bytes [] = refl
same_bytes (b ∷ bytes) = rw (eq-eqb b b refl) (same_bytes bytes)

-- a file that was read and stands in the frame of the first LAS file
pub record IsStep (how : Reading) (before after : Option Framed) (name : Text) (content : Option (List ℕ)) (ps : List PointValue) : Type 0 where
  pub first : option_or before (first_frame ((name, content) ∷ [])) ≡ after
  pub cloud : cloud_of how after (name, content) ≡ Ok ps

value_of : Result (Option Framed) Fault → Option Framed → Option Framed
value_of (Ok o) d = o
value_of (Err f) d = d

las_step : (how : Reading) (before after : Option Framed) (name : Text) (content : Option (List ℕ)) (ps : List PointValue) → is_las name ≡ true → cloud_in how name content ≡ Ok ps
    → frame_step before name (Some (frame_of (name, content))) ≡ Ok after → IsStep how before after name content ps
unfolding value_of
las_step how None after name content ps las points step =
    let file : Source = (name, content) in
    let new : Some (name, frame_of file) ≡ after = ap (λ r. value_of r after) step in
    let found : first_frame (file ∷ []) ≡ Some (name, frame_of file) = ap (λ b. option_map framed_file (cond b (Some file) None)) las in
    record {
      first = found ∙ new;
      cloud = ap (λ f. cloud_of how f file) (sym new) ∙ ap (λ r. r >>= in_frame (Some (name, frame_of file)) file) points
          ∙ rw (las, same_bytes (frame_of file)) refl;
    }
las_step how (Some known) after name content ps las points step = same_frame (bytes_eq (frame_of (name, content)) known.1) refl step
  where
    same_frame : (b : Bool) → bytes_eq (frame_of (name, content)) known.1 ≡ b → (if not b then Err (Frames name known.0) else Ok (Some known)) ≡ Ok after → IsStep how (Some known) after name content ps
    same_frame true same is =
        let file : Source = (name, content) in
        let kept : Some known ≡ after = ap (λ r. value_of r after) is in
        record {
          first = kept;
          cloud = ap (λ f. cloud_of how f file) (sym kept) ∙ ap (λ r. r >>= in_frame (Some known) file) points ∙ rw (las, same) refl;
        }
    same_frame false other is = cc

plain_step : (how : Reading) (before after : Option Framed) (name : Text) (content : Option (List ℕ)) (ps : List PointValue) → is_las name ≡ false → cloud_in how name content ≡ Ok ps → before ≡ after → IsStep how before after name content ps
plain_step how before after name content ps plain points same =
    let file : Source = (name, content) in
    let none : first_frame (file ∷ []) ≡ None = ap (λ b. option_map framed_file (cond b (Some file) None)) plain in
    record {
      first = ap (option_or before) none ∙ or_none before ∙ same;
      cloud = ap (λ r. r >>= in_frame after file) points ∙ plain_in_frame after file ps plain;
    }

-- the step of a loop over files
pub file_step : (how : Reading) (before after : Option Framed) (name : Text) (content : Option (List ℕ)) (ps : List PointValue) (frame : Option (List ℕ)) → IsReadAs how name content ps frame
    → frame_step before name frame ≡ Ok after → IsStep how before after name content ps
unfolding value_of
file_step how before after name content ps frame read step = by_name (is_las name) refl
  where
    by_name : (b : Bool) → is_las name ≡ b → IsStep how before after name content ps
    by_name true las =
        let is : frame ≡ Some (frame_of (name, content)) = read.framed ∙ ap (λ b. if b then Some (frame_of (name, content)) else None) las in
        las_step how before after name content ps las read.points (ap (frame_step before name) (sym is) ∙ step)
    by_name false plain =
        let is : frame ≡ None = read.framed ∙ ap (λ b. if b then Some (frame_of (name, content)) else None) plain in
        plain_step how before after name content ps plain read.points (ap (λ r. value_of r before) (ap (frame_step before name) (sym is) ∙ step))

-- a file in another frame than the first is refused among all files
pub record IsOther (how : Reading) (before : Option Framed) (name : Text) (content : Option (List ℕ)) (e : Fault) : Type 0 where
  pub known : Framed
  pub is : before ≡ Some known
  pub refused : cloud_of how (Some known) (name, content) ≡ Err e

fault_of : List PointValue → Result (Option Framed) Fault → Result (List PointValue) Fault
fault_of ps (Ok o) = Ok ps
fault_of ps (Err f) = Err f

other_frame : (how : Reading) (before : Option Framed) (name : Text) (content : Option (List ℕ)) (ps : List PointValue) (e : Fault) → is_las name ≡ true → cloud_in how name content ≡ Ok ps
    → frame_step before name (Some (frame_of (name, content))) ≡ Err e → IsOther how before name content e
unfolding fault_of
other_frame how None name content ps e las points step = cc
other_frame how (Some known) name content ps e las points step = differs (bytes_eq (frame_of (name, content)) known.1) refl step
  where
    differs : (b : Bool) → bytes_eq (frame_of (name, content)) known.1 ≡ b → (if not b then Err (Frames name known.0) else Ok (Some known)) ≡ Err e → IsOther how (Some known) name content e
    differs true same is = cc
    differs false other is = record {
      known = known;
      is = refl;
      refused = ap (λ r. r >>= in_frame (Some known) (name, content)) points ∙ rw (las, other) (ap (fault_of ps) is);
    }

pub file_refused : (how : Reading) (before : Option Framed) (name : Text) (content : Option (List ℕ)) (ps : List PointValue) (frame : Option (List ℕ)) (e : Fault) → IsReadAs how name content ps frame
    → frame_step before name frame ≡ Err e → IsOther how before name content e
file_refused how before name content ps frame e read step = by_name (is_las name) refl
  where
    by_name : (b : Bool) → is_las name ≡ b → IsOther how before name content e
    by_name true las =
        let is : frame ≡ Some (frame_of (name, content)) = read.framed ∙ ap (λ b. if b then Some (frame_of (name, content)) else None) las in
        other_frame how before name content ps e las read.points (ap (frame_step before name) (sym is) ∙ step)
    by_name false plain =
        let is : frame ≡ None = read.framed ∙ ap (λ b. if b then Some (frame_of (name, content)) else None) plain in
        let no : frame_step before name None ≡ Err e = ap (frame_step before name) (sym is) ∙ step in
        cc
