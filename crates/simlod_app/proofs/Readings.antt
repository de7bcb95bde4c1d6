-- Files read one after the other.
use Rattle.std.proofs.Common.{◌≡◌, ℕ, suc, ◌+◌, ◌<◌, ◌≤◌, get_or, String, Global, List, [], ◌∷◌, ◌++◌, map, length, take, drop, Some, Option, Result, Ok, Err, ap, ◌∙◌, sym, refl, arith}
use Rattle.std.specs.Prelude.{IsOk, string_bytes}
use Rattle.std.proofs.lemmas.List.{map-append, take-append-drop, take_more}
use Rattle.std.proofs.Math.Seq.{drop-cons}
use Rattle.cloud_io.specs.Counts.{Rose}
use Rattle.cube_math.specs.Points.{PointValue}
use Rattle.run_report.specs.declared.fault.Fault.{Fault}
use Rattle.run_words.specs.Commands.{Text}
use Rattle.xyz_points.specs.Reading.{and_then, all_or_first_error}
use Rattle.std.specs.Option.{option_or}
use Rattle.simlod_app.specs.declared.reading.Reading.{Reading}
use Rattle.simlod_app.specs.Dues.{IsDue}
use Rattle.simlod_app.specs.Outcomes.{IsReached}
use Rattle.simlod_app.specs.Runs.{Source, Framed, cloud_of, first_frame, in_frame, frame_step, framed_in, clouds_of, ◌>>=◌}
use Rattle.simlod_app.proofs.Frames.{clouds_with, clouds_of-is, first_frame-append, settled, read_as, not_read_as, IsStep, file_step, IsOther, file_refused}
use Rattle.simlod_app.proofs.DueLaws.{due_through}

alone : {X : Type 0} (r : Result (List X) Fault) → r ≡ and_then r (λ ys. Ok ([] ++ ys))
alone (Ok ys) = refl
alone (Err e) = refl

in_front : {X : Type 0} (x : X) (a b : Result (List X) Fault)
    → and_then (and_then a (λ xs. and_then b (λ ys. Ok (xs ++ ys)))) (λ xs. Ok (x ∷ xs)) ≡ and_then (and_then a (λ xs. Ok (x ∷ xs))) (λ xs. and_then b (λ ys. Ok (xs ++ ys)))
in_front x (Ok xs) (Ok ys) = refl
in_front x (Ok xs) (Err e) = refl
in_front x (Err e) b = refl

-- results behind others
all_or_first_error-append : {X : Type 0} (results more : List (Result X Fault))
    → all_or_first_error (results ++ more) ≡ and_then (all_or_first_error results) (λ xs. and_then (all_or_first_error more) (λ ys. Ok (xs ++ ys)))
all_or_first_error-append [] more = alone (all_or_first_error more)
all_or_first_error-append (Ok x ∷ results) more =
    ap (λ r. and_then r (λ xs. Ok (x ∷ xs))) (all_or_first_error-append results more) ∙ in_front x (all_or_first_error results) (all_or_first_error more)
all_or_first_error-append (Err e ∷ results) more = refl

-- files behind others that have points
clouds_behind : (how : Reading) (first : Option Framed) (files others : List Source) (clouds : List (List PointValue)) → clouds_with how first files ≡ Ok clouds
    → clouds_with how first (files ++ others) ≡ and_then (clouds_with how first others) (λ more. Ok (clouds ++ more))
clouds_behind how first files others clouds read =
    ap all_or_first_error (map-append (cloud_of how first) files others) ∙ all_or_first_error-append (map (cloud_of how first) files) (map (cloud_of how first) others)
    ∙ ap (λ r. and_then r (λ xs. and_then (clouds_with how first others) (λ ys. Ok (xs ++ ys)))) read

-- these files were read, of which this is the first LAS file
pub record HaveClouds (how : Reading) (first : Option Framed) (clouds : List (List PointValue)) (files : List Source) : Type 0 where
  pub frame : first_frame files ≡ first
  pub read : clouds_with how first files ≡ Ok clouds

-- one file more
pub one_more : (how : Reading) (first after : Option Framed) (clouds : List (List PointValue)) (files : List Source) (name : Text) (content : Option (List ℕ)) (cloud : List PointValue) (frame : Option (List ℕ))
    → HaveClouds how first clouds files → framed_in how name content ≡ Ok (cloud, frame) → frame_step first name frame ≡ Ok after → HaveClouds how after (clouds ++ cloud ∷ []) (files ++ (name, content) ∷ [])
one_more how first after clouds files name content cloud frame before read step =
    let file : Source = (name, content) in
    let next : IsStep how first after name content cloud = file_step how first after name content cloud frame (read_as how name content cloud frame read) step in
    let found : first_frame (files ++ file ∷ []) ≡ after = first_frame-append files (file ∷ []) ∙ ap (λ f. option_or f (first_frame (file ∷ []))) before.frame ∙ next.first in
    let old : clouds_with how after files ≡ Ok clouds = ap (λ f. clouds_with how f files) (sym found) ∙ settled how first files (file ∷ []) clouds before.frame before.read in
    record {
      frame = found;
      read = clouds_behind how after files (file ∷ []) clouds old ∙ ap (λ r. and_then (all_or_first_error (r ∷ [])) (λ more. Ok (clouds ++ more))) next.cloud;
    }

read_ok : (r : Result (List (List PointValue)) Fault) (xs : List (List PointValue)) → r ≡ Ok xs → IsOk r
read_ok (Ok ys) xs e = refl
read_ok (Err f) xs e = cc

-- the clouds of files that were read
pub have_clouds : (how : Reading) (first : Option Framed) (clouds : List (List PointValue)) (files : List Source) → HaveClouds how first clouds files → clouds_of how files ≡ Ok clouds
have_clouds how first clouds files have = clouds_of-is how files ∙ ap (λ o. clouds_with how o files) have.frame ∙ have.read

-- the refusal of the file that is next is that of all files
refused_at : (how : Reading) (first : Option Framed) (clouds : List (List PointValue)) (files rest : List Source) (name : Text) (content : Option (List ℕ)) (e : Fault) → HaveClouds how first clouds files
    → cloud_of how (first_frame (files ++ (name, content) ∷ rest)) (name, content) ≡ Err e → clouds_of how (files ++ (name, content) ∷ rest) ≡ Err e
refused_at how first clouds files rest name content e before refused =
    let next : List Source = (name, content) ∷ rest in
    let all : List Source = files ++ next in
    clouds_of-is how all ∙ clouds_behind how (first_frame all) files next clouds (settled how first files next clouds before.frame before.read)
    ∙ ap (λ r. and_then (all_or_first_error (r ∷ map (cloud_of how (first_frame all)) rest)) (λ more. Ok (clouds ++ more))) refused

-- a file that can't be read, or whose bytes are refused
pub refused_next : (how : Reading) (first : Option Framed) (clouds : List (List PointValue)) (files rest : List Source) (name : Text) (content : Option (List ℕ)) (fails fails' misses misses' : Type 0) (f : Fault)
    → HaveClouds how first clouds files → (fails → fails') → (misses → misses') → IsDue (λ failed. (failed ≡ name) × fails) misses (framed_in how name content) f
    → IsDue (λ failed. IsReached how (files ++ (name, content) ∷ rest) failed × fails') misses' (clouds_of how (files ++ (name, content) ∷ rest)) f
refused_next how first clouds files rest name content fails fails' misses misses' f before failing missing due =
    let all : List Source = files ++ (name, content) ∷ rest in
    let reached : (failed : Text) → (failed ≡ name) × fails → IsReached how all failed × fails' = λ failed h. (
      record {
        before = files;
        content = content;
        after = rest;
        stands = ap (λ n. files ++ (n, content) ∷ rest) (sym h.0);
        read = read_ok _ clouds (have_clouds how first clouds files before);
      },
      failing h.1,
    ) in
    let refused : (e : Fault) → framed_in how name content ≡ Err e → clouds_of how all ≡ Err e = λ e h.
    refused_at how first clouds files rest name content e before (ap (λ r. r >>= in_frame (first_frame all) (name, content)) (not_read_as how name content e h)) in
    due_through (λ failed. (failed ≡ name) × fails) (λ failed. IsReached how all failed × fails') misses misses' (framed_in how name content) (clouds_of how all) f reached missing refused due

-- a LAS file in another frame than the first
pub refused_frame : (how : Reading) (first : Option Framed) (clouds : List (List PointValue)) (files rest : List Source) (name : Text) (content : Option (List ℕ)) (cloud : List PointValue) (frame : Option (List ℕ))
    (Fails : Text → Type 0) (misses : Type 0) (f : Fault) → HaveClouds how first clouds files → framed_in how name content ≡ Ok (cloud, frame) → IsDue (λ failed. ⊥) ⊥ (frame_step first name frame) f
    → IsDue Fails misses (clouds_of how (files ++ (name, content) ∷ rest)) f
refused_frame how first clouds files rest name content cloud frame Fails misses f before read due =
    let next : List Source = (name, content) ∷ rest in
    let all : List Source = files ++ next in
    let refused : (e : Fault) → frame_step first name frame ≡ Err e → clouds_of how all ≡ Err e = λ e h.
    let other : IsOther how first name content e = file_refused how first name content cloud frame e (read_as how name content cloud frame read) h in
    let found : first_frame all ≡ Some other.known = first_frame-append files next ∙ ap (λ o. option_or o (first_frame next)) (before.frame ∙ other.is) in
    refused_at how first clouds files rest name content e before (ap (λ o. cloud_of how o (name, content)) found ∙ other.refused) in
    due_through (λ failed. ⊥) Fails ⊥ misses (frame_step first name frame) (clouds_of how all) f (λ name no. absurd no) (λ no. absurd no) refused due

-- a name and those before and behind it
pub split_names : (names : List (String Global)) (i : ℕ) (name : String Global) (text : Text) → i < length names → name ≡ get_or names i name → text ≡ string_bytes name
    → map string_bytes names ≡ map string_bytes (take i names) ++ text ∷ map string_bytes (drop (i + 1) names)
split_names names i name text l is read =
    let after : suc i ≡ i + 1 = omega arith in
    ap (map string_bytes) (sym (take-append-drop i names) ∙ ap (λ (rest : List (String Global)). take i names ++ rest) (
    drop-cons names i name l ∙ ap (λ (n : String Global). n ∷ drop (suc i) names) (sym is) ∙ ap (λ (k : ℕ). name ∷ drop k names) after))
    ∙ map-append string_bytes (take i names) (name ∷ drop (i + 1) names)
    ∙ ap (λ (t : Text). map string_bytes (take i names) ++ t ∷ map string_bytes (drop (i + 1) names)) (sym read)

pub one_name_more : (names : List (String Global)) (i : ℕ) (name : String Global) (text : Text) → i < length names → name ≡ get_or names i name → text ≡ string_bytes name
    → map string_bytes (take (i + 1) names) ≡ map string_bytes (take i names) ++ text ∷ []
one_name_more names i name text l is read =
    ap (map string_bytes) (take_more names i name l ∙ ap (λ (n : String Global). take i names ++ n ∷ []) (sym is)) ∙ map-append string_bytes (take i names) (name ∷ [])
    ∙ ap (λ (t : Text). map string_bytes (take i names) ++ t ∷ []) (sym read)

-- a count that rose later rose
pub rose_later : (old mid new : ℕ) → old ≤ mid → Rose mid new → Rose old new
rose_later old mid new l h = omega arith
