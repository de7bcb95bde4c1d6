-- Files in memory: which are found, and where those stand that were opened.
use Rattle.std.proofs.Common.{◌≡◌, ℕ, ◌+◌, ◌-◌, ◌<◌, ◌≤◌, min, List, ◌++◌, [], ◌∷◌, length, length-append, length-drop, map, get_or, set, take, drop, Option, Some, None, subst, sym, ap, ◌∙◌, refl, cond, arith, All, string_bytes, Bool, true, false, ◌||◌}
use Rattle.std.proofs.lemmas.List.{length-map, length-take-le, map-append, map-set, take_at}
use Rattle.std.specs.Prelude.{IsSome, is_some, Ok, slice_get, option_map, unwrap_or, if◌then◌else◌}
use Rattle.std.specs.List.{position_or_len}
use Rattle.std.proofs.Math.Seq.{take-add}
use Rattle.std.proofs.lemmas.Bool.{ltb-false}
use Rattle.std.proofs.lemmas.List.Folds.{find_at}
use Rattle.std.proofs.lemmas.List.Elements.{All-push}
use Rattle.std.proofs.lemmas.List.Quantifiers.{position-Some}
use Rattle.std.proofs.lemmas.Slice.Eq.{bytes_eq-Decides}
use Rattle.std.proofs.lemmas.Option.{slice_get_past, slice_get_read, slice_get-get_or, slice_get-map}
use Rattle.cloud_io.specs.Files.{OpenedFile, Opens, ReadsOn, GivesNext, IsNext, begun, read_on, tells_end}
use Rattle.cloud_io.specs.HeldFiles.{has_name, first_named, folder_of, opened_file, opened_of, IsOpenIn}
use Rattle.cloud_io.specs.declared.named_file.NamedFile.{NamedFile}
use Rattle.cloud_io.specs.declared.named_file.OpenFile.{OpenFile}

-- a file that is found has the name
found_name : (files : List NamedFile) (name : List ℕ) (k : ℕ) (d : NamedFile) → first_named files name ≡ Some k → string_bytes (get_or files k d).name ≡ name
found_name files name k d e = (bytes_eq-Decides _ _).0 (position-Some (has_name name) files k d e).1

-- a file that is found is there
found_there : (files : List NamedFile) (name : List ℕ) (k : ℕ) → first_named files name ≡ Some k → k < length files
found_there [] name k e = cc
found_there (f ∷ fs) name k e = (position-Some (has_name name) (f ∷ fs) k f e).0

-- where a test passes first
position_is : (b : Bool) (m k : ℕ) → cond b (Some m) None ≡ Some k → m ≡ k
position_is true m k e = ap (λ (o : Option ℕ). unwrap_or o m) e
position_is false m k e = cc

position_none : (b : Bool) (m : ℕ) → cond b (Some m) None ≡ None → b ≡ false
position_none true m e = cc
position_none false m e = refl

-- a name that is not found has no bytes
pub folder_none : (files : List NamedFile) (name : List ℕ) → first_named files name ≡ None → folder_of files name ≡ None
unfolding folder_of
folder_none files name e =
    let k : ℕ = position_or_len (has_name name) files in
    let past : length files ≤ k = ltb-false k (length files) (position_none _ k e) in
    ap (option_map (λ (f : NamedFile). f.bytes.items)) (find_at (has_name name) files ∙ slice_get_past files k past)

-- a name that is found has the bytes of its file
folder_found : (files : List NamedFile) (name : List ℕ) (k : ℕ) (f : NamedFile) → first_named files name ≡ Some k → slice_get files k ≡ Some f → folder_of files name ≡ Some f.bytes.items
unfolding folder_of
folder_found files name k f e at =
    ap (option_map (λ (f : NamedFile). f.bytes.items)) (find_at (has_name name) files ∙ ap (slice_get files) (position_is _ _ k e) ∙ at)

pub folder_some : (files : List NamedFile) (name : List ℕ) (k : ℕ) → first_named files name ≡ Some k → IsSome (folder_of files name)
folder_some [] name k e = cc
folder_some (f ∷ fs) name k e = ap is_some (folder_found (f ∷ fs) name k (get_or (f ∷ fs) k f) e (slice_get-get_or (f ∷ fs) k f (found_there (f ∷ fs) name k e)))

-- a file that is found may be opened, at place 0
pub open_found : (files : List NamedFile) (name : List ℕ) (k : ℕ) → first_named files name ≡ Some k → IsOpenIn files record { index = k; place = 0; ended = false }
open_found files name k e = record {
  there = found_there files name k e;
  first = λ d. ap (first_named files) (found_name files name k d e) ∙ e;
  within = λ d. omega arith;
}

-- an opened file as contracts see it
abbrev pub seen : List NamedFile → OpenFile → OpenedFile
seen files o = opened_file o (slice_get files o.index)

-- in no list nothing is opened
pub opened_none : (files : List NamedFile) → opened_of files [] ≡ []
unfolding opened_of
opened_none files = refl

-- a number of an opened file lies within the list
pub opened_within : (files : List NamedFile) (opened : List OpenFile) (k : ℕ) → k < length (opened_of files opened) → k < length opened
unfolding opened_of
opened_within files opened k h = omega (arith, length-map opened (seen files))

-- a file was opened behind the others
pub opens_found : (files : List NamedFile) (opened new : List OpenFile) (name : List ℕ) (index number : ℕ) → first_named files name ≡ Some index → number ≡ length opened
    → new ≡ opened ++ record { index = index; place = 0; ended = false } ∷ [] → Opens (opened_of files opened) (opened_of files new) name (Ok number)
unfolding opened_of
opens_found [] opened new name index number e n is = cc
opens_found (f ∷ fs) opened new name index number e n is =
    let files : List NamedFile = f ∷ fs in
    let o : OpenFile = record { index = index; place = 0; ended = false } in
    let found : NamedFile = get_or files index f in
    let there : slice_get files index ≡ Some found = slice_get-get_or files index f (found_there files name index e) in
    let shown : seen files o ≡ begun name [] = ap (opened_file o) there ∙ ap (λ (l : List ℕ). begun l []) (found_name files name index f e) in (
      n ∙ sym (length-map opened (seen files)),
      ap (map (seen files)) is ∙ map-append (seen files) opened (o ∷ []) ∙ ap (λ (x : OpenedFile). map (seen files) opened ++ x ∷ []) shown,
    )

-- the file of an opened number, and its place, are in order
pub open_here : (files : List NamedFile) (opened : List OpenFile) (k : ℕ) (o : OpenFile) → All (λ o. IsOpenIn files o) opened → k < length opened → o ≡ get_or opened k o → IsOpenIn files o
open_here files opened k o valid lt is = subst (λ o. IsOpenIn files o) (sym is) (valid k o lt)

-- its place is not behind the end
pub place_within : (files : List NamedFile) (o : OpenFile) (f : NamedFile) → IsOpenIn files o → f ≡ get_or files o.index f → o.place ≤ length f.bytes.items
place_within files o f valid at = subst (λ (g : NamedFile). o.place ≤ length g.bytes.items) (sym at) (valid.within f)

-- an opened number, as contracts see it
seen_here : (files : List NamedFile) (opened : List OpenFile) (k : ℕ) (o : OpenFile) (f : NamedFile) → IsOpenIn files o → k < length opened → o ≡ get_or opened k o → f ≡ get_or files o.index f
    → slice_get (opened_of files opened) k ≡ Some (opened_file o (Some f))
unfolding opened_of
seen_here files opened k o f valid lt is at =
    slice_get-map (seen files) opened k ∙ ap (option_map (seen files)) (slice_get_read opened (length opened) k o refl lt is)
    ∙ ap (λ (g : Option NamedFile). Some (opened_file o g)) (slice_get_read files (length files) o.index f refl valid.there at)

-- it is the one that stands at its number
same_seen : (x y : OpenedFile) (found : Option OpenedFile) → found ≡ Some x → found ≡ Some y → x ≡ y
same_seen x y found a b = ap (λ (g : Option OpenedFile). unwrap_or g x) (sym a ∙ b)

-- it has given the bytes of one more read
pub reads_here : (files : List NamedFile) (opened : List OpenFile) (k : ℕ) (o o' : OpenFile) (f : NamedFile) (n : ℕ) (buf : List ℕ) → IsOpenIn files o → k < length opened → o ≡ get_or opened k o → f ≡ get_or files o.index f
    → o' ≡ record { index = o.index; place = o.place + n; ended = o.ended || tells_end n buf } → take n buf ≡ take n (drop o.place f.bytes.items)
    → ReadsOn (opened_of files opened) (opened_of files (set opened k o')) k n buf
unfolding opened_of
reads_here files opened k o o' f n buf valid lt is at new next x e =
    let old : opened_file o (Some f) ≡ x = same_seen (opened_file o (Some f)) x (slice_get (opened_of files opened) k) (seen_here files opened k o f valid lt is at) e in
    let place : slice_get files o'.index ≡ Some f = ap (λ (p : OpenFile). slice_get files p.index) new ∙ slice_get_read files (length files) o.index f refl valid.there at in
    let given : take (o.place + n) f.bytes.items ≡ take o.place f.bytes.items ++ take n buf = take-add o.place n f.bytes.items ∙ ap (λ (l : List ℕ). take o.place f.bytes.items ++ l) (sym next) in
    let shown : seen files o' ≡ read_on n buf (opened_file o (Some f)) =
    ap (opened_file o') place ∙ ap (λ (p : OpenFile). opened_file p (Some f)) new
    ∙ ap (λ (l : List ℕ). record { name = string_bytes f.name; given = l; ended = o.ended || tells_end n buf }) given in
    map-set (seen files) opened k o' ∙ ap (set (map (seen files) opened) k) (shown ∙ ap (read_on n buf) old)

-- its next bytes are given
pub gives_here : (files : List NamedFile) (opened : List OpenFile) (k : ℕ) (o : OpenFile) (f : NamedFile) (n : ℕ) (buf : List ℕ) → IsOpenIn files o → k < length opened → o ≡ get_or opened k o → f ≡ get_or files o.index f
    → IsNext f.bytes.items o.place n buf → GivesNext (Some (folder_of files)) (opened_of files opened) k n buf
gives_here files opened k o f n buf valid lt is at next x bytes e told =
    let old : opened_file o (Some f) ≡ x = same_seen (opened_file o (Some f)) x (slice_get (opened_of files opened) k) (seen_here files opened k o f valid lt is at) e in
    let here : slice_get files o.index ≡ Some f = slice_get_read files (length files) o.index f refl valid.there at in
    let first : first_named files (string_bytes f.name) ≡ Some o.index = subst (λ (g : NamedFile). first_named files (string_bytes g.name) ≡ Some o.index) (sym at) (valid.first f) in
    let known : folder_of files (string_bytes f.name) ≡ Some f.bytes.items = folder_found files (string_bytes f.name) o.index f first here in
    let same : f.bytes.items ≡ bytes = ap (λ (b : Option (List ℕ)). unwrap_or b bytes) (sym known ∙ ap (λ (y : OpenedFile). folder_of files y.name) old ∙ told) in
    let place : o.place ≡ length x.given = sym (length-take-le o.place f.bytes.items (place_within files o f valid at)) ∙ ap (λ (y : OpenedFile). length y.given) old in
    subst (λ (b : List ℕ). IsNext b (length x.given) n buf) same (subst (λ (m : ℕ). IsNext f.bytes.items m n buf) place next)

-- bytes that were copied to the front of a buffer, as many as fit
pub next_copied : (bytes : List ℕ) (place n : ℕ) (buf copied : List ℕ) → copied ≡ take n (drop place bytes) → n ≡ min (length (drop place bytes)) (length buf) → IsNext bytes place n (copied ++ drop n buf)
next_copied bytes place n buf copied is most =
    let rest : length (drop place bytes) ≡ length bytes - place = length-drop place bytes in
    let len : length copied ≡ n = ap length is ∙ length-take-le n (drop place bytes) (omega arith) in
    let whole : length (copied ++ drop n buf) ≡ length copied + (length buf - n) = length-append copied (drop n buf) ∙ ap (λ k. length copied + k) (length-drop n buf) in
    record {
      given = take_at copied (drop n buf) n len ∙ is;
      within = omega arith;
      ends = λ none room. omega arith;
    }

-- all are in order, whether a file that is in order was put behind them or not
pub valid_push : (pushed : Bool) (files : List NamedFile) (opened new : List OpenFile) (o : OpenFile) → new ≡ (if pushed then opened ++ o ∷ [] else opened) → All (λ o. IsOpenIn files o) opened → IsOpenIn files o → All (λ o. IsOpenIn files o) new
valid_push true files opened new o is all last = subst (λ (l : List OpenFile). All (λ o. IsOpenIn files o) l) (sym is) (All-push (λ o. IsOpenIn files o) opened o all last)
valid_push false files opened new o is all last = subst (λ (l : List OpenFile). All (λ o. IsOpenIn files o) l) (sym is) all
