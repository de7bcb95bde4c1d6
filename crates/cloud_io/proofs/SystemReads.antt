-- Files of the system that are read by their numbers.
use Rattle.std.proofs.Common.{◌≡◌, ℕ, zero, suc, ◌<◌, List, [], ◌∷◌, length, map, get_or, set, Option, Some, Result, Ok, Err, ap, ◌∙◌, sym, refl, subst, arith}
use Rattle.std.specs.Prelude.{slice_get, option_map, option_and_then, unwrap_or}
use Rattle.std.specs.Io.KnownBytes.{ReadConsumes}
use Rattle.std.proofs.lemmas.List.{length-map, map-set}
use Rattle.std.proofs.lemmas.Option.{slice_get-map, slice_get_read}
use Rattle.std.proofs.Math.Seq.{map-set_same}
use Rattle.cloud_io.specs.Files.{OpenedFile, Reads, read_on}
use Rattle.cloud_io.specs.SystemFiles.{opened_file, opened_of, left_in, left_of, behind}
use Rattle.cloud_io.specs.declared.system_file.SystemFile.{SystemFile}

-- an opened number lies within the list
pub within : {F : Type 0} (opened : List (SystemFile F)) (k : ℕ) → k < length (opened_of opened) → k < length opened
within opened k h = omega (arith, length-map opened opened_file)

set_get : {X : Type 0} (xs : List X) (k : ℕ) (y : X) → k < length xs → slice_get (set xs k y) k ≡ Some y
set_get [] k y h = absurd (omega arith)
set_get (x ∷ xs) zero y h = refl
set_get (x ∷ xs) (suc k) y h = set_get xs k y (omega arith)

-- the file of the number was read, and no other
pub reads_number : {F E : Type 0} (opened : List (SystemFile F)) (k : ℕ) (o o' : SystemFile F) (result : Result ℕ E) (buf : List ℕ) → k < length opened → o ≡ get_or opened k o
    → opened_file o' ≡ behind (opened_file o) result buf → Reads (opened_of opened) (opened_of (set opened k o')) k result buf
reads_number opened k o o' (Ok n) buf lt is read = λ x e.
    let here : slice_get (opened_of opened) k ≡ Some (opened_file o) = slice_get-map opened_file opened k ∙ ap (option_map opened_file) (slice_get_read opened (length opened) k o refl lt is) in
    let same : opened_file o ≡ x = ap (λ (g : Option OpenedFile). unwrap_or g x) (sym here ∙ e) in
    map-set opened_file opened k o' ∙ ap (set (map opened_file opened) k) (read ∙ ap (read_on n buf) same)
reads_number opened k o o' (Err e) buf lt is read = map-set_same opened_file opened k o' o (read ∙ ap opened_file is)

-- and its reader consumed what was given
pub consumes_number : {F E : Type 0} (remaining : F → Option (List ℕ)) (opened : List (SystemFile F)) (k : ℕ) (o o' : SystemFile F) (result : Result ℕ E) (buf : List ℕ) → k < length opened → o ≡ get_or opened k o
    → ReadConsumes (left_in remaining o.file) (left_in remaining o'.file) result buf → ReadConsumes (left_of remaining opened k) (left_of remaining (set opened k o') k) result buf
consumes_number {F} remaining opened k o o' result buf lt is consumes =
    let left : Option (SystemFile F) → Option (List ℕ) = option_and_then (λ p. left_in remaining p.file) in
    let before : left_in remaining o.file ≡ left_of remaining opened k = sym (ap left (slice_get_read opened (length opened) k o refl lt is)) in
    let after : left_in remaining o'.file ≡ left_of remaining (set opened k o') k = sym (ap left (set_get opened k o' lt)) in
    subst (λ b. ReadConsumes (left_of remaining opened k) b result buf) after (subst (λ a. ReadConsumes a (left_in remaining o'.file) result buf) before consumes)
