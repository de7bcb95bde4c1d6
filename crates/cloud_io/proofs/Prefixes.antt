-- The first bytes of a file that is told, as far as a reading has come.
use Rattle.std.proofs.Common.{◌≡◌, ℕ, zero, suc, ◌+◌, ◌<◌, ◌≤◌, Bool, true, false, ◌&&◌, ◌||◌, List, ◌++◌, [], ◌∷◌, set, take, drop, length, Option, Some, None, subst, sym, ap, ◌∙◌, refl, arith, length-append}
use Rattle.std.proofs.lemmas.Bool.{lt-ltb}
use Rattle.std.proofs.lemmas.List.{append-nil, length-take-le, take_all}
use Rattle.std.specs.Prelude.{IfSome, IsSome, IsSomeAnd, IsTrue, nat_eq, nat_lt, slice_get, unwrap_or}
use Rattle.std.specs.Io.{StartsWith}
use Rattle.std.proofs.Math.Dec.{eqb-suc-zero}
use Rattle.std.proofs.Math.Seq.{take-add, set-append_seam}
use Rattle.cloud_io.specs.Files.{Folder, Opened, OpenedFile, IsGivenBy, ReadsOn, GivesNext, IsNext, begun, finished, read_on}

-- the folder has a file of the name that begins with the bytes
pub record Begins (folder : Folder) (name xs : List ℕ) : Type 0 where
  pub bytes : List ℕ
  pub there : folder name ≡ Some bytes
  pub within : length xs ≤ length bytes
  pub first : take (length xs) bytes ≡ xs

-- the same of a folder that may not be told
abbrev pub HasBegun : Option Folder → List ℕ → List ℕ → Type 0
HasBegun files name xs = IfSome files (λ folder. Begins folder name xs)

-- what is there begins with no bytes
begins_none : (folder : Folder) (name : List ℕ) (file : Option (List ℕ)) → folder name ≡ file → IsSome file → Begins folder name []
begins_none folder name None e h = cc
begins_none folder name (Some bytes) e h = record { bytes = bytes; there = e; within = omega arith; first = refl }

pub begun_none : (files : Option Folder) (name : List ℕ) → IfSome files (λ folder. IsSome (folder name)) → HasBegun files name []
begun_none None name h = tt
begun_none (Some folder) name h = begins_none folder name (folder name) refl h

-- a read of n bytes goes on by them
more_at : (folder : Folder) (name xs buf : List ℕ) (n : ℕ) (b : Begins folder name xs) → n ≤ length buf → IsNext b.bytes (length xs) n buf → Begins folder name (xs ++ take n buf)
more_at folder name xs buf n b fits next =
    let len : length (xs ++ take n buf) ≡ length xs + n = length-append xs (take n buf) ∙ ap (λ k. length xs + k) (length-take-le n buf fits) in
    record {
      bytes = b.bytes;
      there = b.there;
      within = omega (arith, len, next.within, b.within);
      first = ap (λ k. take k b.bytes) len ∙ take-add (length xs) n b.bytes ∙ ap (λ (l : List ℕ). l ++ take n (drop (length xs) b.bytes)) b.first ∙ ap (λ (l : List ℕ). xs ++ l) (sym next.given);
    }

pub begun_more : (files told : Option Folder) (opened : Opened) (file : ℕ) (name xs buf new : List ℕ) (n : ℕ) → told ≡ files → HasBegun files name xs → slice_get opened file ≡ Some (begun name xs) → n ≤ length buf → GivesNext told opened file n buf → new ≡ xs ++ take n buf → HasBegun files name new
begun_more None told opened file name xs buf new n same begun stands fits gives e = tt
begun_more (Some folder) told opened file name xs buf new n same has stands fits gives e =
    let G : Option Folder → Type 0 = λ f. GivesNext f opened file n buf in
    let B : List ℕ → Type 0 = λ l. Begins folder name l in
    subst B (sym e) (more_at folder name xs buf n has fits (subst G same gives (begun name xs) has.bytes stands has.there))

-- a read that gives nothing shows the end
pub begun_whole : (files told : Option Folder) (opened : Opened) (file : ℕ) (name xs buf : List ℕ) (n : ℕ) → told ≡ files → HasBegun files name xs → slice_get opened file ≡ Some (begun name xs) → GivesNext told opened file n buf → n ≡ 0 → 0 < length buf → IfSome files (λ folder. folder name ≡ Some xs)
begun_whole None told opened file name xs buf n same begun stands gives none room = tt
begun_whole (Some folder) told opened file name xs buf n same has stands gives none room =
    let G : Option Folder → Type 0 = λ f. GivesNext f opened file n buf in
    let next : IsNext has.bytes (length xs) n buf = subst G same gives (begun name xs) has.bytes stands has.there in
    let all : has.bytes ≡ xs = sym (take_all (length xs) has.bytes (next.ends none room)) ∙ has.first in
    has.there ∙ ap (λ (l : List ℕ). Some l) all

-- a file that begins with more than so many bytes is longer
long_at : (file : Option (List ℕ)) (bytes xs : List ℕ) (most : ℕ) → file ≡ Some bytes → length xs ≤ length bytes → most < length xs → IsSomeAnd file (λ bytes. most < length bytes)
long_at None bytes xs most e within long = cc
long_at (Some bytes') bytes xs most e within long =
    let same : bytes' ≡ bytes = cc in
    omega (arith, ap length same)

pub begun_long : (files : Option Folder) (name xs : List ℕ) (most : ℕ) → HasBegun files name xs → most < length xs → IfSome files (λ folder. IsSomeAnd (folder name) (λ bytes. most < length bytes))
begun_long None name xs most begun long = tt
begun_long (Some folder) name xs most begun long = long_at (folder name) begun.bytes xs most begun.there begun.within long

-- what has begun is given by the folder
begun_given : (folder : Folder) (name xs : List ℕ) (file : Option (List ℕ)) (bytes : List ℕ) → file ≡ Some bytes → take (length xs) bytes ≡ xs → IsSomeAnd file (λ bs. StartsWith bs xs × (IsTrue false → xs ≡ bs))
begun_given folder name xs None bytes e first = cc
begun_given folder name xs (Some bytes') bytes e first =
    let same : bytes' ≡ bytes = ap (λ (o : Option (List ℕ)). unwrap_or o bytes) e in
    (ap (take (length xs)) same ∙ first, λ no. cc)

pub given_begun : (files : Option Folder) (name xs : List ℕ) → HasBegun files name xs → IfSome files (λ folder. IsGivenBy folder (begun name xs))
given_begun None name xs has = tt
given_begun (Some folder) name xs has = begun_given folder name xs (folder name) has.bytes has.there has.first

-- and so is what was read whole
whole_given : (xs : List ℕ) (file : Option (List ℕ)) → file ≡ Some xs → IsSomeAnd file (λ bs. StartsWith bs xs × (IsTrue true → xs ≡ bs))
whole_given xs None e = cc
whole_given xs (Some bytes) e =
    let same : bytes ≡ xs = ap (λ (o : Option (List ℕ)). unwrap_or o xs) e in
    (ap (take (length xs)) same ∙ take_all (length xs) xs (omega arith), λ yes. sym same)

pub given_whole : (files : Option Folder) (name xs : List ℕ) → IfSome files (λ folder. folder name ≡ Some xs) → IfSome files (λ folder. IsGivenBy folder (finished name xs))
given_whole None name xs is = tt
given_whole (Some folder) name xs is = whole_given xs (folder name) is

-- the file that was opened last stands behind the others
stands_last : (before : Opened) (o : OpenedFile) → slice_get (before ++ o ∷ []) (length before) ≡ Some o
stands_last [] o = refl
stands_last (x ∷ before) o = stands_last before o

pub stands : (before opened : Opened) (file : ℕ) (o : OpenedFile) → opened ≡ before ++ o ∷ [] → file ≡ length before → slice_get opened file ≡ Some o
stands before opened file o is number = ap (slice_get opened) number ∙ ap (λ (l : Opened). slice_get l (length before)) is ∙ stands_last before o

-- it was read once more
read_once : (before old new : Opened) (file n : ℕ) (buf : List ℕ) (o : OpenedFile) → old ≡ before ++ o ∷ [] → file ≡ length before → ReadsOn old new file n buf → new ≡ before ++ read_on n buf o ∷ []
read_once before old new file n buf o is number reads =
    reads o (stands before old file o is number)
    ∙ ap (λ (k : ℕ). set old k (read_on n buf o)) number ∙ ap (λ (l : Opened). set l (length before) (read_on n buf o)) is
    ∙ set-append_seam before o [] (read_on n buf o)

not_none : (n : ℕ) → (n ≡ 0 → ⊥) → nat_eq n 0 ≡ false
not_none zero some = absurd (some refl)
not_none (suc n) some = eqb-suc-zero n

-- a read that gave bytes told no end
pub read_more : (before old new : Opened) (file n : ℕ) (name xs buf more : List ℕ) → old ≡ before ++ begun name xs ∷ [] → file ≡ length before → ReadsOn old new file n buf → (n ≡ 0 → ⊥) → more ≡ xs ++ take n buf
    → new ≡ before ++ begun name more ∷ []
read_more before old new file n name xs buf more is number reads some grew =
    read_once before old new file n buf (begun name xs) is number reads
    ∙ ap (λ (b : Bool). before ++ record { name = name; given = xs ++ take n buf; ended = false || (b && nat_lt 0 (length buf)) } ∷ []) (not_none n some)
    ∙ ap (λ (l : List ℕ). before ++ begun name l ∷ []) (sym grew)

-- and one that gave none told the end
pub read_last : (before old new : Opened) (file n : ℕ) (name xs buf : List ℕ) → old ≡ before ++ begun name xs ∷ [] → file ≡ length before → ReadsOn old new file n buf → n ≡ 0 → 0 < length buf → new ≡ before ++ finished name xs ∷ []
read_last before old new file n name xs buf is number reads none room =
    read_once before old new file n buf (begun name xs) is number reads
    ∙ ap (λ (k : ℕ). before ++ read_on k buf (begun name xs) ∷ []) none
    ∙ ap (λ (b : Bool). before ++ record { name = name; given = xs ++ []; ended = b } ∷ []) (lt-ltb 0 (length buf) room)
    ∙ ap (λ (l : List ℕ). before ++ finished name l ∷ []) (append-nil xs)

-- how many bytes there are behind a read
pub grown : (new old : List ℕ) (n : ℕ) (buf : List ℕ) → new ≡ old ++ take n buf → n ≤ length buf → length new ≡ length old + n
grown new old n buf e fits = ap length e ∙ length-append old (take n buf) ∙ ap (λ k. length old + k) (length-take-le n buf fits)
