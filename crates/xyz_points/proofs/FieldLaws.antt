-- The first field of a line.
use Rattle.std.proofs.Common.{◌≡◌, ℕ, suc, ◌+◌, ◌<◌, Bool, false, not, List, [], ◌∷◌, take, drop, filter, length, position, Some, None, ap, ◌∙◌, sym, refl, arith, inl, inr}
use Rattle.std.specs.List.{slice_split, position_or_len}
use Rattle.std.proofs.lemmas.Bool.{cases_Bool, ne_eqb}
use Rattle.std.proofs.lemmas.List.{drop_all, length-take}
use Rattle.xyz_points.specs.Lines.{is_empty, is_separator, fields_of}
use Rattle.xyz_points.proofs.Cuts.{uncut, cut_at, not_found, found}

-- the fields between the elements that pass a test
abbrev fields_by : (ℕ → Bool) → List ℕ → List (List ℕ)
fields_by p line = filter (λ field. not (is_empty field)) (slice_split p line)

-- separators in front of a line are no part of its fields
skipped : (p : ℕ → Bool) (line : List ℕ) → fields_by p (drop (position_or_len (λ b. not (p b)) line) line) ≡ fields_by p line
skipped p [] = refl
skipped p (b ∷ line) = elim (cases_Bool (p b)) [
  | inl e ↦
      let n : ℕ = position_or_len (λ b. not (p b)) line in
      let one : 1 + n ≡ suc n = omega arith in
      rw e (ap (λ m. fields_by p (drop m (b ∷ line))) one ∙ skipped p line)
  | inr e ↦
      let none : position_or_len (λ x. not (p x)) (b ∷ line) ≡ 0 = rw e refl in
      ap (λ m. fields_by p (drop m (b ∷ line))) none
]

-- the line begins with a byte that is no separator
record Begins (p : ℕ → Bool) (line : List ℕ) : Type 0 where
  first : ℕ
  more : List ℕ
  is : line ≡ first ∷ more
  no : p first ≡ false

-- what stands behind the separators at the front begins so
begins : (p : ℕ → Bool) (line : List ℕ) → position_or_len (λ b. not (p b)) line < length line → Begins p (drop (position_or_len (λ b. not (p b)) line) line)
begins p [] within = absurd (omega arith)
begins p (b ∷ line) within = elim (cases_Bool (p b)) [
  | inl e ↦
      let n : ℕ = position_or_len (λ b. not (p b)) line in
      let one : 1 + n ≡ suc n = omega arith in
      let w : 1 + n < length (b ∷ line) = rw e at within in
      rw e (let B : ℕ → Type 0 = λ m. Begins p (drop m (b ∷ line)) in rw one (begins p line (omega arith)))
  | inr e ↦ rw e (record { first = b; more = line; is = refl; no = e })
]

-- a line that begins with a field and has no separator is this field
only_field : (p : ℕ → Bool) (line : List ℕ) → Begins p line → position p line ≡ None → fields_by p line ≡ line ∷ []
only_field p line b e =
    let some : is_empty line ≡ false = ne_eqb _ _ (λ z. absurd (omega (arith, ap length b.is, z))) in
    rw (uncut p line e, some) refl

-- otherwise the field ends at the first separator
field_before : (p : ℕ → Bool) (line : List ℕ) (k : ℕ) → Begins p line → position p line ≡ Some k → fields_by p line ≡ take k line ∷ fields_by p (drop (k + 1) line)
field_before p line k b e =
    let f = found p line k e in
    let at : 1 + position_or_len p b.more ≡ k = rw (b.is, b.no) at f.at in
    let some : is_empty (take k line) ≡ false = ne_eqb _ _ (λ z. absurd (omega (arith, length-take k line, f.within, z))) in
    ap (filter (λ field. not (is_empty field))) (cut_at p line k 0 e) ∙ rw some refl

-- a line of separators has no field
pub no_field : (line : List ℕ) → position (λ b. not (is_separator b)) line ≡ None → fields_of line ≡ []
no_field line e = sym (skipped is_separator line) ∙ ap fields_of (drop_all _ line (not_found _ line e))

-- a field to the end of the line, behind separators
last_field_by : (p : ℕ → Bool) (line : List ℕ) (k : ℕ) → position (λ b. not (p b)) line ≡ Some k → position p (drop k line) ≡ None
    → fields_by p line ≡ drop k line ∷ []
last_field_by p line k at e =
    let f = found (λ b. not (p b)) line k at in
    let b : Begins p (drop k line) = rw f.at at (begins p line (omega (arith, f.at, f.within))) in
    let s : fields_by p (drop k line) ≡ fields_by p line = rw f.at at (skipped p line) in
    sym s ∙ only_field p (drop k line) b e

-- a field that ends at a separator, behind separators
first_field_by : (p : ℕ → Bool) (line : List ℕ) (k n : ℕ) → position (λ b. not (p b)) line ≡ Some k → position p (drop k line) ≡ Some n
    → fields_by p line ≡ take n (drop k line) ∷ fields_by p (drop (n + 1) (drop k line))
first_field_by p line k n at e =
    let f = found (λ b. not (p b)) line k at in
    let b : Begins p (drop k line) = rw f.at at (begins p line (omega (arith, f.at, f.within))) in
    let s : fields_by p (drop k line) ≡ fields_by p line = rw f.at at (skipped p line) in
    sym s ∙ field_before p (drop k line) n b e

-- the field that begins at the first byte that is no separator, where no separator stands behind it
pub last_field : (line : List ℕ) (k : ℕ) → position (λ b. not (is_separator b)) line ≡ Some k → position is_separator (drop k line) ≡ None
    → fields_of line ≡ drop k line ∷ []
last_field line k at e = last_field_by is_separator line k at e

-- and where one does
pub first_field : (line : List ℕ) (k n : ℕ) → position (λ b. not (is_separator b)) line ≡ Some k → position is_separator (drop k line) ≡ Some n
    → fields_of line ≡ take n (drop k line) ∷ fields_of (drop (n + 1) (drop k line))
first_field line k n at e = first_field_by is_separator line k n at e
