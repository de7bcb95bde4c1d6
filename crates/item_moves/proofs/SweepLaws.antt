-- A list that is swept.
use Rattle.std.proofs.Common.{◌≡◌, ◌≢◌, ℕ, ◌+◌, ◌<◌, inl, inr, Bool, List, [], ◌∷◌, length, count_by, ◌==◌, get_or, sum_by, Contains, IsTrue, Option, ap, sym, ◌∙◌, subst, arith}
use Rattle.std.proofs.lemmas.Bool.{cases_eq}
use Rattle.std.proofs.Math.ListN.{length-set}
use Rattle.std.proofs.lemmas.Grind.{common_steps}
use Rattle.std.proofs.lemmas.List.Elements.{Contains-append_cases}
use Rattle.std.proofs.lemmas.List.Sums.{sum_by-cons}
use Rattle.list_words.specs.declared.leaf_lists.Phase.TheVariants.{Open, Shut}
use Rattle.list_words.specs.Store.{Store, Row, IsOpen, IsShut, Keeps, row, shut_now, shut_with, found_in, chunks_of, held_of}
use Rattle.list_words.proofs.RowLaws.{open_row, row-with_row, row-with_row_other, shut_holds, shut_open}
use Rattle.item_moves.specs.Aimed.{AreAimed}
use Rattle.item_moves.specs.Homes.{AreHomed, IsAlone, IsKnownIn, OnlyPlaced, OnlyHome}
use Rattle.item_moves.specs.Settled.{AreSettled, AreSwept, IsKept}
use Rattle.item_moves.proofs.FoundLaws.{home_stays}

pub not_both : Shut ≡ Open → ⊥
not_both e = cc

pub first_one : (z : ℕ) (zs : List ℕ) → Contains (z ∷ zs) z
first_one z zs = grind (arith, common_steps)

pub only_one : (z y : ℕ) → Contains (z ∷ []) y → y ≡ z
only_one z y c = grind (arith, common_steps)

pub still_known : (knows knows' : ℕ → ℕ → ℕ → Type 0) (l x : ℕ) → Keeps knows knows' → IsKnownIn knows l x → IsKnownIn knows' l x
still_known knows knows' l x keeps k = (k.0, keeps l k.0 x k.1)

pub sum_one : (f : ℕ → ℕ) (x : ℕ) → sum_by f (x ∷ []) ≡ f x
sum_one f x = sum_by-cons f x [] ∙ nothing (f x)
  where
    nothing : (n : ℕ) → n + 0 ≡ n
    nothing n = omega arith

-- ---- the store once a list was shut
module _ (s : Store) (from : ℕ) (marked : List (Option ℕ)) (o : IsOpen s from) where
  abbrev shut : Store
  shut = shut_now s from marked

  pub shut_row : row shut from ≡ shut_with (row s from) marked
  shut_row = row-with_row s from (shut_with (row s from) marked) (open_row s from o)

  pub shut_row_other : (l : ℕ) → l ≢ from → row shut l ≡ row s l
  shut_row_other l ne = row-with_row_other s from l (shut_with (row s from) marked) ne

  open_apart : (l : ℕ) → IsOpen shut l → l ≢ from
  open_apart l there = (shut_open s from l marked o there).0

  was : (l : ℕ) → IsOpen shut l → IsOpen s l
  was l there = (shut_open s from l marked o there).1

  pub open_still : (l : ℕ) → l ≢ from → IsOpen s l → IsOpen shut l
  open_still l ne there = ap (λ (r : Row). r.phase) (shut_row_other l ne) ∙ there

  pub homed_shut : (knows knows' : ℕ → ℕ → ℕ → Type 0) (guest : ℕ → ℕ → Bool) (homes : List ℕ) → AreHomed s knows guest homes → Keeps knows knows'
      → AreHomed shut knows' guest homes
  homed_shut knows knows' guest homes h keeps = record {
    known = λ l x there low e. still_known knows knows' l x keeps (h.known l x (was l there) low e);
    once = λ l x there. ap (λ (r : Row). count r.placed x) (shut_row_other l (open_apart l there)) ∙ h.once l x (was l there);
    counted = λ l there. ap (λ (r : Row). length r.placed) (shut_row_other l (open_apart l there)) ∙ h.counted l (was l there);
    guests = λ l x there. h.guests l x (was l there);
    room = λ l there. omega (arith, h.room l (was l there), ap (λ (r : Row). length r.owned) (shut_row_other l (open_apart l there)));
  }
    where
      count : List ℕ → ℕ → ℕ
      count xs x = count_by (λ y. y == x) xs

  module _ (leaf : ℕ → ℕ) (covers guest : ℕ → ℕ → Bool) (homes splits : List ℕ) (a : AreAimed s leaf covers guest homes splits)
      (among : Contains splits from) where
    pub leaf_open : (x : ℕ) → IsTrue (covers from x) → IsOpen shut (leaf x)
    leaf_open x can =
        open_still (leaf x) (λ same. a.apart x (a.admitted from x can) (subst (Contains splits) (sym same) among)) (a.open_leaf x (a.admitted from x can))

    pub alone_shut : (x : ℕ) → IsTrue (covers from x) → IsAlone shut homes x (leaf x)
    alone_shut x can l there e = elim (a.home l x (a.admitted from x can) (was l there) e) [
      | inl own ↦ own
      | inr other ↦ absurd (open_apart l there (a.single l from x other.0 among other.1 can))
    ]

  -- ---- the store once what was found is placed
  module _ (t : Store) (p : OnlyPlaced shut t) where
    -- what was found there is what the sweep appended
    pub found_there : row t from ≡ row shut from
    found_there = p.others from (λ oo. not_both (sym (ap (λ (r : Row). r.phase) shut_row) ∙ oo))

    pub swept_one : AreSwept s t (from ∷ [])
    swept_one =
        let apart : (l : ℕ) → (Contains (from ∷ []) l → ⊥) → l ≢ from = λ l n e. n (subst (Contains (from ∷ [])) (sym e) (first_one from [])) in
        let is_shut : IsShut shut from = ap (λ (r : Row). r.phase) shut_row in
        record {
          rest = p.rest;
          lists = p.lists ∙ length-set s.rows from (shut_with (row s from) marked);
          rows = λ l n. p.rows l ∙ ap (λ (r : Row). record r { placed = (row t l).placed }) (shut_row_other l (apart l n));
          others = λ l n not_open. p.others l (λ there. not_open (was l there)) ∙ shut_row_other l (apart l n);
          shut = λ l c. ap (λ k. (row t k).phase) (only_one from l c) ∙ ap (λ (r : Row). r.phase) found_there ∙ is_shut;
          held = p.held ∙ shut_holds s from marked o ∙ ap (λ n. held_of s + n) (sym (sum_one (λ l. length (chunks_of (row s l))) from));
        }

-- ---- what is housed and what is kept, once one more list was swept
module _ (s t : Store) (knows : ℕ → ℕ → ℕ → Type 0) (leaf : ℕ → ℕ) (covers guest : ℕ → ℕ → Bool) (before now : List ℕ) (from : ℕ) (rest : List ℕ)
    (o : IsOpen s from)
    (moved : (x : ℕ) → IsKnownIn knows from x → IsTrue (covers from x) → get_or now x 0 ≡ leaf x) where
  was_row : AreSwept s t (from ∷ []) → (l : ℕ) → l ≢ from → IsShut t l → row t l ≡ row s l
  was_row w l ne there =
      let apart : Contains (from ∷ []) l → ⊥ = λ c. ne (only_one from l c) in
      let shut : IsShut s l = sym (ap (λ (r : Row). r.phase) (w.rows l apart)) ∙ there in
      w.others l apart (λ oo. not_both (sym shut ∙ oo))

  pub settled_more : AreHomed s knows guest before → ((x : ℕ) → IsTrue (covers from x) → x < length before) → OnlyHome leaf before now
      → AreSwept s t (from ∷ [])
      → ((x : ℕ) → Contains (found_in (row t from)) x → IsTrue (covers from x) → get_or now x 0 ≡ leaf x)
      → AreSettled s leaf covers before (from ∷ rest) → AreSettled t leaf covers now rest
  unfolding AreSettled
  settled_more h admitted only w found old l x there among can =
      elim (cases_eq l from) [
        | inl same ↦ inl (found x (subst (λ k. Contains (found_in (row t k)) x) same among) (subst (λ k. IsTrue (covers k x)) same can))
        | inr ne ↦
            let row_is : row t l ≡ row s l = was_row w l ne there in
            let shut : IsShut s l = sym (ap (λ (r : Row). r.phase) row_is) ∙ there in
            elim (old l x shut (subst (λ (r : Row). Contains (found_in r) x) row_is among) can) [
              | inl home ↦ inl (home_stays leaf before now x only home)
              | inr housed ↦ elim (Contains-append_cases (from ∷ []) rest housed.0 housed.1) [
                | inl first ↦
                    let is : housed.0 ≡ from = only_one from housed.0 first in
                    let in_from : IsTrue (covers from x) = subst (λ k. IsTrue (covers k x)) is housed.3 in
                    inl (moved x (h.known from x o (admitted x in_from) (housed.2 ∙ is)) in_from)
                | inr later ↦ elim (only.each x) [
                  | inl same ↦ inr (housed.0, later, same ∙ housed.2, housed.3)
                  | inr home ↦ inl home
                ]
              ]
            ]
      ]

  pub kept_more : (knows' : ℕ → ℕ → ℕ → Type 0) → AreHomed t knows' guest now → ((x : ℕ) → IsTrue (covers from x) → IsOpen t (leaf x))
      → ((x : ℕ) → IsTrue (covers from x) → x < length now)
      → Keeps knows knows' → (x : ℕ) → IsKept knows leaf covers (from ∷ rest) x → IsKept knows' leaf covers rest x
  kept_more knows' h open_leaf admitted keeps x old =
      elim old [
        | inl stands ↦ inl (still_known knows knows' (leaf x) x keeps stands)
        | inr held ↦ elim (Contains-append_cases (from ∷ []) rest held.0 held.1) [
          | inl first ↦
              let is : held.0 ≡ from = only_one from held.0 first in
              let in_from : IsTrue (covers from x) = subst (λ k. IsTrue (covers k x)) is held.3 in
              let home : get_or now x 0 ≡ leaf x = moved x (subst (λ k. IsKnownIn knows k x) is held.2) in_from in
              inl (h.known (leaf x) x (open_leaf x in_from) (admitted x in_from) home)
          | inr later ↦ inr (held.0, later, still_known knows knows' held.0 x keeps held.2, held.3)
        ]
      ]
