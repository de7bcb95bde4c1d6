-- Lists that are swept one after the other.
use Rattle.std.proofs.Common.{◌≡◌, ◌≢◌, ℕ, ◌+◌, ◌<◌, inl, inr, Bool, List, [], ◌∷◌, ◌++◌, map, length, get_or, sum_by, take, drop, Contains, AllPairs, refl, ap, sym, ◌∙◌, subst, append_assoc, arith}
use Rattle.std.proofs.lemmas.Bool.{cases_eq}
use Rattle.std.proofs.lemmas.Grind.{common_steps}
use Rattle.std.proofs.lemmas.List.{get_or-take, length-take-le, append-nil, map-append}
use Rattle.std.proofs.lemmas.List.Elements.{Contains-append_cases, Contains-append_left, Contains-append_right}
use Rattle.std.proofs.lemmas.List.Sums.{sum_by-append}
use Rattle.list_words.specs.Store.{Store, Row, IsOpen, IsShut, row, chunks_of, held_of}
use Rattle.item_moves.specs.Aimed.{AreAimed}
use Rattle.item_moves.specs.Homes.{OnlyHome, OnlyPlaced}
use Rattle.item_moves.specs.Settled.{AreSwept}
use Rattle.item_moves.proofs.HomeLaws.{open_stays, open_was}
use Rattle.item_moves.proofs.SweepLaws.{sum_one, first_one, only_one, not_both}

-- ---- places in a list
pub no_one : (l : ℕ) → Contains [] l → ⊥
no_one l c = grind (arith, common_steps)

-- an item of a first part stands in the list
pub in_take : (xs : List ℕ) (i x : ℕ) → Contains (take i xs) x → Contains xs x
in_take xs i x c = subst (λ (l : List ℕ). Contains l x) (take_drop xs i) (Contains-append_left (take i xs) (drop i xs) x c)
  where
    take_drop : (xs : List ℕ) (i : ℕ) → take i xs ++ drop i xs ≡ xs
    take_drop xs i = grind (arith, common_steps)

same_default : (xs : List ℕ) (i d e : ℕ) → i < length xs → get_or xs i d ≡ get_or xs i e
same_default xs i d e low = grind (arith, common_steps)

pub not_before : (xs : List ℕ) (i : ℕ) → AllPairs (λ (a b : ℕ). a ≢ b) xs → i < length xs → Contains (take i xs) (get_or xs i 0) → ⊥
not_before xs i apart low c =
    let x : ℕ = get_or xs i 0 in
    let below : c.0 < i = omega (arith, c.1, length-take-le i xs) in
    apart c.0 i x below low (sym (get_or-take i xs c.0 x below) ∙ c.2 ∙ same_default xs i 0 x low)

-- ---- the store
plus_none : (n : ℕ) → n ≡ n + 0
plus_none n = omega arith

pub swept_none : (s : Store) → AreSwept s s []
swept_none s = record {
  rest = (λ i. record s { order = sym (append-nil s.order) i; out = sym (append-nil s.out) i });
  lists = refl;
  rows = λ l n. refl;
  others = λ l n o. refl;
  shut = λ l c. absurd (no_one l c);
  held = plus_none (held_of s);
}

module _ (s t : Store) (done : List ℕ) (w : AreSwept s t done) where
  pub swept_open : (l : ℕ) → (Contains done l → ⊥) → IsOpen s l → IsOpen t l
  swept_open l n o = ap (λ (r : Row). r.phase) (w.rows l n) ∙ o

  pub swept_was : (l : ℕ) → (Contains done l → ⊥) → IsOpen t l → IsOpen s l
  swept_was l n o = sym (ap (λ (r : Row). r.phase) (w.rows l n)) ∙ o

  pub not_done : (l : ℕ) → IsOpen t l → Contains done l → ⊥
  not_done l o c = not_both (sym (w.shut l c) ∙ o)

  pub same_chunks : (l : ℕ) → (Contains done l → ⊥) → chunks_of (row t l) ≡ chunks_of (row s l)
  same_chunks l n = ap chunks_of (w.rows l n)

  -- what was shut stays so
  pub shut_still : (l : ℕ) → (Contains done l → ⊥) → IsShut s l → IsShut t l
  shut_still l n h = ap (λ (r : Row). r.phase) (w.rows l n) ∙ h

  pub swept_more : (u : Store) (from : ℕ) → AreSwept t u (from ∷ []) → (Contains done from → ⊥) → AreSwept s u (done ++ from ∷ [])
  swept_more u from v new =
      let not_old : (l : ℕ) → (Contains (done ++ from ∷ []) l → ⊥) → Contains done l → ⊥ = λ l n c. n (Contains-append_left done (from ∷ []) l c) in
      let not_new : (l : ℕ) → (Contains (done ++ from ∷ []) l → ⊥) → Contains (from ∷ []) l → ⊥ = λ l n c. n (Contains-append_right done (from ∷ []) l c) in
      let none : ℕ → ℕ = λ l. 0 in
      let zeros : (s.out ++ map none done) ++ map none (from ∷ []) ≡ s.out ++ map none (done ++ from ∷ []) =
      append_assoc s.out (map none done) (map none (from ∷ [])) ∙ ap (λ (l : List ℕ). s.out ++ l) (sym (map-append none done (from ∷ []))) in
      record {
        rest = v.rest ∙ ap (λ (x : Store). record x { rows = u.rows; order = x.order ++ from ∷ []; out = x.out ++ map none (from ∷ []) }) w.rest
            ∙ (λ i. record s { rows = u.rows; order = append_assoc s.order done (from ∷ []) i; out = zeros i });
        lists = v.lists ∙ w.lists;
        rows = λ l n. v.rows l (not_new l n) ∙ ap (λ (r : Row). record r { placed = (row u l).placed }) (w.rows l (not_old l n));
        others = λ l n not_open. v.others l (not_new l n) (λ o. not_open (swept_was l (not_old l n) o)) ∙ w.others l (not_old l n) not_open;
        shut = λ l c. elim (Contains-append_cases done (from ∷ []) l c) [
          | inl old ↦
              let shut : IsShut t l = w.shut l old in
              elim (cases_eq l from) [
                | inl same ↦ v.shut l (subst (Contains (from ∷ [])) (sym same) (first_one from []))
                | inr other ↦ ap (λ (r : Row). r.phase) (v.others l (λ d. other (only_one from l d)) (λ o. not_both (sym shut ∙ o))) ∙ shut
              ]
          | inr last ↦ v.shut l last
        ];
        held =
            let size : ℕ → ℕ = λ l. length (chunks_of (row s l)) in
            let size' : ℕ → ℕ = λ l. length (chunks_of (row t l)) in
            let both : sum_by size (done ++ from ∷ []) ≡ sum_by size done + sum_by size (from ∷ []) = sum_by-append size done (from ∷ []) in
            let one : sum_by size (from ∷ []) ≡ size from = sum_one size from in
            let one' : sum_by size' (from ∷ []) ≡ size' from = sum_one size' from in
            let same : size' from ≡ size from = ap length (same_chunks from new) in
            omega (arith, w.held, v.held, both, one, one', same);
      }

  -- lists that were swept, and then items were placed
  pub swept_placed : (u : Store) → OnlyPlaced t u → AreSwept s u done
  swept_placed u p = record {
    rest = p.rest ∙ ap (λ (v : Store). record v { rows = u.rows }) w.rest;
    lists = p.lists ∙ w.lists;
    rows = λ l n. p.rows l ∙ ap (λ (r : Row). record r { placed = (row u l).placed }) (w.rows l n);
    others = λ l n not_open. p.others l (λ o. not_open (swept_was l n o)) ∙ w.others l n not_open;
    shut = λ l c. ap (λ (r : Row). r.phase) (p.rows l) ∙ w.shut l c;
    held = p.held ∙ w.held;
  }

-- ---- what is left
-- where items belong stays so while lists are swept
pub aimed_still : (s t : Store) (leaf : ℕ → ℕ) (covers guest : ℕ → ℕ → Bool) (before now splits done : List ℕ) → AreAimed s leaf covers guest before splits
    → AreSwept s t done
    → ((l : ℕ) → Contains splits l → IsOpen s l) →
    ((l : ℕ) → Contains done l → Contains splits l) → OnlyHome leaf before now → AreAimed t leaf covers guest now splits
aimed_still s t leaf covers guest before now splits done a w takes within only =
    let was : (x : ℕ) → x < length now → x < length before = λ x low. subst (λ n. x < n) only.many low in
    record {
      open_leaf = λ x low. swept_open s t done w (leaf x) (λ d. a.apart x (was x low) (within (leaf x) d)) (a.open_leaf x (was x low));
      apart = λ x low. a.apart x (was x low);
      home = λ l x low o e. elim (only.each x) [
        | inl same ↦ a.home l x (was x low) (swept_was s t done w l (not_done s t done w l o) o) (sym same ∙ e)
        | inr home ↦ inl (sym e ∙ home)
      ];
      admitted = λ l x can. subst (λ n. x < n) (sym only.many) (a.admitted l x can);
      here = λ l x can. elim (a.here l x can) [
        | inl shut ↦ inl (shut_still s t done w l (λ d. not_both (sym shut ∙ takes l (within l d))) shut)
        | inr later ↦ inr later
      ];
      single = a.single;
      guests = a.guests;
    }

-- once all are swept, none is left
pub aimed_all : (t : Store) (leaf : ℕ → ℕ) (covers guest : ℕ → ℕ → Bool) (homes splits : List ℕ) → AreAimed t leaf covers guest homes splits
    → ((l : ℕ) → Contains splits l → IsShut t l) → AreAimed t leaf covers guest homes []
aimed_all t leaf covers guest homes splits a shut = record {
  open_leaf = a.open_leaf;
  apart = λ x low c. no_one (leaf x) c;
  home = λ l x low o e. elim (a.home l x low o e) [
    | inl own ↦ inl own
    | inr other ↦ absurd (not_both (sym (shut l other.0) ∙ o))
  ];
  admitted = a.admitted;
  here = λ l x can. elim (a.here l x can) [
    | inl there ↦ inl there
    | inr later ↦ elim later [ inl split ↦ inl (shut l split) | inr own ↦ inr (inr own) ]
  ];
  single = λ l m x c. absurd (no_one l c);
  guests = λ l x c. absurd (no_one l c);
}

-- while items are placed, where items belong stays so
pub aimed_placed : (s t : Store) (leaf : ℕ → ℕ) (covers guest : ℕ → ℕ → Bool) (before now splits : List ℕ) → AreAimed s leaf covers guest before splits
    → OnlyPlaced s t → OnlyHome leaf before now → AreAimed t leaf covers guest now splits
aimed_placed s t leaf covers guest before now splits a p only =
    let was : (x : ℕ) → x < length now → x < length before = λ x low. subst (λ n. x < n) only.many low in
    record {
      open_leaf = λ x low. open_stays s t (leaf x) p (a.open_leaf x (was x low));
      apart = λ x low. a.apart x (was x low);
      home = λ l x low o e. elim (only.each x) [
        | inl same ↦ a.home l x (was x low) (open_was s t l p o) (sym same ∙ e)
        | inr home ↦ inl (sym e ∙ home)
      ];
      admitted = λ l x can. subst (λ n. x < n) (sym only.many) (a.admitted l x can);
      here = λ l x can. elim (a.here l x can) [
        | inl shut ↦ inl (ap (λ (r : Row). r.phase) (p.rows l) ∙ shut)
        | inr later ↦ inr later
      ];
      single = a.single;
      guests = a.guests;
    }
