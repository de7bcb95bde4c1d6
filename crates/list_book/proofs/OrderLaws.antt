-- The order of shut lists, after a call.
use Rattle.std.proofs.Common.{◌≡◌, ◌≢◌, ℕ, zero, suc, ◌+◌, ◌<◌, ◌≤◌, inl, inr, List, [], ◌∷◌, ◌++◌, length, set, Some, ap, refl, sym, subst, ◌∙◌, arith}
use Rattle.std.specs.List.{slice_get}
use Rattle.std.proofs.lemmas.Bool.{cases_eq, cases_lt}
use Rattle.std.proofs.lemmas.Option.{same_Some}
use Rattle.list_words.specs.declared.leaf_lists.Phase.TheVariants.{Open, Shut}
use Rattle.list_words.proofs.Places.{slice_get-push}
use Rattle.list_book.specs.Books.{BookRow, HasNoChunks, IsOrderOfShut, row_at}
use Rattle.list_book.proofs.RowLaws.{got_here, got_other, open_is_not_shut, open_low, put_here, put_other}

-- the list was shut
abbrev pub WasShut : BookRow → Type 0
WasShut r = r.phase ≡ Shut

-- a list that is shut exactly where it was, and which got no chunk while it was shut
pub listed-set : (rows : List BookRow) (order : List ℕ) (cleared l : ℕ) (b : BookRow) → IsOrderOfShut rows order cleared → l < length rows → (WasShut b → WasShut (row_at rows l)) → (WasShut (row_at rows l) → WasShut b)
    → (WasShut (row_at rows l) → HasNoChunks (row_at rows l) → HasNoChunks b) → IsOrderOfShut (set rows l b) order cleared
listed-set rows order cleared l b kept low was still none = record {
  shut = λ p m at. elim (cases_eq m l) [
    | inl same ↦ put_here WasShut rows l m b low same (still (subst (λ k. WasShut (row_at rows k)) same (kept.shut p m at)))
    | inr other ↦ put_other WasShut rows l m b other (kept.shut p m at)
  ];
  every = λ m shut_now. kept.every m (elim (cases_eq m l) [
    | inl same ↦ subst (λ k. WasShut (row_at rows k)) (sym same) (was (got_here WasShut rows l m b low same shut_now))
    | inr other ↦ got_other WasShut rows l m b other shut_now
  ]);
  once = kept.once;
  empty = λ p m early at. elim (cases_eq m l) [
    | inl same ↦ put_here HasNoChunks rows l m b low same (
        none (subst (λ k. WasShut (row_at rows k)) same (kept.shut p m at)) (subst (λ k. HasNoChunks (row_at rows k)) same (kept.empty p m early at)))
    | inr other ↦ put_other HasNoChunks rows l m b other (kept.empty p m early at)
  ];
}

-- a list that takes items before and after
pub listed-open : (rows : List BookRow) (order : List ℕ) (cleared l : ℕ) (b : BookRow) → IsOrderOfShut rows order cleared → (row_at rows l).phase ≡ Open → b.phase ≡ Open → IsOrderOfShut (set rows l b) order cleared
listed-open rows order cleared l b kept was takes =
    listed-set rows order cleared l b kept (open_low rows l was) (λ shut_now. absurd (open_is_not_shut b takes shut_now)) (λ shut_now. absurd (open_is_not_shut (row_at rows l) was shut_now))
    (λ shut_now. absurd (open_is_not_shut (row_at rows l) was shut_now))

-- ---- a list is shut

last_of : (xs : List ℕ) (y : ℕ) → slice_get (xs ++ y ∷ []) (length xs) ≡ Some y
last_of [] y = refl
last_of (x ∷ xs) y = last_of xs y

before_last : (xs : List ℕ) (y z i : ℕ) → slice_get xs i ≡ Some z → slice_get (xs ++ y ∷ []) i ≡ Some z
before_last [] y z i at = absurd (cc)
before_last (x ∷ xs) y z zero at = at
before_last (x ∷ xs) y z (suc i) at = before_last xs y z i at

-- a list that is open is not in the order
not_in_order : (rows : List BookRow) (order : List ℕ) (cleared l p m : ℕ) → IsOrderOfShut rows order cleared → (row_at rows l).phase ≡ Open → slice_get order p ≡ Some m → m ≢ l
not_in_order rows order cleared l p m kept was at = λ same. open_is_not_shut (row_at rows l) was (subst (λ k. WasShut (row_at rows k)) same (kept.shut p m at))

pub listed-shut : (rows : List BookRow) (order : List ℕ) (cleared l : ℕ) (b : BookRow) → IsOrderOfShut rows order cleared → cleared ≤ length order → (row_at rows l).phase ≡ Open → WasShut b → IsOrderOfShut (set rows l b) (order ++ l ∷ []) cleared
listed-shut rows order cleared l b kept begun was shut_now =
    let low : l < length rows = open_low rows l was in
    record {
      shut = λ p m at. elim (cases_eq m l) [
        | inl same ↦ put_here WasShut rows l m b low same shut_now
        | inr other ↦ put_other WasShut rows l m b other (elim (slice_get-push order l m p at) [
          | inl before ↦ kept.shut p m before
          | inr last ↦ absurd (other (sym last.1))
        ])
      ];
      every = λ m now. elim (cases_eq m l) [
        | inl same ↦ (length order, last_of order l ∙ ap Some (sym same))
        | inr other ↦ let place : (p : ℕ) × (slice_get order p ≡ Some m) = kept.every m (got_other WasShut rows l m b other now) in (place.0, before_last order l m place.0 place.1)
      ];
      once = λ p q m at there. elim (slice_get-push order l m p at) [
        | inl before ↦ elim (slice_get-push order l m q there) [
          | inl early ↦ kept.once p q m before early
          | inr last ↦ absurd (not_in_order rows order cleared l p m kept was before (sym last.1))
        ]
        | inr last ↦ elim (slice_get-push order l m q there) [
          | inl early ↦ absurd (not_in_order rows order cleared l q m kept was early (sym last.1))
          | inr late ↦ last.0 ∙ sym late.0
        ]
      ];
      empty = λ p m early at. elim (slice_get-push order l m p at) [
        | inl before ↦ put_other HasNoChunks rows l m b (not_in_order rows order cleared l p m kept was before) (kept.empty p m early before)
        | inr last ↦ absurd (omega (arith, last.0))
      ];
    }

-- ---- the next list of the order is cleared

pub listed-cleared : (rows : List BookRow) (order : List ℕ) (cleared l : ℕ) (b : BookRow) → IsOrderOfShut rows order cleared → l < length rows → slice_get order cleared ≡ Some l → WasShut b → HasNoChunks b → IsOrderOfShut (set rows l b) order (cleared + 1)
listed-cleared rows order cleared l b kept low next shut_now none =
    let rest : IsOrderOfShut (set rows l b) order cleared = listed-set rows order cleared l b kept low (λ now. kept.shut cleared l next) (λ now. shut_now) (λ now was. none) in
    record {
      shut = rest.shut;
      every = rest.every;
      once = rest.once;
      empty = λ p m early at. elim (cases_lt p cleared) [
        | inl before ↦ rest.empty p m before at
        | inr late ↦
            let here : p ≡ cleared = omega arith in
            let same : m ≡ l = same_Some m l (sym at ∙ ap (slice_get order) here ∙ next) in
            put_here HasNoChunks rows l m b low same none
      ];
    }
