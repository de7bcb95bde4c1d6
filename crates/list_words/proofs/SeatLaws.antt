-- Counts of readers and filers by their births.
use Rattle.std.proofs.Common.{◌≡◌, ◌≢◌, ℕ, ◌+◌, ◌-◌, ◌<◌, ◌≤◌, inl, inr, List, [], ◌∷◌, ◌++◌, length, set, get_or, ap, sym, subst, ◌∙◌, arith}
use Rattle.std.specs.List.{sum}
use Rattle.std.proofs.lemmas.Bool.{cases_eq, cases_lt}
use Rattle.std.proofs.lemmas.List.{get_or-set_same, get_or-set_other, set_past, length-set, length-append}
use Rattle.std.proofs.lemmas.List.Sums.{sum_by-set, sum_by_push, get_or-le-sum_by}
use Rattle.list_words.specs.Store.{Unreached, counted, counted_off}
use Rattle.list_words.specs.PlainRows.{PlainList}
use Rattle.list_words.specs.Plain.{list_in}
use Rattle.list_words.specs.PlainKept.{AreOrdered}
use Rattle.list_words.specs.declared.leaf_lists.Phase.TheVariants.{Shut}
use Rattle.list_words.proofs.Places.{slice_get-push, get_or-push}
use Rattle.list_words.proofs.PlainLaws.{list_in-set_same, list_in-set_other}

pub sum-counted : (out : List ℕ) (b : ℕ) → b < length out → sum (counted out b) ≡ sum out + 1
sum-counted out b low = let e : sum (set out b (get_or out b 0 + 1)) + get_or out b 0 ≡ sum out + (get_or out b 0 + 1) = sum_by-set (λ (x : ℕ). x) out b (get_or out b 0 + 1) 0 low in omega arith

pub get_or-le-sum : (out : List ℕ) (b : ℕ) → b < length out → get_or out b 0 ≤ sum out
get_or-le-sum out b low = get_or-le-sum_by (λ (x : ℕ). x) out b 0 low

-- one more that was born now
pub ordered-counted : (lists : List PlainList) (order : List ℕ) (cleared : ℕ) (out : List ℕ) (seats : ℕ) → AreOrdered lists order cleared out seats → AreOrdered lists order cleared (counted out (length order)) (seats + 1)
ordered-counted lists order cleared out seats kept = record {
  shut = kept.shut;
  begun = kept.begun;
  births = length-set out (length order) (get_or out (length order) 0 + 1) ∙ kept.births;
  past = λ b low. let other : b ≢ length order = λ e. omega (arith, kept.begun, e) in get_or-set_other out (length order) b (get_or out (length order) 0 + 1) 0 other ∙ kept.past b low;
  seats = let more : sum (counted out (length order)) ≡ sum out + 1 = sum-counted out (length order) (omega (arith, kept.births)) in omega (arith, kept.seats);
}

pub counted_is : (order out : List ℕ) (b v : ℕ) → b ≡ length order → v ≡ get_or out b 0 → set out b (v + 1) ≡ counted out (length order)
counted_is order out b v place value = ap (λ n. set out b (n + 1)) value ∙ ap (λ k. set out k (get_or out k 0 + 1)) place

pub counted_here : (lists : List PlainList) (order : List ℕ) (cleared : ℕ) (out : List ℕ) (seats b v : ℕ) → AreOrdered lists order cleared out seats → b ≡ length order → v ≡ get_or out b 0 → AreOrdered lists order cleared (set out b (v + 1)) (seats + 1)
counted_here lists order cleared out seats b v kept place value =
    subst (λ (xs : List ℕ). AreOrdered lists order cleared xs (seats + 1)) (sym (counted_is order out b v place value)) (ordered-counted lists order cleared out seats kept)

-- a count falls, or stays
pub counted_off-le : (out : List ℕ) (b k : ℕ) → get_or (counted_off out b) k 0 ≤ get_or out k 0
counted_off-le out b k = elim (cases_eq k b) [
  | inr other ↦ let e : get_or (counted_off out b) k 0 ≡ get_or out k 0 = get_or-set_other out b k (get_or out b 0 - 1) 0 other in omega arith
  | inl same ↦ elim (cases_lt b (length out)) [
    | inl low ↦
        let e : get_or (counted_off out b) b 0 ≡ get_or out b 0 - 1 = get_or-set_same out b (get_or out b 0 - 1) 0 low in
        let here : get_or (counted_off out b) k 0 ≡ get_or (counted_off out b) b 0 = ap (λ j. get_or (counted_off out b) j 0) same in
        let there : get_or out k 0 ≡ get_or out b 0 = ap (λ j. get_or out j 0) same in
        omega arith
    | inr high ↦ let e : get_or (counted_off out b) k 0 ≡ get_or out k 0 = ap (λ (xs : List ℕ). get_or xs k 0) (set_past out b (get_or out b 0 - 1) high) in omega arith
  ]
]

pub ordered-counted_off : (lists : List PlainList) (order : List ℕ) (cleared : ℕ) (out : List ℕ) (seats b n : ℕ) → AreOrdered lists order cleared out seats → n ≡ sum (counted_off out b) → AreOrdered lists order cleared (counted_off out b) n
ordered-counted_off lists order cleared out seats b n kept is = record {
  shut = kept.shut;
  begun = kept.begun;
  births = length-set out b (get_or out b 0 - 1) ∙ kept.births;
  past = λ k low. omega (arith, counted_off-le out b k, kept.past k low);
  seats = is;
}

-- a list was shut, and is the last in the order
pub ordered-shut : (lists : List PlainList) (order : List ℕ) (cleared : ℕ) (out : List ℕ) (seats l : ℕ) (b : PlainList) → AreOrdered lists order cleared out seats → l < length lists → b.phase ≡ Shut
    → AreOrdered (set lists l b) (order ++ l ∷ []) cleared (out ++ 0 ∷ []) seats
ordered-shut lists order cleared out seats l b kept low shut_now =
    let here : (list_in (set lists l b) l).phase ≡ Shut = ap (λ (q : PlainList). q.phase) (list_in-set_same lists l b low) ∙ shut_now in
    record {
      shut = λ p m at. elim (cases_eq m l) [
        | inl same ↦ ap (λ k. (list_in (set lists l b) k).phase) same ∙ here
        | inr other ↦ elim (slice_get-push order l m p at) [
          | inl before ↦ ap (λ (q : PlainList). q.phase) (list_in-set_other lists l m b other) ∙ kept.shut p m before
          | inr last ↦ absurd (other (sym last.1))
        ]
      ];
      begun = omega (arith, kept.begun, length-append order (l ∷ []));
      births = omega (arith, kept.births, length-append order (l ∷ []), length-append out (0 ∷ []));
      past = λ k small. get_or-push out 0 k 0 (omega (arith, kept.births, kept.begun)) ∙ kept.past k small;
      seats = let same : sum (out ++ 0 ∷ []) ≡ sum out + 0 = sum_by_push (λ (x : ℕ). x) out 0 in omega (arith, kept.seats);
    }

-- one list more is cleared
pub ordered-cleared : (lists : List PlainList) (order : List ℕ) (cleared : ℕ) (out : List ℕ) (seats : ℕ) → AreOrdered lists order cleared out seats → cleared < length order → Unreached out cleared → AreOrdered lists order (cleared + 1) out seats
ordered-cleared lists order cleared out seats kept some nobody = record {
  shut = kept.shut;
  begun = omega arith;
  births = kept.births;
  past = λ b low. nobody b (omega arith);
  seats = kept.seats;
}
