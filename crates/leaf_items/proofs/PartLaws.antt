-- Items as they are dealt to parts.
use Rattle.std.proofs.Common.{◌≡◌, ◌∙◌, ℕ, ◌+◌, ◌<◌, inl, inr, Bool, cond, nat_eq, List, [], ◌∷◌, ◌++◌, length, get_or, set, take, ap, sym, refl, arith, append-nil}
use Rattle.std.specs.Prelude.{All, replicate}
use Rattle.std.proofs.lemmas.Bool.{cases_eq, eq-eqb, ne_eqb}
use Rattle.std.proofs.lemmas.List.{get_or-replicate, get_or-set_other, get_or-set_same, length-replicate, length-set, length-take-le, take_all, take_more}
use Rattle.leaf_items.specs.Openings.{ArePicked, picked}
use Rattle.leaf_items.proofs.ItemLaws.{cond_append}

pub picked_push : (part : ℕ) (aims items : List ℕ) (aim item : ℕ) → length aims ≡ length items
    → picked part (aims ++ aim ∷ []) (items ++ item ∷ []) ≡ picked part aims items ++ cond (nat_eq aim part) (item ∷ []) []
picked_push part [] [] aim item same = refl
picked_push part [] (x ∷ items) aim item same = absurd (omega (arith, same))
picked_push part (a ∷ aims) [] aim item same = absurd (omega (arith, same))
picked_push part (a ∷ aims) (x ∷ items) aim item same =
    cond_append (nat_eq a part) x (picked part (aims ++ aim ∷ []) (items ++ item ∷ [])) (picked part aims items) (cond (nat_eq aim part) (item ∷ []) [])
    (picked_push part aims items aim item (omega (arith, same)))

-- so many items were dealt
pub record AreSoFar (items aims : List ℕ) (parts : List (List ℕ)) (count k : ℕ) : Type 0 where
  pub many : length parts ≡ count
  pub each : (part : ℕ) → part < count → get_or parts part [] ≡ picked part (take k aims) (take k items)

pub none_so_far : (items aims : List ℕ) (parts : List (List ℕ)) (count : ℕ) → parts ≡ replicate count [] → AreSoFar items aims parts count 0
none_so_far items aims parts count e = record {
  many = ap length e ∙ length-replicate count [];
  each = λ part low. ap (λ (s : List (List ℕ)). get_or s part []) e ∙ get_or-replicate count part [] [] low;
}

pub more_so_far : (items aims : List ℕ) (parts : List (List ℕ)) (count k aim item : ℕ) (known new : List ℕ) → k < length items → length aims ≡ length items
    → AreSoFar items aims parts count k → aim ≡ get_or aims k 0 → item ≡ get_or items k 0 → aim < count
    → known ≡ get_or parts aim [] → new ≡ known ++ item ∷ [] → AreSoFar items aims (set parts aim new) count (k + 1)
more_so_far items aims parts count k aim item known new low same so aim_is item_is within known_is e =
    let aim_low : k < length aims = omega (arith, low, same) in
    let there : aim < length parts = omega (arith, within, so.many) in
    let dealt : (part : ℕ) → picked part (take (k + 1) aims) (take (k + 1) items) ≡ picked part (take k aims) (take k items) ++ cond (nat_eq aim part)
    (item ∷ []) [] =
    λ part. ap (λ (s : List ℕ). picked part s (take (k + 1) items)) (take_more aims k 0 aim_low ∙ ap (λ (n : ℕ). take k aims ++ n ∷ []) (sym aim_is))
    ∙ ap (λ (s : List ℕ). picked part (take k aims ++ aim ∷ []) s) (take_more items k 0 low ∙ ap (λ (n : ℕ). take k items ++ n ∷ []) (sym item_is))
    ∙ picked_push part (take k aims) (take k items) aim item
    (length-take-le k aims (omega (arith, aim_low)) ∙ sym (length-take-le k items (omega (arith, low)))) in
    record {
      many = length-set parts aim new ∙ so.many;
      each = λ part part_low. elim (cases_eq part aim) [
        | inl is ↦ ap (λ (p : ℕ). get_or (set parts aim new) p []) is ∙ get_or-set_same parts aim new [] there ∙ e
            ∙ ap (λ (s : List ℕ). s ++ item ∷ []) (known_is ∙ so.each aim within)
            ∙ ap (λ (b : Bool). picked aim (take k aims) (take k items) ++ cond b (item ∷ []) []) (sym (eq-eqb aim aim refl))
            ∙ sym (dealt aim) ∙ ap (λ (p : ℕ). picked p (take (k + 1) aims) (take (k + 1) items)) (sym is)
        | inr other ↦ get_or-set_other parts aim part new [] other ∙ so.each part part_low ∙ sym (append-nil (picked part (take k aims) (take k items)))
            ∙ ap (λ (b : Bool). picked part (take k aims) (take k items) ++ cond b (item ∷ []) []) (sym (ne_eqb aim part (λ same'. other (sym same'))))
            ∙ sym (dealt part)
      ];
    }

pub all_dealt : (items aims : List ℕ) (parts : List (List ℕ)) (count k : ℕ) → k ≡ length items → length aims ≡ length items → All (λ aim. aim < count) aims
    → AreSoFar items aims parts count k → ArePicked items aims parts
all_dealt items aims parts count k end same within so = record {
  many = same;
  within = λ i d low. omega (arith, within i d low, so.many);
  each = λ part low. so.each part (omega (arith, low, so.many)) ∙ ap (λ (s : List ℕ). picked part s (take k items)) (take_all k aims (omega (arith, end, same)))
      ∙ ap (picked part aims) (take_all k items (omega (arith, end)));
}
