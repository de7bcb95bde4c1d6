-- The rule holds of a new front.
use Rattle.std.proofs.Common.{◌≡◌, ℕ, zero, suc, ◌+◌, ◌≤◌, inl, List, [], ◌∷◌, map, refl, ap, sym, subst, arith}
use Rattle.std.specs.Prelude.{Some}
use Rattle.std.specs.List.{range_with_len}
use mathlib.Core.Option.{some-injective, some-ne-none}
use Rattle.atomic_table.specs.Table.{opening}
use Rattle.record_model.specs.Records.{Record}
use Rattle.batch_front.specs.Turns.{At, total, Each, Has, weight, new_card, hand_view, first_view, Stands, Fits, Kept}
use Rattle.batch_front.specs.declared.rule.Place.{Place}
use Rattle.batch_front.specs.declared.rule.View.{View}

module _ {S : Type 0} (site : S) where
  new_cards : (numbers : List ℕ) → Each (Stands [] site) (map (new_card site) numbers)
  new_cards [] = tt
  new_cards (n ∷ ns) = (record { site_is = refl; seen_is = ([], refl); mine_is = refl }, new_cards ns)

  weight-hand : (h : ℕ → ℕ) (numbers : List ℕ) → weight h (hand_view site numbers) ≡ total h numbers
  weight-hand h [] = refl
  weight-hand h (n ∷ ns) = ap (λ (k : ℕ). h n + k) (weight-hand h ns)

  fits : (numbers : List ℕ) → Fits [] site 0 0 (hand_view site numbers)
  fits numbers = record { cards = new_cards numbers; told = ([], refl); waits = λ t e. absurd (cc); holds = λ t e. absurd (cc); counted = omega arith }

module _ {S V : Type 0} (record_of : V → Record) (site_of : V → S) where
  pub opens : (x : V) (number : ℕ) → number ≤ 64 → record_of x ≡ [] → Kept record_of site_of (site_of x) number (opening (0 ∷ 0 ∷ 0 ∷ []) (Some x ∷ []) (first_view (site_of x) number))
  opens x number few stands = record {
    few = few;
    turns = record {
      events = [];
      drawn = 0;
      served = 0;
      words = refl;
      seats = λ j v p. seats j v p;
      apart = λ j h v u t p q a b. absurd (none j v t p a);
      numbers = λ h. let z = weight-hand (site_of x) h (range_with_len 0 number) in omega arith;
      queue = refl;
      below = tt;
      home = inl (record { value = x; there = refl; stands = stands; sited = refl; free = λ j v t p e. none j v t p (subst (λ (y : Place). Has y t) (sym e) refl) });
    };
  } where
    first : View S
    first = first_view (site_of x) number

    seats : (j : ℕ) (v : View S) → At (first ∷ []) j v → Fits [] (site_of x) 0 0 v
    seats zero v p = subst (Fits [] (site_of x) 0 0) (some-injective first v p) (fits (site_of x) (range_with_len 0 number))
    seats (suc j) v p = absurd (some-ne-none v (sym p))

    none : (j : ℕ) (v : View S) (t : ℕ) → At (first ∷ []) j v → Has v.place t → ⊥
    none zero v t p h = subst (λ (u : View S). Has u.place t) (sym (some-injective first v p)) h
    none (suc j) v t p h = absurd (some-ne-none v (sym p))
