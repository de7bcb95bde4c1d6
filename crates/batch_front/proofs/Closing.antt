-- What a closed front shows: the value is back, and all events are of the passes that came back.
use Rattle.std.proofs.Common.{◌≡◌, ℕ, zero, suc, ◌<◌, ◌≤◌, ⊎_elim, cond, nat_eq, List, [], ◌∷◌, map, length, refl, ap, sym, ◌∙◌, subst, arith}
use Rattle.std.specs.Prelude.{Option, Some, None}
use Rattle.std.specs.List.{All, Contains, range_with_len, slice_index_or}
use mathlib.Core.Option.{none, some, some-injective, some-ne-none}
use lib.ListN.{get_elem?}
use mathlib.Core.Logic.{dite}
use native.Mathlib.Decide.{ℕ_discrete}
use Rattle.atomic_table.specs.Table.{Final, Seen}
use Rattle.record_model.specs.Records.{Record}
use Rattle.batch_front.specs.Turns.{At, total, Each, tickets, weight, Stands, Kept, Sat, IsGathering}
use Rattle.batch_front.specs.Passes.{PassValue, card_of, IsIn}
use Rattle.record_model.specs.declared.event.Event.{Event}
use Rattle.batch_front.specs.declared.rule.Card.{Card}
use Rattle.batch_front.specs.declared.rule.Place.TheVariants.{Away, Holds}
use Rattle.batch_front.specs.declared.rule.View.{View}
use Rattle.batch_front.proofs.Lists.{one_of, two_of, total_le, at_same, each_map}
use Rattle.batch_front.proofs.Numbers.{is, is_miss, there, count}

module _ {A : Type 0} where
  -- where one item has all of g, it has all of what is no more than g
  all_in_one : (f g : A → ℕ) (l : List A) (i : ℕ) (v : A) → At l i v → ((x : A) → f x ≤ g x) → total g l ≡ g v → total f l ≡ f v
  all_in_one f g [] i v at le e = absurd (some-ne-none v (sym at))
  all_in_one f g (x ∷ xs) zero v at le e =
      let z = some-injective x v at in let a : g x ≡ g v = ap g z in let b : f x ≡ f v = ap f z in let r = total_le f g xs (λ j y p. le y) in omega arith
  all_in_one f g (x ∷ xs) (suc i) v at le e = let o = one_of g xs i v at in let a = le x in let r = all_in_one f g xs i v at le (omega arith) in omega arith

  each_all : (P : A → Type 0) (xs : List A) → Each P xs → All P xs
  each_all P [] h k d lt = absurd (omega arith)
  each_all P (x ∷ xs) h zero d lt = h.0
  each_all P (x ∷ xs) h (suc k) d lt = each_all P xs h.1 k d (omega arith)

module _ {S : Type 0} where
  -- a number that weighs something is the number of some pass
  found : (k : ℕ) (passes : List (PassValue S)) → 0 < total (λ (c : Card S). is k c.number) (map card_of passes) → Contains (map (λ (p : PassValue S). p.number) passes) k
  found k [] h = absurd (omega arith)
  found k (p ∷ ps) h = dite (ℕ_discrete p.number k)
      (λ e. (0, omega arith, e))
      (λ ne. let m = is_miss k p.number ne in let r = found k ps (omega arith) in (suc r.0, (let a = r.1 in omega arith), r.2))

  length-cards : (passes : List (PassValue S)) → total (λ (c : Card S). 1) (map card_of passes) ≡ length passes
  length-cards [] = refl
  length-cards (p ∷ ps) = let r = length-cards ps in omega arith

  in_all : (events : Record) (site : S) (passes : List (PassValue S)) → Each (Stands events site) (map card_of passes) → Each (IsIn events) passes
  in_all events site [] h = tt
  in_all events site (p ∷ ps) h = ((h.0.seen_is, h.0.mine_is), in_all events site ps h.1)

  is_le : (k : ℕ) (v : View S) → weight (is k) v ≤ weight (λ _. 1) v
  is_le k v = total_le (λ (c : Card S). is k c.number) (λ _. 1) v.cards (λ j c p. by (nat_eq c.number k)) where
    by : (b : Rattle.std.specs.Prelude.Bool) → cond b 1 0 ≤ 1
    by Rattle.std.specs.Prelude.true = omega arith
    by Rattle.std.specs.Prelude.false = omega arith

module _ {S V : Type 0} (record_of : V → Record) (site_of : V → S) (site : S) (passes : List (PassValue S)) where
  -- the value is there, and says all this
  pub record Closes (slots : List (Option V)) : Type 0 where
    pub value : V
    pub there : get_elem? slots 0 ≡ some (Some value)
    pub sited : site_of value ≡ site
    pub seen : All (λ (p : PassValue S). IsIn (record_of value) p) passes
    pub numbers : All (λ (e : Event × ℕ). Contains (map (λ (p : PassValue S). p.number) passes) e.1) (record_of value)

  pub closes : (me : Sat S V) (id : ℕ) (words : List ℕ) (slots : List (Option V)) → IsGathering (map card_of passes) me → Final (Seen (Kept record_of site_of site (length passes)) id me.0) words slots → Closes slots
  closes me id words slots gathers final =
      let s = final.0 in
      let k = final.1.0 in
      let r = k.turns in
      let told = gathers.0 in
      let v : View S = record { cards = map card_of passes; told = told; place = Away } in
      let at : At s.views id v = subst (λ (u : View S). At s.views id u) (ap (λ (m : Sat S V). m.0) gathers.1) final.1.1 in
      let mine = r.seats id v at in
      let all : total (weight (λ _. 1)) s.views ≡ weight (λ _. 1) v = r.numbers (λ _. 1) ∙ (count 0 (length passes) ∙ sym (length-cards passes)) in
      ⊎_elim
      (λ h. record {
        value = h.value;
        there = final.4 0 (Some h.value) (ap (λ (hs : List (mathlib.Core.Option.Option (Option V))). get_elem? hs 0) h.there);
        sited = h.sited;
        seen = subst (λ (l : Record). All (λ (p : PassValue S). IsIn l p) passes) (sym h.stands) (each_all (IsIn r.events) passes (in_all r.events site passes mine.cards));
        numbers = subst (λ (l : Record). All (λ (e : Event × ℕ). Contains (map (λ (p : PassValue S). p.number) passes) e.1) l) (sym h.stands)
            (each_all (λ (e : Event × ℕ). Contains (map (λ (p : PassValue S). p.number) passes) e.1) r.events
            (each_map (λ (e : Event × ℕ). e.1 < length passes) (λ (e : Event × ℕ). Contains (map (λ (p : PassValue S). p.number) passes) e.1) r.events
            (λ e lt. found e.1 passes (let a = all_in_one (weight (is e.1)) (weight (λ _. 1)) s.views id v at (is_le e.1) all in let n = r.numbers (is e.1) in let t = there e.1 0 (length passes) (omega arith) (omega arith) in omega arith)) r.below));
      })
      (λ h. absurd (dite (ℕ_discrete h.seat id)
      (λ e. let u = at_same s.views id h.view v (subst (λ (k : ℕ). At s.views k h.view) e h.there) at in let z : Holds h.ticket ≡ Away = sym h.held ∙ ap (λ (a : View S). a.place) u in cc)
      (λ ne. let two = two_of (weight (λ _. 1)) s.views h.seat id h.view v h.there at ne in let c = (r.seats h.seat h.view h.there).counted in let t : tickets h.view.place ≡ 1 = ap tickets h.held in absurd (omega arith))))
      r.home

  -- what is known of the value that was taken
  pub record Shows (x : V) : Type 0 where
    pub sited : site_of x ≡ site
    pub seen : All (λ (p : PassValue S). IsIn (record_of x) p) passes
    pub numbers : All (λ (e : Event × ℕ). Contains (map (λ (p : PassValue S). p.number) passes) e.1) (record_of x)

  module _ (me : Sat S V) (id : ℕ) (words : List ℕ) (slots : List (Option V)) (gathers : IsGathering (map card_of passes) me) (number : ℕ) (all : length passes ≡ number)
      (final : Final (Seen (Kept record_of site_of site number) id me.0) words slots) (y : Option V) (took : get_elem? slots 0 ≡ some y) where
    closed : Closes slots
    closed = closes me id words slots gathers (subst (λ (n : ℕ). Final (Seen (Kept record_of site_of site n) id me.0) words slots) (sym all) final)

    pub shows : (x : V) → y ≡ Some x → Shows x
    shows x is = let k = closed in let same : k.value ≡ x = Some-injective (some-injective _ _ (sym k.there ∙ (took ∙ ap some is))) in
        subst Shows same (record { sited = k.sited; seen = k.seen; numbers = k.numbers }) where
          Some-injective : {a b : V} → Some a ≡ Some b → a ≡ b
          Some-injective e = cc

    pub never_none : y ≡ None → ⊥
    never_none is = let k = closed in let z : Some k.value ≡ None = some-injective _ _ (sym k.there ∙ (took ∙ ap some is)) in absurd (cc)
