-- Drawing a ticket, seeing it served, adding an event and leaving keep the rule of the front.
use Rattle.std.proofs.Common.{◌≡◌, ℕ, suc, ◌+◌, ◌%◌, ◌<◌, ◌≤◌, ◌≢◌, inl, inr, ⊎_elim, List, [], ◌∷◌, ◌++◌, length, length-append, get_or, set, sym, refl, ap, ◌∙◌, subst, arith}
use Rattle.std.specs.Prelude.{Option, Some, None}
use mathlib.Core.Logic.{dite}
use mathlib.Core.Option.{none, some}
use mathlib.Core.Option as core
use native.Mathlib.Decide.{ℕ_discrete}
use lib.ListN.{get_elem?}
use Rattle.atomic_table.specs.Table.{State, step, keeps, takes, gives, rest, Allows}
use Rattle.atomic_table.proofs.Lists.{set_else, set_again, one_turn}
use Rattle.record_model.specs.Records.{Record, IsPrefix, own}
use Rattle.batch_front.specs.Turns.{At, total, Each, tickets, Has, weight, pass_view, first_seen, adding, seeing, Stands, Fits, Kept, Sat, Drew, Saw, Committed, Left, IsAway, IsWaiting, IsHolding}
use Rattle.record_model.specs.declared.event.Event.{Event}
use Rattle.batch_front.specs.declared.rule.Card.{Card}
use Rattle.batch_front.specs.declared.rule.Place.{Place}
use Rattle.batch_front.specs.declared.rule.Place.TheVariants.{Away, Waits, Holds}
use Rattle.batch_front.specs.declared.rule.View.{View}
use Rattle.batch_front.proofs.Lists.{each_set, one_set, total_set, total_same, at_same, at_set_same, one_of, two_of, total_le, each_both, each-append}
use Rattle.batch_front.proofs.Numbers.{is, is_hit, once, none_high, count, none_is, own_hit, own_miss, prefix_more, prefix_all}

next_mod : (n : ℕ) → (n % 18446744073709551616 + 1) % 18446744073709551616 ≡ (n + 1) % 18446744073709551616
next_mod n = omega arith

module _ {S : Type 0} where
  has_bounds : (events : Record) (site : S) (served drawn : ℕ) (v : View S) → Fits events site served drawn v → (t : ℕ) → Has v.place t → (served ≤ t) × (t < drawn)
  has_bounds events site served drawn v f t h = by v.place refl h where
    by : (x : Place) → v.place ≡ x → Has x t → (served ≤ t) × (t < drawn)
    by Away e h = absurd h
    by (Waits y) e h = let w = f.waits y e in (omega arith, omega arith)
    by (Holds y) e h = let w = f.holds y e in let p = w.0 in let q = w.1 in (omega arith, omega arith)

  -- a ticket that a seat has now, it had before
  kept : (views : List (View S)) (id : ℕ) (v w : View S) → At views id v → ((t : ℕ) → Has w.place t → Has v.place t) → (j : ℕ) (u : View S) (t : ℕ) → At (set views id w) j u → Has u.place t → (x : View S) × At views j x × Has x.place t
  kept views id v w at on j u t p h = each_set (λ (j : ℕ) (u : View S). Has u.place t → (x : View S) × At views j x × Has x.place t) views id w (λ j u p h. (u, p, h)) (λ e. (v, at, on t e)) j u p h

module _ {S V : Type 0} (record_of : V → Record) (site_of : V → S) (site : S) (number : ℕ) where
  abbrev St : Type 0
  St = State (Option V) (View S)

  abbrev Ruled : St → Type 0
  Ruled = Kept record_of site_of site number

  -- at most 64 tickets are out
  near : (s : St) (k : Ruled s) → k.turns.drawn ≤ k.turns.served + 64
  near s k =
      let r = k.turns in
      let few = k.few in
      let q = r.queue in
      let l = total_le (λ (v : View S). tickets v.place) (weight (λ _. 1)) s.views (λ j v p. (r.seats j v p).counted) in
      let n = r.numbers (λ _. 1) in
      let c = count 0 number in omega arith

  -- the number of a card is below the count
  low : (s : St) (k : Ruled s) (id : ℕ) (v : View S) (c : Card S) → At s.views id v → v.cards ≡ c ∷ [] → c.number < number
  low s k id v c at e =
      let r = k.turns in
      let one : weight (is c.number) v ≡ 1 = ap (λ (cs : List (Card S)). total (λ (d : Card S). is c.number d.number) cs) e ∙ ap (λ (x : ℕ). x + 0) (is_hit c.number c.number refl) in
      let here = one_of (weight (is c.number)) s.views id v at in
      let n = r.numbers (is c.number) in
      dite (ℕ_lt c.number number) (λ h. h) (λ h. let z = none_high c.number 0 number (omega arith) in absurd (omega arith)) where
        ℕ_lt : (a b : ℕ) → Dec (a < b)
        ℕ_lt a b = native.Mathlib.Decide.dec_le (suc a) b

  -- no other seat has its number
  alone : (s : St) (k : Ruled s) (id : ℕ) (v : View S) (c : Card S) → At s.views id v → v.cards ≡ c ∷ [] → (j : ℕ) (u : View S) → At s.views j u → j ≢ id → Each (λ (d : Card S). d.number ≢ c.number) u.cards
  alone s k id v c at e j u p ne =
      let r = k.turns in
      let one : weight (is c.number) v ≡ 1 = ap (λ (cs : List (Card S)). total (λ (d : Card S). is c.number d.number) cs) e ∙ ap (λ (x : ℕ). x + 0) (is_hit c.number c.number refl) in
      let both = two_of (weight (is c.number)) s.views id j v u at p (λ z. ne (sym z)) in
      let n = r.numbers (is c.number) in
      let o = once c.number 0 number in
      none_is (λ (d : Card S). d.number) c.number u.cards (omega arith)

  module _ (slots id : ℕ) (c : Card S) where
    pub draws : (xs : List (ℕ × Option V)) → Allows Ruled slots id (pass_view c Away, xs) 0 (λ n. (n + 1) % 18446744073709551616) (Drew (step slots 0 1 0 none) (pass_view c Away, xs))
    draws xs s k _ at _ =
        let r = k.turns in
        let v : View S = pass_view c Away in
        let w : View S = pass_view c (Waits r.drawn) in
        let out = near s k in
        let q = r.queue in
        let mine = r.seats id v at in
        let n : ℕ = get_or s.words 0 0 in
        let is : n ≡ r.drawn % 18446744073709551616 = ap (λ (ws : List ℕ). get_or ws 0 0) r.words in (
          w,
          keeps,
          tt,
          record {
            few = k.few;
            turns = record {
              events = r.events;
              drawn = suc r.drawn;
              served = r.served;
              words = ap (λ (ws : List ℕ). set ws 0 ((get_or ws 0 0 + 1) % 18446744073709551616)) r.words
                  ∙ ap (λ (x : ℕ). x ∷ r.served % 18446744073709551616 ∷ length r.events % 18446744073709551616 ∷ []) (next_mod r.drawn ∙ ap (λ (x : ℕ). x % 18446744073709551616) (let e : r.drawn + 1 ≡ suc r.drawn = omega arith in e));
              seats = each_set (λ _ (u : View S). Fits r.events site r.served (suc r.drawn) u) s.views id w
                  (λ j u p. let f = r.seats j u p in record { cards = f.cards; told = f.told; waits = λ t e. let b = f.waits t e in (b.0, omega arith); holds = λ t e. let b = f.holds t e in (b.0, (let d = b.1 in omega arith), b.2); counted = f.counted })
                  (record { cards = mine.cards; told = mine.told; waits = λ t e. let z : r.drawn ≡ t = cc in (omega arith, omega arith); holds = λ t e. absurd (cc); counted = omega arith });
              apart = λ j h u x t p p' y z. one_set s.views id j w u (j ≡ h) p
                  (λ e is. one_set s.views id h w x (j ≡ h) p' (λ e' _. e ∙ sym e') (λ ne old. let g : r.drawn ≡ t = subst (λ (a : View S). Has a.place t) (sym is) y in let b = has_bounds r.events site r.served r.drawn x (r.seats h x old) t z in absurd (omega arith)))
                  (λ ne old. one_set s.views id h w x (j ≡ h) p' (λ e is. let g : r.drawn ≡ t = subst (λ (a : View S). Has a.place t) (sym is) z in let b = has_bounds r.events site r.served r.drawn u (r.seats j u old) t y in absurd (omega arith)) (λ ne' old'. r.apart j h u x t old old' y z));
              numbers = λ h. total_same (weight h) s.views id v w at refl ∙ r.numbers h;
              queue = let z = total_set (λ (u : View S). tickets u.place) s.views id v w at in omega arith;
              below = r.below;
              home = ⊎_elim
                  (λ h. inl (record { value = h.value; there = h.there; stands = h.stands; sited = h.sited; free = λ j u t p e. one_set s.views id j w u ⊥ p (λ _ is. let z : Waits r.drawn ≡ Holds t = ap (λ (a : View S). a.place) is ∙ e in absurd (cc)) (λ _ old. h.free j u t old e) }))
                  (λ h. inr (record {
                    gone = h.gone;
                    seat = h.seat;
                    view = h.view;
                    ticket = h.ticket;
                    held = h.held;
                    there = set_else s.views id h.seat w (λ e. let z = at_same s.views id h.view v (subst (λ (k : ℕ). At s.views k h.view) e h.there) at in let y : Holds h.ticket ≡ Away = sym h.held ∙ ap (λ (a : View S). a.place) z in absurd (cc)) ∙ h.there;
                  })) r.home;
            };
          },
          (r.drawn, sym is, refl),
        )

    pub looks : (t : ℕ) → Allows Ruled slots id (pass_view c (Waits t), []) 1 (λ n. n) (Saw record_of site_of (step slots 1 0 0 none) (pass_view c (Waits t), []))
    looks t s k _ at _ =
        let r = k.turns in
        let v : View S = pass_view c (Waits t) in
        let mine = r.seats id v at in
        let b = mine.waits t refl in
        let out = near s k in
        let is : get_or s.words 1 0 ≡ r.served % 18446744073709551616 = ap (λ (ws : List ℕ). get_or ws 1 0) r.words in
        let same : set s.words 1 (get_or s.words 1 0) ≡ s.words = ap (λ (ws : List ℕ). set ws 1 (get_or ws 1 0)) r.words ∙ sym r.words in
        dite (ℕ_discrete (get_or s.words 1 0) (t % 18446744073709551616))
        (λ hit. let now : r.served ≡ t = one_turn r.served t 18446744073709551616 b.0 (omega arith) (sym is ∙ hit) in
        ⊎_elim
        (λ h. let x = h.value in let w : View S = seeing v (record_of x) (Holds t) in let m = mine.cards.0 in (
          w,
          takes 0 (Some x),
          ap (λ (hs : List (core.Option (Option V))). get_elem? hs 0) h.there,
          record {
            few = k.few;
            turns = record {
              events = r.events;
              drawn = r.drawn;
              served = r.served;
              words = same ∙ r.words;
              seats = each_set (λ _ (u : View S). Fits r.events site r.served r.drawn u) s.views id w r.seats
                  (record { cards = (record { site_is = m.site_is; seen_is = subst (λ (l : Record). IsPrefix l r.events) (sym h.stands) (prefix_all r.events); mine_is = m.mine_is }, tt); told = mine.told; waits = λ t e. absurd (cc); holds = λ t' e. let z : t ≡ t' = cc in (sym z ∙ sym now, (let q = b.1 in omega arith), (h.stands, tt)); counted = omega arith });
              apart = λ j l u y t' p p' a d. let e = kept s.views id v w at (λ t' e. e) j u t' p a in let f = kept s.views id v w at (λ t' e. e) l y t' p' d in r.apart j l e.0 f.0 t' e.1 f.1 e.2 f.2;
              numbers = λ h. total_same (weight h) s.views id v w at refl ∙ r.numbers h;
              queue = let z = total_same (λ (u : View S). tickets u.place) s.views id v w at refl in let q = r.queue in omega arith;
              below = r.below;
              home = inr (record { gone = ap (λ (hs : List (core.Option (Option V))). set hs 0 none) h.there; seat = id; view = w; ticket = t; there = at_set_same s.views id v w at; held = refl });
            };
          },
          λ t' e. let z : t ≡ t' = cc in (
            (λ _. (
              x,
              (record { site_is = m.site_is ∙ sym h.sited; seen_is = subst (λ (l : Record). IsPrefix c.seen l) (sym h.stands) m.seen_is; mine_is = ap (λ (l : Record). own l c.number) h.stands ∙ m.mine_is }, tt),
              (λ i. (seeing v (record_of x) (Holds (z i)), (0, Some x) ∷ [])),
            )),
            (λ ne. absurd (ne (hit ∙ ap (λ (y : ℕ). y % 18446744073709551616) z))),
          ),
        ))
        (λ h. let f = (r.seats h.seat h.view h.there).holds h.ticket h.held in
        let same_seat : h.seat ≡ id = r.apart h.seat id h.view v t h.there at (subst (λ (y : Place). Has y t) (sym h.held) (f.0 ∙ now)) refl in
        let u = at_same s.views id h.view v (subst (λ (k : ℕ). At s.views k h.view) same_seat h.there) at in
        let z : Holds h.ticket ≡ Waits t = sym h.held ∙ ap (λ (a : View S). a.place) u in absurd (cc))
        r.home)
        (λ miss. (
          v,
          keeps,
          tt,
          subst (λ (z : List ℕ × List (View S)). Ruled (record { words = z.0; homes = s.homes; views = z.1 })) (λ i. (sym same i, sym (set_again s.views id v at) i)) k,
          λ t' e. let z : t ≡ t' = cc in ((λ hit. absurd (miss (hit ∙ ap (λ (y : ℕ). y % 18446744073709551616) (sym z)))), λ _. refl),
        ))

    module _ (t : ℕ) where
      -- no other seat has the turn
      only : (s : St) (k : Ruled s) → At s.views id (pass_view c (Holds t)) → (j : ℕ) (u : View S) (t' : ℕ) → At s.views j u → Has u.place t' → t' ≡ k.turns.served → j ≡ id
      only s k at j u t' p h e = let r = k.turns in let now = ((r.seats id (pass_view c (Holds t)) at).holds t refl).0 in
          r.apart j id u (pass_view c (Holds t)) t' p at h (now ∙ sym e)

      pub commits : (e : Event) (xs : List (ℕ × Option V)) → Allows Ruled slots id (pass_view c (Holds t), xs) 2 (λ n. (n + 1) % 18446744073709551616) (Committed e (step slots 2 1 0 none) (pass_view c (Holds t), xs))
      commits e xs s k _ at _ =
          let r = k.turns in
          let v : View S = pass_view c (Holds t) in
          let w : View S = adding v e in
          let events : Record = r.events ++ (e, c.number) ∷ [] in
          let mine = r.seats id v at in
          let m = mine.cards.0 in
          let h = mine.holds t refl in
          let all : c.seen ++ (e, c.number) ∷ [] ≡ events = ap (λ (l : Record). l ++ (e, c.number) ∷ []) h.2.0 in (
            w,
            keeps,
            tt,
            record {
              few = k.few;
              turns = record {
                events = events;
                drawn = r.drawn;
                served = r.served;
                words = ap (λ (ws : List ℕ). set ws 2 ((get_or ws 2 0 + 1) % 18446744073709551616)) r.words
                    ∙ ap (λ (x : ℕ). r.drawn % 18446744073709551616 ∷ r.served % 18446744073709551616 ∷ x ∷ []) (next_mod (length r.events) ∙ ap (λ (x : ℕ). x % 18446744073709551616) (sym (length-append r.events ((e, c.number) ∷ []))));
                seats = λ j u p. one_set s.views id j w u (Fits events site r.served r.drawn u) p
                    (λ _ is. subst (Fits events site r.served r.drawn) is (record {
                      cards = (record { site_is = m.site_is; seen_is = subst (λ (l : Record). IsPrefix l events) (sym all) (prefix_all events); mine_is = own_hit r.events e c.number c.number refl ∙ ap (λ (l : List Event). l ++ e ∷ []) m.mine_is }, tt);
                      told = prefix_more [] r.events (e, c.number) mine.told;
                      waits = λ t' e'. absurd (cc);
                      holds = λ t' e'. let d = mine.holds t' e' in (d.0, d.1, (all, tt));
                      counted = omega arith;
                    }))
                    (λ ne old. let f = r.seats j u old in record {
                      cards = each_both (Stands r.events site) (λ (d : Card S). d.number ≢ c.number) (Stands events site) u.cards
                          (λ d a n. record { site_is = a.site_is; seen_is = prefix_more d.seen r.events (e, c.number) a.seen_is; mine_is = own_miss r.events e c.number d.number (λ z. n (sym z)) ∙ a.mine_is })
                          f.cards (alone s k id v c at refl j u old ne);
                      told = prefix_more u.told r.events (e, c.number) f.told;
                      waits = f.waits;
                      holds = λ t' e'. absurd (ne (only s k at j u t' old (subst (λ (y : Place). Has y t') (sym e') refl) (f.holds t' e').0));
                      counted = f.counted;
                    });
                apart = λ j l u y t' p p' a d. let g = kept s.views id v w at (λ _ e. e) j u t' p a in let f = kept s.views id v w at (λ _ e. e) l y t' p' d in r.apart j l g.0 f.0 t' g.1 f.1 g.2 f.2;
                numbers = λ h. total_same (weight h) s.views id v w at refl ∙ r.numbers h;
                queue = let z = total_same (λ (u : View S). tickets u.place) s.views id v w at refl in let q = r.queue in omega arith;
                below = each-append (λ (x : Event × ℕ). x.1 < number) r.events ((e, c.number) ∷ []) r.below (low s k id v c at refl, tt);
                home = ⊎_elim (λ y. absurd (y.free id v t at refl)) (λ y. inr (record { gone = y.gone; seat = id; view = w; ticket = t; there = at_set_same s.views id v w at; held = refl })) r.home;
              };
            },
            refl,
          )

      pub leaves : (x : V) → record_of x ≡ c.seen → site_of x ≡ site → Allows Ruled slots id (pass_view c (Holds t), (0, Some x) ∷ []) 1 (λ n. (n + 1) % 18446744073709551616) (Left (step slots 1 1 0 none) (pass_view c (Holds t), (0, Some x) ∷ []))
      leaves x stands sited s k _ at _ =
          let r = k.turns in
          let v : View S = pass_view c (Holds t) in
          let w : View S = pass_view c Away in
          let mine = r.seats id v at in
          let h = mine.holds t refl in
          let none_now : (j : ℕ) (u : View S) (t' : ℕ) → At (set s.views id w) j u → Has u.place t' → (j ≢ id) × At s.views j u =
          λ j u t' p y. one_set s.views id j w u ((j ≢ id) × At s.views j u) p (λ _ is. absurd (subst (λ (a : View S). Has a.place t') (sym is) y)) (λ ne old. (ne, old)) in (
            w,
            gives,
            tt,
            record {
              few = k.few;
              turns = record {
                events = r.events;
                drawn = r.drawn;
                served = suc r.served;
                words = ap (λ (ws : List ℕ). set ws 1 ((get_or ws 1 0 + 1) % 18446744073709551616)) r.words
                    ∙ ap (λ (x : ℕ). r.drawn % 18446744073709551616 ∷ x ∷ length r.events % 18446744073709551616 ∷ []) (next_mod r.served ∙ ap (λ (x : ℕ). x % 18446744073709551616) (let e : r.served + 1 ≡ suc r.served = omega arith in e));
                seats = λ j u p. one_set s.views id j w u (Fits r.events site (suc r.served) r.drawn u) p
                    (λ _ is. subst (Fits r.events site (suc r.served) r.drawn) is (record { cards = mine.cards; told = mine.told; waits = λ t e. absurd (cc); holds = λ t e. absurd (cc); counted = omega arith }))
                    (λ ne old. let f = r.seats j u old in record {
                      cards = f.cards;
                      told = f.told;
                      waits = λ t' e. let b = f.waits t' e in let b0 = b.0 in ((dite (ℕ_discrete t' r.served) (λ z. absurd (ne (only s k at j u t' old (subst (λ (y : Place). Has y t') (sym e) refl) z))) (λ ne'. omega arith)), b.1);
                      holds = λ t' e. absurd (ne (only s k at j u t' old (subst (λ (y : Place). Has y t') (sym e) refl) (f.holds t' e).0));
                      counted = f.counted;
                    });
                apart = λ j l u y t' p p' a d. let g = none_now j u t' p a in let f = none_now l y t' p' d in r.apart j l u y t' g.1 f.1 a d;
                numbers = λ h. total_same (weight h) s.views id v w at refl ∙ r.numbers h;
                queue = let z = total_set (λ (u : View S). tickets u.place) s.views id v w at in let q = r.queue in omega arith;
                below = r.below;
                home = ⊎_elim (λ y. absurd (y.free id v t at refl))
                    (λ y. inl (record {
                      value = x;
                      there = ap (λ (hs : List (core.Option (Option V))). set hs 0 (some (Some x))) y.gone;
                      stands = stands ∙ h.2.0;
                      sited = sited;
                      free = λ j u t' p e. let a = none_now j u t' p (subst (λ (y : Place). Has y t') (sym e) refl) in a.0 (only s k at j u t' a.1 (subst (λ (y : Place). Has y t') (sym e) refl) ((r.seats j u a.1).holds t' e).0);
                    })) r.home;
              };
            },
            refl,
          )

  -- the same of a seat whose view is known by an equation
  module _ (slots id : ℕ) (me : Sat S V) where
    pub draws_away : IsAway me → Allows Ruled slots id me 0 (λ n. (n + 1) % 18446744073709551616) (Drew (step slots 0 1 0 none) me)
    draws_away a = subst (λ (m : Sat S V). Allows Ruled slots id m 0 (λ n. (n + 1) % 18446744073709551616) (Drew (step slots 0 1 0 none) m)) (sym a.1) (draws slots id a.0 [])

    pub looks_waiting : (ticket : ℕ) → IsWaiting me ticket → Allows Ruled slots id me 1 (λ n. n) (Saw record_of site_of (step slots 1 0 0 none) me)
    looks_waiting ticket a = subst (λ (m : Sat S V). Allows Ruled slots id m 1 (λ n. n) (Saw record_of site_of (step slots 1 0 0 none) m)) (sym a.3) (looks slots id a.0 a.1)

    pub commits_holding : (e : Event) → IsHolding me → Allows Ruled slots id me 2 (λ n. (n + 1) % 18446744073709551616) (Committed e (step slots 2 1 0 none) me)
    commits_holding e a = subst (λ (m : Sat S V). Allows Ruled slots id m 2 (λ n. (n + 1) % 18446744073709551616) (Committed e (step slots 2 1 0 none) m)) (sym a.2) (commits slots id a.0 a.1 e ((0, None) ∷ []))

    pub leaves_holding : (old : Sat S V) (x : V) → IsHolding old → me ≡ (old.0, (0, Some x) ∷ rest old.1) → record_of x ≡ first_seen old.0.cards → site_of x ≡ site → Allows Ruled slots id me 1 (λ n. (n + 1) % 18446744073709551616) (Left (step slots 1 1 0 none) me)
    leaves_holding old x a given stands sited =
        let is : me ≡ (pass_view a.0 (Holds a.1), (0, Some x) ∷ []) = given ∙ ap (λ (m : Sat S V). (m.0, (0, Some x) ∷ rest m.1)) a.2 in
        subst (λ (m : Sat S V). Allows Ruled slots id m 1 (λ n. (n + 1) % 18446744073709551616) (Left (step slots 1 1 0 none) m)) (sym is) (leaves slots id a.0 a.1 x (stands ∙ ap (λ (m : Sat S V). first_seen m.0.cards) a.2) sited)
