-- Dealing, telling, hearing, comparing and gathering keep the rule of the front.
use Rattle.std.proofs.Common.{◌≡◌, ℕ, suc, ◌+◌, inl, inr, ⊎_elim, List, [], ◌∷◌, ◌++◌, map, get_or, set, sym, refl, ap, ◌∙◌, subst, arith}
use Rattle.std.specs.Prelude.{Option}
use Rattle.std.specs.List.{range_with_len}
use mathlib.Core.Logic.{dite}
use native.Mathlib.Decide.{ℕ_discrete}
use mathlib.Core.Option.{none}
use Rattle.atomic_table.specs.Table.{State, step, keeps, Allows, Splits, Joins}
use Rattle.atomic_table.proofs.Lists.{set_else, set_again, at_snoc, at_longer}
use Rattle.record_model.specs.Records.{Record, IsPrefix}
use Rattle.batch_front.specs.Turns.{At, total, Each, tickets, Has, weight, pass_view, news_view, blank, comparing, dealer, dealt, teller, hearer, gatherer, Stands, Fits, IsOut, InTurn, Kept, Sat, Compared, IsAway, IsDealing, IsGathering, new_card}
use Rattle.batch_front.specs.declared.rule.Card.{Card}
use Rattle.batch_front.specs.declared.rule.Place.{Place}
use Rattle.batch_front.specs.declared.rule.Place.TheVariants.{Away}
use Rattle.batch_front.specs.declared.rule.View.{View}
use Rattle.batch_front.proofs.Lists.{each_set, one_set, total_set, total_same, total-append, at_same, at_set_same, each-append}
use Rattle.batch_front.proofs.Numbers.{longer_is, longer_all}

module _ {S V : Type 0} (record_of : V → Record) (site_of : V → S) (site : S) (number : ℕ) where
  abbrev St : Type 0
  St = State (Option V) (View S)

  abbrev Ruled : St → Type 0
  Ruled = Kept record_of site_of site number

  abbrev Turning : ((ℕ → ℕ) → ℕ) → St → Type 0
  Turning = InTurn record_of site_of site number

  abbrev seen_by : St → List (View S) → St
  seen_by s views = record { words = s.words; homes = s.homes; views = views }

  -- whatever the numbers weigh
  abbrev weigh_in : List (View S) → (ℕ → ℕ) → ℕ
  weigh_in views h = total (weight h) views

  weighed : (weigh weigh' : (ℕ → ℕ) → ℕ) (s : St) → Turning weigh s → ((h : ℕ → ℕ) → total (weight h) s.views ≡ weigh' h) → Turning weigh' s
  weighed weigh weigh' s r weighs = record { events = r.events; drawn = r.drawn; served = r.served; words = r.words; seats = r.seats; apart = r.apart; numbers = weighs; queue = r.queue; below = r.below; home = r.home }

  -- a seat knows something else, where it stands
  moves : (weigh : (ℕ → ℕ) → ℕ) (s : St) (r : Turning weigh s) (id : ℕ) (v w : View S) → At s.views id v → w.place ≡ v.place → Fits r.events site r.served r.drawn w
      → Turning (weigh_in (set s.views id w)) (seen_by s (set s.views id w))
  moves weigh s r id v w at place fits =
      let back : (t : ℕ) → Has w.place t → Has v.place t = λ t h. subst (λ (x : Place). Has x t) place h in
      let had : (j : ℕ) (u : View S) (t : ℕ) → At (set s.views id w) j u → Has u.place t → (x : View S) × At s.views j x × Has x.place t =
      λ j u t p h. each_set (λ (j : ℕ) (u : View S). Has u.place t → (x : View S) × At s.views j x × Has x.place t) s.views id w (λ j u p h. (u, p, h)) (λ e. (v, at, back t e)) j u p h in record {
        events = r.events;
        drawn = r.drawn;
        served = r.served;
        words = r.words;
        seats = each_set (λ _ (u : View S). Fits r.events site r.served r.drawn u) s.views id w r.seats fits;
        apart = λ j l u y t p p' a d. let g = had j u t p a in let f = had l y t p' d in r.apart j l g.0 f.0 t g.1 f.1 g.2 f.2;
        numbers = λ h. refl;
        queue = let z = total_same (λ (u : View S). tickets u.place) s.views id v w at (ap tickets place) in let q = r.queue in omega arith;
        below = r.below;
        home = ⊎_elim
            (λ h. inl (record { value = h.value; there = h.there; stands = h.stands; sited = h.sited; free = λ j u t p e. one_set s.views id j w u ⊥ p (λ _ is. h.free id v t at (sym place ∙ (ap (λ (a : View S). a.place) is ∙ e))) (λ _ old. h.free j u t old e) }))
            (λ h. inr (by h)) r.home;
      } where
        by : IsOut record_of site_of site s → IsOut record_of site_of site (seen_by s (set s.views id w))
        by h = dite (ℕ_discrete h.seat id)
            (λ e. let same = at_same s.views id h.view v (subst (λ (k : ℕ). At s.views k h.view) e h.there) at in
            record { gone = h.gone; seat = id; view = w; ticket = h.ticket; there = at_set_same s.views id v w at; held = place ∙ (ap (λ (a : View S). a.place) (sym same) ∙ h.held) })
            (λ ne. record { gone = h.gone; seat = h.seat; view = h.view; ticket = h.ticket; there = set_else s.views id h.seat w ne ∙ h.there; held = h.held })

  -- a new seat knows something, and stands away
  adds : (weigh : (ℕ → ℕ) → ℕ) (s : St) (r : Turning weigh s) (u : View S) → u.place ≡ Away → Fits r.events site r.served r.drawn u
      → Turning (weigh_in (s.views ++ u ∷ [])) (seen_by s (s.views ++ u ∷ []))
  adds weigh s r u away fits =
      let none_here : (x : View S) (t : ℕ) → u ≡ x → Has x.place t → ⊥ = λ x t e h. subst (λ (y : Place). Has y t) (ap (λ (z : View S). z.place) (sym e) ∙ away) h in
      record {
        events = r.events;
        drawn = r.drawn;
        served = r.served;
        words = r.words;
        seats = λ j x p. ⊎_elim (λ q. r.seats j x q) (λ e. subst (Fits r.events site r.served r.drawn) e fits) (at_snoc s.views u x j p);
        apart = λ j h x y t p q a b. ⊎_elim (λ p'. ⊎_elim (λ q'. r.apart j h x y t p' q' a b) (λ e. absurd (none_here y t e b)) (at_snoc s.views u y h q)) (λ e. absurd (none_here x t e a)) (at_snoc s.views u x j p);
        numbers = λ h. refl;
        queue = let z = total-append (λ (x : View S). tickets x.place) s.views (u ∷ []) in let y : tickets u.place ≡ 0 = ap tickets away in let q = r.queue in omega arith;
        below = r.below;
        home = ⊎_elim
            (λ h. inl (record { value = h.value; there = h.there; stands = h.stands; sited = h.sited; free = λ j x t p e. ⊎_elim (λ q. h.free j x t q e) (λ is. none_here x t is (subst (λ (y : Place). Has y t) (sym e) refl)) (at_snoc s.views u x j p) }))
            (λ h. inr (record { gone = h.gone; seat = h.seat; view = h.view; ticket = h.ticket; held = h.held; there = at_longer s.views (u ∷ []) h.seat h.view h.there })) r.home;
      }

  -- the view of a seat that has no card, and stands away
  bare : (events : Record) (served drawn : ℕ) (told : Record) → IsPrefix told events → Fits {S = S} events site served drawn (news_view told)
  bare events served drawn told p = record { cards = tt; told = p; waits = λ t e. absurd (cc); holds = λ t e. absurd (cc); counted = omega arith }

  -- the first card is dealt
  pub deals : (id : ℕ) (c : Card S) (cs : List (Card S)) → let v : View S = record { cards = c ∷ cs; told = []; place = Away } in Splits Ruled id v (dealer v) (dealt v)
  unfolding moves
  deals id c cs s k at =
      let v : View S = record { cards = c ∷ cs; told = []; place = Away } in
      let r = k.turns in
      let mine = r.seats id v at in
      let fits : (cards : List (Card S)) → Each (Stands r.events site) cards → Fits r.events site r.served r.drawn (record { cards = cards; told = []; place = Away }) =
      λ cards each. record { cards = each; told = mine.told; waits = λ t e. absurd (cc); holds = λ t e. absurd (cc); counted = omega arith } in
      let views : List (View S) = set s.views id (dealer v) in
      let one = moves _ s r id v (dealer v) at refl (fits cs mine.cards.1) in
      let both = adds _ (seen_by s views) one (dealt v) refl (fits (c ∷ []) (mine.cards.0, tt)) in record {
        few = k.few;
        turns = weighed _ _ (seen_by s (views ++ dealt v ∷ [])) both (λ h. let a = total-append (weight h) views (dealt v ∷ []) in let b = total_set (weight h) s.views id v (dealer v) at in let n = r.numbers h in omega arith);
      }

  -- a pass tells what it has seen
  pub tells : (id : ℕ) (c : Card S) (place : Place) → Splits Ruled id (pass_view c place) (pass_view c place) (teller (pass_view c place))
  tells id c place s k at =
      let r = k.turns in
      let v : View S = pass_view c place in
      let u : View S = news_view c.seen in
      let m = (r.seats id v at).cards.0 in record {
        few = k.few;
        turns = subst (λ (vs : List (View S)). Turning (λ h. total h (range_with_len 0 number)) (seen_by s (vs ++ u ∷ []))) (sym (set_again s.views id v at))
            (weighed _ _ (seen_by s (s.views ++ u ∷ [])) (adds _ s r u refl (bare r.events r.served r.drawn c.seen m.seen_is)) (λ h. let a = total-append (weight h) s.views (u ∷ []) in let n = r.numbers h in omega arith));
      }

  -- a pass takes in news
  pub hears : (id : ℕ) (c : Card S) (place : Place) (other : ℕ) (told : Record) → Joins Ruled id (pass_view c place) other (news_view told) (hearer (pass_view c place) (news_view told)) blank
  unfolding moves
  hears id c place other told s k at apart at' =
      let r = k.turns in
      let v : View S = pass_view c place in
      let w : View S = hearer v (news_view told) in
      let views : List (View S) = set s.views id w in
      let mine = r.seats id v at in
      let theirs = r.seats other (news_view told) (sym (set_else s.views id other w apart) ∙ at') in
      let one = moves _ s r id v w at refl (record { cards = mine.cards; told = theirs.told; waits = mine.waits; holds = mine.holds; counted = mine.counted }) in
      let both = moves _ (seen_by s views) one other (news_view told) blank at' refl (bare r.events r.served r.drawn [] (r.events, refl)) in record {
        few = k.few;
        turns = weighed _ _ (seen_by s (set views other blank)) both (λ h. let a = total_set (weight h) views other (news_view told) blank at' in let b = total_set (weight h) s.views id v w at in let n = r.numbers h in omega arith);
      }

  -- the card of a pass is taken in
  pub gathers : (id : ℕ) (cards : List (Card S)) (told : Record) (other : ℕ) (c : Card S)
      → let v : View S = record { cards = cards; told = told; place = Away } in Joins Ruled id v other (pass_view c Away) (gatherer v (pass_view c Away)) blank
  unfolding moves
  gathers id cards told other c s k at apart at' =
      let r = k.turns in
      let v : View S = record { cards = cards; told = told; place = Away } in
      let w : View S = gatherer v (pass_view c Away) in
      let views : List (View S) = set s.views id w in
      let mine = r.seats id v at in
      let theirs = r.seats other (pass_view c Away) (sym (set_else s.views id other w apart) ∙ at') in
      let one = moves _ s r id v w at refl (record { cards = each-append (Stands r.events site) cards (c ∷ []) mine.cards theirs.cards; told = mine.told; waits = λ t e. absurd (cc); holds = λ t e. absurd (cc); counted = omega arith }) in
      let both = moves _ (seen_by s views) one other (pass_view c Away) blank at' refl (bare r.events r.served r.drawn [] (r.events, refl)) in record {
        few = k.few;
        turns = weighed _ _ (seen_by s (set views other blank)) both (λ h.
            let a = total_set (weight h) views other (pass_view c Away) blank at' in
            let b = total_set (weight h) s.views id v w at in
            let d = total-append (λ (x : Card S). h x.number) cards (c ∷ []) in
            let n = r.numbers h in omega arith);
      }

  -- what a pass was told is compared with what it has seen
  pub compares : (slots id : ℕ) (c : Card S) (told : Record) (place : Place) (xs : List (ℕ × Option V)) → let v : View S = record { cards = c ∷ []; told = told; place = place } in
      Allows Ruled slots id (v, xs) 2 (λ n. n) (Compared (step slots 2 0 0 none) (v, xs))
  compares slots id c told place xs s k _ at _ =
      let r = k.turns in
      let v : View S = record { cards = c ∷ []; told = told; place = place } in
      let w : View S = comparing v in
      let mine = r.seats id v at in
      let m = mine.cards.0 in
      let l = longer_is c.seen told r.events m.seen_is mine.told in
      let same : set s.words 2 (get_or s.words 2 0) ≡ s.words = ap (λ (ws : List ℕ). set ws 2 (get_or ws 2 0)) r.words ∙ sym r.words in
      let one = moves _ s r id v w at refl (record {
        cards = (record { site_is = m.site_is; seen_is = l.0; mine_is = m.mine_is }, tt);
        told = (r.events, refl);
        waits = mine.waits;
        holds = λ t e. let h = mine.holds t e in (h.0, h.1, (longer_all c.seen told (subst (λ (x : Record). IsPrefix told x) (sym h.2.0) mine.told) ∙ h.2.0, tt));
        counted = mine.counted;
      }) in (
        w,
        keeps,
        tt,
        record {
          few = k.few;
          turns = subst (λ (ws : List ℕ). Turning (λ h. total h (range_with_len 0 number)) (record { words = ws; homes = s.homes; views = set s.views id w })) (sym same)
              (weighed _ _ (seen_by s (set s.views id w)) one (λ h. total_same (weight h) s.views id v w at refl ∙ r.numbers h));
        },
        (refl, ((l.1, l.2), tt)),
      )

  -- the same of seats whose views are known by equations
  pub tells_seen : (id : ℕ) (v : View S) (c : Card S) → v ≡ pass_view c v.place → Splits Ruled id v v (teller v)
  tells_seen id v c e = subst (λ (u : View S). Splits Ruled id u u (teller u)) (sym e) (tells id c v.place)

  pub hears_news : (id : ℕ) (v : View S) (c : Card S) (other : ℕ) (w : View S) → v ≡ pass_view c v.place → w ≡ news_view w.told → Joins Ruled id v other w (hearer v w) blank
  hears_news id v c other w e f = subst (λ (z : View S × View S). Joins Ruled id z.0 other z.1 (hearer z.0 z.1) blank) (λ i. (sym e i, sym f i)) (hears id c v.place other w.told)

  pub compares_heard : (slots id : ℕ) (me old : Sat S V) (c : Card S) (w : View S) → old.0 ≡ pass_view c old.0.place → me ≡ (hearer old.0 w, old.1) → Allows Ruled slots id me 2 (λ n. n) (Compared (step slots 2 0 0 none) me)
  compares_heard slots id me old c w e given =
      let is : me ≡ (record { cards = c ∷ []; told = w.told; place = old.0.place }, old.1) = given ∙ ap (λ (v : View S). (record { cards = v.cards; told = w.told; place = old.0.place }, old.1)) e in
      subst (λ (m : Sat S V). Allows Ruled slots id m 2 (λ n. n) (Compared (step slots 2 0 0 none) m)) (sym is) (compares slots id c w.told old.0.place old.1)

  pub deals_next : (id : ℕ) (me : Sat S V) (x : S) (first more : ℕ) → IsDealing x (range_with_len first (suc more)) me → Splits Ruled id me.0 (dealer me.0) (dealt me.0)
  deals_next id me x first more e = subst (λ (v : View S). Splits Ruled id v (dealer v) (dealt v)) (sym (ap (λ (m : Sat S V). m.0) e)) (deals id (new_card x first) (map (new_card x) (range_with_len (first + 1) more)))

  pub gathers_home : (id : ℕ) (me : Sat S V) (cards : List (Card S)) (other : ℕ) (w : Sat S V) → IsGathering cards me → IsAway w → Joins Ruled id me.0 other w.0 (gatherer me.0 w.0) blank
  gathers_home id me cards other w g a = subst (λ (z : View S × View S). Joins Ruled id z.0 other z.1 (gatherer z.0 z.1) blank) (λ i. ((sym g.1 i).0, (sym a.1 i).0)) (gathers id cards g.0 other a.0)

-- what is left to deal
pub dealt_next : {S V : Type 0} (me new : Sat S V) (x : S) (first more : ℕ) → IsDealing x (range_with_len first (suc more)) me → new ≡ (dealer me.0, me.1) → IsDealing x (range_with_len (first + 1) more) new
dealt_next {S} {V} me new x first more e given = given ∙ ap (λ (m : Sat S V). (dealer m.0, m.1)) e
