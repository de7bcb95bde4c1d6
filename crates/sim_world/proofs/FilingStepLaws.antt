-- After each of its steps a filing has what its next one needs.
use Rattle.std.proofs.Common.{◌≡◌, ℕ, suc, ◌+◌, ◌<◌, ◌≤◌, Bool, true, false, cond, List, [], ◌∷◌, ◌++◌, length, set, refl, sym, ap, ◌∙◌, subst, arith}
use Rattle.std.specs.Prelude.{Some, ◌==◌, ◌/◌, ◌%◌, nat_lt, slice_index}
use Rattle.std.proofs.lemmas.Bool.Decides.{nat_tests}
use mathlib.Core.Logic.{dite}
use native.Mathlib.Decide.{ℕ_discrete}
use Rattle.list_machine.specs.Words.{Word}
use Rattle.list_machine.specs.Facts.{IsAt}
use Rattle.list_machine.specs.Steps.{KnowsChunk, guest_with, after_claim, nobody}
use Rattle.list_machine.specs.declared.views.Grant.{Grant}
use Rattle.list_machine.specs.declared.views.Fact.{Fact}
use Rattle.list_machine.specs.declared.views.Fact.TheVariants.{Item, Empty, Link}
use Rattle.list_machine.specs.declared.views.LinkWord.{LinkWord}
use Rattle.list_machine.specs.declared.views.Unfiled.{Unfiled}
use Rattle.list_machine.specs.declared.views.Unfiled.TheVariants.{Nothing, Place}
use Rattle.list_machine.specs.declared.views.Guest.{Guest}
use Rattle.list_machine.proofs.Grants.{used_here, used_else}
use Rattle.list_machine.proofs.Lists.{at_set_same, at_more, or_is}
use Rattle.cube_math.specs.Batches.{BatchValue}
use Rattle.list_machine.specs.Grants.{granted_in, use_grant}
use Rattle.list_machine.specs.Moves.{guest_in, filed_if, is_blank, last_link}
use Rattle.sim_world.specs.FilingRules.{tasks_in, IsClaimOf, unclaimed, IsFiling, GoesOnFiling}
use Rattle.sim_world.specs.Filings.{task_step, claimed_step, next_chunk, late_if, tried, tried_if, tried_late, walk_of, walk_on}
use Rattle.sim_world.specs.Worlds.{World, Filing, Task, Walk}

knows_more : (v : Guest) (c : Unfiled) (f : Fact) (l r d : ℕ) → KnowsChunk v l r d → KnowsChunk (guest_with v c (f ∷ v.facts)) l r d
knows_more v c f l r d k = (suc k.0, k.1, k.2)

-- the grants that are left are enough for the items behind the first
enough : (l : ℕ) (gs : List Grant) (t : Task) (ts : List Task) → ((h : ℕ) → tasks_in h (t ∷ ts) ≤ granted_in h gs) → t.list ≡ l → (h : ℕ)
    → tasks_in h ts ≤ granted_in h (use_grant l gs)
enough l gs t ts all is h = dite (ℕ_discrete h l)
    (λ e.
    let mine : (t.list == h) ≡ true = let q : t.list ≡ h = is ∙ sym e in grind (arith, nat_tests) in
    let one : tasks_in h (t ∷ ts) ≡ 1 + tasks_in h ts = ap (λ b. cond b 1 0 + tasks_in h ts) mine in
    let had = all h in
    let some : 0 < granted_in l gs = subst (λ (z : ℕ). 0 < granted_in z gs) e (let lt : 0 < granted_in h gs = omega arith in lt) in
    let used : granted_in h (use_grant l gs) + 1 ≡ granted_in h gs =
    ap (λ z. granted_in z (use_grant l gs) + 1) e ∙ (used_here l gs some ∙ ap (λ z. granted_in z gs) (sym e)) in
    omega arith)
    (λ ne. let had = all h in let same = used_else l h gs ne in let more : tasks_in h ts ≤ tasks_in h (t ∷ ts) = omega arith in omega arith)

module _ (guests : List Guest) (f : Filing) (is : IsFiling guests f) (t : Task) (ts : List Task) (todo : f.todo ≡ t ∷ ts) where
  -- a claim: the item has a place, or is late
  pub claimed : (x : Word) → is.guest.claim ≡ Nothing → IsFiling (set guests f.seat (after_claim is.guest t.list x)) (late_if x.high f t.item ts)
  claimed x idle = by x.high where
    before : (h : ℕ) → tasks_in h (t ∷ ts) ≤ granted_in h is.guest.grants
    before h = subst (λ (z : List Task × Unfiled). tasks_in h (unclaimed z.0 z.1) ≤ granted_in h is.guest.grants) (λ i. (todo i, idle i)) (is.grants h)

    by : (b : Bool) → IsFiling (set guests f.seat (after_claim is.guest t.list record { value = x.value; high = b })) (late_if b f t.item ts)
    by true = record {
      guest = after_claim is.guest t.list record { value = x.value; high = true };
      here = at_set_same guests f.seat is.guest _ is.here;
      out = is.out;
      claim = tt;
      grants = λ h. enough t.list is.guest.grants t ts before refl h;
      walks = λ l r c at. let k = is.walks l r c at in (suc k.0, k.1, k.2);
    }
    by false = record {
      guest = after_claim is.guest t.list record { value = x.value; high = false };
      here = at_set_same guests f.seat is.guest _ is.here;
      out = is.out;
      claim = subst (λ (zs : List Task). IsClaimOf zs (Place t.list x.value)) (sym todo) refl;
      grants =
          λ h. subst (λ (zs : List Task). tasks_in h (unclaimed zs (Place t.list x.value)) ≤ granted_in h (use_grant t.list is.guest.grants))
          (sym todo) (enough t.list is.guest.grants t ts before refl h);
      walks = λ l r c at. is.walks l r c at;
    }

  -- an item is filed, or found late at its place
  pub answered : (l i : ℕ) (fact : Fact) (b : Bool) → is.guest.claim ≡ Place l i
      → IsFiling (set guests f.seat (guest_with is.guest Nothing (fact ∷ is.guest.facts))) (tried_if b f t.item ts)
  answered l i fact b claim = by b where
    after : (g : Filing) → g.seat ≡ f.seat → g.todo ≡ ts → g.walks ≡ f.walks
        → IsFiling (set guests f.seat (guest_with is.guest Nothing (fact ∷ is.guest.facts))) g
    after g seat rest walks = record {
      guest = guest_with is.guest Nothing (fact ∷ is.guest.facts);
      here = subst
          (λ (j : ℕ). IsAt (set guests f.seat (guest_with is.guest Nothing (fact ∷ is.guest.facts))) j
          (guest_with is.guest Nothing (fact ∷ is.guest.facts))) (sym seat) (at_set_same guests f.seat is.guest _ is.here);
      out = is.out;
      claim = tt;
      grants = λ h. subst (λ (zs : List Task). tasks_in h zs ≤ granted_in h is.guest.grants) (sym rest)
          (subst (λ (z : List Task × Unfiled). tasks_in h (unclaimed z.0 z.1) ≤ granted_in h is.guest.grants) (λ k. (todo k, claim k)) (is.grants h));
      walks = λ h r c at. knows_more is.guest Nothing fact h r c (is.walks h r c (subst (λ (ws : List Walk). IsAt (walk_of ws h) r c) walks at));
    }

    by : (b : Bool) → IsFiling (set guests f.seat (guest_with is.guest Nothing (fact ∷ is.guest.facts))) (tried_if b f t.item ts)
    by true = after (tried f ts) refl refl refl
    by false = after (tried_late f t.item ts) refl refl refl

same_lists : (a l h : ℕ) → (a == l) ≡ true → (a == h) ≡ true → h ≡ l
same_lists a l h e e' = grind (arith, nat_tests)

-- a link is read: the filing knows one chunk more
walk_more : (ws : List Walk) (l h r c d : ℕ) (F : Type 0) → IsAt (walk_of (walk_on ws l d) h) r c → (IsAt (walk_of ws h) r c → F)
    → (h ≡ l → r ≡ length (walk_of ws l) → d ≡ c → F) → F
walk_more [] l h r c d F at old new = old at
walk_more (w ∷ ws) l h r c d F at old new = by (w.list == l) (w.list == h) refl refl at old new (walk_more ws l h r c d F) where
  by : (a b : Bool) → (w.list == l) ≡ a → (w.list == h) ≡ b → IsAt (walk_of (cond a (record w { chunks = w.chunks ++ d ∷ [] } ∷ ws) (w ∷ walk_on ws l d)) h) r c
      → (IsAt (cond b w.chunks (walk_of ws h)) r c → F) → (h ≡ l → r ≡ length (cond a w.chunks (walk_of ws l)) → d ≡ c → F)
      → (IsAt (walk_of (walk_on ws l d) h) r c → (IsAt (walk_of ws h) r c → F) → (h ≡ l → r ≡ length (walk_of ws l) → d ≡ c → F) → F) → F
  by true true e e' at old new more = at_more w.chunks d r c F (subst (λ z. IsAt (cond z (w.chunks ++ d ∷ []) (walk_of ws h)) r c) e' at) old
      (λ long is. let same : h ≡ l = same_lists (w.list) l h e e' in new same long is)
  by true false e e' at old new more = old (subst (λ z. IsAt (cond z (w.chunks ++ d ∷ []) (walk_of ws h)) r c) e' at)
  by false true e e' at old new more = old (subst (λ z. IsAt (cond z w.chunks (walk_of (walk_on ws l d) h)) r c) e' at)
  by false false e e' at old new more = more (subst (λ z. IsAt (cond z w.chunks (walk_of (walk_on ws l d) h)) r c) e' at) old new

-- a filing that reads the link to the next chunk of a list's chain
pub read_on : (guests : List Guest) (f : Filing) (is : IsFiling guests f) (l d : ℕ) (from : LinkWord)
    → IsFiling (set guests f.seat (guest_with is.guest is.guest.claim (Link l from (length (walk_of f.walks l)) d ∷ is.guest.facts)))
    (record f { walks = walk_on f.walks l d })
read_on guests f is l d from = record {
  guest = guest_with is.guest is.guest.claim (Link l from (length (walk_of f.walks l)) d ∷ is.guest.facts);
  here = at_set_same guests f.seat is.guest _ is.here;
  out = is.out;
  claim = is.claim;
  grants = is.grants;
  walks = λ h r c at. walk_more f.walks l h r c d _ at
      (λ old. let k = is.walks h r c old in (suc k.0, k.1, k.2))
      (λ same long chunk. (0, from, λ i. Some (Link (sym same i) from (sym long i) (chunk i))));
}

-- ---- of a world

module _ (w : World) (a : ℕ) (bs : List BatchValue) (f : Filing) (is : IsFiling w.lists.guests f) (t : Task) (ts : List Task) (todo : f.todo ≡ t ∷ ts) where
  seat_is : is.guest ≡ guest_in w.lists f.seat
  seat_is = sym (or_is w.lists.guests f.seat is.guest nobody is.here)

  idle : (c : Unfiled) → (guest_in w.lists f.seat).claim ≡ c → is.guest.claim ≡ c
  idle c e = ap (λ (g : Guest). g.claim) seat_is ∙ e

  filed_goes_on : (c k i : ℕ) (b : Bool) → is.guest.claim ≡ Place t.list i
      → IsFiling (filed_if b w.lists f.seat t.list c k t.item).guests (tried_if b f t.item ts)
  filed_goes_on c k i true claim =
      subst (λ (g : Guest). IsFiling (set w.lists.guests f.seat (guest_with g Nothing (Item t.list c k t.item ∷ g.facts))) (tried f ts)) seat_is
      (answered w.lists.guests f is t ts todo t.list i (Item t.list c k t.item) true claim)
  filed_goes_on c k i false claim =
      subst (λ (g : Guest). IsFiling (set w.lists.guests f.seat (guest_with g Nothing (Empty t.list c k ∷ g.facts))) (tried_late f t.item ts)) seat_is
      (answered w.lists.guests f is t ts todo t.list i (Empty t.list c k) false claim)

  claimed_goes_on : (i : ℕ) (b : Bool) → is.guest.claim ≡ Place t.list i → GoesOnFiling w a bs (claimed_step b w a bs f t.item t.list ts i)
  claimed_goes_on i true claim =
      let c : ℕ = slice_index (walk_of f.walks t.list) (i / 256) in
      let b : Bool = is_blank (w.lists.words.slot c (i % 256)) in
      record { filing = tried_if b f t.item ts; actors = refl; is = filed_goes_on c (i % 256) i b claim }
  claimed_goes_on i false claim =
      let known : List ℕ = walk_of f.walks t.list in
      let c : ℕ = next_chunk w f t.list in
      record {
        filing = record f { walks = walk_on f.walks t.list c };
        actors = refl;
        is = subst (λ (g : Guest). IsFiling (set w.lists.guests f.seat (guest_with g g.claim (Link t.list (last_link known) (length known) c ∷ g.facts)))
            (record f { walks = walk_on f.walks t.list c })) seat_is (read_on w.lists.guests f is t.list c (last_link known));
      }

  by_claim : (c : Unfiled) → is.guest.claim ≡ c → GoesOnFiling w a bs (task_step w a bs f t.item t.list ts c)
  by_claim Nothing claim = record {
    filing = late_if (w.lists.words.claim t.list).high f t.item ts;
    actors = refl;
    is = subst
        (λ (g : Guest). IsFiling (set w.lists.guests f.seat (after_claim g t.list (w.lists.words.claim t.list)))
        (late_if (w.lists.words.claim t.list).high f t.item ts))
        seat_is (claimed w.lists.guests f is t ts todo (w.lists.words.claim t.list) claim);
  }
  by_claim (Place h i) claim =
      let mine : IsClaimOf (t ∷ ts) (Place h i) = subst (λ (z : List Task × Unfiled). IsClaimOf z.0 z.1) (λ k. (todo k, claim k)) is.claim in
      claimed_goes_on i (nat_lt (i / 256) (length (walk_of f.walks t.list))) (claim ∙ ap (λ l. Place l i) (sym mine))

  -- a filing that has items left goes on
  pub filing_goes_on : GoesOnFiling w a bs (task_step w a bs f t.item t.list ts (guest_in w.lists f.seat).claim)
  filing_goes_on = by_claim (guest_in w.lists f.seat).claim (idle (guest_in w.lists f.seat).claim refl)
