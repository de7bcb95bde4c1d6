use Rattle.std.proofs.Common.{ap, sym, subst, ◌≡◌, ℕ, ◌<◌, ◌+◌, List, Bool, Contains, [], ◌∷◌, ◌++◌, get_or, take, drop, length, arith, inl, inr}
use Rattle.std.proofs.lemmas.List.{drop_all, drop_more, take_more}
use Rattle.std.proofs.lemmas.List.Elements.{Contains-get_or}
use Rattle.list_words.specs.Store.{Store, IsOpen, row, chunks_of}
use Rattle.item_moves.specs.Aimed.{AreAimed}
use Rattle.item_moves.specs.Settled.{AreSettled, AreSwept, IsKept}
use Rattle.item_moves.proofs.FoundLaws.{home_none, home_twice}
use Rattle.item_moves.proofs.SweepLaws.{settled_more, kept_more, only_one}
use Rattle.item_moves.proofs.SweepAllLaws.{aimed_still, in_take, no_one, not_before, same_chunks, swept_more, swept_none, swept_open}
use Rattle.item_moves.proofs.sweeping.sweep_all.Goals as goal

pub loop-from-init : goal.loop-from-init
loop-from-init g c = record {
  homed = c.requires.homed;
  home = home_none (g.A.Aims.leaf c.args.aims.now) c.args.homes.now;
  swept = swept_none (g.L.LeafLists.store c.args.lists.now);
  settled = λ h. h;
  kept = λ x h. h;
  capacity = omega arith;
  known = λ l k x h. h;
  borne = λ f h. h;
}

pub sweep_list-requires-clause-takes : goal.sweep_list-requires-clause-takes
sweep_list-requires-clause-takes g c =
    let splits : List ℕ = c.args.splits.now in
    let i : ℕ = c.loop-from.from-index in
    let from : ℕ = get_or splits i 0 in
    swept_open (g.L.LeafLists.store c.args.lists.now) (g.L.LeafLists.store c.loop-from.lists) (take i splits) c.loop-from.invariant.swept from
    (not_before splits i c.requires.apart c.loop-from-test.true) (c.requires.takes from (Contains-get_or splits i 0 c.loop-from-test.true))

pub sweep_list-requires-clause-aimed : goal.sweep_list-requires-clause-aimed
sweep_list-requires-clause-aimed g c =
    let splits : List ℕ = c.args.splits.now in
    let i : ℕ = c.loop-from.from-index in (
      splits,
      Contains-get_or splits i 0 c.loop-from-test.true,
      aimed_still (g.L.LeafLists.store c.args.lists.now) (g.L.LeafLists.store c.loop-from.lists) (g.A.Aims.leaf c.args.aims.now)
          (g.A.Aims.covers c.args.aims.now) (g.A.Aims.guest c.args.aims.now)
          c.args.homes.now c.loop-from.homes splits (take i splits) c.requires.aimed c.loop-from.invariant.swept c.requires.takes
          (in_take splits i) c.loop-from.invariant.home,
    )

pub sweep_list-requires-clause-room : goal.sweep_list-requires-clause-room
sweep_list-requires-clause-room g c =
    let splits : List ℕ = c.args.splits.now in
    let i : ℕ = c.loop-from.from-index in
    let from : ℕ = get_or splits i 0 in
    let s : Store = g.L.LeafLists.store c.args.lists.now in
    let t : Store = g.L.LeafLists.store c.loop-from.lists in
    let same : length (chunks_of (row t from)) ≡ length (chunks_of (row s from)) =
    ap length (same_chunks s t (take i splits) c.loop-from.invariant.swept from (not_before splits i c.requires.apart c.loop-from-test.true)) in
    omega (arith, c.requires.room from (Contains-get_or splits i 0 c.loop-from-test.true), c.loop-from.invariant.capacity, same)

pub loop-from-preserved : goal.loop-from-preserved
loop-from-preserved g c =
    let splits : List ℕ = c.args.splits.now in
    let i : ℕ = c.loop-from.from-index in
    let from : ℕ = get_or splits i 0 in
    let rest : List ℕ = drop (i + 1) splits in
    let s : Store = g.L.LeafLists.store c.args.lists.now in
    let t : Store = g.L.LeafLists.store c.loop-from.lists in
    let u : Store = g.L.LeafLists.store c.sweep_list.new.lists in
    let leaf : ℕ → ℕ = g.A.Aims.leaf c.args.aims.now in
    let covers : ℕ → ℕ → Bool = g.A.Aims.covers c.args.aims.now in
    let guest : ℕ → ℕ → Bool = g.A.Aims.guest c.args.aims.now in
    let left : drop i splits ≡ from ∷ rest = drop_more splits i 0 c.loop-from-test.true in
    let done : take (i + 1) splits ≡ take i splits ++ from ∷ [] = take_more splits i 0 c.loop-from-test.true in
    let new : Contains (take i splits) from → ⊥ = not_before splits i c.requires.apart c.loop-from-test.true in
    let among : Contains splits from = Contains-get_or splits i 0 c.loop-from-test.true in
    let o : IsOpen t from = swept_open s t (take i splits) c.loop-from.invariant.swept from new (c.requires.takes from among) in
    let a : AreAimed t leaf covers guest c.loop-from.homes splits =
    aimed_still s t leaf covers guest c.args.homes.now c.loop-from.homes splits (take i splits) c.requires.aimed c.loop-from.invariant.swept c.requires.takes
    (in_take splits i) c.loop-from.invariant.home in
    record {
      homed = c.sweep_list.ensures.homed;
      home = home_twice leaf c.args.homes.now c.loop-from.homes c.sweep_list.new.homes c.loop-from.invariant.home c.sweep_list.ensures.home;
      swept = subst (λ (l : List ℕ). AreSwept s u l) (sym done)
          (swept_more s t (take i splits) c.loop-from.invariant.swept u from c.sweep_list.ensures.swept new);
      settled = λ first. settled_more t u (g.L.LeafLists.knows c.loop-from.lists) leaf covers guest c.loop-from.homes c.sweep_list.new.homes from rest o
          c.sweep_list.ensures.moved c.loop-from.invariant.homed
          (a.admitted from) c.sweep_list.ensures.home c.sweep_list.ensures.swept c.sweep_list.ensures.found
          (subst (AreSettled t leaf covers c.loop-from.homes) left (c.loop-from.invariant.settled first));
      kept = λ x first. kept_more t u (g.L.LeafLists.knows c.loop-from.lists) leaf covers guest c.loop-from.homes c.sweep_list.new.homes from rest o
          c.sweep_list.ensures.moved (g.L.LeafLists.knows c.sweep_list.new.lists) c.sweep_list.ensures.homed
          (λ y can. swept_open t u (from ∷ []) c.sweep_list.ensures.swept (leaf y)
          (λ d. a.apart y (a.admitted from y can) (subst (Contains splits) (sym (only_one from (leaf y) d)) among)) (a.open_leaf y (a.admitted from y can)))
          (λ y can. subst (λ n. y < n) (sym c.sweep_list.ensures.home.many) (a.admitted from y can))
          c.sweep_list.ensures.known x
          (subst (λ (l : List ℕ). IsKept (g.L.LeafLists.knows c.loop-from.lists) leaf covers l x) left (c.loop-from.invariant.kept x first));
      capacity = omega (arith, c.loop-from.invariant.capacity, c.sweep_list.ensures.capacity);
      known = λ l k x h. c.sweep_list.ensures.known l k x (c.loop-from.invariant.known l k x h);
      borne = λ f h. c.sweep_list.ensures.borne f (c.loop-from.invariant.borne f h);
    }

pub returns-clause-kept : goal.returns-clause-kept
returns-clause-kept g c x first =
    let leaf : ℕ → ℕ = g.A.Aims.leaf c.args.aims.now in
    let covers : ℕ → ℕ → Bool = g.A.Aims.covers c.args.aims.now in
    let none : IsKept (g.L.LeafLists.knows c.loop-from.lists) leaf covers [] x =
    subst (λ (l : List ℕ). IsKept (g.L.LeafLists.knows c.loop-from.lists) leaf covers l x)
    (drop_all c.loop-from.from-index c.args.splits.now c.loop-from-test.false) (c.loop-from.invariant.kept x first) in
    elim none [ inl stands ↦ stands | inr other ↦ absurd (no_one other.0 other.1) ]
