use Rattle.std.proofs.Common.{ap, ◌∙◌, true, ◌≡◌, get_or, ℕ, set}
use Rattle.item_moves.proofs.HomeLaws.{placed_none, placed_more}
use Rattle.item_moves.proofs.FoundLaws.{home_none, none_found, all_found, found_more, found_same, home_more, aimed, not_aimed}
use Rattle.item_moves.proofs.placing.place_found.Goals as goal
use Rattle.item_moves.proofs.placing.place_found.Goals.{in-Some, in_default}

pub loop-item-init : goal.loop-item-init
loop-item-init g c = record {
  homed = c.requires.homed;
  home = home_none (g.A.Aims.leaf c.args.aims.now) c.args.homes.now;
  found = none_found (g.A.Aims.leaf c.args.aims.now) (g.A.Aims.covers c.args.aims.now c.args.from) c.args.homes.now;
  placed = placed_none (g.L.LeafLists.store c.args.lists.now);
  known = λ l k x h. h;
  borne = λ f h. h;
}

pub loop-item-preserved : goal.loop-item-preserved
loop-item-preserved g c = elim c.match-aim.branch [
  | in-Some w ↦
      let x : ℕ = get_or c.args.found.now c.loop-item.item-index 0 in
      let is : (g.A.Aims.covers c.args.aims.now c.args.from x ≡ true) × (w.in-Some.list ≡ g.A.Aims.leaf c.args.aims.now x) =
      aimed _ _ _ _ c.aim.ensures w.in-Some.is in
      let set_is : w.place_once.new.homes ≡ set c.loop-item.homes x (g.A.Aims.leaf c.args.aims.now x) =
      w.place_once.ensures.home ∙ ap (set c.loop-item.homes x) is.1 in
      rw (w.lists-is, w.homes-is) record {
        homed = w.place_once.ensures.homed;
        home = home_more (g.A.Aims.leaf c.args.aims.now) c.args.homes.now c.loop-item.homes _ x c.loop-item.invariant.home (c.requires.item x is.0) set_is;
        found = found_more (g.A.Aims.leaf c.args.aims.now)
            (g.A.Aims.covers c.args.aims.now c.args.from) c.args.homes.now c.loop-item.homes _ c.args.found.now c.loop-item.item-index
            c.loop-item.invariant.found c.loop-item.invariant.home c.loop-item-test.true (c.requires.item x is.0) set_is;
        placed = placed_more _ _ _ c.loop-item.invariant.placed w.place_once.ensures.placed;
        known = λ l k y h. w.place_once.ensures.known l k y (c.loop-item.invariant.known l k y h);
        borne = λ f h. w.place_once.ensures.borne f (c.loop-item.invariant.borne f h);
      }
  | in_default w ↦
      rw (w.lists-is, w.homes-is) record {
        homed = c.loop-item.invariant.homed;
        home = c.loop-item.invariant.home;
        found = found_same (g.A.Aims.leaf c.args.aims.now)
            (g.A.Aims.covers c.args.aims.now c.args.from) c.loop-item.homes c.args.found.now c.loop-item.item-index
            c.loop-item.invariant.found c.loop-item-test.true (not_aimed _ _ _ c.aim.ensures w.in_default.is);
        placed = c.loop-item.invariant.placed;
        known = c.loop-item.invariant.known;
        borne = c.loop-item.invariant.borne;
      }
]

pub returns-clause-found : goal.returns-clause-found
returns-clause-found g c =
    all_found (g.A.Aims.leaf c.args.aims.now)
    (g.A.Aims.covers c.args.aims.now c.args.from) c.loop-item.homes c.args.found.now c.loop-item.item-index c.loop-item.invariant.found c.loop-item-test.false
