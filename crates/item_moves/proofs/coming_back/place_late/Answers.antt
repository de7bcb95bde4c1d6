use Rattle.list_words.specs.declared.leaf_lists.Answer.{Answer}
use Rattle.list_words.specs.declared.leaf_lists.Filed.TheVariants.{At}
use Rattle.item_moves.proofs.FoundLaws.{home_none, home_twice}
use Rattle.item_moves.proofs.HomeLaws.{placed_none, placed_more}
use Rattle.item_moves.proofs.LateLaws.{none_back, back_more}
use Rattle.item_moves.proofs.SweepAllLaws.{aimed_placed}
use Rattle.item_moves.proofs.coming_back.place_late.Goals as goal

-- what a read past the end gives
abbrev first_answer : Answer
first_answer = record { list = 0; item = 0; filed = At 0 0 }

pub loop-answer-init : goal.loop-answer-init
loop-answer-init g c = record {
  homed = c.requires.homed;
  home = home_none (g.A.Aims.leaf c.args.aims.now) c.args.homes.now;
  back = none_back (g.A.Aims.leaf c.args.aims.now) c.args.homes.now;
  placed = placed_none (g.L.LeafLists.store c.args.lists.now);
  known = λ l k x h. h;
  borne = λ f h. h;
}

pub loop-answer-preserved : goal.loop-answer-preserved
loop-answer-preserved g c =
    record {
      homed = c.place_answer.ensures.homed;
      home = home_twice
          (g.A.Aims.leaf c.args.aims.now) c.args.homes.now c.loop-answer.homes c.place_answer.new.homes c.loop-answer.invariant.home
          c.place_answer.ensures.home;
      back = back_more (g.A.Aims.leaf c.args.aims.now) c.loop-answer.homes c.place_answer.new.homes c.args.answers.now c.loop-answer.answer-index first_answer
          c.loop-answer.invariant.back c.place_answer.ensures.home c.loop-answer-test.true c.place_answer.ensures.back;
      placed = placed_more _ _ _ c.loop-answer.invariant.placed c.place_answer.ensures.placed;
      known = λ l k y h. c.place_answer.ensures.known l k y (c.loop-answer.invariant.known l k y h);
      borne = λ f h. c.place_answer.ensures.borne f (c.loop-answer.invariant.borne f h);
    }

pub place_answer-requires-clause-aimed : goal.place_answer-requires-clause-aimed
place_answer-requires-clause-aimed g c =
    aimed_placed (g.L.LeafLists.store c.args.lists.now) (g.L.LeafLists.store c.loop-answer.lists) (g.A.Aims.leaf c.args.aims.now)
    (g.A.Aims.covers c.args.aims.now) (g.A.Aims.guest c.args.aims.now)
    c.args.homes.now c.loop-answer.homes _ c.requires.aimed c.loop-answer.invariant.placed c.loop-answer.invariant.home
