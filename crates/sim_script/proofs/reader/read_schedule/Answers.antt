use Rattle.std.proofs.Common.{◌≡◌, ◌+◌, ◌-◌, ◌∙◌, ℕ, false, length, ap, subst, sym, arith}
use Rattle.sim_script.specs.Turns.{fits}
use Rattle.sim_script.proofs.ScheduleLaws.{IsRead, word_read_behind, bad_word, all_read}
use Rattle.sim_script.proofs.reader.read_schedule.Goals as goal

pub loop-blanks-preserved : goal.loop-blanks-preserved
loop-blanks-preserved c = record {
  place = λ some.
      let ends = c.in-Some.ensures.behind some in
      let shorter = c.in-Some.ensures.shorter in
      let place = c.loop-blanks.invariant.place (omega arith) in
      omega arith;
  read =
      let done = c.loop-blanks.steps.items in
      subst (IsRead c.args.bytes.now (c.loop-blanks.at + c.in-Some.blanks + (length c.in-Some.word.now + 1)) c.in-Some.behind.now) (sym c.in-Ok.ensures)
      (word_read_behind c.args.bytes.now c.loop-blanks.at c.in-Some.blanks c.len.result c.loop-blanks.rest.now done c.in-Some.word.now c.in-Some.behind.now
      c.in-Some-turns_within.turns c.loop-blanks.invariant.read (c.in-Some.ensures.some c.loop-blanks.at) c.in-Some-turns_within.ensures.some
      (c.len.ensures ∙ c.loop-blanks.steps.ok.0) c.in-Some-turns_within.ensures.few);
}

pub returns-in_default-turns_within-clause-fault : goal.returns-in_default-turns_within-clause-fault
returns-in_default-turns_within-clause-fault c =
    let done = c.loop-blanks.steps.items in
    let same : c.len.result ≡ length done = c.len.ensures ∙ c.loop-blanks.steps.ok.0 in
    let bad : fits (1000000 - length done) c.in-Some.word.now ≡ false =
    ap (λ (n : ℕ). fits (1000000 - n) c.in-Some.word.now) (sym same) ∙ c.in_default-turns_within.ensures.none in
    bad_word c.args.bytes.now c.loop-blanks.at c.loop-blanks.rest.now done
    record { at = c.loop-blanks.at + c.in-Some.blanks; text = c.in-Some.word.now } _ c.loop-blanks.invariant.read (c.in-Some.ensures.some c.loop-blanks.at) bad

pub returns-clause-steps : goal.returns-clause-steps
returns-clause-steps c =
    all_read c.args.bytes.now c.loop-blanks.at c.loop-blanks.rest.now c.loop-blanks.steps.items c.loop-blanks.invariant.read
    (c.in_default.ensures.none c.loop-blanks.at)
