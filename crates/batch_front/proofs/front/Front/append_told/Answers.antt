use Rattle.std.proofs.Common.{arith, ap, ◌∙◌, ◌∷◌, [], length}
use Rattle.record_model.specs.Records.{journal, event_of}
use Rattle.std.specs.Prelude.{option_map}
use Rattle.record_model.proofs.RecordLaws.{length-journal}
use Rattle.batch_front.proofs.Passing.{pass_holding, added_pass, one_more}
use Rattle.batch_front.proofs.front.Front.append_told.Goals as goal

pub commit-requires-clause-holding : goal.commit-requires-clause-holding
commit-requires-clause-holding g c =
    let p = c.pass.inside in
    pass_holding (g.V.Chronicle.site p.opening.value.value.value) p.number p.known p.seat.me c.pass.invariant c.args.turn.now.pen.turn (ap (λ v. v.turn) c.pass.view_is ∙ c.requires.pen.1)

pub overflow_add-pass : goal.overflow_add-pass
overflow_add-pass g c =
    let p = c.pass.inside in
    let e = event_of c.args.act (option_map (λ b. b.value) c.args.batch) in
    let one = one_more (λ b. b.value) c.args.act c.args.batch c.args.pass.now.number c.requires.batch in
    let all = length-journal c.args.pass.now.seen ((e, c.args.pass.now.number) ∷ []) in
    let known = c.pass.invariant.known_is in
    let seen = ap (λ v. length (journal v.seen)) c.pass.view_is in
    let room = c.requires.room in
    let n = c.publications.ensures in omega arith

pub invariant_of-pass : goal.invariant_of-pass
invariant_of-pass g c =
    let p = c.pass.inside in
    let e = event_of c.args.act (option_map (λ b. b.value) c.args.batch) in
    let one = one_more (λ b. b.value) c.args.act c.args.batch p.number c.requires.batch in
    let n = c.publications.ensures in
    added_pass (g.V.Chronicle.site p.opening.value.value.value) p.number p.known p.seat.me c.pass.invariant e c.commit.new.seat.me c.commit.ensures.event _ (omega arith)
