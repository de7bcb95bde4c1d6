use Rattle.std.proofs.Common.{◌/◌, sym, subst}
use Rattle.list_machine.specs.Facts.{IsAt}
use Rattle.list_machine.proofs.Lists.{at_set_same}
use Rattle.list_machine.specs.Steps.{KnowsChunk}
use Rattle.list_words.specs.declared.leaf_lists.Filed.{Filed}
use Rattle.list_filers.specs.Cursors.{cursor_at}
use Rattle.list_filers.specs.Ways.{WaysValue, HasFiled}
use Rattle.list_filers.proofs.Filings.{comes_late, may_go, stands_there, has_filed}
use Rattle.list_filers.proofs.ways.Ways.file_at.Goals as goal

pub returns-in_default-clause-filed : goal.returns-in_default-clause-filed
returns-in_default-clause-filed g c = comes_late c.args.self.now c.claim.new.self c.args.list c.args.item c.requires.ready c.requires.granted c.in_default.ensures.rest c.in_default.ensures.claimed

pub go-chunk-requires-clause-cursor : goal.go-chunk-requires-clause-cursor
go-chunk-requires-clause-cursor g c =
    let d = c.requires.cursor in
    may_go c.args.self.now c.claim.new.self c.args.at c.args.list c.in-Index.place d.0 c.requires.ready c.claim.ensures.rest c.in-Index.ensures.claimed d.1 d.2 d.3

pub put-stands-requires-clause-cursor : goal.put-stands-requires-clause-cursor
put-stands-requires-clause-cursor g c =
    let d = c.requires.cursor in
    let here = subst (λ (z : WaysValue). IsAt z.cursors c.args.at d.0) (sym c.claim.ensures.rest) d.1 in (
      c.args.at,
      subst (λ cs. IsAt cs c.args.at (cursor_at c.args.list (c.in-Index.place / 256) c.go-chunk.result)) (sym (stands_there c.claim.new.self c.go-chunk.new.self c.args.at c.args.list (c.in-Index.place / 256) c.go-chunk.result d.0 here d.2 c.go-chunk.ensures.reached))
          (at_set_same c.claim.new.self.cursors c.args.at d.0 (cursor_at c.args.list (c.in-Index.place / 256) c.go-chunk.result) here),
    )

pub returns-clause-filed : goal.returns-clause-filed
returns-clause-filed g c =
    let w = c.args.self.now in
    let y = c.go-chunk.new.self in
    let d = c.requires.cursor in
    let place = c.in-Index.place in
    let known = subst (λ (z : WaysValue). KnowsChunk z.guest c.args.list (place / 256) c.go-chunk.result) c.put-stands.ensures.filed c.put-stands.ensures.known in
    subst (λ (t : WaysValue × Filed). HasFiled w t.0 c.args.list c.args.item t.1) (λ k. (sym c.put-stands.ensures.filed k, sym c.answer.ensures k))
    (has_filed w c.claim.new.self y c.args.at c.args.list place c.go-chunk.result c.args.item c.put-stands.result d.0 c.requires.ready c.requires.granted d.1 d.2 c.claim.ensures.rest c.in-Index.ensures.claimed c.go-chunk.ensures.reached known)
