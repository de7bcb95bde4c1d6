use Rattle.std.proofs.Common.{◌∙◌, ◌/◌, sym, subst}
use Rattle.list_filers.proofs.Walking.{chunk_stays, still_walked, file_grows}
use Rattle.list_machine.specs.Facts.{IsAt}
use Rattle.list_filers.specs.Cursors.{cursor_at}
use Rattle.list_filers.proofs.ways.Ways.put.Goals as goal

pub invariant_of-self : goal.invariant_of-self
invariant_of-self g c = (
  c.file.ensures.name ∙ c.self.invariant.0,
  still_walked c.self.inside.lists.value.lists c.self.inside.lists.value.chunks c.self.inside.walked c.self.inside.seat.guest c.file.new.seat.guest c.self.inside.cursors.items
      (file_grows c.self.inside.seat.guest c.file.new.seat.guest c.args.list c.args.chunk _ c.args.item c.file.result c.file.ensures.guest) c.self.invariant.1,
)

pub returns-clause-known : goal.returns-clause-known
returns-clause-known g c =
    let f = c.self.inside in
    let i = c.requires.cursor.0 in
    let here = subst (λ w. IsAt w.cursors i (cursor_at c.args.list (c.args.place / 256) c.args.chunk)) (sym c.self.view_is) c.requires.cursor.1 in
    chunk_stays f.seat.guest c.file.new.seat.guest c.args.list (c.args.place / 256) c.args.chunk (file_grows f.seat.guest c.file.new.seat.guest c.args.list c.args.chunk _ c.args.item c.file.result c.file.ensures.guest)
    (c.self.invariant.1.stand i (cursor_at c.args.list (c.args.place / 256) c.args.chunk) here).0
