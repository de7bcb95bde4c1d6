use Rattle.std.proofs.Common.{◌≡◌, false, ◌<◌, ◌≤◌, ◌↔◌, IsTrue, length, get_or, Some, refl, sym, subst, arith}
use Rattle.std.specs.List.{slice_get}
use Rattle.std.proofs.lemmas.Grind.{common_steps}
use Rattle.std.proofs.lemmas.Option.{slice_get_read}
use Rattle.list_words.specs.Plain.{Bears, Plain, StandsAt, list_in}
use Rattle.list_words.specs.declared.leaf_lists.Filed.{Filed}
use Rattle.list_words.proofs.BearLaws.{borne_at_home, nothing_without_home}
use Rattle.list_words.proofs.StoreLaws.{list_is}
use Rattle.list_words.proofs.plain_lists.PlainLists.bears.Goals as goal

pub returns-in-Some-get : goal.returns-in-Some-get
returns-in-Some-get c =
    let low : c.args.answer.now.list < length c.self.inside.rows.items = grind (arith, common_steps) in
    let at_place : c.in-Some.row.now ≡ get_or c.self.inside.rows.items c.args.answer.now.list c.in-Some.row.now = grind (arith, common_steps) in
    let is : c.in-Some.row.now ≡ list_in c.self.inside.rows.items c.args.answer.now.list = list_is c.self.inside.rows.items c.args.answer.now.list c.in-Some.row.now low at_place in
    let low_chunk : c.in-At.chunk < length c.self.inside.homes.items = grind (arith, common_steps) in
    let at_chunk : c.in-Some-get.home.now ≡ get_or c.self.inside.homes.items c.in-At.chunk c.in-Some-get.home.now = grind (arith, common_steps) in
    let home : slice_get c.self.inside.homes.items c.in-At.chunk ≡ Some c.in-Some-get.home.now = slice_get_read c.self.inside.homes.items (length c.self.inside.homes.items) c.in-At.chunk c.in-Some-get.home.now refl low_chunk at_chunk in
    subst (λ (p : Plain). IsTrue c.has_filed.result ↔ Bears (list_in p.lists c.args.answer.now.list) c.args.answer.now.item c.args.answer.now.filed) c.self.view_is
    (borne_at_home c.self.inside.rows.items c.self.inside.homes.items c.self.inside.pool c.args.answer.now.list c.args.answer.now.item c.in-At.chunk c.in-At.slot c.in-Some-get.home.now c.in-Some.row.now
    c.args.answer.now.filed c.has_filed.result c.self.invariant.homed is home c.in-At.is c.has_filed.ensures)

pub returns-in-None : goal.returns-in-None
returns-in-None c =
    let high : length c.self.inside.homes.items ≤ c.in-At.chunk = grind (arith, common_steps) in (
      λ no. absurd (cc),
      λ bears. absurd (nothing_without_home c.self.inside.rows.items c.self.inside.homes.items c.self.inside.pool c.args.answer.now.list c.args.answer.now.item c.in-At.chunk c.in-At.slot c.self.invariant.homed high
          (subst (λ (p : Plain). StandsAt false (list_in p.lists c.args.answer.now.list) c.args.answer.now.item c.in-At.chunk c.in-At.slot) (sym c.self.view_is)
          (subst (λ (f : Filed). Bears (list_in c.args.self.now.lists c.args.answer.now.list) c.args.answer.now.item f) c.in-At.is bears))),
    )
