use Rattle.std.proofs.Common.{◌≡◌, ◌<◌, ◌+◌, ◌^◌, length, get_or, set, ap, sym, subst, ◌∙◌, arith}
use Rattle.std.proofs.lemmas.List.{get_or_default}
use Rattle.std.proofs.lemmas.List.Elements.{All-get_or}
use Rattle.std.specs.Prelude.{vec_len}
use Rattle.list_machine.specs.Steps.{opening_leaf, with_grant}
use Rattle.list_machine.specs.declared.views.Grant.{Grant}
use Rattle.list_machine.specs.declared.views.Leaf.{Leaf}
use Rattle.world_book.proofs.GrantLaws.{IsGranting, granting_none, granting_more, granting_fits, granting_all}
use Rattle.world_book.proofs.book.grant_all.Goals as goal

pub loop-grant-init : goal.loop-grant-init
loop-grant-init c = granting_none c.args.grants.now c.args.rows.now.items

pub grant-requires : goal.grant-requires
grant-requires c =
    let g : Grant = get_or c.args.grants.now c.loop-grant.grant-index (record { list = 0; n = 0 }) in
    let listed : g.list < vec_len c.args.rows.now = All-get_or (λ (h : Grant). h.list < vec_len c.args.rows.now) c.args.grants.now c.loop-grant.grant-index (record { list = 0; n = 0 }) c.loop-grant-test.true c.requires.lists in
    let within : g.list < length c.loop-grant.rows.items = omega (arith, listed, c.loop-grant.invariant.long, c.args.rows.now.ok.0) in
    let at : get_or c.args.grants.now c.loop-grant.grant-index g ≡ g = get_or_default c.args.grants.now c.loop-grant.grant-index g (record { list = 0; n = 0 }) c.loop-grant-test.true in
    let is : c.index_mut-row.result.now ≡ get_or c.loop-grant.rows.items g.list opening_leaf =
    c.index_mut-row.ensures.value ∙ get_or_default c.loop-grant.rows.items g.list c.index_mut-row.result.now opening_leaf within in
    subst (λ (a : Leaf). a.granted + g.n < 2 ^ 32) (sym is)
    (granting_fits c.args.grants.now c.args.rows.now.items c.loop-grant.rows.items c.loop-grant.grant-index g c.loop-grant.invariant c.loop-grant-test.true at within c.requires.few)

pub loop-grant-preserved : goal.loop-grant-preserved
loop-grant-preserved c =
    let g : Grant = get_or c.args.grants.now c.loop-grant.grant-index (record { list = 0; n = 0 }) in
    let listed : g.list < vec_len c.args.rows.now = All-get_or (λ (h : Grant). h.list < vec_len c.args.rows.now) c.args.grants.now c.loop-grant.grant-index (record { list = 0; n = 0 }) c.loop-grant-test.true c.requires.lists in
    let within : g.list < length c.loop-grant.rows.items = omega (arith, listed, c.loop-grant.invariant.long, c.args.rows.now.ok.0) in
    let at : get_or c.args.grants.now c.loop-grant.grant-index g ≡ g = get_or_default c.args.grants.now c.loop-grant.grant-index g (record { list = 0; n = 0 }) c.loop-grant-test.true in
    let is : c.index_mut-row.result.now ≡ get_or c.loop-grant.rows.items g.list opening_leaf =
    c.index_mut-row.ensures.value ∙ get_or_default c.loop-grant.rows.items g.list c.index_mut-row.result.now opening_leaf within in
    let e : c.grant.new.self ≡ with_grant (get_or c.loop-grant.rows.items g.list opening_leaf) g.n = c.grant.ensures ∙ ap (λ (a : Leaf). with_grant a g.n) is in
    subst (λ (a : Leaf). IsGranting c.args.grants.now c.args.rows.now.items (set c.loop-grant.rows.items g.list a) (c.loop-grant.grant-index + 1)) (sym e)
    (granting_more c.args.grants.now c.args.rows.now.items c.loop-grant.rows.items c.loop-grant.grant-index g c.loop-grant.invariant c.loop-grant-test.true at within)

pub returns-clause-rows : goal.returns-clause-rows
returns-clause-rows c = granting_all c.args.grants.now c.args.rows.now.items c.loop-grant.rows.items c.loop-grant.grant-index c.loop-grant.invariant (omega (arith, c.loop-grant-test.false, c.loop-grant.auto.grant-index-end))
