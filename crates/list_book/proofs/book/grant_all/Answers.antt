use Rattle.std.proofs.Common.{◌≡◌, ◌+◌, ◌<◌, length, get_or, map, set, ap, sym, subst, ◌∙◌, arith}
use Rattle.std.proofs.lemmas.List.{get_or_default}
use Rattle.list_machine.specs.declared.views.Grant.{Grant}
use Rattle.list_words.specs.PlainGrants.{MayGrant}
use Rattle.list_book.specs.Books.{BookRow, granted_row, row_at}
use Rattle.list_book.specs.BookKept.{bare_list}
use Rattle.list_book.proofs.GrantLaws.{IsGrantingRows, granting_more, granting_none, may_open}
use Rattle.list_book.proofs.RowLaws.{open_low, row_is}
use Rattle.list_book.proofs.book.grant_all.Goals as goal

pub loop-grant-init : goal.loop-grant-init
loop-grant-init c = granting_none _ _ c.requires.takes c.requires.sized

pub index_mut-row-requires : goal.index_mut-row-requires
index_mut-row-requires c =
    let g : Grant = get_or c.args.grants.now c.loop-grant.grant-index (record { list = 0; n = 0 }) in
    let may : MayGrant (map bare_list c.loop-grant.rows.items) g = c.loop-grant.invariant.bare.ready c.loop-grant.grant-index (record { list = 0; n = 0 }) (omega arith) c.loop-grant-test.true in
    let low : g.list < length c.loop-grant.rows.items = open_low c.loop-grant.rows.items g.list (may_open c.loop-grant.rows.items g may) in
    omega (arith, c.loop-grant.rows.ok.0)

pub loop-grant-preserved : goal.loop-grant-preserved
loop-grant-preserved c =
    let g : Grant = get_or c.args.grants.now c.loop-grant.grant-index (record { list = 0; n = 0 }) in
    let may : MayGrant (map bare_list c.loop-grant.rows.items) g = c.loop-grant.invariant.bare.ready c.loop-grant.grant-index (record { list = 0; n = 0 }) (omega arith) c.loop-grant-test.true in
    let low : g.list < length c.loop-grant.rows.items = open_low c.loop-grant.rows.items g.list (may_open c.loop-grant.rows.items g may) in
    let is : c.index_mut-row.result.now ≡ row_at c.loop-grant.rows.items g.list = row_is c.loop-grant.rows.items g.list c.index_mut-row.result.now low c.index_mut-row.ensures.value in
    let e : c.grant.new.self ≡ granted_row (row_at c.loop-grant.rows.items g.list) g.n = c.grant.ensures ∙ ap (λ (r : BookRow). granted_row r g.n) is in
    subst (λ (b : BookRow). IsGrantingRows c.args.grants.now c.args.rows.now.items (set c.loop-grant.rows.items g.list b) (c.loop-grant.all + g.n) (c.loop-grant.grant-index + 1)) (sym e)
    (granting_more c.args.grants.now c.args.rows.now.items c.loop-grant.rows.items c.loop-grant.all c.loop-grant.grant-index g c.loop-grant.invariant c.loop-grant-test.true
    (get_or_default c.args.grants.now c.loop-grant.grant-index g (record { list = 0; n = 0 }) c.loop-grant-test.true) c.requires.apart may)
