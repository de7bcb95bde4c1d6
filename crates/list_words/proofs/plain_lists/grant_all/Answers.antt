use Rattle.std.proofs.Common.{◌≡◌, ◌+◌, ◌<◌, length, get_or, set, ap, sym, subst, ◌∙◌, arith}
use Rattle.std.proofs.lemmas.List.{get_or_default}
use Rattle.list_machine.specs.declared.views.Grant.{Grant}
use Rattle.list_words.specs.Plain.{list_in}
use Rattle.list_words.specs.PlainGrants.{MayGrant}
use Rattle.list_words.specs.PlainRows.{PlainList, granted_list}
use Rattle.list_words.proofs.GrantLaws.{IsGranting, granted_more, granted_none}
use Rattle.list_words.proofs.PlainLaws.{open_within}
use Rattle.list_words.proofs.StoreLaws.{list_is}
use Rattle.list_words.proofs.plain_lists.grant_all.Goals as goal

pub loop-grant-init : goal.loop-grant-init
loop-grant-init c = granted_none _ _ c.requires.takes

pub loop-grant-preserved : goal.loop-grant-preserved
loop-grant-preserved c =
    let g : Grant = get_or c.args.grants.now c.loop-grant.grant-index (record { list = 0; n = 0 }) in
    let may : MayGrant c.loop-grant.rows.items g = c.loop-grant.invariant.ready c.loop-grant.grant-index (record { list = 0; n = 0 }) (omega arith) c.loop-grant-test.true in
    let low : g.list < length c.loop-grant.rows.items = open_within c.loop-grant.rows.items g.list may.takes in
    let is : c.index_mut-row.result.now ≡ list_in c.loop-grant.rows.items g.list = list_is c.loop-grant.rows.items g.list c.index_mut-row.result.now low c.index_mut-row.ensures.value in
    let e : c.grant.new.self ≡ granted_list (list_in c.loop-grant.rows.items g.list) g.n = c.grant.ensures ∙ ap (λ (q : PlainList). granted_list q g.n) is in
    subst (λ (b : PlainList). IsGranting c.args.grants.now c.args.rows.now.items (set c.loop-grant.rows.items g.list b) (c.loop-grant.all + g.n) (c.loop-grant.grant-index + 1)) (sym e)
    (granted_more c.args.grants.now c.args.rows.now.items c.loop-grant.rows.items c.loop-grant.all c.loop-grant.grant-index g c.loop-grant.invariant c.loop-grant-test.true
    (get_or_default c.args.grants.now c.loop-grant.grant-index g (record { list = 0; n = 0 }) c.loop-grant-test.true) c.requires.apart)
