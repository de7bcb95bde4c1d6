use Rattle.std.proofs.Common.{◌≡◌, ◌<◌, ◌≤◌, length, get_or, Some, ap, sym, subst, ◌∙◌, arith}
use Rattle.std.specs.List.{slice_get}
use Rattle.std.proofs.lemmas.Grind.{common_steps}
use Rattle.std.proofs.lemmas.Option.{get_or_from_slice_get}
use Rattle.list_words.specs.PlainRows.{PlainList}
use Rattle.list_words.specs.Plain.{Plain, chain, chunk_at, list_in}
use Rattle.list_words.specs.PlainKept.{home_of}
use Rattle.list_words.specs.declared.plain_homes.Home.{Home}
use Rattle.list_words.proofs.StoreLaws.{chunk_low, list_is, no_place}
use Rattle.list_words.proofs.plain_lists.PlainLists.slot.Goals as goal

pub returns-in-Some-clause-free : goal.returns-in-Some-clause-free
returns-in-Some-clause-free c = λ nowhere.
    let h : Home = c.index-home.result.now in
    let low : h.list < length c.self.inside.rows.items = grind (arith, common_steps) in
    let at_place : c.in-Some.row.now ≡ get_or c.self.inside.rows.items h.list c.in-Some.row.now = grind (arith, common_steps) in
    let is : c.in-Some.row.now ≡ list_in c.self.inside.rows.items h.list = list_is c.self.inside.rows.items h.list c.in-Some.row.now low at_place in
    c.slot.ensures.elsewhere (λ at. no_place c.args.self.now c.args.chunk nowhere h.owned h.list h.rank
    (subst (λ (p : Plain). chunk_at p.lists h.owned h.list h.rank ≡ Some c.args.chunk) c.self.view_is (ap (λ (q : PlainList). slice_get (chain h.owned q) h.rank) (sym is) ∙ at)))

pub returns-in-None-clause-word : goal.returns-in-None-clause-word
returns-in-None-clause-word c = λ owned l r at.
    let here : chunk_at c.self.inside.rows.items owned l r ≡ Some c.args.chunk = subst (λ (p : Plain). chunk_at p.lists owned l r ≡ Some c.args.chunk) (sym c.self.view_is) at in
    let h : c.index-home.result.now ≡ home_of l owned r = c.index-home.ensures ∙ get_or_from_slice_get c.self.inside.homes.items c.args.chunk (home_of l owned r) c.index-home.result.now (c.self.invariant.homed.home owned l r c.args.chunk here) in
    let same : c.index-home.result.now.list ≡ l = ap (λ (x : Home). x.list) h in
    let low : l < length c.self.inside.rows.items = chunk_low c.self.inside.rows.items owned l r c.args.chunk here in
    let high : length c.self.inside.rows.items ≤ c.index-home.result.now.list = grind (arith, common_steps) in
    absurd (omega arith)
