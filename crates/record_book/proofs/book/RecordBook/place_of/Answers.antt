use Rattle.std.proofs.Common.{◌≡◌, ◌-◌, length, ap, ◌∙◌, arith}
use Rattle.record_book.specs.KeptBatches.{kept_of}
use Rattle.record_book.proofs.KeptLaws.{admitted_kept}
use Rattle.record_book.proofs.SearchLaws.{found_begun, found_last, some_batch, some_begun}
use Rattle.record_book.proofs.ViewLaws.{view_batch, view_few_kept, view_kept}
use Rattle.record_book.proofs.book.RecordBook.place_of.Goals as goal

pub overflow_sub-last : goal.overflow_sub-last
overflow_sub-last c =
    let low = admitted_kept c.args.self.now.events in
    let some = some_batch (kept_of c.args.self.now.events) c.args.item (omega (arith, low, c.requires)) in
    omega (arith, some, ap length (view_kept c.self.inside _ c.self.invariant c.self.view_is), c.self.inside.kept.ok.0, c.len-last.ensures)

pub index-requires : goal.index-requires
index-requires c =
    let low = admitted_kept c.args.self.now.events in
    let some = some_batch (kept_of c.args.self.now.events) c.args.item (omega (arith, low, c.requires)) in
    omega (arith, some, ap length (view_kept c.self.inside _ c.self.invariant c.self.view_is), c.self.inside.kept.ok.0, c.len-last.ensures)

pub overflow_cast-result : goal.overflow_cast-result
overflow_cast-result c =
    let few = view_few_kept c.self.inside _ c.self.invariant c.self.view_is in
    omega (arith, few, c.self.inside.kept.ok.0, c.len-last.ensures)

pub returns-then-first-item-clause-place : goal.returns-then-first-item-clause-place
returns-then-first-item-clause-place c =
    let low = admitted_kept c.args.self.now.events in
    let some = some_batch (kept_of c.args.self.now.events) c.args.item (omega (arith, low, c.requires)) in
    omega (arith, some, ap length (view_kept c.self.inside _ c.self.invariant c.self.view_is), c.self.inside.kept.ok.0, c.len-last.ensures)

pub returns-then-first-item-clause-item : goal.returns-then-first-item-clause-item
returns-then-first-item-clause-item c =
    let low = admitted_kept c.args.self.now.events in
    let some = some_batch (kept_of c.args.self.now.events) c.args.item (omega (arith, low, c.requires)) in
    let long : c.len-last.result ≡ length (kept_of c.args.self.now.events) =
    c.len-last.ensures ∙ c.self.inside.kept.ok.0 ∙ ap length (view_kept c.self.inside _ c.self.invariant c.self.view_is) in
    found_last c.args.self.now.events c.args.item (omega (arith, low, c.requires)) (c.len-last.result - 1) c.index.result.now
    (view_batch c.self.inside _ c.self.invariant c.self.view_is (c.len-last.result - 1) c.index.result.now (omega (arith, some, long)) c.index.ensures)
    (omega (arith, some, long)) (omega (arith, c.first.ensures, c.if-first-item.true))

pub overflow_sub-result : goal.overflow_sub-result
overflow_sub-result c =
    some_begun c.args.self.now.events c.args.item
    (omega (arith, admitted_kept c.args.self.now.events, c.requires)) c.begun.result c.begun.ensures.before c.begun.ensures.behind

pub overflow_cast-result-2 : goal.overflow_cast-result-2
overflow_cast-result-2 c =
    let few = view_few_kept c.self.inside _ c.self.invariant c.self.view_is in
    omega (arith, few, ap length (view_kept c.self.inside _ c.self.invariant c.self.view_is), c.begun.ensures.within)

pub returns-clause-place : goal.returns-clause-place
returns-clause-place c =
    let some = some_begun c.args.self.now.events c.args.item
    (omega (arith, admitted_kept c.args.self.now.events, c.requires)) c.begun.result c.begun.ensures.before c.begun.ensures.behind in
    omega (arith, some, c.begun.ensures.within)

pub returns-clause-item : goal.returns-clause-item
returns-clause-item c =
    let low = admitted_kept c.args.self.now.events in
    let some = some_begun c.args.self.now.events c.args.item (omega (arith, low, c.requires)) c.begun.result c.begun.ensures.before c.begun.ensures.behind in
    found_begun c.args.self.now.events c.args.item (omega (arith, low, c.requires)) c.begun.result c.begun.ensures.before c.begun.ensures.behind
    (c.begun.result - 1) (omega (arith, some))
