use Rattle.std.proofs.Common.{◌≡◌, ◌+◌, ◌<◌, ◌≤◌, Option, length, get_or, subst, arith}
use Rattle.std.specs.Prelude.{IfSome, IsTrue}
use Rattle.std.proofs.lemmas.Option.{slice_get-get_or}
use Rattle.record_book.specs.Books.{IsOut}
use Rattle.record_book.specs.KeptBatches.{KeptValue, kept_as, kept_of}
use Rattle.record_book.proofs.SearchLaws.{one_place}
use Rattle.record_book.proofs.ViewLaws.{view_first, view_full}
use Rattle.record_book.proofs.book.RecordBook.find.Goals as goal

pub returns-then-first-self-clause-none : goal.returns-then-first-self-clause-none
returns-then-first-self-clause-none c place out =
    absurd (omega (arith, view_first c.self.inside _ c.self.invariant c.self.view_is place _ out.kept, c.if-first-self.true))

pub returns-else-is_out-clause-none : goal.returns-else-is_out-clause-none
returns-else-is_out-clause-none c place out =
    let wanted : KeptValue = kept_as c.args.batch.now c.args.loader c.args.first in
    let kept = kept_of c.args.self.now.events in
    let at = slice_get-get_or kept c.place_of-place.result wanted c.place_of-place.ensures.place in
    let within = subst (λ (o : Option KeptValue). IfSome o
    (λ (b : KeptValue). (b.first ≤ c.args.first) × (c.args.first < b.first + length b.points))) at c.place_of-place.ensures.item in
    let same : place ≡ c.place_of-place.result =
    one_place c.args.self.now.events c.place_of-place.result place (get_or kept c.place_of-place.result wanted) wanted at out.kept within.0 within.1
    (view_full c.self.inside _ c.self.invariant c.self.view_is place wanted out.kept) in
    let told : IsTrue c.is_out.result = c.is_out.ensures.1 (subst (λ n. IsOut c.args.self.now n wanted) same out) in
    let unequal = c.if-is_out.false in
    cc
