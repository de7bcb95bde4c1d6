use Rattle.std.proofs.Common.{◌≡◌, ◌<◌, ◌+◌, List, length, sym, ap, ◌∙◌, subst, arith}
use Rattle.std.proofs.lemmas.List.{length_push}
use Rattle.list_machine.specs.Grants.{granted_in_all}
use Rattle.list_words.proofs.Grants.{granted_in_all-use_grant}
use Rattle.list_words.specs.Filing.{HasGrant, answer, answered}
use Rattle.list_words.specs.declared.leaf_lists.Answer.{Answer}
use Rattle.list_filers.specs.Filers.{shared_name, AreShown}
use Rattle.list_filers.specs.Ways.{IsShown}
use Rattle.list_filers.proofs.Shown.{more_shown, shown_still}
use Rattle.list_filers.proofs.filers.FilerSharedFiler.file.Goals as goal

pub file-filed-requires-clause-granted : goal.file-filed-requires-clause-granted
file-filed-requires-clause-granted g c =
    subst (λ f. HasGrant f.filing c.args.list) (sym c.self.view_is) c.requires.granted

pub push_within-requires : goal.push_within-requires
push_within-requires g c =
    let some = subst (λ f. HasGrant f.filing c.args.list) (sym c.self.view_is) c.requires.granted in
    let room = c.self.invariant.room in
    omega (arith, granted_in_all-use_grant c.args.list c.self.inside.ways.guest.grants some)

pub invariant_of-self : goal.invariant_of-self
invariant_of-self g c =
    let w = c.self.inside.ways in
    let u = c.file-filed.new.self in
    let done = c.file-filed.ensures.filed in
    let some = subst (λ f. HasGrant f.filing c.args.list) (sym c.self.view_is) c.requires.granted in
    let room = c.self.invariant.room in
    let less : granted_in_all u.guest.grants + 1 ≡ granted_in_all w.guest.grants = ap (λ gs. granted_in_all gs + 1) done.grants ∙ granted_in_all-use_grant c.args.list w.guest.grants some in
    let len : length c.push_within.new.values.items ≡ length c.self.inside.answers.items + 1 = ap (λ (xs : List Answer). length xs) c.push_within.ensures.items ∙ length_push c.self.inside.answers.items (answer c.args.list c.args.item c.file-filed.result) in
    let capacity = c.push_within.ensures.capacity in
    record {
      ready = done.ready;
      birth_is = c.self.invariant.birth_is ∙ sym done.later.birth;
      room = omega arith;
      shown = subst (λ xs. AreShown u.guest xs) (sym c.push_within.ensures.items) (more_shown w.guest u.guest c.self.inside.answers.items c.args.list c.args.item c.file-filed.result done.later.knows c.self.invariant.shown done.shown);
    }

pub returns-clause-answered : goal.returns-clause-answered
returns-clause-answered g c =
    let w = c.self.inside.ways in
    let done = c.file-filed.ensures.filed in
    let left = done.grants in
    (λ k. record { name = shared_name (done.lists k); birth = c.self.inside.birth; left = left k; answers = c.push_within.ensures.items k })
    ∙ ap (λ f. answered f.filing c.args.list c.args.item c.file-filed.result) c.self.view_is

pub returns-clause-shown : goal.returns-clause-shown
returns-clause-shown g c = c.file-filed.ensures.filed.shown

pub returns-clause-kept : goal.returns-clause-kept
returns-clause-kept g c = λ l x filed shown.
    shown_still c.self.inside.ways.guest c.file-filed.new.self.guest l x filed c.file-filed.ensures.filed.later.knows (subst (λ f. IsShown f.guest l x filed) (sym c.self.view_is) shown)
