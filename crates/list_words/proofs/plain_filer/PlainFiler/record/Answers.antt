use Rattle.std.proofs.Common.{◌≡◌, ◌<◌, List, [], ◌∷◌, ◌++◌, ap, sym, subst, ◌∙◌, arith}
use Rattle.list_machine.specs.declared.views.Grant.{Grant}
use Rattle.list_words.specs.declared.leaf_lists.Answer.{Answer}
use Rattle.list_machine.specs.Grants.{granted_in, granted_in_all, use_grant}
use Rattle.list_words.specs.Filing.{Filing, HasGrant, answer, answered, left_after}
use Rattle.list_words.proofs.Grants.{granted_in_all-use_grant, left_after-push}
use Rattle.list_words.proofs.plain_filer.PlainFiler.record.Goals as goal

pub push_within-requires : goal.push_within-requires
push_within-requires c =
    let some : 0 < granted_in c.args.list (left_after c.self.inside.grants.items c.self.inside.answers.items) = subst (λ f. HasGrant f c.args.list) (sym c.self.view_is) c.requires in
    omega (arith, c.self.invariant, granted_in_all-use_grant c.args.list (left_after c.self.inside.grants.items c.self.inside.answers.items) some)

pub invariant_of-self : goal.invariant_of-self
invariant_of-self c =
    let some : 0 < granted_in c.args.list (left_after c.self.inside.grants.items c.self.inside.answers.items) = subst (λ f. HasGrant f c.args.list) (sym c.self.view_is) c.requires in
    let more : left_after c.self.inside.grants.items c.push_within.new.values.items ≡ use_grant c.args.list (left_after c.self.inside.grants.items c.self.inside.answers.items) =
    ap (left_after c.self.inside.grants.items) c.push_within.ensures.items ∙ left_after-push c.self.inside.grants.items c.self.inside.answers.items (answer c.args.list c.args.item c.args.filed) in
    let fewer : granted_in_all (left_after c.self.inside.grants.items c.push_within.new.values.items) ≡ granted_in_all (use_grant c.args.list (left_after c.self.inside.grants.items c.self.inside.answers.items)) = ap granted_in_all more in
    omega (arith, c.self.invariant, fewer, c.push_within.ensures.len, c.push_within.ensures.capacity, granted_in_all-use_grant c.args.list (left_after c.self.inside.grants.items c.self.inside.answers.items) some)

pub returns : goal.returns
returns c =
    ap (λ (answers : List Answer). let f : Filing = record { name = []; birth = c.self.inside.birth; left = left_after c.self.inside.grants.items answers; answers = answers } in f) c.push_within.ensures.items
    ∙ ap (λ (left : List Grant). let f : Filing = record { name = []; birth = c.self.inside.birth; left = left; answers = c.self.inside.answers.items ++ answer c.args.list c.args.item c.args.filed ∷ [] } in f)
    (left_after-push c.self.inside.grants.items c.self.inside.answers.items (answer c.args.list c.args.item c.args.filed))
    ∙ ap (λ f. answered f c.args.list c.args.item c.args.filed) c.self.view_is
