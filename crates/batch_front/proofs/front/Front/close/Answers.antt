use Rattle.std.proofs.Common.{ap, sym, ◌∙◌}
use Rattle.std.specs.Slots.{slots_items}
use Rattle.batch_front.proofs.Closing.{shows, never_none}
use Rattle.batch_front.proofs.front.Front.close.Goals as goal

pub unreachable-requires : goal.unreachable-requires
unreachable-requires g c =
    let s = c.self.inside.desk.shared in let all = c.gather_all-all in let w = c.close_with-closed in
    let count = c.requires.all ∙ (sym (ap (λ f. f.passes) c.self.view_is) ∙ ap (λ o. o.passes) (sym c.self.invariant.1)) in
    never_none g.V.Chronicle.record g.V.Chronicle.site (g.V.Chronicle.site s.key.value.value) c.args.passes.items all.result.me all.result.id (slots_items w.result.words) (slots_items w.result.slots) all.ensures.gathers s.key.passes count w.ensures.values.2
    c.take-value.result c.take-value.ensures.value c.in-None.is

pub returns-clause-site : goal.returns-clause-site
returns-clause-site g c =
    let s = c.self.inside.desk.shared in let all = c.gather_all-all in let w = c.close_with-closed in
    let count = c.requires.all ∙ (sym (ap (λ f. f.passes) c.self.view_is) ∙ ap (λ o. o.passes) (sym c.self.invariant.1)) in
    (shows g.V.Chronicle.record g.V.Chronicle.site (g.V.Chronicle.site s.key.value.value) c.args.passes.items all.result.me all.result.id (slots_items w.result.words) (slots_items w.result.slots) all.ensures.gathers s.key.passes count w.ensures.values.2
    c.take-value.result c.take-value.ensures.value c.in-Some.value c.in-Some.is).sited ∙ (ap (λ o. g.V.Chronicle.site o.value.value) c.self.invariant.1 ∙ ap (λ f. f.site) c.self.view_is)

pub returns-clause-passes : goal.returns-clause-passes
returns-clause-passes g c =
    let s = c.self.inside.desk.shared in let all = c.gather_all-all in let w = c.close_with-closed in
    let count = c.requires.all ∙ (sym (ap (λ f. f.passes) c.self.view_is) ∙ ap (λ o. o.passes) (sym c.self.invariant.1)) in
    (shows g.V.Chronicle.record g.V.Chronicle.site (g.V.Chronicle.site s.key.value.value) c.args.passes.items all.result.me all.result.id (slots_items w.result.words) (slots_items w.result.slots) all.ensures.gathers s.key.passes count w.ensures.values.2
    c.take-value.result c.take-value.ensures.value c.in-Some.value c.in-Some.is).seen

pub returns-clause-numbers : goal.returns-clause-numbers
returns-clause-numbers g c =
    let s = c.self.inside.desk.shared in let all = c.gather_all-all in let w = c.close_with-closed in
    let count = c.requires.all ∙ (sym (ap (λ f. f.passes) c.self.view_is) ∙ ap (λ o. o.passes) (sym c.self.invariant.1)) in
    (shows g.V.Chronicle.record g.V.Chronicle.site (g.V.Chronicle.site s.key.value.value) c.args.passes.items all.result.me all.result.id (slots_items w.result.words) (slots_items w.result.slots) all.ensures.gathers s.key.passes count w.ensures.values.2
    c.take-value.result c.take-value.ensures.value c.in-Some.value c.in-Some.is).numbers
