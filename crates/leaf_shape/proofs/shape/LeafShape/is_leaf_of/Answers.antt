use Rattle.std.proofs.Common.{◌≡◌, ◌∙◌, ◌<◌, Some, ap, arith, sym, subst, get_or, length, true, false, List}
use Rattle.std.specs.Prelude.{is_some}
use Rattle.std.proofs.lemmas.Bool.{and_parts, eqb-true}
use Rattle.leaf_shape.specs.declared.place.Place.{Place}
use Rattle.leaf_shape.specs.Shapes.{IsListOf, ShapeValue}
use Rattle.leaf_shape.proofs.WalkLaws.{hint_holds}
use Rattle.leaf_shape.proofs.shape.LeafShape.is_leaf_of.Goals as goal

pub returns-in-Some-list : goal.returns-in-Some-list
returns-in-Some-list c = λ said.
    let both : (_ ≡ true) × (c.contains.result ≡ true) = and_parts _ _ said in
    let same : c.in-Some-list.latest ≡ c.args.list = eqb-true _ _ both.0 in
    let none : is_some c.index.result.now.below ≡ false = sym c.is_some.ensures ∙ c.if-is_some.false in
    let low : c.args.list < length c.self.inside.places.items = omega (arith, ap length c.deref.ensures.value, c.in-Some.ensures.lookup.3.0) in
    let at : c.in-Some.place.now ≡ get_or c.self.inside.places.items c.args.list c.in-Some.place.now =
    c.in-Some.ensures.lookup.1 ∙ ap (λ (qs : List Place). get_or qs c.args.list c.in-Some.place.now) c.deref.ensures.value in
    let P : ShapeValue → Type 0 = λ s. IsListOf s.cube s.paths c.args.p.now c.args.list in
    subst P c.self.view_is
    (hint_holds c.self.invariant.placed c.args.p.now c.args.list c.in-Some.place.now c.index.result.now (omega (arith, low, c.self.invariant.placed.len)) at
    c.index.ensures none (c.in-Some-list.is ∙ ap Some same) (sym c.contains.ensures ∙ both.1))
