use Rattle.std.proofs.Common.{◌≡◌, Bool, true, false, ◌&&◌, ap, sym, subst, refl, ◌∙◌}
use Rattle.std.specs.Bool.{Decides}
use Rattle.std.proofs.lemmas.Bool.Decides.{Decides-eqb, Decides-int_eq}
use Rattle.std.proofs.lemmas.Slice.Eq.{slice_eq-Decides}
use Rattle.cube_math.specs.Points.{PointValue}
use Rattle.cube_math.specs.contracts.point.PointPartialEq.TheImpl.{eq-value}
use Rattle.record_book.specs.KeptBatches.{KeptValue}
use Rattle.record_book.proofs.kept_batch.KeptBatch.is_copy_of.Goals as goal

all_four : (p q r s : Bool) → (p && (q && (r && s))) ≡ true → (p ≡ true) × (q ≡ true) × (r ≡ true) × (s ≡ true)
all_four false q r s e = absurd (cc)
all_four true false r s e = absurd (cc)
all_four true true false s e = absurd (cc)
all_four true true true s e = (refl, refl, refl, e)

same_as_itself : (a : PointValue) → eq-value.it a a ≡ true
same_as_itself a =
    (λ i. (Decides-int_eq a.x a.x).1 refl i && ((Decides-int_eq a.y a.y).1 refl i && ((Decides-int_eq a.z a.z).1 refl i && (Decides-eqb a.rgb a.rgb).1 refl i)))

-- equal points have equal fields
point_eq : (a b : PointValue) → Decides (eq-value.it a b) (a ≡ b)
point_eq a b = (fields, λ e. subst (λ (p : PointValue). eq-value.it a p ≡ true) e (same_as_itself a))
  where
    fields : eq-value.it a b ≡ true → a ≡ b
    fields e =
        let f = all_four _ _ _ _ e in
        (λ i. record {
          x = (Decides-int_eq a.x b.x).0 f.0 i;
          y = (Decides-int_eq a.y b.y).0 f.1 i;
          z = (Decides-int_eq a.z b.z).0 f.2 i;
          rgb = (Decides-eqb a.rgb b.rgb).0 f.3 i;
        })

pub returns : goal.returns
returns c =
    let same = slice_eq-Decides point_eq c.as_slice.result.now c.points.result.now c.eq.result c.eq.ensures in
    let own : c.as_slice.result.now ≡ c.self.inside.points.value.items = c.as_slice.ensures.value ∙ (λ i. (c.deref.ensures i).items) in
    let input : c.self.inside.input ≡ c.args.batch.now.input = c.if-self-input.false ∙ c.input.ensures in (
      λ told. sym c.self.view_is ∙ (λ i. record {
        input = input i;
        loader = c.if-self-loader.false i;
        first = c.if-self-first.false i;
        points = (sym own ∙ same.0 told ∙ c.points.ensures.value) i;
      }),
      λ e. same.1 (own ∙ ap (λ (k : KeptValue). k.points) (c.self.view_is ∙ e) ∙ sym c.points.ensures.value),
    )
