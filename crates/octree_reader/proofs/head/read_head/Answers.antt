use Rattle.std.proofs.Common.{◌≡◌, arith, rules, w32, to_z, of_z, get_or, ◌∙◌}
use Rattle.std.proofs.lemmas.Int.{to_z-of_z}
use Rattle.octree_reader.specs.Heads.{head_leaf, i32_at}
use Rattle.octree_reader.proofs.FieldLaws.{begins, fits_back, fits_named, is_some_by, named_cube, no_some}
use Rattle.octree_reader.proofs.head.read_head.Goals as goal
use Rattle.octree_reader.proofs.head.read_head.Goals.{then-leaf-lt1-via-then-leaf-lt1, then-leaf-lt1-via-else-leaf-lt1+then-leaf-gt-MOST}

pub returns-in_default-clause-fault : goal.returns-in_default-clause-fault
returns-in_default-clause-fault c =
    let x : to_z w32 (of_z w32 c.i32_at.result) ≡ i32_at c.args.bytes.now 5 = search (rules, to_z-of_z) in
    let y : to_z w32 (of_z w32 c.i32_at-2.result) ≡ i32_at c.args.bytes.now 9 = search (rules, to_z-of_z) in
    let z : to_z w32 (of_z w32 c.i32_at-3.result) ≡ i32_at c.args.bytes.now 13 = search (rules, to_z-of_z) in
    let b : c.from-bits.result ≡ get_or c.args.bytes.now 17 0 = search rules in (
      begins c.args.bytes.now c.starts_with.result c.starts_with.ensures.value c.if-not-starts_with.false,
      λ h. no_some c.new.result c.in_default.is (c.new.ensures.fits.1 (fits_back c.args.bytes.now _ (named_cube c.args.bytes.now _ _ _ _ x y z b) h)),
    )

pub returns-then-leaf-lt1-clause-fault : goal.returns-then-leaf-lt1-clause-fault
returns-then-leaf-lt1-clause-fault c =
    let leaf : c.u32_at-leaf.result ≡ head_leaf c.args.bytes.now = search rules in (
      begins c.args.bytes.now c.starts_with.result c.starts_with.ensures.value c.if-not-starts_with.false,
      λ h. elim c.then-leaf-lt1.branch [
        | then-leaf-lt1-via-then-leaf-lt1 w ↦ omega (arith, h.limit.0, w.if-leaf-lt1.true)
        | then-leaf-lt1-via-else-leaf-lt1+then-leaf-gt-MOST w ↦ omega (arith, h.limit.1, w.if-leaf-gt-MOST.true)
      ],
    )

pub returns-clause-head : goal.returns-clause-head
returns-clause-head c =
    let x : to_z w32 (of_z w32 c.i32_at.result) ≡ i32_at c.args.bytes.now 5 = search (rules, to_z-of_z) in
    let y : to_z w32 (of_z w32 c.i32_at-2.result) ≡ i32_at c.args.bytes.now 9 = search (rules, to_z-of_z) in
    let z : to_z w32 (of_z w32 c.i32_at-3.result) ≡ i32_at c.args.bytes.now 13 = search (rules, to_z-of_z) in
    let b : c.from-bits.result ≡ get_or c.args.bytes.now 17 0 = search rules in
    let leaf : c.u32_at-leaf.result ≡ head_leaf c.args.bytes.now = search rules in (
      record {
        signature = begins c.args.bytes.now c.starts_with.result c.starts_with.ensures.value c.if-not-starts_with.false;
        long = omega arith;
        fits = fits_named c.args.bytes.now _ (named_cube c.args.bytes.now _ _ _ _ x y z b) (c.new.ensures.fits.0 (is_some_by c.new.result _ c.in-Some.is));
        limit = (omega (arith, leaf, c.if-leaf-lt1.false), omega (arith, leaf, c.if-leaf-gt-MOST.false));
      },
      c.in-Some.ensures.value ∙ named_cube c.args.bytes.now _ _ _ _ x y z b,
      leaf,
    )
