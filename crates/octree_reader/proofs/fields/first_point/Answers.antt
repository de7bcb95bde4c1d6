use Rattle.std.proofs.Common.{◌≡◌, Some, ap, sym, rules, w32, to_z, of_z}
use Rattle.std.proofs.lemmas.Int.{to_z-of_z}
use Rattle.octree_reader.specs.Heads.{i32_at, u32_at}
use Rattle.octree_reader.proofs.FieldLaws.{point_back}
use Rattle.octree_reader.proofs.fields.first_point.Goals as goal

pub returns-then-rgb : goal.returns-then-rgb
returns-then-rgb c =
    let x : to_z w32 (of_z w32 c.i32_at.result) ≡ i32_at c.args.bytes.now 0 = search (rules, to_z-of_z) in
    let y : to_z w32 (of_z w32 c.i32_at-then-rgb.result) ≡ i32_at c.args.bytes.now 4 = search (rules, to_z-of_z) in
    let z : to_z w32 (of_z w32 c.i32_at-then-rgb-2.result) ≡ i32_at c.args.bytes.now 8 = search (rules, to_z-of_z) in
    let rgb : c.u32_at-rgb.result ≡ u32_at c.args.bytes.now 12 = search rules in
    λ p rest is e. ap Some (sym (point_back p c.args.bytes.now rest _ _ _ _ is e x y z rgb))
