use Rattle.std.proofs.Common.{◌≡◌, ◌++◌, rules}
use Rattle.octree_file.specs.Spelling.{i32_bytes, u32_bytes}
use Rattle.octree_file.proofs.WritingLaws.{four_written}
use Rattle.octree_file.proofs.writing.write_point.Goals as goal

pub returns : goal.returns
returns c =
    let p = c.args.p.now in
    let x : c.write_i32.new.out.items ≡ c.args.out.now.items ++ i32_bytes p.x = search rules in
    let y : c.write_i32-2.new.out.items ≡ c.write_i32.new.out.items ++ i32_bytes p.y = search rules in
    let z : c.write_i32-3.new.out.items ≡ c.write_i32-2.new.out.items ++ i32_bytes p.z = search rules in
    let rgb : c.write_u32.new.out.items ≡ c.write_i32-3.new.out.items ++ u32_bytes p.rgb = search rules in
    four_written (i32_bytes p.x) (i32_bytes p.y) (i32_bytes p.z) (u32_bytes p.rgb) _ _ _ _ _ x y z rgb
