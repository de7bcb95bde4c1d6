use Rattle.std.proofs.Common.{◌≡◌, ◌++◌, ◌∷◌, [], rules}
use Rattle.octree_file.specs.Files.{signature}
use Rattle.octree_file.specs.Spelling.{i32_bytes, u32_bytes}
use Rattle.octree_file.proofs.WritingLaws.{six_written}
use Rattle.octree_file.proofs.writing.write_head.Goals as goal

pub returns-clause-bytes : goal.returns-clause-bytes
returns-clause-bytes c =
    let k = c.args.cube.now in
    let s : c.extend_from_slice.new.self.items ≡ c.args.out.now.items ++ signature = search rules in
    let x : c.write_i32.new.out.items ≡ c.extend_from_slice.new.self.items ++ i32_bytes k.ox = search rules in
    let y : c.write_i32-2.new.out.items ≡ c.write_i32.new.out.items ++ i32_bytes k.oy = search rules in
    let z : c.write_i32-3.new.out.items ≡ c.write_i32-2.new.out.items ++ i32_bytes k.oz = search rules in
    let b : c.push.new.self.items ≡ c.write_i32-3.new.out.items ++ k.bits ∷ [] = search rules in
    let l : c.write_u32.new.out.items ≡ c.push.new.self.items ++ u32_bytes c.args.leaf = search rules in
    six_written signature (i32_bytes k.ox) (i32_bytes k.oy) (i32_bytes k.oz) (k.bits ∷ []) (u32_bytes c.args.leaf) _ _ _ _ _ _ _ s x y z b l
