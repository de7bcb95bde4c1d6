use Rattle.std.proofs.Common.{◌≡◌, ap, ◌∙◌, rules}
use Rattle.octree_file.specs.Files.{tree_file}
use Rattle.octree_file.proofs.file.tree_file.Goals as goal

pub returns-clause-file : goal.returns-clause-file
returns-clause-file c =
    let bytes : c.write_tree.new.out.items ≡ tree_file c.args.leaf c.args.cube.now c.args.tree.now = search rules in
    λ points are is. record {
      limit = c.requires.limit;
      cube = c.in_ok-write_head.ensures.cube;
      points = are;
      is = bytes ∙ ap (tree_file c.args.leaf c.args.cube.now) is;
    }
