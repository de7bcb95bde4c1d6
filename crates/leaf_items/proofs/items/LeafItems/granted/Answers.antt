use Rattle.std.proofs.Common.{◌≡◌, ◌+◌, ap, arith, length}
use Rattle.leaf_items.specs.Items.{born_of, granted, items_of, owned}
use Rattle.leaf_items.proofs.ItemLaws.{parted}
use Rattle.leaf_items.proofs.items.LeafItems.granted.Goals as goal

pub returns : goal.returns
returns c =
    let parts : owned c.args.self.now c.args.list + granted c.args.self.now c.args.list ≡ length (items_of c.args.self.now c.args.list) =
    parted (items_of c.args.self.now c.args.list) (born_of c.args.self.now c.args.list) in
    let long : length c.items.result.now ≡ length (items_of c.args.self.now c.args.list) = ap length c.items.ensures.items in
    omega (arith, parts, long, c.owned.ensures)
