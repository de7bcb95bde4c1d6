use Rattle.leaf_aims.proofs.ListedLaws.{aimed_are}
use Rattle.leaf_aims.proofs.laws.lists_of_leaves_are_aimed.Goals as goal

pub returns : goal.returns
returns g c config before batch point lists path born ended leaf homes splits h homed =
    aimed_are config before batch point lists path born ended (g.L.LeafLists.store c.args.lists.now) leaf homes splits
    (λ points p one other. c.leaves_of_a_point_are_one.ensures config.leaf config.cube points p one other) h (g.L.LeafLists.knows c.args.lists.now) homed
