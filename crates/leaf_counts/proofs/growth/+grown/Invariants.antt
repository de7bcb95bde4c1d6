use Rattle.std.proofs.Common.{◌≡◌, ◌-◌, ◌<◌, ◌++◌, map, take, drop, length, sum}
use Rattle.leaf_counts.specs.Growths.{grown, grown_each}
use Rattle.leaf_counts.proofs.GrowthLaws.{size}
use Rattle.leaf_counts.proofs.growth.+grown.Given as goal

abbrev pub decreases-grown : goal.decreases-grown
decreases-grown l = size l.growth

abbrev pub decreases-loop-g : goal.decreases-loop-g
decreases-loop-g l = length l.places - l.g

abbrev pub invariant-loop-g : goal.invariant-loop-g
invariant-loop-g l = record {
  smaller : sum (map size l.growths) < size l.fn.growth;
  done : take l.g l.places ++ grown_each (map grown l.growths) l.children (drop l.g l.places) ≡ grown_each (map grown l.initial.growths) l.initial.children l.initial.places;
}
