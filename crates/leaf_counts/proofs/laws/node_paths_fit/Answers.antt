use Rattle.std.proofs.Common.{◌∙◌, ap, sym}
use Rattle.leaf_counts.specs.declared.counts.Counts.{Counts}
use Rattle.leaf_counts.specs.Nodes.{node_at}
use Rattle.leaf_counts.proofs.CountLaws.{counted_is}
use Rattle.leaf_counts.proofs.LeafLaws.{fits}
use Rattle.leaf_counts.proofs.laws.node_paths_fit.Goals as goal

pub returns : goal.returns
returns c = λ leaf cube points path node low e.
    fits path leaf cube points node low (sym (ap (λ (t : Counts). node_at t path) (counted_is leaf cube points)) ∙ e)
