use Rattle.std.proofs.Common.{List, sym}
use Rattle.voxel_sampler.specs.Nears.{NearValue}
use Rattle.pinned_version.specs.Pinned.{IsInnerRow}
use Rattle.pinned_version.specs.declared.node_row.NodeRow.{NodeRow}
use Rattle.pinned_version.proofs.VersionLaws.{if_none_anyway, leaf_is_not_inner}
use Rattle.pinned_version.proofs.version.Version.inner.Goals as goal

pub returns-in_err-row-clause-none : goal.returns-in_err-row-clause-none
returns-in_err-row-clause-none c =
    if_none_anyway c.from_residual.result ((row : NodeRow) (runs : List (List NearValue)) → IsInnerRow c.args.self.now.nodes c.args.path.now row runs → ⊥)
    (λ row runs is. c.in_err-row.ensures.none row is.row_is)

pub returns-in-Leaf-clause-none : goal.returns-in-Leaf-clause-none
returns-in-Leaf-clause-none c row runs is =
    leaf_is_not_inner c.in_ok-row.row.now row c.in-Leaf.field-0 runs (sym (c.in_ok-row.ensures.only row is.row_is)) c.in-Leaf.is is.role
