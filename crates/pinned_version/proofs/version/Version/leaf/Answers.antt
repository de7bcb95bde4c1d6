use Rattle.version_rows.specs.Versions.{ChainsValue}
use Rattle.pinned_version.specs.Pinned.{IsLeafRow}
use Rattle.pinned_version.specs.declared.node_row.NodeRow.{NodeRow}
use Rattle.pinned_version.proofs.VersionLaws.{if_none_anyway, leaf_is_not_inner}
use Rattle.pinned_version.proofs.version.Version.leaf.Goals as goal

pub returns-in_err-row-clause-none : goal.returns-in_err-row-clause-none
returns-in_err-row-clause-none c =
    if_none_anyway c.from_residual.result ((row : NodeRow) (chains : ChainsValue) → IsLeafRow c.args.self.now.nodes c.args.path.now row chains → ⊥)
    (λ row chains is. c.in_err-row.ensures.none row is.row_is)

pub returns-in-Inner-clause-none : goal.returns-in-Inner-clause-none
returns-in-Inner-clause-none c row chains is =
    leaf_is_not_inner row c.in_ok-row.row.now chains c.in-Inner.field-0 (c.in_ok-row.ensures.only row is.row_is) is.role c.in-Inner.is
