-- What the rows of nodes say.
use Rattle.octree_model.specs.declared.outline.OutlineNode.{OutlineNode}
use Rattle.version_rows.specs.Versions.{NodeRowValue, RoleValue, is_inner, Leaf as LeafValue, Inner as InnerValue}
use Rattle.pinned_version.specs.declared.node_row.NodeRow.{NodeRow}
use Rattle.pinned_version.specs.declared.node_row.Role.{Role}
use Rattle.pinned_version.specs.declared.node_row.Role.TheVariants.{Leaf, Inner}

-- a role without the runs of an inner node
abbrev pub role_of : Role → RoleValue
role_of (Leaf chains) = LeafValue chains
role_of (Inner runs) = InnerValue

-- a row without the runs of an inner node
abbrev pub row_of : NodeRow → NodeRowValue
row_of r = record { path = r.path; cube = r.cube; count = r.count; admitted = r.admitted; role = role_of r.role }

-- the node of a row, as an outline has it
abbrev pub outline_node_of : NodeRow → OutlineNode
outline_node_of r = record { path = r.path; cube = r.cube; inner = is_inner (role_of r.role) }
