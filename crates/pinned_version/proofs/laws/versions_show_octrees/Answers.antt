use Rattle.pinned_version.proofs.VersionLaws.{version_in_order, version_outline}
use Rattle.pinned_version.proofs.laws.versions_show_octrees.Goals as goal

pub returns : goal.returns
returns c = record { outline = version_outline; order = version_in_order }
