use Rattle.version_rows.proofs.VersionLaws.{opening}
use Rattle.version_rows.proofs.laws.opening_version_is_of_no_events.Goals as goal

pub returns : goal.returns
returns c = opening
