use Rattle.chunk_needs.proofs.LimitLaws.{nodes_of-append, within_before, within_look, within_nothing}
use Rattle.chunk_needs.proofs.laws.beginnings_keep_the_limits.Goals as goal

pub returns : goal.returns
returns c = record { nodes = nodes_of-append; beginning = within_before; look = within_look; nothing = within_nothing }
