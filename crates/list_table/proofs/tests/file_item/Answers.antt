use Rattle.list_table.proofs.Worked.{place_read}
use Rattle.list_table.proofs.tests.file_item.Goals as goal

pub file-stands-requires-clause-claimed : goal.file-stands-requires-clause-claimed
file-stands-requires-clause-claimed c = place_read c.args.guest.now.guest c.follow-chunk.new.seat.guest c.args.place c.follow-chunk.result c.requires.place c.requires.claim c.follow-chunk.ensures.guest
