use Rattle.std.proofs.Common.{◌≡◌, ◌≤◌, map, take, length, vec_len}
use Rattle.std.specs.Vec.{vec_capacity}
use Rattle.list_filers.specs.Cursors.{fresh_cursor}
use Rattle.list_filers.proofs.cursors.start.Given as goal

abbrev pub invariant-loop-grant : goal.invariant-loop-grant
invariant-loop-grant l = (l.cursors.items ≡ map fresh_cursor (take l.grant-index l.grants)) × (vec_len l.cursors ≡ l.grant-index) × (length l.grants ≤ vec_capacity l.cursors)
