-- What the rows of words keep.
use Rattle.std.specs.Prelude.{◌≡◌, ◌*◌, length}
use Rattle.world_words.specs.WordRows.{WordRows}
use Rattle.world_words.specs.declared.rows.Rows.TheInside.{Inside}

-- what contracts see of rows of words
abbrev pub rows_of : Inside → WordRows
rows_of a = record { claims = a.claims.items; firsts = a.firsts.items; nexts = a.nexts.items; slots = a.slots.items }

-- each list has its two words, and each chunk that was made its link and its slots
pub record IsEven (a : Inside) : Type 0 where
  pub firsts : length a.firsts.items ≡ length a.claims.items
  pub slots : length a.slots.items ≡ 256 * length a.nexts.items
