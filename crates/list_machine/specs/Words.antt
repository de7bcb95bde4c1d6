-- The words of lists: 64 bits, read as a number below 2 ^ 63 and a top bit.
use Rattle.std.specs.Prelude.{ℕ, suc, ◌+◌, ◌*◌, ◌-◌, ◌%◌, ◌^◌, Bool, true, false, nat_le, ◌&&◌, if◌then◌else◌, Option, Some, None}

-- a word
pub record Word : Type 0 where
  pub value : ℕ
  pub high : Bool

-- the word of these parts
abbrev pub word : ℕ → Bool → Word
word n b = record { value = n; high = b }

-- the word 0
abbrev pub blank : Word
blank = word 0 false

-- the word that a number of 64 bits stands for
abbrev pub decode : ℕ → Word
decode n = word (n % 2 ^ 63) (nat_le (2 ^ 63) n)

-- the number that stands for a word
abbrev pub encode : Word → ℕ
encode w = w.value + (if w.high then 2 ^ 63 else 0)

-- a claim word, whose value counts claims, after one more
abbrev pub one_more : Word → Word
one_more w = word (suc w.value) w.high

-- a claim word of a list that is shut now, or a slot that is marked as moved now
abbrev pub raised : Word → Word
raised w = word w.value true

-- a slot that has an item and was not marked
abbrev pub holding : ℕ → Word
holding item = word (item + 1) false

-- the item of a slot: a number of 32 bits, if it has one
abbrev pub item_in : Word → Option ℕ
item_in w = if nat_le 1 w.value && nat_le w.value (2 ^ 32) then Some (w.value - 1) else None

-- the link to a chunk that has this rank in its chain
abbrev pub link_to : ℕ → ℕ → ℕ
link_to rank chunk = rank * 2 ^ 32 + (chunk + 1)
