-- The links that a filer has walked.
use Rattle.std.specs.Prelude.{◌≡◌, ℕ, ◌<◌, List}
use Rattle.list_machine.specs.Facts.{IsAt}
use Rattle.list_machine.specs.Steps.{KnowsChunk}
use Rattle.list_machine.specs.declared.views.Guest.{Guest}

-- a link that leads to this chunk, which has this rank in the claimed chain of the list
pub record WalkedLink : Type 0 where
  pub list : ℕ
  pub rank : ℕ
  pub chunk : ℕ

-- links that the guest knows, of chunks with numbers below a bound, no two of one list and rank
pub record IsWalk (v : Guest) (chunks : ℕ) (walked : List WalkedLink) : Type 0 where
  pub known : (k : ℕ) (x : WalkedLink) → IsAt walked k x → KnowsChunk v x.list x.rank x.chunk
  pub small : (k : ℕ) (x : WalkedLink) → IsAt walked k x → x.chunk < chunks
  pub apart : (k h : ℕ) (x y : WalkedLink) → IsAt walked k x → IsAt walked h y → x.list ≡ y.list → x.rank ≡ y.rank → k ≡ h
