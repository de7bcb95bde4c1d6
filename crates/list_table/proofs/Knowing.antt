-- What the rule tells of a ledger that may be.
use Rattle.std.proofs.Common.{◌≡◌, true, ℕ, ◌+◌, ◌*◌, ◌<◌, ◌≤◌, ⊎_elim, List, length, arith}
use Rattle.list_machine.specs.Facts.{IsAt, Chain, chain_of, HasChunk, Stands, is_shut}
use Rattle.list_machine.specs.Layouts.{words_of}
use Rattle.list_machine.specs.Steps.{IsSweptPlace}
use Rattle.list_machine.specs.Walks.{IsWalk, WalkedLink}
use Rattle.list_machine.specs.declared.views.Fact.TheVariants.{Item, Link, Closed, Empty}
use Rattle.list_machine.specs.declared.views.LinkWord.{LinkWord}
use Rattle.list_machine.specs.declared.views.Stage.TheVariants.{Swept}
use Rattle.list_machine.specs.declared.views.Leaf.{Leaf}
use Rattle.list_machine.specs.declared.views.Guest.{Guest}
use Rattle.list_machine.proofs.Knowledge.{item_is_swept, closed_is_shut, empty_is_shut}
use Rattle.list_machine.proofs.WalkedLinks.{walk_is_short}
use Rattle.list_table.specs.Ledgers.{Knows}
use Rattle.list_table.specs.Ruled.{IsPossible, IsPossibleGuest}
use Rattle.list_table.specs.declared.views.Ledger.{Ledger}

pub stands_in_chunk : (lists chunks : ℕ) (g : Ledger) → IsPossible lists chunks g → (l c k x : ℕ) → Knows g.owner.facts (Item l c k x) → (a : Leaf) × IsAt g.owner.book.leaves l a × Stands a.stage × HasChunk a c × (k < 256) × (x < 4294967296)
stands_in_chunk lists chunks g p l c k x q =
    let y = p.agrees.sound.known.owner q.0 (Item l c k x) q.1 in
    let holds : ((words_of lists chunks p.words).slot c k).value ≡ x + 1 = y.2.0 in
    let small = p.agrees.items c k in
    let z : Stands y.0.stage × HasChunk y.0 c × (k < 256) = ⊎_elim (λ t. (t.0, t.1.0, t.1.1)) (λ e. absurd (cc)) y.2.1 in
    (y.0, y.1, z.0, z.1, z.2, omega arith)

pub link_stands : (lists chunks : ℕ) (g : Ledger) → IsPossible lists chunks g → (l r c : ℕ) (from : LinkWord) → Knows g.owner.facts (Link l from r c) → (a : Leaf) × IsAt g.owner.book.leaves l a × Stands a.stage × IsAt a.claimed r c
link_stands lists chunks g p l r c from q =
    let y = p.agrees.sound.known.owner q.0 (Link l from r c) q.1 in
    let z : Stands y.0.stage × IsAt y.0.claimed r c = ⊎_elim (λ t. (t.0, t.1.1)) (λ e. absurd (cc)) y.2.1 in (y.0, y.1, z.0, z.1)

pub walks_short : (lists chunks : ℕ) (v : Guest) → IsPossibleGuest lists chunks v → (most : ℕ) (walked : List WalkedLink) → IsWalk v most walked → length walked ≤ most
walks_short lists chunks v p most walked walk = walk_is_short (words_of lists chunks p.words) p.ledger.owner p.guests p.number most v walked p.agrees.sound p.at walk

pub swept_place : (lists chunks : ℕ) (g : Ledger) → IsPossible lists chunks g → (l c k x p f m : ℕ) (a : Leaf) → Knows g.owner.facts (Item l c k x) → IsAt g.owner.book.leaves l a → a.stage ≡ Swept p f m
    → (y : Chain) × (r : ℕ) × IsAt (chain_of a y) r c × (k < 256) × IsSweptPlace a f y (256 * r + k)
swept_place lists chunks g may l c k x p f m a q leaf shut = item_is_swept (words_of lists chunks may.words) g.owner may.guests may.agrees.sound l c k x p f m q.0 a q.1 leaf shut

pub closed_shut : (lists chunks : ℕ) (g : Ledger) → IsPossible lists chunks g → (l : ℕ) → Knows g.owner.facts (Closed l) → (a : Leaf) × IsAt g.owner.book.leaves l a × (is_shut a.stage ≡ true)
closed_shut lists chunks g p l q = let y = p.agrees.sound.known.owner q.0 (Closed l) q.1 in (y.0, y.1, closed_is_shut (words_of lists chunks p.words) g.owner p.guests p.agrees.sound l q.0 y.0 q.1 y.1)

pub empty_shut : (lists chunks : ℕ) (g : Ledger) → IsPossible lists chunks g → (l c k : ℕ) → Knows g.owner.facts (Empty l c k) → (a : Leaf) × IsAt g.owner.book.leaves l a × (is_shut a.stage ≡ true)
empty_shut lists chunks g p l c k q = let y = p.agrees.sound.known.owner q.0 (Empty l c k) q.1 in (y.0, y.1, empty_is_shut (words_of lists chunks p.words) g.owner p.guests p.agrees.sound l c k q.0 y.0 q.1 y.1)
