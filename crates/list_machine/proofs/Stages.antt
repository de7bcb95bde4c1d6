-- What holds of a list by its stage.
use Rattle.std.proofs.Common.{◌≡◌, ℕ, ◌≢◌, Bool, true, false, refl, subst}
use Rattle.list_machine.specs.Words.{Word, word, blank}
use Rattle.list_machine.specs.Facts.{IsAt, is_shut, Stands, Chain, claimed_chain, owned_chain, chain_of, Within}
use Rattle.list_machine.specs.Rule.{IsStanding, IsUnmarked, IsSwept, HoldsAt, IsList}
use Rattle.list_machine.specs.Steps.{with_stage}
use Rattle.list_machine.specs.declared.views.Fact.{Fact}
use Rattle.list_machine.specs.declared.views.Fact.TheVariants.{Item, Link, Closed, Empty}
use Rattle.list_machine.specs.declared.views.LinkWord.TheVariants.{OfList, OfChunk}
use Rattle.list_machine.specs.declared.views.Stage.{Stage}
use Rattle.list_machine.specs.declared.views.Stage.TheVariants.{Open, Swept, Cleared}
use Rattle.list_machine.specs.declared.views.Leaf.{Leaf}
use Rattle.list_machine.proofs.Bits.{word_by_parts}

pub is_open : (t : Stage) → is_shut t ≡ false → t ≡ Open
is_open Open e = refl
is_open (Swept p f m) e = absurd (cc)
is_open (Cleared p n) e = absurd (cc)

pub swept_same : (p f m q g n : ℕ) → Swept p f m ≡ Swept q g n → (p ≡ q) × (f ≡ g) × (m ≡ n)
swept_same p f m q g n e = (cc, cc, cc)

module _ (claim : Word) (first : ℕ) (next : ℕ → ℕ) (slot : ℕ → ℕ → Word) (a : Leaf) where
  pub as_standing : (t : Stage) → Stands t → HoldsAt claim first next slot a t → IsStanding claim first next slot a
  as_standing Open st x = x.0
  as_standing (Swept p f m) st x = x.0
  as_standing (Cleared p n) st x = absurd st

  pub as_open : a.stage ≡ Open → IsList claim first next slot a → IsStanding claim first next slot a × IsUnmarked slot a
  as_open unshut x = subst (HoldsAt claim first next slot a) unshut x.now

  pub as_swept : (p f m : ℕ) → a.stage ≡ Swept p f m → IsList claim first next slot a → IsStanding claim first next slot a × IsSwept claim slot a f m
  as_swept p f m shut x = subst (HoldsAt claim first next slot a) shut x.now

-- a word that is not 0 and has no value has the top bit
pub marked_empty : (x : Word) → x.value ≡ 0 → x ≢ blank → x ≡ word 0 true
marked_empty x e ne = by x.high refl where
  by : (b : Bool) → x.high ≡ b → x ≡ word 0 true
  by true h = word_by_parts _ _ _ _ e h
  by false h = absurd (ne (word_by_parts _ _ _ _ e h))

-- the chains of a list, where only its stage changed
pub stage_chain : (a : Leaf) (t : Stage) (x : Chain) (r c : ℕ) → IsAt (chain_of a x) r c → IsAt (chain_of (with_stage a t) x) r c
stage_chain a t claimed_chain r c p = p
stage_chain a t owned_chain r c p = p

pub stage_chain_was : (a : Leaf) (t : Stage) (x : Chain) (r c : ℕ) → IsAt (chain_of (with_stage a t) x) r c → IsAt (chain_of a x) r c
stage_chain_was a t claimed_chain r c p = p
stage_chain_was a t owned_chain r c p = p

-- a fact is within a list that has at least the chunks of the old one
pub within_more : (a a' : Leaf) → ((x : Chain) (r c : ℕ) → IsAt (chain_of a x) r c → IsAt (chain_of a' x) r c) → (f : Fact) → Within a f → Within a' f
within_more a a' more (Item l c k x) h = ((h.0.0, h.0.1, more h.0.0 h.0.1 c h.0.2), h.1)
within_more a a' more (Link l OfList r c) h = (h.0, more claimed_chain r c h.1)
within_more a a' more (Link l (OfChunk b) r c) h = ((h.0.0, h.0.1, more claimed_chain h.0.0 b h.0.2), more claimed_chain r c h.1)
within_more a a' more (Closed l) h = tt
within_more a a' more (Empty l c k) h = ((h.0.0, h.0.1, more h.0.0 h.0.1 c h.0.2), h.1)
