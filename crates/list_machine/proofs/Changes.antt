-- A change of one word of a list leaves the words of the others.
use Rattle.std.proofs.Common.{◌≡◌, ℕ, refl, subst, sym}
use Rattle.list_machine.specs.Words.{Word}
use Rattle.list_machine.specs.State.{Words, put_claim, put_slot, put_link}
use Rattle.list_machine.specs.Facts.{IsAt, HasChunk, claimed_chain, LeadsTo}
use Rattle.list_machine.specs.declared.views.LinkWord.{LinkWord}
use Rattle.list_machine.specs.declared.views.LinkWord.TheVariants.{OfList, OfChunk}
use Rattle.list_machine.specs.declared.views.Leaf.{Leaf}
use Rattle.list_machine.proofs.Frames.{Elsewhere}
use Rattle.list_machine.proofs.Puts.{put_else, putting_slot}

pub same_elsewhere : (w : Words) (l : ℕ) (a : Leaf) → Elsewhere w w l a
same_elsewhere w l a = record { claims = λ h ne. refl; firsts = λ h ne. refl; nexts = λ c never. refl; slots = λ c k never. refl }

pub claim_elsewhere : (w : Words) (l : ℕ) (a : Leaf) (x : Word) → Elsewhere w (put_claim w l x) l a
claim_elsewhere w l a x = record { claims = λ h ne. put_else w.claim l x h ne; firsts = λ h ne. refl; nexts = λ c never. refl; slots = λ c k never. refl }

pub slot_elsewhere : (w : Words) (l : ℕ) (a : Leaf) (c k : ℕ) (x : Word) → HasChunk a c → Elsewhere w (put_slot w c k x) l a
slot_elsewhere w l a c k x has = record {
  claims = λ h ne. refl;
  firsts = λ h ne. refl;
  nexts = λ d never. refl;
  slots = λ d j never. putting_slot w.slot c k x d j (λ y. y ≡ w.slot d j) (λ e _. absurd (never (subst (HasChunk a) (sym e) has))) (λ _. refl);
}

pub link_elsewhere : (w : Words) (l : ℕ) (a : Leaf) (from : LinkWord) (r n : ℕ) → LeadsTo a.claimed from r → Elsewhere w (put_link w l from n) l a
link_elsewhere w l a OfList r n to = record { claims = λ h ne. refl; firsts = λ h ne. put_else w.first l n h ne; nexts = λ c never. refl; slots = λ c k never. refl }
link_elsewhere w l a (OfChunk b) r n to = record {
  claims = λ h ne. refl;
  firsts = λ h ne. refl;
  nexts = λ c never. put_else w.next b n c (λ e. never (claimed_chain, to.0, subst (λ (d : ℕ). IsAt a.claimed to.0 d) (sym e) to.2));
  slots = λ c k never. refl;
}

-- the link of a chunk, whichever chain has it
pub next_elsewhere : (w : Words) (l : ℕ) (a : Leaf) (b n : ℕ) → HasChunk a b → Elsewhere w (put_link w l (OfChunk b) n) l a
next_elsewhere w l a b n has = record {
  claims = λ h ne. refl;
  firsts = λ h ne. refl;
  nexts = λ c never. put_else w.next b n c (λ e. never (subst (HasChunk a) (sym e) has));
  slots = λ c k never. refl;
}
