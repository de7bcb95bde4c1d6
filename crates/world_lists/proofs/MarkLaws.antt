-- The slot that a sweep marks next.
use Rattle.std.proofs.Common.{ℕ, ◌-◌, ◌/◌, ◌%◌, ◌<◌, Bool, cond, inl, inr, sym, subst, arith}
use Rattle.std.proofs.lemmas.Bool.{cases_lt, lt-ltb, le-ltb}
use Rattle.std.proofs.Math.Nat.{mod-lt}
use Rattle.list_machine.specs.Facts.{claimed_chain, owned_chain}
use Rattle.list_machine.specs.Moves.{chunk_at, next_mark}
use Rattle.list_machine.specs.declared.views.Leaf.{Leaf}
use Rattle.world_book.specs.Owners.{HasMark}
use Rattle.world_lists.specs.ListsKept.{IsMade}
use Rattle.world_lists.proofs.KeptLaws.{made-at}

-- it is a slot of a chunk that was made
pub record IsSlot (m : ℕ) (at : ℕ × ℕ) : Type 0 where
  pub chunk : at.0 < m
  pub slot : at.1 < 256

slot_of : (i : ℕ) → i % 256 < 256
slot_of i = mod-lt i (let some : 0 < 256 = omega arith in some)

pub mark_slot : (m : ℕ) (a : Leaf) (h : HasMark a) → IsMade m a → IsSlot m (next_mark a h.found h.marks)
mark_slot m a h made = elim (cases_lt h.marks h.found) [
  | inl low ↦ subst (λ (b : Bool). IsSlot m (cond b (chunk_at a.claimed h.marks, h.marks % 256) (chunk_at a.owned (h.marks - h.found), (h.marks - h.found) % 256))) (sym (lt-ltb h.marks h.found low))
      (record { chunk = made-at m a claimed_chain (h.marks / 256) made (h.claimed low); slot = slot_of h.marks })
  | inr past ↦ subst (λ (b : Bool). IsSlot m (cond b (chunk_at a.claimed h.marks, h.marks % 256) (chunk_at a.owned (h.marks - h.found), (h.marks - h.found) % 256))) (sym (le-ltb h.marks h.found past))
      (record { chunk = made-at m a owned_chain ((h.marks - h.found) / 256) made (h.owned past); slot = slot_of (h.marks - h.found) })
]
