-- Rows of words of which one number was changed, or that were made longer.
use Rattle.std.proofs.Common.{◌≡◌, ℕ, ◌+◌, ◌-◌, replicate, ◌*◌, ◌<◌, ◌≤◌, inl, inr, List, ◌++◌, length, set, get_or, ap, sym, ◌∙◌, arith, nat_lt, cond}
use Rattle.std.proofs.lemmas.Bool.{cases_lt, lt-ltb, le-ltb}
use Rattle.std.proofs.lemmas.List.{get_or_past, get_or-replicate, length-replicate, get_or-set_same, get_or-set_other}
use Rattle.std.proofs.Math.ListN.{get_or-append}
use Rattle.std.proofs.Math.Seq.{get_or-append_right}
use Rattle.list_machine.specs.Words.{decode}
use Rattle.list_machine.specs.State.{Words, put_slot}
use Rattle.list_machine.proofs.Puts.{putting_slot}
use Rattle.world_words.specs.WordRows.{WordRows, slot_number, words_in}

-- ---- a slot in its row

pub slot_number-low : (slots : List ℕ) (c k : ℕ) → k < 256 → slot_number slots c k ≡ get_or slots (256 * c + k) 0
slot_number-low slots c k low = ap (λ b. cond b (get_or slots (256 * c + k) 0) 0) (lt-ltb k 256 low)

pub slot_number-high : (slots : List ℕ) (c k : ℕ) → 256 ≤ k → slot_number slots c k ≡ 0
slot_number-high slots c k high = ap (λ b. cond b (get_or slots (256 * c + k) 0) 0) (le-ltb k 256 high)

-- no two slots have one place
pub places_apart : (c d k j : ℕ) → k < 256 → j < 256 → 256 * d + j ≡ 256 * c + k → (d ≡ c) × (j ≡ k)
places_apart c d k j low small same = (omega (arith, low, small, same), omega (arith, low, small, same))

-- ---- a slot is written

pub slot_number-here : (slots : List ℕ) (c k n : ℕ) → k < 256 → 256 * c + k < length slots → slot_number (set slots (256 * c + k) n) c k ≡ n
slot_number-here slots c k n low within = slot_number-low (set slots (256 * c + k) n) c k low ∙ get_or-set_same slots (256 * c + k) n 0 within

pub slot_number-else : (slots : List ℕ) (c k n d j : ℕ) → k < 256 → (d ≡ c → j ≡ k → ⊥) → slot_number (set slots (256 * c + k) n) d j ≡ slot_number slots d j
slot_number-else slots c k n d j low other = elim (cases_lt j 256) [
  | inl small ↦
      slot_number-low (set slots (256 * c + k) n) d j small
      ∙ get_or-set_other slots (256 * c + k) (256 * d + j) n 0 (λ same. let both : (d ≡ c) × (j ≡ k) = places_apart c d k j low small same in other both.0 both.1)
      ∙ sym (slot_number-low slots d j small)
  | inr high ↦ slot_number-high (set slots (256 * c + k) n) d j high ∙ sym (slot_number-high slots d j high)
]

-- the words of rows with these slots
abbrev with_slots : WordRows → List ℕ → Words
with_slots r slots = words_in (let q : WordRows = record r { slots = slots } in q)

pub words-slot : (r : WordRows) (c k n : ℕ) → k < 256 → 256 * c + k < length r.slots → with_slots r (set r.slots (256 * c + k) n) ≡ put_slot (words_in r) c k (decode n)
words-slot r c k n low within i = record {
  claim = (words_in r).claim;
  first = (words_in r).first;
  next = (words_in r).next;
  slot = λ d j.
      putting_slot (words_in r).slot c k (decode n) d j (λ w. decode (slot_number (set r.slots (256 * c + k) n) d j) ≡ w)
      (λ same_chunk same_slot. ap (λ g. decode (slot_number (set r.slots (256 * c + k) n) g j)) same_chunk
      ∙ ap (λ h. decode (slot_number (set r.slots (256 * c + k) n) c h)) same_slot
      ∙ ap decode (slot_number-here r.slots c k n low within))
      (λ other. ap decode (slot_number-else r.slots c k n d j low other)) i;
}

-- ---- rows that were made longer, by zeros

abbrev pub zeros : ℕ → List ℕ
zeros n = replicate n 0

pub get_or-zeros : (ns : List ℕ) (n i : ℕ) → get_or (ns ++ zeros n) i 0 ≡ get_or ns i 0
get_or-zeros ns n i = elim (cases_lt i (length ns)) [
  | inl low ↦ get_or-append ns (zeros n) 0 i low
  | inr past ↦ get_or-append_right ns (zeros n) i 0 past ∙ none n (i - length ns) ∙ sym (get_or_past ns i 0 past)
]
  where
    none : (m k : ℕ) → get_or (zeros m) k 0 ≡ 0
    none m k = elim (cases_lt k m) [
      | inl low ↦ get_or-replicate m k 0 0 low
      | inr past ↦ get_or_past (zeros m) k 0 (let high : length (zeros m) ≤ k = omega (arith, length-replicate {A = ℕ} m 0) in high)
    ]

pub words-longer : (r : WordRows) (m n : ℕ) → words_in (let q : WordRows = record r { nexts = r.nexts ++ zeros m; slots = r.slots ++ zeros n } in q) ≡ words_in r
words-longer r m n i = record {
  claim = (words_in r).claim;
  first = (words_in r).first;
  next = λ c. get_or-zeros r.nexts m c i;
  slot = λ c k. decode (cond (nat_lt k 256) (get_or-zeros r.slots n (256 * c + k) i) 0);
}
