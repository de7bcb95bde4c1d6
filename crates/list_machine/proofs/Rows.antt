-- A row of words with one number changed.
use Rattle.std.proofs.Common.{◌≡◌, ℕ, ◌+◌, ◌<◌, ◌≤◌, ◌≢◌, Bool, true, false, List, length, get_or, set, refl, ap, ◌∙◌, arith, get_or-set_same, get_or-set_other}
use Rattle.std.specs.Prelude.{nat_lt, ◌&&◌}
use Rattle.std.proofs.lemmas.Bool.Decides.{nat_tests}
use Rattle.list_machine.specs.Words.{Word, decode}
use Rattle.list_machine.specs.State.{zero_words, put_claim, put_slot, put_link}
use Rattle.list_machine.specs.Layouts.{word_count, link_place, slot_place, word_if, words_of}
use Rattle.list_machine.specs.declared.views.LinkWord.{LinkWord}
use Rattle.list_machine.specs.declared.views.LinkWord.TheVariants.{OfList, OfChunk}
use Rattle.list_machine.proofs.Puts.{putting, putting_slot}
use Rattle.list_machine.proofs.Openings.{zeros, zero_list}

same_if : (b : Bool) (ws vs : List ℕ) (i : ℕ) → (b ≡ true → get_or ws i 0 ≡ get_or vs i 0) → word_if b ws i ≡ word_if b vs i
same_if true ws vs i h = h refl
same_if false ws vs i h = refl

here_if : (b : Bool) (ws : List ℕ) (i n : ℕ) → b ≡ true → get_or ws i 0 ≡ n → word_if b ws i ≡ n
here_if true ws i n b e = e
here_if false ws i n b e = absurd (cc)

both_below : (c n k m : ℕ) → (nat_lt c n && nat_lt k m) ≡ true → (c < n) × (k < m)
both_below c n k m h = (grind (arith, nat_tests), grind (arith, nat_tests))

below_both : (c n k m : ℕ) → c < n → k < m → (nat_lt c n && nat_lt k m) ≡ true
below_both c n k m p q = grind (arith, nat_tests)

is_below : (l n : ℕ) → nat_lt l n ≡ true → l < n
is_below l n e = grind (arith, nat_tests)

test_below : (l n : ℕ) → l < n → nat_lt l n ≡ true
test_below l n lt = grind (arith, nat_tests)

module _ (lists chunks : ℕ) (ws : List ℕ) (wide : word_count lists chunks ≤ length ws) where
  -- the parts of the row that a change of the word at i leaves
  claims_same : (i n : ℕ) → ((l : ℕ) → l < lists → l ≢ i) → (h : ℕ) → (words_of lists chunks (set ws i n)).claim h ≡ (words_of lists chunks ws).claim h
  claims_same i n apart h = ap decode (same_if (nat_lt h lists) (set ws i n) ws h (λ b. get_or-set_other ws i h n 0 (apart h (is_below h lists b))))

  firsts_same : (i n : ℕ) → ((l : ℕ) → l < lists → lists + l ≢ i) → (h : ℕ) → (words_of lists chunks (set ws i n)).first h ≡ (words_of lists chunks ws).first h
  firsts_same i n apart h = same_if (nat_lt h lists) (set ws i n) ws (lists + h) (λ b. get_or-set_other ws i (lists + h) n 0 (apart h (is_below h lists b)))

  nexts_same : (i n : ℕ) → ((c : ℕ) → c < chunks → lists + lists + c ≢ i) → (c : ℕ) → (words_of lists chunks (set ws i n)).next c ≡ (words_of lists chunks ws).next c
  nexts_same i n apart c = same_if (nat_lt c chunks) (set ws i n) ws (lists + lists + c) (λ b. get_or-set_other ws i (lists + lists + c) n 0 (apart c (is_below c chunks b)))

  slots_same : (i n : ℕ) → ((c k : ℕ) → c < chunks → k < 256 → slot_place lists chunks c k ≢ i) → (c k : ℕ) → (words_of lists chunks (set ws i n)).slot c k ≡ (words_of lists chunks ws).slot c k
  slots_same i n apart c k = ap decode (same_if (nat_lt c chunks && nat_lt k 256) (set ws i n) ws (slot_place lists chunks c k)
      (λ b. let p = both_below c chunks k 256 b in get_or-set_other ws i (slot_place lists chunks c k) n 0 (apart c k p.0 p.1)))

  pub claim_set : (l n : ℕ) → l < lists → words_of lists chunks (set ws l n) ≡ put_claim (words_of lists chunks ws) l (decode n)
  claim_set l n lt = λ i. record {
    claim = λ h. putting (words_of lists chunks ws).claim l (decode n) h (λ (x : Word). (words_of lists chunks (set ws l n)).claim h ≡ x)
        (λ e. ap decode (here_if (nat_lt h lists) (set ws l n) h n (test_below h lists (omega arith)) (ap (λ (j : ℕ). get_or (set ws l n) j 0) e ∙ get_or-set_same ws l n 0 (omega arith))))
        (λ ne. ap decode (same_if (nat_lt h lists) (set ws l n) ws h (λ _. get_or-set_other ws l h n 0 ne))) i;
    first = λ h. firsts_same l n (λ g lt' e. omega arith) h i;
    next = λ c. nexts_same l n (λ d lt' e. omega arith) c i;
    slot = λ c k. slots_same l n (λ d j lt' lt'' e. omega arith) c k i;
  }

  pub first_set : (l n : ℕ) → l < lists → words_of lists chunks (set ws (lists + l) n) ≡ put_link (words_of lists chunks ws) l OfList n
  first_set l n lt = λ i. record {
    claim = λ h. claims_same (lists + l) n (λ g lt' e. omega arith) h i;
    first = λ h. putting (words_of lists chunks ws).first l n h (λ (x : ℕ). (words_of lists chunks (set ws (lists + l) n)).first h ≡ x)
        (λ e. here_if (nat_lt h lists) (set ws (lists + l) n) (lists + h) n (test_below h lists (omega arith)) (ap (λ (j : ℕ). get_or (set ws (lists + l) n) (lists + j) 0) e ∙ get_or-set_same ws (lists + l) n 0 (omega arith)))
        (λ ne. same_if (nat_lt h lists) (set ws (lists + l) n) ws (lists + h) (λ _. get_or-set_other ws (lists + l) (lists + h) n 0 (λ e. ne (omega arith)))) i;
    next = λ c. nexts_same (lists + l) n (λ d lt' e. omega arith) c i;
    slot = λ c k. slots_same (lists + l) n (λ d j lt' lt'' e. omega arith) c k i;
  }

  pub next_set : (l c n : ℕ) → c < chunks → words_of lists chunks (set ws (lists + lists + c) n) ≡ put_link (words_of lists chunks ws) l (OfChunk c) n
  next_set l c n lt = λ i. record {
    claim = λ h. claims_same (lists + lists + c) n (λ g lt' e. omega arith) h i;
    first = λ h. firsts_same (lists + lists + c) n (λ g lt' e. omega arith) h i;
    next = λ d. putting (words_of lists chunks ws).next c n d (λ (x : ℕ). (words_of lists chunks (set ws (lists + lists + c) n)).next d ≡ x)
        (λ e. here_if (nat_lt d chunks) (set ws (lists + lists + c) n) (lists + lists + d) n (test_below d chunks (omega arith)) (ap (λ (j : ℕ). get_or (set ws (lists + lists + c) n) (lists + lists + j) 0) e ∙ get_or-set_same ws (lists + lists + c) n 0 (omega arith)))
        (λ ne. same_if (nat_lt d chunks) (set ws (lists + lists + c) n) ws (lists + lists + d) (λ _. get_or-set_other ws (lists + lists + c) (lists + lists + d) n 0 (λ e. ne (omega arith)))) i;
    slot = λ d k. slots_same (lists + lists + c) n (λ d j lt' lt'' e. omega arith) d k i;
  }

  pub link_set : (l n : ℕ) (from : LinkWord) → l < lists → ((c : ℕ) → from ≡ OfChunk c → c < chunks) → words_of lists chunks (set ws (link_place lists l from) n) ≡ put_link (words_of lists chunks ws) l from n
  link_set l n OfList lt small = first_set l n lt
  link_set l n (OfChunk c) lt small = next_set l c n (small c refl)

  pub slot_set : (c k n : ℕ) → c < chunks → k < 256 → words_of lists chunks (set ws (slot_place lists chunks c k) n) ≡ put_slot (words_of lists chunks ws) c k (decode n)
  slot_set c k n lt lt' = λ i. record {
    claim = λ h. claims_same (slot_place lists chunks c k) n (λ g lt'' e. omega arith) h i;
    first = λ h. firsts_same (slot_place lists chunks c k) n (λ g lt'' e. omega arith) h i;
    next = λ d. nexts_same (slot_place lists chunks c k) n (λ g lt'' e. omega arith) d i;
    slot = λ d j. putting_slot (words_of lists chunks ws).slot c k (decode n) d j (λ (x : Word). (words_of lists chunks (set ws (slot_place lists chunks c k) n)).slot d j ≡ x)
        (λ e e'. ap decode (here_if (nat_lt d chunks && nat_lt j 256) (set ws (slot_place lists chunks c k) n) (slot_place lists chunks d j) n (below_both d chunks j 256 (omega arith) (omega arith))
        (ap (λ (y : ℕ). get_or (set ws (slot_place lists chunks c k) n) y 0) (λ t. slot_place lists chunks (e t) (e' t)) ∙ get_or-set_same ws (slot_place lists chunks c k) n 0 (omega arith))))
        (λ ne. ap decode (same_if (nat_lt d chunks && nat_lt j 256) (set ws (slot_place lists chunks c k) n) ws (slot_place lists chunks d j)
        (λ b. let p = both_below d chunks j 256 b in get_or-set_other ws (slot_place lists chunks c k) (slot_place lists chunks d j) n 0 (λ e. let p0 = p.0 in let p1 = p.1 in ne (omega arith) (omega arith))))) i;
  }

-- a row of zeros holds the words of the start
zero_if : (b : Bool) (n i : ℕ) → word_if b (zero_list n) i ≡ 0
zero_if true n i = zeros n i
zero_if false n i = refl

pub zero_row : (lists chunks n : ℕ) → words_of lists chunks (zero_list n) ≡ zero_words
zero_row lists chunks n = λ i. record {
  claim = λ l. ap decode (zero_if (nat_lt l lists) n l) i;
  first = λ l. zero_if (nat_lt l lists) n (lists + l) i;
  next = λ c. zero_if (nat_lt c chunks) n (lists + lists + c) i;
  slot = λ c k. ap decode (zero_if (nat_lt c chunks && nat_lt k 256) n (slot_place lists chunks c k)) i;
}
