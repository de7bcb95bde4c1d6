-- Numbers of 64 bits as words, after one operation, and the words that a row has.
use Rattle.std.proofs.Common.{◌≡◌, ℕ, ◌+◌, ◌%◌, ◌<◌, ◌≢◌, Bool, true, false, List, get_or, sym, refl, ap, ◌∙◌, arith}
use Rattle.std.specs.Prelude.{nat_le, nat_lt, ◌&&◌}
use Rattle.std.proofs.lemmas.Bool.Decides.{nat_tests}
use mathlib.Core.Logic.{dite}
use native.Mathlib.Decide.{dec_le}
use Rattle.list_machine.specs.Words.{Word, blank, decode, one_more, holding}
use Rattle.list_machine.specs.Layouts.{word_if, words_of, link_place, slot_place}
use Rattle.list_machine.specs.State.{link_at}
use Rattle.list_machine.specs.declared.views.LinkWord.{LinkWord}
use Rattle.list_machine.specs.declared.views.LinkWord.TheVariants.{OfList, OfChunk}
use Rattle.list_machine.proofs.Bits.{word_by_parts}

-- one more claim
pub decode-add : (n : ℕ) → n < 18446744073709551616 → (decode n).value < 9223372036854775807 → decode ((n + 1) % 18446744073709551616) ≡ one_more (decode n)
decode-add n lt few = dite (dec_le 9223372036854775808 n)
    (λ y. word_by_parts _ _ _ _ (omega arith) (let a : nat_le 9223372036854775808 ((n + 1) % 18446744073709551616) ≡ true = grind (arith, nat_tests) in let b : nat_le 9223372036854775808 n ≡ true = grind (arith, nat_tests) in a ∙ sym b))
    (λ no. word_by_parts _ _ _ _ (omega arith) (let a : nat_le 9223372036854775808 ((n + 1) % 18446744073709551616) ≡ false = grind (arith, nat_tests) in let b : nat_le 9223372036854775808 n ≡ false = grind (arith, nat_tests) in a ∙ sym b))

-- an item
pub decode-item : (x : ℕ) → x < 4294967296 → decode (x + 1) ≡ holding x
decode-item x lt = word_by_parts _ _ _ _ (omega arith) (grind (arith, nat_tests))

-- only 0 is blank
pub not_blank : (n : ℕ) → n < 18446744073709551616 → n ≢ 0 → decode n ≢ blank
not_blank n lt ne e =
    let low : (decode n).value ≡ 0 = ap (λ (w : Word). w.value) e in
    let high : nat_le 9223372036854775808 n ≡ false = ap (λ (w : Word). w.high) e in
    let below : n < 9223372036854775808 = grind (arith, nat_tests) in
    ne (omega arith)

here : (b : Bool) (ws : List ℕ) (i : ℕ) → b ≡ true → word_if b ws i ≡ get_or ws i 0
here true ws i e = refl
here false ws i e = absurd (cc)

-- the words of a row
module _ (lists chunks : ℕ) (ws : List ℕ) where
  pub claim_is : (l : ℕ) → l < lists → (words_of lists chunks ws).claim l ≡ decode (get_or ws l 0)
  claim_is l lt = ap decode (here (nat_lt l lists) ws l (grind (arith, nat_tests)))

  pub slot_is : (c k : ℕ) → c < chunks → k < 256 → (words_of lists chunks ws).slot c k ≡ decode (get_or ws (slot_place lists chunks c k) 0)
  slot_is c k lt lt' = ap decode (here (nat_lt c chunks && nat_lt k 256) ws (slot_place lists chunks c k) (grind (arith, nat_tests)))

  pub link_is : (l : ℕ) (from : LinkWord) → l < lists → ((c : ℕ) → from ≡ OfChunk c → c < chunks) → link_at (words_of lists chunks ws) l from ≡ get_or ws (link_place lists l from) 0
  link_is l OfList lt small = here (nat_lt l lists) ws (lists + l) (grind (arith, nat_tests))
  link_is l (OfChunk c) lt small = let below = small c refl in here (nat_lt c chunks) ws (lists + lists + c) (grind (arith, nat_tests))
