-- Words with their top bit set.
use Rattle.std.proofs.Common.{◌≤◌, ◌*◌, ◌/◌, ◌≡◌, ℕ, ◌+◌, ◌%◌, ◌<◌, Bool, arith, Fits, w64}
use Rattle.std.proofs.lemmas.Bool.Decides.{nat_tests}
use Rattle.std.specs.Int.Bits.{bit_or, bit_and, or_add_and}
use Rattle.std.proofs.lemmas.Nat.Bits.{and_pow}
use Rattle.list_machine.specs.Words.{word, decode, raised}

-- a word is known by its parts
pub word_by_parts : (n m : ℕ) (b c : Bool) → n ≡ m → b ≡ c → word n b ≡ word m c
word_by_parts n m b c e f = λ i. word (e i) (f i)

pub decode-or : (n : ℕ) → n < 18446744073709551616 → decode (bit_or n 9223372036854775808) ≡ raised (decode n)
decode-or n lt =
    let both : bit_or n 9223372036854775808 + bit_and n 9223372036854775808 ≡ n + 9223372036854775808 = or_add_and n 9223372036854775808 in
    let top : bit_and n 9223372036854775808 ≡ n / 9223372036854775808 % 2 * 9223372036854775808 = and_pow n 63 in
    word_by_parts _ _ _ _ (omega arith) (let high : 9223372036854775808 ≤ bit_or n 9223372036854775808 = omega arith in grind (arith, nat_tests))

pub decode-or_high : (n : ℕ) → Fits w64 n → decode (bit_or n 9223372036854775808) ≡ raised (decode n)
decode-or_high n fits = decode-or n (omega arith)
