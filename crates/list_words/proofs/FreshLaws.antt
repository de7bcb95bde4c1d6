-- Lists that were never opened.
use Rattle.std.proofs.Common.{◌≡◌, ℕ, zero, suc, Bool, true, false, List, [], ◌∷◌, length, Some, ap, refl, sym, ◌∙◌, arith}
use Rattle.std.specs.Prelude.{replicate}
use Rattle.std.specs.List.{slice_get}
use Rattle.std.proofs.lemmas.Bool.{lt-ltb}
use Rattle.std.proofs.lemmas.List.Folds.{sum_by-replicate}
use Rattle.chunk_pool.specs.Numbers.{all_free}
use Rattle.chunk_pool.proofs.HeapLaws.{contains_all_below, len_all_below}
use Rattle.list_words.specs.PlainRows.{PlainList, no_list}
use Rattle.list_words.specs.Plain.{chain, chunk_at, chunk_count, held_chunks, list_in, shut_count}
use Rattle.list_words.specs.PlainKept.{AreHomed, AreOrdered, AreSummed}
use Rattle.list_words.specs.declared.plain_homes.Home.{Home}

fresh_list : (n l : ℕ) → list_in (replicate n no_list) l ≡ no_list
fresh_list zero l = refl
fresh_list (suc n) zero = refl
fresh_list (suc n) (suc l) = fresh_list n l

pub no_chunk_there : (o : Bool) (r c : ℕ) → slice_get (chain o no_list) r ≡ Some c → ⊥
no_chunk_there true r c at = cc
no_chunk_there false r c at = cc

no_chunks : (n : ℕ) (owned : Bool) (l r c : ℕ) → chunk_at (replicate n no_list) owned l r ≡ Some c → ⊥
no_chunks n owned l r c at = no_chunk_there owned r c (sym (ap (λ (q : PlainList). slice_get (chain owned q) r) (fresh_list n l)) ∙ at)

pub homed-fresh : (n chunks : ℕ) (homes : List Home) → chunks ≡ length homes → AreHomed (replicate n no_list) homes (all_free chunks)
homed-fresh n chunks homes size = record {
  home = λ owned l r c at. absurd (no_chunks n owned l r c at);
  taken = λ owned l r c at free. no_chunks n owned l r c at;
  unplaced = λ c small none. contains_all_below chunks c ∙ lt-ltb c chunks small;
  size = size;
}

pub summed-fresh : (n chunks : ℕ) → AreSummed (replicate n no_list) (all_free chunks) 0 0
summed-fresh n chunks = record {
  total = omega (arith, sum_by-replicate chunk_count n no_list, len_all_below chunks);
  held = omega (arith, sum_by-replicate held_chunks n no_list);
  shuts = omega (arith, sum_by-replicate shut_count n no_list);
}

pub ordered-fresh : (lists : List PlainList) → AreOrdered lists [] 0 (0 ∷ []) 0
ordered-fresh lists = record {
  shut = λ p l at. absurd (none p l at);
  begun = omega arith;
  births = refl;
  past = λ b low. absurd (omega arith);
  seats = refl;
}
  where
    none : (p l : ℕ) → slice_get [] p ≡ Some l → ⊥
    none p l at = cc
