-- A clear is one step of the machine, or the last one with the end of the clearing.
use Rattle.std.proofs.Common.{◌≡◌, ℕ, zero, suc, ◌+◌, ◌-◌, ◌*◌, ◌/◌, ◌%◌, ◌<◌, ◌≤◌, ◌≢◌, Bool, true, false, cond, List, [], ◌∷◌, ◌++◌, length, take, refl, sym, ap, ◌∙◌, subst, arith}
use Rattle.std.specs.Prelude.{Some, ◌==◌, ◌||◌, ◌&&◌, nat_lt, slice_index}
use Rattle.std.specs.List.{list_all}
use Rattle.std.proofs.lemmas.Option.{same_Some}
use Rattle.std.proofs.lemmas.Bool.Decides.{nat_tests}
use Rattle.list_machine.specs.Words.{blank}
use Rattle.list_machine.specs.State.{put_link, put_slot}
use Rattle.list_machine.specs.Facts.{IsAt, place_of}
use Rattle.list_machine.specs.Rule.{IsBegun}
use Rattle.list_machine.specs.Machine.{State, state, IsSound, Step, first_clears, slot_clears, link_clears, clearing_ends, Run, none, more}
use Rattle.list_machine.specs.Moves.{leaf_in, chunk_count, ended_if, first_cleared, more_cleared, cleared_by, cleared_in, word_cleared, is_clearing, is_clearing_at, may_begin, last_begun, HaveWordsLeft}
use Rattle.list_machine.specs.Steps.{HasEnded, IsUnreached, with_leaf, with_stage, after_first_clear}
use Rattle.list_machine.specs.declared.views.LinkWord.TheVariants.{OfList, OfChunk}
use Rattle.list_machine.specs.declared.views.Stage.{Stage}
use Rattle.list_machine.specs.declared.views.Stage.TheVariants.{Open, Swept, Cleared}
use Rattle.list_machine.specs.declared.views.Leaf.{Leaf}
use Rattle.list_machine.proofs.Lists.{at_set_same, index_is, index_at}
use Rattle.list_machine.proofs.Moves.{leaf_is, leaf_here}

-- one more word is cleared, and with the last one the clearing ends
module _ (s t : State) (l p n : ℕ) (a : Leaf) (step : Step s t) (at : IsAt t.owner.book.leaves l a) (stage : a.stage ≡ Cleared p n) where
  ending : (b : Bool) → (b ≡ true → n ≡ 257 * chunk_count a + 1) → Run s (ended_if b t l)
  ending false last = more s t none step
  ending true last =
      let is : a ≡ leaf_in t l = leaf_is t l a at in
      more t (ended_if true t l) (more s t none step) (clearing_ends l p n (leaf_in t l) (leaf_here t l a at) (ap (λ (e : Leaf). e.stage) (sym is) ∙ stage) (last refl ∙ ap (λ (e : Leaf). 257 * chunk_count e + 1) is))

some_chunk : (n : ℕ) → nat_lt 0 n ≡ true → 0 < n
some_chunk n e = grind (arith, nat_tests)

pub and_both : (a b : Bool) → (a && b) ≡ true → (a ≡ true) × (b ≡ true)
and_both true b e = (refl, e)
and_both false b e = absurd (cc)

no_chunks : (a : Leaf) → nat_lt 0 (chunk_count a) ≡ false → (a.claimed ≡ []) × (a.owned ≡ [])
no_chunks a e = by a.claimed a.owned e where
  by : (xs ys : List ℕ) → nat_lt 0 (length (xs ++ ys)) ≡ false → (xs ≡ []) × (ys ≡ [])
  by [] [] e = (refl, refl)
  by [] (y ∷ ys) e = absurd (grind (arith, nat_tests))
  by (x ∷ xs) ys e = absurd (grind (arith, nat_tests))

none_out : (out : List ℕ) (n b : ℕ) → list_all (λ k. k == 0) (take n out) ≡ true → b < n → slice_index out b ≡ 0
none_out [] n b e lt = refl
none_out (x ∷ xs) zero b e lt = absurd (omega arith)
none_out (x ∷ xs) (suc n) zero e lt = let t = and_both (x == 0) (list_all (λ k. k == 0) (take n xs)) e in let is = t.0 in grind (arith, nat_tests)
none_out (x ∷ xs) (suc n) (suc b) e lt = let t = and_both (x == 0) (list_all (λ k. k == 0) (take n xs)) e in none_out xs n b t.1 (omega arith)

module _ (s : State) (sound : IsSound s) (left : HaveWordsLeft s.owner.book.leaves) where
  more_run : (l p n : ℕ) → IsAt s.owner.book.leaves l (leaf_in s l) → (leaf_in s l).stage ≡ Cleared p n → 0 < chunk_count (leaf_in s l) → Run s (more_cleared s l p n)
  more_run l p n at stage some =
      let a : Leaf = leaf_in s l in
      let bound = left l p n a at stage some in
      by a (slice_index (a.claimed ++ a.owned) ((n - 1) / 257)) (index_at (a.claimed ++ a.owned) ((n - 1) / 257) (omega arith)) bound.0 ((n - 1) % 257 == 256) refl at stage where
        by : (a : Leaf) (c : ℕ) → IsAt (a.claimed ++ a.owned) ((n - 1) / 257) c → 1 ≤ n → (b : Bool) → ((n - 1) % 257 == 256) ≡ b → IsAt s.owner.book.leaves l a → a.stage ≡ Cleared p n
            → Run s (ended_if (n == 257 * chunk_count a) (state (cond b (put_link s.words l (OfChunk c) 0) (put_slot s.words c ((n - 1) % 257) blank)) (with_leaf s.owner l (with_stage a (Cleared p (suc n)))) s.guests) l)
        by a c here low true e at stage =
            let full : (n - 1) % 257 ≡ 256 = grind (arith, nat_tests) in
            ending s (state (put_link s.words l (OfChunk c) 0) (with_leaf s.owner l (with_stage a (Cleared p (suc n)))) s.guests) l p (suc n) (with_stage a (Cleared p (suc n)))
            (link_clears l p n ((n - 1) / 257) c a at stage here (omega arith)) (at_set_same s.owner.book.leaves l a (with_stage a (Cleared p (suc n))) at) refl (n == 257 * chunk_count a) (λ is. let z : n ≡ 257 * chunk_count a = grind (arith, nat_tests) in omega arith)
        by a c here low false e at stage =
            let ne : (n - 1) % 257 ≢ 256 = λ full. let z : ((n - 1) % 257 == 256) ≡ true = grind (arith, nat_tests) in let no : false ≡ true = sym e ∙ z in absurd (cc) in
            ending s (state (put_slot s.words c ((n - 1) % 257) blank) (with_leaf s.owner l (with_stage a (Cleared p (suc n)))) s.guests) l p (suc n) (with_stage a (Cleared p (suc n)))
            (slot_clears l p n ((n - 1) / 257) c ((n - 1) % 257) a at stage here (omega arith) (omega arith)) (at_set_same s.owner.book.leaves l a (with_stage a (Cleared p (suc n))) at) refl (n == 257 * chunk_count a) (λ is. let z : n ≡ 257 * chunk_count a = grind (arith, nat_tests) in omega arith)

  first_run : (l f m : ℕ) → IsAt s.owner.book.leaves l (leaf_in s l) → (leaf_in s l).stage ≡ Swept s.owner.book.cleared f m → HasEnded s.owner.book → IsUnreached s.owner → Run s (first_cleared s l)
  first_run l f m at stage ended unreached =
      let a : Leaf = leaf_in s l in
      ending s (state (put_link s.words l OfList 0) (after_first_clear s.owner l a) s.guests) l s.owner.book.cleared 1 (with_stage a (Cleared s.owner.book.cleared 1))
      (first_clears l f m a at stage ended unreached) (at_set_same s.owner.book.leaves l a (with_stage a (Cleared s.owner.book.cleared 1)) at) refl (chunk_count a == 0) (λ is. let z : chunk_count a ≡ 0 = grind (arith, nat_tests) in omega arith)

  -- the list whose clearing began last has no chains
  has_ended : is_clearing s ≡ false → HasEnded s.owner.book
  has_ended idle l p n a at stage last =
      let here : IsAt s.owner.book.order p l = sound.shape.order.places l p a at (ap place_of stage) in
      let before : s.owner.book.cleared - 1 ≡ p = omega arith in
      let is : last_begun s ≡ l = ap (slice_index s.owner.book.order) before ∙ index_is s.owner.book.order p l here in
      let same : leaf_in s (last_begun s) ≡ a = ap (leaf_in s) is ∙ sym (leaf_is s l a at) in
      let test : Leaf → Bool = λ e. is_clearing_at e.stage (chunk_count e) in
      let clearing : test (leaf_in s (last_begun s)) ≡ nat_lt 0 (chunk_count a) = ap test same ∙ ap (λ (t : Stage). is_clearing_at t (chunk_count a)) stage in
      let some : nat_lt 0 s.owner.book.cleared ≡ true = grind (arith, nat_tests) in
      let off : nat_lt 0 (chunk_count a) ≡ false = sym clearing ∙ (ap (λ b. b && test (leaf_in s (last_begun s))) (sym some) ∙ idle) in
      no_chunks a off

  unreached : list_all (λ n. n == 0) (take (suc s.owner.book.cleared) s.owner.out) ≡ true → IsUnreached s.owner
  unreached out b le = none_out s.owner.out (suc s.owner.book.cleared) b out (omega arith)

  -- the list at a place in the order of shuts
  listed : (p : ℕ) → p < length s.owner.book.order → IsAt s.owner.book.leaves (slice_index s.owner.book.order p) (leaf_in s (slice_index s.owner.book.order p))
      × (place_of (leaf_in s (slice_index s.owner.book.order p)).stage ≡ Some p)
  listed p lt =
      let t = sound.shape.order.listed p (slice_index s.owner.book.order p) (index_at s.owner.book.order p lt) in
      (leaf_here s (slice_index s.owner.book.order p) t.0 t.1, ap (λ (a : Leaf). place_of a.stage) (sym (leaf_is s (slice_index s.owner.book.order p) t.0 t.1)) ∙ t.2)

  -- the clearing of a list goes on
  go_on_run : is_clearing s ≡ true → Run s (cleared_in s (last_begun s))
  go_on_run e =
      let both = and_both (nat_lt 0 s.owner.book.cleared) (is_clearing_at (leaf_in s (last_begun s)).stage (chunk_count (leaf_in s (last_begun s)))) e in
      let some : 0 < s.owner.book.cleared = some_chunk s.owner.book.cleared both.0 in
      let within = sound.shape.order.within_order in
      by (leaf_in s (last_begun s)).stage refl (listed (s.owner.book.cleared - 1) (omega arith)).0 both.1 where
        by : (t : Stage) → (leaf_in s (last_begun s)).stage ≡ t → IsAt s.owner.book.leaves (last_begun s) (leaf_in s (last_begun s)) → is_clearing_at t (chunk_count (leaf_in s (last_begun s))) ≡ true → Run s (cleared_by s (last_begun s) t)
        by Open is at e = absurd (cc)
        by (Swept p f m) is at e = absurd (cc)
        by (Cleared p n) is at e = more_run (last_begun s) p n at is (some_chunk (chunk_count (leaf_in s (last_begun s))) e)

  abbrev next : ℕ
  next = slice_index s.owner.book.order s.owner.book.cleared

  -- nothing is being cleared, and nobody is out who reaches the next list
  next_run : is_clearing s ≡ false → may_begin s ≡ true → Run s (cleared_in s next)
  next_run idle may =
      let both = and_both (nat_lt s.owner.book.cleared (length s.owner.book.order)) (list_all (λ n. n == 0) (take (suc s.owner.book.cleared) s.owner.out)) may in
      let some : s.owner.book.cleared < length s.owner.book.order = let e = both.0 in grind (arith, nat_tests) in
      let t = listed s.owner.book.cleared some in
      by (leaf_in s next).stage refl t.0 t.1 both.1 where
        by : (t : Stage) → (leaf_in s next).stage ≡ t → IsAt s.owner.book.leaves next (leaf_in s next) → place_of (leaf_in s next).stage ≡ Some s.owner.book.cleared
            → list_all (λ n. n == 0) (take (suc s.owner.book.cleared) s.owner.out) ≡ true → Run s (cleared_by s next t)
        by Open is at place out = none
        by (Cleared p n) is at place out =
            let e : p ≡ s.owner.book.cleared = same_Some p _ (ap place_of (sym is) ∙ place) in
            let begun : p < s.owner.book.cleared = subst (IsBegun s.owner.book.cleared) is (sound.shape.order.begun next (leaf_in s next) at) in
            absurd (omega arith)
        by (Swept p f m) is at place out =
            let e : p ≡ s.owner.book.cleared = same_Some p _ (ap place_of (sym is) ∙ place) in
            first_run next f m at (is ∙ ap (λ k. Swept k f m) e) (has_ended idle) (unreached out)

  pub clear_run : (is_clearing s || may_begin s) ≡ true → Run s (word_cleared s)
  clear_run e = by (is_clearing s) refl e where
    by : (b : Bool) → is_clearing s ≡ b → (b || may_begin s) ≡ true → Run s (cleared_in s (cond b (last_begun s) next))
    by true is e = go_on_run is
    by false is e = next_run is e
