-- A clearing that has chunks has a word left to clear, since the last clear frees them.
use Rattle.std.proofs.Common.{◌≡◌, ◌⊎◌, inl, inr, ⊎_elim, ℕ, zero, suc, ◌*◌, ◌<◌, ◌≤◌, ◌≢◌, Bool, true, false, List, [], ◌∷◌, length, set, refl, sym, ap, ◌∙◌, subst, arith}
use Rattle.std.specs.Prelude.{◌==◌, slice_index_or}
use Rattle.std.proofs.lemmas.Bool.Decides.{nat_tests}
use Rattle.list_machine.specs.State.{put_link}
use Rattle.list_machine.specs.Facts.{IsAt}
use Rattle.list_machine.specs.Machine.{State, state, IsSound, Run}
use Rattle.list_machine.specs.Moves.{leaf_in, is_blank, chunk_count, ended_if, cleared_by, cleared_in, next_to_clear, marked_by, filed_if, Move, claiming, filing, reading, placing, adopting, linking, shutting, marking, clearing, splitting, joining, HaveWordsLeft}
use Rattle.list_machine.specs.Steps.{after_first_clear, opening, opening_leaf, with_stage, with_claimed, with_owned, with_one_used, without_chains}
use Rattle.list_machine.specs.declared.views.LinkWord.TheVariants.{OfList}
use Rattle.list_machine.specs.declared.views.Stage.{Stage}
use Rattle.list_machine.specs.declared.views.Stage.TheVariants.{Open, Swept, Cleared}
use Rattle.list_machine.specs.declared.views.Leaf.{Leaf}
use Rattle.list_machine.proofs.Lists.{each_set, at_set}
use Rattle.list_machine.proofs.Seats.{each_granting}
use Rattle.list_machine.proofs.Openings.{all_same}
use Rattle.list_machine.proofs.Moves.{leaf_is, claim_run, file_run, read_run, place_run, adopt_run, link_run, shut_run, mark_run, split_run, join_run}
use Rattle.list_machine.proofs.ClearMoves.{clear_run}

-- each move is a run
pub move_run : (s t : State) → IsSound s → HaveWordsLeft s.owner.book.leaves → Move s t → Run s t
move_run s t sound left (claiming j l v at idle has) = claim_run s j l v at idle has
move_run s t sound left (filing j l r c k x v at mine lt knows) = file_run s j l r c k x v at mine lt knows
move_run s t sound left (reading j l r c from v at out knows found) = read_run s j l r c from v at out knows found
move_run s t sound left (placing l x a at opened room) = place_run s l x a at opened room
move_run s t sound left (adopting l c a at opened free small) = adopt_run s l c a at opened free small
move_run s t sound left (linking l c a at opened free small) = link_run s l c a at opened free small
move_run s t sound left (shutting l a at opened) = shut_run s l a at opened
move_run s t sound left (marking l p f m a at swept some) = mark_run s sound l p f m a at swept some
move_run s t sound left (clearing may) = clear_run s sound left may
move_run s t sound left (splitting gs fit) = split_run s gs fit
move_run s t sound left (joining j v at out) = join_run s j v at out

-- one list has words left, if its clearing has begun and it has chunks
abbrev HasWordsLeft : Leaf → Type 0
HasWordsLeft a = (p n : ℕ) → a.stage ≡ Cleared p n → 0 < chunk_count a → (1 ≤ n) × (n ≤ 257 * chunk_count a)

set_left : (leaves : List Leaf) (l : ℕ) (a : Leaf) → HaveWordsLeft leaves → HasWordsLeft a → HaveWordsLeft (set leaves l a)
set_left leaves l a was new h p n e at = each_set (λ _ (e : Leaf). HasWordsLeft e) leaves l a (λ j b ne old p n. was j p n b old) new h e at p n

open_left : (a b : Leaf) → a.stage ≡ Open → b.stage ≡ a.stage → HasWordsLeft b
open_left a b opened same p n cleared some = let e : Open ≡ Cleared p n = sym opened ∙ (sym same ∙ cleared) in absurd (cc)

swept_left : (a : Leaf) (p f m : ℕ) → a.stage ≡ Swept p f m → HasWordsLeft a
swept_left a p f m swept q n cleared some = let e : Swept p f m ≡ Cleared q n = sym swept ∙ cleared in absurd (cc)

none_left : (a : Leaf) → HasWordsLeft (without_chains a)
none_left a p n cleared some = absurd (omega arith)

-- a clear leaves one, or frees the chunks
ended_left : (b : Bool) (t : State) (leaves : List Leaf) (l : ℕ) (a : Leaf) → t.owner.book.leaves ≡ set leaves l a → HaveWordsLeft leaves → (b ≡ false → HasWordsLeft a)
    → HaveWordsLeft (ended_if b t l).owner.book.leaves
ended_left false t leaves l a is was new = subst HaveWordsLeft (sym is) (set_left leaves l a was (new refl))
ended_left true t leaves l a is was new = λ h p n e at. each_set (λ _ (e : Leaf). HasWordsLeft e) t.owner.book.leaves l (without_chains (leaf_in t l)) others (none_left (leaf_in t l)) h e at p n where
  others : (j : ℕ) (b : Leaf) → j ≢ l → IsAt t.owner.book.leaves j b → HasWordsLeft b
  others j b ne at p n = at_set leaves l j a b _ (subst (λ (es : List Leaf). IsAt es j b) is at) (λ e _. absurd (ne e)) (λ _ old. was j p n b old)

clear_here : (s : State) (l : ℕ) → IsAt s.owner.book.leaves l (leaf_in s l) → HaveWordsLeft s.owner.book.leaves → HaveWordsLeft (cleared_in s l).owner.book.leaves
clear_here s l at was = by (leaf_in s l).stage refl where
  by : (t : Stage) → (leaf_in s l).stage ≡ t → HaveWordsLeft (cleared_by s l t).owner.book.leaves
  by Open is = was
  by (Swept p f m) is = ended_left (chunk_count (leaf_in s l) == 0) (state (put_link s.words l OfList 0) (after_first_clear s.owner l (leaf_in s l)) s.guests) s.owner.book.leaves l
      (with_stage (leaf_in s l) (Cleared s.owner.book.cleared 1)) refl was (λ _ q n e some. let one : 1 ≡ n = cc in (omega arith, omega arith))
  by (Cleared p n) is = ended_left (n == 257 * chunk_count (leaf_in s l)) _ s.owner.book.leaves l
      (with_stage (leaf_in s l) (Cleared p (suc n))) refl was (λ e q k e' some. let more : suc n ≡ k = cc in let bound = was l p n (leaf_in s l) at is some in let ne : (n == 257 * chunk_count (leaf_in s l)) ≡ false = e in grind (arith, nat_tests))

here_or_open : (leaves : List Leaf) (l : ℕ) → IsAt leaves l (slice_index_or leaves l opening_leaf) ⊎ (slice_index_or leaves l opening_leaf ≡ opening_leaf)
here_or_open [] l = inr refl
here_or_open (a ∷ es) zero = inl refl
here_or_open (a ∷ es) (suc l) = here_or_open es l

clear_left : (s : State) (l : ℕ) → HaveWordsLeft s.owner.book.leaves → HaveWordsLeft (cleared_in s l).owner.book.leaves
clear_left s l was = ⊎_elim (λ at. clear_here s l at was) (λ e. subst (λ (a : Leaf). HaveWordsLeft (cleared_by s l a.stage).owner.book.leaves) (sym e) was) (here_or_open s.owner.book.leaves l)

-- each move keeps it
pub move_left : (s t : State) → HaveWordsLeft s.owner.book.leaves → Move s t → HaveWordsLeft t.owner.book.leaves
move_left s t was (claiming j l v at idle has) = was
move_left s t was (filing j l r c k x v at mine lt knows) = by (is_blank (s.words.slot c k)) where
  by : (b : Bool) → HaveWordsLeft (filed_if b s j l c k x).owner.book.leaves
  by true = was
  by false = was
move_left s t was (reading j l r c from v at out knows found) = was
move_left s t was (placing l x a at opened room) = set_left s.owner.book.leaves l (with_one_used (leaf_in s l)) was (open_left (leaf_in s l) (with_one_used (leaf_in s l)) (ap (λ (e : Leaf). e.stage) (sym (leaf_is s l a at)) ∙ opened) refl)
move_left s t was (adopting l c a at opened free small) = set_left s.owner.book.leaves l (with_owned (leaf_in s l) c) was (open_left (leaf_in s l) (with_owned (leaf_in s l) c) (ap (λ (e : Leaf). e.stage) (sym (leaf_is s l a at)) ∙ opened) refl)
move_left s t was (linking l c a at opened free small) = set_left s.owner.book.leaves l (with_claimed (leaf_in s l) c) was (open_left (leaf_in s l) (with_claimed (leaf_in s l) c) (ap (λ (e : Leaf). e.stage) (sym (leaf_is s l a at)) ∙ opened) refl)
move_left s t was (shutting l a at opened) = set_left s.owner.book.leaves l (with_stage (leaf_in s l) (Swept (length s.owner.book.order) (s.words.claim l).value 0)) was (swept_left (with_stage (leaf_in s l) (Swept (length s.owner.book.order) (s.words.claim l).value 0)) (length s.owner.book.order) (s.words.claim l).value 0 refl)
move_left s t was (marking l p f m a at swept some) = by (leaf_in s l).stage where
  by : (t : Stage) → HaveWordsLeft (marked_by s l t).owner.book.leaves
  by Open = was
  by (Swept q g n) = set_left s.owner.book.leaves l (with_stage (leaf_in s l) (Swept q g (suc n))) was (swept_left (with_stage (leaf_in s l) (Swept q g (suc n))) q g (suc n) refl)
  by (Cleared q n) = was
move_left s t was (clearing may) = clear_left s (next_to_clear s) was
move_left s t was (splitting gs fit) = λ l p n e at. each_granting (λ _ (e : Leaf). HasWordsLeft e) s.owner.book.leaves gs 0 (λ i m a is q p n. was i p n a q) l e at p n
move_left s t was (joining j v at out) = was

pub opening_left : (lists : ℕ) → HaveWordsLeft (opening lists).book.leaves
opening_left lists l p n a at cleared some = let is = all_same lists l opening_leaf a at in let e : Open ≡ Cleared p n = ap (λ (b : Leaf). b.stage) is ∙ cleared in absurd (cc)
