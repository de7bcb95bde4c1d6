-- A schedule, read word by word.
use Rattle.std.proofs.Common.{◌≡◌, ℕ, ◌+◌, ◌-◌, ◌≤◌, true, false, List, [], ◌∷◌, ◌++◌, length, Some, None, Ok, Err, ap, ◌∙◌, sym, subst, refl, arith}
use Rattle.std.specs.List.{flat_map}
use Rattle.std.proofs.lemmas.Bool.{le-leb}
use Rattle.std.proofs.lemmas.List.{length-append, length-replicate, append-nil, append_assoc}
use Rattle.sim_script.specs.Words.{Word, words, words_from}
use Rattle.sim_script.specs.Turns.{turns_of, fits, steps_of}
use Rattle.sim_script.specs.Schedules.{first_bad, steps_in, steps_unless, schedule}
use Rattle.sim_script.specs.declared.turns.Turns.{Turns}
use Rattle.sim_script.specs.declared.reader.ScheduleFault.TheVariants.{Byte}

-- what is known of a text where these steps are read, and the rest begins at this place
pub record IsRead (bytes : List ℕ) (at : ℕ) (rest done : List ℕ) : Type 0 where
  pub few : length done ≤ 1000000
  pub bad : first_bad 1000000 (words bytes) ≡ first_bad (1000000 - length done) (words_from at rest)
  pub steps : flat_map steps_in (words bytes) ≡ done ++ flat_map steps_in (words_from at rest)

pub nothing_read : (bytes : List ℕ) → IsRead bytes 0 bytes []
nothing_read bytes = record { few = omega arith; bad = refl; steps = refl }

-- a word that fits gives its steps
pub word_read : (bytes : List ℕ) (at : ℕ) (rest steps : List ℕ) (w : Word) (next : ℕ) (behind : List ℕ) (t : Turns)
    → IsRead bytes at rest steps → words_from at rest ≡ w ∷ words_from next behind → turns_of w.text ≡ Some t → t.count ≤ 1000000 - length steps
    → IsRead bytes next behind (steps ++ steps_of t)
word_read bytes at rest steps w next behind t r is turns fit =
    let ok : fits (1000000 - length steps) w.text ≡ true = rw turns (le-leb _ _ fit) in
    let mine : steps_in w ≡ steps_of t = rw turns refl in
    let long : length (steps_of t) ≡ t.count = length-replicate t.count t.actor in
    let all : length (steps ++ steps_of t) ≡ length steps + t.count = length-append steps (steps_of t) ∙ ap (λ n. length steps + n) long in
    let left : 1000000 - length steps - length (steps_in w) ≡ 1000000 - length (steps ++ steps_of t) = rw (all, mine, long) (omega arith) in
    record {
      few = rw all (omega (arith, r.few));
      bad = r.bad ∙ ap (first_bad (1000000 - length steps)) is ∙ rw ok (ap (λ n. first_bad n (words_from next behind)) left);
      steps =
          r.steps ∙ ap (λ ws. steps ++ flat_map steps_in ws) is ∙ rw mine (sym (append_assoc steps (steps_of t) (flat_map steps_in (words_from next behind))));
    }

-- the same, by the blanks before the word
pub word_read_behind : (bytes : List ℕ) (at blanks left : ℕ) (rest steps text behind : List ℕ) (t : Turns) → IsRead bytes at rest steps
    → words_from at rest ≡ record { at = at + blanks; text = text } ∷ words_from (at + blanks + length text + 1) behind
    → turns_of text ≡ Some t → left ≡ length steps → t.count ≤ 1000000 - left → IsRead bytes (at + blanks + (length text + 1)) behind (steps ++ steps_of t)
word_read_behind bytes at blanks left rest steps text behind t r is turns same fit =
    let next : at + blanks + length text + 1 ≡ at + blanks + (length text + 1) = omega arith in
    subst (λ (n : ℕ). IsRead bytes n behind (steps ++ steps_of t)) next
    (word_read bytes at rest steps record { at = at + blanks; text = text } (at + blanks + length text + 1) behind t r is turns (omega arith))

-- a word that is no turns, or has too many, is the fault
pub bad_word : (bytes : List ℕ) (at : ℕ) (rest steps : List ℕ) (w : Word) (ws : List Word)
    → IsRead bytes at rest steps → words_from at rest ≡ w ∷ ws → fits (1000000 - length steps) w.text ≡ false
    → schedule bytes ≡ Err (Byte w.at)
unfolding schedule
bad_word bytes at rest steps w ws r is bad =
    let here : first_bad 1000000 (words bytes) ≡ Some w.at = r.bad ∙ ap (first_bad (1000000 - length steps)) is ∙ rw bad refl in
    ap (λ place. steps_unless place (words bytes)) here

-- without a word left the steps are all
pub all_read : (bytes : List ℕ) (at : ℕ) (rest steps : List ℕ) → IsRead bytes at rest steps → words_from at rest ≡ [] → schedule bytes ≡ Ok steps
unfolding schedule
all_read bytes at rest steps r none =
    let fine : first_bad 1000000 (words bytes) ≡ None = r.bad ∙ ap (first_bad (1000000 - length steps)) none in
    let all : flat_map steps_in (words bytes) ≡ steps = r.steps ∙ ap (λ ws. steps ++ flat_map steps_in ws) none ∙ append-nil steps in
    ap (λ place. steps_unless place (words bytes)) fine ∙ ap Ok all
