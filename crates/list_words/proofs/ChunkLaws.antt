-- Chunks that are taken for a chain, and given back.
use Rattle.std.proofs.Common.{◌≡◌, ◌≢◌, ℕ, zero, suc, ◌+◌, ◌-◌, ◌<◌, ◌⊎◌, inl, inr, Bool, true, false, not, ◌&&◌, cond, List, [], ◌∷◌, ◌++◌, length, set, Some, None, Option, ap, refl, sym, subst, ◌∙◌, arith, nat_eq}
use Rattle.std.specs.List.{Contains, slice_get, sum_by}
use Rattle.std.specs.FinSet as set_of
use Rattle.std.proofs.lemmas.Bool.{cases_eq, eq-eqb, ne_eqb}
use Rattle.std.proofs.lemmas.List.Elements.{Contains-append_left, Contains-append_right}
use Rattle.std.proofs.lemmas.List.Sums.{sum_by-set}
use Rattle.chunk_pool.specs.Numbers.{Numbers, IsFree, without}
use Rattle.chunk_pool.proofs.Sets.{contains_removed, len_inserted, put_back}
use Rattle.list_words.specs.Store.{is_shut}
use Rattle.list_words.specs.PlainRows.{PlainList, no_list, emptied_list}
use Rattle.list_words.specs.Plain.{all_chunks, list_in, chain, chunk_at, chunk_count, held_chunks, shut_count}
use Rattle.list_words.specs.PlainKept.{home_of, AreHomed, AreSummed}
use Rattle.list_words.specs.declared.plain_homes.Home.{Home}
use Rattle.list_words.proofs.Places.{contains_at, slice_get-last, slice_get-more, slice_get-push, slice_get-set_same, slice_get-set_other}
use Rattle.list_words.proofs.PlainLaws.{chunk_at-set, chunk_at-set_other, chunk_at-set_same}

-- ---- a chunk is taken

true_right : (a b : Bool) → (a && b) ≡ true → b ≡ true
true_right true b e = e
true_right false b e = absurd (cc)

pub free_before : (p : Numbers) (c q : ℕ) → IsFree (without p c) q → IsFree p q
free_before p c q free = true_right (not (nat_eq q c)) (set_of.contains p.free q) (sym (contains_removed p.free c q) ∙ free)

gone : (p : Numbers) (c : ℕ) → set_of.contains (without p c).free c ≡ false
gone p c = contains_removed p.free c c ∙ ap (λ b. not b && set_of.contains p.free c) (eq-eqb c c refl)

free_still : (p : Numbers) (c k : ℕ) → k ≢ c → IsFree p k → IsFree (without p c) k
free_still p c k other free = contains_removed p.free c k ∙ ap (λ b. not b && set_of.contains p.free k) (ne_eqb k c other) ∙ free

pub taken_is_gone : (p : Numbers) (c : ℕ) → IsFree (without p c) c → ⊥
taken_is_gone p c free = differ (sym (gone p c) ∙ free)
  where
    differ : false ≡ true → ⊥
    differ e = cc

pub len-without : (p : Numbers) (c : ℕ) → IsFree p c → set_of.len (without p c).free + 1 ≡ set_of.len p.free
len-without p c free = sym (len_inserted (set_of.remove p.free c) c (gone p c)) ∙ ap set_of.len (put_back p.free c free)

same_or_not : (a b : Bool) → (a ≡ b) ⊎ (a ≡ not b)
same_or_not true true = inl refl
same_or_not true false = inr refl
same_or_not false true = inr refl
same_or_not false false = inl refl

-- a chunk of a chain after a chunk was put at the end of one chain
pub chunk_at-more : (lists : List PlainList) (l c : ℕ) (b : PlainList) (owned : Bool) → l < length lists → chain owned b ≡ chain owned (list_in lists l) ++ c ∷ [] → chain (not owned) b ≡ chain (not owned) (list_in lists l)
    → (o : Bool) (m r q : ℕ) → chunk_at (set lists l b) o m r ≡ Some q → (chunk_at lists o m r ≡ Some q) ⊎ ((m ≡ l) × (o ≡ owned) × (r ≡ length (chain owned (list_in lists l))) × (c ≡ q))
chunk_at-more lists l c b owned low more rest o m r q at = elim (chunk_at-set lists l b o m r q low at) [
  | inr there ↦ inl there.1
  | inl here ↦ elim (same_or_not o owned) [
    | inl same ↦
        elim (slice_get-push (chain owned (list_in lists l)) c q r (ap (λ (cs : List ℕ). slice_get cs r) (sym more) ∙ ap (λ w. slice_get (chain w b) r) (sym same) ∙ here.1)) [
          | inl before ↦ inl (ap (λ k. chunk_at lists o k r) here.0 ∙ ap (λ w. chunk_at lists w l r) same ∙ before)
          | inr last ↦ inr (here.0, same, last.0, last.1)
        ]
    | inr other ↦ inl (ap (λ k. chunk_at lists o k r) here.0 ∙ ap (λ w. chunk_at lists w l r) other ∙ ap (λ (cs : List ℕ). slice_get cs r) (sym rest) ∙ ap (λ w. slice_get (chain w b) r) (sym other) ∙ here.1)
  ]
]

-- it stands at the end of that chain, and the others where they stood
chunk_at-end : (lists : List PlainList) (l c : ℕ) (b : PlainList) (owned : Bool) → l < length lists
    → chain owned b ≡ chain owned (list_in lists l) ++ c ∷ [] → chunk_at (set lists l b) owned l (length (chain owned (list_in lists l))) ≡ Some c
chunk_at-end lists l c b owned low more =
    chunk_at-set_same lists l b owned l (length (chain owned (list_in lists l))) low refl
    ∙ ap (λ (cs : List ℕ). slice_get cs (length (chain owned (list_in lists l)))) more ∙ slice_get-last (chain owned (list_in lists l)) c

chunk_at-still : (lists : List PlainList) (l c : ℕ) (b : PlainList) (owned : Bool) → l < length lists
    → chain owned b ≡ chain owned (list_in lists l) ++ c ∷ [] → chain (not owned) b ≡ chain (not owned) (list_in lists l)
    → (o : Bool) (m r q : ℕ) → chunk_at lists o m r ≡ Some q → chunk_at (set lists l b) o m r ≡ Some q
chunk_at-still lists l c b owned low more rest o m r q at = elim (cases_eq m l) [
  | inr other ↦ chunk_at-set_other lists l b o m r other ∙ at
  | inl here ↦
      chunk_at-set_same lists l b o m r low here
      ∙ elim (same_or_not o owned) [
        | inl same ↦
            ap (λ w. slice_get (chain w b) r) same ∙ ap (λ (cs : List ℕ). slice_get cs r) more
            ∙ slice_get-more (chain owned (list_in lists l)) (c ∷ []) r q
            (ap (λ w. chunk_at lists w l r) (sym same) ∙ ap (λ k. chunk_at lists o k r) (sym here) ∙ at)
        | inr differs ↦
            ap (λ w. slice_get (chain w b) r) differs ∙ ap (λ (cs : List ℕ). slice_get cs r) rest
            ∙ ap (λ w. chunk_at lists w l r) (sym differs) ∙ ap (λ k. chunk_at lists o k r) (sym here) ∙ at
      ]
]

pub homed-more : (lists : List PlainList) (homes : List Home) (pool : Numbers) (l c : ℕ) (b : PlainList) (owned : Bool) → AreHomed lists homes pool → l < length lists → IsFree pool c → c < length homes
    → chain owned b ≡ chain owned (list_in lists l) ++ c ∷ [] → chain (not owned) b ≡ chain (not owned) (list_in lists l)
    → AreHomed (set lists l b) (set homes c (home_of l owned (length (chain owned (list_in lists l))))) (without pool c)
homed-more lists homes pool l c b owned kept low free small more rest =
    let h : Home = home_of l owned (length (chain owned (list_in lists l))) in
    record {
      home = λ o m r q at. elim (chunk_at-more lists l c b owned low more rest o m r q at) [
        | inl before ↦
            let other : q ≢ c = λ e. kept.taken o m r q before (subst (λ k. IsFree pool k) (sym e) free) in
            slice_get-set_other homes c q h other ∙ kept.home o m r q before
        | inr new ↦
            ap (λ k. slice_get (set homes c h) k) (sym new.3) ∙ slice_get-set_same homes c h small
            ∙ ap (λ k. let x : Option Home = Some (home_of k owned (length (chain owned (list_in lists l)))) in x) (sym new.0)
            ∙ ap (λ w. let x : Option Home = Some (home_of m w (length (chain owned (list_in lists l)))) in x) (sym new.1)
            ∙ ap (λ k. let x : Option Home = Some (home_of m o k) in x) (sym new.2)
      ];
      taken = λ o m r q at now_free. elim (chunk_at-more lists l c b owned low more rest o m r q at) [
        | inl before ↦ kept.taken o m r q before (free_before pool c q now_free)
        | inr new ↦ taken_is_gone pool c (subst (λ k. IsFree (without pool c) k) (sym new.3) now_free)
      ];
      unplaced = λ q low_chunk none.
          free_still pool c q
          (λ e. none owned l (length (chain owned (list_in lists l)))
          (subst (λ k. chunk_at (set lists l b) owned l (length (chain owned (list_in lists l))) ≡ Some k) (sym e) (chunk_at-end lists l c b owned low more)))
          (kept.unplaced q low_chunk (λ o m r at. none o m r (chunk_at-still lists l c b owned low more rest o m r q at)));
      size = kept.size ∙ sym (length_same homes c h);
    }
  where
    length_same : (xs : List Home) (i : ℕ) (v : Home) → length (set xs i v) ≡ length xs
    length_same [] i v = refl
    length_same (x ∷ xs) zero v = refl
    length_same (x ∷ xs) (suc i) v = ap suc (length_same xs i v)

-- one chunk more in a list that is not shut, and one free number less
pub summed-more : (lists : List PlainList) (pool : Numbers) (held shuts l c : ℕ) (b : PlainList) → AreSummed lists pool held shuts → l < length lists → IsFree pool c
    → chunk_count b ≡ chunk_count (list_in lists l) + 1 → is_shut b.phase ≡ false → is_shut (list_in lists l).phase ≡ false → AreSummed (set lists l b) (without pool c) held shuts
summed-more lists pool held shuts l c b kept low free count phase was =
    let chunks : sum_by chunk_count (set lists l b) + chunk_count (list_in lists l) ≡ sum_by chunk_count lists + chunk_count b = sum_by-set chunk_count lists l b no_list low in
    let held_sum : sum_by held_chunks (set lists l b) + held_chunks (list_in lists l) ≡ sum_by held_chunks lists + held_chunks b = sum_by-set held_chunks lists l b no_list low in
    let shut_sum : sum_by shut_count (set lists l b) + shut_count (list_in lists l) ≡ sum_by shut_count lists + shut_count b = sum_by-set shut_count lists l b no_list low in
    let held_old : held_chunks (list_in lists l) ≡ 0 = ap (λ s. cond s (chunk_count (list_in lists l)) 0) was in
    let held_new : held_chunks b ≡ 0 = ap (λ s. cond s (chunk_count b) 0) phase in
    let shut_old : shut_count (list_in lists l) ≡ 0 = ap (λ s. cond s 1 0) was in
    let shut_new : shut_count b ≡ 0 = ap (λ s. cond s 1 0) phase in
    record {
      total = omega (arith, kept.total, len-without pool c free);
      held = omega (arith, kept.held);
      shuts = omega (arith, kept.shuts);
    }

-- a list was shut, and its chunks are held
pub summed-shut : (lists : List PlainList) (pool : Numbers) (held shuts l : ℕ) (b : PlainList) → AreSummed lists pool held shuts → l < length lists
    → chunk_count b ≡ chunk_count (list_in lists l) → is_shut b.phase ≡ true → is_shut (list_in lists l).phase ≡ false → AreSummed (set lists l b) pool (held + chunk_count (list_in lists l)) (shuts + 1)
summed-shut lists pool held shuts l b kept low count phase was =
    let chunks : sum_by chunk_count (set lists l b) + chunk_count (list_in lists l) ≡ sum_by chunk_count lists + chunk_count b = sum_by-set chunk_count lists l b no_list low in
    let held_sum : sum_by held_chunks (set lists l b) + held_chunks (list_in lists l) ≡ sum_by held_chunks lists + held_chunks b = sum_by-set held_chunks lists l b no_list low in
    let shut_sum : sum_by shut_count (set lists l b) + shut_count (list_in lists l) ≡ sum_by shut_count lists + shut_count b = sum_by-set shut_count lists l b no_list low in
    let held_old : held_chunks (list_in lists l) ≡ 0 = ap (λ s. cond s (chunk_count (list_in lists l)) 0) was in
    let held_new : held_chunks b ≡ chunk_count b = ap (λ s. cond s (chunk_count b) 0) phase in
    let shut_old : shut_count (list_in lists l) ≡ 0 = ap (λ s. cond s 1 0) was in
    let shut_new : shut_count b ≡ 1 = ap (λ s. cond s 1 0) phase in
    record {
      total = omega (arith, kept.total);
      held = omega (arith, kept.held);
      shuts = omega (arith, kept.shuts);
    }

-- ---- chunks are given back

list_field : Option Home → ℕ
list_field None = 0
list_field (Some h) = h.list

rank_field : Option Home → ℕ
rank_field None = 0
rank_field (Some h) = h.rank

owned_field : Option Home → Bool
owned_field None = false
owned_field (Some h) = h.owned

-- a chunk has one place
pub record SamePlace (o w : Bool) (m l r i : ℕ) : Type 0 where
  pub owned : o ≡ w
  pub list : m ≡ l
  pub rank : r ≡ i

pub one_place : (lists : List PlainList) (homes : List Home) (pool : Numbers) → AreHomed lists homes pool → (o w : Bool) (m l r i q : ℕ) → chunk_at lists o m r ≡ Some q → chunk_at lists w l i ≡ Some q → SamePlace o w m l r i
unfolding list_field rank_field owned_field
one_place lists homes pool kept o w m l r i q at there =
    let same : Some (home_of m o r) ≡ Some (home_of l w i) = sym (kept.home o m r q at) ∙ kept.home w l i q there in
    record { owned = ap owned_field same; list = ap list_field same; rank = ap rank_field same }

no_chunk : (o : Bool) (p : PlainList) (r q : ℕ) → slice_get (chain o (emptied_list p)) r ≡ Some q → ⊥
no_chunk true p r q at = cc
no_chunk false p r q at = cc

pub contained : (o : Bool) (p : PlainList) (r q : ℕ) → slice_get (chain o p) r ≡ Some q → Contains (all_chunks p) q
contained true p r q at = Contains-append_right p.claimed p.owned q (contains_at p.owned r q at)
contained false p r q at = Contains-append_left p.claimed p.owned q (contains_at p.claimed r q at)

pub homed-emptied : (lists : List PlainList) (homes : List Home) (pool after : Numbers) (l : ℕ) → AreHomed lists homes pool → l < length lists → after.size ≡ pool.size
    → ((q : ℕ) → IsFree after q → IsFree pool q ⊎ ((w : Bool) × (i : ℕ) × (chunk_at lists w l i ≡ Some q)))
    → ((q : ℕ) → IsFree after q ⊎ ((IsFree pool q → ⊥) × (Contains (all_chunks (list_in lists l)) q → ⊥)))
    → AreHomed (set lists l (emptied_list (list_in lists l))) homes after
homed-emptied lists homes pool after l kept low size given lost =
    let was : (o : Bool) (m r q : ℕ) → chunk_at (set lists l (emptied_list (list_in lists l))) o m r ≡ Some q → (m ≢ l) × (chunk_at lists o m r ≡ Some q) = λ o m r q at.
    elim (chunk_at-set lists l (emptied_list (list_in lists l)) o m r q low at) [
      | inl here ↦ absurd (no_chunk o (list_in lists l) r q here.1)
      | inr there ↦ there
    ] in
    record {
      home = λ o m r q at. kept.home o m r q (was o m r q at).1;
      taken = λ o m r q at free. elim (given q free) [
        | inl before ↦ kept.taken o m r q (was o m r q at).1 before
        | inr back ↦
            let place : SamePlace o back.0 m l r back.1 = one_place lists homes pool kept o back.0 m l r back.1 q (was o m r q at).1 back.2 in
            (was o m r q at).0 place.list
      ];
      unplaced = λ q small none. elim (lost q) [
        | inl free ↦ free
        | inr gone ↦ absurd (gone.0 (kept.unplaced q (subst (λ n. q < n) size small) (λ o m r at. elim (cases_eq m l) [
          | inl here ↦ gone.1 (contained o (list_in lists l) r q (ap (λ k. chunk_at lists o k r) (sym here) ∙ at))
          | inr other ↦ none o m r (chunk_at-set_other lists l (emptied_list (list_in lists l)) o m r other ∙ at)
        ])))
      ];
      size = size ∙ kept.size;
    }

pub summed-emptied : (lists : List PlainList) (pool after : Numbers) (held shuts l : ℕ) → AreSummed lists pool held shuts → l < length lists → is_shut (list_in lists l).phase ≡ true → after.size ≡ pool.size
    → set_of.len after.free ≡ set_of.len pool.free + chunk_count (list_in lists l) → AreSummed (set lists l (emptied_list (list_in lists l))) after (held - chunk_count (list_in lists l)) shuts
summed-emptied lists pool after held shuts l kept low phase size more =
    let b : PlainList = emptied_list (list_in lists l) in
    let chunks : sum_by chunk_count (set lists l b) + chunk_count (list_in lists l) ≡ sum_by chunk_count lists + chunk_count b = sum_by-set chunk_count lists l b no_list low in
    let held_sum : sum_by held_chunks (set lists l b) + held_chunks (list_in lists l) ≡ sum_by held_chunks lists + held_chunks b = sum_by-set held_chunks lists l b no_list low in
    let shut_sum : sum_by shut_count (set lists l b) + shut_count (list_in lists l) ≡ sum_by shut_count lists + shut_count b = sum_by-set shut_count lists l b no_list low in
    let held_old : held_chunks (list_in lists l) ≡ chunk_count (list_in lists l) = ap (λ s. cond s (chunk_count (list_in lists l)) 0) phase in
    let held_new : held_chunks b ≡ 0 = ap (λ s. cond s 0 0) phase in
    let shut_same : shut_count b ≡ shut_count (list_in lists l) = refl in
    record {
      total = omega (arith, kept.total);
      held = omega (arith, kept.held);
      shuts = omega (arith, kept.shuts);
    }
