-- What lists keep as one of them changes.
use Rattle.std.proofs.Common.{◌≡◌, ℕ, zero, suc, ◌+◌, ◌<◌, ◌≤◌, inl, inr, List, [], ◌∷◌, ◌++◌, length, replicate, get_or, set, ap, refl, sym, subst, ◌∙◌, arith, Some}
use Rattle.std.specs.Prelude.{slice_get}
use Rattle.std.proofs.lemmas.Bool.{cases_eq, cases_lt}
use Rattle.std.proofs.lemmas.List.{get_or_past, length-replicate, get_or-set_same, get_or-set_other, length-set}
use Rattle.std.proofs.lemmas.Option.{slice_get-get_or}
use Rattle.list_machine.specs.Facts.{Chain, chain_of, claimed_chain, owned_chain}
use Rattle.list_machine.specs.Grants.{granted_in}
use Rattle.list_machine.specs.Steps.{leaves_after_grants, opening_leaf, with_claimed, with_owned}
use Rattle.list_machine.specs.declared.views.Grant.{Grant}
use Rattle.list_machine.specs.declared.views.Leaf.{Leaf}
use Rattle.list_machine.specs.declared.views.Owner.{Owner}
use Rattle.list_machine.proofs.Lists.{at_more}
use Rattle.world_words.specs.WordRows.{HasLink, WordRows, list_count, made_count}
use Rattle.world_words.proofs.RowLaws.{get_or-zeros}
use Rattle.world_book.specs.Owners.{last_chunk, leaf_at}
use Rattle.world_lists.specs.ListsKept.{AreKept, IsMade}

-- ---- chunks of one list

pub made-more : (m n : ℕ) (a : Leaf) → m ≤ n → IsMade m a → IsMade n a
made-more m n a more made y r c at = omega (arith, more, made y r c at)

-- a list with the same chains
pub made-same : (m : ℕ) (a b : Leaf) → a.claimed ≡ b.claimed → a.owned ≡ b.owned → IsMade m a → IsMade m b
made-same m a b claimed owned made claimed_chain r c at = made claimed_chain r c (ap (λ (cs : List ℕ). slice_get cs r) claimed ∙ at)
made-same m a b claimed owned made owned_chain r c at = made owned_chain r c (ap (λ (cs : List ℕ). slice_get cs r) owned ∙ at)

-- one chunk more
pub made-claimed : (m : ℕ) (a : Leaf) (c : ℕ) → c < m → IsMade m a → IsMade m (with_claimed a c)
made-claimed m a c low made claimed_chain r d at = at_more a.claimed c r d (d < m) at (λ old. made claimed_chain r d old) (λ _ same. subst (λ k. k < m) same low)
made-claimed m a c low made owned_chain r d at = made owned_chain r d at

pub made-owned : (m : ℕ) (a : Leaf) (c : ℕ) → c < m → IsMade m a → IsMade m (with_owned a c)
made-owned m a c low made claimed_chain r d at = made claimed_chain r d at
made-owned m a c low made owned_chain r d at = at_more a.owned c r d (d < m) at (λ old. made owned_chain r d old) (λ _ same. subst (λ k. k < m) same low)

-- the chunk at a place
pub made-at : (m : ℕ) (a : Leaf) (y : Chain) (r : ℕ) → IsMade m a → r < length (chain_of a y) → get_or (chain_of a y) r 0 < m
made-at m a y r made low = made y r (get_or (chain_of a y) r 0) (slice_get-get_or (chain_of a y) r 0 low)

-- the link word behind the first chunks of a claimed chain, so many
pub has_last : (w : WordRows) (l n : ℕ) (a : Leaf) → l < list_count w → IsMade (made_count w) a → n ≤ length a.claimed → HasLink w l (last_chunk a.claimed n)
has_last w l zero a low made few = low
has_last w l (suc r) a low made few = made-at (made_count w) a claimed_chain r made (omega (arith, few))

-- ---- all lists

pub kept-leaf : (w v : WordRows) (o p : Owner) (n k l : ℕ) (a : Leaf) → AreKept w o n → l < length o.book.leaves → list_count v ≡ list_count w → made_count w ≤ made_count v
    → p.book.leaves ≡ set o.book.leaves l a → ((b : ℕ) → get_or p.out b 0 ≤ k) → IsMade (made_count v) a → AreKept v p k
kept-leaf w v o p n k l a kept low lists more is few made = record {
  lists = omega (arith, lists, kept.lists, ap length is, length-set o.book.leaves l a);
  made = λ h. subst (λ (leaves : List Leaf). IsMade (made_count v) (get_or leaves h opening_leaf)) (sym is) (elim (cases_eq h l) [
    | inl same ↦ subst (IsMade (made_count v)) (sym (ap (λ i. get_or (set o.book.leaves l a) i opening_leaf) same ∙ get_or-set_same o.book.leaves l a opening_leaf low)) made
    | inr other ↦ subst (IsMade (made_count v)) (sym (get_or-set_other o.book.leaves l h a opening_leaf other)) (made-more (made_count w) (made_count v) (leaf_at o h) more (kept.made h))
  ]);
  few = few;
}

-- one birth more, with no seats
pub few-shut : (out : List ℕ) (n : ℕ) → ((b : ℕ) → get_or out b 0 ≤ n) → (b : ℕ) → get_or (out ++ 0 ∷ []) b 0 ≤ n
few-shut out n few b = let e : get_or (out ++ 0 ∷ []) b 0 ≡ get_or out b 0 = get_or-zeros out 1 b in omega (arith, e, few b)

-- one seat more
pub few-split : (out : List ℕ) (n h : ℕ) → ((b : ℕ) → get_or out b 0 ≤ n) → (b : ℕ) → get_or (set out h (suc (get_or out h 0))) b 0 ≤ suc n
few-split out n h few b = elim (cases_eq b h) [
  | inl same ↦ elim (cases_lt h (length out)) [
    | inl low ↦ (let e : get_or (set out h (suc (get_or out h 0))) b 0 ≡ suc (get_or out h 0) = ap (λ i. get_or (set out h (suc (get_or out h 0))) i 0) same ∙ get_or-set_same out h (suc (get_or out h 0)) 0 low in omega (arith, e, few h))
    | inr past ↦ (let e : get_or (set out h (suc (get_or out h 0))) b 0 ≡ 0 = get_or_past (set out h (suc (get_or out h 0))) b 0 (omega (arith, past, same, length-set out h (suc (get_or out h 0)))) in omega (arith, e))
  ]
  | inr other ↦ (let e : get_or (set out h (suc (get_or out h 0))) b 0 ≡ get_or out b 0 = get_or-set_other out h b (suc (get_or out h 0)) 0 other in omega (arith, e, few b))
]

-- grants change no chain
pub made-grants : (m n h : ℕ) (es : List Leaf) (gs : List Grant) → IsMade m (get_or es h opening_leaf) → IsMade m (get_or (leaves_after_grants n es gs) h opening_leaf)
made-grants m n h [] gs made = made
made-grants m n zero (a ∷ es) gs made = made-same m a (let b : Leaf = record a { granted = a.granted + granted_in n gs } in b) refl refl made
made-grants m n (suc h) (a ∷ es) gs made = made-grants m (suc n) h es gs made

length-grants : (n : ℕ) (es : List Leaf) (gs : List Grant) → length (leaves_after_grants n es gs) ≡ length es
length-grants n [] gs = refl
length-grants n (a ∷ es) gs = ap suc (length-grants (suc n) es gs)

pub kept-split : (w : WordRows) (o p : Owner) (n : ℕ) (gs : List Grant) → AreKept w o n → p.book.leaves ≡ leaves_after_grants 0 o.book.leaves gs → ((b : ℕ) → get_or p.out b 0 ≤ suc n) → AreKept w p (suc n)
kept-split w o p n gs kept is few = record {
  lists = omega (arith, kept.lists, ap length is, length-grants 0 o.book.leaves gs);
  made = λ h. subst (λ (leaves : List Leaf). IsMade (made_count w) (get_or leaves h opening_leaf)) (sym is) (made-grants (made_count w) 0 h o.book.leaves gs (kept.made h));
  few = few;
}

-- ---- at the start

all_same : {X : Type 0} (n i : ℕ) (x : X) → get_or (replicate n x) i x ≡ x
all_same {X} n i x = elim (cases_lt i (length (replicate n x))) [
  | inl low ↦ same n i low
  | inr past ↦ get_or_past (replicate n x) i x past
]
  where
    same : (m j : ℕ) → j < length (replicate m x) → get_or (replicate m x) j x ≡ x
    same zero j low = absurd (omega (arith, low))
    same (suc m) zero low = refl
    same (suc m) (suc j) low = same m j (omega (arith, low))

none_made : IsMade 0 opening_leaf
none_made claimed_chain r c at = absurd (gone r at)
  where
    gone : (r : ℕ) → slice_get (let cs : List ℕ = [] in cs) r ≡ Some c → ⊥
    gone r e = cc
none_made owned_chain r c at = absurd (gone r at)
  where
    gone : (r : ℕ) → slice_get (let cs : List ℕ = [] in cs) r ≡ Some c → ⊥
    gone r e = cc

pub kept-new : (w : WordRows) (o : Owner) (lists : ℕ) → list_count w ≡ lists → o.book.leaves ≡ replicate lists opening_leaf → o.out ≡ 0 ∷ [] → AreKept w o 0
kept-new w o lists counted leaves out = record {
  lists = counted ∙ sym (ap length leaves ∙ length-replicate lists opening_leaf);
  made = λ h. subst (IsMade (made_count w)) (sym (ap (λ (ls : List Leaf). get_or ls h opening_leaf) leaves ∙ all_same lists h opening_leaf)) (made-more 0 (made_count w) opening_leaf (omega arith) none_made);
  few = λ b. subst (λ (ns : List ℕ). get_or ns b 0 ≤ 0) (sym out) (first b);
}
  where
    first : (b : ℕ) → get_or (0 ∷ []) b 0 ≤ 0
    first zero = omega arith
    first (suc b) = omega arith
