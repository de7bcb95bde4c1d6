-- Each move but a clear is one step of the machine, where its condition holds.
use Rattle.std.proofs.Common.{◌≡◌, ℕ, zero, suc, ◌+◌, ◌-◌, ◌*◌, ◌/◌, ◌%◌, ◌<◌, ◌≤◌, ◌≢◌, Bool, true, false, cond, List, length, refl, sym, ap, ◌∙◌, subst, arith}
use Rattle.std.specs.Prelude.{not, ◌&&◌, nat_eq, nat_lt}
use Rattle.std.proofs.lemmas.Bool.Decides.{nat_tests}
use Rattle.list_machine.specs.Words.{Word, blank, link_to}
use Rattle.list_machine.specs.State.{link_at}
use Rattle.list_machine.specs.Grants.{granted_in}
use Rattle.list_machine.specs.Facts.{IsAt, Chain, claimed_chain, owned_chain, chain_of, LeadsTo}
use Rattle.list_machine.specs.Rule.{IsFree, IsList, IsStanding, IsSwept}
use Rattle.list_machine.specs.Machine.{State, IsSound, Step, claims, files, misses, reads, places, adopts, links, shuts, marks, splits, joins, Run, none, more}
use Rattle.list_machine.specs.Steps.{KnowsChunk, KnowsLink, IsNextMark, IsGrantable, nobody, opening_leaf}
use Rattle.list_machine.specs.Moves.{guest_in, leaf_in, is_blank, place_claimed, item_filed, filed_if, link_read, last_link, link_behind, chunk_linked, chunk_adopted, list_shut, next_mark, marked_at, marked_by, slot_marked, item_placed, seat_made, seat_joined, chunk_at}
use Rattle.list_machine.specs.declared.views.Grant.{Grant}
use Rattle.list_machine.specs.declared.views.LinkWord.{LinkWord}
use Rattle.list_machine.specs.declared.views.Stage.{Stage}
use Rattle.list_machine.specs.declared.views.Stage.TheVariants.{Open, Swept}
use Rattle.list_machine.specs.declared.views.Leaf.{Leaf}
use Rattle.list_machine.specs.declared.views.Unfiled.TheVariants.{Nothing, Place}
use Rattle.list_machine.specs.declared.views.Guest.{Guest}
use Rattle.list_machine.proofs.Bits.{word_by_parts}
use Rattle.list_machine.proofs.Lists.{or_is, index_at}
use Rattle.list_machine.proofs.Stages.{as_swept}

one : (s t : State) → Step s t → Run s t
one s t step = more s t none step

-- the guest and the list of a number are those that stand there
guest_is : (s : State) (j : ℕ) (v : Guest) → IsAt s.guests j v → v ≡ guest_in s j
guest_is s j v at = sym (or_is s.guests j v nobody at)

pub leaf_is : (s : State) (l : ℕ) (a : Leaf) → IsAt s.owner.book.leaves l a → a ≡ leaf_in s l
leaf_is s l a at = sym (or_is s.owner.book.leaves l a opening_leaf at)

guest_here : (s : State) (j : ℕ) (v : Guest) → IsAt s.guests j v → IsAt s.guests j (guest_in s j)
guest_here s j v at = subst (λ (g : Guest). IsAt s.guests j g) (guest_is s j v at) at

pub leaf_here : (s : State) (l : ℕ) (a : Leaf) → IsAt s.owner.book.leaves l a → IsAt s.owner.book.leaves l (leaf_in s l)
leaf_here s l a at = subst (λ (e : Leaf). IsAt s.owner.book.leaves l e) (leaf_is s l a at) at

pub claim_run : (s : State) (j l : ℕ) (v : Guest) → IsAt s.guests j v → v.claim ≡ Nothing → 0 < granted_in l v.grants → Run s (place_claimed s j l)
claim_run s j l v at idle has =
    let is = guest_is s j v at in
    one s (place_claimed s j l) (claims j l (guest_in s j) (guest_here s j v at) (ap (λ (g : Guest). g.claim) (sym is) ∙ idle) (subst (λ (g : Guest). 0 < granted_in l g.grants) is has))

blank_is : (x : Word) → is_blank x ≡ true → x ≡ blank
blank_is x e = by x.high refl e where
  by : (b : Bool) → x.high ≡ b → (nat_eq x.value 0 && not x.high) ≡ true → x ≡ blank
  by b h e = word_by_parts _ _ _ _ (grind (arith, nat_tests)) (grind arith)

blank_not : (x : Word) → is_blank x ≡ false → x ≢ blank
blank_not x e is = let z : is_blank blank ≡ false = ap is_blank (sym is) ∙ e in absurd (cc)

pub file_run : (s : State) (j l r c k x : ℕ) (v : Guest) → IsAt s.guests j v → v.claim ≡ Place l (256 * r + k) → k < 256 → KnowsChunk v l r c → Run s (item_filed s j l c k x)
file_run s j l r c k x v at mine lt knows = by (is_blank (s.words.slot c k)) refl where
  here : IsAt s.guests j (guest_in s j)
  here = guest_here s j v at

  by : (b : Bool) → is_blank (s.words.slot c k) ≡ b → Run s (filed_if b s j l c k x)
  by true e = one s (filed_if true s j l c k x) (files j l r c k x (guest_in s j) here (ap (λ (g : Guest). g.claim) (sym (guest_is s j v at)) ∙ mine) lt (subst (λ (g : Guest). KnowsChunk g l r c) (guest_is s j v at) knows) (blank_is (s.words.slot c k) e))
  by false e = one s (filed_if false s j l c k x) (misses j l r c k (guest_in s j) here (ap (λ (g : Guest). g.claim) (sym (guest_is s j v at)) ∙ mine) lt (subst (λ (g : Guest). KnowsChunk g l r c) (guest_is s j v at) knows) (blank_not (s.words.slot c k) e))

pub read_run : (s : State) (j l r c : ℕ) (from : LinkWord) (v : Guest) → IsAt s.guests j v → v.out ≡ true → KnowsLink v l from r → link_at s.words l from ≡ link_to r c → Run s (link_read s j l from r c)
read_run s j l r c from v at out knows found =
    let is = guest_is s j v at in
    one s (link_read s j l from r c) (reads j l r c from (guest_in s j) (guest_here s j v at) (ap (λ (g : Guest). g.out) (sym is) ∙ out) (subst (λ (g : Guest). KnowsLink g l from r) is knows) found)

leads_behind : (chain : List ℕ) → LeadsTo chain (last_link chain) (length chain)
leads_behind chain = by (length chain) refl where
  by : (n : ℕ) → length chain ≡ n → LeadsTo chain (link_behind chain n) n
  by zero e = refl
  by (suc r) e = (r, refl, index_at chain r (omega arith))

pub adopt_run : (s : State) (l c : ℕ) (a : Leaf) → IsAt s.owner.book.leaves l a → a.stage ≡ Open → IsFree s.owner.book.leaves c → c + 1 < 4294967296 → Run s (chunk_adopted s l c)
adopt_run s l c a at opened free small = one s (chunk_adopted s l c) (adopts l c (leaf_in s l) (leaf_here s l a at) (ap (λ (e : Leaf). e.stage) (sym (leaf_is s l a at)) ∙ opened) free small)

pub link_run : (s : State) (l c : ℕ) (a : Leaf) → IsAt s.owner.book.leaves l a → a.stage ≡ Open → IsFree s.owner.book.leaves c → c + 1 < 4294967296 → Run s (chunk_linked s l c)
link_run s l c a at opened free small = one s (chunk_linked s l c) (links l c (last_link (leaf_in s l).claimed) (leaf_in s l) (leaf_here s l a at) (ap (λ (e : Leaf). e.stage) (sym (leaf_is s l a at)) ∙ opened) free small (leads_behind (leaf_in s l).claimed))

pub shut_run : (s : State) (l : ℕ) (a : Leaf) → IsAt s.owner.book.leaves l a → a.stage ≡ Open → Run s (list_shut s l)
shut_run s l a at opened = one s (list_shut s l) (shuts l (leaf_in s l) (leaf_here s l a at) (ap (λ (e : Leaf). e.stage) (sym (leaf_is s l a at)) ∙ opened))

pub place_run : (s : State) (l x : ℕ) (a : Leaf) → IsAt s.owner.book.leaves l a → a.stage ≡ Open → a.used < 256 * length a.owned → Run s (item_placed s l x)
place_run s l x a at opened room = subst (λ (e : Leaf). e.stage ≡ Open → e.used < 256 * length e.owned → Run s (item_placed s l x)) (sym (leaf_is s l a at)) by opened room where
  by : (leaf_in s l).stage ≡ Open → (leaf_in s l).used < 256 * length (leaf_in s l).owned → Run s (item_placed s l x)
  by opened room =
      let e : Leaf = leaf_in s l in
      one s (item_placed s l x) (places l (e.used / 256) (chunk_at e.owned e.used) (e.used % 256) x e (leaf_here s l a at) opened (index_at e.owned (e.used / 256) (omega arith)) (omega arith) (omega arith))

pub split_run : (s : State) (gs : List Grant) → IsGrantable s.owner.book.leaves gs → Run s (seat_made s gs)
split_run s gs fit = one s (seat_made s gs) (splits gs fit)

pub join_run : (s : State) (j : ℕ) (v : Guest) → IsAt s.guests j v → v.out ≡ true → Run s (seat_joined s j)
join_run s j v at out = one s (seat_joined s j) (joins j (guest_in s j) (guest_here s j v at) (ap (λ (g : Guest). g.out) (sym (guest_is s j v at)) ∙ out))

-- the slot that a sweep marks next
module _ (s : State) (sound : IsSound s) (l p f m : ℕ) (a : Leaf) (leaf : IsAt s.owner.book.leaves l a) (shut : a.stage ≡ Swept p f m) (some : m < f + a.used) where
  abbrev spot_if : Bool → ℕ × ℕ
  spot_if b = cond b (chunk_at a.claimed m, m % 256) (chunk_at a.owned (m - f), (m - f) % 256)

  -- it is in one of the chains, where the next mark is
  pub next_mark_is : (x : Chain) × (r : ℕ) × IsAt (chain_of a x) r (next_mark a f m).0 × ((next_mark a f m).1 < 256) × IsNextMark a f m x (256 * r + (next_mark a f m).1)
  next_mark_is = by (nat_lt m f) refl where
    list : IsList (s.words.claim l) (s.words.first l) s.words.next s.words.slot a
    list = sound.shape.lists.lists l a leaf

    stands : IsStanding (s.words.claim l) (s.words.first l) s.words.next s.words.slot a × IsSwept (s.words.claim l) s.words.slot a f m
    stands = as_swept (s.words.claim l) (s.words.first l) s.words.next s.words.slot a p f m shut list

    by : (b : Bool) → nat_lt m f ≡ b → (x : Chain) × (r : ℕ) × IsAt (chain_of a x) r (spot_if b).0 × ((spot_if b).1 < 256) × IsNextMark a f m x (256 * r + (spot_if b).1)
    by true e =
        let low : m < f = grind (arith, nat_tests) in
        let few = list.counted in let room = stands.0.room in let found = stands.1.within_claims in
        (claimed_chain, m / 256, index_at a.claimed (m / 256) (omega arith), omega arith, (omega arith, omega arith))
    by false e =
        let high : f ≤ m = grind (arith, nat_tests) in
        let used = stands.0.used in
        (owned_chain, (m - f) / 256, index_at a.owned ((m - f) / 256) (omega arith), omega arith, (omega arith, omega arith))

  pub mark_run : Run s (slot_marked s l)
  mark_run = subst (λ (e : Leaf). Run s (marked_by s l e.stage)) (leaf_is s l a leaf) (subst (λ (t : Stage). Run s (marked_by s l t)) (sym shut) (subst (λ (e : Leaf). Run s (marked_at s l p f m (next_mark e f m))) (leaf_is s l a leaf) by)) where
    by : Run s (marked_at s l p f m (next_mark a f m))
    by = let t = next_mark_is in with_spot (next_mark a f m).0 (next_mark a f m).1 t.0 t.1 t.2 t.3 t.4 where
      with_spot : (c k : ℕ) (x : Chain) (r : ℕ) → IsAt (chain_of a x) r c → k < 256 → IsNextMark a f m x (256 * r + k) → Run s (marked_at s l p f m (c, k))
      with_spot c k x r here lt next =
          let is = leaf_is s l a leaf in
          one s (marked_at s l p f m (c, k)) (marks l p f m r c k x (leaf_in s l) (leaf_here s l a leaf) (ap (λ (e : Leaf). e.stage) (sym is) ∙ shut) (subst (λ (e : Leaf). IsAt (chain_of e x) r c) is here) lt (subst (λ (e : Leaf). IsNextMark e f m x (256 * r + k)) is next))
