-- A filer walks on.
use Rattle.std.proofs.Common.{◌≡◌, ℕ, zero, suc, ◌+◌, ◌<◌, ◌≤◌, ◌≢◌, inl, inr, Bool, true, false, cond, List, ◌∷◌, length, set, sym, refl, ap, ◌∙◌, subst, arith}
use Rattle.std.specs.Prelude.{Option, Some, None}
use Rattle.std.proofs.lemmas.Option.{none-some, same_Some}
use mathlib.Core.Logic.{dite}
use native.Mathlib.Decide.{dec_le}
use Rattle.list_machine.specs.Facts.{IsAt}
use Rattle.list_machine.specs.Steps.{KnowsChunk, KnowsLink, KnowsList}
use Rattle.list_machine.specs.Walks.{IsWalk, WalkedLink}
use Rattle.list_machine.specs.declared.views.LinkWord.{LinkWord}
use Rattle.list_machine.specs.declared.views.Fact.{Fact}
use Rattle.list_machine.specs.declared.views.Fact.TheVariants.{Item, Link, Closed, Empty}
use Rattle.list_machine.specs.declared.views.Guest.{Guest}
use Rattle.list_machine.specs.declared.words.Claimed.{Claimed}
use Rattle.list_machine.proofs.Lists.{at_set, each_set}
use Rattle.list_table.specs.GuestMoves.{IsAfterClaim, MayRead, after_file, after_read}
use Rattle.list_table.specs.Ledgers.{Knows}
use Rattle.list_table.specs.OwnerMoves.{last_link}
use Rattle.list_filers.specs.Cursors.{AreSorted, cursor_at, next_rank, chunk_of}
use Rattle.list_filers.specs.Ways.{Stands, AreWalked, IsShort}
use Rattle.list_filers.specs.declared.cursors.Cursor.{Cursor}
use Rattle.list_filers.specs.declared.cursors.Reached.{Reached}

-- all that is known stays known
abbrev pub Grows : List Fact → List Fact → Type 0
Grows before after = (f : Fact) → Knows before f → Knows after f

pub grows_by : (g : Fact) (facts : List Fact) → Grows facts (g ∷ facts)
grows_by g facts f k = (suc k.0, k.1)

pub chunk_stays : (v u : Guest) (l r c : ℕ) → Grows v.facts u.facts → KnowsChunk v l r c → KnowsChunk u l r c
chunk_stays v u l r c more k = let p = more (Link l k.1 r c) (k.0, k.2) in (p.0, k.1, p.1)

if_grows : (b : Bool) (g : Fact) (facts : List Fact) → Grows facts (cond b (g ∷ facts) facts)
if_grows true g facts = grows_by g facts
if_grows false g facts = λ f k. k

-- a guest that has filed forgets nothing
pub file_grows : (v u : Guest) (l c k x : ℕ) (stands : Bool) → u ≡ after_file v l c k x stands → Grows v.facts u.facts
file_grows v u l c k x stands e = subst (λ (y : Guest). Grows v.facts y.facts) (sym e) (grows_by (cond stands (Item l c k x) (Empty l c k)) v.facts)

-- a guest that has claimed forgets nothing
pub claim_grows : (v u : Guest) (l : ℕ) (answer : Claimed) → IsAfterClaim v u l answer → Grows v.facts u.facts
claim_grows v u l answer p = subst (λ (x : Guest). Grows v.facts x.facts) (sym p.seat_is) (if_grows p.word.high (Closed l) v.facts)

pub stands_still : (chunks walked more : ℕ) (v u : Guest) (l : ℕ) (o : Option Reached) → walked ≤ more → Grows v.facts u.facts → Stands chunks v walked l o → Stands chunks u more l o
stands_still chunks walked more v u l None le grows s = tt
stands_still chunks walked more v u l (Some p) le grows s = let few = s.2 in (chunk_stays v u l p.rank p.chunk grows s.0, s.1, omega arith)

-- a guest that knows more has walked as far
pub still_walked : (lists chunks walked : ℕ) (v u : Guest) (cursors : List Cursor) → Grows v.facts u.facts → AreWalked lists chunks v cursors walked → AreWalked lists chunks u cursors walked
still_walked lists chunks walked v u cursors grows w = record {
  sorted = w.sorted;
  lists_are = w.lists_are;
  stand = λ i a p. stands_still chunks walked walked v u a.list a.reached (omega arith) grows (w.stand i a p);
  few = w.few;
  links = w.links;
  walk = record {
    known = λ k x p. chunk_stays v u x.list x.rank x.chunk grows (w.walk.known k x p);
    small = w.walk.small;
    apart = w.walk.apart;
  };
  counted = w.counted;
  passed = w.passed;
}

pub next_is_small : (chunks walked l : ℕ) (v : Guest) (o : Option Reached) → Stands chunks v walked l o → next_rank o ≤ walked
next_is_small chunks walked l v None s = omega arith
next_is_small chunks walked l v (Some p) s = let few = s.2 in omega arith

pub behind_is_small : (chunks walked l : ℕ) (v : Guest) (o : Option Reached) → Stands chunks v walked l o → (c : ℕ) → chunk_of o ≡ Some c → c < chunks
behind_is_small chunks walked l v None s c e = absurd (none-some c e)
behind_is_small chunks walked l v (Some p) s c e = let is : p.chunk ≡ c = same_Some p.chunk c e in let few = s.1 in omega arith

link_is_known : (chunks walked l : ℕ) (v : Guest) (o : Option Reached) → Stands chunks v walked l o → KnowsList v l → KnowsLink v l (last_link (chunk_of o)) (next_rank o)
link_is_known chunks walked l v None s k = (k, refl)
link_is_known chunks walked l v (Some p) s k = (p.rank, refl, s.0)

-- the next link may be read
pub may_read : (chunks walked : ℕ) (v : Guest) (a : Cursor) → Stands chunks v walked a.list a.reached → IsShort v a → MayRead v a.list (last_link (chunk_of a.reached)) (next_rank a.reached)
may_read chunks walked v a s t = (link_is_known chunks walked a.list v a.reached s (inr (inl (t.0, t.1))), t)

each_cons : {A : Type 0} (P : ℕ → A → Type 0) (x : A) (xs : List A) → P 0 x → ((k : ℕ) (y : A) → IsAt xs k y → P (suc k) y) → (k : ℕ) (y : A) → IsAt (x ∷ xs) k y → P k y
each_cons P x xs first later zero y p = subst (P 0) (same_Some x y p) first
each_cons P x xs first later (suc k) y p = later k y p

-- cursors are of the lists of which they were
at_moved : (cursors : List Cursor) (i l : ℕ) (o u : Option Reached) → IsAt cursors i (record { list = l; reached = o }) → (j : ℕ) (b : Cursor) → IsAt (set cursors i (record { list = l; reached = u })) j b → (a : Cursor) × IsAt cursors j a × (a.list ≡ b.list)
at_moved cursors i l o u here j b p = at_set cursors i j (record { list = l; reached = u }) b ((a : Cursor) × IsAt cursors j a × (a.list ≡ b.list)) p
    (λ e is. (record { list = l; reached = o }, subst (λ (k : ℕ). IsAt cursors k (record { list = l; reached = o })) (sym e) here, ap (λ (x : Cursor). x.list) is))
    (λ n q. (b, q, refl))

-- two cursors of one list are one
one_cursor : (cursors : List Cursor) → AreSorted cursors → (i j : ℕ) (a b : Cursor) → IsAt cursors i a → IsAt cursors j b → a.list ≡ b.list → j ≢ i → ⊥
one_cursor cursors sorted i j a b p q e n = dite (dec_le i j)
    (λ le. let lt = sorted i j a b p q (let m : i ≢ j = λ z. n (sym z) in omega arith) in omega arith)
    (λ g. let lt = sorted j i b a q p (omega arith) in omega arith)

module _ (lists chunks walked : ℕ) (v : Guest) (cursors : List Cursor) (w : AreWalked lists chunks v cursors walked) (i l c : ℕ) (o : Option Reached) (here : IsAt cursors i (record { list = l; reached = o })) (small : c < chunks) where
  abbrev pub link : WalkedLink
  link = record { list = l; rank = next_rank o; chunk = c }

  abbrev pub from : LinkWord
  from = last_link (chunk_of o)

  abbrev pub after : Guest
  after = after_read v l from (next_rank o) c

  abbrev pub moved : List Cursor
  moved = set cursors i (cursor_at l (next_rank o) c)

  grows : Grows v.facts after.facts
  grows = grows_by (Link l from (next_rank o) c) v.facts

  behind_next : (k : ℕ) (x : WalkedLink) → IsAt w.links k x → x.list ≡ l → x.rank < next_rank o
  behind_next k x p e = w.passed k i x (record { list = l; reached = o }) p here (sym e)

  apart_links : (k : ℕ) (x : WalkedLink) → IsAt (link ∷ w.links) k x → (h : ℕ) (y : WalkedLink) → IsAt (link ∷ w.links) h y → x.list ≡ y.list → x.rank ≡ y.rank → k ≡ h
  apart_links = each_cons (λ k x. (h : ℕ) (y : WalkedLink) → IsAt (link ∷ w.links) h y → x.list ≡ y.list → x.rank ≡ y.rank → k ≡ h) link w.links
      (each_cons (λ h y. l ≡ y.list → next_rank o ≡ y.rank → 0 ≡ h) link w.links (λ e d. refl) (λ h y q e d. let lt = behind_next h y q (sym e) in absurd (omega arith)))
      (λ k x p. each_cons (λ h y. x.list ≡ y.list → x.rank ≡ y.rank → suc k ≡ h) link w.links (λ e d. let lt = behind_next k x p e in absurd (omega arith)) (λ h y q e d. ap suc (w.walk.apart k h x y p q e d)))

  -- with the next link too, no link is walked twice
  pub next_walk : IsWalk after chunks (link ∷ w.links)
  next_walk = record {
    known = each_cons (λ k x. KnowsChunk after x.list x.rank x.chunk) link w.links (0, from, refl) (λ k x p. chunk_stays v after x.list x.rank x.chunk grows (w.walk.known k x p));
    small = each_cons (λ k x. x.chunk < chunks) link w.links small w.walk.small;
    apart = λ k h x y p q. apart_links k x p h y q;
  }

  passed_link : (j : ℕ) (a : Cursor) → IsAt moved j a → a.list ≡ l → next_rank o < next_rank a.reached
  passed_link j a p e = at_set cursors i j (cursor_at l (next_rank o) c) a (next_rank o < next_rank a.reached) p
      (λ same is. let rank : suc (next_rank o) ≡ next_rank a.reached = ap (λ (x : Cursor). next_rank x.reached) is in omega arith)
      (λ n q. absurd (one_cursor cursors w.sorted i j (record { list = l; reached = o }) a here q (sym e) n))

  passed_old : (k : ℕ) (x : WalkedLink) → IsAt w.links k x → (j : ℕ) (a : Cursor) → IsAt moved j a → a.list ≡ x.list → x.rank < next_rank a.reached
  passed_old k x p j a q e = at_set cursors i j (cursor_at l (next_rank o) c) a (x.rank < next_rank a.reached) q
      (λ same is. let rank : suc (next_rank o) ≡ next_rank a.reached = ap (λ (y : Cursor). next_rank y.reached) is in let list : l ≡ a.list = ap (λ (y : Cursor). y.list) is in let lt = behind_next k x p (sym e ∙ sym list) in omega arith)
      (λ n old. w.passed k j x a p old e)

  -- the cursor has followed it
  pub walked_on : walked + 1 ≤ chunks → AreWalked lists chunks after moved (walked + 1)
  walked_on few = record {
    sorted = λ j h a b p q lt. let d = at_moved cursors i l o (Some record { rank = next_rank o; chunk = c }) here j a p in let e = at_moved cursors i l o (Some record { rank = next_rank o; chunk = c }) here h b q in let less = w.sorted j h d.0 e.0 d.1 e.1 lt in let x = d.2 in let y = e.2 in omega arith;
    lists_are = λ j a p. let d = at_moved cursors i l o (Some record { rank = next_rank o; chunk = c }) here j a p in let less = w.lists_are j d.0 d.1 in let x = d.2 in omega arith;
    stand = each_set (λ j a. Stands chunks after (walked + 1) a.list a.reached) cursors i (cursor_at l (next_rank o) c)
        (λ j a n p. stands_still chunks walked (walked + 1) v after a.list a.reached (omega arith) grows (w.stand j a p))
        ((0, from, refl), small, let le = next_is_small chunks walked l v o (w.stand i (record { list = l; reached = o }) here) in omega arith);
    few = few;
    links = link ∷ w.links;
    walk = next_walk;
    counted = let e = w.counted in omega arith;
    passed = λ k j x a p q e. each_cons (λ k x. (j : ℕ) (a : Cursor) → IsAt moved j a → a.list ≡ x.list → x.rank < next_rank a.reached) link w.links passed_link passed_old k x p j a q e;
  }

  module _ (u : Guest) (b : Option ℕ) (r : ℕ) (behind : b ≡ chunk_of o) (rank : r ≡ next_rank o) (read : u ≡ after_read v l (last_link b) r c) where
    after_is : u ≡ after
    after_is = read ∙ (λ k. after_read v l (last_link (behind k)) (rank k) c)

    -- so there is a chunk for one more
    pub one_more : ((most : ℕ) (links : List WalkedLink) → IsWalk u most links → length links ≤ most) → walked + 1 ≤ chunks
    one_more law = let few = law chunks (link ∷ w.links) (subst (λ (x : Guest). IsWalk x chunks (link ∷ w.links)) (sym after_is) next_walk) in let e = w.counted in omega arith

    pub walked_by : (n : ℕ) → n ≡ walked + 1 → walked + 1 ≤ chunks → AreWalked lists chunks u (set cursors i (cursor_at l r c)) n
    walked_by n more few = subst (λ (t : Guest × ℕ × ℕ). AreWalked lists chunks t.0 (set cursors i (cursor_at l t.1 c)) t.2) (λ k. (sym after_is k, sym rank k, sym more k)) (walked_on few)
