-- The marks of a sweep, one after another.
use Rattle.std.proofs.Common.{◌≡◌, ℕ, zero, suc, ◌+◌, ◌-◌, ◌*◌, ◌/◌, ◌%◌, ◌<◌, ◌≤◌, ◌⊎◌, ⊎_elim, inl, inr, Bool, true, false, cond, List, [], ◌∷◌, ◌++◌, length, get_or, set, take, refl, sym, ap, ◌∙◌, subst, arith, get_or-set_same, Contains, vec_len, Vec, Global}
use Rattle.std.specs.Prelude.{Option, Some, None, nat_lt, nat_le, ◌&&◌}
use Rattle.std.specs.Vec.{vec_capacity}
use Rattle.std.proofs.lemmas.Bool.Decides.{nat_tests}
use Rattle.std.proofs.lemmas.Option.{slice_get-get_or, none-some, same_Some}
use Rattle.std.proofs.lemmas.List.Elements.{Contains-append_left, Contains-append_right}
use lib.Seq.{set-get_or, set-set}
use Rattle.list_machine.specs.Words.{Word, item_in}
use Rattle.list_machine.specs.Facts.{IsAt, Chain, claimed_chain, owned_chain, chain_of}
use Rattle.list_machine.proofs.Lists.{some_at}
use Rattle.list_machine.specs.Steps.{with_stage, book_with, mark_shows, opening_leaf, IsSweptPlace}
use Rattle.list_machine.specs.declared.views.Fact.{Fact}
use Rattle.list_machine.specs.declared.views.Fact.TheVariants.{Item, Empty}
use Rattle.list_machine.specs.declared.views.Stage.TheVariants.{Swept}
use Rattle.list_machine.specs.declared.views.Leaf.{Leaf}
use Rattle.list_table.specs.Ledgers.{Knows, shown, IsNoted, IsKept, no_notes, leaf_of, notes_of}
use Rattle.list_table.proofs.Frames.{leaf_at, notes_at}
use Rattle.list_table.specs.OwnerMoves.{MayMark, after_mark, item_found, marked_notes, one_more_mark, ledger_after_shut}
use Rattle.list_table.specs.Tables.{OwnerValue}
use Rattle.list_table.specs.declared.views.Notes.{Notes}
use Rattle.list_table.specs.declared.views.Ledger.{Ledger}
use Rattle.chunk_lists.specs.Sweeps.{AreSwept, items_in}
use Rattle.chunk_lists.proofs.Chunks.{at_contained}
use Rattle.chunk_lists.proofs.Ties.{set_here}

-- the items of one more note
pub items_more : (marked : List (Option ℕ)) (y : Option ℕ) → items_in (marked ++ y ∷ []) ≡ items_in marked ++ items_in (y ∷ [])
items_more [] y = refl
items_more (None ∷ ms) y = items_more ms y
items_more (Some x ∷ ms) y = λ i. x ∷ items_more ms y i

-- what a mark found and what a word has are one, where the item is a number of 32 bits
pub found_item : (w : Word) → w.value ≤ 4294967296 → item_found w ≡ item_in w
found_item w le = by (nat_lt 0 w.value) refl where
  by : (b : Bool) → nat_lt 0 w.value ≡ b → cond b (Some (w.value - 1)) None ≡ cond (nat_le 1 w.value && nat_le w.value 4294967296) (Some (w.value - 1)) None
  by true e = let t : true ≡ (nat_le 1 w.value && nat_le w.value 4294967296) = sym (grind (arith, nat_tests)) in ap (λ (b : Bool). cond b (Some (w.value - 1)) None) t
  by false e = let t : false ≡ (nat_le 1 w.value && nat_le w.value 4294967296) = sym (grind (arith, nat_tests)) in ap (λ (b : Bool). cond b (Some (w.value - 1)) None) t

module _ (g h : Ledger) (l p f m : ℕ) (marked : List (Option ℕ)) (s : AreSwept g h l p f m marked) (n : ℕ) (long : length g.owner.book.leaves ≡ n) (notes_long : length g.notes ≡ n) (lt : l < n) where
  -- the list now
  pub leaf_now : leaf_of h l ≡ with_stage (leaf_of g l) (Swept p f m)
  leaf_now = set_here g.owner.book.leaves h.owner.book.leaves l (with_stage (leaf_of g l) (Swept p f m)) opening_leaf (ap (λ b. b.leaves) s.book_is) (omega arith)

  pub notes_now : notes_of h l ≡ record { placed = (notes_of g l).placed; marked = marked }
  notes_now = set_here g.notes h.notes l (record { placed = (notes_of g l).placed; marked = marked }) no_notes s.notes_is (omega arith)

  pub may_mark_claimed : (c : ℕ) → m < f → IsAt (leaf_of g l).claimed (m / 256) c → MayMark h l c (m % 256)
  may_mark_claimed c below chunk = record { place = p; found = f; marks = m; shut = ap (λ (a : Leaf). a.stage) leaf_now; here = inl (below, subst (λ (a : Leaf). IsAt a.claimed (m / 256) c) (sym leaf_now) chunk, refl) }

  pub may_mark_owned : (c i : ℕ) → m ≡ f + i → i < (leaf_of g l).used → IsAt (leaf_of g l).owned (i / 256) c → MayMark h l c (i % 256)
  may_mark_owned c i e below chunk =
      let same : i ≡ m - f = omega arith in record {
        place = p;
        found = f;
        marks = m;
        shut = ap (λ (a : Leaf). a.stage) leaf_now;
        here = inr (omega arith, subst (λ (a : Leaf). m < f + a.used) (sym leaf_now) (omega arith), subst (λ (z : Leaf × ℕ). IsAt z.0.owned (z.1 / 256) c) (λ j. (sym leaf_now j, same j)) chunk, ap (λ (k : ℕ). k % 256) same);
      }

  module _ (c k : ℕ) (w : Word) where
    book_next : (after_mark h l c k w).owner.book ≡ book_with g.owner.book l (with_stage (leaf_of g l) (Swept p f (suc m)))
    book_next = (λ j. book_with (s.book_is j) l (with_stage (leaf_now j) (one_more_mark (leaf_now j).stage)))
        ∙ (λ j. record g.owner.book { leaves = set-set g.owner.book.leaves l (with_stage (leaf_of g l) (Swept p f m)) (with_stage (leaf_of g l) (Swept p f (suc m))) j })

    -- the notes after one more mark
    notes_next : (next : List (Option ℕ)) → marked_notes (Swept p f m) (record { placed = (notes_of g l).placed; marked = marked }) w ≡ record { placed = (notes_of g l).placed; marked = next } → (after_mark h l c k w).notes ≡ set g.notes l (record { placed = (notes_of g l).placed; marked = next })
    notes_next next e = (λ j. set (s.notes_is j) l (marked_notes (leaf_now j).stage (notes_now j) w))
        ∙ (ap (set (set g.notes l (record { placed = (notes_of g l).placed; marked = marked })) l) e ∙ set-set g.notes l (record { placed = (notes_of g l).placed; marked = marked }) (record { placed = (notes_of g l).placed; marked = next }))

    pub swept_claimed : m < f → AreSwept g (after_mark h l c k w) l p f (suc m) (marked ++ item_found w ∷ [])
    swept_claimed below = record {
      book_is = book_next;
      out_is = s.out_is;
      notes_is = notes_next (marked ++ item_found w ∷ []) (let b : nat_lt m f ≡ true = grind (arith, nat_tests) in ap (λ (b : Bool). cond b (record { placed = (notes_of g l).placed; marked = marked ++ item_found w ∷ [] }) (record { placed = (notes_of g l).placed; marked = marked })) b);
      known = λ q x. let y = s.known q x in (suc y.0, y.1);
    }

    pub swept_owned : f ≤ m → AreSwept g (after_mark h l c k w) l p f (suc m) marked
    swept_owned le = record {
      book_is = book_next;
      out_is = s.out_is;
      notes_is = notes_next marked (let b : nat_lt m f ≡ false = grind (arith, nat_tests) in ap (λ (b : Bool). cond b (record { placed = (notes_of g l).placed; marked = marked ++ item_found w ∷ [] }) (record { placed = (notes_of g l).placed; marked = marked })) b);
      known = λ q x. let y = s.known q x in (suc y.0, y.1);
    }

-- nothing was marked yet, of those that are to be marked
pub swept_start : (g : Ledger) (l p f m : ℕ) (marked : List (Option ℕ)) → (leaf_of g l).stage ≡ Swept p f m → (notes_of g l).marked ≡ marked → AreSwept g g l p f m marked
swept_start g l p f m marked e none = record {
  book_is = (λ i. record g.owner.book { leaves = sym (set-get_or g.owner.book.leaves l opening_leaf) i }) ∙ (λ i. book_with g.owner.book l (with_stage (leaf_of g l) (e i)));
  out_is = refl;
  notes_is = sym (set-get_or g.notes l no_notes) ∙ (λ i. set g.notes l (record { placed = (notes_of g l).placed; marked = none i }));
  known = λ f q. q;
}

-- a sweep of the claimed slots so far
pub record IsSweeping (before after : OwnerValue) (l found place : ℕ) (old new : Vec ℕ Global) : Type 0 where
  pub name : after.name ≡ before.name
  pub first : ℕ
  pub marked : List (Option ℕ)
  pub swept : AreSwept before.ledger after.ledger l first found place marked
  pub count : length marked ≡ place
  pub items : new.items ≡ old.items ++ items_in marked
  pub len : vec_len new ≤ vec_len old + place
  pub capacity : vec_capacity old ≤ vec_capacity new

-- and of the owned ones
pub record IsEmptying (before after : OwnerValue) (l found place : ℕ) (old new : Vec ℕ Global) : Type 0 where
  pub name : after.name ≡ before.name
  pub first : ℕ
  pub swept : AreSwept before.ledger after.ledger l first found (found + place) (notes_of before.ledger l).marked
  pub items : new.items ≡ old.items ++ take place (notes_of before.ledger l).placed
  pub len : vec_len new ≤ vec_len old + place
  pub capacity : vec_capacity old ≤ vec_capacity new

-- a mark of a slot in which the owner knows an item found it
pub mark_found : (facts : List Fact) (l c k x : ℕ) (w : Word) → ((h : ℕ) (y z : ℕ) → Knows facts (Item h c k y) → Knows facts (Item l c k z) → y ≡ z) → ((h y : ℕ) → Knows facts (Item h c k y) → Knows facts (Empty l c k) → ⊥)
    → Knows facts (Item l c k x) → Knows facts (mark_shows l c k w) → item_found w ≡ Some x
mark_found facts l c k x w one none item shown = by (nat_lt 0 w.value) refl shown where
  by : (b : Bool) → nat_lt 0 w.value ≡ b → Knows facts (cond b (Item l c k (w.value - 1)) (Empty l c k)) → cond b (Some (w.value - 1)) None ≡ Some x
  by true e q = ap Some (sym (one l x (w.value - 1) item q))
  by false e q = absurd (none l x item q)

-- the placed item of a used slot is known
pub placed_known : (g : Ledger) (l p f n i c : ℕ) → IsKept g → length g.owner.book.leaves ≡ n → l < n → (leaf_of g l).stage ≡ Swept p f f → i < (leaf_of g l).used → IsAt (leaf_of g l).owned (i / 256) c
    → (i < length (notes_of g l).placed) × Knows g.owner.facts (Item l c (i % 256) (get_or (notes_of g l).placed i 0))
placed_known g l p f n i c kept long lt shut below chunk =
    let noted : IsNoted g.owner.facts l (leaf_of g l) (notes_of g l) (Swept p f f) = subst (IsNoted g.owner.facts l (leaf_of g l) (notes_of g l)) shut (kept.noted l (leaf_of g l) (notes_of g l) (leaf_at g n l long lt) (notes_at g n l kept long lt)) in
    let count = noted.0.counted in
    let within : i < length (notes_of g l).placed = omega arith in
    let place : i ≡ 256 * (i / 256) + i % 256 = omega arith in
    (within, noted.0.known (i / 256) c (i % 256) (get_or (notes_of g l).placed i 0) chunk (omega arith) (subst (λ (k : ℕ). IsAt (notes_of g l).placed k (get_or (notes_of g l).placed i 0)) place (slice_get-get_or (notes_of g l).placed i 0 within)))

pub placed_all : (g : Ledger) (l p f n : ℕ) → IsKept g → length g.owner.book.leaves ≡ n → l < n → (leaf_of g l).stage ≡ Swept p f f → length (notes_of g l).placed ≡ (leaf_of g l).used
placed_all g l p f n kept long lt shut = (subst (IsNoted g.owner.facts l (leaf_of g l) (notes_of g l)) shut (kept.noted l (leaf_of g l) (notes_of g l) (leaf_at g n l long lt) (notes_at g n l kept long lt))).0.counted

-- a sweep in two parts
pub swept_both : (g h k : Ledger) (l p q f m n : ℕ) (marked : List (Option ℕ)) → AreSwept g h l p f m marked → AreSwept h k l q f n (notes_of h l).marked → (lists : ℕ) → length g.owner.book.leaves ≡ lists → length g.notes ≡ lists → l < lists → AreSwept g k l q f n marked
swept_both g h k l p q f m n marked a b lists long notes_long lt =
    let leaf = leaf_now g h l p f m marked a lists long notes_long lt in
    let notes = notes_now g h l p f m marked a lists long notes_long lt in record {
      book_is = b.book_is ∙ ((λ i. book_with (a.book_is i) l (with_stage (leaf i) (Swept q f n)))
          ∙ (λ i. record g.owner.book { leaves = set-set g.owner.book.leaves l (with_stage (leaf_of g l) (Swept p f m)) (with_stage (leaf_of g l) (Swept q f n)) i }));
      out_is = b.out_is ∙ a.out_is;
      notes_is = b.notes_is ∙ ((λ i. set (a.notes_is i) l (record { placed = (notes i).placed; marked = (notes i).marked }))
          ∙ set-set g.notes l (record { placed = (notes_of g l).placed; marked = marked }) (record { placed = (notes_of g l).placed; marked = marked }));
      known = λ x y. b.known x (a.known x y);
    }

-- a shut list, by the ledger before
module _ (g : Ledger) (l found n : ℕ) (long : length g.owner.book.leaves ≡ n) (lt : l < n) where
  pub leaf_shut : leaf_of (ledger_after_shut g l found) l ≡ with_stage (leaf_of g l) (Swept (length g.owner.book.order) found 0)
  leaf_shut = get_or-set_same g.owner.book.leaves l (with_stage (leaf_of g l) (Swept (length g.owner.book.order) found 0)) opening_leaf (omega arith)

-- an item at a place of the marks
marked_contains : (marked : List (Option ℕ)) (i x : ℕ) → IsAt marked i (Some x) → Contains (items_in marked) x
marked_contains [] i x at = absurd (none-some (Some x) at)
marked_contains (None ∷ ms) zero x at = let e = same_Some None (Some x) at in absurd (cc)
marked_contains (Some y ∷ ms) zero x at = (0, omega arith, some_same y x (same_Some (Some y) (Some x) at)) where
  some_same : (y x : ℕ) → Some y ≡ Some x → y ≡ x
  some_same y x e = same_Some y x e
marked_contains (None ∷ ms) (suc i) x at = marked_contains ms i x at
marked_contains (Some y ∷ ms) (suc i) x at = let q = marked_contains ms i x at in (suc q.0, (let lt = q.1 in omega arith), q.2)

-- where a sweep found an item: by the mark of a place in the claimed chain, or as the item placed in the owned one
abbrev pub IsNotedAt : Leaf → Notes → ℕ → ℕ → ℕ → Type 0
IsNotedAt a t c k x = ((r : ℕ) × IsAt a.claimed r c × IsAt t.marked (256 * r + k) (Some x)) ⊎ ((r : ℕ) × IsAt a.owned r c × IsAt t.placed (256 * r + k) x)

-- each item that the owner knows to stand in a list is found by its sweep
pub item_noted : (h : Ledger) (l p f m n c k x : ℕ) (a : Leaf) (t : Notes) → leaf_of h l ≡ a → notes_of h l ≡ t → a.stage ≡ Swept p f m → f + a.used ≤ m → IsKept h → length h.owner.book.leaves ≡ n → l < n
    → ((o b d i y z : ℕ) → Knows h.owner.facts (Item o d i y) → Knows h.owner.facts (Item b d i z) → y ≡ z) → ((o b d i y : ℕ) → Knows h.owner.facts (Item o d i y) → Knows h.owner.facts (Empty b d i) → ⊥)
    → ((y : Chain) × (r : ℕ) × IsAt (chain_of a y) r c × (k < 256) × IsSweptPlace a f y (256 * r + k))
    → Knows h.owner.facts (Item l c k x) → IsNotedAt a t c k x
item_noted h l p f m n c k x a t leaf notes shut all kept long lt one none place item = by place.0 place.2 place.4 where
  noted : IsNoted h.owner.facts l a t (Swept p f m)
  noted = subst (IsNoted h.owner.facts l a t) shut (subst (λ (z : Leaf × Notes). IsNoted h.owner.facts l z.0 z.1 z.0.stage) (λ i. (leaf i, notes i)) (kept.noted l (leaf_of h l) (notes_of h l) (leaf_at h n l long lt) (notes_at h n l kept long lt)))

  r : ℕ
  r = place.1

  found : (y : Option ℕ) → IsAt t.marked (256 * place.1 + k) y → Knows h.owner.facts (shown l c k y) → IsAt t.marked (256 * place.1 + k) (Some x)
  found (Some y) at q = at ∙ ap (λ (z : ℕ). Some (Some z)) (sym (one l l c k x y item q))
  found None at q = absurd (none l l c k x item q)

  by : (y : Chain) → IsAt (chain_of a y) place.1 c → IsSweptPlace a f y (256 * place.1 + k) → IsNotedAt a t c k x
  by claimed_chain at lt' = let count = noted.1.all (omega arith) in let z = some_at t.marked (256 * place.1 + k) (omega arith) in
      inl (place.1, at, found z.0 z.1 (noted.1.known place.1 c k z.0 at place.3 z.1))
  by owned_chain at lt' = let count = noted.0.counted in let z = some_at t.placed (256 * place.1 + k) (omega arith) in
      let same = one l l c k x z.0 item (noted.0.known place.1 c k z.0 at place.3 z.1) in
      inr (place.1, at, z.1 ∙ ap Some (sym same))

pub noted_is_found : (a : Leaf) (t : Notes) (c k x : ℕ) → IsNotedAt a t c k x → Contains (items_in t.marked ++ t.placed) x
noted_is_found a t c k x noted = ⊎_elim
    (λ z. Contains-append_left (items_in t.marked) t.placed x (marked_contains t.marked (256 * z.0 + k) x z.2))
    (λ z. Contains-append_right (items_in t.marked) t.placed x (at_contained t.placed (256 * z.0 + k) x z.2)) noted
