-- The words of a list are cleared, one after another.
use Rattle.std.proofs.Common.{◌≡◌, ℕ, suc, ◌+◌, ◌-◌, ◌*◌, ◌<◌, List, length, set, length-set, sym, ap, ◌∙◌, subst, arith, get_or-set_same}
use lib.Seq.{set-get_or, set-set}
use Rattle.list_machine.specs.Facts.{IsAt}
use Rattle.list_machine.specs.Steps.{with_stage, opening_leaf, without_chains}
use Rattle.list_machine.specs.declared.views.Stage.TheVariants.{Cleared}
use Rattle.list_machine.specs.declared.views.Leaf.{Leaf}
use Rattle.list_table.specs.Ledgers.{leaf_of}
use Rattle.list_table.specs.OwnerMoves.{chunks_in, MayClearSlot, MayClearLink, after_clear, one_more_clear, after_begin, after_end, IsAllClear}
use Rattle.list_table.specs.declared.views.Ledger.{Ledger}
use Rattle.chunk_lists.specs.Wipes.{AreWiped, wiped_to, cleared_ledger}

module _ (g : Ledger) (l n : ℕ) (long : length g.owner.book.leaves ≡ n) (lt : l < n) where
  abbrev p : ℕ
  p = g.owner.book.cleared - 1

  -- the list once so many words are cleared
  pub wiped_leaf : (m : ℕ) → leaf_of (wiped_to g l m) l ≡ with_stage (leaf_of g l) (Cleared p m)
  wiped_leaf m = get_or-set_same g.owner.book.leaves l (with_stage (leaf_of g l) (Cleared p m)) opening_leaf (omega arith)

  pub wiped_self : (m : ℕ) → AreWiped g l m → g ≡ wiped_to g l m
  wiped_self m e = (λ i. record g { owner = record g.owner { book = record g.owner.book { leaves = sym (set-get_or g.owner.book.leaves l opening_leaf) i } } })
      ∙ (λ i. record g { owner = record g.owner { book = record g.owner.book { leaves = set g.owner.book.leaves l (with_stage (leaf_of g l) (e i)) } } })

  -- and more
  pub wiped_more : (m k : ℕ) → wiped_to (wiped_to g l m) l k ≡ wiped_to g l k
  wiped_more m k = (λ i. record g { owner = record g.owner { book = record g.owner.book { leaves = set (set g.owner.book.leaves l (with_stage (leaf_of g l) (Cleared p m))) l (with_stage (wiped_leaf m i) (Cleared p k)) } } })
      ∙ (λ i. record g { owner = record g.owner { book = record g.owner.book { leaves = set-set g.owner.book.leaves l (with_stage (leaf_of g l) (Cleared p m)) (with_stage (leaf_of g l) (Cleared p k)) i } } })

  pub wiped_next : (m : ℕ) → after_clear (wiped_to g l m) l ≡ wiped_to g l (suc m)
  wiped_next m = (λ i. record g { owner = record g.owner { book = record g.owner.book { leaves = set (set g.owner.book.leaves l (with_stage (leaf_of g l) (Cleared p m))) l (with_stage (wiped_leaf m i) (one_more_clear (wiped_leaf m i).stage)) } } })
      ∙ (λ i. record g { owner = record g.owner { book = record g.owner.book { leaves = set-set g.owner.book.leaves l (with_stage (leaf_of g l) (Cleared p m)) (with_stage (leaf_of g l) (Cleared p (suc m))) i } } })

  pub wiped_stage : (m : ℕ) → AreWiped (wiped_to g l m) l m
  wiped_stage m = ap (λ (a : Leaf). a.stage) (wiped_leaf m)

  pub wiped_chunks : (m : ℕ) → chunks_in (leaf_of (wiped_to g l m) l) ≡ chunks_in (leaf_of g l)
  wiped_chunks m = ap chunks_in (wiped_leaf m)

  pub wiped_long : (m : ℕ) → length (wiped_to g l m).owner.book.leaves ≡ n
  wiped_long m = length-set g.owner.book.leaves l (with_stage (leaf_of g l) (Cleared p m)) ∙ long

  -- the next word, of a list of which so many are cleared
  pub may_slot : (h : Ledger) (m r c k : ℕ) → h ≡ wiped_to g l m → m ≡ 257 * r + k + 1 → k < 256 → IsAt (chunks_in (leaf_of g l)) r c → MayClearSlot h l c k
  may_slot h m r c k is e within at = subst (λ (x : Ledger). MayClearSlot x l c k) (sym is) (record { place = p; rank = r; begun = wiped_stage m ∙ ap (Cleared p) e; chunk = subst (λ (cs : List ℕ). IsAt cs r c) (sym (wiped_chunks m)) at; within = within })

  pub may_link : (h : Ledger) (m r c : ℕ) → h ≡ wiped_to g l m → m ≡ 257 * r + 257 → IsAt (chunks_in (leaf_of g l)) r c → MayClearLink h l c
  may_link h m r c is e at = subst (λ (x : Ledger). MayClearLink x l c) (sym is) (record { place = p; rank = r; begun = wiped_stage m ∙ ap (Cleared p) e; chunk = subst (λ (cs : List ℕ). IsAt cs r c) (sym (wiped_chunks m)) at })

  pub next_word : (h : Ledger) (m k : ℕ) → h ≡ wiped_to g l m → suc m ≡ k → after_clear h l ≡ wiped_to g l k
  next_word h m k is e = ap (λ (x : Ledger). after_clear x l) is ∙ (wiped_next m ∙ ap (wiped_to g l) e)

-- the list, once its clearing has begun
module _ (g : Ledger) (l n : ℕ) (long : length g.owner.book.leaves ≡ n) (lt : l < n) where
  abbrev c : ℕ
  c = g.owner.book.cleared

  back : suc c - 1 ≡ c
  back = omega arith

  abbrev h : Ledger
  h = after_begin g l

  pub begun_leaf : leaf_of h l ≡ with_stage (leaf_of g l) (Cleared c 1)
  begun_leaf = get_or-set_same g.owner.book.leaves l (with_stage (leaf_of g l) (Cleared c 1)) opening_leaf (omega arith)

  pub begun_wiped : AreWiped h l 1
  begun_wiped = ap (λ (a : Leaf). a.stage) begun_leaf ∙ ap (λ (k : ℕ). Cleared k 1) (sym back)

  pub begun_long : length h.owner.book.leaves ≡ n
  begun_long = length-set g.owner.book.leaves l (with_stage (leaf_of g l) (Cleared c 1)) ∙ long

  module _ (k : Ledger) (m : ℕ) (is : k ≡ wiped_to h l m) (all : m ≡ 257 * length (chunks_in (leaf_of g l)) + 1) where
    last_leaf : leaf_of (wiped_to h l m) l ≡ with_stage (leaf_of g l) (Cleared c m)
    last_leaf = wiped_leaf h l n begun_long lt m ∙ (λ i. with_stage (begun_leaf i) (Cleared (back i) m))

    pub all_clear : IsAllClear k l
    all_clear = subst (λ (x : Ledger). IsAllClear x l) (sym is) (record { place = c; begun = ap (λ (a : Leaf). a.stage) last_leaf ∙ (ap (Cleared c) all ∙ ap (λ (a : Leaf). Cleared c (257 * length (chunks_in a) + 1)) (sym last_leaf)) })

    pub ended : after_end k l ≡ cleared_ledger g l
    ended =
        ap (λ (x : Ledger). after_end x l) is
        ∙ (λ i. record (cleared_ledger g l) { owner = record (cleared_ledger g l).owner { book = record (cleared_ledger g l).owner.book { leaves = leaves i } } }) where
          leaves : set (set (set g.owner.book.leaves l (with_stage (leaf_of g l) (Cleared c 1))) l (with_stage (leaf_of h l) (Cleared (suc c - 1) m))) l (without_chains (leaf_of (wiped_to h l m) l))
              ≡ (cleared_ledger g l).owner.book.leaves
          leaves = ap (λ (a : Leaf). set (set (set g.owner.book.leaves l (with_stage (leaf_of g l) (Cleared c 1))) l (with_stage (leaf_of h l) (Cleared (suc c - 1) m))) l (without_chains a)) last_leaf
              ∙ (set-set (set g.owner.book.leaves l (with_stage (leaf_of g l) (Cleared c 1))) l (with_stage (leaf_of h l) (Cleared (suc c - 1) m)) (without_chains (with_stage (leaf_of g l) (Cleared c m)))
              ∙ (set-set g.owner.book.leaves l (with_stage (leaf_of g l) (Cleared c 1)) (without_chains (with_stage (leaf_of g l) (Cleared c m)))
              ∙ ap (λ (j : ℕ). set g.owner.book.leaves l (without_chains (with_stage (leaf_of g l) (Cleared c j)))) all))
