-- What the rule tells a seat of the lists, by its own view.
use Rattle.std.proofs.Common.{◌≡◌, ℕ, ◌+◌, ◌-◌, ◌*◌, ◌/◌, ◌%◌, ◌<◌, ◌≤◌, ⊎_elim, Bool, true, false, List, sym, refl, ap, ◌∙◌, subst, arith}
use mathlib.Core.Logic.{dite}
use native.Mathlib.Decide.{dec_le}
use Rattle.list_machine.specs.Words.{Word, link_to}
use Rattle.list_machine.specs.State.{Words, link_at}
use Rattle.list_machine.specs.Facts.{IsAt, Chain, claimed_chain, owned_chain, chain_of, HasChunk, list_of, Holds, is_shut}
use Rattle.list_machine.specs.Rule.{IsStanding, IsSwept, IsOwned, IsStated, Sound}
use Rattle.list_machine.specs.Steps.{KnowsLink, IsNextMark, IsSweptPlace}
use Rattle.list_machine.specs.declared.views.LinkWord.{LinkWord}
use Rattle.list_machine.specs.declared.views.Fact.{Fact}
use Rattle.list_machine.specs.declared.views.Fact.TheVariants.{Item, Closed, Empty}
use Rattle.list_machine.specs.declared.views.Stage.TheVariants.{Swept}
use Rattle.list_machine.specs.declared.views.Unfiled.TheVariants.{Place}
use Rattle.list_machine.specs.declared.views.Leaf.{Leaf}
use Rattle.list_machine.specs.declared.views.Owner.{Owner}
use Rattle.list_machine.specs.declared.views.Guest.{Guest}
use Rattle.list_machine.proofs.Lists.{at_same, some_at, total_at}
use Rattle.list_machine.proofs.Stages.{as_open, as_swept, is_open}
use Rattle.list_machine.proofs.Frames.{must_be_out}
use Rattle.list_machine.proofs.LinkReads.{leads, standing_of}

module _ (w : Words) (o : Owner) (guests : List Guest) (s : Sound w o guests) where
  -- the chunk of a claimed place is linked, and so is each one before it
  pub claim_has_chunk : (j l i q : ℕ) (from : LinkWord) (v : Guest) → IsAt guests j v → v.claim ≡ Place l i → KnowsLink v l from q → 256 * q ≤ i → (c : ℕ) × (c + 1 < 4294967296) × (link_at w l from ≡ link_to q c)
  claim_has_chunk j l i q from v at claim knows le =
      let mine = s.known.seats j v at in
      let out = must_be_out w o.book.leaves v mine (λ z. let e = sym claim ∙ z.1 in absurd (cc)) in
      let p = mine.claim l i claim in
      let z = leads w o guests s j l v at out from q knows in
      let is : z.0 ≡ p.0 = at_same o.book.leaves l z.0 p.0 z.1 p.1 in
      let y = standing_of w o guests s j l v at out z.0 z.1 z.2.0 in
      let list = s.shape.lists.lists l z.0 z.1 in
      let few = list.counted in let room = y.room in let below = p.2.below in
      let d = some_at z.0.claimed q (omega arith) in
      (d.0, y.small d.0 (claimed_chain, q, d.1), y.linked from q d.0 z.2.1 d.1)

  -- a claim word counts no more than was granted in all
  pub count_is_small : (l : ℕ) (a : Leaf) → IsAt o.book.leaves l a → (w.claim l).value < 2147483648
  count_is_small l a leaf = let few = s.shape.lists.few in let counted = (s.shape.lists.lists l a leaf).counted in let one = total_at (λ (e : Leaf). e.granted) o.book.leaves l a leaf in omega arith

  -- what the owner knows of a list with this leaf
  owned_by : (q : ℕ) (f : Fact) (a : Leaf) → IsAt o.facts q f → IsAt o.book.leaves (list_of f) a → IsOwned w f a
  owned_by q f a known leaf = let t = s.known.owner q f known in subst (IsOwned w f) (at_same o.book.leaves (list_of f) t.0 a t.1 leaf) t.2

  -- a list of which the shut bit is raised is shut
  closed_at : (l : ℕ) (a : Leaf) → IsAt o.book.leaves l a → Holds w (Closed l) → is_shut a.stage ≡ true
  closed_at l a leaf holds = sym (s.shape.lists.lists l a leaf).shown ∙ holds

  -- and so is one in which a slot was marked while it was empty
  empty_at : (l c k : ℕ) (a : Leaf) → IsAt o.book.leaves l a → HasChunk a c → k < 256 → Holds w (Empty l c k) → is_shut a.stage ≡ true
  empty_at l c k a leaf has lt holds = by (is_shut a.stage) refl where
    by : (b : Bool) → is_shut a.stage ≡ b → is_shut a.stage ≡ true
    by true e = e
    by false e =
        let low = (as_open (w.claim l) (w.first l) w.next w.slot a (is_open a.stage e) (s.shape.lists.lists l a leaf)).1 c k has lt in
        let high : (w.slot c k).high ≡ true = ap (λ (x : Word). x.high) holds in
        let no : false ≡ true = sym low ∙ high in absurd (cc)

  -- so it is where the owner knows this
  pub closed_is_shut : (l q : ℕ) (a : Leaf) → IsAt o.facts q (Closed l) → IsAt o.book.leaves l a → is_shut a.stage ≡ true
  closed_is_shut l q a known leaf = closed_at l a leaf (owned_by q (Closed l) a known leaf).0

  pub empty_is_shut : (l c k q : ℕ) (a : Leaf) → IsAt o.facts q (Empty l c k) → IsAt o.book.leaves l a → is_shut a.stage ≡ true
  empty_is_shut l c k q a known leaf =
      let owned = owned_by q (Empty l c k) a known leaf in
      let inside : HasChunk a c × (k < 256) = ⊎_elim (λ z. z.1) (λ e. absurd (cc)) owned.1 in
      empty_at l c k a leaf inside.0 inside.1 owned.0

  -- and where a guest does
  guest_states : (j q : ℕ) (v : Guest) (f : Fact) (a : Leaf) → IsAt guests j v → IsAt v.facts q f → IsAt o.book.leaves (list_of f) a → IsStated w v.birth f a
  guest_states j q v f a at known leaf = let t = (s.known.seats j v at).facts q f known in subst (IsStated w v.birth f) (at_same o.book.leaves (list_of f) t.0 a t.1 leaf) t.2

  pub guest_closed_is_shut : (j l q : ℕ) (v : Guest) (a : Leaf) → IsAt guests j v → IsAt v.facts q (Closed l) → IsAt o.book.leaves l a → is_shut a.stage ≡ true
  guest_closed_is_shut j l q v a at known leaf = closed_at l a leaf (guest_states j q v (Closed l) a at known leaf).holds

  pub guest_empty_is_shut : (j l c k q : ℕ) (v : Guest) (a : Leaf) → IsAt guests j v → IsAt v.facts q (Empty l c k) → IsAt o.book.leaves l a → is_shut a.stage ≡ true
  guest_empty_is_shut j l c k q v a at known leaf =
      let stated = guest_states j q v (Empty l c k) a at known leaf in
      let inside : HasChunk a c × (k < 256) = stated.within in
      empty_at l c k a leaf inside.0 inside.1 stated.holds

  -- an item of a shut list stands where the sweep has marked or will mark
  pub item_is_swept : (l c k x p f m q : ℕ) (a : Leaf) → IsAt o.facts q (Item l c k x) → IsAt o.book.leaves l a → a.stage ≡ Swept p f m
      → (y : Chain) × (r : ℕ) × IsAt (chain_of a y) r c × (k < 256) × IsSweptPlace a f y (256 * r + k)
  item_is_swept l c k x p f m q a known leaf shut =
      let owned = owned_by q (Item l c k x) a known leaf in
      let z = as_swept (w.claim l) (w.first l) w.next w.slot a p f m shut (s.shape.lists.lists l a leaf) in
      let inside : HasChunk a c × (k < 256) = ⊎_elim (λ y. y.1) (λ e. absurd (cc)) owned.1 in
      let some : (w.slot c k).value ≡ x + 1 = owned.0 in
      (inside.0.0, inside.0.1, inside.0.2, inside.1, stands z.0 z.1 inside.0.0 inside.0.1 inside.0.2 inside.1 some) where
        stands : IsStanding (w.claim l) (w.first l) w.next w.slot a → IsSwept (w.claim l) w.slot a f m → (y : Chain) (r : ℕ) → IsAt (chain_of a y) r c → k < 256 → (w.slot c k).value ≡ x + 1 → IsSweptPlace a f y (256 * r + k)
        stands y z claimed_chain r here lt some = dite (dec_le f (256 * r + k)) (λ le. let e : (w.slot c k).value ≡ 0 = ap (λ (n : Word). n.value) (z.past r c k here lt le) in absurd (omega arith)) (λ n. omega arith)
        stands y z owned_chain r here lt some = dite (dec_le a.used (256 * r + k)) (λ le. let e : (w.slot c k).value ≡ 0 = ap (λ (n : Word). n.value) (y.unused r c k here lt le) in absurd (omega arith)) (λ n. omega arith)

  -- a sweep that has not marked all goes on
  pub sweep_goes_on : (l p f m : ℕ) (a : Leaf) → IsAt o.book.leaves l a → a.stage ≡ Swept p f m → m < f + a.used → (x : Chain) × (r : ℕ) × (c : ℕ) × (k : ℕ) × IsAt (chain_of a x) r c × (k < 256) × IsNextMark a f m x (256 * r + k)
  sweep_goes_on l p f m a leaf shut lt =
      let list = s.shape.lists.lists l a leaf in
      let z = as_swept (w.claim l) (w.first l) w.next w.slot a p f m shut list in
      let few = list.counted in let room = z.0.room in let used = z.0.used in let found = z.1.within_claims in
      dite (dec_le f m)
      (λ le. let i : ℕ = m - f in let d = some_at a.owned (i / 256) (omega arith) in (owned_chain, i / 256, d.0, i % 256, d.1, omega arith, (omega arith, omega arith)))
      (λ n. let d = some_at a.claimed (m / 256) (omega arith) in (claimed_chain, m / 256, d.0, m % 256, d.1, omega arith, (omega arith, omega arith)))

  -- two facts of the owner about one slot agree
  pub one_item : (l h c k x y p q : ℕ) → IsAt o.facts p (Item l c k x) → IsAt o.facts q (Item h c k y) → x ≡ y
  one_item l h c k x y p q known known' = let a : (w.slot c k).value ≡ x + 1 = (s.known.owner p (Item l c k x) known).2.0 in let b : (w.slot c k).value ≡ y + 1 = (s.known.owner q (Item h c k y) known').2.0 in omega arith

  pub no_item : (l h c k x p q : ℕ) → IsAt o.facts p (Item l c k x) → IsAt o.facts q (Empty h c k) → ⊥
  no_item l h c k x p q known known' = let a : (w.slot c k).value ≡ x + 1 = (s.known.owner p (Item l c k x) known).2.0 in let b : (w.slot c k).value ≡ 0 = ap (λ (n : Word). n.value) (s.known.owner q (Empty h c k) known').2.0 in omega arith

  -- what the owner and the guests know is true now
  pub owner_holds : (q : ℕ) (f : Fact) → IsAt o.facts q f → Holds w f
  owner_holds q f known = (s.known.owner q f known).2.0

  pub guest_holds : (j q : ℕ) (v : Guest) (f : Fact) → IsAt guests j v → IsAt v.facts q f → Holds w f
  guest_holds j q v f at known = ((s.known.seats j v at).facts q f known).2.holds

  -- an item that they know is in a chunk of its list
  pub owner_has_chunk : (l c k x q : ℕ) → IsAt o.facts q (Item l c k x) → (a : Leaf) × IsAt o.book.leaves l a × HasChunk a c × (k < 256)
  owner_has_chunk l c k x q known =
      let t = s.known.owner q (Item l c k x) known in
      let inside : HasChunk t.0 c × (k < 256) = ⊎_elim (λ z. z.1) (λ e. absurd (cc)) t.2.1 in
      (t.0, t.1, inside.0, inside.1)

  pub guest_has_chunk : (j l c k x q : ℕ) (v : Guest) → IsAt guests j v → IsAt v.facts q (Item l c k x) → (a : Leaf) × IsAt o.book.leaves l a × HasChunk a c × (k < 256)
  guest_has_chunk j l c k x q v at known = let t = (s.known.seats j v at).facts q (Item l c k x) known in let inside : HasChunk t.0 c × (k < 256) = t.2.within in (t.0, t.1, inside.0, inside.1)
