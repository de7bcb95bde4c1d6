-- A free chunk that joins a chain keeps the rule.
use Rattle.std.proofs.Common.{◌≡◌, ℕ, suc, ◌+◌, ◌*◌, ◌<◌, ◌≤◌, ◌⊎◌, inl, inr, ⊎_elim, false, List, [], ◌∷◌, ◌++◌, length, length-append, set, sym, refl, ap, ◌∙◌, subst, arith}
use Rattle.list_machine.specs.Words.{Word, blank, link_to}
use Rattle.list_machine.specs.State.{Words, put_link, link_at}
use Rattle.list_machine.specs.Facts.{IsAt, Chain, claimed_chain, owned_chain, chain_of, LeadsTo, list_of, Holds, Stands}
use Rattle.list_machine.specs.Rule.{IsStanding, IsUnmarked, HoldsAt, IsList, IsFree, AreKnown, Sound}
use Rattle.list_machine.specs.Steps.{with_leaf, with_claimed, with_owned, with_fact}
use Rattle.list_machine.specs.declared.views.LinkWord.{LinkWord}
use Rattle.list_machine.specs.declared.views.LinkWord.TheVariants.{OfList, OfChunk}
use Rattle.list_machine.specs.declared.views.Fact.{Fact}
use Rattle.list_machine.specs.declared.views.Fact.TheVariants.{Item, Link, Closed, Empty}
use Rattle.list_machine.specs.declared.views.Stage.TheVariants.{Open, Cleared}
use Rattle.list_machine.specs.declared.views.Leaf.{Leaf}
use Rattle.list_machine.specs.declared.views.Owner.{Owner}
use Rattle.list_machine.specs.declared.views.Guest.{Guest}
use Rattle.list_machine.proofs.Puts.{put_here, putting}
use Rattle.list_machine.proofs.Lists.{at_same, at_set_same, at_below, at_left, at_more, at_last}
use Rattle.list_machine.proofs.Stages.{as_open, within_more}
use Rattle.list_machine.proofs.Frames.{lists_frame, known_frame, order_frame}
use Rattle.list_machine.proofs.Changes.{same_elsewhere, link_elsewhere}
use Rattle.list_machine.proofs.Fills.{own_once}
use Rattle.list_machine.proofs.Guests.{owner_learns}

-- a link word is the changed one, or as it was
pub putting_link : (w : Words) (l : ℕ) (from : LinkWord) (n : ℕ) (at : LinkWord) (F : ℕ → Type 0) → (at ≡ from → F n) → ((at ≡ from → ⊥) → F (link_at w l at)) → F (link_at (put_link w l from n) l at)
putting_link w l OfList n OfList F hit miss = subst F (sym (put_here w.first l n)) (hit refl)
putting_link w l OfList n (OfChunk b) F hit miss = miss (λ e. cc)
putting_link w l (OfChunk d) n OfList F hit miss = miss (λ e. cc)
putting_link w l (OfChunk d) n (OfChunk b) F hit miss = putting w.next d n b F (λ e. hit (ap OfChunk e)) (λ ne. miss (λ e. ne (same_chunk e))) where
  same_chunk : OfChunk b ≡ OfChunk d → b ≡ d
  same_chunk e = cc

module _ (claimed : List ℕ) (once : (r q c : ℕ) → IsAt claimed r c → IsAt claimed q c → r ≡ q) where
  -- one link word leads to one rank, and to a rank one link word
  pub one_rank : (from : LinkWord) (r q : ℕ) → LeadsTo claimed from r → LeadsTo claimed from q → r ≡ q
  one_rank OfList r q x y = omega arith
  one_rank (OfChunk b) r q x y = let e = once x.0 y.0 b x.2 y.2 in let x1 = x.1 in let y1 = y.1 in omega arith

  pub one_link : (from at : LinkWord) (r : ℕ) → LeadsTo claimed from r → LeadsTo claimed at r → at ≡ from
  one_link OfList OfList r x y = refl
  one_link OfList (OfChunk b) r x y = let y1 = y.1 in absurd (omega arith)
  one_link (OfChunk d) OfList r x y = let x1 = x.1 in absurd (omega arith)
  one_link (OfChunk d) (OfChunk b) r x y = let x1 = x.1 in let y1 = y.1 in let e : x.0 ≡ y.0 = omega arith in ap OfChunk (sym (at_same claimed y.0 d b (subst (λ (q : ℕ). IsAt claimed q d) e x.2) y.2))

-- what leads to a rank of a chain with one chunk more
pub leads_before : (claimed : List ℕ) (c : ℕ) (at : LinkWord) (r : ℕ) → LeadsTo (claimed ++ c ∷ []) at r → r ≤ length claimed → LeadsTo claimed at r
leads_before claimed c OfList r x le = x
leads_before claimed c (OfChunk b) r x le = let x1 = x.1 in at_more claimed c x.0 b (LeadsTo claimed (OfChunk b) r) x.2 (λ old. (x.0, x1, old)) (λ e _. absurd (omega arith))

module _ (w : Words) (o : Owner) (guests : List Guest) (s : Sound w o guests) (l c : ℕ) (a : Leaf) (leaf : IsAt o.book.leaves l a) (unshut : a.stage ≡ Open) (free : IsFree o.book.leaves c) (small : c + 1 < 4294967296) where
  abbrev leaves : List Leaf
  leaves = o.book.leaves

  list : IsList (w.claim l) (w.first l) w.next w.slot a
  list = s.shape.lists.lists l a leaf

  standing : IsStanding (w.claim l) (w.first l) w.next w.slot a × IsUnmarked w.slot a
  standing = as_open (w.claim l) (w.first l) w.next w.slot a unshut list

  next_zero : w.next c ≡ 0
  next_zero = (s.shape.lists.free c free).0

  slot_blank : (k : ℕ) → k < 256 → w.slot c k ≡ blank
  slot_blank k lt = (s.shape.lists.free c free).1 k lt

  claimed_once : (r q d : ℕ) → IsAt a.claimed r d → IsAt a.claimed q d → r ≡ q
  claimed_once r q d x y = (own_once w leaves l a s.shape.lists leaf claimed_chain claimed_chain r q d x y).1

  -- the chunk joins the owned chain, which changes no word
  abbrev b : Leaf
  b = with_owned a c

  owned_more : (x : Chain) (r d : ℕ) → IsAt (chain_of a x) r d → IsAt (chain_of b x) r d
  owned_more claimed_chain r d p = p
  owned_more owned_chain r d p = at_left a.owned (c ∷ []) r d p

  owned_old : (x : Chain) (r d : ℕ) (F : Type 0) → IsAt (chain_of b x) r d → (IsAt (chain_of a x) r d → F) → (x ≡ owned_chain → r ≡ length a.owned → d ≡ c → F) → F
  owned_old claimed_chain r d F p old new = old p
  owned_old owned_chain r d F p old new = at_more a.owned c r d F p old (λ e e'. new refl e (sym e'))

  owned_list : IsList (w.claim l) (w.first l) w.next w.slot b
  owned_list = record {
    counted = list.counted;
    shown = list.shown;
    now = subst (HoldsAt (w.claim l) (w.first l) w.next w.slot b) (sym unshut) (
      record {
        filled = standing.0.filled;
        unused = λ r d k p lt u. owned_old owned_chain r d (w.slot d k ≡ blank) p (λ old. standing.0.unused r d k old lt u) (λ _ _ e. subst (λ (y : ℕ). w.slot y k ≡ blank) (sym e) (slot_blank k lt));
        used = let y = standing.0.used in omega (arith, length-append a.owned (c ∷ []));
        room = standing.0.room;
        linked = standing.0.linked;
        ended = standing.0.ended;
        small = λ d has. owned_old has.0 has.1 d (d + 1 < 4294967296) has.2 (λ old. standing.0.small d (has.0, has.1, old)) (λ _ _ e. subst (λ (y : ℕ). y + 1 < 4294967296) (sym e) small);
      },
      λ d k has lt. owned_old has.0 has.1 d ((w.slot d k).high ≡ false) has.2 (λ old. standing.1 d k (has.0, has.1, old) lt) (λ _ _ e. subst (λ (y : ℕ). (w.slot y k).high ≡ false) (sym e) (ap (λ (x : Word). x.high) (slot_blank k lt))),
    );
  }

  pub adopts : Sound w (with_leaf o l b) guests
  adopts = record {
    shape = record {
      lists = lists_frame w w leaves l a b s.shape.lists leaf (same_elsewhere w l a) owned_chain (length a.owned) c
          (λ x r d p. owned_old x r d (IsAt (chain_of a x) r d ⊎ (IsFree leaves d × (x ≡ owned_chain) × (r ≡ length a.owned) × (d ≡ c))) p inl (λ e0 e1 e2. inr (subst (IsFree leaves) (sym e2) free, e0, e1, e2)))
          owned_list refl (λ d has never. absurd (never (has.0, has.1, owned_more has.0 has.1 d has.2)));
      order = order_frame leaves o.book.order o.book.cleared l a b leaf s.shape.order refl (s.shape.order.begun l a leaf) (λ p n st. let e : Open ≡ Cleared p n = sym unshut ∙ st in absurd (cc));
    };
    known = known_frame w w leaves l a b s.shape.lists leaf (same_elsewhere w l a) o.facts guests s.known
        (λ j v p out reached. record {
          reached = reached;
          facts = λ f is inside t. (within_more a b owned_more f inside, t);
          claim = λ i e t. record { reached = t.reached; below = t.below; vacant = t.vacant; before = t.before };
        })
        (λ k f p is t. (t.0, ⊎_elim (λ z. inl (z.0, within_more a b owned_more f z.1)) inr t.1))
        (s.known.granted l a leaf);
    counted = s.counted;
  }

  -- the chunk is linked behind the claimed chain
  module _ (from : LinkWord) (last : LeadsTo a.claimed from (length a.claimed)) where
    abbrev rank : ℕ
    rank = length a.claimed

    abbrev w' : Words
    w' = put_link w l from (link_to rank c)

    abbrev a' : Leaf
    a' = with_claimed a c

    more : (x : Chain) (r d : ℕ) → IsAt (chain_of a x) r d → IsAt (chain_of a' x) r d
    more claimed_chain r d p = at_left a.claimed (c ∷ []) r d p
    more owned_chain r d p = p

    old_or : (x : Chain) (r d : ℕ) (F : Type 0) → IsAt (chain_of a' x) r d → (IsAt (chain_of a x) r d → F) → (x ≡ claimed_chain → r ≡ rank → d ≡ c → F) → F
    old_or claimed_chain r d F p old new = at_more a.claimed c r d F p old (λ e e'. new refl e (sym e'))
    old_or owned_chain r d F p old new = old p

    was_zero : link_at w l from ≡ 0
    was_zero = standing.0.ended from last

    -- the new chunk's own link is 0
    new_ends : (at : LinkWord) → at ≡ OfChunk c → link_at w' l at ≡ 0
    new_ends at is = putting_link w l from (link_to rank c) at (λ n. n ≡ 0) (λ e. absurd (not_new (sym is ∙ e)))
        (λ _. subst (λ (y : LinkWord). link_at w l y ≡ 0) (sym is) next_zero) where
          not_new : OfChunk c ≡ from → ⊥
          not_new e = let t : LeadsTo a.claimed (OfChunk c) rank = subst (λ (y : LinkWord). LeadsTo a.claimed y rank) (sym e) last in free l a leaf (claimed_chain, t.0, t.2)

    linked_on : (at : LinkWord) (r d : ℕ) → LeadsTo a'.claimed at r → IsAt a'.claimed r d → link_at w' l at ≡ link_to r d
    linked_on at r d to p = at_more a.claimed c r d (link_at w' l at ≡ link_to r d) p
        (λ old. let lt = at_below a.claimed r d old in let to' = leads_before a.claimed c at r to (omega arith) in putting_link w l from (link_to rank c) at (λ n. n ≡ link_to r d)
        (λ e. let z = one_rank a.claimed claimed_once from r rank (subst (λ (y : LinkWord). LeadsTo a.claimed y r) e to') last in absurd (omega arith)) (λ _. standing.0.linked at r d to' old))
        (λ e0 e1. let to' = leads_before a.claimed c at r to (omega arith) in putting_link w l from (link_to rank c) at (λ n. n ≡ link_to r d)
        (λ _. λ i. link_to (sym e0 i) (e1 i)) (λ ne. absurd (ne (one_link a.claimed claimed_once from at rank last (subst (LeadsTo a.claimed at) e0 to')))))

    ended_on : (at : LinkWord) → LeadsTo a'.claimed at (length a'.claimed) → link_at w' l at ≡ 0
    ended_on OfList to = let z : length (a.claimed ++ c ∷ []) ≡ 0 = to in absurd (omega (arith, length-append a.claimed (c ∷ [])))
    ended_on (OfChunk d) to = let z : length (a.claimed ++ c ∷ []) ≡ suc to.0 = to.1 in at_more a.claimed c to.0 d (link_at w' l (OfChunk d) ≡ 0) to.2
        (λ old. let lt = at_below a.claimed to.0 d old in absurd (omega (arith, length-append a.claimed (c ∷ [])))) (λ _ e. new_ends (OfChunk d) (ap OfChunk (sym e)))

    linked_list : IsList (w'.claim l) (w'.first l) w'.next w'.slot a'
    linked_list = record {
      counted = list.counted;
      shown = list.shown;
      now = subst (HoldsAt (w'.claim l) (w'.first l) w'.next w'.slot a') (sym unshut) (
        record {
          filled = λ r d k p lt ne. old_or claimed_chain r d (256 * r + k < (w.claim l).value) p (λ old. standing.0.filled r d k old lt ne) (λ _ _ e. absurd (ne (ap (λ (y : ℕ). (w.slot y k).value) e ∙ ap (λ (n : Word). n.value) (slot_blank k lt))));
          unused = standing.0.unused;
          used = standing.0.used;
          room = let y = standing.0.room in omega (arith, length-append a.claimed (c ∷ []));
          linked = linked_on;
          ended = ended_on;
          small = λ d has. old_or has.0 has.1 d (d + 1 < 4294967296) has.2 (λ old. standing.0.small d (has.0, has.1, old)) (λ _ _ e. subst (λ (y : ℕ). y + 1 < 4294967296) (sym e) small);
        },
        λ d k has lt. old_or has.0 has.1 d ((w.slot d k).high ≡ false) has.2 (λ old. standing.1 d k (has.0, has.1, old) lt) (λ _ _ e. subst (λ (y : ℕ). (w.slot y k).high ≡ false) (sym e) (ap (λ (x : Word). x.high) (slot_blank k lt))),
      );
    }

    -- a link that was known was not 0
    holds_on : (f : Fact) → list_of f ≡ l → Holds w f → Holds w' f
    holds_on (Item h d k x) is t = t
    holds_on (Link h at r d) is t = subst (λ (g : ℕ). link_at w' g at ≡ link_to r d) (sym is)
        (putting_link w l from (link_to rank c) at (λ n. n ≡ link_to r d)
        (λ e. let z : link_at w l at ≡ 0 = ap (link_at w l) e ∙ was_zero in let y : link_at w l at ≡ link_to r d = subst (λ (g : ℕ). link_at w g at ≡ link_to r d) is t in absurd (omega arith))
        (λ _. subst (λ (g : ℕ). link_at w g at ≡ link_to r d) is t))
    holds_on (Closed h) is t = t
    holds_on (Empty h d k) is t = t

    known' : AreKnown w' (set leaves l a') o.facts guests
    known' = known_frame w w' leaves l a a' s.shape.lists leaf (link_elsewhere w l a from rank (link_to rank c) last) o.facts guests s.known
        (λ j v p out reached. record {
          reached = reached;
          facts = λ f is inside t. (within_more a a' more f inside, holds_on f is t);
          claim = λ i e t. record {
            reached = t.reached;
            below = t.below;
            vacant = λ r d k at lt is. old_or claimed_chain r d ((w.slot d k).value ≡ 0) at (λ old. t.vacant r d k old lt is) (λ _ _ e. ap (λ (y : ℕ). (w.slot y k).value) e ∙ ap (λ (n : Word). n.value) (slot_blank k lt));
            before = t.before;
          };
        })
        (λ k f p is t. (holds_on f is t.0, ⊎_elim (λ z. inl (z.0, within_more a a' more f z.1)) inr t.1))
        (s.known.granted l a leaf)

    pub links : Sound w' (with_fact (with_leaf o l a') (Link l from rank c)) guests
    links = record {
      shape = record {
        lists = lists_frame w w' leaves l a a' s.shape.lists leaf (link_elsewhere w l a from rank (link_to rank c) last) claimed_chain rank c
            (λ x r d p. old_or x r d (IsAt (chain_of a x) r d ⊎ (IsFree leaves d × (x ≡ claimed_chain) × (r ≡ rank) × (d ≡ c))) p inl (λ e0 e1 e2. inr (subst (IsFree leaves) (sym e2) free, e0, e1, e2)))
            linked_list refl (λ d has never. absurd (never (has.0, has.1, more has.0 has.1 d has.2)));
        order = order_frame leaves o.book.order o.book.cleared l a a' leaf s.shape.order refl (s.shape.order.begun l a leaf) (λ p n st. let e : Open ≡ Cleared p n = sym unshut ∙ st in absurd (cc));
      };
      known = owner_learns w' (set leaves l a') o.facts guests (Link l from rank c) known' (
        a',
        at_set_same leaves l a a' leaf,
        (
          putting_link w l from (link_to rank c) from (λ n. n ≡ link_to rank c) (λ _. refl) (λ ne. absurd (ne refl)),
          inl (subst Stands (sym unshut) tt, (leads_on from rank last, at_last a.claimed c)),
        ),
      );
      counted = s.counted;
    } where
      leads_on : (at : LinkWord) (r : ℕ) → LeadsTo a.claimed at r → LeadsTo a'.claimed at r
      leads_on OfList r t = t
      leads_on (OfChunk d) r t = (t.0, t.1, at_left a.claimed (c ∷ []) t.0 d t.2)
