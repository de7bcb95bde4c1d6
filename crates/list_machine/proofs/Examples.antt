-- A few words, and the first part of one list's life.
use Rattle.std.proofs.Common.{◌≡◌, ℕ, zero, suc, ◌+◌, ◌*◌, ◌<◌, ◌≤◌, true, false, List, [], ◌∷◌, Some, None, refl, sym, subst, arith, length, ◌^◌}
use Rattle.std.proofs.lemmas.Bool.Decides.{nat_tests}
use Rattle.list_machine.specs.Words.{word, blank, decode, encode, item_in, link_to, one_more, raised, holding}
use Rattle.list_machine.specs.State.{zero_words, put_claim, put_slot, put_link}
use Rattle.list_machine.specs.Grants.{granted_in}
use Rattle.list_machine.specs.Facts.{IsAt, claimed_chain, chain_of}
use Rattle.list_machine.specs.Rule.{IsFree}
use Rattle.list_machine.specs.Steps.{opening, opening_leaf, with_leaf, with_claimed, with_stage, with_grant, with_fact, after_split, newcomer, after_claim, guest_with, after_shut, mark_shows, IsGrantable}
use Rattle.list_machine.specs.Machine.{State, state, claims, files, links, shuts, marks, splits, Run, none, more}
use Rattle.list_machine.specs.Moves.{chunk_linked, seat_made, place_claimed, item_filed, list_shut, slot_marked, seat_joined, may_clear, word_cleared}
use Rattle.list_machine.specs.declared.views.Grant.{Grant}
use Rattle.list_machine.specs.declared.views.LinkWord.TheVariants.{OfList}
use Rattle.list_machine.specs.declared.views.Fact.TheVariants.{Item, Link}
use Rattle.list_machine.specs.declared.views.Stage.TheVariants.{Open, Swept}
use Rattle.list_machine.specs.declared.views.Unfiled.TheVariants.{Nothing}
use Rattle.list_machine.specs.declared.views.Leaf.{Leaf}
use Rattle.list_machine.specs.declared.views.Guest.{Guest}
use Rattle.list_machine.proofs.Openings.{all_same, no_chunks}

-- a slot with item 7 that was moved, a slot that was marked while it was empty, and a claim word of a shut list
words_read : (decode (2 ^ 63 + 8) ≡ word 8 true) × (item_in (decode (2 ^ 63 + 8)) ≡ Some 7) × (item_in (decode (2 ^ 63)) ≡ None) × (encode (raised (word 300 false)) ≡ 2 ^ 63 + 300)
words_read = (refl, refl, refl, refl)

-- the chunk 9 at rank 2
link_read : link_to 2 9 ≡ 8589934602
link_read = refl

abbrev grants : List Grant
grants = record { list = 0; n = 3 } ∷ []

abbrev linked : State
linked = state (put_link zero_words 0 OfList (link_to 0 4)) (with_fact (with_leaf (opening 1) 0 (with_claimed opening_leaf 4)) (Link 0 OfList 0 4)) []

abbrev filer : Guest
filer = newcomer linked.owner grants

abbrev granted : State
granted = state linked.words (after_split linked.owner grants) (filer ∷ [])

abbrev claimer : Guest
claimer = after_claim filer 0 (granted.words.claim 0)

abbrev claimed : State
claimed = state (put_claim granted.words 0 (one_more (granted.words.claim 0))) granted.owner (claimer ∷ [])

abbrev filed : State
filed = state (put_slot claimed.words 4 0 (holding 9)) claimed.owner (guest_with claimer Nothing (Item 0 4 0 9 ∷ claimer.facts) ∷ [])

abbrev leaf : Leaf
leaf = with_grant (with_claimed opening_leaf 4) 3

abbrev shut : State
shut = state (put_claim filed.words 0 (raised (filed.words.claim 0))) (after_shut filed.owner 0 leaf 1) filed.guests

abbrev swept : State
swept = state (put_slot shut.words 4 0 (raised (shut.words.slot 4 0))) (with_fact (with_leaf shut.owner 0 (with_stage (with_stage leaf (Swept 0 1 0)) (Swept 0 1 1))) (mark_shows 0 4 0 (shut.words.slot 4 0))) shut.guests

grantable : IsGrantable linked.owner.book.leaves grants
grantable = record { lists = here; few = omega arith } where
  here : (l : ℕ) → 0 < granted_in l grants → (a : Leaf) × IsAt linked.owner.book.leaves l a × (a.stage ≡ Open) × (a.granted + granted_in l grants ≤ 256 * length a.claimed)
  here zero some = (with_claimed opening_leaf 4, refl, refl, omega arith)
  here (suc l) some = absurd (grind (arith, nat_tests))

no_chunk : IsFree (opening 1).book.leaves 4
no_chunk l a p has = let is = all_same 1 l opening_leaf a p in no_chunks has.0 has.1 4 (subst (λ (e : Leaf). IsAt (chain_of e has.0) has.1 4) (sym is) has.2)

-- a filer files item 9, and the sweep finds it
life : Run (state zero_words (opening 1) []) swept
life = more shut swept (more filed shut (more claimed filed (more granted claimed (more linked granted (more (state zero_words (opening 1) []) linked none
    (links 0 4 OfList opening_leaf refl refl no_chunk (omega arith) refl))
    (splits grants grantable))
    (claims 0 0 filer refl refl (omega arith)))
    (files 0 0 0 4 0 9 claimer refl refl (omega arith) (0, OfList, refl) refl))
    (shuts 0 leaf refl refl))
    (marks 0 0 1 0 0 4 0 claimed_chain (with_stage leaf (Swept 0 1 0)) refl refl refl (omega arith) (refl, omega arith))

-- the item stays in its slot
still_there : swept.words.slot 4 0 ≡ word 10 true
still_there = refl

-- the same life, move by move
by_moves : slot_marked (list_shut (item_filed (place_claimed (seat_made (chunk_linked (state zero_words (opening 1) []) 0 4) grants) 0 0) 0 0 4 0 9) 0) 0 ≡ swept
by_moves = refl

-- it is cleared once nobody reaches it: its own link first, and then its first slot
waits : (may_clear swept ≡ false) × (may_clear (seat_joined swept 0) ≡ true)
waits = (refl, refl)

is_cleared : ((word_cleared (seat_joined swept 0)).words.first 0 ≡ 0) × ((word_cleared (word_cleared (seat_joined swept 0))).words.slot 4 0 ≡ blank)
is_cleared = (refl, refl)
