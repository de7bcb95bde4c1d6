use Rattle.std.proofs.Common.{ap, sym, ◌∙◌, subst, IsTrue, ◌≡◌, ℕ, ◌<◌, List, [], Bool, Contains, length, arith, inl, inr, get_or}
use Rattle.std.proofs.lemmas.List.Elements.{All-contains}
use Rattle.list_words.specs.declared.leaf_lists.Answer.{Answer}
use Rattle.list_words.specs.Store.{Store, Row, IsOpen, IsShut, IsStanding, row}
use Rattle.item_moves.specs.Homes.{AreHomed, IsKnownIn}
use Rattle.item_moves.specs.Late.{is_fair}
use Rattle.item_moves.specs.Settled.{AreSettled}
use Rattle.item_moves.proofs.FoundLaws.{home_twice}
use Rattle.item_moves.proofs.HomeLaws.{open_stays}
use Rattle.item_moves.proofs.LateLaws.{fair_covers, filed_or_late, found_home, homed_back, in_chains, late_home, settled_back, settled_placed}
use Rattle.item_moves.proofs.SweepLaws.{not_both, still_known}
use Rattle.item_moves.proofs.SweepAllLaws.{aimed_all, aimed_still, shut_still, swept_open, swept_placed}
use Rattle.item_moves.proofs.coming_back.bring_home.Goals as goal

pub place_late-requires-clause-aimed : goal.place_late-requires-clause-aimed
place_late-requires-clause-aimed g c =
    let s : Store = g.L.LeafLists.store c.args.lists.now in
    let t : Store = g.L.LeafLists.store c.sweep_all.new.lists in
    let leaf : ℕ → ℕ = g.A.Aims.leaf c.args.aims.now in
    let covers : ℕ → ℕ → Bool = g.A.Aims.covers c.args.aims.now in
    let guest : ℕ → ℕ → Bool = g.A.Aims.guest c.args.aims.now in
    aimed_all t leaf covers guest c.sweep_all.new.homes c.args.splits.now
    (aimed_still s t leaf covers guest c.args.homes.now c.sweep_all.new.homes c.args.splits.now c.args.splits.now c.requires.aimed c.sweep_all.ensures.swept
    c.requires.takes (λ l h. h) c.sweep_all.ensures.home)
    c.sweep_all.ensures.swept.shut

pub take_back-requires-clause-name : goal.take_back-requires-clause-name
take_back-requires-clause-name g c =
    let w = c.sweep_all.ensures.swept in
    let p = c.place_late.ensures.placed in
    c.requires.name ∙ sym (ap (λ (v : Store). v.name) p.rest ∙ ap (λ (v : Store). v.name) w.rest)

pub take_back-requires-clause-borne_out : goal.take_back-requires-clause-borne_out
take_back-requires-clause-borne_out g c = c.place_late.ensures.borne _ (c.sweep_all.ensures.borne _ c.requires.borne_out)

pub returns-clause-homed : goal.returns-clause-homed
returns-clause-homed g c =
    let u : Store = g.L.LeafLists.store c.place_late.new.lists in
    subst (λ (v : Store). AreHomed v (g.L.LeafLists.knows c.take_back.new.self) (g.A.Aims.guest c.args.aims.now) c.place_late.new.homes)
    (sym c.take_back.ensures.store)
    (homed_back u (g.L.LeafLists.knows c.place_late.new.lists) (g.L.LeafLists.knows c.take_back.new.self)
    (g.A.Aims.guest c.args.aims.now) c.place_late.new.homes _ c.place_late.ensures.homed c.take_back.ensures.known)

pub returns-clause-home : goal.returns-clause-home
returns-clause-home g c =
    home_twice (g.A.Aims.leaf c.args.aims.now) c.args.homes.now c.sweep_all.new.homes c.place_late.new.homes c.sweep_all.ensures.home
    c.place_late.ensures.home

pub returns-clause-store : goal.returns-clause-store
returns-clause-store g c =
    let s : Store = g.L.LeafLists.store c.args.lists.now in
    let t : Store = g.L.LeafLists.store c.sweep_all.new.lists in
    let u : Store = g.L.LeafLists.store c.place_late.new.lists in
    (u, swept_placed s t c.args.splits.now c.sweep_all.ensures.swept u c.place_late.ensures.placed, c.take_back.ensures.store)

pub returns-clause-settled : goal.returns-clause-settled
returns-clause-settled g c =
    let t : Store = g.L.LeafLists.store c.sweep_all.new.lists in
    let u : Store = g.L.LeafLists.store c.place_late.new.lists in
    subst (λ (v : Store). AreSettled v (g.A.Aims.leaf c.args.aims.now) (g.A.Aims.covers c.args.aims.now) c.place_late.new.homes [])
    (sym c.take_back.ensures.store)
    (settled_back u (g.A.Aims.leaf c.args.aims.now) (g.A.Aims.covers c.args.aims.now) c.place_late.new.homes [] _
    (settled_placed t u (g.A.Aims.leaf c.args.aims.now)
    (g.A.Aims.covers c.args.aims.now) c.sweep_all.new.homes c.place_late.new.homes c.place_late.ensures.placed c.place_late.ensures.home
    (c.sweep_all.ensures.settled c.requires.settled)))

pub returns-clause-known : goal.returns-clause-known
returns-clause-known g c l k x h = c.take_back.ensures.known l k x (c.place_late.ensures.known l k x (c.sweep_all.ensures.known l k x h))

pub returns-clause-kept : goal.returns-clause-kept
returns-clause-kept g c x first =
    let l : ℕ = g.A.Aims.leaf c.args.aims.now x in
    let k = c.sweep_all.ensures.kept x first in
    let there = c.take_back.ensures.known l k.0 x (c.place_late.ensures.known l k.0 x k.1) in
    in_chains (g.L.LeafLists.store c.take_back.new.self) (g.L.LeafLists.knows c.take_back.new.self) (g.L.LeafLists.shown c.take_back.new.self) l x
    (λ i h. (c.slots_agree.ensures.known l i x).0 h) (λ i j h. (c.slots_agree.ensures.known_chunks l i j x h).0) (k.0, there)

pub returns-clause-filed : goal.returns-clause-filed
returns-clause-filed g c a among =
    let s : Store = g.L.LeafLists.store c.args.lists.now in
    let t : Store = g.L.LeafLists.store c.sweep_all.new.lists in
    let u : Store = g.L.LeafLists.store c.place_late.new.lists in
    let leaf : ℕ → ℕ = g.A.Aims.leaf c.args.aims.now in
    let covers : ℕ → ℕ → Bool = g.A.Aims.covers c.args.aims.now in
    let guest : ℕ → ℕ → Bool = g.A.Aims.guest c.args.aims.now in
    let homes : List ℕ = c.place_late.new.homes in
    let l : ℕ = leaf a.item in
    let lies : IsTrue (covers a.list a.item) =
    fair_covers leaf covers guest a
    (All-contains (λ (b : Answer). IsTrue (is_fair leaf covers guest b)) (g.L.Filer.Filings.filing c.args.filer).answers a c.requires.fair among) in
    let low : a.item < length c.args.homes.now = c.requires.aimed.admitted a.list a.item lies in
    let within : a.item < length homes = omega (arith, low, c.sweep_all.ensures.home.many, c.place_late.ensures.home.many) in
    let open_now : IsOpen u l = open_stays t u l c.place_late.ensures.placed
    (swept_open s t c.args.splits.now c.sweep_all.ensures.swept l (c.requires.aimed.apart a.item low) (c.requires.aimed.open_leaf a.item low)) in
    let settled : AreSettled u leaf covers homes [] =
    settled_placed t u leaf covers c.sweep_all.new.homes homes c.place_late.ensures.placed c.place_late.ensures.home
    (c.sweep_all.ensures.settled c.requires.settled) in
    let home : get_or homes a.item 0 ≡ l → IsKnownIn (g.L.LeafLists.knows c.take_back.new.self) l a.item = λ is.
    still_known (g.L.LeafLists.knows c.place_late.new.lists) (g.L.LeafLists.knows c.take_back.new.self) l a.item c.take_back.ensures.known
    (c.place_late.ensures.homed.known l a.item open_now within is) in
    let shut_now : IsShut t a.list → IsShut u a.list = λ h. ap (λ (r : Row). r.phase) (c.place_late.ensures.placed.rows a.list) ∙ h in
    let known : IsKnownIn (g.L.LeafLists.knows c.take_back.new.self) l a.item = filed_or_late a.filed
    (λ chunk slot is.
    let back : IsStanding (g.L.LeafLists.knows c.take_back.new.self a.list) (row u a.list) chunk a.item = c.take_back.ensures.filed a chunk slot among is in
    let found : IsShut t a.list → IsKnownIn (g.L.LeafLists.knows c.take_back.new.self) l a.item =
    λ shut. home (found_home u leaf covers homes a.list a.item settled (shut_now shut) (back.found (shut_now shut)) lies) in
    elim (c.requires.aimed.here a.list a.item lies) [
      | inl shut ↦ found (shut_still s t c.args.splits.now c.sweep_all.ensures.swept a.list (λ d. not_both (sym shut ∙ c.requires.takes a.list d)) shut)
      | inr other ↦ elim other [
        | inl split ↦ found (c.sweep_all.ensures.swept.shut a.list split)
        | inr own ↦ subst (λ k. IsKnownIn (g.L.LeafLists.knows c.take_back.new.self) k a.item) (sym own) (chunk, back.known_there)
      ]
    ])
    (λ late. home
    (late_home leaf homes c.answers.result.now a c.place_late.ensures.back
    (subst (λ (xs : List Answer). Contains xs a) (sym c.answers.ensures) among) late)) in
    in_chains (g.L.LeafLists.store c.take_back.new.self) (g.L.LeafLists.knows c.take_back.new.self) (g.L.LeafLists.shown c.take_back.new.self) l a.item
    (λ i h. (c.slots_agree.ensures.known l i a.item).0 h) (λ i j h. (c.slots_agree.ensures.known_chunks l i j a.item h).0) known
