use Rattle.std.proofs.Common.{ap, sym, ◌∙◌, subst, ◌≡◌, ℕ, List, Contains, ◌++◌}
use Rattle.list_words.specs.Store.{Store, Row, IsOpen, row, found_in}
use Rattle.item_moves.specs.Homes.{AreHomed, IsAlone, OnlyPlaced}
use Rattle.item_moves.proofs.SweepLaws.{homed_shut, alone_shut, leaf_open, swept_one, found_there}
use Rattle.item_moves.proofs.sweeping.sweep_list.Goals as goal

pub place_found-requires-clause-takes : goal.place_found-requires-clause-takes
place_found-requires-clause-takes g c x can =
    let s : Store = g.L.LeafLists.store c.args.lists.now in
    let e = c.shut_and_sweep.ensures.store in
    let a = c.requires.aimed in
    subst (λ (t : Store). IsOpen t (g.A.Aims.leaf c.args.aims.now x)) (sym e.2)
    (leaf_open s c.args.from e.0 c.requires.takes (g.A.Aims.leaf c.args.aims.now) (g.A.Aims.covers c.args.aims.now)
    (g.A.Aims.guest c.args.aims.now) c.args.homes.now a.0 a.2 a.1 x can)

pub place_found-requires-clause-alone : goal.place_found-requires-clause-alone
place_found-requires-clause-alone g c x can =
    let s : Store = g.L.LeafLists.store c.args.lists.now in
    let e = c.shut_and_sweep.ensures.store in
    let a = c.requires.aimed in
    subst (λ (t : Store). IsAlone t c.args.homes.now x (g.A.Aims.leaf c.args.aims.now x)) (sym e.2)
    (alone_shut s c.args.from e.0 c.requires.takes (g.A.Aims.leaf c.args.aims.now) (g.A.Aims.covers c.args.aims.now)
    (g.A.Aims.guest c.args.aims.now) c.args.homes.now a.0 a.2 a.1 x can)

pub place_found-requires-clause-item : goal.place_found-requires-clause-item
place_found-requires-clause-item g c x can = c.requires.aimed.2.admitted c.args.from x can

pub place_found-requires-clause-guest : goal.place_found-requires-clause-guest
place_found-requires-clause-guest g c x can = c.requires.aimed.2.guests c.args.from x c.requires.aimed.1 can

pub place_found-requires-clause-homed : goal.place_found-requires-clause-homed
place_found-requires-clause-homed g c =
    let s : Store = g.L.LeafLists.store c.args.lists.now in
    let e = c.shut_and_sweep.ensures.store in
    subst (λ (t : Store). AreHomed t (g.L.LeafLists.knows c.shut_and_sweep.new.self) (g.A.Aims.guest c.args.aims.now) c.args.homes.now) (sym e.2)
    (homed_shut s c.args.from e.0 c.requires.takes (g.L.LeafLists.knows c.args.lists.now) (g.L.LeafLists.knows c.shut_and_sweep.new.self)
    (g.A.Aims.guest c.args.aims.now) c.args.homes.now c.requires.homed c.shut_and_sweep.ensures.known)

pub returns-clause-swept : goal.returns-clause-swept
returns-clause-swept g c =
    let s : Store = g.L.LeafLists.store c.args.lists.now in
    let t : Store = g.L.LeafLists.store c.place_found.new.lists in
    let e = c.shut_and_sweep.ensures.store in
    swept_one s c.args.from e.0 c.requires.takes t (subst (λ (u : Store). OnlyPlaced u t) e.2 c.place_found.ensures.placed)

pub returns-clause-found : goal.returns-clause-found
returns-clause-found g c x among can =
    let s : Store = g.L.LeafLists.store c.args.lists.now in
    let t : Store = g.L.LeafLists.store c.place_found.new.lists in
    let u : Store = g.L.LeafLists.store c.shut_and_sweep.new.self in
    let e = c.shut_and_sweep.ensures.store in
    let same : row t c.args.from ≡ row u c.args.from =
    found_there s c.args.from e.0 c.requires.takes t (subst (λ (v : Store). OnlyPlaced v t) e.2 c.place_found.ensures.placed)
    ∙ ap (λ (v : Store). row v c.args.from) (sym e.2) in
    let there : Contains (found_in (row u c.args.from)) x = subst (λ (r : Row). Contains (found_in r) x) same among in
    let listed : c.deref.result.now ≡ found_in (row u c.args.from) =
    c.deref.ensures.value ∙ c.shut_and_sweep.ensures.found ∙ ap (λ (l : List ℕ). l ++ found_in (row u c.args.from)) c.clear.ensures.items in
    c.place_found.ensures.found x (subst (λ (l : List ℕ). Contains l x) (sym listed) there) can

pub returns-clause-moved : goal.returns-clause-moved
returns-clause-moved g c x known can =
    let u : Store = g.L.LeafLists.store c.shut_and_sweep.new.self in
    let listed : c.deref.result.now ≡ found_in (row u c.args.from) =
    c.deref.ensures.value ∙ c.shut_and_sweep.ensures.found ∙ ap (λ (l : List ℕ). l ++ found_in (row u c.args.from)) c.clear.ensures.items in
    c.place_found.ensures.found x (subst (λ (l : List ℕ). Contains l x) (sym listed) (c.shut_and_sweep.ensures.swept known.0 x known.1)) can
