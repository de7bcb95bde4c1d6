use Rattle.std.proofs.Common.{◌≡◌, ◌+◌, ◌*◌, ◌<◌, ◌≤◌, length, vec_len, ap, sym, subst, ◌∙◌, arith}
use Rattle.std.proofs.lemmas.List.{length-append}
use Rattle.std.specs.Vec.{vec_capacity}
use Rattle.list_words.specs.Store.{Store, Row, IsOpen, SameBesidesGranted, chunks_of, placed_in, row}
use Rattle.list_words.proofs.RowLaws.{open_row, row-grant_rows, row-with_row}
use Rattle.list_words.proofs.tests.sweep_while_a_filer_is_out.Goals as goal

pub place-requires-clause-takes : goal.place-requires-clause-takes
place-requires-clause-takes g c =
    ap (λ (s : Store). (row s c.args.list).phase) c.admit-filer.ensures.store
    ∙ (row-grant_rows c.args.grants.now (g.L.LeafLists.store c.args.lists.now).rows c.args.list).phase
    ∙ c.requires.takes

pub place-requires-clause-room : goal.place-requires-clause-room
place-requires-clause-room g c =
    let same : SameBesidesGranted _ _ = row-grant_rows c.args.grants.now (g.L.LeafLists.store c.args.lists.now).rows c.args.list in
    subst (λ (s : Store). length (row s c.args.list).placed < 256 * length (row s c.args.list).owned) (sym c.admit-filer.ensures.store)
    (omega (arith, ap length same.placed, ap length same.owned, c.requires.slots))

pub shut_and_sweep-requires-clause-takes : goal.shut_and_sweep-requires-clause-takes
shut_and_sweep-requires-clause-takes g c =
    let s : Store = g.L.LeafLists.store c.admit-filer.new.self in
    let takes : IsOpen s c.args.list = ap (λ (t : Store). (row t c.args.list).phase) c.admit-filer.ensures.store ∙ (row-grant_rows c.args.grants.now (g.L.LeafLists.store c.args.lists.now).rows c.args.list).phase ∙ c.requires.takes in
    let here : row (g.L.LeafLists.store c.place.new.self) c.args.list ≡ placed_in (row s c.args.list) c.args.item = ap (λ (t : Store). row t c.args.list) c.place.ensures.store ∙ row-with_row s c.args.list (placed_in (row s c.args.list) c.args.item) (open_row s c.args.list takes) in
    ap (λ (r : Row). r.phase) here ∙ takes

pub shut_and_sweep-requires-clause-room : goal.shut_and_sweep-requires-clause-room
shut_and_sweep-requires-clause-room g c =
    let s : Store = g.L.LeafLists.store c.admit-filer.new.self in
    let same : SameBesidesGranted _ _ = row-grant_rows c.args.grants.now (g.L.LeafLists.store c.args.lists.now).rows c.args.list in
    let takes : IsOpen s c.args.list = ap (λ (t : Store). (row t c.args.list).phase) c.admit-filer.ensures.store ∙ same.phase ∙ c.requires.takes in
    let here : row (g.L.LeafLists.store c.place.new.self) c.args.list ≡ placed_in (row s c.args.list) c.args.item = ap (λ (t : Store). row t c.args.list) c.place.ensures.store ∙ row-with_row s c.args.list (placed_in (row s c.args.list) c.args.item) (open_row s c.args.list takes) in
    let old : Row = row (g.L.LeafLists.store c.args.lists.now) c.args.list in
    let claimed : (row s c.args.list).claimed ≡ old.claimed = ap (λ (t : Store). (row t c.args.list).claimed) c.admit-filer.ensures.store ∙ same.claimed in
    let owned : (row s c.args.list).owned ≡ old.owned = ap (λ (t : Store). (row t c.args.list).owned) c.admit-filer.ensures.store ∙ same.owned in
    let many : length (chunks_of (row s c.args.list)) ≡ length (chunks_of old) =
    omega (arith, length-append (row s c.args.list).claimed (row s c.args.list).owned, length-append old.claimed old.owned, ap length claimed, ap length owned) in
    subst (λ (r : Row). vec_len c.args.out.now + 256 * length (chunks_of r) ≤ vec_capacity c.args.out.now) (sym here) (omega (arith, many, c.requires.space))

pub take_back-requires-clause-borne_out : goal.take_back-requires-clause-borne_out
take_back-requires-clause-borne_out g c = c.shut_and_sweep.ensures.borne _ (c.place.ensures.borne _ c.admit-filer.ensures.vouched)
