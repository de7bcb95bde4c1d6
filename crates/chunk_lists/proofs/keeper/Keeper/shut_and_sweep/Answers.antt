use Rattle.std.proofs.Common.{◌≡◌, ℕ, suc, ◌+◌, ◌*◌, ◌<◌, ◌≤◌, true, false, List, ◌++◌, length, sym, ap, ◌∙◌, subst, arith}
use Rattle.std.specs.Prelude.{Option, vec_len}
use Rattle.std.specs.Vec.{vec_capacity}
use Rattle.std.specs.List.{Contains}
use Rattle.std.proofs.lemmas.List.{length-append}
use Rattle.list_machine.specs.Facts.{IsAt}
use Rattle.list_machine.specs.declared.views.Fact.TheVariants.{Item}
use Rattle.list_words.specs.Store.{Row, AreMarks, row, row_in, chunks_of, found_in, shut_now}
use Rattle.list_words.specs.declared.leaf_lists.Phase.TheVariants.{Open, Shut}
use Rattle.list_book.specs.Books.{BookValue, book_row}
use Rattle.list_table.specs.Ledgers.{Knows, leaf_of, notes_of, shown}
use Rattle.chunk_lists.specs.Keepers.{IsKeeper, KnownIn, claims_at, rows_of, store_of}
use Rattle.chunk_lists.proofs.Closings.{tied_then, found_then, marks_then, store_shut, one_given}
use Rattle.chunk_lists.proofs.Ties.{phase_is, open_below, open_phase, row_is}
use Rattle.list_table.specs.Ledgers.{Knows}
use Rattle.chunk_lists.proofs.keeper.Keeper.shut_and_sweep.Goals as goal

pub shut-requires : goal.shut-requires
shut-requires c =
    let i = c.self.inside in let g = i.seat.ledger in let b = i.book in let t = c.self.invariant.tied in let n = i.lists.value.lists in let m = i.lists.value.chunks in let l = c.args.list in
    phase_is n m g b t l Open (subst (λ k. (row (store_of k) l).phase ≡ Open) (sym c.self.view_is) c.requires.takes)

pub claimed-claimed-requires : goal.claimed-claimed-requires
claimed-claimed-requires c =
    let i = c.self.inside in let g = i.seat.ledger in let b = i.book in let t = c.self.invariant.tied in let n = i.lists.value.lists in let m = i.lists.value.chunks in let l = c.args.list in
    let unshut = phase_is n m g b t l Open (subst (λ k. (row (store_of k) l).phase ≡ Open) (sym c.self.view_is) c.requires.takes) in
    let low = open_below n m g b t l unshut in
    let rows = t.rows in omega arith

pub owned-owned-requires : goal.owned-owned-requires
owned-owned-requires c =
    let i = c.self.inside in let g = i.seat.ledger in let b = i.book in let t = c.self.invariant.tied in let n = i.lists.value.lists in let m = i.lists.value.chunks in let l = c.args.list in
    let unshut = phase_is n m g b t l Open (subst (λ k. (row (store_of k) l).phase ≡ Open) (sym c.self.view_is) c.requires.takes) in
    let low = open_below n m g b t l unshut in
    let rows = t.rows in omega arith

pub used-used-requires : goal.used-used-requires
used-used-requires c =
    let i = c.self.inside in let g = i.seat.ledger in let b = i.book in let t = c.self.invariant.tied in let n = i.lists.value.lists in let m = i.lists.value.chunks in let l = c.args.list in
    let unshut = phase_is n m g b t l Open (subst (λ k. (row (store_of k) l).phase ≡ Open) (sym c.self.view_is) c.requires.takes) in
    let low = open_below n m g b t l unshut in
    let rows = t.rows in omega arith

pub shut_and_mark-requires-clause-list : goal.shut_and_mark-requires-clause-list
shut_and_mark-requires-clause-list c =
    let i = c.self.inside in let g = i.seat.ledger in let b = i.book in let t = c.self.invariant.tied in let n = i.lists.value.lists in let m = i.lists.value.chunks in let l = c.args.list in
    let unshut = phase_is n m g b t l Open (subst (λ k. (row (store_of k) l).phase ≡ Open) (sym c.self.view_is) c.requires.takes) in
    let low = open_below n m g b t l unshut in
    subst (λ v. l < v.lists) (sym c.deref.ensures) low

pub shut_and_mark-requires-clause-leaves : goal.shut_and_mark-requires-clause-leaves
shut_and_mark-requires-clause-leaves c =
    let i = c.self.inside in let g = i.seat.ledger in let b = i.book in let t = c.self.invariant.tied in let n = i.lists.value.lists in let m = i.lists.value.chunks in let l = c.args.list in
    t.leaves ∙ ap (λ v. v.lists) (sym c.deref.ensures)

pub shut_and_mark-requires-clause-notes : goal.shut_and_mark-requires-clause-notes
shut_and_mark-requires-clause-notes c =
    let i = c.self.inside in let g = i.seat.ledger in let b = i.book in let t = c.self.invariant.tied in let n = i.lists.value.lists in let m = i.lists.value.chunks in let l = c.args.list in
    t.notes ∙ ap (λ v. v.lists) (sym c.deref.ensures)

pub shut_and_mark-requires-clause-takes : goal.shut_and_mark-requires-clause-takes
shut_and_mark-requires-clause-takes c =
    let i = c.self.inside in let g = i.seat.ledger in let b = i.book in let t = c.self.invariant.tied in let n = i.lists.value.lists in let m = i.lists.value.chunks in let l = c.args.list in
    let unshut = phase_is n m g b t l Open (subst (λ k. (row (store_of k) l).phase ≡ Open) (sym c.self.view_is) c.requires.takes) in
    let low = open_below n m g b t l unshut in
    (open_phase (book_row b l) (leaf_of g l) (notes_of g l) (t.each l low) unshut).0

pub shut_and_mark-requires-clause-claimed : goal.shut_and_mark-requires-clause-claimed
shut_and_mark-requires-clause-claimed c =
    let i = c.self.inside in let g = i.seat.ledger in let b = i.book in let t = c.self.invariant.tied in let n = i.lists.value.lists in let m = i.lists.value.chunks in let l = c.args.list in
    let unshut = phase_is n m g b t l Open (subst (λ k. (row (store_of k) l).phase ≡ Open) (sym c.self.view_is) c.requires.takes) in
    let low = open_below n m g b t l unshut in
    c.claimed-claimed.ensures ∙ sym (t.each l low).claimed

pub shut_and_mark-requires-clause-owned : goal.shut_and_mark-requires-clause-owned
shut_and_mark-requires-clause-owned c =
    let i = c.self.inside in let g = i.seat.ledger in let b = i.book in let t = c.self.invariant.tied in let n = i.lists.value.lists in let m = i.lists.value.chunks in let l = c.args.list in
    let unshut = phase_is n m g b t l Open (subst (λ k. (row (store_of k) l).phase ≡ Open) (sym c.self.view_is) c.requires.takes) in
    let low = open_below n m g b t l unshut in
    c.owned-owned.ensures ∙ sym (t.each l low).owned

pub shut_and_mark-requires-clause-claimed_chunks : goal.shut_and_mark-requires-clause-claimed_chunks
shut_and_mark-requires-clause-claimed_chunks c r k at =
    let i = c.self.inside in let g = i.seat.ledger in let b = i.book in let t = c.self.invariant.tied in let n = i.lists.value.lists in let m = i.lists.value.chunks in let l = c.args.list in
    let low = c.numbers_are_small.ensures.chunks false l r k (subst (λ (cs : List ℕ). IsAt cs r k) c.claimed-claimed.ensures at) in let all = t.chunks_is in
    subst (λ v. k < v.chunks) (sym c.deref.ensures) (omega (arith, low, all))

pub shut_and_mark-requires-clause-owned_chunks : goal.shut_and_mark-requires-clause-owned_chunks
shut_and_mark-requires-clause-owned_chunks c r k at =
    let i = c.self.inside in let g = i.seat.ledger in let b = i.book in let t = c.self.invariant.tied in let n = i.lists.value.lists in let m = i.lists.value.chunks in let l = c.args.list in
    let low = c.numbers_are_small.ensures.chunks true l r k (subst (λ (cs : List ℕ). IsAt cs r k) c.owned-owned.ensures at) in let all = t.chunks_is in
    subst (λ v. k < v.chunks) (sym c.deref.ensures) (omega (arith, low, all))

pub shut_and_mark-requires-clause-granted : goal.shut_and_mark-requires-clause-granted
shut_and_mark-requires-clause-granted c =
    let i = c.self.inside in let g = i.seat.ledger in let b = i.book in let t = c.self.invariant.tied in let n = i.lists.value.lists in let m = i.lists.value.chunks in let l = c.args.list in
    let unshut = phase_is n m g b t l Open (subst (λ k. (row (store_of k) l).phase ≡ Open) (sym c.self.view_is) c.requires.takes) in
    let low = open_below n m g b t l unshut in
    let one = (t.each l low).granted in
    let few = c.numbers_are_small.ensures.granted l (λ e. let no : Open ≡ Shut = sym unshut ∙ e in absurd (cc)) in
    let long : length c.claimed-claimed.result.now ≡ length (book_row b l).claimed = ap length c.claimed-claimed.ensures in omega (arith, one, few, long)

pub shut_and_mark-requires-clause-few : goal.shut_and_mark-requires-clause-few
shut_and_mark-requires-clause-few c =
    let i = c.self.inside in let g = i.seat.ledger in let b = i.book in let t = c.self.invariant.tied in let n = i.lists.value.lists in let m = i.lists.value.chunks in let l = c.args.list in
    let unshut = phase_is n m g b t l Open (subst (λ k. (row (store_of k) l).phase ≡ Open) (sym c.self.view_is) c.requires.takes) in
    let low = open_below n m g b t l unshut in
    let one = one_given n m g b t l low in let few = c.numbers_are_small.ensures.few_given in omega (arith, one, few)

pub shut_and_mark-requires-clause-used : goal.shut_and_mark-requires-clause-used
shut_and_mark-requires-clause-used c =
    let i = c.self.inside in let g = i.seat.ledger in let b = i.book in let t = c.self.invariant.tied in let n = i.lists.value.lists in let m = i.lists.value.chunks in let l = c.args.list in
    let unshut = phase_is n m g b t l Open (subst (λ k. (row (store_of k) l).phase ≡ Open) (sym c.self.view_is) c.requires.takes) in
    let low = open_below n m g b t l unshut in
    let x = open_phase (book_row b l) (leaf_of g l) (notes_of g l) (t.each l low) unshut in
    let most = c.numbers_are_small.ensures.used l in let is = c.used-used.ensures in
    let long : length c.owned-owned.result.now ≡ length (book_row b l).owned = ap length c.owned-owned.ensures in
    (c.used-used.ensures ∙ sym x.1, omega (arith, most, is, long))

pub shut_and_mark-requires-clause-room : goal.shut_and_mark-requires-clause-room
shut_and_mark-requires-clause-room c =
    let i = c.self.inside in let g = i.seat.ledger in let b = i.book in let t = c.self.invariant.tied in let n = i.lists.value.lists in let m = i.lists.value.chunks in let l = c.args.list in
    let room = subst (λ k. vec_len c.args.out.now + 256 * length (chunks_of (row (store_of k) l)) ≤ vec_capacity c.args.out.now) (sym c.self.view_is) c.requires.room in
    let both : length (chunks_of (row_in (rows_of b.rows g.notes) l)) ≡ length (book_row b l).claimed + length (book_row b l).owned = ap (λ (r : Row). length (chunks_of r)) (row_is n m g b t l) ∙ length-append (book_row b l).claimed (book_row b l).owned in
    let claimed : length c.claimed-claimed.result.now ≡ length (book_row b l).claimed = ap length c.claimed-claimed.ensures in
    let owned : length c.owned-owned.result.now ≡ length (book_row b l).owned = ap length c.owned-owned.ensures in omega (arith, room, both, claimed, owned)

pub invariant_of-self : goal.invariant_of-self
invariant_of-self c =
    let i = c.self.inside in let g = i.seat.ledger in let b = i.book in let t = c.self.invariant.tied in let n = i.lists.value.lists in let m = i.lists.value.chunks in let l = c.args.list in
    let unshut = phase_is n m g b t l Open (subst (λ k. (row (store_of k) l).phase ≡ Open) (sym c.self.view_is) c.requires.takes) in
    let low = open_below n m g b t l unshut in
    let x = c.shut_and_mark.ensures.swept in
    subst (IsKeeper i.lists.value c.shut_and_mark.new.seat) (sym c.shut.ensures) (record {
      name = c.shut_and_mark.ensures.name ∙ c.self.invariant.name;
      tied = tied_then n m g b t c.shut_and_mark.new.seat.ledger l x.1 x.0 (x.0 + c.used-used.result) x.2 x.3 low unshut (ap (λ (u : ℕ). x.0 + u) c.used-used.ensures);
    })

pub returns-clause-store : goal.returns-clause-store
returns-clause-store c =
    let i = c.self.inside in let g = i.seat.ledger in let b = i.book in let t = c.self.invariant.tied in let n = i.lists.value.lists in let m = i.lists.value.chunks in let l = c.args.list in
    let unshut = phase_is n m g b t l Open (subst (λ k. (row (store_of k) l).phase ≡ Open) (sym c.self.view_is) c.requires.takes) in
    let low = open_below n m g b t l unshut in
    let x = c.shut_and_mark.ensures.swept in
    let few = x.5 in let one = (t.each l low).granted in
    subst (λ k. (marked : List (Option ℕ)) × (length marked ≤ (row (store_of k) l).granted) × (store_of (record { name = c.shut_and_mark.new.seat.name; ledger = c.shut_and_mark.new.seat.ledger; book = c.shut.new.self }) ≡ shut_now (store_of k) l marked)) c.self.view_is (
      x.2,
      subst (λ (r : Row). length x.2 ≤ r.granted) (sym (row_is n m g b t l)) (let count = x.4 in omega (arith, few, one, count)),
      (λ j. store_of (record { name = c.shut_and_mark.ensures.name j; ledger = c.shut_and_mark.new.seat.ledger; book = c.shut.ensures j }))
          ∙ store_shut n m g b t c.shut_and_mark.new.seat.ledger l x.1 x.0 (x.0 + c.used-used.result) x.2 x.3 low i.seat.name,
    )

pub returns-clause-found : goal.returns-clause-found
returns-clause-found c =
    let i = c.self.inside in let g = i.seat.ledger in let b = i.book in let t = c.self.invariant.tied in let n = i.lists.value.lists in let m = i.lists.value.chunks in let l = c.args.list in
    let unshut = phase_is n m g b t l Open (subst (λ k. (row (store_of k) l).phase ≡ Open) (sym c.self.view_is) c.requires.takes) in
    let low = open_below n m g b t l unshut in
    let x = c.shut_and_mark.ensures.swept in
    x.6 ∙ ap (λ (ys : List ℕ). c.args.out.now.items ++ ys) (sym (found_then n m g b t c.shut_and_mark.new.seat.ledger l x.1 x.0 (x.0 + c.used-used.result) x.2 x.3 low unshut (ap (λ (u : ℕ). x.0 + u) c.used-used.ensures))
    ∙ (λ j. found_in (row_in (rows_of (sym c.shut.ensures j).rows c.shut_and_mark.new.seat.ledger.notes) l)))

pub returns-clause-marks : goal.returns-clause-marks
returns-clause-marks c =
    let i = c.self.inside in let g = i.seat.ledger in let b = i.book in let t = c.self.invariant.tied in let n = i.lists.value.lists in let m = i.lists.value.chunks in let l = c.args.list in
    let unshut = phase_is n m g b t l Open (subst (λ k. (row (store_of k) l).phase ≡ Open) (sym c.self.view_is) c.requires.takes) in
    let low = open_below n m g b t l unshut in
    let x = c.shut_and_mark.ensures.swept in
    let h = c.shut_and_mark.new.seat.ledger in
    let one = (t.each l low).granted in
    let granted = c.numbers_are_small.ensures.granted l (λ e. let no : Open ≡ Shut = sym unshut ∙ e in absurd (cc)) in
    let few = x.5 in let used = c.numbers_are_small.ensures.used l in
    subst (λ (v : BookValue). AreMarks (λ d j y. Knows h.owner.facts (shown l d j y)) (claims_at (leaf_of h l).stage) (row_in (rows_of v.rows h.notes) l)) (sym c.shut.ensures)
    (marks_then n m g b t h l x.1 x.0 (x.0 + c.used-used.result) x.2 x.3 low unshut (ap (λ (u : ℕ). x.0 + u) c.used-used.ensures) c.notes_are_kept.ensures (omega (arith, few, one, granted)) used)

pub returns-clause-swept : goal.returns-clause-swept
returns-clause-swept c d y q =
    let i = c.self.inside in let g = i.seat.ledger in let b = i.book in let t = c.self.invariant.tied in let n = i.lists.value.lists in let m = i.lists.value.chunks in let l = c.args.list in
    let unshut = phase_is n m g b t l Open (subst (λ k. (row (store_of k) l).phase ≡ Open) (sym c.self.view_is) c.requires.takes) in
    let low = open_below n m g b t l unshut in
    let x = c.shut_and_mark.ensures.swept in
    let z = subst (λ k. KnownIn k l d y) (sym c.self.view_is) q in
    subst (λ (ys : List ℕ). Contains ys y) (sym (found_then n m g b t c.shut_and_mark.new.seat.ledger l x.1 x.0 (x.0 + c.used-used.result) x.2 x.3 low unshut (ap (λ (u : ℕ). x.0 + u) c.used-used.ensures))
    ∙ (λ j. found_in (row_in (rows_of (sym c.shut.ensures j).rows c.shut_and_mark.new.seat.ledger.notes) l))) (x.7 d z.0 y z.1)

pub returns-clause-known : goal.returns-clause-known
returns-clause-known c f q =
    let x = c.shut_and_mark.ensures.swept in
    let z = subst (λ k. Knows k.ledger.owner.facts f) (sym c.self.view_is) q in
    x.3.known f (suc z.0, z.1)
