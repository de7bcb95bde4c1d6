use Rattle.std.proofs.Common.{◌≡◌, ℕ, sym, ◌∙◌, subst}
use Rattle.list_words.specs.Store.{MayAdmit, admitted}
use Rattle.list_table.specs.Tables.{OwnerValue}
use Rattle.list_book.specs.Books.{BookValue}
use Rattle.chunk_lists.specs.Keepers.{IsKeeper, store_of, store_with}
use Rattle.chunk_lists.proofs.Granting.{may_grant, grantable, granted_tied, rows_granted}
use Rattle.chunk_lists.proofs.keeper.Keeper.lend.Goals as goal

pub grant-requires : goal.grant-requires
grant-requires c =
    let i = c.self.inside in let g = i.seat.ledger in let b = i.book in let t = c.self.invariant.tied in let n = i.lists.value.lists in let m = i.lists.value.chunks in let gs = c.args.grants.now in
    let may = subst (λ k. (r : ℕ) × (j : ℕ) × MayAdmit (store_with k r j) gs) (sym c.self.view_is) c.requires in
    may_grant n m g b t i.seat.name gs may.0 may.1 may.2

pub admit-requires-clause-grants : goal.admit-requires-clause-grants
admit-requires-clause-grants c =
    let i = c.self.inside in let g = i.seat.ledger in let b = i.book in let t = c.self.invariant.tied in let n = i.lists.value.lists in let m = i.lists.value.chunks in let gs = c.args.grants.now in
    let may = subst (λ k. (r : ℕ) × (j : ℕ) × MayAdmit (store_with k r j) gs) (sym c.self.view_is) c.requires in
    grantable n m g b t gs (may_grant n m g b t i.seat.name gs may.0 may.1 may.2)

pub invariant_of-self : goal.invariant_of-self
invariant_of-self c =
    let i = c.self.inside in let g = i.seat.ledger in let b = i.book in let t = c.self.invariant.tied in let n = i.lists.value.lists in let m = i.lists.value.chunks in let gs = c.args.grants.now in
    let may = subst (λ k. (r : ℕ) × (j : ℕ) × MayAdmit (store_with k r j) gs) (sym c.self.view_is) c.requires in
    subst {A = OwnerValue × BookValue} (λ z. IsKeeper i.lists.value z.0 z.1) (λ j. (record { name = sym c.admit.ensures.name j; ledger = sym c.admit.ensures.ledger j }, sym c.grant.ensures j)) (record {
      name = c.self.invariant.name;
      tied = granted_tied n m g b t gs (may_grant n m g b t i.seat.name gs may.0 may.1 may.2);
    })

pub returns-clause-store : goal.returns-clause-store
returns-clause-store c =
    let i = c.self.inside in let g = i.seat.ledger in let b = i.book in let t = c.self.invariant.tied in let n = i.lists.value.lists in let m = i.lists.value.chunks in let gs = c.args.grants.now in
    let may = subst (λ k. (r : ℕ) × (j : ℕ) × MayAdmit (store_with k r j) gs) (sym c.self.view_is) c.requires in
    subst (λ k. store_of (record { name = c.admit.new.seat.name; ledger = c.admit.new.seat.ledger; book = c.grant.new.self }) ≡ admitted (store_of k) gs) c.self.view_is
    ((λ j. store_of (record { name = c.admit.ensures.name j; ledger = c.admit.ensures.ledger j; book = c.grant.ensures j }))
    ∙ (λ j. record (admitted (store_of (record { name = i.seat.name; ledger = g; book = b })) gs) { rows = rows_granted gs b.rows g.notes (t.notes ∙ sym t.rows) j }))
