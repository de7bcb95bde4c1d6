use Rattle.std.proofs.Common.{◌≡◌, sym, refl, ap, ◌∙◌, subst, arith}
use Rattle.list_machine.specs.Layouts.{link_place}
use Rattle.list_table.specs.GuestMoves.{MayRead}
use Rattle.list_table.specs.OwnerMoves.{last_link}
use Rattle.list_table.proofs.Follows.{FollowTold, follow_may}
use Rattle.list_table.proofs.Frames.{last_some}
use Rattle.list_table.specs.Ruled.{guest_of}
use Rattle.list_table.proofs.Steps.{guest_steps}
use Rattle.list_table.proofs.lists.SharedLists.follow.Goals as goal

pub load-found-requires-clause-allowed : goal.load-found-requires-clause-allowed
load-found-requires-clause-allowed c =
    let s = c.self.inside.desk.shared in
    let me = c.seat.inside.seat.me in
    let lists : c.args.self.now.lists ≡ s.key.lists = sym (ap (λ v. v.lists) c.self.view_is) ∙ sym (ap (λ z. z.lists) c.self.invariant.1) in
    let chunks : c.args.self.now.chunks ≡ s.key.chunks = sym (ap (λ v. v.chunks) c.self.view_is) ∙ sym (ap (λ z. z.chunks) c.self.invariant.1) in
    guest_steps s.key.lists s.key.chunks me c.link_place-word.result (link_place s.key.lists c.args.list (last_link c.args.behind)) (λ n. n) (λ n. n) (FollowTold s.key.chunks (guest_of me.0) c.args.list (last_link c.args.behind) c.args.rank) (c.link_place-word.ensures.place ∙ (λ i. link_place (lists i) c.args.list (last_link c.args.behind))) (λ n. refl) c.seat.invariant.seat_is
    (follow_may s.key.lists s.key.chunks (guest_of me.0) c.args.list c.args.rank (last_link c.args.behind) (omega (arith, c.requires.list, lists)) (λ b e. let small = c.requires.behind b (last_some c.args.behind b e) in omega (arith, small, chunks)) (subst (λ v. MayRead v.guest c.args.list (last_link c.args.behind) c.args.rank) (sym c.seat.view_is) c.requires.way))
    s.table_id.slots c.seat.inside.seat.id
