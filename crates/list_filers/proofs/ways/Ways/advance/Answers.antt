use Rattle.std.proofs.Common.{◌≡◌, ◌<◌, ◌∙◌, sym, subst, ap, arith}
use Rattle.list_machine.specs.Facts.{IsAt}
use Rattle.list_machine.proofs.Lists.{at_below}
use Rattle.list_filers.proofs.Walking.{one_more, walked_by, next_is_small}
use Rattle.list_filers.proofs.ways.Ways.advance.Goals as goal

pub next_rank-rank-requires : goal.next_rank-rank-requires
next_rank-rank-requires g c =
    let here = subst (λ w. IsAt w.cursors c.args.at c.args.cursor) (sym c.self.view_is) c.requires.cursor in
    let le = next_is_small c.self.inside.lists.value.chunks c.self.inside.walked c.args.cursor.list c.self.inside.seat.guest c.args.cursor.reached (c.self.invariant.1.stand c.args.at c.args.cursor here) in
    record { fits = omega arith }

pub index_mut-requires : goal.index_mut-requires
index_mut-requires g c =
    let here = subst (λ w. IsAt w.cursors c.args.at c.args.cursor) (sym c.self.view_is) c.requires.cursor in
    omega (arith, at_below c.self.inside.cursors.items c.args.at c.args.cursor here)

pub one_more-self-inside-requires : goal.one_more-self-inside-requires
one_more-self-inside-requires g c =
    let f = c.self.inside in
    let here = subst (λ w. IsAt w.cursors c.args.at c.args.cursor) (sym c.self.view_is) c.requires.cursor in
    let chunks : f.lists.value.chunks ≡ c.args.lists.now.chunks = ap (λ w. w.lists.chunks) c.self.view_is ∙ ap (λ s. s.chunks) c.requires.lists in
    let small : c.follow-chunk.result < f.lists.value.chunks = let lt = c.follow-chunk.ensures.chunk in omega arith in
    let few = one_more f.lists.value.lists f.lists.value.chunks f.walked f.seat.guest f.cursors.items c.self.invariant.1 c.args.at c.args.cursor.list c.follow-chunk.result c.args.cursor.reached here small
    c.follow-chunk.new.seat.guest c.behind.result c.next_rank-rank.result c.behind.ensures c.next_rank-rank.ensures c.follow-chunk.ensures.guest c.walks_are_short.ensures in
    let most = c.chunks.ensures in omega arith

pub invariant_of-self : goal.invariant_of-self
invariant_of-self g c =
    let f = c.self.inside in
    let here = subst (λ w. IsAt w.cursors c.args.at c.args.cursor) (sym c.self.view_is) c.requires.cursor in
    let chunks : f.lists.value.chunks ≡ c.args.lists.now.chunks = ap (λ w. w.lists.chunks) c.self.view_is ∙ ap (λ s. s.chunks) c.requires.lists in
    let small : c.follow-chunk.result < f.lists.value.chunks = let lt = c.follow-chunk.ensures.chunk in omega arith in
    let few = one_more f.lists.value.lists f.lists.value.chunks f.walked f.seat.guest f.cursors.items c.self.invariant.1 c.args.at c.args.cursor.list c.follow-chunk.result c.args.cursor.reached here small
    c.follow-chunk.new.seat.guest c.behind.result c.next_rank-rank.result c.behind.ensures c.next_rank-rank.ensures c.follow-chunk.ensures.guest c.walks_are_short.ensures in (
      c.follow-chunk.ensures.name ∙ c.self.invariant.0,
      walked_by f.lists.value.lists f.lists.value.chunks f.walked f.seat.guest f.cursors.items c.self.invariant.1 c.args.at c.args.cursor.list c.follow-chunk.result c.args.cursor.reached here small
          c.follow-chunk.new.seat.guest c.behind.result c.next_rank-rank.result c.behind.ensures c.next_rank-rank.ensures c.follow-chunk.ensures.guest c.one_more-self-inside.result c.one_more-self-inside.ensures few,
    )
