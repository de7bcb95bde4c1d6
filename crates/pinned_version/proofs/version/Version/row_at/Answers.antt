use Rattle.std.proofs.Common.{ap, rules}
use Rattle.std.proofs.lemmas.List.Sorted.{answers_always}
use Rattle.pinned_version.specs.Pinned.{PinnedValue}
use Rattle.pinned_version.specs.declared.node_row.NodeRow.{NodeRow}
use Rattle.pinned_version.proofs.VersionLaws.{IsOnlyRow, found_at, missing_at}
use Rattle.pinned_version.proofs.version.Version.row_at.Goals as goal

pub returns-in-Ok : goal.returns-in-Ok
returns-in-Ok c =
    let equal = c.in-Ok.ensures.position (λ (row : NodeRow). row.path) (answers_always _ _ _ (λ f a r g called. search rules)) in
    let row : IsOnlyRow c.args.self.now.nodes c.args.path.now c.index.result.now =
    found_at c.deref.result.now c.self.inside.nodes.items c.args.self.now.nodes c.args.path.now c.in-Ok.at c.index.result.now c.deref.ensures.value
    (ap (λ (v : PinnedValue). v.nodes) c.self.view_is) c.self.invariant.order c.in-Ok.ensures.bound c.index.ensures equal in
    record { found = row.found; only = row.only; none = tt }

pub returns-in-Err : goal.returns-in-Err
returns-in-Err c =
    let parts = c.in-Err.ensures.position (λ (row : NodeRow). row.path) (answers_always _ _ _ (λ f a r g called. search rules)) in
    record {
      found = tt;
      only = tt;
      none = missing_at c.deref.result.now c.self.inside.nodes.items c.args.self.now.nodes c.args.path.now c.in-Err.field-0 c.deref.ensures.value
          (ap (λ (v : PinnedValue). v.nodes) c.self.view_is) c.self.invariant.order parts;
    }
