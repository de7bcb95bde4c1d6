use Rattle.std.proofs.Common.{◌≡◌, ◌+◌, ◌<◌, ℕ, length, get_or, arith, ap, sym, subst, ◌∙◌, nat_lt}
use Rattle.voxel_sampler.specs.Nears.{NearValue, near_key, cells_of}
use Rattle.voxel_sampler.specs.Ready.{ReadyValue}
use Rattle.voxel_sampler.proofs.Merging.{IsMerged, none_merged, old_kept, new_added, one_replaced, cell_at, replaced_is, rest_at, rest_within, at_old, at_new}
use Rattle.voxel_sampler.proofs.Rising.{rising_from}
use Rattle.voxel_sampler.proofs.updating.updated.Goals as goal
use Rattle.voxel_sampler.proofs.updating.updated.Goals.{then-loop-old-test+else-new-lowest, else-loop-old-test}

pub loop-old-init : goal.loop-old-init
loop-old-init c = record {
  old_within = omega arith;
  new_within = omega arith;
  merged = subst (λ (r : ReadyValue). IsMerged c.args.best.now c.args.lowest.now 0 0 r.nears r.run) (sym c.in_ok-ready.ensures) (none_merged c.args.best.now c.args.lowest.now);
}

pub loop-old-preserved-then-known-found : goal.loop-old-preserved-then-known-found
loop-old-preserved-then-known-found c =
    let best = c.args.best.now in
    let lowest = c.args.lowest.now in
    let o = c.index-best-old.result in
    let n = c.index-lowest-new.result in
    let l : c.loop-old.old < length best = omega arith in
    let l' : c.loop-old.new < length lowest = omega arith in
    let o_cell : c.known.inside.cell ≡ o.cell = ap (λ (x : NearValue). x.cell) c.known.view_is in
    let n_cell : c.found.inside.cell ≡ n.cell = ap (λ (x : NearValue). x.cell) c.found.view_is in
    let at : get_or (cells_of lowest) c.loop-old.new 0 ≡ n.cell = cell_at lowest c.loop-old.new n l' c.index-lowest-new.is in
    let before : o.cell < get_or (cells_of lowest) c.loop-old.new 0 = omega arith in
    let merged = old_kept best lowest c.loop-old.old c.loop-old.new o c.loop-old.ready.nears c.loop-old.ready.run (rising_from (cells_of best) c.requires.best) l c.index-best-old.is c.in_ok-keep.ensures.small
    (λ more. before) c.loop-old.invariant.merged in
    record {
      old_within = omega arith;
      new_within = c.loop-old.invariant.new_within;
      merged = subst (λ (r : ReadyValue). IsMerged best lowest (c.loop-old.old + 1) c.loop-old.new r.nears r.run) (sym c.in_ok-keep.ensures.kept) merged;
    }

pub loop-old-preserved-then-found-known : goal.loop-old-preserved-then-found-known
loop-old-preserved-then-found-known c =
    let best = c.args.best.now in
    let lowest = c.args.lowest.now in
    let o = c.index-best-old.result in
    let n = c.index-lowest-new.result in
    let l : c.loop-old.old < length best = omega arith in
    let l' : c.loop-old.new < length lowest = omega arith in
    let o_cell : c.known.inside.cell ≡ o.cell = ap (λ (x : NearValue). x.cell) c.known.view_is in
    let n_cell : c.found.inside.cell ≡ n.cell = ap (λ (x : NearValue). x.cell) c.found.view_is in
    let at : get_or (cells_of best) c.loop-old.old 0 ≡ o.cell = cell_at best c.loop-old.old o l c.index-best-old.is in
    let before : n.cell < get_or (cells_of best) c.loop-old.old 0 = omega arith in
    let merged = new_added best lowest c.loop-old.old c.loop-old.new n c.loop-old.ready.nears c.loop-old.ready.run (rising_from (cells_of best) c.requires.best) (rising_from (cells_of lowest) c.requires.lowest) l' c.index-lowest-new.is c.in_ok-change.ensures.small
    (λ more. before) c.loop-old.invariant.merged in
    record {
      old_within = c.loop-old.invariant.old_within;
      new_within = omega arith;
      merged = subst (λ (r : ReadyValue). IsMerged best lowest c.loop-old.old (c.loop-old.new + 1) r.nears r.run) (sym c.in_ok-change.ensures.changed) merged;
    }

pub loop-old-preserved : goal.loop-old-preserved
loop-old-preserved c =
    let best = c.args.best.now in
    let lowest = c.args.lowest.now in
    let o = c.index-best-old.result in
    let n = c.index-lowest-new.result in
    let l : c.loop-old.old < length best = omega arith in
    let l' : c.loop-old.new < length lowest = omega arith in
    let o_cell : c.known.inside.cell ≡ o.cell = ap (λ (x : NearValue). x.cell) c.known.view_is in
    let n_cell : c.found.inside.cell ≡ n.cell = ap (λ (x : NearValue). x.cell) c.found.view_is in
    let same : o.cell ≡ n.cell = omega arith in
    let merged = one_replaced best lowest c.loop-old.old c.loop-old.new o n c.loop-old.ready.nears c.loop-old.ready.run (rising_from (cells_of best) c.requires.best) (rising_from (cells_of lowest) c.requires.lowest)
    l c.index-best-old.is c.in_ok-replace.ensures.small.0 l' c.index-lowest-new.is c.in_ok-replace.ensures.small.1 same c.loop-old.invariant.merged in
    record {
      old_within = omega arith;
      new_within = omega arith;
      merged = subst (λ (r : ReadyValue). IsMerged best lowest (c.loop-old.old + 1) (c.loop-old.new + 1) r.nears r.run)
          (sym (c.in_ok-replace.ensures.lesser ∙ replaced_is c.loop-old.ready o n (nat_lt (near_key n) (near_key o)))) merged;
    }

pub loop-near-preserved : goal.loop-near-preserved
loop-near-preserved c =
    let best = c.args.best.now in
    let lowest = c.args.lowest.now in
    let o = c.near-item.result in
    let i : ℕ = c.loop-old.old + c.loop-near.near-index in
    let l : i < length best = rest_within best c.loop-old.old c.loop-near.near-index c.loop-near-test.true in
    let is : o ≡ get_or best i o = rest_at best c.loop-old.old c.loop-near.near-index o c.near-item.is in
    let merged = old_kept best lowest i c.loop-old.new o c.loop-near.ready.nears c.loop-near.ready.run (rising_from (cells_of best) c.requires.best) l is c.in_ok-keep-2.ensures.small
    (λ more. elim c.loop-old-test.branch [ then-loop-old-test+else-new-lowest w ↦ absurd (omega arith) | else-loop-old-test w ↦ absurd (omega arith) ]) c.loop-near.invariant in
    at_old best lowest (i + 1) (c.loop-old.old + (c.loop-near.near-index + 1)) c.loop-old.new _ _ (omega arith)
    (subst (λ (r : ReadyValue). IsMerged best lowest (i + 1) c.loop-old.new r.nears r.run) (sym c.in_ok-keep-2.ensures.kept) merged)

pub loop-near-2-preserved : goal.loop-near-2-preserved
loop-near-2-preserved c =
    let best = c.args.best.now in
    let lowest = c.args.lowest.now in
    let n = c.near-item-in-loop-near-2.result in
    let k : ℕ = c.loop-old.new + c.loop-near-2.near-index in
    let l : k < length lowest = rest_within lowest c.loop-old.new c.loop-near-2.near-index c.loop-near-2-test.true in
    let is : n ≡ get_or lowest k n = rest_at lowest c.loop-old.new c.loop-near-2.near-index n c.near-item-in-loop-near-2.is in
    let merged = new_added best lowest (length best) k n c.loop-near-2.ready.nears c.loop-near-2.ready.run (rising_from (cells_of best) c.requires.best) (rising_from (cells_of lowest) c.requires.lowest) l is c.in_ok-change-2.ensures.small
    (λ more. absurd (omega arith)) c.loop-near-2.invariant in
    at_new best lowest (length best) (k + 1) (c.loop-old.new + (c.loop-near-2.near-index + 1)) _ _ (omega arith)
    (subst (λ (r : ReadyValue). IsMerged best lowest (length best) (k + 1) r.nears r.run) (sym c.in_ok-change-2.ensures.changed) merged)
