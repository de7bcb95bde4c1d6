use Rattle.std.proofs.Common.{◌≡◌, ◌<◌, ◌^◌, ℕ, List, true, false, length, get_or, set, subst, arith, ap, sym, refl, ◌∙◌}
use Rattle.std.proofs.lemmas.Grind.{get_or_default_zero}
use Rattle.octree_model.specs.Numbers.{has, with_number}
use Rattle.voxel_sampler.specs.Nears.{NearValue}
use Rattle.voxel_sampler.proofs.Merging.{lesser_near}
use Rattle.least_runs.specs.Tables.{HasEntry, IsTable, no_near}
use Rattle.least_runs.proofs.TableLaws.{any_default, known_entry, new_entry, shown_known, shown_new}
use Rattle.least_runs.proofs.cell_table.CellTable.put.Goals as goal

pub invariant_of-self : goal.invariant_of-self
invariant_of-self c =
    let n = c.args.near in let s = c.self.inside in let i = c.index.result.now in
    let at : c.near.inside.cell ≡ n.cell = ap (λ (x : NearValue). x.cell) c.near.view_is in
    let old : has n.cell s.cells ≡ true = ap (λ z. has z s.cells) (sym at) ∙ sym c.has.ensures.value ∙ c.if-has.true in
    let known : HasEntry s.places.items s.nears.items n.cell = c.self.invariant.each n.cell old in
    let place : i ≡ get_or s.places.items n.cell 0 = c.index.ensures ∙ get_or_default_zero s.places.items c.near.inside.cell i (omega (arith, c.near.invariant, c.self.invariant.places_long)) ∙ ap (λ z. get_or s.places.items z 0) at in
    let read : c.index_mut-known.result.now ≡ get_or s.nears.items i no_near = c.index_mut-known.ensures.value ∙ any_default s.nears.items i c.index_mut-known.result.now no_near (omega (arith, place, known.within)) in
    known_entry s.cells s.places.items s.nears.items (set s.nears.items i c.lesser.result) n c.lesser.result i old place (c.lesser.ensures ∙ ap (λ o. lesser_near o n) read) refl c.self.invariant

pub returns-then-has : goal.returns-then-has
returns-then-has c =
    let n = c.args.near in let s = c.self.inside in let i = c.index.result.now in
    let at : c.near.inside.cell ≡ n.cell = ap (λ (x : NearValue). x.cell) c.near.view_is in
    let old : has n.cell s.cells ≡ true = ap (λ z. has z s.cells) (sym at) ∙ sym c.has.ensures.value ∙ c.if-has.true in
    let known : HasEntry s.places.items s.nears.items n.cell = c.self.invariant.each n.cell old in
    let place : i ≡ get_or s.places.items n.cell 0 = c.index.ensures ∙ get_or_default_zero s.places.items c.near.inside.cell i (omega (arith, c.near.invariant, c.self.invariant.places_long)) ∙ ap (λ z. get_or s.places.items z 0) at in
    let read : c.index_mut-known.result.now ≡ get_or s.nears.items i no_near = c.index_mut-known.ensures.value ∙ any_default s.nears.items i c.index_mut-known.result.now no_near (omega (arith, place, known.within)) in
    shown_known s.cells s.places.items s.nears.items (set s.nears.items i c.lesser.result) c.args.self.now n c.lesser.result i old place (c.lesser.ensures ∙ ap (λ o. lesser_near o n) read) refl c.self.invariant c.self.view_is

pub invariant_of-self-else-has : goal.invariant_of-self-else-has
invariant_of-self-else-has c =
    let n = c.args.near in let s = c.self.inside in let p = c.len-place.result in
    let at : c.near.inside.cell ≡ n.cell = ap (λ (x : NearValue). x.cell) c.near.view_is in
    let new : has n.cell s.cells ≡ false = ap (λ z. has z s.cells) (sym at) ∙ sym c.has.ensures.value ∙ c.if-has.false in
    subst (λ (cs : List ℕ). IsTable cs (set s.places.items c.near.inside.cell p) c.push.new.self.items) (sym (c.insert.ensures ∙ ap (λ z. with_number z s.cells) at))
    (new_entry s.cells s.places.items (set s.places.items c.near.inside.cell p) s.nears.items c.push.new.self.items n p (omega (arith, c.near.invariant, at)) new (omega (arith, c.len-place.ensures, s.nears.ok))
    (ap (λ z. set s.places.items z p) at) c.in_ok-push.ensures.items c.self.invariant)

pub returns-in_ok-push : goal.returns-in_ok-push
returns-in_ok-push c = shown_new c.self.inside.nears.items c.push.new.self.items c.args.self.now c.args.near c.in_ok-push.ensures.items c.self.view_is
