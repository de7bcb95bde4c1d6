use Rattle.std.proofs.Common.{◌≡◌, ◌+◌, ◌∙◌, ◌++◌, ◌∷◌, [], sym, ap, subst, map, take, drop, List, ℕ, arith, string_bytes, vec_items, Option, Ok, refl}
use Rattle.std.specs.Prelude.{option_map}
use Rattle.std.proofs.lemmas.Result.{err_from_is_err_and}
use Rattle.std.proofs.lemmas.List.{map-append, take_all}
use Rattle.cloud_io.specs.Counts.{Rose}
use Rattle.cube_math.specs.Points.{PointValue}
use Rattle.run_report.specs.declared.fault.Fault.TheVariants as fault
use Rattle.run_words.specs.Commands.{Text}
use Rattle.simlod_app.specs.Dues.{IsDue}
use Rattle.simlod_app.specs.Runs.{Framed, frame_step, framed_in}
use Rattle.simlod_app.proofs.Openings.{AreRead, AllRead, all_read, none_read, one_more_read}
use Rattle.simlod_app.proofs.ReadingLaws.{Ended, ended_frame, ended_full, ended_next, file_told, opened_told}
use Rattle.simlod_app.proofs.Readings.{split_names, one_name_more, rose_later}
use Rattle.simlod_app.proofs.reading.read_clouds.Goals as goal

-- before the first file
pub loop-name-init : goal.loop-name-init
loop-name-init g c = record {
  kept = refl;
  faults = omega arith;
  missing = omega arith;
  read = rw (c.new-clouds.ensures.items) (none_read (g.I.Inputs.files c.args.inputs.now) c.args.how (g.I.Inputs.opened c.args.inputs.now));
}

-- a file could not be read, or its bytes are refused
pub returns-in_err-cloud-clause-gives : goal.returns-in_err-cloud-clause-gives
returns-in_err-cloud-clause-gives g c =
    let p = err_from_is_err_and c.from_residual.result c.from_residual.ensures.1 in
    let found = c.in_err-cloud.ensures.gives in
    let kept = c.loop-name.invariant in
    let fails : Type 0 = Rose (g.I.Inputs.faults c.args.inputs.now) (g.I.Inputs.faults c.read_cloud.new.inputs) in
    let misses : Type 0 = Rose (g.I.Inputs.missing c.args.inputs.now) (g.I.Inputs.missing c.read_cloud.new.inputs) in
    let fails_here : Type 0 = Rose (g.I.Inputs.faults c.loop-name.inputs) (g.I.Inputs.faults c.read_cloud.new.inputs) in
    let misses_here : Type 0 = Rose (g.I.Inputs.missing c.loop-name.inputs) (g.I.Inputs.missing c.read_cloud.new.inputs) in
    let P : Option (List ℕ) → Type 0 = λ content. IsDue (λ failed. (failed ≡ c.as_str.result.now) × fails_here) misses_here (framed_in c.args.how c.as_str.result.now content) c.in_err-cloud.field-0.0 in
    rw (p.1, p.2)
    (subst (λ (names : List Text). Ended (g.I.Inputs.files c.args.inputs.now) names c.args.how (g.I.Inputs.opened c.args.inputs.now) (g.I.Inputs.opened c.read_cloud.new.inputs) fails misses c.in_err-cloud.field-0.0)
    (sym (split_names c.args.names.now c.loop-name.name-index c.name-item.result _ c.loop-name-test.true c.name-item.is c.as_str.ensures.value))
    (ended_next _ _ (map string_bytes (drop (c.loop-name.name-index + 1) c.args.names.now)) c.args.how _ _ _ _ _ c.as_str.result.now found.0 fails_here fails misses_here misses c.in_err-cloud.field-0.0 kept.read
    (opened_told _ _ _ _ _ found.0 kept.kept found.1) found.2
    (λ rose. rose_later _ _ _ kept.faults rose) (λ rose. rose_later _ _ _ kept.missing rose)
    (file_told _ _ c.as_str.result.now found.0 P kept.kept found.3)))

-- a LAS file is in another frame than the first
pub returns-in_err-first-clause-gives : goal.returns-in_err-first-clause-gives
returns-in_err-first-clause-gives g c =
    let p = err_from_is_err_and c.from_residual-in_err-first.result c.from_residual-in_err-first.ensures.1 in
    let found = c.in_ok-cloud.ensures.gives in
    let kept = c.loop-name.invariant in
    let fails : Type 0 = Rose (g.I.Inputs.faults c.args.inputs.now) (g.I.Inputs.faults c.read_cloud.new.inputs) in
    let misses : Type 0 = Rose (g.I.Inputs.missing c.args.inputs.now) (g.I.Inputs.missing c.read_cloud.new.inputs) in
    let P : Option (List ℕ) → Type 0 = λ content. framed_in c.args.how c.as_str.result.now content ≡ Ok (c.in_ok-cloud.cloud.points.items, c.in_ok-cloud.cloud.frame) in
    rw (p.1, p.2)
    (subst (λ (names : List Text). Ended (g.I.Inputs.files c.args.inputs.now) names c.args.how (g.I.Inputs.opened c.args.inputs.now) (g.I.Inputs.opened c.read_cloud.new.inputs) fails misses c.in_err-first.field-0.0)
    (sym (split_names c.args.names.now c.loop-name.name-index c.name-item.result _ c.loop-name-test.true c.name-item.is c.as_str.ensures.value))
    (ended_frame _ _ (map string_bytes (drop (c.loop-name.name-index + 1) c.args.names.now)) c.args.how _ _ _ _ _ c.as_str.result.now found.0 c.in_ok-cloud.cloud.points.items c.in_ok-cloud.cloud.frame fails misses c.in_err-first.field-0.0 kept.read
    (opened_told _ _ _ _ _ found.0 kept.kept found.1) found.2 (file_told _ _ c.as_str.result.now found.0 P kept.kept found.3)
    (subst (λ (name : Text). IsDue (λ failed. ⊥) ⊥ (frame_step (option_map (λ f. (f.name.now, f.frame)) c.loop-name.first) name c.in_ok-cloud.cloud.frame) c.in_err-first.field-0.0)
    (c.as_str-in-loop-name.ensures.value ∙ sym c.as_str.ensures.value) c.in_err-first.ensures.gives)))

-- there is no memory for the points of a file
pub returns-in_default-clause-gives : goal.returns-in_default-clause-gives
returns-in_default-clause-gives g c =
    let found = c.in_ok-cloud.ensures.gives in
    let kept = c.loop-name.invariant in
    let fails : Type 0 = Rose (g.I.Inputs.faults c.args.inputs.now) (g.I.Inputs.faults c.read_cloud.new.inputs) in
    let misses : Type 0 = Rose (g.I.Inputs.missing c.args.inputs.now) (g.I.Inputs.missing c.read_cloud.new.inputs) in
    let P : Option (List ℕ) → Type 0 = λ content. framed_in c.args.how c.as_str.result.now content ≡ Ok (c.in_ok-cloud.cloud.points.items, c.in_ok-cloud.cloud.frame) in
    subst (λ (names : List Text). Ended (g.I.Inputs.files c.args.inputs.now) names c.args.how (g.I.Inputs.opened c.args.inputs.now) (g.I.Inputs.opened c.read_cloud.new.inputs) fails misses fault.Memory)
    (sym (split_names c.args.names.now c.loop-name.name-index c.name-item.result _ c.loop-name-test.true c.name-item.is c.as_str.ensures.value))
    (ended_full _ _ (map string_bytes (drop (c.loop-name.name-index + 1) c.args.names.now)) c.args.how _ _ _ _ _ c.as_str.result.now found.0 fails misses P kept.read
    (opened_told _ _ _ _ _ found.0 kept.kept found.1) (file_told _ _ c.as_str.result.now found.0 P kept.kept found.3))

-- one file more
pub loop-name-preserved : goal.loop-name-preserved
loop-name-preserved g c =
    let found = c.in_ok-cloud.ensures.gives in
    let kept = c.loop-name.invariant in
    let clouds : map vec_items c.push.new.self.items ≡ map vec_items c.loop-name.clouds.items ++ c.in_ok-cloud.cloud.points.items ∷ [] =
    ap (map vec_items) c.in-Ok.ensures.items ∙ map-append vec_items c.loop-name.clouds.items (c.in_ok-cloud.cloud.points ∷ []) in
    let first : Option Framed = option_map (λ f. (f.name.now, f.frame)) c.in_ok-first.first in
    let step : frame_step (option_map (λ f. (f.name.now, f.frame)) c.loop-name.first) c.as_str.result.now c.in_ok-cloud.cloud.frame ≡ Ok first =
    ap (λ (name : Text). frame_step (option_map (λ f. (f.name.now, f.frame)) c.loop-name.first) name c.in_ok-cloud.cloud.frame) (c.as_str.ensures.value ∙ sym c.as_str-in-loop-name.ensures.value)
    ∙ c.in_ok-first.ensures.gives in
    record {
      kept = c.in_ok-cloud.ensures.kept ∙ kept.kept;
      faults = omega (arith, kept.faults, c.in_ok-cloud.ensures.later.0);
      missing = omega (arith, kept.missing, c.in_ok-cloud.ensures.later.1);
      read = subst (λ (names : List Text). AreRead (g.I.Inputs.files c.args.inputs.now) names c.args.how first (map vec_items c.push.new.self.items) (g.I.Inputs.opened c.args.inputs.now) (g.I.Inputs.opened c.read_cloud.new.inputs))
          (sym (one_name_more c.args.names.now c.loop-name.name-index c.name-item.result _ c.loop-name-test.true c.name-item.is c.as_str.ensures.value))
          (subst (λ (cs : List (List PointValue)). AreRead (g.I.Inputs.files c.args.inputs.now) (map string_bytes (take c.loop-name.name-index c.args.names.now) ++ c.as_str.result.now ∷ []) c.args.how first cs (g.I.Inputs.opened c.args.inputs.now) (g.I.Inputs.opened c.read_cloud.new.inputs)) (sym clouds)
          (one_more_read _ _ c.args.how _ first _ _ _ _ c.as_str.result.now found.0 c.in_ok-cloud.cloud.points.items c.in_ok-cloud.cloud.frame kept.read
          (opened_told _ _ _ _ _ found.0 kept.kept found.1) found.2 found.3.0 step));
    }

-- all files were read
pub returns-clause-gives : goal.returns-clause-gives
returns-clause-gives g c =
    let all : map string_bytes (take c.loop-name.name-index c.args.names.now) ≡ map string_bytes c.args.names.now = ap (map string_bytes) (take_all c.loop-name.name-index c.args.names.now c.loop-name-test.false) in
    let read : AllRead (g.I.Inputs.files c.args.inputs.now) (map string_bytes c.args.names.now) c.args.how (map vec_items c.loop-name.clouds.items) (g.I.Inputs.opened c.args.inputs.now) (g.I.Inputs.opened c.loop-name.inputs) =
    subst (λ (names : List Text). AllRead (g.I.Inputs.files c.args.inputs.now) names c.args.how (map vec_items c.loop-name.clouds.items) (g.I.Inputs.opened c.args.inputs.now) (g.I.Inputs.opened c.loop-name.inputs)) all
    (all_read _ _ c.args.how _ _ _ _ c.loop-name.invariant.read) in
    read
