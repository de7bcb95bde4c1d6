use Rattle.std.proofs.Common.{arith, inr, Global, List, ℕ, ◌+◌, ◌++◌, ◌∷◌, [], take, ◌≡◌, ◌∙◌, ap, sym, refl, length}
use Rattle.cloud_io.proofs.Endings.{err_is, told_unopened, left_unopened, causes_unopened, causes_failed, quiet_ok, quiet_memory, quiet_too_long}
use Rattle.cloud_io.proofs.Prefixes.{begun_none, begun_more, begun_whole, begun_long, given_begun, given_whole, grown, read_last, read_more, stands}
use Rattle.cloud_io.specs.Files.{begun}
use Rattle.cloud_io.proofs.whole.read_all.Goals as goal

-- the file was not opened
pub returns-in_err-file-clause-told : goal.returns-in_err-file-clause-told
returns-in_err-file-clause-told g c =
    rw (err_is _ _ c.from_residual-in_err-file.ensures.1)
    (told_unopened Global (g.I.Inputs.files c.args.inputs.now) c.args.name.now c.args.most c.in_err-file.field-0.0 c.in_err-file.ensures.agrees)

pub returns-in_err-file-clause-opened : goal.returns-in_err-file-clause-opened
returns-in_err-file-clause-opened g c =
    rw (err_is _ _ c.from_residual-in_err-file.ensures.1)
    (left_unopened Global _ _ _ _ _ c.in_err-file.field-0.0 c.in_err-file.ensures.opens)

pub returns-in_err-file-clause-causes : goal.returns-in_err-file-clause-causes
returns-in_err-file-clause-causes g c =
    rw (err_is _ _ c.from_residual-in_err-file.ensures.1)
    (causes_unopened _ _ _ _ _ c.in_err-file.field-0.0 c.in_err-file.ensures.causes)

-- before the first read
pub loop-bytes-init : goal.loop-bytes-init
loop-bytes-init g c = record {
  room = omega (arith, c.in_ok-buffer.ensures.len, c.as_mut_slice-piece.ensures.len);
  small = omega (arith, c.in_ok-buffer.ensures.len, c.as_mut_slice-piece.ensures.len);
  few = omega (arith, ap length c.new-bytes.ensures.items);
  files = c.in_ok-file.ensures.files;
  number = c.in_ok-file.ensures.opens.0;
  behind = c.in_ok-file.ensures.opens.1 ∙ ap (λ (l : List ℕ). g.I.Inputs.opened c.args.inputs.now ++ begun c.args.name.now l ∷ []) (sym c.new-bytes.ensures.items);
  begun = rw c.new-bytes.ensures.items (begun_none (g.I.Inputs.files c.args.inputs.now) c.args.name.now c.in_ok-file.ensures.agrees);
  faults = c.in_ok-file.ensures.causes.faults_calm (λ e. cc);
  missing = c.in_ok-file.ensures.causes.missing_calm (λ e. cc);
}

-- a read failed
pub returns-in_err-n-clause-opened : goal.returns-in_err-n-clause-opened
returns-in_err-n-clause-opened g c =
    let kept = c.loop-bytes.invariant in
    rw (err_is _ _ c.from_residual-in_err-n.ensures.1)
    (inr (
      c.loop-bytes.bytes.items,
      kept.few,
      record { behind = c.in_err-n.ensures.reads ∙ kept.behind; given = given_begun _ _ _ kept.begun },
    ))

pub returns-in_err-n-clause-causes : goal.returns-in_err-n-clause-causes
returns-in_err-n-clause-causes g c =
    let kept = c.loop-bytes.invariant in
    rw (err_is _ _ c.from_residual-in_err-n.ensures.1)
    (causes_failed _ _ _ _ _ _ _ _ kept.faults kept.missing c.in_err-n.ensures.cause c.in_err-n.ensures.missing)

-- a read gave nothing, which is the end
pub returns-then-n-eq0-clause-told : goal.returns-then-n-eq0-clause-told
returns-then-n-eq0-clause-told g c =
    let kept = c.loop-bytes.invariant in
    begun_whole _ (g.I.Inputs.files c.loop-bytes.inputs) (g.I.Inputs.opened c.loop-bytes.inputs) c.in_ok-file.file _ _
    c.read.new.buf c.in_ok-n.n kept.files kept.begun (stands _ _ _ _ kept.behind kept.number) c.in_ok-n.ensures.gives c.if-n-eq0.true
    (omega (arith, kept.room))

pub returns-then-n-eq0-clause-opened : goal.returns-then-n-eq0-clause-opened
returns-then-n-eq0-clause-opened g c =
    let kept = c.loop-bytes.invariant in (
      record {
        behind = read_last _ _ _ _ c.in_ok-n.n _ _ c.read.new.buf kept.behind kept.number c.in_ok-n.ensures.reads c.if-n-eq0.true (omega (arith, kept.room));
        given = given_whole (g.I.Inputs.files c.args.inputs.now) c.args.name.now c.loop-bytes.bytes.items
            (begun_whole _ (g.I.Inputs.files c.loop-bytes.inputs) (g.I.Inputs.opened c.loop-bytes.inputs) c.in_ok-file.file _ _
            c.read.new.buf c.in_ok-n.n kept.files kept.begun (stands _ _ _ _ kept.behind kept.number) c.in_ok-n.ensures.gives c.if-n-eq0.true
            (omega (arith, kept.room)));
      },
      kept.few,
    )

pub returns-then-n-eq0-clause-causes : goal.returns-then-n-eq0-clause-causes
returns-then-n-eq0-clause-causes g c =
    let kept = c.loop-bytes.invariant in
    quiet_ok _ _ _ _ _ (c.in_ok-n.ensures.cause.calm ∙ kept.faults) (c.in_ok-n.ensures.missing ∙ kept.missing)

-- there was no memory for what a read gave
pub returns-in_err-extend_from_slice-clause-opened : goal.returns-in_err-extend_from_slice-clause-opened
returns-in_err-extend_from_slice-clause-opened g c =
    let kept = c.loop-bytes.invariant in
    let come = c.loop-bytes.bytes.items ++ take c.in_ok-n.n c.read.new.buf in
    let more = begun_more (g.I.Inputs.files c.args.inputs.now) (g.I.Inputs.files c.loop-bytes.inputs) (g.I.Inputs.opened c.loop-bytes.inputs) c.in_ok-file.file c.args.name.now c.loop-bytes.bytes.items
    c.read.new.buf come c.in_ok-n.n kept.files kept.begun (stands _ _ _ _ kept.behind kept.number) c.in_ok-n.ensures.bound.0 c.in_ok-n.ensures.gives refl in
    rw (err_is _ _ c.from_residual-in_err-extend_from_slice.ensures.1)
    (inr (
      come,
      omega (arith, grown come _ _ c.read.new.buf refl c.in_ok-n.ensures.bound.0, c.if-len-n.false, c.len.ensures, c.loop-bytes.bytes.ok.0),
      record {
        behind = read_more _ _ _ _ c.in_ok-n.n _ _ c.read.new.buf come kept.behind kept.number c.in_ok-n.ensures.reads c.if-n-eq0.false refl;
        given = given_begun (g.I.Inputs.files c.args.inputs.now) c.args.name.now come more;
      },
    ))

pub returns-in_err-extend_from_slice-clause-causes : goal.returns-in_err-extend_from_slice-clause-causes
returns-in_err-extend_from_slice-clause-causes g c =
    let kept = c.loop-bytes.invariant in
    rw (err_is _ _ c.from_residual-in_err-extend_from_slice.ensures.1)
    (quiet_memory _ _ _ _ _ (c.in_ok-n.ensures.cause.calm ∙ kept.faults) (c.in_ok-n.ensures.missing ∙ kept.missing))

-- a read gave more than is left of the limit
pub returns-then-len-n-clause-told : goal.returns-then-len-n-clause-told
returns-then-len-n-clause-told g c =
    let kept = c.loop-bytes.invariant in
    let come = c.loop-bytes.bytes.items ++ take c.in_ok-n.n c.read.new.buf in
    begun_long (g.I.Inputs.files c.args.inputs.now) c.args.name.now come _
    (begun_more (g.I.Inputs.files c.args.inputs.now) (g.I.Inputs.files c.loop-bytes.inputs) (g.I.Inputs.opened c.loop-bytes.inputs) c.in_ok-file.file c.args.name.now c.loop-bytes.bytes.items
    c.read.new.buf come c.in_ok-n.n kept.files kept.begun (stands _ _ _ _ kept.behind kept.number) c.in_ok-n.ensures.bound.0 c.in_ok-n.ensures.gives refl)
    (omega (arith, grown come _ _ c.read.new.buf refl c.in_ok-n.ensures.bound.0, c.if-len-n.true, c.len.ensures, c.loop-bytes.bytes.ok.0))

pub returns-then-len-n-clause-opened : goal.returns-then-len-n-clause-opened
returns-then-len-n-clause-opened g c =
    let kept = c.loop-bytes.invariant in
    let come = c.loop-bytes.bytes.items ++ take c.in_ok-n.n c.read.new.buf in
    let more = begun_more (g.I.Inputs.files c.args.inputs.now) (g.I.Inputs.files c.loop-bytes.inputs) (g.I.Inputs.opened c.loop-bytes.inputs) c.in_ok-file.file c.args.name.now c.loop-bytes.bytes.items
    c.read.new.buf come c.in_ok-n.n kept.files kept.begun (stands _ _ _ _ kept.behind kept.number) c.in_ok-n.ensures.bound.0 c.in_ok-n.ensures.gives refl in (
      refl,
      (
        come,
        omega (arith, grown come _ _ c.read.new.buf refl c.in_ok-n.ensures.bound.0, c.if-len-n.true, c.len.ensures, c.loop-bytes.bytes.ok.0),
        record {
          behind = read_more _ _ _ _ c.in_ok-n.n _ _ c.read.new.buf come kept.behind kept.number c.in_ok-n.ensures.reads c.if-n-eq0.false refl;
          given = given_begun (g.I.Inputs.files c.args.inputs.now) c.args.name.now come more;
        },
      ),
    )

pub returns-then-len-n-clause-causes : goal.returns-then-len-n-clause-causes
returns-then-len-n-clause-causes g c =
    let kept = c.loop-bytes.invariant in
    quiet_too_long _ _ _ _ _ _ (c.in_ok-n.ensures.cause.calm ∙ kept.faults) (c.in_ok-n.ensures.missing ∙ kept.missing)

-- the next turn
pub loop-bytes-preserved : goal.loop-bytes-preserved
loop-bytes-preserved g c =
    let kept = c.loop-bytes.invariant in
    let new = c.extend_from_slice.new.self in
    let sum : length new.items ≡ length c.loop-bytes.bytes.items + c.in_ok-n.n = grown _ _ _ c.read.new.buf c.in_ok-extend_from_slice.ensures.items c.in_ok-n.ensures.bound.0 in
    record {
      room = omega (arith, kept.room);
      small = omega (arith, kept.small);
      few = omega (arith, sum, c.if-len-n.false, c.len.ensures, c.loop-bytes.bytes.ok.0);
      files = c.in_ok-n.ensures.files ∙ kept.files;
      number = kept.number;
      behind = read_more _ _ _ _ c.in_ok-n.n _ _ c.read.new.buf new.items kept.behind kept.number c.in_ok-n.ensures.reads c.if-n-eq0.false c.in_ok-extend_from_slice.ensures.items;
      begun = begun_more (g.I.Inputs.files c.args.inputs.now) (g.I.Inputs.files c.loop-bytes.inputs) (g.I.Inputs.opened c.loop-bytes.inputs) c.in_ok-file.file c.args.name.now c.loop-bytes.bytes.items
          c.read.new.buf new.items c.in_ok-n.n kept.files kept.begun (stands _ _ _ _ kept.behind kept.number) c.in_ok-n.ensures.bound.0 c.in_ok-n.ensures.gives c.in_ok-extend_from_slice.ensures.items;
      faults = c.in_ok-n.ensures.cause.calm ∙ kept.faults;
      missing = c.in_ok-n.ensures.missing ∙ kept.missing;
    }
