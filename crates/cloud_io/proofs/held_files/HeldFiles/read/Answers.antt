use Rattle.std.proofs.Common.{List, ℕ, ◌≡◌, length, take, drop, min, arith, ap, ◌∙◌}
use Rattle.cloud_io.proofs.OpenFiles.{opened_within, open_here, place_within, reads_here, gives_here, next_copied}
use Rattle.cloud_io.proofs.held_files.HeldFiles.read.Goals as goal

pub index_mut-opened-requires : goal.index_mut-opened-requires
index_mut-opened-requires c = let lt = opened_within c.args.self.now.files.items c.args.self.now.opened.items c.args.file c.requires in omega (arith, c.args.self.now.opened.ok.0)

pub index-requires : goal.index-requires
index-requires c =
    let held = c.args.self.now in
    let lt = opened_within held.files.items held.opened.items c.args.file c.requires in
    let valid = open_here held.files.items held.opened.items c.args.file c.index_mut-opened.result.now held.valid lt c.index_mut-opened.ensures.value in
    omega (arith, valid.there, held.files.ok.0)

pub split_at-requires : goal.split_at-requires
split_at-requires c =
    let held = c.args.self.now in
    let lt = opened_within held.files.items held.opened.items c.args.file c.requires in
    let valid = open_here held.files.items held.opened.items c.args.file c.index_mut-opened.result.now held.valid lt c.index_mut-opened.ensures.value in
    omega (arith, place_within held.files.items c.index_mut-opened.result.now c.index.result.now valid c.index.ensures, ap length c.as_slice-bytes.ensures.value)

pub read_on-requires : goal.read_on-requires
read_on-requires c =
    let held = c.args.self.now in
    let lt = opened_within held.files.items held.opened.items c.args.file c.requires in
    let valid = open_here held.files.items held.opened.items c.args.file c.index_mut-opened.result.now held.valid lt c.index_mut-opened.ensures.value in
    let within = place_within held.files.items c.index_mut-opened.result.now c.index.result.now valid c.index.ensures in
    omega (arith, within, c.min-n.ensures, c.split_at.ensures.back_len, ap length c.as_slice-bytes.ensures.value, c.index.result.now.bytes.ok.0, c.index.result.now.bytes.ok.1, c.index.result.now.bytes.small)

pub returns-clause-reads : goal.returns-clause-reads
returns-clause-reads c =
    let held = c.args.self.now in
    let lt = opened_within held.files.items held.opened.items c.args.file c.requires in
    let valid = open_here held.files.items held.opened.items c.args.file c.index_mut-opened.result.now held.valid lt c.index_mut-opened.ensures.value in
    let place = c.index_mut-opened.result.now.place in
    let rest : c.split_at.result.1.now ≡ drop place c.index.result.now.bytes.items = c.split_at.ensures.back ∙ ap (λ (l : List ℕ). drop place l) c.as_slice-bytes.ensures.value in
    let next = next_copied c.index.result.now.bytes.items place c.min-n.result c.args.buf.now c.copy_from_slice.new.self
    (c.copy_from_slice.ensures.after ∙ ap (λ (l : List ℕ). take c.min-n.result l) rest)
    (c.min-n.ensures ∙ ap (λ (l : List ℕ). min (length l) (length c.args.buf.now)) rest) in
    reads_here held.files.items held.opened.items c.args.file c.index_mut-opened.result.now c.read_on.new.self c.index.result.now c.min-n.result _ valid lt c.index_mut-opened.ensures.value c.index.ensures
    c.read_on.ensures next.given

pub returns-clause-gives : goal.returns-clause-gives
returns-clause-gives c =
    let held = c.args.self.now in
    let lt = opened_within held.files.items held.opened.items c.args.file c.requires in
    let valid = open_here held.files.items held.opened.items c.args.file c.index_mut-opened.result.now held.valid lt c.index_mut-opened.ensures.value in
    let place = c.index_mut-opened.result.now.place in
    let rest : c.split_at.result.1.now ≡ drop place c.index.result.now.bytes.items = c.split_at.ensures.back ∙ ap (λ (l : List ℕ). drop place l) c.as_slice-bytes.ensures.value in
    gives_here held.files.items held.opened.items c.args.file c.index_mut-opened.result.now c.index.result.now c.min-n.result _ valid lt c.index_mut-opened.ensures.value c.index.ensures
    (next_copied c.index.result.now.bytes.items place c.min-n.result c.args.buf.now c.copy_from_slice.new.self
    (c.copy_from_slice.ensures.after ∙ ap (λ (l : List ℕ). take c.min-n.result l) rest)
    (c.min-n.ensures ∙ ap (λ (l : List ℕ). min (length l) (length c.args.buf.now)) rest))
