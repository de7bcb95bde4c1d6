use Rattle.std.proofs.Common.{List, ◌≡◌, sym, ap, ◌∙◌, Some, false}
use Rattle.cloud_io.specs.HeldFiles.{first_named}
use Rattle.cloud_io.specs.declared.named_file.NamedFile.{NamedFile}
use Rattle.cloud_io.proofs.OpenFiles.{folder_none, folder_some, open_found, opens_found, valid_push}
use Rattle.cloud_io.proofs.held_files.HeldFiles.open.Goals as goal

pub returns-in_default-clause-agrees : goal.returns-in_default-clause-agrees
returns-in_default-clause-agrees c = folder_none c.args.self.now.files.items c.args.name.now (ap (λ (fs : List NamedFile). first_named fs c.args.name.now) (sym c.as_slice.ensures.value) ∙ sym c.in_default.ensures)

pub invariant_of-self : goal.invariant_of-self
invariant_of-self c =
    let found : first_named c.args.self.now.files.items c.args.name.now ≡ Some c.in-Some.index = ap (λ (fs : List NamedFile). first_named fs c.args.name.now) (sym c.as_slice.ensures.value) ∙ sym c.in-Some.ensures in
    record { valid = valid_push _ c.args.self.now.files.items c.args.self.now.opened.items c.push.new.self.items record { index = c.in-Some.index; place = 0; ended = false } c.push.ensures.items c.args.self.now.valid (open_found c.args.self.now.files.items c.args.name.now c.in-Some.index found) }

pub returns-in-Ok-clause-opens : goal.returns-in-Ok-clause-opens
returns-in-Ok-clause-opens c =
    let found : first_named c.args.self.now.files.items c.args.name.now ≡ Some c.in-Some.index = ap (λ (fs : List NamedFile). first_named fs c.args.name.now) (sym c.as_slice.ensures.value) ∙ sym c.in-Some.ensures in
    opens_found c.args.self.now.files.items c.args.self.now.opened.items c.push.new.self.items c.args.name.now c.in-Some.index c.len-number.result found (c.len-number.ensures ∙ c.args.self.now.opened.ok.0) c.in-Ok.ensures.items

pub returns-in-Ok-clause-agrees : goal.returns-in-Ok-clause-agrees
returns-in-Ok-clause-agrees c = folder_some c.args.self.now.files.items c.args.name.now c.in-Some.index (ap (λ (fs : List NamedFile). first_named fs c.args.name.now) (sym c.as_slice.ensures.value) ∙ sym c.in-Some.ensures)
