use Rattle.std.proofs.Common.{◌≡◌, rules}
use Rattle.camera_cut.proofs.LeafAlone.{leaf_alone}
use Rattle.camera_cut.proofs.tests.a_leaf_alone_is_its_cut.Goals as goal

pub cut_of-requires : goal.cut_of-requires
cut_of-requires c c' =
    let seven : c'.in_ok-ok_or.field-0.bits ≡ 7 = search rules in
    rw (c'.root.ensures) (leaf_alone c'.in_ok-ok_or.field-0 seven)
