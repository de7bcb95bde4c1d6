use Rattle.std.proofs.Common.{◌≡◌, ℕ, ◌++◌, List, OnOk, codes, string_bytes, subst, rules, w32, sym, append_assoc}
use Rattle.std.specs.Fmt.{signed_decimal}
use Rattle.std.proofs.lemmas.Int.{to_z-of_z}
use Rattle.octree_plain.specs.Listing.{line_feed}
use Rattle.octree_plain.proofs.bounds.write_corner.Goals as goal
use mir.Val.{SFits}

-- the pieces of a line as they are written one behind the other
corner_pieces : (word x y z : List ℕ) → word ++ (codes " " ++ (x ++ (codes " " ++ (y ++ (codes " " ++ (z ++ line_feed)))))) ≡ word ++ codes " " ++ x ++ codes " " ++ y ++ codes " " ++ z ++ line_feed
corner_pieces word x y z = sym (simp append_assoc)

pub returns : goal.returns
returns c =
    let fits_x : SFits w32 c.args.x = search rules in
    let fits_y : SFits w32 c.args.y = search rules in
    let fits_z : SFits w32 c.args.z = search rules in
    let Written : List ℕ → Type 0 = λ line. OnOk c.writeln.result (string_bytes c.writeln.new.self ≡ string_bytes c.args.out.now ++ line) in
    let written : Written (c.args.word.now ++ (codes " " ++ (signed_decimal c.args.x ++ (codes " " ++ (signed_decimal c.args.y ++ (codes " " ++ (signed_decimal c.args.z ++ line_feed))))))) =
    simp to_z-of_z at c.writeln.ensures.bytes in
    subst Written (corner_pieces c.args.word.now (signed_decimal c.args.x) (signed_decimal c.args.y) (signed_decimal c.args.z)) written
