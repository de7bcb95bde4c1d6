use Rattle.std.proofs.Common.{◌≡◌, ℕ, ◌++◌, List, OnOk, codes, decimal, string_bytes, subst, rules, w32}
use Rattle.std.specs.Fmt.{signed_decimal}
use Rattle.std.proofs.lemmas.Int.{to_z-of_z}
use Rattle.cube_math.specs.Cubes.{CubeValue}
use Rattle.octree_plain.specs.Listing.{line_feed}
use Rattle.octree_plain.proofs.ListingLaws.{cube_pieces}
use Rattle.octree_plain.proofs.listing.write_cube.Goals as goal
use mir.Val.{SFits}

pub returns : goal.returns
returns c =
    let fits_x : SFits w32 c.cube.inside.ox = search rules in
    let fits_y : SFits w32 c.cube.inside.oy = search rules in
    let fits_z : SFits w32 c.cube.inside.oz = search rules in
    let Written : List ℕ → Type 0 = λ line. OnOk c.writeln.result (string_bytes c.writeln.new.self ≡ string_bytes c.args.out.now ++ line) in
    let AtCube : CubeValue → Type 0 =
    λ v. Written (codes "cube " ++ (signed_decimal v.ox ++ (codes " " ++ (signed_decimal v.oy ++ (codes " " ++ (signed_decimal v.oz ++ (codes " " ++ (decimal v.bits ++ line_feed)))))))) in
    let written : AtCube c.args.cube.now = subst AtCube c.cube.view_is (simp to_z-of_z at c.writeln.ensures.bytes) in
    subst Written (cube_pieces c.args.cube.now) written
