use Rattle.std.proofs.Common.{◌≡◌, ◌-◌, ◌*◌, ◌/◌, ◌%◌, ◌^◌, ℕ, ℤ, ap, ◌∙◌, arith, rules, to_z, of_z, w32, FitsSigned}
use Rattle.std.proofs.lemmas.Int.{to_z-of_z}
use Rattle.std.proofs.lemmas.Nat.{one_shl}
use Rattle.cube_math.specs.Cubes.{CubeValue, cell_middle}
use Rattle.octree_model.specs.Voxels.{VoxelValue}
use Rattle.picture_model.specs.Items.{voxel_item}
use Rattle.splat_ppm.proofs.items.voxel_item.Goals as goal

-- the middle on an axis, as registers of 32 bits keep it
middle_kept : (middle origin : ℤ) (bits index : ℕ) → FitsSigned w32 middle → FitsSigned w32 origin → middle ≡ cell_middle (to_z w32 (of_z w32 origin)) bits index
    → to_z w32 (of_z w32 middle) ≡ cell_middle origin bits index
middle_kept middle origin bits index m o is = to_z-of_z w32 middle m ∙ is ∙ ap (λ z. cell_middle z bits index) (to_z-of_z w32 origin o)

pub returns : goal.returns
returns c =
    let cube : CubeValue = record { ox = c.cube.inside.ox; oy = c.cube.inside.oy; oz = c.cube.inside.oz; bits = c.cube.inside.bits } in
    let voxel : VoxelValue = record { cell = c.voxel.inside.cell; rgb = c.voxel.inside.rgb } in
    let x : FitsSigned w32 c.cell_middle.result = search rules in
    let y : FitsSigned w32 c.cell_middle-2.result = search rules in
    let z : FitsSigned w32 c.cell_middle-3.result = search rules in
    let ox : FitsSigned w32 cube.ox = search rules in
    let oy : FitsSigned w32 cube.oy = search rules in
    let oz : FitsSigned w32 cube.oz = search rules in
    let side : 1 * 2 ^ (cube.bits - 7) % 4294967296 ≡ 2 ^ (cube.bits - 7) = one_shl (cube.bits - 7) 32 (omega (arith, c.cube.invariant)) in
    (λ j. record {
      x = middle_kept c.cell_middle.result cube.ox cube.bits (voxel.cell % 128) x ox c.cell_middle.ensures j;
      y = middle_kept c.cell_middle-2.result cube.oy cube.bits (voxel.cell / 128 % 128) y oy c.cell_middle-2.ensures j;
      z = middle_kept c.cell_middle-3.result cube.oz cube.bits (voxel.cell / 16384) z oz c.cell_middle-3.ensures j;
      side = side j;
      rgb = voxel.rgb;
    })
    ∙ (λ j. voxel_item (c.cube.view_is j) (c.voxel.view_is j))
