-- What is opened, and why a file is not.
use Rattle.std.specs.Prelude.{ℕ, ◌≡◌, List}
use Rattle.cube_math.specs.Points.{PointValue}
use Rattle.cube_math.specs.Cubes.{CubeValue}
use Rattle.octree_model.specs.Octree.{octree}
use Rattle.octree_model.specs.declared.tree.Tree.{Tree}
use Rattle.octree_file.specs.Files.{IsFileOf}
use Rattle.octree_reader.specs.Heads.{HasSignature, HasHead}
use Rattle.octree_reader.specs.declared.fault.FileFault.{FileFault}
use Rattle.octree_reader.specs.declared.fault.FileFault.TheVariants as fault

-- the bytes are the file of the octree of some points
pub record IsFile (bytes : List ℕ) : Type 0 where
  pub cube : CubeValue
  pub leaf : ℕ
  pub points : List PointValue
  pub is : IsFileOf bytes cube leaf points

-- the bytes are the file of the octree of some points, and the tree is that octree
pub record IsOpened (bytes : List ℕ) (cube : CubeValue) (leaf : ℕ) (tree : Tree) : Type 0 where
  pub points : List PointValue
  pub file : IsFileOf bytes cube leaf points
  pub is : tree ≡ octree leaf cube points

-- why bytes are not opened: the first of these that applies, and want of memory behind all others
abbrev pub IsFaultOf : List ℕ → FileFault → Type 0
IsFaultOf bytes fault.Magic = ¬ HasSignature bytes
IsFaultOf bytes fault.Head = HasSignature bytes × (¬ HasHead bytes)
IsFaultOf bytes fault.Tree = HasHead bytes × (¬ IsFile bytes)
IsFaultOf bytes fault.Memory = HasHead bytes
