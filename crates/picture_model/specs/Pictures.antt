-- The bytes of a picture: binary PPM.
use Rattle.std.specs.Prelude.{ℕ, ◌/◌, ◌%◌, List, [], ◌∷◌, ◌++◌, codes, decimal}
use Rattle.std.specs.List.{flat_map}
use Rattle.cube_math.specs.Points.{PointValue}
use Rattle.cube_math.specs.Cubes.{CubeValue}
use Rattle.picture_model.specs.Cameras.{CameraValue}
use Rattle.picture_model.specs.Frames.{FrameValue, frame}
use Rattle.picture_model.specs.Items.{items}
use Rattle.octree_model.specs.Octree.{octree}

-- red, green and blue of a colour number
abbrev pub colour_bytes : ℕ → List ℕ
colour_bytes rgb = rgb / 65536 ∷ rgb / 256 % 256 ∷ rgb % 256 ∷ []

-- the kind of file, the size and the greatest colour byte, each with the end of its line
abbrev pub ppm_head : ℕ → ℕ → List ℕ
ppm_head width height = codes "P6\n" ++ decimal width ++ codes " " ++ decimal height ++ codes "\n255\n"

-- the bytes of a frame
abbrev pub ppm : FrameValue → List ℕ
ppm f = ppm_head f.width f.height ++ flat_map colour_bytes f.colours

-- the picture that a camera takes of the octree of a list of points
abbrev pub picture : ℕ → CubeValue → List PointValue → CameraValue → List ℕ
picture leaf c ps camera = ppm (frame camera (items camera (octree leaf c ps) c))
