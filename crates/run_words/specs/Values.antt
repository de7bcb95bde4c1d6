-- What the values of options stand for, and the job that they make.
use Rattle.std.specs.Prelude.{ℕ, ◌≡◌, ◌≤◌, IfSome, ℤ, pos, ◌-ℤ◌, int_le, List, [], ◌∷◌, Bool, true, false, ◌&&◌, Option, option_map, map, codes}
use Rattle.std.specs.List.{list_all}
use Rattle.std.specs.Option.{option_map_or}
use Rattle.std.specs.Str.{bytes_eq}
use Rattle.cube_math.specs.Cubes.{CubeValue}
use Rattle.run_words.specs.Commands.{Text}
use Rattle.run_words.specs.Numbers.{natural, whole, pieces, piece}
use Rattle.clap_words.specs.Words.{value_of, files_of}
use Rattle.run_words.specs.declared.command.CommandName.{CommandName}

-- a job as contracts see it: its command, its files, and a value for each option
pub record JobValue : Type 0 where
  pub command : CommandName
  pub files : List Text
  pub cube : Option CubeValue
  pub leaf : ℕ
  pub nodes : ℕ
  pub points : ℕ
  pub chunks : Option ℕ
  pub batch : ℕ
  pub decimals : ℕ
  pub low : Bool
  pub voxels : Bool
  pub pos : List ℤ
  pub rows : List ℤ
  pub focal : ℕ
  pub near : ℕ
  pub size : ℕ × ℕ
  pub threshold : ℕ
  pub dot : ℕ
  pub loaders : ℕ
  pub viewers : ℕ
  pub frames : ℕ
  pub schedule : Option Text
  pub generate : Option (ℕ × ℕ)
  pub seed : ℕ
  pub count : ℕ

-- the number of an option, or its default
abbrev pub number_or : ℕ → Text → List Text → ℕ
number_or default name words = option_map_or natural (value_of name words) default

-- the numbers of an option, or their default
abbrev pub numbers_or : List ℤ → Text → List Text → List ℤ
numbers_or default name words = option_map_or (λ text. map whole (pieces text)) (value_of name words) default

-- whether an option has this value
abbrev pub is_chosen : Text → Text → List Text → Bool
is_chosen choice name words = option_map_or (λ text. bytes_eq text choice) (value_of name words) false

-- the cube of a value x,y,z,bits
abbrev pub cube_of : Text → CubeValue
cube_of text = record { ox = whole (piece text 0); oy = whole (piece text 1); oz = whole (piece text 2); bits = natural (piece text 3) }

-- the two numbers of a value
abbrev pub pair_of : Text → ℕ × ℕ
pair_of text = (natural (piece text 0), natural (piece text 1))

-- the job of a command and of words that suit it and whose values fit
unfoldable pub job_of : CommandName → List Text → JobValue
job_of command words = record {
  command = command;
  files = files_of words;
  cube = option_map cube_of (value_of (codes "cube") words);
  leaf = number_or 50000 (codes "leaf") words;
  nodes = number_or 20000 (codes "nodes") words;
  points = number_or 10000000 (codes "points") words;
  chunks = option_map natural (value_of (codes "chunks") words);
  batch = number_or 50000 (codes "batch") words;
  decimals = number_or 3 (codes "decimals") words;
  low = is_chosen (codes "low") (codes "rgb") words;
  voxels = is_chosen (codes "yes") (codes "voxels") words;
  pos = numbers_or (pos 0 ∷ pos 0 ∷ pos 0 ∷ []) (codes "pos") words;
  rows = numbers_or (pos 1024 ∷ pos 0 ∷ pos 0 ∷ pos 0 ∷ pos 1024 ∷ pos 0 ∷ pos 0 ∷ pos 0 ∷ pos 1024 ∷ []) (codes "rows") words;
  focal = number_or 256 (codes "focal") words;
  near = number_or 1 (codes "near") words;
  size = option_map_or pair_of (value_of (codes "size") words) (256, 256);
  threshold = number_or 128 (codes "threshold") words;
  dot = number_or 1 (codes "dot") words;
  loaders = number_or 2 (codes "loaders") words;
  viewers = number_or 1 (codes "viewers") words;
  frames = number_or 2 (codes "frames") words;
  schedule = value_of (codes "schedule") words;
  generate = option_map pair_of (value_of (codes "generate") words);
  seed = number_or 1 (codes "seed") words;
  count = number_or 400000 (codes "count") words;
}

-- from low to high
abbrev pub IsBetween : ℕ → ℕ → ℕ → Type 0
IsBetween low high n = (low ≤ n) × (n ≤ high)

-- a direction of a camera lies along an axis from -1024 to 1024
abbrev pub is_direction : ℤ → Bool
is_direction n = int_le (pos 0 -ℤ pos 1024) n && int_le n (pos 1024)

-- the ranges of a job's numbers
pub record HasRanges (j : JobValue) : Type 0 where
  pub leaf : IsBetween 1 50000 j.leaf
  pub nodes : IsBetween 1 200000 j.nodes
  pub points : IsBetween 1 10000000 j.points
  pub chunks : IfSome j.chunks (λ n. IsBetween 1 1000000 n)
  pub batch : IsBetween 1 50000 j.batch
  pub decimals : IsBetween 0 9 j.decimals
  pub rows : list_all is_direction j.rows ≡ true
  pub focal : IsBetween 1 65536 j.focal
  pub near : IsBetween 1 1000000000 j.near
  pub width : IsBetween 1 4096 j.size.0
  pub height : IsBetween 1 4096 j.size.1
  pub threshold : IsBetween 1 65536 j.threshold
  pub dot : IsBetween 1 64 j.dot
  pub loaders : IsBetween 1 16 j.loaders
  pub viewers : IsBetween 1 16 j.viewers
  pub frames : IsBetween 1 100 j.frames
  pub generate : IfSome j.generate (λ g. IsBetween 1 10000000 g.1)
  pub count : IsBetween 1 10000000 j.count
