-- What a run is to answer, of its words and of what its files have: its whole output, or its first refusal.
use Rattle.std.specs.Prelude.{ℕ, ◌-◌, List, [], ◌∷◌, map, Bool, true, false, ◌&&◌, ◌||◌, not, nat_lt, Option, Some, None, Result, Ok, Err, if◌then◌else◌, length, drop, find, option_map, unwrap_or, codes}
use Rattle.std.specs.Option.{option_map_or}
use Rattle.std.specs.Str.{bytes_eq, str_eq_ignore_ascii_case}
use Rattle.batch_bounds.specs.Batches.{batches}
use Rattle.batch_bounds.specs.Bounds.{first_refusal}
use Rattle.batch_bounds.specs.declared.limits.Limits.{Limits}
use Rattle.cube_math.specs.Points.{PointValue}
use Rattle.cube_math.specs.Cubes.{CubeValue}
use Rattle.octree_model.specs.Bags.{joined}
use Rattle.octree_model.specs.Octree.{octree}
use Rattle.las_points.specs.Clouds.{CloudValue}
use Rattle.las_points.specs.Fields.{frame}
use Rattle.las_points.specs.Reading.{las}
use Rattle.las_points.specs.declared.reader.LasFault.{LasFault}
use Rattle.las_points.specs.declared.reader.RgbByte.{RgbByte}
use Rattle.las_points.specs.declared.reader.RgbByte.TheVariants.{High, Low}
use Rattle.picture_model.specs.Pictures.{picture}
use Rattle.camera_cut.specs.Fields.{camera_of}
use Rattle.camera_cut.specs.declared.numbers.CameraNumbers.{CameraNumbers}
use Rattle.octree_plain.specs.Bounds.{bounds_text}
use Rattle.octree_plain.specs.Fitting.{fitted_cube}
use Rattle.octree_plain.specs.Listing.{nodes_text}
use Rattle.octree_plain.specs.Summary.{demo_text}
use Rattle.octree_plain.specs.declared.fitting.Span.{Span}
use Rattle.run_report.specs.declared.fault.Fault.{Fault}
use Rattle.run_report.specs.declared.fault.Fault.TheVariants.{Command, NoFile, TooLong, Frames, Batch}
use Rattle.run_words.specs.Commands.{Text, is_same}
use Rattle.run_words.specs.Jobs.{job}
use Rattle.run_words.specs.Values.{JobValue}
use Rattle.run_words.specs.declared.command.CommandName.{CommandName}
use Rattle.run_words.specs.declared.command.CommandName.TheVariants.{Nodes, Bounds, Image, Replay, Demo, Live}
use Rattle.run_words.specs.declared.words.WordsFault.{WordsFault}
use Rattle.synthetic_cloud.specs.Generated.{generated}
use Rattle.xyz_points.specs.Reading.{xyz, all_or_first_error}
use Rattle.xyz_points.specs.declared.reader.XyzFault.{XyzFault}
use Rattle.simlod_app.specs.declared.reading.Reading.{Reading}
use Rattle.simlod_app.specs.RunFaults.{words_fault, xyz_fault, las_fault, span_fault}

infixl 10 ◌>>=◌
-- one step after another, as long as none is refused
abbrev pub ◌>>=◌ : {X Y : Type 0} → Result X Fault → (X → Result Y Fault) → Result Y Fault
(Ok x) >>= f = f x
(Err fault) >>= f = Err fault

-- the end of a word, in capitals or not
abbrev pub ends_as : Text → Text → Bool
ends_as end word = str_eq_ignore_ascii_case (drop (length word - 4) word) end

-- whether a file of this name is read as LAS
abbrev pub is_las : Text → Bool
is_las name = ends_as (codes ".las") name || ends_as (codes ".laz") name

-- whether a command is run here
abbrev pub is_run : CommandName → Bool
is_run Nodes = true
is_run Image = true
is_run Bounds = true
is_run Demo = true
is_run Replay = false
is_run Live = false

-- a refusal of the words is one of the run
abbrev pub or_words_fault : Result JobValue WordsFault → Result JobValue Fault
or_words_fault (Ok j) = Ok j
or_words_fault (Err fault) = Err (words_fault fault)

-- a job, if it is of a command that is run here
unfoldable pub run_here : JobValue → Result JobValue Fault
run_here j = if not (is_run j.command) then Err Command else Ok j

-- the job of the words, if it is one that is run here
unfoldable pub job_here : List Text → Result JobValue Fault
job_here words = or_words_fault (job words) >>= run_here

-- a file of a job: its name, and its bytes, or None where it is not there
abbrev pub Source : Type 0
Source = Text × Option (List ℕ)

-- a refusal of a file's text is one of the run
abbrev pub or_xyz_fault : Text → Result (List PointValue) XyzFault → Result (List PointValue) Fault
or_xyz_fault name (Ok points) = Ok points
or_xyz_fault name (Err fault) = Err (xyz_fault name fault)

-- a refusal of a LAS file is one of the run
abbrev pub or_las_fault : Text → Result CloudValue LasFault → Result (List PointValue) Fault
or_las_fault name (Ok cloud) = Ok cloud.points
or_las_fault name (Err fault) = Err (las_fault name fault)

-- the byte of a colour that is taken
abbrev pub rgb_byte : Bool → RgbByte
rgb_byte low = if low then Low else High

-- the points in the bytes of a file, by its name
abbrev pub points_in : Reading → Text → List ℕ → Result (List PointValue) Fault
points_in how name bytes = if is_las name then or_las_fault name (las (rgb_byte how.low) bytes) else or_xyz_fault name (xyz how.decimals bytes)

-- the points of a file that has these bytes, or is not there
abbrev pub cloud_in : Reading → Text → Option (List ℕ) → Result (List PointValue) Fault
cloud_in how name None = Err (NoFile name)
cloud_in how name (Some bytes) = if nat_lt 1000000000 (length bytes) then Err (TooLong name) else points_in how name bytes

-- the scales and offsets of a LAS file
abbrev pub frame_of : Source → List ℕ
frame_of file = frame (unwrap_or file.1 [])

-- a name, and scales and offsets
abbrev pub Framed : Type 0
Framed = Text × List ℕ

-- the name of a file, and its scales and offsets
abbrev pub framed_file : Source → Framed
framed_file file = (file.0, frame_of file)

-- the first LAS file, with its scales and offsets
abbrev pub first_frame : List Source → Option Framed
first_frame files = option_map framed_file (find (λ file. is_las file.0) files)

-- the scales and offsets of a file, if it is a LAS file
abbrev pub las_frame : Source → Option (List ℕ)
las_frame file = if is_las file.0 then Some (frame_of file) else None

-- the points of a file beside its scales and offsets
abbrev pub beside_frame : Source → Result (List PointValue) Fault → Result (List PointValue × Option (List ℕ)) Fault
beside_frame file points = points >>= λ ps. Ok (ps, las_frame file)

-- the same of a file that has these bytes, or is not there
abbrev pub framed_in : Reading → Text → Option (List ℕ) → Result (List PointValue × Option (List ℕ)) Fault
framed_in how name content = beside_frame (name, content) (cloud_in how name content)

-- points, unless they are of a LAS file with other scales or offsets than the first
abbrev pub in_frame : Option Framed → Source → List PointValue → Result (List PointValue) Fault
in_frame None file points = Ok points
in_frame (Some first) file points =
    if is_las file.0 && not (bytes_eq (frame_of file) first.1) then Err (Frames file.0 first.0) else Ok points

-- the first LAS file, once a file with these scales and offsets was read behind others
abbrev pub frame_step : Option Framed → Text → Option (List ℕ) → Result (Option Framed) Fault
frame_step first name None = Ok first
frame_step None name (Some frame) = Ok (Some (name, frame))
frame_step (Some first) name (Some frame) = if not (bytes_eq frame first.1) then Err (Frames name first.0) else Ok (Some first)

-- the points of a file among files of which this is the first LAS file
abbrev pub cloud_of : Reading → Option Framed → Source → Result (List PointValue) Fault
cloud_of how first file = cloud_in how file.0 file.1 >>= in_frame first file

-- the points of each file in order, or the first refusal
unfoldable pub clouds_of : Reading → List Source → Result (List (List PointValue)) Fault
clouds_of how files = all_or_first_error (map (cloud_of how (first_frame files)) files)

-- points that span too much are a refusal of the run
abbrev pub or_span_fault : Result CubeValue Span → Result CubeValue Fault
or_span_fault (Ok cube) = Ok cube
or_span_fault (Err span) = Err (span_fault span)

-- the root cube: the given one, or the least one round all points
abbrev pub cube_of : Option CubeValue → List PointValue → Result CubeValue Fault
cube_of (Some given) points = Ok given
cube_of None points = or_span_fault (fitted_cube points)

-- the numbers of a job's camera
abbrev pub camera_numbers : JobValue → CameraNumbers
camera_numbers j = record {
  pos = j.pos;
  rows = j.rows;
  focal = j.focal;
  near = j.near;
  width = j.size.0;
  height = j.size.1;
  threshold = j.threshold;
  dot = j.dot;
}

-- what a job shows of the octree of clouds in a cube: the picture that its camera takes of it, or how much it has and how many batches
-- the clouds made, or the list of its nodes
abbrev pub tree_output : JobValue → CubeValue → List (List PointValue) → List ℕ
tree_output j cube clouds =
    if is_same j.command Image then picture j.leaf cube (joined clouds) (camera_of (camera_numbers j))
    else if is_same j.command Demo then demo_text (length (batches j.batch clouds)) (octree j.leaf cube (joined clouds)) cube
    else nodes_text j.voxels (octree j.leaf cube (joined clouds)) cube

-- the limits on a job's octree
abbrev pub limits_of : JobValue → Limits
limits_of j = record { leaf = j.leaf; nodes = j.nodes; points = j.points }

-- the same of all points, if no batch is refused
unfoldable pub octree_output_in : JobValue → List (List PointValue) → CubeValue → Result (List ℕ) Fault
octree_output_in j clouds cube =
    option_map_or (λ row. Err (Batch row)) (first_refusal cube (limits_of j) (batches j.batch clouds))
    (Ok (tree_output j cube clouds))

-- the output of `nodes`, `image` and `demo` with these clouds: what is shown of their octree in the root cube, if there is one
abbrev pub octree_output : JobValue → List (List PointValue) → Result (List ℕ) Fault
octree_output j clouds = cube_of j.cube (joined clouds) >>= octree_output_in j clouds

-- the output of `bounds`: what the points take up, with the least cube round them
abbrev pub bounds_output : List PointValue → Result CubeValue Fault → Result (List ℕ) Fault
bounds_output points cube = cube >>= λ c. Ok (bounds_text points c)

-- the output of `demo`, which has no files: of the one cloud that its seed makes
abbrev pub demo_output : JobValue → Result (List ℕ) Fault
demo_output j = octree_output j (generated j.seed j.count ∷ [])

-- the output of a job with these clouds of its files
abbrev pub clouds_output : JobValue → List (List PointValue) → Result (List ℕ) Fault
clouds_output j clouds =
    if is_same j.command Bounds then bounds_output (joined clouds) (cube_of None (joined clouds))
    else if is_same j.command Demo then demo_output j
    else octree_output j clouds

-- how a job reads its files
abbrev pub reading_of : JobValue → Reading
reading_of j = record { decimals = j.decimals; low = j.low }

-- the output of a job over these files, or its first refusal
abbrev pub job_output : JobValue → List Source → Result (List ℕ) Fault
job_output j files = clouds_of (reading_of j) files >>= clouds_output j

-- what a run of these words over these files is to answer: the output of their job, or its first refusal
abbrev pub words_output : List Text → List Source → Result (List ℕ) Fault
words_output words files = do
  j ← job_here words
  job_output j files
