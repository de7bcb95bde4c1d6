-- The version of a record: its rows are the nodes of the octree of the journal, and the journal's batches.
use Rattle.std.specs.Prelude.{ℕ, ◌≡◌, ◌+◌, ◌≤◌, ◌⊎◌, Bool, List, [], ◌∷◌, ◌++◌, length, map, take, drop, All, AllPairs, if◌then◌else◌, nat_lt}
use Rattle.std.specs.List.{range_with_len}
use Rattle.cube_math.specs.Points.{PointValue}
use Rattle.cube_math.specs.Cubes.{CubeValue}
use Rattle.octree_model.specs.Octree.{inside, octree}
use Rattle.octree_model.specs.Outlines.{outline}
use Rattle.octree_model.specs.declared.outline.OutlineNode.{OutlineNode}
use Rattle.record_model.specs.Admissions.{admitted, admitted_points}
use Rattle.record_model.specs.Records.{Record, JournalEntry, journal, published}
use Rattle.record_model.specs.declared.event.Event.TheVariants.{Admission}
use Rattle.cube_math.specs.declared.config.Config.{Config}
use Rattle.version_rows.specs.Versions.{BatchRowValue, NodeRowValue, VersionValue, is_inner}

-- whether something was published
abbrev pub has_publication : Record → Bool
has_publication events = nat_lt 0 (length (journal events))

-- a record up to its last publication, and nothing of one without a publication
abbrev pub up_to_publication : Record → Record
up_to_publication [] = []
up_to_publication (e ∷ events) = if has_publication (e ∷ events) then e ∷ up_to_publication events else []

-- what a record says of a node: where it stands, its cube, whether it is inner, how many published points lie in it, and how
-- many points that were admitted before the last publication, whether they were published or not
pub record NodeFacts : Type 0 where
  pub path : List ℕ
  pub cube : CubeValue
  pub inner : Bool
  pub count : ℕ
  pub admitted : ℕ

-- of a node of the octree
abbrev pub facts_of_node : Record → OutlineNode → NodeFacts
facts_of_node events n = record {
  path = n.path;
  cube = n.cube;
  inner = n.inner;
  count = length (inside n.cube (published events));
  admitted = length (inside n.cube (admitted_points (up_to_publication events)));
}

-- of all nodes of the octree of the journal, in path order
abbrev pub facts_of_nodes : Config → Record → List NodeFacts
facts_of_nodes config events = map (facts_of_node events) (outline (octree config.leaf config.cube (published events)) config.cube)

-- and what a row says
abbrev pub facts_of_row : NodeRowValue → NodeFacts
facts_of_row r = record { path = r.path; cube = r.cube; inner = is_inner r.role; count = r.count; admitted = r.admitted }

-- a row's items are all those of one admission of its input by its loader, whose first item has the number of items before it
pub record HasAdmission (events : Record) (r : BatchRowValue) : Type 0 where
  pub before : Record
  pub points : List PointValue
  pub behind : Record
  pub is : before ++ (Admission r.input points, r.loader) ∷ behind ≡ events
  pub first : r.first ≡ admitted before
  pub len : r.len ≡ length points

-- the entry that a batch's row stands for: its points are those of its items
abbrev pub entry_of_row : Record → BatchRowValue → JournalEntry
entry_of_row events r = record { input = r.input; loader = r.loader; points = take r.len (drop r.first (admitted_points events)) }

-- no item is of both batches
abbrev pub AreApart : BatchRowValue → BatchRowValue → Type 0
AreApart a b = (a.first + a.len ≤ b.first) ⊎ (b.first + b.len ≤ a.first)

-- the rows are the journal's entries in order, numbered from 1, each with the items of one admission, which are no other's. So
-- the items of a batch that was abandoned stand for a published one's only where the same loader admitted the same points of
-- the same input twice: then no event of the record tells which of the two was published
pub record AreBatchesOf (events : Record) (rows : List BatchRowValue) : Type 0 where
  pub entries : map (entry_of_row events) rows ≡ journal events
  pub numbers : map (λ (r : BatchRowValue). r.number) rows ≡ range_with_len 1 (length rows)
  pub within : All (λ (r : BatchRowValue). r.first + r.len ≤ length (admitted_points events)) rows
  pub admitted : All (HasAdmission events) rows
  pub apart : AllPairs AreApart rows

-- the version of a record
pub record IsVersionOf (config : Config) (events : Record) (v : VersionValue) : Type 0 where
  pub cube : v.cube ≡ config.cube
  pub nodes : map facts_of_row v.nodes ≡ facts_of_nodes config events
  pub batches : AreBatchesOf events v.batches
