-- Which items are published, and the points of those that are.
use Rattle.std.specs.Prelude.{ℕ, ◌+◌, Bool, false, ◌&&◌, List, [], ◌∷◌, length, filter, nat_le, nat_lt, slice_get}
use Rattle.std.specs.List.{filter_map, list_any}
use Rattle.std.specs.Option.{option_map_or}
use Rattle.cube_math.specs.Points.{PointValue}
use Rattle.octree_model.specs.Numbers.{up_to}
use Rattle.record_model.specs.Admissions.{admitted, admitted_points}
use Rattle.record_model.specs.Records.{Record}
use Rattle.record_book.specs.Books.{BookValue}
use Rattle.record_book.specs.KeptBatches.{KeptValue, kept_of}
use Rattle.record_book.specs.declared.row.Standing.{Standing}
use Rattle.record_book.specs.declared.row.Standing.TheVariants.{Out, Published, Abandoned}

-- whether a batch has an item
abbrev pub has_item : KeptValue → ℕ → Bool
has_item b item = nat_le b.first item && nat_lt item (b.first + length b.points)

-- those of the batches that stand as published
abbrev pub published_batches : List KeptValue → List Standing → List KeptValue
published_batches [] standings = []
published_batches (b ∷ kept) [] = []
published_batches (b ∷ kept) (Out ∷ standings) = published_batches kept standings
published_batches (b ∷ kept) (Published ∷ standings) = b ∷ published_batches kept standings
published_batches (b ∷ kept) (Abandoned ∷ standings) = published_batches kept standings

-- whether an item is one of a published batch
abbrev pub is_published_item : BookValue → ℕ → Bool
is_published_item book item = list_any (λ (b : KeptValue). has_item b item) (published_batches (kept_of book.events) book.standings)

-- of some items, the points of those that are published, in the order of the items
abbrev pub published_among : BookValue → List ℕ → List PointValue
published_among book items = filter_map (slice_get (admitted_points book.events)) (filter (is_published_item book) items)

-- the items whose points pass a test, in order
abbrev pub items_passing : (PointValue → Bool) → Record → List ℕ
items_passing test events = filter (λ item. option_map_or test (slice_get (admitted_points events) item) false) (up_to (admitted events))
