-- What a book says of its published items, by what contracts see of it.
use denote.Enum.Bare.{sameb}
use Rattle.std.proofs.Common.{◌≡◌, ℕ, ◌+◌, ◌<◌, ◌≤◌, Bool, true, false, List, [], length, map, filter, get_or, count_by, Some, ap, sym, subst, ◌∙◌, arith, pos, zero-add, Option, refl}
use Rattle.std.specs.Prelude.{IfSome, IsTrue, ◌↔◌, slice_get}
use Rattle.std.specs.List.{All}
use Rattle.std.proofs.lemmas.List.{map-id}
use Rattle.std.proofs.lemmas.Option.{slice_get-get_or, slice_get_within}
use Rattle.cube_math.specs.Points.{PointValue}
use Rattle.octree_model.specs.Bags.{IsSameBag}
use Rattle.octree_model.specs.Numbers.{up_to}
use Rattle.octree_model.proofs.SameBagLaws.{same_filter}
use Rattle.record_model.specs.Admissions.{admitted, admitted_points}
use Rattle.record_model.specs.Records.{published}
use Rattle.record_model.proofs.RecordLaws.{admitted-items}
use Rattle.record_book.specs.Books.{BookValue}
use Rattle.record_book.specs.BookKept.{IsKept, book_of, is_published}
use Rattle.record_book.specs.KeptBatches.{KeptValue, kept_of, points_in}
use Rattle.record_book.specs.PublishedItems.{is_published_item, items_passing, published_among, published_batches}
use Rattle.record_book.specs.contracts.row.Standing.{the_type}
use Rattle.record_book.specs.declared.row.Standing.{Standing}
use Rattle.record_book.specs.declared.row.Standing.TheVariants.{Abandoned, Out, Published}
use Rattle.record_book.specs.declared.book.RecordBook.TheInside.{Inside}
use Rattle.record_book.proofs.ItemLaws.{length-passing, of_all, origin, passing-filter, published_there}
use Rattle.record_book.proofs.KeptLaws.{admitted_kept, item_of, points_kept}
use Rattle.record_book.proofs.ViewLaws.{view_kept, view_standings}

-- a standing is the published one where it is told as such
pub published_told : (s : Standing) (told : Bool) → told ≡ is_published s → IsTrue told ↔ (◌≡◌ {A = Option Standing} (Some s) (Some Published))
published_told Out told e = (λ yes_it_is. absurd (cc), λ same. absurd (cc))
published_told Published told e = (λ yes_it_is. refl, λ same. e)
published_told Abandoned told e = (λ yes_it_is. absurd (cc), λ same. absurd (cc))

-- as the comparison tells it
pub same_published : (s : Standing) → sameb the_type s Published ≡ is_published s
same_published Out = refl
same_published Published = refl
same_published Abandoned = refl

no_batch : KeptValue
no_batch = record { input = 0; loader = 0; first = 0; points = [] }

-- an admitted item has a point
pub some_point : (v : BookValue) (item : ℕ) → item < admitted v.events → (p : PointValue) × (slice_get (admitted_points v.events) item ≡ Some p)
some_point v item low = (
  get_or (admitted_points v.events) item origin,
  slice_get-get_or (admitted_points v.events) item origin (omega (arith, low, admitted-items v.events)),
)

module _ (a : Inside) (v : BookValue) (k : IsKept a) (is : book_of a ≡ v) where
  pub as_many : length v.standings ≡ length (kept_of v.events)
  as_many = sym (ap length (view_standings a v k is)) ∙ k.book.stand ∙ ap length (view_kept a v k is)

  -- an item is published as its batch
  pub item_stands : (place item : ℕ) (b : KeptValue) → slice_get (kept_of v.events) place ≡ Some b → b.first ≤ item → item < b.first + length b.points
      → IsTrue (is_published_item v item) ↔ (slice_get v.standings place ≡ Some Published)
  item_stands place item b there low high =
      let s : Standing = get_or v.standings place Out in
      let stands : slice_get v.standings place ≡ Some s =
      slice_get-get_or v.standings place Out (omega (arith, slice_get_within (kept_of v.events) place b there, as_many)) in
      let told = published_told s (is_published_item v item) (published_there v.events v.standings place item b s there stands low high) in
      (λ yes_it_is. stands ∙ told.0 yes_it_is, λ same. told.1 (sym stands ∙ same))

  -- as it is told by the standing that is read at the place of its batch
  pub item_told : (place item : ℕ) (s : Standing) → place < length (kept_of v.events)
      → IfSome (slice_get (kept_of v.events) place) (λ (b : KeptValue). (b.first ≤ item) × (item < b.first + length b.points))
      → s ≡ get_or a.standings.items place s → is_published s ≡ is_published_item v item
  item_told place item s low has read =
      let kept : List KeptValue = kept_of v.events in
      let b : KeptValue = get_or kept place no_batch in
      let there : slice_get kept place ≡ Some b = slice_get-get_or kept place no_batch low in
      let within = subst (λ (o : Option KeptValue). IfSome o (λ (x : KeptValue). (x.first ≤ item) × (item < x.first + length x.points))) there has in
      let stands : slice_get v.standings place ≡ Some s =
      slice_get-get_or v.standings place s (omega (arith, low, as_many))
      ∙ ap Some (ap (λ (l : List Standing). get_or l place s) (sym (view_standings a v k is)) ∙ sym read) in
      sym (published_there v.events v.standings place item b s there stands within.0 within.1)

  -- all items: the points of the published ones are those of the published batches
  all_items : published_among v (up_to (admitted v.events)) ≡ points_in (published_batches (kept_of v.events) v.standings)
  all_items =
      ap (λ (n : ℕ). published_among v (up_to n)) (admitted_kept v.events)
      ∙ ap (published_among v) (sym (map-id (up_to (length (points_in (kept_of v.events)))))
      ∙ ap (λ (f : ℕ → ℕ). map f (up_to (length (points_in (kept_of v.events))))) (λ i n. sym (zero-add n) i))
      ∙ of_all (slice_get (admitted_points v.events)) (is_published_item v) 0 v.events v.standings as_many
      (λ place j b s there stands less. (
        published_there v.events v.standings place (b.first + j) b s there stands (omega arith) (omega arith),
        ap (λ (l : List PointValue). slice_get l (b.first + j)) (points_kept v.events) ∙ item_of v.events place b j origin there less
            ∙ sym (slice_get-get_or b.points j origin less),
      ))

  pub same_all : IsSameBag (published v.events) (published_among v (up_to (admitted v.events)))
  same_all test =
      ap (λ (b : BookValue). count_by test (published b.events)) (sym is) ∙ k.book.bag test
      ∙ ap (λ (l : List KeptValue). count_by test (points_in (published_batches l a.standings.items))) (view_kept a v k is)
      ∙ ap (λ (l : List Standing). count_by test (points_in (published_batches (kept_of v.events) l))) (view_standings a v k is)
      ∙ sym (ap (count_by test) all_items)

  pub same_passing : (test : PointValue → Bool) → IsSameBag (filter test (published v.events)) (published_among v (items_passing test v.events))
  same_passing test other =
      same_filter test (published v.events) (published_among v (up_to (admitted v.events))) same_all other
      ∙ ap (count_by other) (passing-filter (slice_get (admitted_points v.events)) (is_published_item v) test (up_to (admitted v.events)))

  pub as_many_points : (items : List ℕ) → All (λ item. item < admitted v.events) items
      → length (published_among v items) ≡ count_by (is_published_item v) items
  as_many_points = length-passing (slice_get (admitted_points v.events)) (is_published_item v) (admitted v.events) (some_point v)
