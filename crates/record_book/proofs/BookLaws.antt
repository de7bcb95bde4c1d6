-- A book stays one of a record where an event comes or a batch is given up.
use Rattle.std.proofs.Common.{◌≡◌, ℕ, ◌+◌, ◌<◌, ◌≤◌, ◌⊎◌, inl, inr, List, [], ◌∷◌, ◌++◌, All, map, take, drop, length, set, count_by, cond, Some, ap, sym, subst, ◌∙◌, refl, arith, append_assoc, length-append}
use Rattle.std.specs.Prelude.{slice_get}
use Rattle.std.specs.List.{range_with_len}
use Rattle.std.proofs.lemmas.Bool.{cases_lt}
use Rattle.std.proofs.lemmas.List.{append-nil, length_push, length-map, length-set, map_push, map-append, map-id}
use Rattle.std.proofs.lemmas.List.Elements.{All-push, All-weaker}
use Rattle.std.proofs.lemmas.List.FromFn.{map-range_with_len_more}
use Rattle.std.proofs.lemmas.List.Quantifiers.{all_pairs_push}
use Rattle.std.proofs.lemmas.List.Sums.{sum_by-append}
use Rattle.std.proofs.lemmas.Option.{slice_get_within}
use Rattle.cube_math.specs.Points.{PointValue}
use Rattle.cube_math.specs.declared.config.Entry.{Entry}
use Rattle.record_model.specs.Admissions.{admitted, admitted_points}
use Rattle.record_model.specs.Records.{Record, JournalEntry, journal, published}
use Rattle.record_model.specs.declared.event.Event.{Event}
use Rattle.record_model.specs.declared.event.Event.TheVariants.{Admission, Look, Publication}
use Rattle.record_model.proofs.RecordLaws.{journal-append, published-admission, published-look, published-publication}
use Rattle.version_rows.specs.Journals.{AreApart, AreBatchesOf, HasAdmission, entry_of_row}
use Rattle.version_rows.specs.Versions.{BatchRowValue}
use Rattle.version_rows.proofs.StayLaws.{batches_stay, each_stays, same_map}
use Rattle.record_book.specs.Books.{entries_of, short_entry}
use Rattle.record_book.specs.BookKept.{IsBook, IsPlaced, IsRowOf, admission_of, event_of_row, events_of, is_published, publication_of}
use Rattle.record_book.specs.KeptBatches.{KeptValue, kept_from, kept_of, points_in}
use Rattle.record_book.specs.PublishedItems.{published_batches}
use Rattle.record_book.specs.declared.row.Row.{Row}
use Rattle.record_book.specs.declared.row.Row.TheVariants.{Admits, Looks, Publishes}
use Rattle.record_book.specs.declared.row.Standing.{Standing}
use Rattle.record_book.specs.declared.row.Standing.TheVariants.{Abandoned, Out, Published}
use Rattle.record_book.proofs.KeptLaws.{IsAdmitted, admission_at, admitted_kept, ends_within, kept_from-append, ordered, part_of, points_kept}
use Rattle.record_book.proofs.PlaceLaws.{get_last, get_left, get_set_other, get_set_same, out_is_not_published, published_more, published_still}
use Rattle.record_book.proofs.PublishedLaws.{published_batches-abandonment, published_batches-admission, published_batches-publication, same_more}

-- ---- rows

row_stays : (kept : List KeptValue) (b : KeptValue) (row : Row) → IsRowOf (length kept) row → event_of_row (kept ++ b ∷ []) row ≡ event_of_row kept row
row_stays kept b (Admits place) low = ap admission_of (get_left kept (b ∷ []) place low)
row_stays kept b (Publishes place) low = ap publication_of (get_left kept (b ∷ []) place low)
row_stays kept b (Looks pass) low = refl

-- the record with an admission more
pub admission_events : (kept : List KeptValue) (rows : List Row) (b : KeptValue) → All (IsRowOf (length kept)) rows
    → events_of (kept ++ b ∷ []) (rows ++ Admits (length kept) ∷ []) ≡ events_of kept rows ++ (Admission b.input b.points, b.loader) ∷ []
admission_events kept rows b all =
    map_push (event_of_row (kept ++ b ∷ [])) rows (Admits (length kept))
    ∙ ap (λ (e : Event × ℕ). map (event_of_row (kept ++ b ∷ [])) rows ++ e ∷ []) (ap admission_of (get_last kept b))
    ∙ ap (λ (l : Record). l ++ (Admission b.input b.points, b.loader) ∷ [])
    (same_map (IsRowOf (length kept)) (event_of_row (kept ++ b ∷ [])) (event_of_row kept) rows all (row_stays kept b))

-- and with a publication
pub publication_events : (kept : List KeptValue) (rows : List Row) (place : ℕ) (b : KeptValue) → slice_get kept place ≡ Some b
    → events_of kept (rows ++ Publishes place ∷ []) ≡ events_of kept rows ++ (Publication b.input b.points, b.loader) ∷ []
publication_events kept rows place b there =
    map_push (event_of_row kept) rows (Publishes place) ∙ ap (λ (e : Event × ℕ). events_of kept rows ++ e ∷ []) (ap publication_of there)

-- and with a look
pub look_events : (kept : List KeptValue) (rows : List Row) (pass : ℕ) → events_of kept (rows ++ Looks pass ∷ []) ≡ events_of kept rows ++ (Look, pass) ∷ []
look_events kept rows pass = map_push (event_of_row kept) rows (Looks pass)

row_later : (n : ℕ) (row : Row) → IsRowOf n row → IsRowOf (n + 1) row
row_later n (Admits place) low = omega arith
row_later n (Publishes place) low = omega arith
row_later n (Looks pass) low = tt

rows_later : (n m : ℕ) (rows : List Row) → m ≡ n + 1 → All (IsRowOf n) rows → All (IsRowOf m) rows
rows_later n m rows e all = subst (λ (k : ℕ). All (IsRowOf k) rows) (sym e) (All-weaker (IsRowOf n) (IsRowOf (n + 1)) (row_later n) rows all)

-- ---- what a record says where an event comes

pub kept_same : (events : Record) (e : Event × ℕ) → ((n : ℕ) → kept_from n (e ∷ []) ≡ []) → kept_of (events ++ e ∷ []) ≡ kept_of events
kept_same events e none =
    kept_from-append 0 events (e ∷ []) ∙ ap (λ (l : List KeptValue). kept_of events ++ l) (none (0 + length (points_in (kept_of events))))
    ∙ append-nil (kept_of events)

pub kept_more : (events : Record) (b : KeptValue) → b.first ≡ length (points_in (kept_of events))
    → kept_of (events ++ (Admission b.input b.points, b.loader) ∷ []) ≡ kept_of events ++ b ∷ []
kept_more events b e =
    kept_from-append 0 events ((Admission b.input b.points, b.loader) ∷ [])
    ∙ ap (λ (n : ℕ). kept_of events ++ record { input = b.input; loader = b.loader; first = n; points = b.points } ∷ []) (zero_add _ _ e)
  where
    zero_add : (n m : ℕ) → m ≡ n → 0 + n ≡ m
    zero_add n m e = omega arith

in_both : (kept : List KeptValue) (b : KeptValue) → points_in (kept ++ b ∷ []) ≡ points_in kept ++ b.points
in_both [] b = append-nil b.points
in_both (c ∷ kept) b = ap (λ (l : List PointValue). c.points ++ l) (in_both kept b) ∙ sym (append_assoc c.points (points_in kept) b.points)

-- the items where a batch is admitted
items_more : (events : Record) (b : KeptValue) → b.first ≡ length (points_in (kept_of events))
    → admitted_points (events ++ (Admission b.input b.points, b.loader) ∷ []) ≡ admitted_points events ++ b.points
items_more events b e =
    points_kept (events ++ (Admission b.input b.points, b.loader) ∷ []) ∙ ap points_in (kept_more events b e) ∙ in_both (kept_of events) b
    ∙ ap (λ (l : List PointValue). l ++ b.points) (sym (points_kept events))

items_same : (events : Record) (e : Event × ℕ) → ((n : ℕ) → kept_from n (e ∷ []) ≡ []) → admitted_points (events ++ e ∷ []) ≡ admitted_points events
items_same events e none = points_kept (events ++ e ∷ []) ∙ ap points_in (kept_same events e none) ∙ sym (points_kept events)

entries_same : (events : Record) (e : Event × ℕ) → journal (e ∷ []) ≡ [] → entries_of events ≡ entries_of (events ++ e ∷ [])
entries_same events e none =
    ap (map short_entry) (sym (append-nil (journal events)) ∙ ap (λ (l : List JournalEntry). journal events ++ l) (sym none)
    ∙ sym (journal-append events (e ∷ [])))

count_same : (events : Record) (e : Event × ℕ) → ((n : ℕ) → kept_from n (e ∷ []) ≡ []) → admitted events ≡ admitted (events ++ e ∷ [])
count_same events e none =
    admitted_kept events ∙ sym (ap (λ (l : List KeptValue). length (points_in l)) (kept_same events e none)) ∙ sym (admitted_kept (events ++ e ∷ []))

-- ---- the row of a publication

-- the row of a published batch
abbrev pub row_of : ℕ → KeptValue → BatchRowValue
row_of number b = record { number = number; input = b.input; loader = b.loader; first = b.first; len = length b.points }

-- its entry
abbrev pub entry_with : KeptValue → Entry
entry_with b = record { input = b.input; loader = b.loader; len = length b.points }

range_more : (a n : ℕ) → range_with_len a (n + 1) ≡ range_with_len a n ++ (a + n) ∷ []
range_more a n =
    sym (map-id (range_with_len a (n + 1))) ∙ map-range_with_len_more (λ (k : ℕ). k) a n (a + n) refl
    ∙ ap (λ (l : List ℕ). l ++ (a + n) ∷ []) (map-id (range_with_len a n))

numbers_more : (rows : List BatchRowValue) (number : ℕ) (b : KeptValue) → number ≡ length rows + 1
    → map (λ (r : BatchRowValue). r.number) rows ≡ range_with_len 1 (length rows)
    → map (λ (r : BatchRowValue). r.number) (rows ++ row_of number b ∷ []) ≡ range_with_len 1 (length (rows ++ row_of number b ∷ []))
numbers_more rows number b next are =
    map_push (λ (r : BatchRowValue). r.number) rows (row_of number b) ∙ ap (λ (l : List ℕ). l ++ number ∷ []) are
    ∙ ap (λ (n : ℕ). range_with_len 1 (length rows) ++ n ∷ []) (swapped number (length rows) next)
    ∙ sym (range_more 1 (length rows)) ∙ ap (range_with_len 1) (sym (length_push rows (row_of number b)))
  where
    swapped : (n l : ℕ) → n ≡ l + 1 → n ≡ 1 + l
    swapped n l e = omega arith

its_admission : (events : Record) (b : KeptValue) (number : ℕ) → IsAdmitted 0 events b → HasAdmission events (row_of number b)
its_admission events b number a = record {
  before = a.before;
  points = b.points;
  behind = a.behind;
  is = a.is;
  first = a.begins ∙ zero_add (length (points_in (kept_of a.before))) ∙ sym (admitted_kept a.before);
  len = refl;
}
  where
    zero_add : (n : ℕ) → 0 + n ≡ n
    zero_add n = omega arith

-- the rows of batches behind a publication
batches_more : (events : Record) (rows : List BatchRowValue) (place : ℕ) (b : KeptValue) (number : ℕ) → AreBatchesOf events rows
    → slice_get (kept_of events) place ≡ Some b
    → number ≡ length rows + 1 → All (λ (r : BatchRowValue). AreApart r (row_of number b)) rows
    → AreBatchesOf (events ++ (Publication b.input b.points, b.loader) ∷ []) (rows ++ row_of number b ∷ [])
batches_more events rows place b number are there next apart =
    let e : Event × ℕ = (Publication b.input b.points, b.loader) in
    let after : Record = events ++ e ∷ [] in
    let items : admitted_points after ≡ admitted_points events = items_same events e (λ n. refl) in
    record {
      entries = map_push (entry_of_row after) rows (row_of number b)
          ∙ ap (λ (ps : List PointValue). map (λ (r : BatchRowValue). record { input = r.input; loader = r.loader; points = take r.len (drop r.first ps) }) rows
          ++ record { input = b.input; loader = b.loader; points = take (length b.points) (drop b.first ps) } ∷ []) items
          ∙ ap (λ (ps : List PointValue). map (entry_of_row events) rows ++ record { input = b.input; loader = b.loader; points = ps } ∷ [])
          (ap (λ (ps : List PointValue). take (length b.points) (drop b.first ps)) (points_kept events) ∙ part_of events place b there)
          ∙ ap (λ (l : List JournalEntry). l ++ record { input = b.input; loader = b.loader; points = b.points } ∷ []) are.entries
          ∙ sym (journal-append events (e ∷ []));
      numbers = numbers_more rows number b next are.numbers;
      within = All-push (λ (r : BatchRowValue). r.first + r.len ≤ length (admitted_points after)) rows (row_of number b)
          (subst (λ (ps : List PointValue). All (λ (r : BatchRowValue). r.first + r.len ≤ length ps) rows) (sym items) are.within)
          (below (ends_within events place b there) (sym (ap length (items ∙ points_kept events))));
      admitted = each_stays events e (rows ++ row_of number b ∷ [])
          (All-push (HasAdmission events) rows (row_of number b) are.admitted (its_admission events b number (admission_at 0 events place b there)));
      apart = all_pairs_push AreApart rows (row_of number b) are.apart apart;
    }
  where
    below : {a n m : ℕ} → a ≤ n → n ≡ m → a ≤ m
    below low e = omega arith

-- two batches of different places have no item in common
apart_at : (events : Record) (i j : ℕ) (a b : KeptValue) (r : BatchRowValue) (number : ℕ) → slice_get (kept_of events) i ≡ Some a
    → slice_get (kept_of events) j ≡ Some b
    → (j ≡ i → ⊥) → r.first ≡ a.first → r.len ≡ length a.points → (i < j) ⊎ (j ≤ i) → AreApart r (row_of number b)
apart_at events i j a b r number at_i at_j other first len (inl low) = inl (let o = ordered 0 events i j a b at_i at_j low in omega arith)
apart_at events i j a b r number at_i at_j other first len (inr low) = inr (let o = ordered 0 events j i b a at_j at_i (strict other low) in omega arith)
  where
    strict : {n m : ℕ} → (n ≡ m → ⊥) → n ≤ m → n < m
    strict other low = omega arith

-- a book of equal lists
pub same_book : {rows rows2 : List Row} {kept kept2 : List KeptValue} {standings standings2 : List Standing} {entries entries2 : List Entry}
    {batches batches2 : List BatchRowValue} {count count2 : ℕ}
    → rows ≡ rows2 → kept ≡ kept2 → standings ≡ standings2 → entries ≡ entries2 → batches ≡ batches2 → count ≡ count2
    → IsBook rows kept standings entries batches count → IsBook rows2 kept2 standings2 entries2 batches2 count2
same_book {rows2 = rows2} {kept = kept} {kept2 = kept2} {standings = standings} {standings2 = standings2} {entries = entries} {entries2 = entries2}
    {batches = batches} {batches2 = batches2} {count = count} p q r s t u book =
    subst (λ (n : ℕ). IsBook rows2 kept2 standings2 entries2 batches2 n) u
    (subst (λ (l : List BatchRowValue). IsBook rows2 kept2 standings2 entries2 l count) t
    (subst (λ (l : List Entry). IsBook rows2 kept2 standings2 l batches count) s
    (subst (λ (l : List Standing). IsBook rows2 kept2 l entries batches count) r
    (subst (λ (l : List KeptValue). IsBook rows2 l standings entries batches count) q
    (subst (λ (l : List Row). IsBook l kept standings entries batches count) p book)))))

-- ---- a batch is admitted

module _ (rows : List Row) (kept : List KeptValue) (standings : List Standing) (entries : List Entry) (batches : List BatchRowValue) (count : ℕ)
    (book : IsBook rows kept standings entries batches count) where
  -- the number of the next item
  pub next_item : count ≡ length (points_in (kept_of (events_of kept rows)))
  next_item = book.count_is ∙ admitted_kept (events_of kept rows)

  pub with_admission : (b : KeptValue) → b.first ≡ count → 1 ≤ length b.points
      → IsBook (rows ++ Admits (length kept) ∷ []) (kept ++ b ∷ []) (standings ++ Out ∷ []) entries batches (count + length b.points)
  with_admission b next some =
      let events : Record = events_of kept rows in
      let e : Event × ℕ = (Admission b.input b.points, b.loader) in
      let is = admission_events kept rows b book.rows_are in
      let begins : b.first ≡ length (points_in (kept_of events)) = next ∙ next_item in
      record {
        rows_are = All-push (IsRowOf (length (kept ++ b ∷ []))) rows (Admits (length kept))
            (rows_later (length kept) (length (kept ++ b ∷ [])) rows (length_push kept b) book.rows_are)
            (last_row (length kept) (length (kept ++ b ∷ [])) (length_push kept b));
        kept_are = ap kept_of is ∙ kept_more events b begins ∙ ap (λ (l : List KeptValue). l ++ b ∷ []) book.kept_are;
        full = All-push (λ (k : KeptValue). 1 ≤ length k.points) kept b book.full some;
        count_is = counted (length b.points) (book.count_is ∙ admitted_kept events ∙ ap length (sym (points_kept events)))
            (ap length (items_more events b begins))
            (length-append (admitted_points events) b.points)
            ∙ ap length (points_kept (events ++ e ∷ [])) ∙ sym (admitted_kept (events ++ e ∷ [])) ∙ sym (ap admitted is);
        stand = length_push standings Out ∙ ap (λ (n : ℕ). n + 1) book.stand ∙ sym (length_push kept b);
        entries_are = book.entries_are ∙ entries_same events e refl ∙ sym (ap entries_of is);
        batches_are = subst (λ (l : Record). AreBatchesOf l batches) (sym is)
            (batches_stay events batches e b.points refl (items_more events b begins) book.batches_are);
        placed = All-weaker (IsPlaced kept standings) (IsPlaced (kept ++ b ∷ []) (standings ++ Out ∷ [])) (placed_still b) batches book.placed;
        bag = λ test. ap (count_by test) (ap published is ∙ published-admission events b.input b.loader b.points) ∙ book.bag test
            ∙ sym (ap (λ (l : List KeptValue). count_by test (points_in l)) (published_batches-admission kept standings b book.stand));
        published = book.published ∙ out_counts standings;
      }
    where
      last_row : (n m : ℕ) → m ≡ n + 1 → n < m
      last_row n m e = omega arith

      counted : {n a t l : ℕ} (m : ℕ) → n ≡ a → t ≡ l → l ≡ a + m → n + m ≡ t
      counted m e f g = omega arith

      placed_still : (b : KeptValue) (r : BatchRowValue) → IsPlaced kept standings r → IsPlaced (kept ++ b ∷ []) (standings ++ Out ∷ []) r
      placed_still b r p = record {
        place = p.place;
        batch = p.batch;
        there = get_left kept (b ∷ []) p.place (slice_get_within kept p.place p.batch p.there) ∙ p.there;
        standing = get_left standings (Out ∷ []) p.place (slice_get_within standings p.place Published p.standing) ∙ p.standing;
        first = p.first;
        len = p.len;
      }

      out_counts : (standings : List Standing) → count_by is_published standings ≡ count_by is_published (standings ++ Out ∷ [])
      out_counts standings = omega (arith, sum_by-append (λ (s : Standing). cond (is_published s) 1 0) standings (Out ∷ []))

  -- a published batch stays one where another is settled
  placed_elsewhere : (s : Standing) (place : ℕ) → slice_get standings place ≡ Some Out → (r : BatchRowValue) → IsPlaced kept standings r
      → IsPlaced kept (set standings place s) r
  placed_elsewhere s place out r p = record {
    place = p.place;
    batch = p.batch;
    there = p.there;
    standing = get_set_other standings place p.place s (out_is_not_published standings place p.place out p.standing) ∙ p.standing;
    first = p.first;
    len = p.len;
  }

  -- ---- a batch is published

  pub with_publication : (place : ℕ) (b : KeptValue) → slice_get kept place ≡ Some b → slice_get standings place ≡ Some Out → (number : ℕ)
      → number ≡ length entries + 1
      → IsBook (rows ++ Publishes place ∷ []) kept (set standings place Published) (entries ++ entry_with b ∷ [])
      (batches ++ row_of number b ∷ []) count
  with_publication place b there out number is_next =
      let events : Record = events_of kept rows in
      let e : Event × ℕ = (Publication b.input b.points, b.loader) in
      let is = publication_events kept rows place b there in
      let row : BatchRowValue = row_of number b in
      let at_place : slice_get (kept_of events) place ≡ Some b = ap (λ (l : List KeptValue). slice_get l place) book.kept_are ∙ there in
      let as_many : length entries ≡ length batches =
      ap length book.entries_are ∙ length-map (journal events) short_entry ∙ sym (ap length book.batches_are.entries)
      ∙ length-map batches (entry_of_row events) in
      record {
        rows_are = All-push (IsRowOf (length kept)) rows (Publishes place) book.rows_are (slice_get_within kept place b there);
        kept_are = ap kept_of is ∙ kept_same events e (λ n. refl) ∙ book.kept_are;
        full = book.full;
        count_is = book.count_is ∙ count_same events e (λ n. refl) ∙ sym (ap admitted is);
        stand = length-set standings place Published ∙ book.stand;
        entries_are = ap (λ (l : List Entry). l ++ entry_with b ∷ []) book.entries_are
            ∙ sym (map-append short_entry (journal events) (record { input = b.input; loader = b.loader; points = b.points } ∷ []))
            ∙ ap (map short_entry) (sym (journal-append events (e ∷ []))) ∙ sym (ap entries_of is);
        batches_are = subst (λ (l : Record). AreBatchesOf l (batches ++ row ∷ [])) (sym is)
            (batches_more events batches place b number book.batches_are at_place (is_next ∙ ap (λ (n : ℕ). n + 1) as_many)
            (all_apart place b number at_place out));
        placed = All-push (IsPlaced kept (set standings place Published)) batches row
            (All-weaker (IsPlaced kept standings) (IsPlaced kept (set standings place Published)) (placed_elsewhere Published place out) batches book.placed)
            record { place = place; batch = b; there = there; standing = get_set_same standings place Out Published out; first = refl; len = refl };
        bag = λ test. ap (count_by test) (ap published is ∙ published-publication events b.input b.loader b.points)
            ∙ same_more test (published events) b.points (points_in (published_batches kept standings)) _ (book.bag test)
            (published_batches-publication test kept standings place b there out);
        published = length_push batches row ∙ ap (λ (n : ℕ). n + 1) book.published ∙ sym (published_more standings place out);
      }
    where
      all_apart : (place : ℕ) (b : KeptValue) (number : ℕ) → slice_get (kept_of (events_of kept rows)) place ≡ Some b → slice_get standings place ≡ Some Out
          → All (λ (r : BatchRowValue). AreApart r (row_of number b)) batches
      all_apart place b number there out = All-weaker (IsPlaced kept standings) (λ (r : BatchRowValue). AreApart r (row_of number b))
          (λ r p. apart_at (events_of kept rows) p.place place p.batch b r number
          (ap (λ (l : List KeptValue). slice_get l p.place) book.kept_are ∙ p.there) there
          (out_is_not_published standings place p.place out p.standing) p.first p.len (cases_lt p.place place)) batches book.placed

  -- ---- a pass looks

  pub with_look : (pass : ℕ) → IsBook (rows ++ Looks pass ∷ []) kept standings entries batches count
  with_look pass =
      let events : Record = events_of kept rows in
      let e : Event × ℕ = (Look, pass) in
      let is = look_events kept rows pass in
      record {
        rows_are = All-push (IsRowOf (length kept)) rows (Looks pass) book.rows_are tt;
        kept_are = ap kept_of is ∙ kept_same events e (λ n. refl) ∙ book.kept_are;
        full = book.full;
        count_is = book.count_is ∙ count_same events e (λ n. refl) ∙ sym (ap admitted is);
        stand = book.stand;
        entries_are = book.entries_are ∙ entries_same events e refl ∙ sym (ap entries_of is);
        batches_are = subst (λ (l : Record). AreBatchesOf l batches) (sym is)
            (batches_stay events batches e [] refl (items_same events e (λ n. refl) ∙ sym (append-nil (admitted_points events))) book.batches_are);
        placed = book.placed;
        bag = λ test. ap (count_by test) (ap published is ∙ published-look events pass) ∙ book.bag test;
        published = book.published;
      }

  -- ---- a batch is given up

  pub without_batch : (place : ℕ) → slice_get standings place ≡ Some Out → IsBook rows kept (set standings place Abandoned) entries batches count
  without_batch place out = record {
    rows_are = book.rows_are;
    kept_are = book.kept_are;
    full = book.full;
    count_is = book.count_is;
    stand = length-set standings place Abandoned ∙ book.stand;
    entries_are = book.entries_are;
    batches_are = book.batches_are;
    placed = All-weaker (IsPlaced kept standings) (IsPlaced kept (set standings place Abandoned)) (placed_elsewhere Abandoned place out) batches book.placed;
    bag = λ test. book.bag test
        ∙ sym (ap (λ (l : List KeptValue). count_by test (points_in l)) (published_batches-abandonment kept standings place out));
    published = book.published ∙ sym (published_still standings place out);
  }
