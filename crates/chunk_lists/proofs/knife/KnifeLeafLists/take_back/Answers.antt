use Rattle.std.proofs.Common.{◌≡◌, List, Some, sym, ap, ◌∙◌, subst, Contains, ⊎_elim}
use Rattle.std.specs.List.{slice_get}
use Rattle.std.proofs.lemmas.Option.{slice_get-get_or}
use Rattle.list_machine.specs.declared.views.Fact.TheVariants.{Item, Link, Closed, Empty}
use Rattle.list_filers.specs.Ways.{IsShown}
use Rattle.list_words.specs.Store.{Row, Store, row, row_in, found_in}
use Rattle.list_words.specs.declared.leaf_lists.Phase.TheVariants.{Shut}
use Rattle.list_words.specs.declared.leaf_lists.Filed.TheVariants.{At, Late}
use Rattle.chunk_lists.specs.Keepers.{KnownIn, store_of}
use Rattle.chunk_lists.specs.Knives.{lists_of}
use Rattle.list_words.proofs.MarkLaws.{found_at_is_found, marked_where_filed}
use Rattle.chunk_lists.proofs.Lateness.{late_shown}
use Rattle.list_table.specs.Ledgers.{shown}
use Rattle.chunk_lists.specs.Keepers.{ShownIn}
use Rattle.chunk_lists.specs.Keepers.{claims_of}
use Rattle.list_words.specs.Store.{IsFiledAt}
use Rattle.chunk_lists.proofs.knife.KnifeLeafLists.take_back.Goals as goal

pub returns-clause-filed : goal.returns-clause-filed
returns-clause-filed c a d k inside filed =
    let shown = c.into_seat-seat.ensures.shown inside.0 a (slice_get-get_or _ inside.0 a inside.1 ∙ ap Some inside.2) in
    let item : IsShown c.into_seat-seat.result.guest a.list a.item (At d k) = subst (IsShown c.into_seat-seat.result.guest a.list a.item) filed shown in
    let known = c.take_back.ensures.learns (Item a.list d k a.item) item.0 in
    let link = c.take_back.ensures.learns (Link a.list item.1.1.1 item.1.0 d) (item.1.1.0, item.1.1.2) in
    let rows_are : (store_of c.take_back.new.self).rows ≡ (store_of c.self.inside.keeper).rows = ap (λ (s : Store). s.rows) c.take_back.ensures.store in record {
      known_there = (k, known);
      rank = item.1.0;
      chunk = subst (λ v. slice_get (row (lists_of v) a.list).claimed item.1.0 ≡ Some d) c.self.view_is
          (subst (λ (rows : List Row). slice_get (row_in rows a.list).claimed item.1.0 ≡ Some d) rows_are (c.known_links_have_chunks.ensures a.list item.1.0 d item.1.1.1 link));
      found = λ shut. subst (λ v. Contains (found_in (row (lists_of v) a.list)) a.item) c.self.view_is
          (subst (λ (rows : List Row). Contains (found_in (row_in rows a.list)) a.item) rows_are
          (found_at_is_found (row (store_of c.take_back.new.self) a.list) d k a.item (c.known_items_are_found.ensures.found a.list d k a.item (ap (λ (s : Store). (row s a.list).phase) c.take_back.ensures.store ∙ subst (λ v. (row (lists_of v) a.list).phase ≡ Shut) (sym c.self.view_is) shut) known)));
    }

pub returns-clause-late : goal.returns-clause-late
returns-clause-late c a s inside filed =
    let shown = c.into_seat-seat.ensures.shown inside.0 a (slice_get-get_or _ inside.0 a inside.1 ∙ ap Some inside.2) in
    let late : IsShown c.into_seat-seat.result.guest a.list a.item (Late s) = subst (IsShown c.into_seat-seat.result.guest a.list a.item) filed shown in
    let shut : (row (store_of c.take_back.new.self) a.list).phase ≡ Shut = ⊎_elim
    (λ q. c.late_lists_are_shut.ensures.closed a.list (c.take_back.ensures.learns (Closed a.list) q))
    (λ q. c.late_lists_are_shut.ensures.empty a.list q.0 q.1 (c.take_back.ensures.learns (Empty a.list q.0 q.1) q.2)) (late_shown c.into_seat-seat.result.guest a.list a.item s late) in
    subst (λ v. (row (lists_of v) a.list).phase ≡ Shut) c.self.view_is (ap (λ (x : Store). (row x a.list).phase) (sym c.take_back.ensures.store) ∙ shut)

pub returns-clause-known : goal.returns-clause-known
returns-clause-known c h d x q =
    let z = subst (λ k. KnownIn k.keeper h d x) (sym c.self.view_is) q in (z.0, c.take_back.ensures.known (Item h d z.0 x) z.1)

pub returns-clause-kept : goal.returns-clause-kept
returns-clause-kept c h d i y q = c.take_back.ensures.known (shown h d i y) (subst (λ k. ShownIn k.keeper h d i y) (sym c.self.view_is) q)

pub returns-clause-slots : goal.returns-clause-slots
returns-clause-slots c a d k inside filed =
    let shows = c.into_seat-seat.ensures.shown inside.0 a (slice_get-get_or _ inside.0 a inside.1 ∙ ap Some inside.2) in
    let item : IsShown c.into_seat-seat.result.guest a.list a.item (At d k) = subst (IsShown c.into_seat-seat.result.guest a.list a.item) filed shows in
    let known = c.take_back.ensures.learns (Item a.list d k a.item) item.0 in
    let link = c.take_back.ensures.learns (Link a.list item.1.1.1 item.1.0 d) (item.1.1.0, item.1.1.2) in
    let rows_are : (store_of c.take_back.new.self).rows ≡ (store_of c.self.inside.keeper).rows = ap (λ (s : Store). s.rows) c.take_back.ensures.store in
    let chunk = c.known_links_have_chunks.ensures a.list item.1.0 d item.1.1.1 link in
    let r : Row = row (store_of c.take_back.new.self) a.list in
    let now : IsFiledAt (ShownIn c.take_back.new.self a.list) (claims_of c.take_back.new.self a.list) r d k a.item = record {
      shown_there = known;
      within = (c.known_items_have_chunks.ensures a.list d k a.item known).1;
      rank = item.1.0;
      chunk = chunk;
      marked = λ shut. marked_where_filed (store_of c.take_back.new.self) a.list (claims_of c.take_back.new.self a.list) item.1.0 d k a.item c.chunks_stand_once.ensures
          (c.known_items_are_found.ensures.claims a.list shut) chunk (c.known_items_are_found.ensures.found a.list d k a.item shut known);
    } in
    subst (λ v. IsFiledAt (ShownIn c.take_back.new.self a.list) (claims_of c.take_back.new.self a.list) (row (lists_of v) a.list) d k a.item) c.self.view_is
    (subst (λ (rows : List Row). IsFiledAt (ShownIn c.take_back.new.self a.list) (claims_of c.take_back.new.self a.list) (row_in rows a.list) d k a.item) rows_are now)
