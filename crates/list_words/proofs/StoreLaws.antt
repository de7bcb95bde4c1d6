-- How lists over vectors look as a store, after one list changed.
use Rattle.std.proofs.Common.{◌≡◌, ℕ, suc, ◌+◌, ◌-◌, ◌*◌, ◌/◌, ◌%◌, ◌<◌, ◌≤◌, ◌⊎◌, inl, inr, Bool, true, false, cond, List, [], ◌∷◌, ◌++◌, length, map, set, get_or, Some, Option, ap, refl, sym, subst, ◌∙◌, arith}
use Rattle.std.specs.Prelude.{All}
use Rattle.std.specs.List.{Contains, slice_get, filter_map, sum_by}
use Rattle.std.proofs.lemmas.Bool.{cases_eq, cases_lt}
use Rattle.std.proofs.lemmas.Option.{slice_get_within, slice_get-get_or, get_or_from_slice_get}
use Rattle.std.proofs.lemmas.List.{length-map, map-set, get_or_default, get_or_past, set_past}
use Rattle.std.proofs.lemmas.List.Elements.{Contains-append_cases, Contains-append_left, Contains-append_right}
use Rattle.std.proofs.lemmas.List.Sums.{sum_by-cons, sum_by-le-sum_by}
use Rattle.chunk_pool.specs.Numbers.{Numbers, IsFree, IsLeastFree}
use Rattle.list_words.specs.Filing.{Filing}
use Rattle.list_words.specs.Store.{Store, Row, AreMarks, IsNextChunk, IsOpen, IsShut, IsStanding, Keeps, chunks_of, found_in, grant_rows, is_shut, more_granted, row, shut_now, shut_with, with_chunk, with_row}
use Rattle.list_words.specs.PlainRows.{emptied_list, granted_list, lengthened_list, linked_list, placed_list, shut_list}
use Rattle.list_words.specs.PlainGrants.{MayGrant, grant_lists}
use Rattle.list_machine.specs.declared.views.Grant.{Grant}
use Rattle.list_words.specs.PlainRows.{PlainList, items_of, no_list, row_of}
use Rattle.list_words.specs.Plain.{Plain, Bears, BearsOut, HasSlot, Knows, StandsAt, StandsIn, all_chunks, chain, chain_items, chunk_at, chunk_count, held_chunks, list_in, next_cleared, next_list, shut_count, store_of, with_list, SameFiled}
use Rattle.list_words.specs.PlainKept.{AreHomed, AreOrdered, AreSummed}
use Rattle.list_words.specs.declared.leaf_lists.Answer.{Answer}
use Rattle.list_words.specs.declared.leaf_lists.Filed.{Filed}
use Rattle.list_words.specs.declared.leaf_lists.Filed.TheVariants.{At, Late}
use Rattle.list_words.specs.declared.leaf_lists.Seen.{Seen}
use Rattle.list_words.specs.declared.leaf_lists.Phase.{Phase}
use Rattle.list_words.specs.declared.leaf_lists.Phase.TheVariants.{Fresh, Open, Shut}
use Rattle.list_words.specs.declared.plain_homes.Home.{Home}
use Rattle.list_words.proofs.FreshLaws.{no_chunk_there}
use Rattle.list_words.proofs.Places.{append_none, contains_at, slice_get-last, slice_get-more, number_at_map}
use Rattle.list_words.proofs.PlainLaws.{count-le, homed-set, list_in-set_other, list_in-set_same, open_within, ordered-set, row-map, store-with_list, summed-set}

-- ---- the list that a call changes

pub list_is : (lists : List PlainList) (l : ℕ) (old : PlainList) → l < length lists → old ≡ get_or lists l old → old ≡ list_in lists l
list_is lists l old low is = is ∙ get_or_default lists l old no_list low

pub store_changed : (p : Plain) (l : ℕ) (old new : PlainList) (f : Row → Row) → old ≡ list_in p.lists l → row_of new ≡ f (row_of old) → store_of (with_list p l new) ≡ with_row (store_of p) l (f (row (store_of p) l))
store_changed p l old new f is changed = store-with_list p l new ∙ ap (with_row (store_of p) l) (changed ∙ ap f (ap row_of is ∙ sym (row-map p.lists l)))

pub known_changed : (p : Plain) (l : ℕ) (old new : PlainList) → l < length p.lists → old ≡ list_in p.lists l → ((owned : Bool) (x c i : ℕ) → StandsAt owned old x c i → StandsAt owned new x c i) → Keeps (Knows p) (Knows (with_list p l new))
known_changed p l old new low is stays = λ m c x known. elim (cases_eq m l) [
  | inl same ↦
      let now : list_in (set p.lists l new) m ≡ new = ap (list_in (set p.lists l new)) same ∙ list_in-set_same p.lists l new low in
      let was : list_in p.lists m ≡ old = ap (list_in p.lists) same ∙ sym is in
      (known.0, known.1, subst (λ (b : PlainList). StandsAt known.0 b x c known.1) (sym now) (stays known.0 x c known.1 (subst (λ (b : PlainList). StandsAt known.0 b x c known.1) was known.2)))
  | inr other ↦ (known.0, known.1, subst (λ (b : PlainList). StandsAt known.0 b x c known.1) (sym (list_in-set_other p.lists l m new other)) known.2)
]

-- an item stands where it stood while chunks and items are put at the ends
pub stands_more : (owned : Bool) (old new : PlainList) (cs xs : List ℕ) → chain owned new ≡ chain owned old ++ cs → chain_items owned new ≡ chain_items owned old ++ xs → (x c i : ℕ) → StandsAt owned old x c i → StandsAt owned new x c i
stands_more owned old new cs xs chunks items x c i at = record {
  rank = at.rank;
  chunk = ap (λ (ys : List ℕ). slice_get ys at.rank) chunks ∙ slice_get-more (chain owned old) cs at.rank c at.chunk;
  within = at.within;
  stands = ap (λ (ys : List ℕ). slice_get ys (256 * at.rank + i)) items ∙ slice_get-more (chain_items owned old) xs (256 * at.rank + i) x at.stands;
}

pub stands_same : (owned : Bool) (old new : PlainList) → chain owned new ≡ chain owned old → chain_items owned new ≡ chain_items owned old → (x c i : ℕ) → StandsAt owned old x c i → StandsAt owned new x c i
stands_same owned old new chunks items x c i at = record {
  rank = at.rank;
  chunk = ap (λ (ys : List ℕ). slice_get ys at.rank) chunks ∙ at.chunk;
  within = at.within;
  stands = ap (λ (ys : List ℕ). slice_get ys (256 * at.rank + i)) items ∙ at.stands;
}

-- a list with as many chunks at the same places, and as shut as before
pub record SameShape (b q : PlainList) : Type 0 where
  pub chains : (owned : Bool) → chain owned b ≡ chain owned q
  pub as_shut : is_shut b.phase ≡ is_shut q.phase
  pub still : q.phase ≡ Shut → b.phase ≡ Shut

pub homed-same : (lists : List PlainList) (homes : List Home) (pool : Numbers) (l : ℕ) (b : PlainList) → AreHomed lists homes pool → l < length lists → SameShape b (list_in lists l) → AreHomed (set lists l b) homes pool
homed-same lists homes pool l b kept low same = homed-set lists homes pool l b kept low same.chains

pub summed-same : (lists : List PlainList) (pool : Numbers) (held shuts l : ℕ) (b : PlainList) → AreSummed lists pool held shuts → l < length lists → SameShape b (list_in lists l) → AreSummed (set lists l b) pool held shuts
summed-same lists pool held shuts l b kept low same =
    let claimed : length b.claimed ≡ length (list_in lists l).claimed = ap length (same.chains false) in
    let owned : length b.owned ≡ length (list_in lists l).owned = ap length (same.chains true) in
    summed-set lists pool held shuts l b kept low (omega arith) same.as_shut

pub ordered-same : (lists : List PlainList) (order : List ℕ) (cleared : ℕ) (out : List ℕ) (seats l : ℕ) (b : PlainList) → AreOrdered lists order cleared out seats → l < length lists → SameShape b (list_in lists l) → AreOrdered (set lists l b) order cleared out seats
ordered-same lists order cleared out seats l b kept low same = ordered-set lists order cleared out seats l b kept low same.still

pub phase_cases : (p : Phase) → (p ≡ Shut) ⊎ (p ≡ Shut → ⊥)
phase_cases Fresh = inr (λ e. cc)
phase_cases Open = inr (λ e. cc)
phase_cases Shut = inl refl

-- ---- bounds of the sums

shut_one : (b : Bool) → cond b 1 0 ≤ 1
shut_one true = omega arith
shut_one false = omega arith

pub shut-le : (lists : List PlainList) → sum_by shut_count lists ≤ length lists
shut-le [] = omega arith
shut-le (p ∷ lists) = omega (arith, sum_by-cons shut_count p lists, shut-le lists, shut_one (is_shut p.phase))

held_part : (b : Bool) (n : ℕ) → cond b n 0 ≤ n
held_part true n = omega arith
held_part false n = omega arith

pub held-le : (lists : List PlainList) (pool : Numbers) (held shuts : ℕ) → AreSummed lists pool held shuts → held ≤ pool.size
held-le lists pool held shuts kept =
    let part : sum_by held_chunks lists ≤ sum_by chunk_count lists = sum_by-le-sum_by held_chunks chunk_count lists (λ p. held_part (is_shut p.phase) (chunk_count p)) in
    omega (arith, kept.held, kept.total)

-- ---- items that stand

some_items : (xs : List ℕ) → filter_map (λ (x : Option ℕ). x) (map Some xs) ≡ xs
some_items [] = refl
some_items (x ∷ xs) = ap (λ (ys : List ℕ). x ∷ ys) (some_items xs)

pub found-row_of : (p : PlainList) → p.phase ≡ Shut → found_in (row_of p) ≡ items_of p
found-row_of p shut_now =
    ap (λ (marked : List (Option ℕ)). filter_map (λ (x : Option ℕ). x) marked ++ p.placed) (ap (λ s. let xs : List (Option ℕ) = cond (is_shut s) (map Some p.filed) [] in xs) shut_now)
    ∙ ap (λ (xs : List ℕ). xs ++ p.placed) (some_items p.filed)

pub found_items : (p : Plain) (l : ℕ) → IsShut (store_of p) l → found_in (row (store_of p) l) ≡ items_of (list_in p.lists l)
found_items p l shut_now =
    let phase : (list_in p.lists l).phase ≡ Shut = sym (ap (λ (r : Row). r.phase) (row-map p.lists l)) ∙ shut_now in
    ap found_in (row-map p.lists l) ∙ found-row_of (list_in p.lists l) phase

-- an item that stands in a slot is one of the list's
pub stands_among : (owned : Bool) (q : PlainList) (item c i : ℕ) → StandsAt owned q item c i → Contains (items_of q) item
stands_among true q item c i at = Contains-append_right q.filed q.placed item (contains_at q.placed (256 * at.rank + i) item at.stands)
stands_among false q item c i at = Contains-append_left q.filed q.placed item (contains_at q.filed (256 * at.rank + i) item at.stands)

-- its chunk is one of the list's
pub stands_chunk : (p : Plain) (l c x : ℕ) → Knows p l c x → Contains (chunks_of (row (store_of p) l)) c
stands_chunk p l c x known = subst (λ (cs : List ℕ). Contains cs c) (sym (ap chunks_of (row-map p.lists l))) (inside known.0 (list_in p.lists l) known.2.rank known.2.chunk)
  where
    inside : (o : Bool) (q : PlainList) (r : ℕ) → slice_get (chain o q) r ≡ Some c → Contains (all_chunks q) c
    inside true q r here = Contains-append_right q.claimed q.owned c (contains_at q.owned r c here)
    inside false q r here = Contains-append_left q.claimed q.owned c (contains_at q.claimed r c here)

pub all_at : (P : Answer → Type 0) (xs : List Answer) (a : Answer) → All P xs → Contains xs a → P a
all_at P xs a all inside = subst P inside.2 (all inside.0 a inside.1)

-- what the answers of a filer show that are borne out
pub filed_shown : (p : Plain) (f : Filing) (a : Answer) (c k : ℕ) → BearsOut p f → Contains f.answers a → a.filed ≡ At c k → IsStanding (Knows p a.list) (row (store_of p) a.list) c a.item
filed_shown p f a c k out inside at =
    let bears : Bears (list_in p.lists a.list) a.item a.filed = all_at (λ (b : Answer). Bears (list_in p.lists b.list) b.item b.filed) f.answers a out.answers inside in
    let stands : StandsAt false (list_in p.lists a.list) a.item c k = subst (λ (w : Filed). Bears (list_in p.lists a.list) a.item w) at bears in
    record {
      known_there = (false, k, stands);
      rank = stands.rank;
      chunk = ap (λ (r : Row). slice_get r.claimed stands.rank) (row-map p.lists a.list) ∙ stands.chunk;
      found = λ shut_now. subst (λ (xs : List ℕ). Contains xs a.item) (sym (found_items p a.list shut_now)) (stands_among false (list_in p.lists a.list) a.item c k stands);
    }

pub late_shown : (p : Plain) (f : Filing) (a : Answer) (s : Seen) → BearsOut p f → Contains f.answers a → a.filed ≡ Late s → IsShut (store_of p) a.list
late_shown p f a s out inside at =
    let bears : Bears (list_in p.lists a.list) a.item a.filed = all_at (λ (b : Answer). Bears (list_in p.lists b.list) b.item b.filed) f.answers a out.answers inside in
    let phase : (list_in p.lists a.list).phase ≡ Shut = subst (λ (w : Filed). Bears (list_in p.lists a.list) a.item w) at bears in
    ap (λ (r : Row). r.phase) (row-map p.lists a.list) ∙ phase

-- a chunk in no chain has no place
pub no_place : (p : Plain) (c : ℕ) → ((l : ℕ) → Contains (chunks_of (row (store_of p) l)) c → ⊥) → (owned : Bool) (l r : ℕ) → chunk_at p.lists owned l r ≡ Some c → ⊥
no_place p c nowhere owned l r at = nowhere l (subst (λ (cs : List ℕ). Contains cs c) (sym (ap chunks_of (row-map p.lists l))) (inside owned (list_in p.lists l) at))
  where
    inside : (o : Bool) (q : PlainList) → slice_get (chain o q) r ≡ Some c → Contains (all_chunks q) c
    inside true q here = Contains-append_right q.claimed q.owned c (contains_at q.owned r c here)
    inside false q here = Contains-append_left q.claimed q.owned c (contains_at q.claimed r c here)

-- ---- which list a call names

pub within_rows : (p q : Plain) (l : ℕ) → p ≡ q → l < length (store_of q).rows → l < length p.lists
within_rows p q l same low =
    let long : length (map row_of q.lists) ≡ length q.lists = length-map q.lists row_of in
    let lists : length p.lists ≡ length q.lists = ap (λ (s : Plain). length s.lists) same in
    omega (arith, low)

pub open_phase : (p q : Plain) (l : ℕ) → p ≡ q → IsOpen (store_of q) l → (list_in p.lists l).phase ≡ Open
open_phase p q l same open_now = ap (λ (s : Plain). (list_in s.lists l).phase) same ∙ sym (ap (λ (r : Row). r.phase) (row-map q.lists l)) ∙ open_now

pub open_low : (p q : Plain) (l : ℕ) → p ≡ q → IsOpen (store_of q) l → l < length p.lists
open_low p q l same open_now = open_within p.lists l (open_phase p q l same open_now)

-- ---- changes that keep the shape

pub same_shape : (b q changed : PlainList) → b ≡ changed → ((owned : Bool) → chain owned changed ≡ chain owned q) → changed.phase ≡ q.phase → SameShape b q
same_shape b q changed is chains phase = record {
  chains = λ owned. ap (chain owned) is ∙ chains owned;
  as_shut = ap (λ (w : PlainList). is_shut w.phase) is ∙ ap is_shut phase;
  still = λ shut_now. ap (λ (w : PlainList). w.phase) is ∙ phase ∙ shut_now;
}

-- each item stands where it stood once one more is placed
pub more_placed : (owned : Bool) (q : PlainList) (item x c i : ℕ) → StandsAt owned q x c i → StandsAt owned (placed_list q item) x c i
more_placed true q item x c i at = stands_more true q (placed_list q item) [] (item ∷ []) (sym (append_none q.owned)) refl x c i at
more_placed false q item x c i at = stands_same false q (placed_list q item) refl refl x c i at

-- and that one stands in the next slot
pub placed_there : (q : PlainList) (item c : ℕ) → slice_get q.owned (length q.placed / 256) ≡ Some c → StandsAt true (placed_list q item) item c (length q.placed % 256)
placed_there q item c chunk = record {
  rank = length q.placed / 256;
  chunk = chunk;
  within = omega arith;
  stands = (let place : 256 * (length q.placed / 256) + length q.placed % 256 ≡ length q.placed = omega arith in ap (λ k. slice_get (q.placed ++ item ∷ []) k) place) ∙ slice_get-last q.placed item;
}

pub known_here : (p : Plain) (l c x : ℕ) (new : PlainList) → l < length p.lists → StandsIn new c x → Knows (with_list p l new) l c x
known_here p l c x new low stands = subst (λ (b : PlainList). StandsIn b c x) (sym (list_in-set_same p.lists l new low)) stands

-- the same list is put back
pub known_same : (p : Plain) (l : ℕ) (old new : PlainList) → l < length p.lists → old ≡ list_in p.lists l → ((owned : Bool) → chain owned new ≡ chain owned old) → ((owned : Bool) → chain_items owned new ≡ chain_items owned old) → Keeps (Knows p) (Knows (with_list p l new))
known_same p l old new low is chunks items = known_changed p l old new low is (λ owned x c i at. stands_same owned old new (chunks owned) (items owned) x c i at)

-- a chunk stands at the end of a chain
pub stands_linked : (owned : Bool) (q : PlainList) (d x c i : ℕ) → StandsAt owned q x c i → StandsAt owned (linked_list q d) x c i
stands_linked true q d x c i at = stands_same true q (linked_list q d) refl refl x c i at
stands_linked false q d x c i at = stands_more false q (linked_list q d) (d ∷ []) [] refl (sym (append_none q.filed)) x c i at

pub stands_lengthened : (owned : Bool) (q : PlainList) (d x c i : ℕ) → StandsAt owned q x c i → StandsAt owned (lengthened_list q d) x c i
stands_lengthened true q d x c i at = stands_more true q (lengthened_list q d) (d ∷ []) [] refl (sym (append_none q.placed)) x c i at
stands_lengthened false q d x c i at = stands_same false q (lengthened_list q d) refl refl x c i at

-- nothing stands in a list without chunks
pub nothing_stands : (owned : Bool) (q : PlainList) (x c i : ℕ) → q.claimed ≡ [] → q.owned ≡ [] → StandsAt owned q x c i → ⊥
nothing_stands true q x c i claimed owned at = none at.rank (ap (λ (cs : List ℕ). slice_get cs at.rank) (sym owned) ∙ at.chunk)
  where
    none : (r : ℕ) → slice_get [] r ≡ Some c → ⊥
    none r e = cc
nothing_stands false q x c i claimed owned at = none at.rank (ap (λ (cs : List ℕ). slice_get cs at.rank) (sym claimed) ∙ at.chunk)
  where
    none : (r : ℕ) → slice_get [] r ≡ Some c → ⊥
    none r e = cc

-- ---- a chunk is taken for a chain

chunk_in : (xs : List ℕ) (c : ℕ) → Contains xs c → (r : ℕ) × (slice_get xs r ≡ Some c)
chunk_in xs c inside = (inside.0, slice_get-get_or xs inside.0 c inside.1 ∙ ap Some inside.2)

-- a free chunk is in no chain
pub nowhere : (p : Plain) (homes : List Home) (pool : Numbers) (c : ℕ) → AreHomed p.lists homes pool → IsFree pool c → (l : ℕ) → Contains (chunks_of (row (store_of p) l)) c → ⊥
nowhere p homes pool c kept free l inside =
    elim (Contains-append_cases (list_in p.lists l).claimed (list_in p.lists l).owned c (subst (λ (cs : List ℕ). Contains cs c) (ap chunks_of (row-map p.lists l)) inside)) [
      | inl claimed ↦ let place : (r : ℕ) × (slice_get (list_in p.lists l).claimed r ≡ Some c) = chunk_in (list_in p.lists l).claimed c claimed in kept.taken false l place.0 c place.1 free
      | inr owned ↦ let place : (r : ℕ) × (slice_get (list_in p.lists l).owned r ≡ Some c) = chunk_in (list_in p.lists l).owned c owned in kept.taken true l place.0 c place.1 free
    ]

-- the chunk that the pool gives is the next for a chain
pub next_chunk : (p : Plain) (homes : List Home) (pool : Numbers) (c : ℕ) → p.chunks ≡ pool.size → AreHomed p.lists homes pool → IsLeastFree pool c
    → c < pool.size → IsNextChunk (store_of p) c
next_chunk p homes pool c size kept is low = record {
  below = subst (λ n. c < n) (sym size) low;
  unused = nowhere p homes pool c kept is.free;
  least = λ d none. elim (cases_lt d pool.size) [
    | inl small ↦ is.least d (kept.unplaced d small (no_place p d none))
    | inr past ↦ omega (arith, low, past)
  ];
}

pub store_chunk : (p : Plain) (l : ℕ) (old new : PlainList) (f : Row → Row) (n : ℕ) → old ≡ list_in p.lists l → row_of new ≡ f (row_of old) → n + 1 ≡ p.free
    → store_of (record p { lists = set p.lists l new; free = n }) ≡ with_chunk (store_of p) l (f (row (store_of p) l))
store_chunk p l old new f n is changed one =
    let less : n ≡ p.free - 1 = omega arith in
    ap (λ (rows : List Row). let s : Store = record (store_of p) { rows = rows; free = n } in s) (map-set row_of p.lists l new ∙ ap (set (map row_of p.lists) l) (changed ∙ ap f (ap row_of is ∙ sym (row-map p.lists l))))
    ∙ ap (λ k. let s : Store = record (store_of p) { rows = set (map row_of p.lists) l (f (row (store_of p) l)); free = k } in s) less

-- ---- clearing, and places of chunks

pub chunk_low : (lists : List PlainList) (owned : Bool) (l r c : ℕ) → chunk_at lists owned l r ≡ Some c → l < length lists
chunk_low lists owned l r c at = elim (cases_lt l (length lists)) [
  | inl low ↦ low
  | inr high ↦ absurd (no_chunk_there owned r c (sym (ap (λ (q : PlainList). slice_get (chain owned q) r) (get_or_past lists l no_list high)) ∙ at))
]

pub cleared_view : (p : Plain) (l n k s : ℕ) (new : PlainList) → l ≡ next_list p → new ≡ emptied_list (list_in p.lists l) → n ≡ p.free + chunk_count (list_in p.lists l) → k ≡ suc p.cleared → s ≡ p.chunks
    → (let q : Plain = record p { lists = set p.lists l new; chunks = s; free = n; cleared = k } in q) ≡ next_cleared p
cleared_view p l n k s new l_is new_is n_is k_is s_is =
    ap (λ (b : PlainList). let q : Plain = record p { lists = set p.lists l b; chunks = s; free = n; cleared = k } in q) new_is
    ∙ ap (λ m. let q : Plain = record p { lists = set p.lists l (emptied_list (list_in p.lists l)); chunks = s; free = m; cleared = k } in q) n_is
    ∙ ap (λ m. let q : Plain = record p { lists = set p.lists l (emptied_list (list_in p.lists l)); chunks = s; free = p.free + chunk_count (list_in p.lists l); cleared = m } in q) k_is
    ∙ ap (λ m. let q : Plain = record p { lists = set p.lists l (emptied_list (list_in p.lists l)); chunks = m; free = p.free + chunk_count (list_in p.lists l); cleared = suc p.cleared } in q) s_is
    ∙ ap (λ j. let q : Plain = record p { lists = set p.lists j (emptied_list (list_in p.lists j)); free = p.free + chunk_count (list_in p.lists j); cleared = suc p.cleared } in q) l_is

-- ---- filing

-- a list that is shut, or that has a slot for one more item, is one of the lists
pub file_low : (lists : List PlainList) (l : ℕ) → (((list_in lists l).phase ≡ Shut → ⊥) → length (list_in lists l).filed < (list_in lists l).granted) → l < length lists
file_low lists l room = elim (cases_lt l (length lists)) [
  | inl low ↦ low
  | inr high ↦
      let none : list_in lists l ≡ no_list = get_or_past lists l no_list high in
      let fresh : (list_in lists l).phase ≡ Shut → ⊥ = λ shut_now. differ (sym (ap (λ (q : PlainList). q.phase) none) ∙ shut_now) in
      absurd (omega (arith, room fresh, ap (λ (q : PlainList). q.granted) none))
]
  where
    differ : Fresh ≡ Shut → ⊥
    differ e = cc

-- ---- the sweep

pub store_shut : (p : Plain) (l : ℕ) (old new : PlainList) → old ≡ list_in p.lists l → new ≡ shut_list old
    → store_of (record p { lists = set p.lists l new; order = p.order ++ l ∷ []; out = p.out ++ 0 ∷ [] }) ≡ shut_now (store_of p) l (map Some old.filed)
store_shut p l old new is shut_is =
    let marked : List (Option ℕ) = map Some old.filed in
    ap (λ (rows : List Row). let s : Store = record (store_of p) { rows = rows; order = p.order ++ l ∷ []; out = p.out ++ 0 ∷ [] } in s)
    (map-set row_of p.lists l new ∙ ap (set (map row_of p.lists) l) (ap row_of shut_is ∙ ap (λ (r : Row). shut_with r marked) (ap row_of is ∙ sym (row-map p.lists l))))

pub shut_found : (p : Plain) (l : ℕ) (old new : PlainList) → l < length p.lists → new ≡ shut_list old → found_in (row (store_of (with_list p l new)) l) ≡ items_of old
shut_found p l old new low shut_is =
    let here : list_in (set p.lists l new) l ≡ shut_list old = list_in-set_same p.lists l new low ∙ shut_is in
    ap found_in (row-map (set p.lists l new) l ∙ ap row_of here) ∙ found-row_of (shut_list old) refl

-- what is marked in a list that is shut
pub marked_all : (q : PlainList) → q.phase ≡ Shut → (row_of q).marked ≡ map Some q.filed
marked_all q shut_now = ap (λ s. let xs : List (Option ℕ) = cond (is_shut s) (map Some q.filed) [] in xs) shut_now

-- what the sweep showed: the items in the slots of both chains
pub swept_slots : (q : PlainList) → q.phase ≡ Shut → length q.filed ≤ 256 * length q.claimed → length q.placed ≤ 256 * length q.owned → AreMarks (HasSlot q) (length q.filed) (row_of q)
swept_slots q shut_now filed placed = record {
  counted = ap length (marked_all q shut_now) ∙ length-map q.filed Some;
  claimed = λ i y at.
      let item : (x : ℕ) × (y ≡ Some x) × (slice_get q.filed i ≡ Some x) = number_at_map q.filed i y (ap (λ (ys : List (Option ℕ)). slice_get ys i) (sym (marked_all q shut_now)) ∙ at) in
      let low : i < length q.filed = slice_get_within q.filed i item.0 item.2 in
      let chunk : slice_get q.claimed (i / 256) ≡ Some (get_or q.claimed (i / 256) 0) = slice_get-get_or q.claimed (i / 256) 0 (omega arith) in
      (get_or q.claimed (i / 256) 0, chunk, subst (HasSlot q (get_or q.claimed (i / 256) 0) (i % 256)) (sym item.1) (false, record { rank = i / 256; chunk = chunk; within = omega arith; stands = at_place q.filed i item.0 item.2 }));
  owned = λ i x at.
      let low : i < length q.placed = slice_get_within q.placed i x at in
      let chunk : slice_get q.owned (i / 256) ≡ Some (get_or q.owned (i / 256) 0) = slice_get-get_or q.owned (i / 256) 0 (omega arith) in
      (get_or q.owned (i / 256) 0, chunk, (true, record { rank = i / 256; chunk = chunk; within = omega arith; stands = at_place q.placed i x at }));
}
  where
    at_place : (xs : List ℕ) (i x : ℕ) → slice_get xs i ≡ Some x → slice_get xs (256 * (i / 256) + i % 256) ≡ Some x
    at_place xs i x at = let place : 256 * (i / 256) + i % 256 ≡ i = omega arith in ap (slice_get xs) place ∙ at

-- ---- grants
granted_shape : (lists : List PlainList) (l n : ℕ) → SameShape (granted_list (list_in lists l) n) (list_in lists l)
granted_shape lists l n = same_shape (granted_list (list_in lists l) n) (list_in lists l) (granted_list (list_in lists l) n) refl (λ owned. refl) refl

pub homed-grants : (gs : List Grant) (lists : List PlainList) (homes : List Home) (pool : Numbers) → AreHomed lists homes pool → AreHomed (grant_lists gs lists) homes pool
homed-grants [] lists homes pool kept = kept
homed-grants (g ∷ gs) lists homes pool kept = homed-grants gs (set lists g.list (granted_list (list_in lists g.list) g.n)) homes pool (elim (cases_lt g.list (length lists)) [
  | inl low ↦ homed-same lists homes pool g.list (granted_list (list_in lists g.list) g.n) kept low (granted_shape lists g.list g.n)
  | inr high ↦ subst (λ (ls : List PlainList). AreHomed ls homes pool) (sym (set_past lists g.list (granted_list (list_in lists g.list) g.n) high)) kept
])

pub summed-grants : (gs : List Grant) (lists : List PlainList) (pool : Numbers) (held shuts : ℕ) → AreSummed lists pool held shuts → AreSummed (grant_lists gs lists) pool held shuts
summed-grants [] lists pool held shuts kept = kept
summed-grants (g ∷ gs) lists pool held shuts kept = summed-grants gs (set lists g.list (granted_list (list_in lists g.list) g.n)) pool held shuts (elim (cases_lt g.list (length lists)) [
  | inl low ↦ summed-same lists pool held shuts g.list (granted_list (list_in lists g.list) g.n) kept low (granted_shape lists g.list g.n)
  | inr high ↦ subst (λ (ls : List PlainList). AreSummed ls pool held shuts) (sym (set_past lists g.list (granted_list (list_in lists g.list) g.n) high)) kept
])

pub ordered-grants : (gs : List Grant) (lists : List PlainList) (order : List ℕ) (cleared : ℕ) (out : List ℕ) (seats : ℕ) → AreOrdered lists order cleared out seats → AreOrdered (grant_lists gs lists) order cleared out seats
ordered-grants [] lists order cleared out seats kept = kept
ordered-grants (g ∷ gs) lists order cleared out seats kept = ordered-grants gs (set lists g.list (granted_list (list_in lists g.list) g.n)) order cleared out seats (elim (cases_lt g.list (length lists)) [
  | inl low ↦ ordered-same lists order cleared out seats g.list (granted_list (list_in lists g.list) g.n) kept low (granted_shape lists g.list g.n)
  | inr high ↦ subst (λ (ls : List PlainList). AreOrdered ls order cleared out seats) (sym (set_past lists g.list (granted_list (list_in lists g.list) g.n) high)) kept
])

pub rows-grants : (gs : List Grant) (lists : List PlainList) → map row_of (grant_lists gs lists) ≡ grant_rows gs (map row_of lists)
rows-grants [] lists = refl
rows-grants (g ∷ gs) lists =
    rows-grants gs (set lists g.list (granted_list (list_in lists g.list) g.n))
    ∙ ap (grant_rows gs) (map-set row_of lists g.list (granted_list (list_in lists g.list) g.n) ∙ ap (λ (r : Row). set (map row_of lists) g.list (more_granted r g.n)) (sym (row-map lists g.list)))

pub stands_granted : (owned : Bool) (q : PlainList) (n x c i : ℕ) → StandsAt owned q x c i → StandsAt owned (granted_list q n) x c i
stands_granted owned q n x c i at = stands_same owned q (granted_list q n) refl refl x c i at

-- what each grant leaves as it is stays
pub grants_keep : (P : PlainList → Type 0) → ((q : PlainList) (n : ℕ) → P q → P (granted_list q n)) → (gs : List Grant) (lists : List PlainList) (l : ℕ) → P (list_in lists l) → P (list_in (grant_lists gs lists) l)
grants_keep P one [] lists l holds = holds
grants_keep P one (g ∷ gs) lists l holds = grants_keep P one gs (set lists g.list (granted_list (list_in lists g.list) g.n)) l (elim (cases_eq l g.list) [
  | inr other ↦ subst P (sym (list_in-set_other lists g.list l (granted_list (list_in lists g.list) g.n) other)) holds
  | inl same ↦ elim (cases_lt g.list (length lists)) [
    | inl low ↦
        let now : list_in (set lists g.list (granted_list (list_in lists g.list) g.n)) l ≡ granted_list (list_in lists g.list) g.n = ap (list_in (set lists g.list (granted_list (list_in lists g.list) g.n))) same ∙ list_in-set_same lists g.list (granted_list (list_in lists g.list) g.n) low in
        subst P (sym now) (one (list_in lists g.list) g.n (subst (λ k. P (list_in lists k)) same holds))
    | inr high ↦ subst (λ (ls : List PlainList). P (list_in ls l)) (sym (set_past lists g.list (granted_list (list_in lists g.list) g.n) high)) holds
  ]
])

pub known-grants : (gs : List Grant) (p q : Plain) → q.lists ≡ grant_lists gs p.lists → Keeps (Knows p) (Knows q)
known-grants gs p q is = λ l c x known.
    subst (λ (ls : List PlainList). StandsIn (list_in ls l) c x) (sym is)
    (known.0, known.1, grants_keep (λ b. StandsAt known.0 b x c known.1) (λ b n at. stands_granted known.0 b n x c known.1 at) gs p.lists l known.2)

pub may_grant : (p q : Plain) (pool : Numbers) (held shuts : ℕ) (g : Grant) → p ≡ q → AreSummed p.lists pool held shuts → pool.size ≤ 1000000 → IsOpen (store_of q) g.list → (row (store_of q) g.list).granted + g.n ≤ 256 * length (row (store_of q) g.list).claimed → MayGrant p.lists g
may_grant p q pool held shuts g same kept few open_now slots =
    let phase : (list_in p.lists g.list).phase ≡ Open = open_phase p q g.list same open_now in
    let low : g.list < length p.lists = open_within p.lists g.list phase in
    let row_is : row (store_of q) g.list ≡ row_of (list_in p.lists g.list) = row-map q.lists g.list ∙ ap (λ (s : Plain). row_of (list_in s.lists g.list)) (sym same) in
    let here : (list_in p.lists g.list).granted + g.n ≤ 256 * length (list_in p.lists g.list).claimed = subst (λ (r : Row). r.granted + g.n ≤ 256 * length r.claimed) row_is slots in
    record { takes = phase; slots = here; fits = omega (arith, count-le p.lists pool held shuts g.list kept low) }

-- ---- the items that were filed

pub filed_changed : (p : Plain) (l : ℕ) (old new : PlainList) → l < length p.lists → old ≡ list_in p.lists l → new.filed ≡ old.filed → SameFiled p (with_list p l new)
filed_changed p l old new low is same = λ m. elim (cases_eq m l) [
  | inl here ↦ ap (λ (q : PlainList). q.filed) (ap (list_in (set p.lists l new)) here ∙ list_in-set_same p.lists l new low) ∙ same ∙ ap (λ (q : PlainList). q.filed) (is ∙ ap (list_in p.lists) (sym here))
  | inr other ↦ ap (λ (q : PlainList). q.filed) (list_in-set_other p.lists l m new other)
]

filed_one : (lists : List PlainList) (m n l : ℕ) → (list_in (set lists m (granted_list (list_in lists m) n)) l).filed ≡ (list_in lists l).filed
filed_one lists m n l = elim (cases_eq l m) [
  | inr other ↦ ap (λ (q : PlainList). q.filed) (list_in-set_other lists m l (granted_list (list_in lists m) n) other)
  | inl same ↦ elim (cases_lt m (length lists)) [
    | inl low ↦ ap (λ (q : PlainList). q.filed) (ap (list_in (set lists m (granted_list (list_in lists m) n))) same ∙ list_in-set_same lists m (granted_list (list_in lists m) n) low) ∙ ap (λ k. (list_in lists k).filed) (sym same)
    | inr high ↦ ap (λ (ls : List PlainList). (list_in ls l).filed) (set_past lists m (granted_list (list_in lists m) n) high)
  ]
]

pub filed-grants : (gs : List Grant) (lists : List PlainList) (l : ℕ) → (list_in (grant_lists gs lists) l).filed ≡ (list_in lists l).filed
filed-grants [] lists l = refl
filed-grants (g ∷ gs) lists l = filed-grants gs (set lists g.list (granted_list (list_in lists g.list) g.n)) l ∙ filed_one lists g.list g.n l
