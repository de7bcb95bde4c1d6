-- What a change of one list does to what lists over vectors keep.
use Rattle.std.proofs.Common.{◌≡◌, ◌≢◌, ℕ, ◌+◌, ◌<◌, ◌≤◌, ◌⊎◌, inl, inr, Bool, cond, List, length, map, set, Some, ap, sym, ◌∙◌, arith}
use Rattle.std.specs.List.{slice_get, sum_by}
use Rattle.std.specs.FinSet as set_of
use Rattle.std.proofs.lemmas.Bool.{cases_eq, cases_lt}
use Rattle.std.proofs.lemmas.List.{map-set, get_or-set_same, get_or-set_other, get_or_past}
use Rattle.std.proofs.lemmas.List.Sums.{sum_by-set, get_or-le-sum_by}
use Rattle.std.proofs.Math.ListN.{get_or-map}
use Rattle.chunk_pool.specs.Numbers.{Numbers}
use Rattle.list_words.specs.Store.{Store, Row, row_in, with_row, is_shut}
use Rattle.list_words.specs.PlainRows.{PlainList, no_list, row_of}
use Rattle.list_words.specs.Plain.{Plain, list_in, store_of, with_list, chain, chunk_at, chunk_count, held_chunks, shut_count}
use Rattle.list_words.specs.PlainKept.{AreHomed, AreSummed, AreOrdered}
use Rattle.list_words.specs.declared.leaf_lists.Phase.TheVariants.{Fresh, Open, Shut}
use Rattle.list_words.specs.declared.plain_homes.Home.{Home}

-- ---- rows and lists

pub row-map : (lists : List PlainList) (l : ℕ) → row_in (map row_of lists) l ≡ row_of (list_in lists l)
row-map lists l = get_or-map row_of lists l no_list

pub store-with_list : (p : Plain) (l : ℕ) (b : PlainList) → store_of (with_list p l b) ≡ with_row (store_of p) l (row_of b)
store-with_list p l b = ap (λ (rows : List Row). let s : Store = record (store_of p) { rows = rows } in s) (map-set row_of p.lists l b)

pub list_in-set_same : (lists : List PlainList) (l : ℕ) (b : PlainList) → l < length lists → list_in (set lists l b) l ≡ b
list_in-set_same lists l b low = get_or-set_same lists l b no_list low

pub list_in-set_other : (lists : List PlainList) (l m : ℕ) (b : PlainList) → m ≢ l → list_in (set lists l b) m ≡ list_in lists m
list_in-set_other lists l m b other = get_or-set_other lists l m b no_list other

-- a list that is no longer fresh is one of the lists
pub within_lists : (lists : List PlainList) (l : ℕ) → ((list_in lists l).phase ≡ Fresh → ⊥) → l < length lists
within_lists lists l begun = elim (cases_lt l (length lists)) [
  | inl low ↦ low
  | inr high ↦ absurd (begun (ap (λ (p : PlainList). p.phase) (get_or_past lists l no_list high)))
]

pub open_within : (lists : List PlainList) (l : ℕ) → (list_in lists l).phase ≡ Open → l < length lists
open_within lists l open_now = within_lists lists l (λ fresh. absurd (differ (sym fresh ∙ open_now)))
  where
    differ : Fresh ≡ Open → ⊥
    differ e = cc

pub shut_within : (lists : List PlainList) (l : ℕ) → (list_in lists l).phase ≡ Shut → l < length lists
shut_within lists l shut_now = within_lists lists l (λ fresh. absurd (differ (sym fresh ∙ shut_now)))
  where
    differ : Fresh ≡ Shut → ⊥
    differ e = cc

-- ---- homes

-- a chunk of a chain after one list was replaced
pub chunk_at-set : (lists : List PlainList) (l : ℕ) (b : PlainList) (owned : Bool) (m r c : ℕ) → l < length lists → chunk_at (set lists l b) owned m r ≡ Some c
    → ((m ≡ l) × (slice_get (chain owned b) r ≡ Some c)) ⊎ ((m ≢ l) × (chunk_at lists owned m r ≡ Some c))
chunk_at-set lists l b owned m r c low at = elim (cases_eq m l) [
  | inl same ↦ inl (same, sym (ap (λ (p : PlainList). slice_get (chain owned p) r) (ap (list_in (set lists l b)) same ∙ list_in-set_same lists l b low)) ∙ at)
  | inr other ↦ inr (other, sym (ap (λ (p : PlainList). slice_get (chain owned p) r) (list_in-set_other lists l m b other)) ∙ at)
]

-- the chunks of other lists stay
pub chunk_at-set_other : (lists : List PlainList) (l : ℕ) (b : PlainList) (owned : Bool) (m r : ℕ) → m ≢ l
    → chunk_at (set lists l b) owned m r ≡ chunk_at lists owned m r
chunk_at-set_other lists l b owned m r other = ap (λ (p : PlainList). slice_get (chain owned p) r) (list_in-set_other lists l m b other)

-- and this one's are those of its new row
pub chunk_at-set_same : (lists : List PlainList) (l : ℕ) (b : PlainList) (owned : Bool) (m r : ℕ) → l < length lists → m ≡ l
    → chunk_at (set lists l b) owned m r ≡ slice_get (chain owned b) r
chunk_at-set_same lists l b owned m r low same =
    ap (λ (p : PlainList). slice_get (chain owned p) r) (ap (list_in (set lists l b)) same ∙ list_in-set_same lists l b low)

-- a list with the same chains
pub homed-set : (lists : List PlainList) (homes : List Home) (pool : Numbers) (l : ℕ) (b : PlainList) → AreHomed lists homes pool → l < length lists
    → ((owned : Bool) → chain owned b ≡ chain owned (list_in lists l)) → AreHomed (set lists l b) homes pool
homed-set lists homes pool l b kept low chains =
    let same : (owned : Bool) (m r : ℕ) → chunk_at (set lists l b) owned m r ≡ chunk_at lists owned m r = λ owned m r. elim (cases_eq m l) [
      | inl here ↦
          chunk_at-set_same lists l b owned m r low here ∙ ap (λ (cs : List ℕ). slice_get cs r) (chains owned)
          ∙ ap (λ k. chunk_at lists owned k r) (sym here)
      | inr other ↦ chunk_at-set_other lists l b owned m r other
    ] in
    record {
      home = λ owned m r c at. kept.home owned m r c (sym (same owned m r) ∙ at);
      taken = λ owned m r c at. kept.taken owned m r c (sym (same owned m r) ∙ at);
      unplaced = λ c small none. kept.unplaced c small (λ owned m r at. none owned m r (same owned m r ∙ at));
      size = kept.size;
    }

-- ---- sums

pub sum_by_same : (f : PlainList → ℕ) (lists : List PlainList) (l : ℕ) (b : PlainList) → l < length lists → f b ≡ f (list_in lists l) → sum_by f (set lists l b) ≡ sum_by f lists
sum_by_same f lists l b low same = let e : sum_by f (set lists l b) + f (list_in lists l) ≡ sum_by f lists + f b = sum_by-set f lists l b no_list low in omega arith

-- a list with as many chunks, and as shut as before
pub summed-set : (lists : List PlainList) (pool : Numbers) (held shuts l : ℕ) (b : PlainList) → AreSummed lists pool held shuts → l < length lists
    → chunk_count b ≡ chunk_count (list_in lists l) → is_shut b.phase ≡ is_shut (list_in lists l).phase → AreSummed (set lists l b) pool held shuts
summed-set lists pool held shuts l b kept low count phase = record {
  total = ap (λ n. n + set_of.len pool.free) (sum_by_same chunk_count lists l b low count) ∙ kept.total;
  held = kept.held ∙ sym (sum_by_same held_chunks lists l b low (ap (λ s. cond s (chunk_count b) 0) phase ∙ ap (λ n. cond (is_shut (list_in lists l).phase) n 0) count));
  shuts = kept.shuts ∙ sym (sum_by_same shut_count lists l b low (ap (λ s. cond s 1 0) phase));
}

-- the chunks of one list are at most all chunks
pub count-le : (lists : List PlainList) (pool : Numbers) (held shuts l : ℕ) → AreSummed lists pool held shuts → l < length lists → chunk_count (list_in lists l) ≤ pool.size
count-le lists pool held shuts l kept low = let part : chunk_count (list_in lists l) ≤ sum_by chunk_count lists = get_or-le-sum_by chunk_count lists l no_list low in omega (arith, kept.total)

-- ---- the order of shuts

pub ordered-set : (lists : List PlainList) (order : List ℕ) (cleared : ℕ) (out : List ℕ) (seats l : ℕ) (b : PlainList) → AreOrdered lists order cleared out seats → l < length lists
    → ((list_in lists l).phase ≡ Shut → b.phase ≡ Shut) → AreOrdered (set lists l b) order cleared out seats
ordered-set lists order cleared out seats l b kept low still = record {
  shut = λ p m at. elim (cases_eq m l) [
    | inl same ↦ ap (λ (q : PlainList). q.phase) (ap (list_in (set lists l b)) same ∙ list_in-set_same lists l b low) ∙ still (sym (ap (λ k. (list_in lists k).phase) same) ∙ kept.shut p m at)
    | inr other ↦ ap (λ (q : PlainList). q.phase) (list_in-set_other lists l m b other) ∙ kept.shut p m at
  ];
  begun = kept.begun;
  births = kept.births;
  past = kept.past;
  seats = kept.seats;
}
