-- What is known of the slots of lists over vectors, and for how long answers stay borne out.
use Rattle.std.proofs.Common.{◌≡◌, ◌≢◌, ℕ, zero, suc, ◌+◌, ◌*◌, ◌<◌, ◌≤◌, ◌⊎◌, inl, inr, Bool, true, false, cond, List, [], ◌∷◌, ◌++◌, length, map, set, get_or, Some, None, Option, ap, refl, sym, subst, ◌∙◌, arith}
use Rattle.std.specs.List.{Contains, slice_get}
use Rattle.std.proofs.lemmas.Bool.{cases_eq, cases_lt}
use Rattle.std.proofs.lemmas.List.{get_or_past, get_or-set_same, get_or-set_other}
use Rattle.list_words.specs.Filing.{Filing}
use Rattle.list_words.specs.Store.{IsFiledAt, IsFoundAt, Row, StandOnce, chunks_of, row}
use Rattle.list_words.specs.Store.IsFoundAt.{as_placed, by_mark}
use Rattle.list_words.specs.PlainGrants.{grant_lists}
use Rattle.list_words.specs.PlainKept.{AreHomed, home_of}
use Rattle.list_machine.specs.declared.views.Grant.{Grant}
use Rattle.chunk_pool.specs.Numbers.{Numbers}
use Rattle.list_words.specs.declared.plain_homes.Home.{Home}
use Rattle.std.proofs.lemmas.Option.{same_Some, slice_get_within}
use Rattle.list_words.specs.PlainRows.{PlainList, row_of}
use Rattle.list_words.specs.Plain.{Plain, Bears, BearsOut, HasSlot, Shown, StandsAt, StayFiled, all_chunks, chain, chain_items, claims_in, list_in, store_of}
use Rattle.list_words.specs.declared.leaf_lists.Answer.{Answer}
use Rattle.list_words.specs.declared.leaf_lists.Filed.{Filed}
use Rattle.list_words.specs.declared.leaf_lists.Filed.TheVariants.{At, Late}
use Rattle.list_words.specs.declared.leaf_lists.Phase.TheVariants.{Fresh, Shut}
use Rattle.list_words.proofs.Places.{get_or-push, map_at_number, slice_get-joined}
use Rattle.list_words.proofs.PlainLaws.{list_in-set_other, list_in-set_same, row-map}
use Rattle.list_words.proofs.StoreLaws.{all_at, grants_keep, marked_all, stands_granted}

-- ---- items that stay

pub stay_same : (lists : List PlainList) → StayFiled lists lists
stay_same lists = record { stands = λ l owned x c i at. at; shut = λ l phase. phase }

-- one list changes
pub stay_changed : (lists : List PlainList) (l : ℕ) (old new : PlainList) → l < length lists → old ≡ list_in lists l
    → ((owned : Bool) (x c i : ℕ) → StandsAt owned old x c i → StandsAt owned new x c i) → (old.phase ≡ Shut → new.phase ≡ Shut) → StayFiled lists (set lists l new)
stay_changed lists l old new low is stays shut =
    let here : (m : ℕ) → m ≡ l → list_in (set lists l new) m ≡ new = λ m same. ap (list_in (set lists l new)) same ∙ list_in-set_same lists l new low in
    let was : (m : ℕ) → m ≡ l → list_in lists m ≡ old = λ m same. ap (list_in lists) same ∙ sym is in
    record {
      stands = λ m owned x c i at. elim (cases_eq m l) [
        | inl same ↦ subst (λ (b : PlainList). StandsAt owned b x c i) (sym (here m same)) (stays owned x c i (subst (λ (b : PlainList). StandsAt owned b x c i) (was m same) at))
        | inr other ↦ subst (λ (b : PlainList). StandsAt owned b x c i) (sym (list_in-set_other lists l m new other)) at
      ];
      shut = λ m phase. elim (cases_eq m l) [
        | inl same ↦ ap (λ (b : PlainList). b.phase) (here m same) ∙ shut (sym (ap (λ (b : PlainList). b.phase) (was m same)) ∙ phase)
        | inr other ↦ ap (λ (b : PlainList). b.phase) (list_in-set_other lists l m new other) ∙ phase
      ];
    }

-- so what is known of slots stays known
has_slot_by : (q r : PlainList) (c k : ℕ) (y : Option ℕ) → ((owned : Bool) (x : ℕ) → StandsAt owned q x c k → StandsAt owned r x c k) → HasSlot q c k y → HasSlot r c k y
has_slot_by q r c k None by has = has
has_slot_by q r c k (Some x) by has = (has.0, by has.0 x has.1)

pub slots_stay : (before after : List PlainList) → StayFiled before after → (l c k : ℕ) (y : Option ℕ) → HasSlot (list_in before l) c k y → HasSlot (list_in after l) c k y
slots_stay before after stays l c k y has = has_slot_by (list_in before l) (list_in after l) c k y (λ owned x at. stays.stands l owned x c k at) has

-- ---- answers that stay borne out

bears_by : (q r : PlainList) (x : ℕ) (filed : Filed) → ((c k : ℕ) → filed ≡ At c k → StandsAt false q x c k → StandsAt false r x c k) → (q.phase ≡ Shut → r.phase ≡ Shut) → Bears q x filed → Bears r x filed
bears_by q r x (At c k) stands shut bears = stands c k refl bears
bears_by q r x (Late seen) stands shut bears = shut bears

default_of_answers : (xs : List Answer) (i : ℕ) (a b : Answer) → i < length xs → get_or xs i b ≡ get_or xs i a
default_of_answers [] i a b low = absurd (omega arith)
default_of_answers (x ∷ xs) zero a b low = refl
default_of_answers (x ∷ xs) (suc i) a b low = default_of_answers xs i a b (omega arith)

-- where the lists keep those items that answers name, and somebody of the birth is out, answers stay borne out
pub borne_by : (p q : Plain) (f : Filing) → ((a : Answer) (c k : ℕ) → Contains f.answers a → a.filed ≡ At c k → StandsAt false (list_in p.lists a.list) a.item c k → StandsAt false (list_in q.lists a.list) a.item c k)
    → ((l : ℕ) → (list_in p.lists l).phase ≡ Shut → (list_in q.lists l).phase ≡ Shut) → (0 < get_or p.out f.birth 0 → 0 < get_or q.out f.birth 0) → BearsOut p f → BearsOut q f
borne_by p q f stands shut out borne = record {
  counted = out borne.counted;
  answers = λ i a low. bears_by (list_in p.lists (get_or f.answers i a).list) (list_in q.lists (get_or f.answers i a).list) (get_or f.answers i a).item (get_or f.answers i a).filed
      (λ c k at was. stands (get_or f.answers i a) c k (i, low, default_of_answers f.answers i a (get_or f.answers i a) low) at was) (shut (get_or f.answers i a).list) (borne.answers i a low);
}

pub borne_stays : (p q : Plain) → StayFiled p.lists q.lists → (f : Filing) → (0 < get_or p.out f.birth 0 → 0 < get_or q.out f.birth 0) → BearsOut p f → BearsOut q f
borne_stays p q stays f out borne = borne_by p q f (λ a c k inside at was. stays.stands a.list false a.item c k was) stays.shut out borne

-- nobody comes or goes
pub borne_same : (p q : Plain) → StayFiled p.lists q.lists → q.out ≡ p.out → (f : Filing) → BearsOut p f → BearsOut q f
borne_same p q stays out f borne = borne_stays p q stays f (λ some. subst (λ (xs : List ℕ). 0 < get_or xs f.birth 0) (sym out) some) borne

-- one more birth is counted from now on
pub still_out_later : (out : List ℕ) (b : ℕ) → 0 < get_or out b 0 → 0 < get_or (out ++ 0 ∷ []) b 0
still_out_later out b some = elim (cases_lt b (length out)) [
  | inl low ↦ subst (λ n. 0 < n) (sym (get_or-push out 0 b 0 low)) some
  | inr high ↦ let none : get_or out b 0 ≡ 0 = get_or_past out b 0 high in absurd (omega arith)
]

-- one more is out
pub still_out_counted : (out : List ℕ) (n v b : ℕ) → 0 < get_or out b 0 → 0 < get_or (set out n (v + 1)) b 0
still_out_counted out n v b some = elim (cases_eq b n) [
  | inl same ↦ elim (cases_lt n (length out)) [
    | inl low ↦ let e : get_or (set out n (v + 1)) b 0 ≡ v + 1 = ap (λ m. get_or (set out n (v + 1)) m 0) same ∙ get_or-set_same out n (v + 1) 0 low in omega arith
    | inr high ↦ let none : get_or out b 0 ≡ 0 = ap (λ m. get_or out m 0) same ∙ get_or_past out n 0 high in absurd (omega arith)
  ]
  | inr other ↦ subst (λ m. 0 < m) (sym (get_or-set_other out n b (v + 1) 0 other)) some
]

-- ---- grants, and lists that are open

pub stay_granted : (gs : List Grant) (lists : List PlainList) → StayFiled lists (grant_lists gs lists)
stay_granted gs lists = record {
  stands = λ l owned x c i at. grants_keep (λ b. StandsAt owned b x c i) (λ b n was. stands_granted owned b n x c i was) gs lists l at;
  shut = λ l phase. grants_keep (λ b. b.phase ≡ Shut) (λ b n was. was) gs lists l phase;
}

pub fresh_phase : (p q : Plain) (l : ℕ) → p ≡ q → (row (store_of q) l).phase ≡ Fresh → (list_in p.lists l).phase ≡ Fresh
fresh_phase p q l same fresh_now = ap (λ (s : Plain). (list_in s.lists l).phase) same ∙ sym (ap (λ (r : Row). r.phase) (row-map q.lists l)) ∙ fresh_now

-- what a slot of the changed list has
pub slot_here : (lists : List PlainList) (l : ℕ) (new : PlainList) → l < length lists → (c k x : ℕ) → HasSlot new c k (Some x) → HasSlot (list_in (set lists l new) l) c k (Some x)
slot_here lists l new low c k x has = subst (λ (q : PlainList). HasSlot q c k (Some x)) (sym (list_in-set_same lists l new low)) has

-- ---- what is known of slots

-- of one slot one thing is known
pub slots_one : (lists : List PlainList) (homes : List Home) (pool : Numbers) → AreHomed lists homes pool → (l c k : ℕ) (y z : Option ℕ) → HasSlot (list_in lists l) c k y → HasSlot (list_in lists l) c k z → y ≡ z
slots_one lists homes pool kept l c k None z has also = absurd has
slots_one lists homes pool kept l c k (Some x) None has also = absurd also
slots_one lists homes pool kept l c k (Some x) (Some w) has also =
    let e : home_of l has.0 has.1.rank ≡ home_of l also.0 also.1.rank = same_Some _ _ (sym (kept.home has.0 l has.1.rank c has.1.chunk) ∙ kept.home also.0 l also.1.rank c also.1.chunk) in
    let chain_is : has.0 ≡ also.0 = ap (λ (h : Home). h.owned) e in
    let rank_is : has.1.rank ≡ also.1.rank = ap (λ (h : Home). h.rank) e in
    sym has.1.stands ∙ ap (λ o. slice_get (chain_items o (list_in lists l)) (256 * has.1.rank + k)) chain_is ∙ ap (λ r. slice_get (chain_items also.0 (list_in lists l)) (256 * r + k)) rank_is ∙ also.1.stands

-- the place of a chunk in one of the chains of its list
place_in : (q : PlainList) (i c : ℕ) → slice_get (all_chunks q) i ≡ Some c → (owned : Bool) × (r : ℕ) × (slice_get (chain owned q) r ≡ Some c) × (i ≡ cond owned (length q.claimed) 0 + r)
place_in q i c at = elim (slice_get-joined q.claimed q.owned i c at) [
  | inl first ↦ let e : i ≡ 0 + i = omega arith in (false, i, first, e)
  | inr second ↦ (true, second.0, second.2, second.1)
]

-- a chunk has one place
pub chunks_once : (p : Plain) (homes : List Home) (pool : Numbers) → AreHomed p.lists homes pool → StandOnce (store_of p)
chunks_once p homes pool kept = λ l m i j c at also.
    let here : (owned : Bool) × (r : ℕ) × (slice_get (chain owned (list_in p.lists l)) r ≡ Some c) × (i ≡ cond owned (length (list_in p.lists l).claimed) 0 + r) =
    place_in (list_in p.lists l) i c (ap (λ (r : Row). slice_get (chunks_of r) i) (sym (row-map p.lists l)) ∙ at) in
    let there : (owned : Bool) × (r : ℕ) × (slice_get (chain owned (list_in p.lists m)) r ≡ Some c) × (j ≡ cond owned (length (list_in p.lists m).claimed) 0 + r) =
    place_in (list_in p.lists m) j c (ap (λ (r : Row). slice_get (chunks_of r) j) (sym (row-map p.lists m)) ∙ also) in
    let e : home_of l here.0 here.1 ≡ home_of m there.0 there.1 = same_Some _ _ (sym (kept.home here.0 l here.1 c here.2) ∙ kept.home there.0 m there.1 c there.2) in
    let list_is : l ≡ m = ap (λ (h : Home). h.list) e in (
      list_is,
      here.3 ∙ ap (λ (h : Home). cond h.owned (length (list_in p.lists h.list).claimed) 0 + h.rank) e ∙ sym there.3,
    )

-- an item in a slot of a shut list was found there
pub slot_found : (q : PlainList) (owned : Bool) (x c k : ℕ) → q.phase ≡ Shut → StandsAt owned q x c k → IsFoundAt (row_of q) c k x
slot_found q true x c k shut_now at = as_placed at.rank at.chunk at.stands
slot_found q false x c k shut_now at = by_mark at.rank at.chunk (ap (λ (ys : List (Option ℕ)). slice_get ys (256 * at.rank + k)) (marked_all q shut_now) ∙ map_at_number q.filed (256 * at.rank + k) x at.stands)

-- a filed item stands in the slot that its answer names
pub filed_at : (p : Plain) (f : Filing) (a : Answer) (c k : ℕ) → BearsOut p f → Contains f.answers a → a.filed ≡ At c k → IsFiledAt (Shown p a.list) (claims_in p a.list) (row (store_of p) a.list) c k a.item
filed_at p f a c k out inside at =
    let q : PlainList = list_in p.lists a.list in
    let bears : Bears q a.item a.filed = all_at (λ (b : Answer). Bears (list_in p.lists b.list) b.item b.filed) f.answers a out.answers inside in
    let stands : StandsAt false q a.item c k = subst (λ (w : Filed). Bears q a.item w) at bears in
    subst (λ (r : Row). IsFiledAt (HasSlot q) (length q.filed) r c k a.item) (sym (row-map p.lists a.list)) record {
      shown_there = (false, stands);
      within = stands.within;
      rank = stands.rank;
      chunk = stands.chunk;
      marked = λ shut_now. (
        slice_get_within q.filed (256 * stands.rank + k) a.item stands.stands,
        ap (λ (ys : List (Option ℕ)). slice_get ys (256 * stands.rank + k)) (marked_all q shut_now) ∙ map_at_number q.filed (256 * stands.rank + k) a.item stands.stands,
      );
    }
