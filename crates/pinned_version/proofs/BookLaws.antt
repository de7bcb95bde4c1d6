-- Laws of books.
use Rattle.std.proofs.Common.{Contains, nat_le, ◌≡◌, ◌≢◌, ℕ, zero, suc, ◌+◌, ◌-◌, ◌<◌, ◌≤◌, inl, inr, true, false, List, [], ◌∷◌, length, get_or, Option, Some, None, ap, sym, ◌∙◌, refl, arith, subst}
use Rattle.std.specs.List.{AllWithin, slice_get}
use Rattle.std.specs.List.Sorted.{IsNonDecreasingBy}
use Rattle.std.specs.Option.{option_or}
use Rattle.std.proofs.lemmas.Option.{get_or_from_slice_get, slice_get_within, slice_get_past, slice_get_read}
use Rattle.std.proofs.lemmas.Bool.{le-leb, lt-leb, leb-true, leb-false, cases_lt}
use Rattle.cube_math.specs.Points.{PointValue}
use Rattle.pinned_version.specs.Books.{BatchItems, AreInOrder, end_of, point_in, point_of}

pub point_in-from : (b : BatchItems) (x : ℕ) → b.first ≤ x → point_in b x ≡ slice_get b.points (x - b.first)
point_in-from b x l = rw (le-leb _ _ l) refl

pub point_in-below : (b : BatchItems) (x : ℕ) → x < b.first → point_in b x ≡ None
point_in-below b x l = rw (lt-leb _ _ l) refl

pub point_in-past : (b : BatchItems) (x : ℕ) → end_of b ≤ x → point_in b x ≡ None
point_in-past b x l = point_in-from b x (omega arith) ∙ slice_get_past b.points (x - b.first) (omega arith)

-- a batch has the items from its first to its end alone
pub point_in-within : (b : BatchItems) (x : ℕ) (p : PointValue) → point_in b x ≡ Some p → (b.first ≤ x) × (x < end_of b)
point_in-within b x p e = elim (cases_lt x b.first) [
  | inl l ↦ absurd (none_is_not (sym (point_in-below b x l) ∙ e))
  | inr from ↦ elim (cases_lt x (end_of b)) [
    | inl l ↦ (from, l)
    | inr past ↦ absurd (none_is_not (sym (point_in-past b x past) ∙ e))
  ]
]
  where
    none_is_not : None ≡ Some p → ⊥
    none_is_not h = cc

-- no batch has the item
pub point_of-none : (book : List BatchItems) (x : ℕ) → ((j : ℕ) (c : BatchItems) → slice_get book j ≡ Some c → point_in c x ≡ None)
    → point_of book x ≡ None
point_of-none [] x none = refl
point_of-none (a ∷ book) x none = rw (none zero a refl) (point_of-none book x (λ j c e. none (suc j) c e))

-- the batch at a place is the only one that has the item
pub point_of-at : (book : List BatchItems) (k x : ℕ) (b : BatchItems) → slice_get book k ≡ Some b
    → ((j : ℕ) (c : BatchItems) → slice_get book j ≡ Some c → j ≢ k → point_in c x ≡ None) → point_of book x ≡ point_in b x
point_of-at [] k x b at others = absurd (cc)
point_of-at (a ∷ book) zero x b at others =
    let same : a ≡ b = cc in
    rw (point_of-none book x (λ j c e. others (suc j) c e (λ h. absurd (omega arith)))) (alone (point_in a x) ∙ ap (λ (y : BatchItems). point_in y x) same)
  where
    alone : (o : Option PointValue) → option_or o None ≡ o
    alone None = refl
    alone (Some p) = refl
point_of-at (a ∷ book) (suc k) x b at others =
    rw (others zero a refl (λ h. absurd (omega arith))) (point_of-at book k x b at (λ j c e n. others (suc j) c e (λ h. n (omega arith))))

-- of two batches the earlier ends before the later begins
pub apart_at : (book : List BatchItems) (i j : ℕ) (a b : BatchItems) → AreInOrder book → slice_get book i ≡ Some a → slice_get book j ≡ Some b
    → i < j → end_of a ≤ b.first
apart_at book i j a b o at_i at_j l =
    let h : end_of (get_or book i a) ≤ (get_or book j a).first = o.apart i j a l (slice_get_within book j b at_j) in
    let e : get_or book i a ≡ a = get_or_from_slice_get book i a a at_i in
    let f : get_or book j a ≡ b = get_or_from_slice_get book j b a at_j in
    subst (λ (y : BatchItems). end_of y ≤ b.first) e (subst (λ (y : BatchItems). end_of (get_or book i a) ≤ y.first) f h)

-- an item that a batch has is in no other one
pub only_there : (book : List BatchItems) (k x : ℕ) (b : BatchItems) (p : PointValue) → AreInOrder book → slice_get book k ≡ Some b
    → point_in b x ≡ Some p → (j : ℕ) (c : BatchItems) → slice_get book j ≡ Some c → j ≢ k → point_in c x ≡ None
only_there book k x b p o at has j c e n =
    let within = point_in-within b x p has in
    elim (cases_lt j k) [
      | inl l ↦ let d = apart_at book j k c b o e at l in point_in-past c x (omega (arith, d, within.0))
      | inr not_before ↦
          let l : k < j = omega arith in
          let d = apart_at book k j b c o at e l in
          point_in-below c x (omega (arith, d, within.1))
    ]

pub found_there : (book : List BatchItems) (k x : ℕ) (b : BatchItems) (p : PointValue) → AreInOrder book → slice_get book k ≡ Some b
    → point_in b x ≡ Some p → point_of book x ≡ Some p
found_there book k x b p o at has = point_of-at book k x b at (only_there book k x b p o at has) ∙ has

-- the last batch that begins at the item or before is the only one that may have it
pub last_before : (book : List BatchItems) (k x : ℕ) (b : BatchItems) → AreInOrder book → slice_get book k ≡ Some b → b.first ≤ x
    → ((j : ℕ) (c : BatchItems) → slice_get book j ≡ Some c → k + 1 ≤ j → x < c.first) → point_of book x ≡ point_in b x
last_before book k x b o at from behind = point_of-at book k x b at others
  where
    others : (j : ℕ) (c : BatchItems) → slice_get book j ≡ Some c → j ≢ k → point_in c x ≡ None
    others j c e n = elim (cases_lt j k) [
      | inl l ↦ let d = apart_at book j k c b o e at l in point_in-past c x (omega (arith, d, from))
      | inr not_before ↦ point_in-below c x (behind j c e (omega arith))
    ]

-- batches begin one after the other
pub firsts_rise : (book : List BatchItems) → AreInOrder book → IsNonDecreasingBy (λ (b : BatchItems). b.first) book
firsts_rise book o i j d before within = elim (cases_lt i j) [
  | inl less ↦
      let apart : end_of (get_or book i d) ≤ (get_or book j d).first = o.apart i j d less within in
      omega (arith, apart)
  | inr not_less ↦
      let same : i ≡ j = omega arith in
      omega (arith, ap (λ (k : ℕ). (get_or book k d).first) same)
]

-- ---- how many batches begin at an item or before it

pub begun_before : (book : List BatchItems) (i item : ℕ) → AllWithin (λ (b : BatchItems). nat_le b.first item ≡ true) book 0 i
    → (k : ℕ) (b : BatchItems) → slice_get book k ≡ Some b → k < i → b.first ≤ item
begun_before book i item all k b at less =
    leb-true b.first item (subst (λ (y : BatchItems). nat_le y.first item ≡ true) (get_or_from_slice_get book k b b at) (all k b (omega arith) less))

pub begun_behind : (book : List BatchItems) (i item : ℕ) → AllWithin (λ (b : BatchItems). nat_le b.first item ≡ false) book i (length book)
    → (k : ℕ) (b : BatchItems) → slice_get book k ≡ Some b → i ≤ k → item < b.first
begun_behind book i item all k b at past =
    leb-false b.first item
    (subst (λ (y : BatchItems). nat_le y.first item ≡ false) (get_or_from_slice_get book k b b at) (all k b past (slice_get_within book k b at)))

-- all batches begin past the item
pub none_begun : (book : List BatchItems) (begun item : ℕ) → begun ≡ 0
    → ((k : ℕ) (b : BatchItems) → slice_get book k ≡ Some b → begun ≤ k → item < b.first) → None ≡ point_of book item
none_begun book begun item none past = sym (point_of-none book item (λ j c e. point_in-below c item (past j c e (omega arith))))

-- ---- each item of each batch is told

pub found_in : (book : List BatchItems) (b : BatchItems) (item : ℕ) (p : PointValue) → AreInOrder book → Contains book b → point_in b item ≡ Some p
    → point_of book item ≡ Some p
found_in book b item p o there has =
    found_there book there.0 item b p o (slice_get_read book (length book) there.0 b refl there.1 (sym there.2)) has
