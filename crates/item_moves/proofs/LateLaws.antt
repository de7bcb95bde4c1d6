-- Items of a filer that comes back.
use Rattle.std.proofs.Common.{◌≡◌, ℕ, ◌+◌, ◌<◌, inl, inr, Bool, true, false, ◌&&◌, ◌||◌, not, List, [], ◌∷◌, ◌++◌, length, get_or, take, Contains, IsTrue, Option, Some, refl, ap, sym, ◌∙◌, subst, arith}
use Rattle.std.proofs.lemmas.Grind.{common_steps}
use Rattle.std.proofs.lemmas.List.{take_more}
use Rattle.std.proofs.lemmas.List.Elements.{Contains-push_cases}
use Rattle.list_words.specs.declared.leaf_lists.Answer.{Answer}
use Rattle.list_words.specs.declared.leaf_lists.Filed.{Filed}
use Rattle.list_words.specs.declared.leaf_lists.Filed.TheVariants.{At, Late}
use Rattle.list_words.specs.Store.{Store, Row, IsShut, Keeps, row, chunks_of, found_in, one_less}
use Rattle.item_moves.specs.Homes.{AreHomed, IsKnownIn, OnlyHome, OnlyPlaced}
use Rattle.item_moves.specs.Late.{AreBack, is_fair, is_late}
use Rattle.item_moves.specs.Settled.{AreSettled, StandsIn}
use Rattle.item_moves.proofs.FoundLaws.{home_stays}
use Rattle.item_moves.proofs.SweepLaws.{not_both, still_known}
use Rattle.item_moves.proofs.SweepAllLaws.{no_one}

-- ---- fair answers
both : (b c : Bool) → (b && c) ≡ true → (b ≡ true) × (c ≡ true)
both true true e = (refl, refl)
both true false e = absurd (never e)
  where
    never : false ≡ true → ⊥
    never e = cc
both false c e = absurd (never e)
  where
    never : false ≡ true → ⊥
    never e = cc

module _ (leaf : ℕ → ℕ) (covers guest : ℕ → ℕ → Bool) (a : Answer) (fair : IsTrue (is_fair leaf covers guest a)) where
  pub fair_covers : IsTrue (covers a.list a.item)
  fair_covers = (both _ _ fair).0

  pub fair_guest : IsTrue (is_late a.filed) → IsTrue (guest (leaf a.item) a.item)
  fair_guest late = second (is_late a.filed) (guest (leaf a.item) a.item) late (both _ _ fair).1
    where
      second : (b c : Bool) → b ≡ true → (not b || c) ≡ true → c ≡ true
      second true c e h = h
      second false c e h = absurd (never e)
        where
          never : false ≡ true → ⊥
          never e = cc

-- ---- late items
pub none_back : (leaf : ℕ → ℕ) (homes : List ℕ) → AreBack leaf homes []
unfolding AreBack
none_back leaf homes a c late = grind (arith, common_steps)

pub back_more : (leaf : ℕ → ℕ) (now new : List ℕ) (answers : List Answer) (i : ℕ) (d : Answer) → AreBack leaf now (take i answers) → OnlyHome leaf now new
    → i < length answers
    → (IsTrue (is_late (get_or answers i d).filed) → get_or new (get_or answers i d).item 0 ≡ leaf (get_or answers i d).item) → AreBack leaf new
    (take (i + 1) answers)
unfolding AreBack
back_more leaf now new answers i d old only low last a c late =
    let b : Answer = get_or answers i d in
    let c' : Contains (take i answers ++ b ∷ []) a = subst (λ (l : List Answer). Contains l a) (take_more answers i d low) c in
    elim (Contains-push_cases (take i answers) b a c') [
      | inl earlier ↦ home_stays leaf now new a.item only (old a earlier late)
      | inr same ↦
          let P : Answer → Type 0 = λ x. IsTrue (is_late x.filed) → get_or new x.item 0 ≡ leaf x.item in
          subst P same last late
    ]

pub late_home : (leaf : ℕ → ℕ) (homes : List ℕ) (answers : List Answer) (a : Answer) → AreBack leaf homes answers → Contains answers a
    → IsTrue (is_late a.filed) → get_or homes a.item 0 ≡ leaf a.item
unfolding AreBack
late_home leaf homes answers a h among late = h a among late

-- ---- the filer is taken back
pub homed_back : (s : Store) (knows knows' : ℕ → ℕ → ℕ → Type 0) (guest : ℕ → ℕ → Bool) (homes : List ℕ) (birth : ℕ) → AreHomed s knows guest homes
    → Keeps knows knows'
    → AreHomed (one_less s birth) knows' guest homes
homed_back s knows knows' guest homes birth h keeps =
    record {
      known = λ l x o low e. still_known knows knows' l x keeps
          (h.known l x o low e);
      once = h.once;
      counted = h.counted;
      guests = h.guests;
      room = h.room;
    }

pub settled_back : (s : Store) (leaf : ℕ → ℕ) (covers : ℕ → ℕ → Bool) (homes left : List ℕ) (birth : ℕ) → AreSettled s leaf covers homes left
    → AreSettled (one_less s birth) leaf covers homes left
unfolding AreSettled
settled_back s leaf covers homes left birth h = h

-- what was found is at home
pub found_home : (s : Store) (leaf : ℕ → ℕ) (covers : ℕ → ℕ → Bool) (homes : List ℕ) (l x : ℕ) → AreSettled s leaf covers homes [] → IsShut s l
    → Contains (found_in (row s l)) x → IsTrue (covers l x)
    → get_or homes x 0 ≡ leaf x
unfolding AreSettled
found_home s leaf covers homes l x settled shut among can = elim (settled l x shut among can) [
  | inl home ↦ home
  | inr other ↦ absurd (no_one other.0 other.1)
]

-- a swept list's items stay at home while items come
pub settled_placed : (s t : Store) (leaf : ℕ → ℕ) (covers : ℕ → ℕ → Bool) (before now : List ℕ) → OnlyPlaced s t → OnlyHome leaf before now
    → AreSettled s leaf covers before [] → AreSettled t leaf covers now []
unfolding AreSettled
settled_placed s t leaf covers before now p only old l x there among can =
    let shut : IsShut s l = sym (ap (λ (r : Row). r.phase) (p.rows l)) ∙ there in
    let row_is : row t l ≡ row s l = p.others l (λ o. not_both (sym shut ∙ o)) in
    elim (old l x shut (subst (λ (r : Row). Contains (found_in r) x) row_is among) can) [
      | inl home ↦ inl (home_stays leaf before now x only home)
      | inr other ↦ absurd (no_one other.0 other.1)
    ]

pub filed_or_late : {P : Type 0} (f : Filed) → ((chunk slot : ℕ) → f ≡ At chunk slot → P) → (IsTrue (is_late f) → P) → P
filed_or_late (At chunk slot) h k = h chunk slot refl
filed_or_late (Late seen) h k = k refl

-- ---- what is known stands in the chains
pub in_chains : (s : Store) (knows : ℕ → ℕ → ℕ → Type 0) (shown : ℕ → ℕ → ℕ → Option ℕ → Type 0) (l x : ℕ)
    → ((c : ℕ) → knows l c x → (k : ℕ) × shown l c k (Some x))
    → ((c k : ℕ) → shown l c k (Some x) → Contains (chunks_of (row s l)) c) → IsKnownIn knows l x → StandsIn s knows l x
in_chains s knows shown l x slot chunk known =
    let there = slot known.0 known.1 in
    (known.0, chunk known.0 there.0 there.1, known.1)
