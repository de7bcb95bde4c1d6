-- Items that come home one after the other.
use Rattle.std.proofs.Common.{◌≡◌, ℕ, ◌+◌, ◌<◌, ◌≤◌, inl, inr, Bool, true, false, cond, List, [], ◌∷◌, ◌++◌, length, get_or, set, take, Contains, IsTrue, refl, ap, sym, ◌∙◌, subst, arith, Option, Some, None}
use Rattle.std.proofs.lemmas.Bool.{cases_eq}
use Rattle.std.proofs.lemmas.List.{get_or-set_same, get_or-set_other, take_more, take_all}
use Rattle.std.proofs.Math.ListN.{length-set}
use Rattle.std.proofs.lemmas.List.Elements.{Contains-append_cases}
use Rattle.std.proofs.lemmas.Grind.{common_steps}
use Rattle.list_words.specs.Store.{Store}
use Rattle.item_moves.specs.Homes.{IsAlone, OnlyPlaced, OnlyHome}
use Rattle.item_moves.proofs.HomeLaws.{open_was}

-- ---- homes of many items
pub alone_still : (s t : Store) (leaf : ℕ → ℕ) (before now : List ℕ) (x : ℕ) → OnlyPlaced s t → OnlyHome leaf before now → IsAlone s before x (leaf x)
    → IsAlone t now x (leaf x)
alone_still s t leaf before now x p h alone l o e = elim (h.each x) [
  | inl same ↦ alone l (open_was s t l p o) (sym same ∙ e)
  | inr home ↦ sym e ∙ home
]

pub home_none : (leaf : ℕ → ℕ) (homes : List ℕ) → OnlyHome leaf homes homes
home_none leaf homes = record { many = refl; each = λ x. inl refl }

pub home_more : (leaf : ℕ → ℕ) (before now new : List ℕ) (x : ℕ) → OnlyHome leaf before now → x < length before → new ≡ set now x (leaf x)
    → OnlyHome leaf before new
home_more leaf before now new x h low e = record {
  many = ap length e ∙ length-set now x (leaf x) ∙ h.many;
  each = λ y. elim (cases_eq y x) [
    | inl same ↦
        inr (ap (λ hs. get_or hs y 0) e ∙ ap (λ k. get_or (set now x (leaf x)) k 0) same ∙ get_or-set_same now x (leaf x) 0 (omega (arith, h.many))
        ∙ ap leaf (sym same))
    | inr other ↦
        let is : get_or new y 0 ≡ get_or now y 0 = ap (λ hs. get_or hs y 0) e ∙ get_or-set_other now x y (leaf x) 0 other in
        elim (h.each y) [ inl old ↦ inl (is ∙ old) | inr home ↦ inr (is ∙ home) ]
  ];
}

-- once at home, an item stays there
pub home_stays : (leaf : ℕ → ℕ) (now new : List ℕ) (x : ℕ) → OnlyHome leaf now new → get_or now x 0 ≡ leaf x → get_or new x 0 ≡ leaf x
home_stays leaf now new x h e = elim (h.each x) [ inl same ↦ same ∙ e | inr home ↦ home ]

pub home_twice : (leaf : ℕ → ℕ) (before now new : List ℕ) → OnlyHome leaf before now → OnlyHome leaf now new → OnlyHome leaf before new
home_twice leaf before now new h k = record {
  many = k.many ∙ h.many;
  each = λ x. elim (k.each x) [
    | inl same ↦ elim (h.each x) [ inl old ↦ inl (same ∙ old) | inr home ↦ inr (same ∙ home) ]
    | inr home ↦ inr home
  ];
}

-- all items that were found so far and belong there are at home
unfoldable pub AreFound : (ℕ → ℕ) → (ℕ → Bool) → List ℕ → List ℕ → Type 0
AreFound leaf covers homes found = (x : ℕ) → Contains found x → IsTrue (covers x) → get_or homes x 0 ≡ leaf x

only_one : (z y : ℕ) → Contains (z ∷ []) y → y ≡ z
only_one z y c = grind (arith, common_steps)

never : false ≡ true → ⊥
never e = cc

pub found_more : (leaf : ℕ → ℕ) (covers : ℕ → Bool) (before now new found : List ℕ) (i : ℕ) → AreFound leaf covers now (take i found)
    → OnlyHome leaf before now → i < length found
    → get_or found i 0 < length before → new ≡ set now (get_or found i 0) (leaf (get_or found i 0)) → AreFound leaf covers new (take (i + 1) found)
unfolding AreFound
found_more leaf covers before now new found i h only low within e y among can =
    let x : ℕ = get_or found i 0 in
    let there : Contains (take i found ++ x ∷ []) y = subst (λ l. Contains l y) (take_more found i 0 low) among in
    let home : get_or new x 0 ≡ leaf x = ap (λ hs. get_or hs x 0) e ∙ get_or-set_same now x (leaf x) 0 (omega (arith, only.many)) in
    elim (cases_eq y x) [
      | inl same ↦ ap (λ k. get_or new k 0) same ∙ home ∙ ap leaf (sym same)
      | inr other ↦ elim (Contains-append_cases (take i found) (x ∷ []) y there) [
        | inl earlier ↦ ap (λ hs. get_or hs y 0) e ∙ get_or-set_other now x y (leaf x) 0 other ∙ h y earlier can
        | inr last ↦ absurd (other (only_one x y last))
      ]
    ]

pub found_same : (leaf : ℕ → ℕ) (covers : ℕ → Bool) (now found : List ℕ) (i : ℕ) → AreFound leaf covers now (take i found) → i < length found
    → covers (get_or found i 0) ≡ false
    → AreFound leaf covers now (take (i + 1) found)
unfolding AreFound
found_same leaf covers now found i h low not_here y among can =
    let x : ℕ = get_or found i 0 in
    let there : Contains (take i found ++ x ∷ []) y = subst (λ l. Contains l y) (take_more found i 0 low) among in
    elim (Contains-append_cases (take i found) (x ∷ []) y there) [
      | inl earlier ↦ h y earlier can
      | inr last ↦ absurd (never (sym not_here ∙ ap covers (sym (only_one x y last)) ∙ can))
    ]

pub none_found : (leaf : ℕ → ℕ) (covers : ℕ → Bool) (homes : List ℕ) → AreFound leaf covers homes []
unfolding AreFound
none_found leaf covers homes x among can = grind (arith, common_steps)

pub all_found : (leaf : ℕ → ℕ) (covers : ℕ → Bool) (homes found : List ℕ) (i : ℕ) → AreFound leaf covers homes (take i found) → length found ≤ i
    → (x : ℕ) → Contains found x → IsTrue (covers x) → get_or homes x 0 ≡ leaf x
unfolding AreFound
all_found leaf covers homes found i h past x among can = h x (subst (λ l. Contains l x) (sym (take_all i found past)) among) can

-- ---- what the aim of an item says
pub aimed : (b : Bool) (y x : ℕ) (r : Option ℕ) → r ≡ cond b (Some y) None → r ≡ Some x → (b ≡ true) × (x ≡ y)
aimed true y x r e f = (refl, cc)
aimed false y x r e f = absurd (nothing (sym e ∙ f))
  where
    nothing : None ≡ Some x → ⊥
    nothing h = cc

pub not_aimed : (b : Bool) (y : ℕ) (r : Option ℕ) → r ≡ cond b (Some y) None → r ≡ None → b ≡ false
not_aimed false y r e f = refl
not_aimed true y r e f = absurd (something (sym e ∙ f))
  where
    something : Some y ≡ None → ⊥
    something h = cc
