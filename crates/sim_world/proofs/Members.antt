-- Members of lists, read by place.
use Rattle.std.proofs.Common.{◌≡◌, ℕ, zero, suc, ◌+◌, ◌<◌, Bool, true, false, cond, List, [], ◌∷◌, ◌++◌, map, length, refl, sym, ap, ap₂, ◌∙◌, subst, arith}
use Rattle.std.specs.Prelude.{Some, filter, flat_map, ◌||◌, ◌==◌}
use Rattle.std.proofs.lemmas.Option.{none-some, same_Some}
use Rattle.std.proofs.lemmas.Bool.Decides.{nat_tests}
use mathlib.Core.Logic.{dite}
use native.Mathlib.Decide.{dec_le}
use Rattle.octree_model.specs.Numbers.{has, up_to}
use Rattle.octree_model.proofs.NumberLaws.{length-up_to}
use Rattle.list_machine.specs.Facts.{IsAt}
use Rattle.std.specs.List.{Contains}
use Rattle.list_machine.proofs.Lists.{at_left, at_right, at_more, at_below, some_at, or_is}
use Rattle.sim_world.specs.Stores.{IsIn}

pub has_here : (x : ℕ) (xs : List ℕ) → has x (x ∷ xs) ≡ true
has_here x xs = grind arith

pub has_left : (x : ℕ) (xs ys : List ℕ) → has x xs ≡ true → has x (xs ++ ys) ≡ true
has_left x [] ys p = absurd (cc)
has_left x (y ∷ xs) ys p = by (x == y) p (has_left x xs ys) where
  by : (b : Bool) → (b || has x xs) ≡ true → (has x xs ≡ true → has x (xs ++ ys) ≡ true) → (b || has x (xs ++ ys)) ≡ true
  by true p more = refl
  by false p more = more p

pub has_right : (x : ℕ) (xs ys : List ℕ) → has x ys ≡ true → has x (xs ++ ys) ≡ true
has_right x [] ys p = p
has_right x (y ∷ xs) ys p = by (x == y) (has_right x xs ys p) where
  by : (b : Bool) → has x (xs ++ ys) ≡ true → (b || has x (xs ++ ys)) ≡ true
  by true p = refl
  by false p = p

pub in_left : {X : Type 0} (xs ys : List X) (x : X) → IsIn xs x → IsIn (xs ++ ys) x
in_left xs ys x p = (p.0, at_left xs ys p.0 x p.1)

pub in_map : {X Y : Type 0} (f : X → Y) (xs : List X) (x : X) → IsIn xs x → IsIn (map f xs) (f x)
in_map f xs x p = by xs p.0 p.1 where
  by : (ys : List _) (k : ℕ) → IsAt ys k x → IsIn (map f ys) (f x)
  by [] k at = absurd (none-some x at)
  by (y ∷ ys) zero at = (zero, ap (λ z. Some (f z)) (same_Some y x at))
  by (y ∷ ys) (suc k) at = let r = by ys k at in (suc r.0, r.1)

pub in_map_back : {X Y : Type 0} (f : X → Y) (xs : List X) (y : Y) → IsIn (map f xs) y → (x : X) × IsIn xs x × (f x ≡ y)
in_map_back f xs y p = by xs p.0 p.1 where
  by : (zs : List _) (k : ℕ) → IsAt (map f zs) k y → (x : _) × IsIn zs x × (f x ≡ y)
  by [] k at = absurd (none-some y at)
  by (z ∷ zs) zero at = (z, (zero, refl), same_Some (f z) y at)
  by (z ∷ zs) (suc k) at = let r = by zs k at in (r.0, (suc r.1.0, r.1.1), r.2)

pub in_right : {X : Type 0} (xs ys : List X) (y : X) → IsIn ys y → IsIn (xs ++ ys) y
in_right xs ys y p = (length xs + p.0, at_right xs ys p.0 y p.1)

pub in_flat_map : {X Y : Type 0} (f : X → List Y) (xs : List X) (x : X) (y : Y) → IsIn xs x → IsIn (f x) y → IsIn (flat_map f xs) y
in_flat_map f xs x y p q = by xs p.0 p.1 where
  by : (zs : List _) (k : ℕ) → IsAt zs k x → IsIn (flat_map f zs) y
  by [] k at = absurd (none-some x at)
  by (z ∷ zs) zero at = in_left (f z) (flat_map f zs) y (subst (λ (w : _). IsIn (f w) y) (sym (same_Some z x at)) q)
  by (z ∷ zs) (suc k) at = in_right (f z) (flat_map f zs) y (by zs k at)

pub in_filter : {X : Type 0} (test : X → Bool) (xs : List X) (x : X) → IsIn xs x → test x ≡ true → IsIn (filter test xs) x
in_filter test xs x p passes = by xs p.0 p.1 where
  kept : (z : _) (zs : List _) (b : Bool) → IsIn (filter test zs) x → IsIn (cond b (z ∷ filter test zs) (filter test zs)) x
  kept z zs true r = (suc r.0, r.1)
  kept z zs false r = r

  by : (zs : List _) (k : ℕ) → IsAt zs k x → IsIn (filter test zs) x
  by [] k at = absurd (none-some x at)
  by (z ∷ zs) zero at =
      let is : test z ≡ true = ap test (same_Some z x at) ∙ passes in
      rw is (zero, at)
  by (z ∷ zs) (suc k) at = kept z zs (test z) (by zs k at)

pub in_up_to : (n k : ℕ) → k < n → IsIn (up_to n) k
in_up_to zero k lt = absurd (omega arith)
in_up_to (suc n) k lt = dite (dec_le n k)
    (λ le. let e : n ≡ k = omega arith in subst (λ (m : ℕ). IsIn (up_to (suc n)) m) e (in_right (up_to n) (n ∷ []) n (zero, refl)))
    (λ ne. in_left (up_to n) (n ∷ []) k (in_up_to n k (omega arith)))

pub flat_map_same : {X Y : Type 0} (f g : X → List Y) (xs : List X) → ((x : X) → IsIn xs x → f x ≡ g x) → flat_map f xs ≡ flat_map g xs
flat_map_same f g [] same = refl
flat_map_same f g (x ∷ xs) same = ap₂ (λ (us vs : List _). us ++ vs) (same x (zero, refl)) (flat_map_same f g xs (λ y p. same y (suc p.0, p.1)))

pub in_map_at : {X Y : Type 0} (f : X → Y) (xs : List X) (k : ℕ) (y : Y) → IsAt (map f xs) k y → (x : X) × IsAt xs k x × (f x ≡ y)
in_map_at f [] k y p = absurd (none-some y p)
in_map_at f (x ∷ xs) zero y p = (x, refl, same_Some (f x) y p)
in_map_at f (x ∷ xs) (suc k) y p = in_map_at f xs k y p

pub in_from_has : (x : ℕ) (xs : List ℕ) → has x xs ≡ true → IsIn xs x
in_from_has x [] e = absurd (cc)
in_from_has x (y ∷ ys) e = by (x == y) refl e (in_from_has x ys) where
  by : (b : Bool) → (x == y) ≡ b → (b || has x ys) ≡ true → (has x ys ≡ true → IsIn ys x) → IsIn (y ∷ ys) x
  by true is e more = let same : y ≡ x = grind (arith, nat_tests) in (zero, ap Some same)
  by false is e more = let r = more e in (suc r.0, r.1)

-- the same, in std's word
pub contains_from_in : {X : Type 0} (xs : List X) (x : X) → IsIn xs x → Contains xs x
contains_from_in xs x p = (p.0, at_below xs p.0 x p.1, or_is xs p.0 x x p.1)

pub in_from_contains : {X : Type 0} (xs : List X) (x : X) → Contains xs x → IsIn xs x
in_from_contains xs x p =
    let t = some_at xs p.0 p.1 in
    (p.0, subst (λ (y : _). IsAt xs p.0 y) (sym (or_is xs p.0 t.0 x t.1) ∙ p.2) t.1)

pub at_up_to : (n i k : ℕ) → IsAt (up_to n) i k → (i < n) × (k ≡ i)
at_up_to zero i k p = absurd (none-some k p)
at_up_to (suc n) i k p = at_more (up_to n) n i k _ p (λ q. let t = at_up_to n i k q in (omega arith, t.1))
    (λ e is. let long : length (up_to n) ≡ n = length-up_to n in let last : n ≡ k = is in (omega arith, omega arith))

pub has_from_in : (x : ℕ) (xs : List ℕ) → IsIn xs x → has x xs ≡ true
has_from_in x [] p = absurd (none-some x p.1)
has_from_in x (y ∷ ys) (zero, p) =
    let e : x ≡ y = sym (same_Some y x p) in
    let is : (x == y) ≡ true = grind (arith, nat_tests) in
    ap (λ b. b || has x ys) is
has_from_in x (y ∷ ys) (suc k, p) = or_right (x == y) (has x ys) (has_from_in x ys (k, p)) where
  or_right : (a b : Bool) → b ≡ true → (a || b) ≡ true
  or_right true b e = refl
  or_right false b e = e
