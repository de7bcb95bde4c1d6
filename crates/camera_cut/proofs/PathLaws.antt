-- Which paths begin others.
use Rattle.std.proofs.Common.{◌≡◌, ℕ, ◌+◌, ◌<◌, ◌≤◌, Bool, true, false, ◌&&◌, ◌||◌, nat_le, nat_lt, nat_eq, List, [], ◌∷◌, ◌++◌, length, arith, refl, ◌∙◌, sym}
use Rattle.std.proofs.lemmas.Bool.{and_parts, eqb-true, eq-eqb, ne_eqb, leb-true, le-leb, lt-ltb}
use Rattle.picture_model.specs.Cuts.{begins, is_above, is_before}

-- whether a path goes on from another one by an octant of at least g
abbrev pub beyond : List ℕ → ℕ → List ℕ → Bool
beyond [] g [] = false
beyond [] g (h ∷ path) = nat_le g h
beyond (a ∷ upper) g [] = false
beyond (a ∷ upper) g (b ∷ path) = nat_eq a b && beyond upper g path

pub begins_self : (p : List ℕ) → begins p p ≡ true
begins_self [] = refl
begins_self (g ∷ p) = rw (eq-eqb g g refl, begins_self p) refl

pub begins-beyond : (p : List ℕ) (g : ℕ) (n : List ℕ) → begins (p ++ g ∷ []) n ≡ true → beyond p g n ≡ true
begins-beyond [] g [] h = cc
begins-beyond [] g (k ∷ n) h =
    let same : g ≡ k = eqb-true g k (and_parts (nat_eq g k) true h).0 in
    le-leb g k (omega arith)
begins-beyond (a ∷ p) g [] h = cc
begins-beyond (a ∷ p) g (b ∷ n) h =
    let both : (nat_eq a b ≡ true) × (begins (p ++ g ∷ []) n ≡ true) = and_parts (nat_eq a b) (begins (p ++ g ∷ []) n) h in
    rw (both.0, begins-beyond p g n both.1) refl

pub beyond-less : (p : List ℕ) (g : ℕ) (n : List ℕ) → beyond p (g + 1) n ≡ true → beyond p g n ≡ true
beyond-less [] g [] h = cc
beyond-less [] g (k ∷ n) h = let more : g + 1 ≤ k = leb-true (g + 1) k h in le-leb g k (omega arith)
beyond-less (a ∷ p) g [] h = cc
beyond-less (a ∷ p) g (b ∷ n) h =
    let both : (nat_eq a b ≡ true) × (beyond p (g + 1) n ≡ true) = and_parts (nat_eq a b) (beyond p (g + 1) n) h in
    rw (both.0, beyond-less p g n both.1) refl

pub beyond-begins : (p : List ℕ) (g : ℕ) (n : List ℕ) → beyond p g n ≡ true → begins p n ≡ true
beyond-begins [] g n h = refl
beyond-begins (a ∷ p) g [] h = cc
beyond-begins (a ∷ p) g (b ∷ n) h =
    let both : (nat_eq a b ≡ true) × (beyond p g n ≡ true) = and_parts (nat_eq a b) (beyond p g n) h in
    rw (both.0, beyond-begins p g n both.1) refl

pub beyond_longer : (p : List ℕ) (g : ℕ) (n : List ℕ) → beyond p g n ≡ true → length p < length n
beyond_longer [] g [] h = cc
beyond_longer [] g (k ∷ n) h = omega arith
beyond_longer (a ∷ p) g [] h = cc
beyond_longer (a ∷ p) g (b ∷ n) h =
    let both : (nat_eq a b ≡ true) × (beyond p g n ≡ true) = and_parts (nat_eq a b) (beyond p g n) h in
    omega (arith, beyond_longer p g n both.1)

-- a path beyond another one does not begin it
pub beyond_no_begin : (p : List ℕ) (g : ℕ) (n : List ℕ) → beyond p g n ≡ true → begins n p ≡ false
beyond_no_begin [] g [] h = cc
beyond_no_begin [] g (k ∷ n) h = refl
beyond_no_begin (a ∷ p) g [] h = cc
beyond_no_begin (a ∷ p) g (b ∷ n) h =
    let both : (nat_eq a b ≡ true) × (beyond p g n ≡ true) = and_parts (nat_eq a b) (beyond p g n) h in
    rw (eq-eqb b a (sym (eqb-true a b both.0)), beyond_no_begin p g n both.1) refl

-- a path in one octant and a path in a later one do not begin one another
pub apart : (p : List ℕ) (g : ℕ) (m n : List ℕ) → begins (p ++ g ∷ []) m ≡ true → beyond p (g + 1) n ≡ true → begins m n ≡ false
apart [] g [] n h k = cc
apart [] g (a ∷ m) [] h k = cc
apart [] g (a ∷ m) (b ∷ n) h k =
    let same : g ≡ a = eqb-true g a (and_parts (nat_eq g a) true h).0 in
    let more : g + 1 ≤ b = leb-true (g + 1) b k in
    rw (ne_eqb a b (λ e. omega arith)) refl
apart (a ∷ p) g [] n h k = cc
apart (a ∷ p) g (b ∷ m) [] h k = cc
apart (a ∷ p) g (b ∷ m) (d ∷ n) h k =
    let left : (nat_eq a b ≡ true) × (begins (p ++ g ∷ []) m ≡ true) = and_parts (nat_eq a b) (begins (p ++ g ∷ []) m) h in
    let right : (nat_eq a d ≡ true) × (beyond p (g + 1) n ≡ true) = and_parts (nat_eq a d) (beyond p (g + 1) n) k in
    rw (eq-eqb b d (sym (eqb-true a b left.0) ∙ eqb-true a d right.0), apart p g m n left.1 right.1) refl

pub apart_back : (p : List ℕ) (g : ℕ) (m n : List ℕ) → begins (p ++ g ∷ []) m ≡ true → beyond p (g + 1) n ≡ true → begins n m ≡ false
apart_back [] g [] n h k = cc
apart_back [] g (a ∷ m) [] h k = cc
apart_back [] g (a ∷ m) (b ∷ n) h k =
    let same : g ≡ a = eqb-true g a (and_parts (nat_eq g a) true h).0 in
    let more : g + 1 ≤ b = leb-true (g + 1) b k in
    rw (ne_eqb b a (λ e. omega arith)) refl
apart_back (a ∷ p) g [] n h k = cc
apart_back (a ∷ p) g (b ∷ m) [] h k = cc
apart_back (a ∷ p) g (b ∷ m) (d ∷ n) h k =
    let left : (nat_eq a b ≡ true) × (begins (p ++ g ∷ []) m ≡ true) = and_parts (nat_eq a b) (begins (p ++ g ∷ []) m) h in
    let right : (nat_eq a d ≡ true) × (beyond p (g + 1) n ≡ true) = and_parts (nat_eq a d) (beyond p (g + 1) n) k in
    rw (eq-eqb d b (sym (eqb-true a d right.0) ∙ eqb-true a b left.0), apart_back p g m n left.1 right.1) refl

-- a path that does not begin another one is not above it
pub not_above : (m n : List ℕ) → begins m n ≡ false → is_above m n ≡ false
not_above m n h = rw h refl

-- no path is above one that begins it
pub not_above_root : (p m : List ℕ) → begins p m ≡ true → is_above m p ≡ false
not_above_root p m h =
    let P : Bool → Type 0 = λ b. b && false ≡ false in
    rw h (elim (begins m p) as P [ true ↦ refl | false ↦ refl ])

pub above_beyond : (p : List ℕ) (g : ℕ) (n : List ℕ) → beyond p g n ≡ true → is_above p n ≡ true
above_beyond p g n h = rw (beyond-begins p g n h, beyond_no_begin p g n h) refl

or_true : (b : Bool) → (b || true) ≡ true
or_true true = refl
or_true false = refl

-- a path stands before the paths beyond it
pub beyond_before : (p : List ℕ) (g : ℕ) (n : List ℕ) → beyond p g n ≡ true → is_before p n ≡ true
beyond_before [] g [] h = cc
beyond_before [] g (k ∷ n) h = refl
beyond_before (a ∷ p) g [] h = cc
beyond_before (a ∷ p) g (b ∷ n) h =
    let both : (nat_eq a b ≡ true) × (beyond p g n ≡ true) = and_parts (nat_eq a b) (beyond p g n) h in
    rw (both.0, beyond_before p g n both.1) (or_true (nat_lt a b))

-- and the paths in an octant before those in later ones
pub octant_before : (p : List ℕ) (g : ℕ) (m n : List ℕ) → begins (p ++ g ∷ []) m ≡ true → beyond p (g + 1) n ≡ true → is_before m n ≡ true
octant_before [] g [] n h k = cc
octant_before [] g (a ∷ m) [] h k = cc
octant_before [] g (a ∷ m) (b ∷ n) h k =
    let same : g ≡ a = eqb-true g a (and_parts (nat_eq g a) true h).0 in
    let more : g + 1 ≤ b = leb-true (g + 1) b k in
    rw (lt-ltb a b (omega arith)) refl
octant_before (a ∷ p) g [] n h k = cc
octant_before (a ∷ p) g (b ∷ m) [] h k = cc
octant_before (a ∷ p) g (b ∷ m) (d ∷ n) h k =
    let left : (nat_eq a b ≡ true) × (begins (p ++ g ∷ []) m ≡ true) = and_parts (nat_eq a b) (begins (p ++ g ∷ []) m) h in
    let right : (nat_eq a d ≡ true) × (beyond p (g + 1) n ≡ true) = and_parts (nat_eq a d) (beyond p (g + 1) n) k in
    rw (eq-eqb b d (sym (eqb-true a b left.0) ∙ eqb-true a d right.0), octant_before p g m n left.1 right.1) (or_true (nat_lt b d))
