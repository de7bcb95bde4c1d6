-- The rule of a canvas that threads share: each word is the least key that any seat drew there.
use Rattle.std.specs.Prelude.{◌≡◌, ℕ, ◌+◌, ◌-◌, ◌*◌, ◌/◌, ◌^◌, ◌<◌, ◌≤◌, List, [], ◌∷◌, ◌++◌, length, map, min, replicate, slice_index, slice_index_or, slice_set}
use mathlib.Core.Option.{some}
use lib.ListN.{get_elem?}
use Rattle.atomic_table.specs.Table.{State, Me, Step}
use Rattle.atomic_table.specs.Seated.{TableId}
use Rattle.octree_model.specs.Numbers.{up_to}
use Rattle.picture_model.specs.Cameras.{CameraValue}
use Rattle.picture_model.specs.Items.{ItemValue}
use Rattle.splat_ppm.specs.Canvases.{no_key, drawn_keys}
use Rattle.frame_words.specs.declared.rule.Hand.{Hand}

-- a seat with its view
abbrev pub Sat : Type 0
Sat = Me (Unit {0}) Hand

-- a view with these fields
abbrev pub hand : ℕ → List ℕ → Hand
hand shares keys = record { shares = shares; keys = keys }

-- the key of a seat at a pixel
abbrev pub key_of : Hand → ℕ → ℕ
key_of v k = slice_index_or v.keys k no_key

-- the least key of any seat at a pixel
abbrev pub lowest : List Hand → ℕ → ℕ
lowest [] k = no_key
lowest (v ∷ vs) k = min (key_of v k) (lowest vs k)

-- the shares of all seats
abbrev pub all_shares : List Hand → ℕ
all_shares [] = 0
all_shares (v ∷ vs) = v.shares + all_shares vs

-- a seat without shares has drawn nothing
pub record IsHand (v : Hand) : Type 0 where
  pub idle : v.shares ≡ 0 → (k : ℕ) → key_of v k ≡ no_key
  pub small : (k : ℕ) → key_of v k ≤ no_key

-- the rule: 16 shares in all, and each of so many words is the least key of any seat
pub record IsKept (pixels : ℕ) (s : State (Unit {0}) Hand) : Type 0 where
  pub long : length s.words ≡ pixels
  pub shares : all_shares s.views ≡ 16
  pub seats : (j : ℕ) (v : Hand) → get_elem? s.views j ≡ some v → IsHand v
  pub least : (k : ℕ) → k < pixels → slice_index s.words k ≡ lowest s.views k

-- of the first seat
abbrev pub first_hand : ℕ → Hand
first_hand pixels = hand 16 (replicate pixels no_key)

-- a key was drawn at a pixel
abbrev pub lowered : Hand → ℕ → ℕ → Hand
lowered v k key = hand v.shares (slice_set v.keys k (min (slice_index_or v.keys k 0) key))

-- a pixel was wiped
abbrev pub wiped : Hand → ℕ → Hand
wiped v k = hand v.shares (slice_set v.keys k no_key)

-- what is left of a seat that gave half its shares away
abbrev pub giver : Hand → Hand
giver v = hand (v.shares - v.shares / 2) v.keys

-- the seat that was given them
abbrev pub taker : Hand → Hand
taker v = hand (v.shares / 2) (replicate (length v.keys) no_key)

-- the lesser of two keys at each pixel
abbrev pub lesser_keys : List ℕ → List ℕ → List ℕ
lesser_keys xs ys = map (λ k. min (slice_index_or xs k no_key) (slice_index_or ys k no_key)) (up_to (length xs))

-- a seat that took in another
abbrev pub united : Hand → Hand → Hand
united v w = hand (v.shares + w.shares) (lesser_keys v.keys w.keys)

-- a seat that was taken in
abbrev pub spent : Hand
spent = hand 0 []

-- a key was drawn
abbrev pub Drew : Step (Unit {0}) → Sat → ℕ → Sat → Type 0
Drew st m found n = n ≡ (lowered m.0 st.word st.first, m.1)

-- A key counts as drawn where the word was no greater. Where it was, nothing was done
abbrev pub Looked : ℕ → Step (Unit {0}) → Sat → ℕ → Sat → Type 0
Looked key st m found n = (found ≤ key → n ≡ (lowered m.0 st.word key, m.1)) × (key < found → n ≡ m)

-- a seat with all shares finds its own key
abbrev pub Read : Step (Unit {0}) → Sat → ℕ → Sat → Type 0
Read st m found n = (n ≡ m) × (m.0.shares ≡ 16 → found ≡ key_of m.0 st.word)

-- a pixel was wiped
abbrev pub Wiped : Step (Unit {0}) → Sat → ℕ → Sat → Type 0
Wiped st m found n = n ≡ (wiped m.0 st.word, m.1)

-- a seat with so many shares and a key for each of so many pixels
pub record IsBrush (pixels shares : ℕ) (m : Sat) : Type 0 where
  pub long : length m.0.keys ≡ pixels
  pub shares_are : m.0.shares ≡ shares
  pub bare : m.1 ≡ []

-- a canvas for a camera has a word for each pixel
pub record IsFor (camera : CameraValue) (pixels words : ℕ) : Type 0 where
  pub sized : pixels ≡ words
  pub some : 0 < pixels
  pub pixels_are : pixels ≡ camera.width * camera.height
  pub small : pixels < 2 ^ 32

-- no key is greater than that of a pixel at which nothing was drawn
abbrev pub AreCapped : List ℕ → Type 0
AreCapped keys = (k : ℕ) → slice_index_or keys k no_key ≤ no_key

-- these items were drawn: keys of any items before became keys of those and these
abbrev pub Adds : CameraValue → List ItemValue → List ℕ → List ℕ → Type 0
Adds camera items old new = (before : List ItemValue) → old ≡ drawn_keys camera before → new ≡ drawn_keys camera (before ++ items)

-- a seat with so many shares is at the table of a canvas for this camera
pub record IsPainter (camera : CameraValue) (pixels shares : ℕ) (table own : TableId) (m : Sat) : Type 0 where
  pub canvas : IsFor camera pixels table.words
  pub table_is : own ≡ table
  pub brush : IsBrush pixels shares m
  pub capped : AreCapped m.0.keys

-- a seat has drawn these items, and stays at its table with its shares
pub record HasDrawn (camera : CameraValue) (pixels : ℕ) (items : List ItemValue) (before : TableId) (m : Sat) (after : TableId) (n : Sat) : Type 0 where
  pub table_is : after ≡ before
  pub brush : IsBrush pixels m.0.shares n
  pub capped : AreCapped n.0.keys
  pub drawn : Adds camera items m.0.keys n.0.keys

-- a seat with all shares is at the table
pub record IsWhole (pixels : ℕ) (table own : TableId) (m : Sat) : Type 0 where
  pub sized : pixels ≡ table.words
  pub table_is : own ≡ table
  pub brush : IsBrush pixels 16 m
