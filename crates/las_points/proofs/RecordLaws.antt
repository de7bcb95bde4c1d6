-- The records of the points, one after the other.
use Rattle.std.proofs.Common.{◌≡◌, ◌≤◌, ◌<◌, ℕ, suc, ◌+◌, ◌*◌, ◌/◌, ◌%◌, List, [], ◌∷◌, ◌++◌, slice_index, Option, Some, None, refl, arith, ap, sym, ◌∙◌}
use Rattle.std.proofs.lemmas.List.FromFn.{map-range_with_len_more}
use Rattle.std.proofs.Math.Nat.{mul-le-mul_right}
use Rattle.cube_math.specs.Points.{PointValue}
use Rattle.las_points.specs.Fields.{u16_at, i32_at, points_start, record_length}
use Rattle.las_points.specs.Formats.{colour_end}
use Rattle.las_points.specs.Reading.{colour_number, first_points, point_at, record_colour, record_point}
use Rattle.las_points.specs.Records.{colour_place}
use Rattle.las_points.specs.Tables.{rgb_words}
use Rattle.las_points.specs.declared.reader.RgbByte.{RgbByte}
use Rattle.las_points.specs.declared.reader.RgbByte.TheVariants.{High, Low}

-- a record before the last one ends within the bytes that all of them take
pub record_held : (start length i n held : ℕ) → i < n → start + n * length ≤ held → start + i * length + length ≤ held
record_held start length i n held below whole =
    let more : (i + 1) * length ≤ n * length = mul-le-mul_right length (omega arith) in
    let expand : (i + 1) * length ≡ i * length + length = omega arith in
    omega arith

-- every item of a list is a byte
abbrev pub AreBytes : List ℕ → Type 0
AreBytes bytes = (k : ℕ) → slice_index bytes k < 256

-- the high byte of a word
word_high : (bytes : List ℕ) (p q : ℕ) → AreBytes bytes → q ≡ suc p → u16_at bytes p / 256 ≡ slice_index bytes q
word_high bytes p q range at =
    let low = range p in
    let word : u16_at bytes p ≡ slice_index bytes p + 256 * slice_index bytes q = rw at (omega arith) in
    rw word (omega arith)

-- the low byte of a word
word_low : (bytes : List ℕ) (p q : ℕ) → AreBytes bytes → q ≡ p → u16_at bytes p % 256 ≡ slice_index bytes q
word_low bytes p q range at =
    let low = range p in
    let word : u16_at bytes p ≡ slice_index bytes p + 256 * slice_index bytes (suc p) = omega arith in
    rw (word, at) (omega arith)

-- the colour of a record is that of three of its bytes
pub record_colour-places : (rgb : RgbByte) (words : Option ℕ) (bytes : List ℕ) (place : ℕ) → AreBytes bytes
    → record_colour rgb words bytes place
    ≡ colour_number (slice_index bytes (place + colour_place rgb words 0)) (slice_index bytes (place + colour_place rgb words 1)) (slice_index bytes (place + colour_place rgb words 2))
record_colour-places High (Some words) bytes place range =
    let red = word_high bytes (place + words) (place + colour_place High (Some words) 0) range (omega arith) in
    let green = word_high bytes (place + words + 2) (place + colour_place High (Some words) 1) range (omega arith) in
    let blue = word_high bytes (place + words + 4) (place + colour_place High (Some words) 2) range (omega arith) in
    rw (red, green, blue) refl
record_colour-places Low (Some words) bytes place range =
    let red = word_low bytes (place + words) (place + colour_place Low (Some words) 0) range (omega arith) in
    let green = word_low bytes (place + words + 2) (place + colour_place Low (Some words) 1) range (omega arith) in
    let blue = word_low bytes (place + words + 4) (place + colour_place Low (Some words) 2) range (omega arith) in
    rw (red, green, blue) refl
record_colour-places rgb None bytes place range =
    let grey = word_high bytes (place + 12) (place + 13) range (omega arith) in
    rw grey refl

-- the bytes of a colour stand before its end
pub colour_place-below : (rgb : RgbByte) (words : Option ℕ) (colour : ℕ) → colour ≤ 2 → colour_place rgb words colour < colour_end words
colour_place-below High (Some words) colour few = omega arith
colour_place-below Low (Some words) colour few = omega arith
colour_place-below rgb None colour few = omega arith

-- the point of a record, by the places of its colour
pub record_point-places : (rgb : RgbByte) (bytes : List ℕ) (place red green blue : ℕ) (point : PointValue) → AreBytes bytes
    → red ≡ colour_place rgb (rgb_words bytes) 0 → green ≡ colour_place rgb (rgb_words bytes) 1 → blue ≡ colour_place rgb (rgb_words bytes) 2
    → point ≡ record {
      x = i32_at bytes place;
      y = i32_at bytes (place + 4);
      z = i32_at bytes (place + 8);
      rgb = colour_number (slice_index bytes (place + red)) (slice_index bytes (place + green)) (slice_index bytes (place + blue));
    }
    → point ≡ record_point rgb bytes place
record_point-places rgb bytes place red green blue point range at_red at_green at_blue is =
    rw (record_colour-places rgb (rgb_words bytes) bytes place range, ← at_red, ← at_green, ← at_blue) is

-- one point more
pub first_points-more : (rgb : RgbByte) (bytes : List ℕ) (i place : ℕ) (points more : List PointValue) (point : PointValue)
    → place ≡ points_start bytes + i * record_length bytes → points ≡ first_points rgb bytes i → point ≡ record_point rgb bytes place
    → more ≡ points ++ point ∷ [] → more ≡ first_points rgb bytes (i + 1)
first_points-more rgb bytes i place points more point placed before is pushed =
    pushed ∙ ap (λ (ps : List PointValue). ps ++ point ∷ []) before ∙ ap (λ (p : PointValue). first_points rgb bytes i ++ p ∷ []) (is ∙ ap (record_point rgb bytes) placed)
    ∙ sym (map-range_with_len_more (point_at rgb bytes) 0 i i (omega arith))
