-- The versions and the point formats that are read.
use Rattle.std.specs.Prelude.{ℕ, ◌+◌, ◌==◌, List, [], ◌∷◌, find, Option, Some, None, if◌then◌else◌}

-- a version 1.minor, and the length of its header
pub record VersionValue : Type 0 where
  pub minor : ℕ
  pub header : ℕ

-- a point format: its number, the least length of a record, and where in a record the words of red, green and blue begin
pub record FormatValue : Type 0 where
  pub number : ℕ
  pub least : ℕ
  pub rgb : Option ℕ

-- a row of the versions
abbrev version : ℕ → ℕ → VersionValue
version m h = record { minor = m; header = h }

-- a row of the formats
abbrev format : ℕ → ℕ → Option ℕ → FormatValue
format n l words = record { number = n; least = l; rgb = words }

-- the versions
abbrev pub versions : List VersionValue
versions = version 2 227 ∷ version 3 235 ∷ version 4 375 ∷ []

-- the point formats
abbrev pub formats : List FormatValue
formats =
    format 0 20 None
    ∷ format 1 28 None
    ∷ format 2 26 (Some 20)
    ∷ format 3 34 (Some 28)
    ∷ format 6 30 None
    ∷ format 7 36 (Some 30)
    ∷ format 8 38 (Some 30)
    ∷ []

-- the version of two numbers, where it is one of these
abbrev pub version_of : ℕ → ℕ → Option VersionValue
version_of major minor = if major == 1 then find (λ v. v.minor == minor) versions else None

-- the point format of a number, where it is one of these
abbrev pub format_of : ℕ → Option FormatValue
format_of number = find (λ f. f.number == number) formats

-- where in a record the bytes of its colour end: of the words of red, green and blue, or of the intensity
abbrev pub colour_end : Option ℕ → ℕ
colour_end (Some words) = words + 6
colour_end None = 14
