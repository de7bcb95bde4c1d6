-- Small files, and what the definitions say of them.
use Rattle.std.proofs.Common.{◌≡◌, ℕ, List, [], ◌∷◌, ◌++◌, codes, replicate, take, Ok, Err, pos, negsuc, refl}
use Rattle.byteorder.specs.Endian.{little_bytes}
use Rattle.las_points.specs.Reading.{las}
use Rattle.las_points.specs.declared.reader.LasFault.TheVariants.{NotLas, HeaderShort, Version, Compressed, Format, Length, Start, PointsShort}
use Rattle.las_points.specs.declared.reader.RgbByte.TheVariants.{High, Low}

-- the 227 bytes that each header has
abbrev header : ℕ → ℕ → ℕ → ℕ → ℕ → List ℕ
header minor start format length count =
    codes "LASF" ++ replicate 20 0 ++ 1 ∷ minor ∷ [] ++ replicate 70 0 ++ little_bytes 4 start ++ replicate 4 0 ++ format ∷ [] ++ little_bytes 2 length ++ little_bytes 4 count ++ replicate 116 0

-- a record of format 2, with two bytes behind it
abbrev coloured : ℕ → ℕ → ℕ → ℕ → ℕ → ℕ → List ℕ
coloured x y z red green blue =
    little_bytes 4 x ++ little_bytes 4 y ++ little_bytes 4 z ++ replicate 8 0 ++ little_bytes 2 red ++ little_bytes 2 green ++ little_bytes 2 blue ++ replicate 2 0

-- the records of two points
abbrev both : List ℕ
both = coloured 5 6 7 0xff00 0x8000 0x0100 ++ coloured 0xffffffff 0 0x7fffffff 0x00ff 0x00ff 0x00ff

-- version 1.2 with these points
abbrev two : List ℕ
two = header 2 227 2 28 2 ++ both

-- the high bytes are the colour
high : las High two
    ≡ Ok (record {
      points = record { x = pos 5; y = pos 6; z = pos 7; rgb = 0xff8001 } ∷ record { x = negsuc 0; y = pos 0; z = pos 2147483647; rgb = 0 } ∷ [];
      frame = replicate 48 0;
    })
unfolding las
high = refl

-- the low bytes are the colour
low : las Low two
    ≡ Ok (record {
      points = record { x = pos 5; y = pos 6; z = pos 7; rgb = 0 } ∷ record { x = negsuc 0; y = pos 0; z = pos 2147483647; rgb = 0xffffff } ∷ [];
      frame = replicate 48 0;
    })
unfolding las
low = refl

-- version 1.4 has a place of its own for the number of points
one : las High (header 4 375 7 36 0 ++ replicate 20 0 ++ little_bytes 8 1 ++ replicate 120 0 ++ replicate 36 0)
    ≡ Ok (record { points = record { x = pos 0; y = pos 0; z = pos 0; rgb = 0 } ∷ []; frame = replicate 48 0 })
unfolding las
one = refl

-- what a file has of the signature is judged before its length
not_las : las High (codes "LAX") ≡ Err NotLas
unfolding las
not_las = refl

short : las High (codes "LAS") ≡ Err (HeaderShort 3)
unfolding las
short = refl

-- compressed points are told before the file is found short
compressed : las High (take 282 (header 2 227 130 28 2 ++ both)) ≡ Err (Compressed 130)
unfolding las
compressed = refl

cut : las High (take 282 two) ≡ Err (PointsShort 282 283)
unfolding las
cut = refl

too_narrow : las High (header 2 227 0 19 2 ++ both) ≡ Err (Length 19 20)
unfolding las
too_narrow = refl

in_header : las High (header 2 226 2 28 2 ++ both) ≡ Err (Start 226 227)
unfolding las
in_header = refl

-- the header of version 1.3 is longer
in_longer_header : las High (header 3 227 2 28 2 ++ both) ≡ Err (Start 227 235)
unfolding las
in_longer_header = refl

unknown_version : las High (header 1 227 2 28 2) ≡ Err (Version 1 1)
unfolding las
unknown_version = refl

unknown_format : las High (header 2 227 127 28 2) ≡ Err (Format 127)
unfolding las
unknown_format = refl

-- no number overflows
most_points : las High (header 4 4294967295 7 65535 0 ++ replicate 20 0 ++ replicate 8 255 ++ replicate 156 0)
    ≡ Err (PointsShort 411 1208907372870559760056320)
unfolding las
most_points = refl
