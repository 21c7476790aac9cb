-- Document 01's starred examples, all of them, of the definitions: one table, and one statement over it. Bytes lent are AA before a call.
-- Assumes nothing.
use mathlib.Core.Path.{◌≡◌, refl}
use mathlib.Core.List.{List, [], ◌∷◌, ◌++◌}
use Prim.Native.Nat.{ℕ, ◌-◌}
use lib.ListN.{length, replicate}
use Rattle.packed.specs.Format.{field, t1234, t0124, t1248, m32, widths, data_len, stored, short_width, wrapping_sum}
use Rattle.packed.specs.Stages.{widest_group, eights, staged, tail_takes, tail_copied}
use Rattle.packed.specs.Calls.{accepted, refused, encoded, encoding, encoding_deltas, decoded, decoding_by, decoding, decoding_deltas, skipping, measuring, loose, tightness_of, testing}

pub data Example : Type 0 where
  -- coder, four values: tag and data
  encodes : (t values : List ℕ) (tag : ℕ) («data» : List ℕ) → Example
  -- coder, start, four values: tag, data, and what a skip of them gives
  encodes_steps : (t : List ℕ) (m start : ℕ) (values : List ℕ) (tag : ℕ) («data» : List ℕ) (read sum : ℕ) → Example
  -- coder, tag, data: four values and bytes read
  decodes : (t : List ℕ) (tag : ℕ) («data» values : List ℕ) (read : ℕ) → Example
  -- coder, tag, data: the number that refuses it
  refuses : (t : List ℕ) (tag : ℕ) («data» : List ℕ) (row : ℕ) → Example
  -- coder, tag, data: the place of the first loose number
  is_loose : (t : List ℕ) (tag : ℕ) («data» : List ℕ) (group position : ℕ) → Example
  -- coder, tag: its length
  measures : (t : List ℕ) (tag len : ℕ) → Example

abbrev pub lent : ℕ → List ℕ
lent n = replicate n 0xAA

abbrev pub Holds : Example → Type 0
Holds (encodes t values tag bytes) =
    encoding t values (lent 1) (lent (widest_group t)) ≡ encoded (accepted (length bytes) 0) (tag ∷ []) (bytes ++ lent (widest_group t - length bytes))
Holds (encodes_steps t m start values tag bytes read sum) =
    (encoding_deltas t m start values (lent 1) (lent (widest_group t)) ≡ encoded (accepted (length bytes) 0) (tag ∷ []) (bytes ++ lent (widest_group t - length bytes)))
    × (skipping t m (tag ∷ []) bytes ≡ accepted read sum)
    × (decoding_deltas t m start (tag ∷ []) bytes (lent 4) ≡ decoded (accepted read 0) values)
Holds (decodes t tag bytes values read) = decoding t (tag ∷ []) bytes (lent 4) ≡ decoded (accepted read 0) values
Holds (refuses t tag bytes row) = decoding t (tag ∷ []) bytes (lent 4) ≡ decoded (refused row) (lent 4)
Holds (is_loose t tag bytes group position) = testing t (tag ∷ []) bytes ≡ loose group position
Holds (measures t tag len) = measuring t (tag ∷ []) ≡ accepted len 0

abbrev pub seven : List ℕ
seven = 0x00 ∷ 0xFF ∷ 0x00 ∷ 0x01 ∷ 0x00 ∷ 0x00 ∷ 0x01 ∷ []

abbrev pub fives : List ℕ
fives = 5 ∷ 0 ∷ 0 ∷ 0 ∷ 5 ∷ 0 ∷ 0 ∷ 0 ∷ 5 ∷ 0 ∷ 0 ∷ 0 ∷ 5 ∷ 0 ∷ 0 ∷ 0 ∷ []

pub examples : List Example
examples =
    encodes t1234 (0 ∷ 255 ∷ 256 ∷ 65536 ∷ []) 0x90 seven
    ∷ encodes t0124 (0 ∷ 255 ∷ 256 ∷ 65536 ∷ []) 0xE4 (0xFF ∷ 0x00 ∷ 0x01 ∷ 0x00 ∷ 0x00 ∷ 0x01 ∷ 0x00 ∷ [])
    ∷ encodes t1248 (0 ∷ 256 ∷ 65536 ∷ 4294967296 ∷ []) 0xE4
    (0x00 ∷ 0x00 ∷ 0x01 ∷ 0x00 ∷ 0x00 ∷ 0x01 ∷ 0x00 ∷ 0x00 ∷ 0x00 ∷ 0x00 ∷ 0x00 ∷ 0x01 ∷ 0x00 ∷ 0x00 ∷ 0x00 ∷ [])
    ∷ encodes_steps t0124 m32 1798 (1799 ∷ 1802 ∷ 1803 ∷ 1804 ∷ []) 0x55 (0x01 ∷ 0x03 ∷ 0x01 ∷ 0x01 ∷ []) 4 6
    ∷ encodes_steps t0124 m32 5 (4 ∷ 4 ∷ 4 ∷ 4 ∷ []) 0x03 (0xFF ∷ 0xFF ∷ 0xFF ∷ 0xFF ∷ []) 4 4294967295
    ∷ decodes t0124 0x00 [] (0 ∷ 0 ∷ 0 ∷ 0 ∷ []) 0
    ∷ decodes t1234 0xFF fives (5 ∷ 5 ∷ 5 ∷ 5 ∷ []) 16
    ∷ is_loose t1234 0xFF fives 0 0
    ∷ measures t1234 0xE4 10 ∷ measures t0124 0xE4 7 ∷ measures t1248 0xE4 15
    ∷ measures t1234 0xFF 16 ∷ measures t0124 0xFF 16 ∷ measures t1248 0xFF 32
    ∷ measures t1234 0x00 4 ∷ measures t0124 0x00 0 ∷ measures t1248 0x00 4
    ∷ refuses t1234 0x90 (0x00 ∷ 0xFF ∷ 0x00 ∷ 0x01 ∷ 0x00 ∷ 0x00 ∷ []) 6
    ∷ decodes t1234 0x90 seven (0 ∷ 255 ∷ 256 ∷ 65536 ∷ []) 7
    ∷ decodes t1234 0x90 (seven ++ 0x01 ∷ []) (0 ∷ 255 ∷ 256 ∷ 65536 ∷ []) 7
    ∷ []

abbrev pub All : List Example → Type 0
All [] = Unit {0}
All (e ∷ es) = Holds e × All es

pub examples_hold : All examples
unfolding examples field widths data_len stored short_width wrapping_sum eights staged tail_takes tail_copied encoding decoding_by skipping measuring tightness_of testing
examples_hold =
    (refl, (refl, (refl, ((refl, refl, refl), ((refl, refl, refl), (refl, (refl, (refl, (refl, (refl, (refl, (refl, (refl, (refl, (refl, (refl, (refl, (refl, (refl, (refl, tt))))))))))))))))))))
