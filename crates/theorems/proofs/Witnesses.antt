-- The theorems' hypotheses are met: each of them is applied here to a column of document 01's examples, so that none speaks of nothing.
-- Assumes nothing.
use mathlib.Core.Path.{◌≡◌, refl}
use mathlib.Core.List.{List, [], ◌∷◌}
use Prim.Native.Nat.{ℕ, zero, suc}
use lib.Dec.{lit<, lit≤}
use lib.ListN.{replicate}
use Rattle.packed.specs.Format.{field, t1234, t0124, m32, widths, data_len, stored, short_width, wrapping_sum}
use Rattle.packed.specs.Stages.{eights, staged, tail_takes, tail_copied}
use Rattle.packed.specs.Calls.{accepted, decoded, encoding, decoding_by, decoding, decoding_deltas, skipping}
use Rattle.packed.proofs.Bytes.{Below}
use Rattle.packed.proofs.Coders.{table1234}
use Rattle.theorems.proofs.Format.{decoding_gives_back}
use Rattle.theorems.proofs.MoreMaterial.{decode_from_the_cut}

abbrev values : List ℕ
values = 0 ∷ 255 ∷ 256 ∷ 65536 ∷ []

below : Below m32 values
below zero = lit< tt
below (suc zero) = lit< tt
below (suc (suc zero)) = lit< tt
below (suc (suc (suc zero))) = lit< tt
below (suc (suc (suc (suc i)))) = lit< tt

accepts : (encoding t1234 values (0 ∷ []) (replicate 16 0)).answer.number ≡ 0
unfolding field widths data_len short_width eights staged tail_takes tail_copied encoding
accepts = refl

-- demand 2's round trip, of the first example
round_trip : decoding t1234 (0x90 ∷ []) (0x00 ∷ 0xFF ∷ 0x00 ∷ 0x01 ∷ 0x00 ∷ 0x00 ∷ 0x01 ∷ 1 ∷ 2 ∷ []) (9 ∷ 9 ∷ 9 ∷ 9 ∷ []) ≡ decoded (accepted 7 0) values
unfolding field widths data_len short_width eights staged tail_takes tail_copied encoding
round_trip = decoding_gives_back t1234 table1234 values (0 ∷ []) (replicate 16 0) (1 ∷ 2 ∷ []) (9 ∷ 9 ∷ 9 ∷ 9 ∷ []) below accepts refl

-- two groups of the drop-frame example, delta decoded from 1798
abbrev tags : List ℕ
tags = 0x55 ∷ 0x55 ∷ []

abbrev steps_bytes : List ℕ
steps_bytes = 1 ∷ 3 ∷ 1 ∷ 1 ∷ 1 ∷ 1 ∷ 1 ∷ 1 ∷ []

whole-accepted : (decoding_deltas t0124 m32 1798 tags steps_bytes (replicate 8 0)).answer.number ≡ 0
unfolding field widths data_len stored eights staged tail_takes tail_copied decoding_by
whole-accepted = refl

-- demand 3's cut between them: the rest is decoded from 1804
from_the_cut : decoding_deltas t0124 m32 1804 (0x55 ∷ []) (1 ∷ 1 ∷ 1 ∷ 1 ∷ []) (replicate 4 0) ≡ decoded (accepted 4 0) (1805 ∷ 1806 ∷ 1807 ∷ 1808 ∷ [])
unfolding field widths data_len stored wrapping_sum eights staged tail_takes tail_copied skipping decoding_by
from_the_cut = decode_from_the_cut t0124 m32 1798 (lit< tt) tags steps_bytes (replicate 8 0) whole-accepted 1 (lit≤ tt) (replicate 4 0) refl

-- demand 3's longer column: one tag more that needs four bytes is refused with 6 where three were added, and accepted where four were
refused_with_6 : (decoding t0124 (0x55 ∷ 0x55 ∷ []) (1 ∷ 3 ∷ 1 ∷ 1 ∷ 7 ∷ 7 ∷ 7 ∷ []) (replicate 8 0)).answer.number ≡ 6
unfolding field widths data_len stored eights staged tail_takes tail_copied decoding_by
refused_with_6 = refl

accepted_with_4 : decoding t0124 (0x55 ∷ 0x55 ∷ []) (1 ∷ 3 ∷ 1 ∷ 1 ∷ 7 ∷ 7 ∷ 7 ∷ 7 ∷ []) (replicate 8 0) ≡ decoded (accepted 8 0) (1 ∷ 3 ∷ 1 ∷ 1 ∷ 7 ∷ 7 ∷ 7 ∷ 7 ∷ [])
unfolding field widths data_len stored eights staged tail_takes tail_copied decoding_by
accepted_with_4 = refl
