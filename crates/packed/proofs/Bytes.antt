-- Laws of numbers as bytes, low byte first. Assumes nothing.
use mathlib.Core.Path.{◌≡◌, refl, ap, ap₂, sym, ◌∙◌}
use mathlib.Core.List.{List, [], ◌∷◌, map}
use Prim.Native.Nat.{ℕ, zero, suc, ◌+◌, ◌-◌, ◌*◌, ◌/◌, ◌%◌, ◌^◌, ◌≤◌, ◌<◌}
use native.Mathlib.Nat.{zero-add, add_assoc, add_comm, mul_comm, mul-suc, pow-suc, mod-lt, mod-eq_of_lt, mod-one, not-suc-le-zero, le_of_suc-le-suc, le_refl}
use native.Mathlib.Nat.{one-mul, mul-lt-mul_of_pos_right, add-mul-div_left, add-mul-mod_self_left, div-eq_of_lt}
use native.Mathlib.Numerals.{add-one}
use lib.Arith.{mod-mul}
use lib.Bits.{bit_and, and_mask}
use lib.Dec.{lit<}
use lib.ListN.{length, take, drop, get_or}
use lib.Pow.{pow-add, pow_pos, pow-lt}
use mir.Syntax.{Width}
use mir.Val.{Fits, bits}
use lib.Seq.{drop-cons, get_or-drop}
use Rattle.packed.specs.Format.{le_value, le_bytes}

-- every number of the list is below m, as a slice of bytes (m = 256), u32 or u64 tells of its elements
abbrev pub Below : ℕ → List ℕ → Type 0
Below m s = (i : ℕ) → get_or s i 0 < m

-- as the elements of an array of a type of numbers are
pub below_fits : (w : Width) (s : List ℕ) → ((i : ℕ) → Fits w (get_or s i 0)) → Below (2 ^ bits w) s
below_fits w s h i = (h i).fits

pub below-drop : (m n : ℕ) (s : List ℕ) → Below m s → Below m (drop n s)
below-drop m n s h i = rw (get_or-drop n s i 0) (h (n + i))

-- numbers below m are what they are modulo m
pub below_same : (m : ℕ) (s : List ℕ) → Below m s → map (λ x. x % m) s ≡ s
below_same m [] h = refl
below_same m (x ∷ s) h = ap₂ (λ (y : ℕ) (ys : List ℕ). y ∷ ys) (mod-eq_of_lt (h 0)) (below_same m s (λ i. h (suc i)))

pub byte_powers : (w : ℕ) → 256 ^ w ≡ 2 ^ (8 * w)
byte_powers zero = refl
byte_powers (suc w) =
    pow-suc 256 w ∙ ap (λ (n : ℕ). n * 256) (byte_powers w) ∙ sym (pow-add 2 (8 * w) 8) ∙ ap (λ (n : ℕ). 2 ^ n) (sym (mul-suc 8 w))

pub byte_power_pos : (w : ℕ) → zero < 256 ^ w
byte_power_pos w = rw byte_powers (pow_pos (8 * w))

pub le_bytes-length : (w v : ℕ) → length (le_bytes w v) ≡ w
le_bytes-length zero v = refl
le_bytes-length (suc w) v = ap suc (le_bytes-length w (v / 256))

-- the w low bytes are the number modulo 256 ^ w
pub le_value-le_bytes : (w v : ℕ) → le_value (le_bytes w v) ≡ v % 256 ^ w
le_value-le_bytes zero v = sym (mod-one v)
le_value-le_bytes (suc w) v =
    ap (λ (n : ℕ). v % 256 + 256 * n) (le_value-le_bytes w (v / 256))
    ∙ add_comm (v % 256) (256 * (v / 256 % 256 ^ w))
    ∙ ap (λ (n : ℕ). n + v % 256) (mul_comm 256 (v / 256 % 256 ^ w))
    ∙ sym (mod-mul v (byte_power_pos w) (lit< tt))
    ∙ ap (λ (n : ℕ). v % n) (sym (pow-suc 256 w))

pub le_value-le_bytes_fits : (w v : ℕ) → v < 256 ^ w → le_value (le_bytes w v) ≡ v
le_value-le_bytes_fits w v h = le_value-le_bytes w v ∙ mod-eq_of_lt h

-- fewer bytes are the number modulo a smaller power
pub le_value_fewer : (w n : ℕ) (s : List ℕ) → Below 256 s → w ≤ n → le_value (take w s) ≡ le_value (take n s) % 256 ^ w
le_value_fewer zero n s h le = sym (mod-one (le_value (take n s)))
le_value_fewer (suc w) zero s h le = absurd (not-suc-le-zero le)
le_value_fewer (suc w) (suc n) [] h le = sym (mod-eq_of_lt (byte_power_pos (suc w)))
le_value_fewer (suc w) (suc n) (b ∷ s) h le =
    let x : ℕ = le_value (take n s) in
    let low : (b + 256 * x) % 256 ≡ b = add-mul-mod_self_left b 256 x ∙ mod-eq_of_lt (h 0) in
    let high : (b + 256 * x) / 256 ≡ x =
    add-mul-div_left b x (lit< tt) ∙ ap (λ (q : ℕ). q + x) (div-eq_of_lt (h 0)) ∙ zero-add x in
    let whole : (b + 256 * x) % 256 ^ suc w ≡ (x % 256 ^ w) * 256 + b =
    ap (λ (q : ℕ). (b + 256 * x) % q) (pow-suc 256 w) ∙ mod-mul (b + 256 * x) (byte_power_pos w) (lit< tt)
    ∙ ap₂ (λ (u v : ℕ). u % 256 ^ w * 256 + v) high low in
    ap (λ (q : ℕ). b + 256 * q) (le_value_fewer w n s (λ i. h (suc i)) (le_of_suc-le-suc le))
    ∙ add_comm b (256 * (x % 256 ^ w)) ∙ ap (λ (q : ℕ). q + b) (mul_comm 256 (x % 256 ^ w)) ∙ sym whole

pub le_value-below : (n : ℕ) (s : List ℕ) → Below 256 s → le_value (take n s) < 256 ^ n
le_value-below n s h = rw (le_value_fewer n n s h (le_refl n)) (mod-lt (le_value (take n s)) (byte_power_pos n))

-- the mask of a width keeps that width's bytes and no other
pub masked : (w n x mask : ℕ) (s : List ℕ) → Below 256 s → w ≤ n → x ≡ le_value (take n s) → mask ≡ 256 ^ w - 1
    → bit_and x mask ≡ le_value (take w s)
masked w n x mask s h le ex em =
    ap₂ bit_and ex (em ∙ ap (λ (q : ℕ). q - 1) (byte_powers w)) ∙ and_mask (le_value (take n s)) (8 * w)
    ∙ ap (λ (q : ℕ). le_value (take n s) % q) (sym (byte_powers w)) ∙ sym (le_value_fewer w n s h le)

-- one shifted by a width's bits, in a wider number of n bytes
pub shifted_one : (w n : ℕ) → w < n → (1 * 2 ^ (w * 8)) % 2 ^ (n * 8) ≡ 256 ^ w
shifted_one w n h =
    let e : 1 * 2 ^ (w * 8) ≡ 256 ^ w = one-mul (2 ^ (w * 8)) ∙ ap (λ (k : ℕ). 2 ^ k) (mul_comm w 8) ∙ sym (byte_powers w) in
    mod-eq_of_lt (rw (one-mul (2 ^ (w * 8))) (pow-lt (mul-lt-mul_of_pos_right h (lit< tt)))) ∙ e

-- the first byte, and what follows it; the same k bytes further on
pub le_value_head : (n at : ℕ) (s : List ℕ) → at < length s
    → le_value (take (suc n) (drop at s)) ≡ get_or s at 0 + 256 * le_value (take n (drop (at + 1) s))
le_value_head n at s h = rw (drop-cons s at 0 h, add-one at)

pub le_value_next : (n at k : ℕ) (s : List ℕ) → at + k < length s
    → le_value (take (suc n) (drop (at + k) s)) ≡ get_or s (at + k) 0 + 256 * le_value (take n (drop (at + (k + 1)) s))
le_value_next n at k s h =
    le_value_head n (at + k) s h ∙ ap (λ (j : ℕ). get_or s (at + k) 0 + 256 * le_value (take n (drop j s))) (add_assoc at k 1)
