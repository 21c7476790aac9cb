-- Any two outcomes that a call's promise allows are equal: the answer, as the enum that the call returns, and every buffer that it was
-- lent. Each promise is one equation with a definition of the inputs, so it is enough that the reading of an answer loses nothing.
-- Assumes nothing.
use mathlib.Core.Path.{◌≡◌, refl, ap, ap₂, sym, ◌∙◌}
use mathlib.Core.List.{List, map}
use Prim.Native.Nat.{ℕ, zero, suc, ◌%◌, ◌<◌}
use native.Mathlib.Nat.{mod-eq_of_lt}
use native.Mathlib.Omega.{arith}
use Rattle.std.specs.Prelude.{Option, Some, None, Result, Ok, Err}
use Rattle.packed.specs.Calls
use Rattle.packed.specs.Calls.{Answer, Encoded, Decoded, encoded, encoding, decoded, decoding_by, skipping, measuring, testing}
use Rattle.packed.proofs.Bytes.{Below, below_same}
use Rattle.answers.specs.declared.Refusal.{Refusal}
use Rattle.answers.specs.declared.Refusal.TheVariants.{NotFours, TooManyGroups, FewTags, LittleRoom, OtherTags, MissingData, TailOverrun}
use Rattle.answers.specs.declared.Skipped.{Skipped}
use Rattle.answers.specs.declared.Place.{Place}
use Rattle.answers.specs.Meaning.{refusal_number, counted, skipped, tested}

-- the refusal of a number
named : ℕ → Refusal
named zero = NotFours
named (suc zero) = NotFours
named (suc (suc zero)) = TooManyGroups
named (suc (suc (suc zero))) = FewTags
named (suc (suc (suc (suc zero)))) = LittleRoom
named (suc (suc (suc (suc (suc zero))))) = OtherTags
named (suc (suc (suc (suc (suc (suc zero)))))) = MissingData
named (suc (suc (suc (suc (suc (suc (suc n))))))) = TailOverrun

named_back : (why : Refusal) → named (refusal_number why) ≡ why
unfolding named
named_back NotFours = refl
named_back TooManyGroups = refl
named_back FewTags = refl
named_back LittleRoom = refl
named_back OtherTags = refl
named_back MissingData = refl
named_back TailOverrun = refl

-- an answer that means a
counted_by : ℕ → ℕ → Result ℕ Refusal
counted_by zero n = Ok n
counted_by (suc k) n = Err (named (suc k))

counted_back : (r : Result ℕ Refusal) → counted_by (counted r).number (counted r).count ≡ r
unfolding counted_by named
counted_back (Err NotFours) = refl
counted_back (Err TooManyGroups) = refl
counted_back (Err FewTags) = refl
counted_back (Err LittleRoom) = refl
counted_back (Err OtherTags) = refl
counted_back (Err MissingData) = refl
counted_back (Err TailOverrun) = refl
counted_back (Ok n) = refl

tested_by : Calls.Tightness → Result (Option Place) Refusal
tested_by (Calls.untested n) = Err (named n)
tested_by Calls.tight = Ok None
tested_by (Calls.loose g p) = Ok (Some record { group = g; position = p })

tested_back : (r : Result (Option Place) Refusal) → tested_by (tested r) ≡ r
unfolding tested_by
tested_back (Err why) = ap Err (named_back why)
tested_back (Ok None) = refl
tested_back (Ok (Some p)) = refl

same_counted : (r r' : Result ℕ Refusal) → counted r ≡ counted r' → r ≡ r'
same_counted r r' e = sym (counted_back r) ∙ ap (λ (a : Answer). counted_by a.number a.count) e ∙ counted_back r'

-- `encode` and `encode_deltas` (of the steps) of each coder
pub one_encoding : (t values tags bytes : List ℕ) (r r' : Result ℕ Refusal) (tags₁ tags₂ bytes₁ bytes₂ : List ℕ)
    → encoded (counted r) tags₁ bytes₁ ≡ encoding t values tags bytes → encoded (counted r') tags₂ bytes₂ ≡ encoding t values tags bytes
    → (r ≡ r') × (tags₁ ≡ tags₂) × (bytes₁ ≡ bytes₂)
one_encoding t values tags bytes r r' tags₁ tags₂ bytes₁ bytes₂ e e' =
    let same : encoded (counted r) tags₁ bytes₁ ≡ encoded (counted r') tags₂ bytes₂ = e ∙ sym e' in
    (same_counted r r' (ap (λ (o : Encoded). o.answer) same), ap (λ (o : Encoded). o.tags) same, ap (λ (o : Encoded). o.bytes) same)

-- `decode` and `decode_deltas`
pub one_decoding : (make : List ℕ → List ℕ) (t tags bytes values : List ℕ) (r r' : Result ℕ Refusal) (values₁ values₂ : List ℕ)
    → decoded (counted r) values₁ ≡ decoding_by make t tags bytes values → decoded (counted r') values₂ ≡ decoding_by make t tags bytes values
    → (r ≡ r') × (values₁ ≡ values₂)
one_decoding make t tags bytes values r r' values₁ values₂ e e' =
    let same : decoded (counted r) values₁ ≡ decoded (counted r') values₂ = e ∙ sym e' in
    (same_counted r r' (ap (λ (o : Decoded). o.answer) same), ap (λ (o : Decoded). o.values) same)

-- The same of values below a modulus k that are numbers modulo k, as those of u32 and u64 are.
pub one_decoding_below : (k : ℕ) (make : List ℕ → List ℕ) (t tags bytes values : List ℕ) (r r' : Result ℕ Refusal) (values₁ values₂ : List ℕ)
    → Below k values₁ → Below k values₂ → decoded (counted r) (map (λ x. x % k) values₁) ≡ decoding_by make t tags bytes values
    → decoded (counted r') (map (λ x. x % k) values₂) ≡ decoding_by make t tags bytes values → (r ≡ r') × (values₁ ≡ values₂)
one_decoding_below k make t tags bytes values r r' values₁ values₂ below below' e e' =
    let one = one_decoding make t tags bytes values r r' (map (λ x. x % k) values₁) (map (λ x. x % k) values₂) e e' in
    (one.0, sym (below_same k values₁ below) ∙ one.1 ∙ below_same k values₂ below')

-- `data_len`
pub one_measuring : (t tags : List ℕ) (r r' : Result ℕ Refusal) → counted r ≡ measuring t tags → counted r' ≡ measuring t tags → r ≡ r'
one_measuring t tags r r' e e' = same_counted r r' (e ∙ sym e')

-- no refusal has the number 0
not_zero : {A : Type 0} (why : Refusal) → 0 ≡ refusal_number why → A
not_zero NotFours e = absurd (omega (arith, e))
not_zero TooManyGroups e = absurd (omega (arith, e))
not_zero FewTags e = absurd (omega (arith, e))
not_zero LittleRoom e = absurd (omega (arith, e))
not_zero OtherTags e = absurd (omega (arith, e))
not_zero MissingData e = absurd (omega (arith, e))
not_zero TailOverrun e = absurd (omega (arith, e))

-- `skip_deltas`, where number is the number that a sum is, and tells the two sums apart
pub one_skip : {E : Type 0} (number : E → ℕ) (t : List ℕ) (m : ℕ) (tags bytes : List ℕ) (r r' : Result (Skipped E) Refusal)
    → ((s s' : Skipped E) → r ≡ Ok s → r' ≡ Ok s' → number s.sum ≡ number s'.sum → s.sum ≡ s'.sum)
    → skipped number r ≡ skipping t m tags bytes → skipped number r' ≡ skipping t m tags bytes → r ≡ r'
one_skip number t m tags bytes (Ok s) (Ok s') apart e e' =
    let same : skipped number (Ok s) ≡ skipped number (Ok s') = e ∙ sym e' in
    ap₂ (λ n x. Ok record { read = n; sum = x }) (ap (λ (a : Answer). a.count) same) (apart s s' refl refl (ap (λ (a : Answer). a.sum) same))
one_skip number t m tags bytes (Ok s) (Err why) apart e e' = not_zero why (ap (λ (a : Answer). a.number) (e ∙ sym e'))
one_skip number t m tags bytes (Err why) (Ok s) apart e e' = not_zero why (ap (λ (a : Answer). a.number) (e' ∙ sym e))
one_skip number t m tags bytes (Err why) (Err why') apart e e' =
    ap Err (sym (named_back why) ∙ ap (λ (a : Answer). named a.number) (e ∙ sym e') ∙ named_back why')

-- The same of sums below a modulus k that are numbers modulo k, as those of u32 and u64 are.
pub one_skip_below : (k : ℕ) (t : List ℕ) (m : ℕ) (tags bytes : List ℕ) (r r' : Result (Skipped ℕ) Refusal)
    → ((s : Skipped ℕ) → r ≡ Ok s → s.sum < k) → ((s : Skipped ℕ) → r' ≡ Ok s → s.sum < k)
    → skipped (λ x. x % k) r ≡ skipping t m tags bytes → skipped (λ x. x % k) r' ≡ skipping t m tags bytes → r ≡ r'
one_skip_below k t m tags bytes r r' below below' =
    one_skip (λ x. x % k) t m tags bytes r r' (λ s s' i i' e. sym (mod-eq_of_lt (below s i)) ∙ e ∙ mod-eq_of_lt (below' s' i'))

-- `tightness`
pub one_tightness : (t tags bytes : List ℕ) (r r' : Result (Option Place) Refusal) → tested r ≡ testing t tags bytes → tested r' ≡ testing t tags bytes → r ≡ r'
one_tightness t tags bytes r r' e e' = sym (tested_back r) ∙ ap tested_by (e ∙ sym e') ∙ tested_back r'
