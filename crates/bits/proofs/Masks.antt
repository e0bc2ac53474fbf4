-- What the shifts and masks on a 64-bit number compute, over the width.
use mathlib.Core.Path.{◌≡◌, sym, ap, ◌∙◌}
use Prim.Native.Nat.{ℕ, ◌+◌, ◌-◌, ◌*◌, ◌/◌, ◌%◌, ◌^◌, ◌≤◌, ◌<◌}
use native.Mathlib.Nat.{one-mul, mod-lt, mod-eq_of_lt, lt_of_le_of_lt, lt_of_lt_of_le, div-mul-le_self, add_assoc, div-eq_of_lt, div-lt_iff_lt-mul}
use native.Mathlib.Decide.{dec_le}
use native.Mathlib.Omega.{arith}
use lib.Bits.{bit_and, bit_or, and_mask, or_shifted}
use lib.Pow.{pow_pos, pow-add, pow_mono, pow-lt, shl_lt}
use Rattle.bits.proofs.Fields.{replaced}

-- `1 << w` is the power itself
pub one_shifted : (w : ℕ) → w ≤ 32 → 1 * 2 ^ w % 2 ^ 64 ≡ 2 ^ w
one_shifted w h = rw (one-mul (2 ^ w)) (mod-eq_of_lt (pow-lt {j = 64} (omega arith)))

pub masked : (n w : ℕ) → w ≤ 32 → bit_and n (1 * 2 ^ w % 2 ^ 64 - 1) ≡ n % 2 ^ w
masked n w h = rw (one_shifted w h) (and_mask n w)

pub joined : (n w p v : ℕ) → n < 2 ^ 40 → w ≤ 32 → p < 8 → v < 2 ^ w
    → bit_or (bit_or (n / 2 ^ (w + p) * 2 ^ (w + p) % 2 ^ 64) (v * 2 ^ p % 2 ^ 64)) (n % 2 ^ p) ≡ replaced w p n v
joined n w p v hn hw hp hv =
    rw (mod-eq_of_lt above, mod-eq_of_lt {m = 2 ^ 64} shifted, or_shifted (n / 2 ^ (w + p)) (w + p) (v * 2 ^ p) (shl_lt w p hv), pow-add 2 w p)
    (ap (λ (x : ℕ). bit_or x (n % 2 ^ p)) (regroup (n / (2 ^ w * 2 ^ p)) (2 ^ w) (2 ^ p) v)
    ∙ or_shifted (n / (2 ^ w * 2 ^ p) * 2 ^ w + v) p (n % 2 ^ p) (mod-lt n (pow_pos p))
    ∙ ap (λ (x : ℕ). x + n % 2 ^ p) (sym (regroup (n / (2 ^ w * 2 ^ p)) (2 ^ w) (2 ^ p) v))
    ∙ add_assoc (n / (2 ^ w * 2 ^ p) * (2 ^ w * 2 ^ p)) (v * 2 ^ p) (n % 2 ^ p))
  where
    above : n / 2 ^ (w + p) * 2 ^ (w + p) < 2 ^ 64
    above = lt_of_le_of_lt (div-mul-le_self n (2 ^ (w + p))) (omega arith)

    shifted : v * 2 ^ p < 2 ^ 64
    shifted = lt_of_lt_of_le (shl_lt w p hv) (pow_mono {j = 64} (omega arith))

    regroup : (a b c x : ℕ) → a * (b * c) + x * c ≡ (a * b + x) * c
    regroup a b c x = omega arith

-- `v >> w` is 0 exactly where v has at most w digits
pub shifted_out : (v w : ℕ) → v / 2 ^ w ≡ 0 → v < 2 ^ w
shifted_out v w e = omega (arith, (div-lt_iff_lt-mul {x = v} {y = 1} (pow_pos w)).0 (omega arith))

pub not_shifted_out : (v w : ℕ) → (v / 2 ^ w ≡ 0 → ⊥) → 2 ^ w ≤ v
not_shifted_out v w f = go (dec_le (2 ^ w) v)
  where
    go : Dec (2 ^ w ≤ v) → 2 ^ w ≤ v
    go (yes h) = h
    go (no n) = absurd (f (div-eq_of_lt (omega arith)))
