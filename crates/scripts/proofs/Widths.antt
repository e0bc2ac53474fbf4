-- How many bits the parts of a script take.
use mathlib.Core.List.{List}
use mathlib.Core.Path.{◌≡◌, ap, ◌∙◌}
use Prim.Native.Nat.{ℕ, suc, ◌+◌, ◌-◌, ◌*◌}
use native.Mathlib.Omega.{arith}
use lib.ListN.{length}
use lib.Seq.{length-take-le}
use Rattle.bits.specs.Packed.{bits_of}
use Rattle.bits.proofs.Laws.{length_bits}
use Rattle.check_word.specs.Division.{body}
use Rattle.records.specs.Rows.{total}
use Rattle.records.proofs.Packing.{total_replicate}
use Rattle.scripts.specs.Format.{first_frame_widths, count_widths, entry_widths, script_width}

pub firsts_width : (n : ℕ) → total (first_frame_widths n) ≡ 4 * n
firsts_width n = total_replicate n 4 ∙ swap
  where
    swap : n * 4 ≡ 4 * n
    swap = omega arith

pub entry_width : total entry_widths ≡ 64
unfolding total
entry_width = omega arith

pub width_is : (n m : ℕ) → script_width n m ≡ 4 * n + 24 + 64 * m
unfolding script_width total
width_is n m = rw (firsts_width n) (omega arith)

-- first frames and count
pub width_before : (n : ℕ) → total (first_frame_widths n) + total count_widths ≡ script_width n 0
unfolding script_width
width_before n = omega arith

-- one entry more
pub width_more : (n m : ℕ) → script_width n (suc m) ≡ script_width n m + total entry_widths
width_more n m = omega (arith, width_is n m, width_is n (suc m), entry_width)

-- and so one behind the other
pub width_at : (n m : ℕ) → script_width n 0 + m * total entry_widths ≡ script_width n m
unfolding script_width
width_at n m = omega arith

-- the bits before the check word
pub body_length : (s : List ℕ) → length (body s) ≡ length s - 2
unfolding body
body_length s = length-take-le (length s - 2) s (omega arith)

pub body_bits : (s : List ℕ) → length (bits_of (body s)) ≡ 8 * (length s - 2)
body_bits s = length_bits (body s) ∙ ap (λ (n : ℕ). 8 * n) (body_length s)
