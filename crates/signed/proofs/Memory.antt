-- Times laid over lent memory: they are read back from there, and the rest is as it was.
use mathlib.Core.List.{List, [], ◌∷◌, ◌++◌, append_assoc}
use mathlib.Core.Path.{◌≡◌, ap, ap₂, ◌∙◌}
use Prim.Native.Nat.{ℕ, zero, suc, ◌+◌, ◌*◌, ◌^◌, ◌≤◌, ◌<◌}
use native.Mathlib.Omega.{arith}
use lib.Dec.{lit<}
use lib.ListN.{length, get_or, drop, length-append, length-drop, get_or-append}
use lib.Seq.{drop_at, get_or-append-add}
use Rattle.std.specs.Int.{w32, to_be_bytes}
use Rattle.std.proofs.lemmas.Nat.{from_be_bytes-to_be_bytes_4}
use Rattle.std.proofs.lemmas.List.{get_or-drop}
use Rattle.bits.specs.Packed.{digits, bytes_of}
use Rattle.bits.proofs.Laws.{length_bytes}
use Rattle.lent.specs.Lent.{laid}
use Rattle.sheet.specs.Constants.{most_frames}
use Rattle.workbench.specs.Entry.{as_bytes}
use Rattle.workbench.proofs.Four.{four_of, length_four}
use Rattle.signed.specs.Claims.{Kept, in_numbers, in_bytes, size, time_in, Surplus}

-- times as they stand in memory
abbrev pub stored : Kept → List ℕ → List ℕ
stored in_numbers times = times
stored in_bytes times = as_bytes times

pub length_stored : (kept : Kept) (times : List ℕ) → length (stored kept times) ≡ size kept * length times
length_stored in_numbers times = omega arith
length_stored in_bytes times = length_four times

-- ---- four bytes to a time

four_at : (ts rest : List ℕ) (j b : ℕ) → j < length ts → b < 4 → get_or (as_bytes ts ++ rest) (4 * j + b) 0 ≡ get_or (bytes_of 4 (digits 32 (get_or ts j 0))) b 0
unfolding as_bytes
four_at [] rest j b h l = let z : ⊥ = omega arith in absurd z
four_at (t ∷ ts) rest zero b h l =
    let first : List ℕ = bytes_of 4 (digits 32 t) in
    let four : length first ≡ 4 = length_bytes 4 (digits 32 t) in
    let here : 4 * zero + b ≡ b = omega arith in
    ap₂ (λ (m : List ℕ) (i : ℕ). get_or m i 0) (append_assoc first (as_bytes ts) rest) here
    ∙ get_or-append first (as_bytes ts ++ rest) 0 b (omega arith)
four_at (t ∷ ts) rest (suc j) b h l =
    let first : List ℕ = bytes_of 4 (digits 32 t) in
    let four : length first ≡ 4 = length_bytes 4 (digits 32 t) in
    let behind : 4 * suc j + b ≡ length first + (4 * j + b) = omega arith in
    ap₂ (λ (m : List ℕ) (i : ℕ). get_or m i 0) (append_assoc first (as_bytes ts) rest) behind
    ∙ get_or-append-add first (as_bytes ts ++ rest) (4 * j + b) 0
    ∙ four_at ts rest j b (omega arith) l

module _ (ts rest : List ℕ) (j : ℕ) (h : j < length ts) where
  byte_at : (b : ℕ) → b < 4 → get_or (drop (4 * j) (as_bytes ts ++ rest)) b 0 ≡ get_or (to_be_bytes w32 (get_or ts j 0)) b 0
  byte_at b l =
      get_or-drop (4 * j) (as_bytes ts ++ rest) b 0
      ∙ four_at ts rest j b h l ∙ ap (λ (m : List ℕ). get_or m b 0) (four_of (get_or ts j 0))

  four_read : get_or ts j 0 < 2 ^ 32 → time_in in_bytes (as_bytes ts ++ rest) j ≡ get_or ts j 0
  unfolding time_in
  four_read small =
      rw (byte_at 0 (lit< tt), byte_at 1 (lit< tt), byte_at 2 (lit< tt), byte_at 3 (lit< tt)) (from_be_bytes-to_be_bytes_4 (get_or ts j 0) small)

-- ---- laid over memory

module _ (kept : Kept) (times before : List ℕ) where
  pub time_laid : ((j : ℕ) → j < length times → get_or times j 0 < 2 ^ 32)
      → (j : ℕ) → j < length times → time_in kept (laid (stored kept times) before) j ≡ get_or times j 0
  unfolding laid time_in
  time_laid small j h = go kept
    where
      go : (k : Kept) → time_in k (laid (stored k times) before) j ≡ get_or times j 0
      go in_numbers = get_or-append times _ 0 j h
      go in_bytes = four_read times _ j h (small j h)

  pub surplus_kept : (n : ℕ) → length times ≡ most_frames * n → length (stored kept times) ≤ length before
      → Surplus kept n before (laid (stored kept times) before)
  unfolding laid
  surplus_kept n long fits =
      let whole : length (stored kept times) ≡ size kept * (most_frames * n) = length_stored kept times ∙ ap (λ (m : ℕ). size kept * m) long in
      record {
        room = omega (arith, whole);
        same_length = simp (length-append, length-drop) (omega arith);
        same_behind = drop_at (stored kept times) _ (size kept * (most_frames * n)) whole ∙ ap (λ (m : ℕ). drop m before) whole;
      }
