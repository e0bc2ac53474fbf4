-- The check word detects every change of a sealed byte string that keeps its length and stays within sixteen neighbouring bits.
use mathlib.Core.Bool.{Bool, true, false, not}
use mathlib.Core.List.{List}
use mathlib.Core.Logic.{inl, inr, ⊎_elim}
use mathlib.Core.Path.{◌≡◌, refl, sym, ap, ◌∙◌}
use Prim.Native.Nat.{ℕ, ◌+◌, ◌-◌, ◌*◌, ◌≤◌, ◌<◌, min}
use native.Mathlib.Decide.{dec_le}
use native.Mathlib.Omega.{arith}
use lib.ListN.{length, get_or, length-set, get_or-eq_default}
use lib.Seq.{get_or-set_same, get_or-set_other}
use Rattle.bits.specs.Packed.{bits_of, Bytes}
use Rattle.bits.proofs.Laws.{length_bits, length_bytes, bits_bytes, bytes_are_bytes, equal_bits}
use Rattle.check_word.specs.Division.{divided, remainder, started, sealed}
use Rattle.check_word.specs.Change.{AgreeOutside, inverted, with_bit_inverted}
use Rattle.check_word.proofs.Steps.{not_self, length_started, started_inj, started_agree, same_left}
use Rattle.check_word.proofs.Residue.{sealed_leaves_nothing, length_remainder}

-- a window that reaches behind the last bit, moved to the last sixteen
moved : (k n : ℕ) (bs cs : List Bool) → length bs ≡ n + 16 → length cs ≡ n + 16 → AgreeOutside k 16 bs cs → AgreeOutside (min k n) 16 bs cs
moved k n bs cs l m a i o = ⊎_elim (λ f. a i (inl (omega arith))) (λ f. behind f (dec_le (k + 16) i)) o
  where
    behind : min k n + 16 ≤ i → Dec (k + 16 ≤ i) → get_or bs i false ≡ get_or cs i false
    behind f (yes h) = a i (inr h)
    behind f (no h) =
        let p : length bs ≤ i = omega arith in
        let q : length cs ≤ i = omega arith in
        get_or-eq_default bs false p ∙ sym (get_or-eq_default cs false q)

-- bits that agree outside of sixteen neighbouring positions and of which nothing is left are the same
same_bits : (k : ℕ) (bs cs : List Bool) → 16 ≤ length bs → length bs ≡ length cs → AgreeOutside k 16 bs cs
    → remainder (started bs) ≡ remainder (started cs) → bs ≡ cs
unfolding remainder
same_bits k bs cs h l a e =
    let n = length bs - 16 in
    let p : length (started bs) ≡ n + 16 = length_started bs ∙ omega arith in
    let q : length (started cs) ≡ n + 16 = length_started cs ∙ omega arith in
    started_inj bs cs
    (same_left n (min k n) (started bs) (started cs) p q (omega arith)
    (moved k n (started bs) (started cs) p q (λ i o. started_agree bs cs i l (a i o)))
    (ap (λ (m : ℕ). divided (m - 16) (started bs)) (sym (length_started bs)) ∙ e
    ∙ ap (λ (m : ℕ). divided (m - 16) (started cs)) (length_started cs ∙ sym l)))

-- two sealed byte strings of the same length whose bits agree outside of sixteen neighbouring positions are the same
pub sealed_alike : (s t : List ℕ) (k : ℕ) → Bytes s → Bytes t → length s ≡ length t → sealed s ≡ true → sealed t ≡ true
    → AgreeOutside k 16 (bits_of s) (bits_of t) → s ≡ t
sealed_alike s t k hs ht l es et a =
    let zs = (sealed_leaves_nothing s).0 es in
    let zt = (sealed_leaves_nothing t).0 et in
    equal_bits s t hs ht
    (same_bits k (bits_of s) (bits_of t)
    (omega (arith, ap length zs, length_remainder (bits_of s)))
    (omega (arith, length_bits s, length_bits t)) a (zs ∙ sym zt))

-- A change of a sealed byte string that keeps its length and stays within sixteen neighbouring bits is detected, in header, body or check word alike.
pub detects_burst : (s t : List ℕ) (k : ℕ) → Bytes s → Bytes t → length s ≡ length t → sealed s ≡ true
    → AgreeOutside k 16 (bits_of s) (bits_of t) → ¬ (s ≡ t) → sealed t ≡ false
detects_burst s t k hs ht l es a ne = go (sealed t) refl
  where
    go : (b : Bool) → sealed t ≡ b → sealed t ≡ false
    go false et = et
    go true et = absurd (ne (sealed_alike s t k hs ht l es et a))

-- ---- one bit

bits_inverted : (s : List ℕ) (i : ℕ) → bits_of (with_bit_inverted i s) ≡ inverted i (bits_of s)
unfolding with_bit_inverted inverted
bits_inverted s i = bits_bytes (length s) (inverted i (bits_of s)) (length-set (bits_of s) i (not (get_or (bits_of s) i false)) ∙ length_bits s)

inverted_agree : (i : ℕ) (bs : List Bool) → AgreeOutside i 16 bs (inverted i bs)
unfolding inverted
inverted_agree i bs j o = sym (get_or-set_other bs i j (not (get_or bs i false)) false (⊎_elim (λ f. omega arith) (λ f. omega arith) o))

inverted_at : (i : ℕ) (bs : List Bool) → i < length bs → get_or (inverted i bs) i false ≡ not (get_or bs i false)
unfolding inverted
inverted_at i bs h = get_or-set_same bs i (not (get_or bs i false)) false h

-- A string of which one bit was inverted is the same in all other bits, and is another string.
pub inverted_elsewhere : (s : List ℕ) (i : ℕ) → AgreeOutside i 16 (bits_of s) (bits_of (with_bit_inverted i s))
inverted_elsewhere s i = rw (bits_inverted s i) (inverted_agree i (bits_of s))

pub inverted_differs : (s : List ℕ) (i : ℕ) → i < 8 * length s → ¬ (s ≡ with_bit_inverted i s)
inverted_differs s i h e =
    not_self (get_or (bits_of s) i false)
    (sym (inverted_at i (bits_of s) (rw (length_bits s) h))
    ∙ ap (λ (r : List Bool). get_or r i false) (sym (bits_inverted s i) ∙ ap bits_of (sym e)))

-- A sealed byte string of which one bit was inverted, whichever, is not sealed.
pub detects_one_bit : (s : List ℕ) (i : ℕ) → Bytes s → i < 8 * length s → sealed s ≡ true → sealed (with_bit_inverted i s) ≡ false
unfolding with_bit_inverted
detects_one_bit s i hs h es =
    detects_burst s (with_bit_inverted i s) i hs (bytes_are_bytes (length s) (inverted i (bits_of s)))
    (sym (length_bytes (length s) (inverted i (bits_of s)))) es (inverted_elsewhere s i) (inverted_differs s i h)
