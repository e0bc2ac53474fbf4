-- Numbers that stand by turns, and the fields of a task's frames in both forms.
use Rattle.std.proofs.Common.{◌≡◌, ℕ, zero, suc, ◌*◌, ◌^◌, ◌<◌, Bool, true, false, List, [], ◌∷◌, length, get_or, replicate, sym, refl, ap, ◌∙◌, one-mul, arith}
use lib.ListN.{length-replicate}
use Rattle.sheet.specs.Constants.{time_width}
use Rattle.sheet.specs.Fields.{frame_fields, frame_widths}
use Rattle.sheet.specs.Layout.{firsts, seconds}
use Rattle.sheet.specs.Writing.{by_turns}
use Rattle.records.proofs.Packing.{Fit, no_field, one_more}

-- ---- two lists by turns

twice_suc : (n : ℕ) → 2 * suc n ≡ suc (suc (2 * n))
twice_suc n = omega arith

pub length_turns : (cs ds : List ℕ) → length ds ≡ length cs → length (by_turns cs ds) ≡ 2 * length cs
unfolding by_turns
length_turns [] ds e = refl
length_turns (c ∷ cs) [] e = let z : ⊥ = omega arith in absurd z
length_turns (c ∷ cs) (d ∷ ds) e = ap (λ (n : ℕ). suc (suc n)) (length_turns cs ds (omega arith)) ∙ sym (twice_suc (length cs))

pub firsts_turns : (cs ds : List ℕ) → length ds ≡ length cs → firsts (by_turns cs ds) ≡ cs
unfolding by_turns firsts
firsts_turns [] ds e = refl
firsts_turns (c ∷ cs) [] e = let z : ⊥ = omega arith in absurd z
firsts_turns (c ∷ cs) (d ∷ ds) e = ap (λ (l : List ℕ). c ∷ l) (firsts_turns cs ds (omega arith))

pub seconds_turns : (cs ds : List ℕ) → length ds ≡ length cs → seconds (by_turns cs ds) ≡ ds
unfolding by_turns seconds
seconds_turns [] [] e = refl
seconds_turns [] (d ∷ ds) e = let z : ⊥ = omega arith in absurd z
seconds_turns (c ∷ cs) [] e = let z : ⊥ = omega arith in absurd z
seconds_turns (c ∷ cs) (d ∷ ds) e = ap (λ (l : List ℕ). d ∷ l) (seconds_turns cs ds (omega arith))

-- two by two a row is as it was
pub turns_again : (n : ℕ) (ns : List ℕ) → length ns ≡ 2 * n → by_turns (firsts ns) (seconds ns) ≡ ns
unfolding by_turns firsts seconds
turns_again n [] e = refl
turns_again zero (a ∷ []) e = let z : ⊥ = omega arith in absurd z
turns_again (suc n) (a ∷ []) e = let z : ⊥ = omega arith in absurd z
turns_again zero (a ∷ b ∷ ns) e = let z : ⊥ = omega arith in absurd z
turns_again (suc n) (a ∷ b ∷ ns) e = ap (λ (l : List ℕ). a ∷ b ∷ l) (turns_again n ns (omega arith))

pub length_firsts : (n : ℕ) (ns : List ℕ) → length ns ≡ 2 * n → length (firsts ns) ≡ n
unfolding firsts
length_firsts zero [] e = refl
length_firsts (suc n) [] e = let z : ⊥ = omega arith in absurd z
length_firsts n (a ∷ []) e = let z : ⊥ = omega arith in absurd z
length_firsts zero (a ∷ b ∷ ns) e = let z : ⊥ = omega arith in absurd z
length_firsts (suc n) (a ∷ b ∷ ns) e = ap suc (length_firsts n ns (omega arith))

-- as many seconds as firsts
pub as_many_seconds : (ns : List ℕ) → length (seconds ns) ≡ length (firsts ns)
unfolding firsts seconds
as_many_seconds [] = refl
as_many_seconds (a ∷ []) = refl
as_many_seconds (a ∷ b ∷ ns) = ap suc (as_many_seconds ns)

-- ---- number by number

pub first_at : (ns : List ℕ) (k : ℕ) → k < length (firsts ns) → get_or (firsts ns) k 0 ≡ get_or ns (2 * k) 0
unfolding firsts
first_at [] k h = let z : ⊥ = omega arith in absurd z
first_at (a ∷ []) k h = let z : ⊥ = omega arith in absurd z
first_at (a ∷ b ∷ ns) zero h = refl
first_at (a ∷ b ∷ ns) (suc k) h = rw (twice_suc k) (first_at ns k (omega arith))

pub second_at : (ns : List ℕ) (k : ℕ) → k < length (firsts ns) → get_or (seconds ns) k 0 ≡ get_or ns (suc (2 * k)) 0
unfolding firsts seconds
second_at [] k h = let z : ⊥ = omega arith in absurd z
second_at (a ∷ []) k h = let z : ⊥ = omega arith in absurd z
second_at (a ∷ b ∷ ns) zero h = refl
second_at (a ∷ b ∷ ns) (suc k) h = rw (twice_suc k) (second_at ns k (omega arith))

-- ---- the fields of n frames

pub one_each : (n : ℕ) → frame_widths false n ≡ replicate n time_width
one_each n = rw (one-mul n)

pub two_each : (n : ℕ) → frame_widths true (suc n) ≡ time_width ∷ time_width ∷ frame_widths true n
two_each n = rw (twice_suc n)

pub length_frame_widths : (own : Bool) (n : ℕ) → length (frame_widths own n) ≡ frame_fields own * n
length_frame_widths own n = length-replicate (frame_fields own * n) time_width

-- ---- numbers that fit

-- each of n numbers fits the field of a time
abbrev pub Times : List ℕ → Type 0
Times ns = Fit (replicate (length ns) time_width) ns

pub time_at : (ns : List ℕ) (i : ℕ) → Times ns → i < length ns → get_or ns i 0 < 2 ^ time_width
time_at [] i no_field h = let z : ⊥ = omega arith in absurd z
time_at (n ∷ ns) zero (one_more l f) h = l
time_at (n ∷ ns) (suc i) (one_more l f) h = time_at ns i f (omega arith)

pub turns_fit : (cs ds : List ℕ) → length ds ≡ length cs → Times cs → Times ds → Fit (frame_widths true (length cs)) (by_turns cs ds)
unfolding by_turns
turns_fit [] ds e f g = no_field
turns_fit (c ∷ cs) [] e f g = let z : ⊥ = omega arith in absurd z
turns_fit (c ∷ cs) (d ∷ ds) e (one_more l f) (one_more m g) = rw (two_each (length cs)) (one_more l (one_more m (turns_fit cs ds (omega arith) f g)))
