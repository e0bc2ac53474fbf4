-- An array that is filled from the front: what was put so far, and the same blank value in every slot behind it.
use Rattle.std.proofs.Common.{◌≡◌, ℕ, suc, ◌-◌, ◌<◌, List, ◌∷◌, [], ◌++◌, length, set, replicate, arith, sym, ◌∙◌}
use Rattle.std.proofs.lemmas.List.{length-replicate}
use Rattle.std.proofs.Math.ListN.{get_or-replicate}
use Rattle.std.proofs.Math.Seq.{set_at, append_snoc, ext_get_or}
use Rattle.std.specs.Array.{AllOfLen}
use Rattle.sheet.specs.Constants.{most_frames}
use Rattle.sheet.specs.Tasks.{blank_record}
use Rattle.sheet.specs.declared.Task.{Task as Record}

pub put_next {ℓ} : {A : Type ℓ} (xs : List A) (n m : ℕ) (blank a : A) → length xs ≡ n → n < m
    → set (xs ++ replicate (m - n) blank) n a ≡ (xs ++ a ∷ []) ++ replicate (m - suc n) blank
put_next xs n m blank a e h =
    let more : m - n ≡ suc (m - suc n) = omega arith in
    rw more (set_at xs blank (replicate (m - suc n) blank) a n e ∙ sym (append_snoc xs a (replicate (m - suc n) blank)))

-- what `Task::default` gives

zeros : (xs : List ℕ) (n : ℕ) → AllOfLen (λ x. x ≡ 0) xs n → xs ≡ replicate n 0
zeros xs n a = ext_get_or 0 xs (replicate n 0) (a.long ∙ sym (length-replicate n 0)) (λ k h. a.at k 0 (omega (arith, a.long)) ∙ sym (get_or-replicate n k 0 0 (omega (arith, a.long))))

blank_parts : (r : Record) → r.period ≡ 0 → r.lock ≡ 0 → r.frame_count ≡ 0 → r.frames ≡ replicate most_frames 0 → r.deadlines ≡ replicate most_frames 0 → r ≡ blank_record
unfolding blank_record
blank_parts r a b c d e = λ k. record { period = a k; lock = b k; frame_count = c k; frames = d k; deadlines = e k }

pub blank_task : (r : Record) → (r.period ≡ 0) × ((r.lock ≡ 0) × ((r.frame_count ≡ 0) × (AllOfLen (λ x. x ≡ 0) r.frames most_frames × AllOfLen (λ x. x ≡ 0) r.deadlines most_frames))) → r ≡ blank_record
blank_task r h = blank_parts r h.0 h.1.0 h.1.1.0 (zeros r.frames most_frames h.1.1.1.0) (zeros r.deadlines most_frames h.1.1.1.1)
