-- The times of an analysis put to lent numbers place by place.
use Rattle.std.specs.Prelude.{Err, Ok}
use mathlib.Core.List.{List, ◌++◌}
use mathlib.Core.Path.{◌≡◌, sym, ap, ◌∙◌}
use Prim.Native.Nat.{ℕ, ◌+◌, ◌-◌, ◌*◌, ◌≤◌, ◌<◌}
use native.Mathlib.Omega.{arith}
use lib.ListN.{length, get_or, take, drop, get_or-map}
use lib.Seq.{get_or-take, length-take-le}
use borrow.Rule.Slice.PartMut.{put_mid}
use Rattle.lent.specs.Lent.{laid}
use Rattle.lent.proofs.Checks.{no_check}
use Rattle.lent.proofs.Lent.{by_room, done, turned_tells, done_tells}
use Rattle.sheet.specs.Constants.{most_frames}
use Rattle.sheet.specs.declared.Refusal.TheVariants.{Room}
use Rattle.analysis.specs.Times.{number_at, place_of, written_slots}
use Rattle.analysis.specs.Findings.{no_finding, finding_in, slots_in, numbers_found, times_by_number}
use Rattle.analysis.specs.Inside.Numbered.{Numbered}
use Rattle.analysis.specs.Inside.Delivery.{decision_in, delivering, delivered_decision, delivered}
use Rattle.analysis.specs.declared.Analysis.{Analysis}
use Rattle.analysis.specs.declared.Finding.{Finding}
use Rattle.analysis.proofs.ByNumber.{copied, Stands, stands_more, all_stand, turn_length}
use Rattle.analysis.proofs.Numbering.{place_in, number_back, number_in}

-- after p places their times stand at their numbers
abbrev pub AtNumbers : Analysis → List ℕ → List ℕ → ℕ → Type 0
AtNumbers a = Stands 0 most_frames a.task_count (λ p. (finding_in a p).number) (slots_in a)

module _ (a : Analysis) (h : Numbered a) where
  abbrev n : ℕ
  n = a.task_count

  pub number_found : (p : ℕ) → p < n → number_at (numbers_found a) p ≡ (finding_in a p).number
  unfolding number_at numbers_found
  number_found p l =
      get_or-map (λ (f : Finding). f.number) (take n a.findings) p no_finding ∙ ap (λ (f : Finding). f.number) (get_or-take n a.findings p no_finding l)

  -- the findings that are looked at
  abbrev used : List Finding
  used = take n a.findings

  used_length : length used ≡ n
  used_length = length-take-le n a.findings (omega (arith, h.room, h.few))

  used_is : (p : ℕ) → p < n → get_or used p no_finding ≡ finding_in a p
  used_is p l = get_or-take n a.findings p no_finding l

  pub number_below : (p : ℕ) → p < n → (finding_in a p).number < n
  number_below p l = rw (← number_found p l) (number_in n (numbers_found a) h.numbers p l)

  pub number_used : (p : ℕ) → p < length used → (get_or used p no_finding).number < n
  number_used p l = let inside : p < n = omega (arith, used_length) in rw (used_is p inside) (number_below p inside)

  pub numbers_apart : (p q : ℕ) → p < n → q < n → (finding_in a p).number ≡ (finding_in a q).number → p ≡ q
  unfolding number_at
  numbers_apart p q l m e = h.numbers.no_two p q l m (number_found p l ∙ e ∙ sym (number_found q m))

  abbrev pub place_found : ℕ → ℕ
  place_found i = place_of (numbers_found a) i

  pub place_found_in : (i : ℕ) → i < n → place_found i < n
  place_found_in i l = place_in n (numbers_found a) h.numbers i l

  pub number_found_back : (i : ℕ) → i < n → (finding_in a (place_found i)).number ≡ i
  number_found_back i l = sym (number_found (place_found i) (place_found_in i l)) ∙ number_back n (numbers_found a) h.numbers i l

  pub by_number_length : length (times_by_number a) ≡ most_frames * n
  unfolding times_by_number
  by_number_length = turn_length (λ i. slots_in a (place_found i)) most_frames 0 n (λ i l. h.eight (place_found i) (place_found_in i (omega arith)))

  pub no_room : (room : List ℕ) → length room < most_frames * n → (Err Room ≡ delivered_decision a room) × (room ≡ delivered a room)
  unfolding delivered_decision delivered delivering
  no_room room l = turned_tells Room (delivering a) room (by_room Room (delivering a) room no_check (rw by_number_length l))

  module _ (room : List ℕ) (enough : most_frames * n ≤ length room) where
    pub numbers_more : (now : List ℕ) (p : ℕ) → p < n → AtNumbers a room now p
        → AtNumbers a room (take (most_frames * (finding_in a p).number) now ++ slots_in a p ++ drop (most_frames * (finding_in a p).number + most_frames) now) (p + 1)
    numbers_more now p l s = stands_more 0 most_frames n (λ p. (finding_in a p).number) (slots_in a) number_below numbers_apart h.eight room enough now p l s

    -- the same as the code puts them
    pub put_more : (now : List ℕ) (p : ℕ) (f : Finding) (row : List ℕ) → p < length used → f ≡ get_or used p no_finding → row ≡ written_slots f.times → AtNumbers a room now p
        → AtNumbers a room (put_mid (most_frames * f.number) (most_frames * f.number + most_frames - most_frames * f.number) now row) (p + 1)
    put_more now p f row l ef er s =
        let inside : p < n = omega (arith, used_length) in
        let here : f ≡ finding_in a p = ef ∙ used_is p inside in
        let is : row ≡ slots_in a p = er ∙ ap (λ (g : Finding). written_slots g.times) here in
        let eight : most_frames * f.number + most_frames - most_frames * f.number ≡ most_frames = omega arith in
        rw (copied now row (most_frames * f.number) most_frames _ eight, here, is)
        (numbers_more now p inside s)

    pub all_numbers : (now : List ℕ) → AtNumbers a room now n → (Ok (decision_in a) ≡ delivered_decision a room) × (now ≡ delivered a room)
    unfolding delivered_decision delivered delivering laid times_by_number
    all_numbers now s =
        let d = done_tells Room (delivering a) room (done Room (delivering a) room no_check (rw by_number_length enough)) in (
          d.0,
          all_stand 0 most_frames n (λ p. (finding_in a p).number) (slots_in a) number_below numbers_apart h.eight room enough
              place_found place_found_in number_found_back now s ∙ ap (λ (m : ℕ). times_by_number a ++ drop m room) (sym by_number_length) ∙ d.1,
        )
