-- The entries of a plan counted: of each task as many as it has releases.
use mathlib.Core.List.{[], ◌∷◌}
use mathlib.Core.Path.{◌≡◌, refl, sym, ap, ap₂, ◌∙◌}
use Prim.Native.Nat.{ℕ, zero, suc, ◌+◌, ◌*◌, ◌≤◌, ◌<◌, zero-le}
use native.Mathlib.Decide.{dec_le, ℕ_discrete}
use native.Mathlib.Numerals.{add-one}
use native.Mathlib.Omega.{arith}
use lib.ListN.{length, get_or, take, length-append}
use lib.Seq.{get_or-take, length-take-le}
use Rattle.theory.proofs.Places.{sum_below}
use Rattle.sheet.specs.Constants.{greatest_time}
use Rattle.analysis.specs.Findings.{in_turn}
use Rattle.plays.specs.WorstScript.{entry_row}
use Rattle.plays.specs.declared.Entry.{Entry}
use Rattle.worst.specs.declared.Plan.{Plan}
use Rattle.worst.specs.Inside.Plans.{no_series, work_with, releases_to, SoundSeries, plan_series, plan_task, SoundPlan, plan_row, tick_row, plan_entries, count_to}
use Rattle.worst.proofs.Releases.{tick_of, release_at, Reached, reached_none, reached_later, reached_more, quiet, counted}
use Rattle.plays.proofs.InTurn.{turn_zero, turn_more, turn_sum}

-- the entry of release c of task i
abbrev pub release_entry : Plan → ℕ → ℕ → Entry
release_entry pl i c =
    record { task = i; tick = tick_of (plan_series pl i) c; work = work_with (plan_task pl i) ((plan_series pl i).next + c) (plan_series pl i).lock; lock = (plan_series pl i).lock }

module _ (pl : Plan) (i : ℕ) (sound : SoundSeries pl.end (plan_task pl i) (plan_series pl i)) where
  -- the row of a tick: that entry at its tick, and none between
  pub row_at : (c : ℕ) → plan_row pl (tick_of (plan_series pl i) c) i ≡ release_entry pl i c ∷ []
  unfolding plan_row entry_row
  row_at c = ap (entry_row i (tick_of (plan_series pl i) c) (plan_series pl i).lock) (release_at (plan_task pl i) (plan_series pl i) sound.step_positive c)

  -- between two releases of a task its rows are empty
  pub row_quiet : {u c : ℕ} → Reached (plan_series pl i) u c → (v : ℕ) → u ≤ v → v < tick_of (plan_series pl i) c → plan_row pl v i ≡ []
  unfolding plan_row entry_row
  row_quiet r v l m = ap (entry_row i v (plan_series pl i).lock) (quiet (plan_series pl i) sound.step_positive (plan_task pl i) r v l m)

  -- the entries of the task before tick u
  before : (u : ℕ) → (c : ℕ) × Reached (plan_series pl i) u c × (length (in_turn (λ t. plan_row pl t i) 0 u) ≡ c)
  before zero = (0, reached_none (plan_series pl i), ap length (turn_zero (λ t. plan_row pl t i)))
  before (suc u) = go (before u)
    where
      more : length (in_turn (λ t. plan_row pl t i) 0 (suc u)) ≡ length (in_turn (λ t. plan_row pl t i) 0 u) + length (plan_row pl u i)
      more = ap length (turn_more (λ t. plan_row pl t i) u) ∙ length-append (in_turn (λ t. plan_row pl t i) 0 u) (plan_row pl u i)

      go : (c : ℕ) × Reached (plan_series pl i) u c × (length (in_turn (λ t. plan_row pl t i) 0 u) ≡ c)
          → (c : ℕ) × Reached (plan_series pl i) (suc u) c × (length (in_turn (λ t. plan_row pl t i) 0 (suc u)) ≡ c)
      go (c, r, e) = at (ℕ_discrete (tick_of (plan_series pl i) c) u)
        where
          at : Dec (tick_of (plan_series pl i) c ≡ u) → (d : ℕ) × Reached (plan_series pl i) (suc u) d × (length (in_turn (λ t. plan_row pl t i) 0 (suc u)) ≡ d)
          at (yes s) = (suc c, reached_more (plan_series pl i) sound.step_positive s r, omega (arith, more, ap length (ap (λ (v : ℕ). plan_row pl v i) (sym s) ∙ row_at c)))
          at (no ne) =
              let later : u < tick_of (plan_series pl i) c = omega (arith, r.ahead) in
              (c, reached_later (plan_series pl i) (omega arith) (omega arith) r, omega (arith, more, ap length (row_quiet r u (omega arith) later)))

  task_counted : length (in_turn (λ t. plan_row pl t i) 0 (suc pl.end)) ≡ releases_to (plan_series pl i).opens (plan_series pl i).step pl.end
  task_counted = let (c, r, e) = before (suc pl.end) in e ∙ sym (counted (plan_series pl i) pl.end c r)

  -- they are few
  pub few_releases : releases_to (plan_series pl i).opens (plan_series pl i).step pl.end ≤ pl.end
  few_releases =
      let (c, r, e) = before (suc pl.end) in
      rw (counted (plan_series pl i) pl.end c r) (go c r (dec_le c pl.end))
    where
      go : (c : ℕ) → Reached (plan_series pl i) (suc pl.end) c → Dec (c ≤ pl.end) → c ≤ pl.end
      go c r (yes h) = h
      go c r (no h) = let b = r.behind pl.end (omega arith) in let z : ⊥ = omega (arith, sound.few) in absurd z

-- as many tasks as the plan has
pub planned : (pl : Plan) → SoundPlan pl → length (take pl.count pl.series) ≡ pl.count
planned pl sound = length-take-le pl.count pl.series (omega (arith, sound.room, sound.few_tasks))

module _ (pl : Plan) (i total r : ℕ) (h : i < pl.count) (et : total ≡ count_to pl i)
    (er : r ≡ releases_to (get_or (take pl.count pl.series) i no_series).opens (get_or (take pl.count pl.series) i no_series).step pl.end) where
  -- one task more
  pub count_more : total + r ≡ count_to pl (i + 1)
  unfolding count_to
  count_more = ap₂ ◌+◌ et (rw (get_or-take pl.count pl.series i no_series h) at er) ∙ ap (count_to pl) (sym (add-one i))

module _ (pl : Plan) (sound : SoundPlan pl) where
  -- before the first task nothing is counted
  pub count_none : 0 ≡ count_to pl 0
  unfolding count_to
  count_none = refl

  -- the count of the first n tasks is small
  pub count_small : (n : ℕ) → n ≤ pl.count → count_to pl n ≤ n * greatest_time
  unfolding count_to
  count_small zero h = zero-le
  count_small (suc n) h = omega (arith, count_small n (omega arith), few_releases pl n (sound.each n h), sound.end_fits)

  tasks_counted : (n : ℕ) → n ≤ pl.count → sum_below n (λ i. length (in_turn (λ t. plan_row pl t i) 0 (suc pl.end))) ≡ count_to pl n
  unfolding count_to sum_below
  tasks_counted zero h = refl
  tasks_counted (suc n) h = ap₂ ◌+◌ (tasks_counted n (omega arith)) (task_counted pl n (sound.each n h))

  -- all entries
  pub all_counted : (n : ℕ) → n ≡ pl.count → count_to pl n ≡ length (plan_entries pl)
  unfolding plan_entries tick_row
  all_counted n e = ap (count_to pl) e ∙ sym (turn_sum (plan_row pl) pl.count (suc pl.end) ∙ tasks_counted pl.count (omega arith))

  -- the entries are fewer than their field can count
  pub entries_few : length (plan_entries pl) ≤ 16 * greatest_time
  entries_few = omega (arith, sym (all_counted pl.count refl), count_small pl.count (omega arith), sound.few_tasks)
