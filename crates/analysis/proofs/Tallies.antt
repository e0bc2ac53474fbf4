-- Laws of the tallies: how one is made, the work of n jobs by it, and the demand as it is added up, task by task.
use Rattle.std.specs.List.{push}
use Rattle.std.proofs.lemmas.List.{length_push, length-append}
use mathlib.Core.List.{List, [], ◌∷◌, ◌++◌, append_assoc, append-nil}
use mathlib.Core.Path.{◌≡◌, refl, sym, ap, ◌∙◌}
use Prim.Native.Nat.{ℕ, zero, suc, ◌+◌, ◌-◌, ◌*◌, ◌/◌, ◌%◌, ◌≤◌, ◌<◌, ◌^◌}
use native.Mathlib.Decide.{ℕ_discrete}
use native.Mathlib.Nat.{le_refl, add-zero, add_assoc, mod-lt, mod-eq_of_lt, mod-add-mod, div-one, mod-one, div-add-mod'}
use native.Mathlib.Numerals.{add-one}
use native.Mathlib.Omega.{arith}
use lib.ListN.{length, get_or, drop, set, length-set, get_or-append, drop_of_length-le}
use lib.Seq.{get_or-set_same, get_or-set_other, drop-cons, get_or-append_seam}
use Rattle.theory.specs.Tasks.{Task, frame_count, frame, work}
use Rattle.theory.specs.Analysis.{Higher, releases, higher_work, demand}
use Rattle.theory.proofs.Laws.{work_zero, work_suc, whole_round, whole_rounds, releases_is, releases_suc, frame_in_period, period_positive, released_less}
use Rattle.theory.proofs.Work.{frame_mod}
use Rattle.sheet.specs.Constants.{most_frames}
use Rattle.sheet.specs.Tasks.{task_in, next_round}
use Rattle.sheet.specs.declared.Task.{Task as Record}
use Rattle.sheet.proofs.Rounds.{round_is}
use Rattle.analysis.specs.Inside.Demand.{counted_from, TallyOf, Counted, released, no_higher, no_tally, Tallies}
use Rattle.analysis.specs.declared.demand.Tally.{Tally}

-- ---- a tally

-- after n frames from frame s the sums of the first 1 to n frames stand, sum is the last of them, and k is the frame that follows
pub record FirstSums (t : Task) (s n : ℕ) (sums : List ℕ) (sum k : ℕ) : Type 0 where
  pub room : length sums ≡ frame_count t
  pub is_work : sum ≡ work t s n
  pub position : k ≡ (s + n) % frame_count t
  pub inside : k < frame_count t
  pub small : sum ≤ 4294967295 * n
  pub stand : (j : ℕ) → j < n → get_or sums j 0 ≡ work t s (suc j)

pub first_none : (t : Task) (s : ℕ) (sums : List ℕ) → length sums ≡ frame_count t → s < frame_count t → FirstSums t s 0 sums 0 s
first_none t s sums room h =
    record {
      room = room;
      is_work = sym (work_zero t s);
      position = rw (add-zero s, mod-eq_of_lt h);
      inside = h;
      small = omega arith;
      stand = λ j l. let z : ⊥ = omega arith in absurd z;
    }

module _ (t : Task) (s n : ℕ) (sums : List ℕ) (sum k : ℕ) (was : FirstSums t s n sums sum k) where
  pub first_more : (v next : ℕ) → n < frame_count t → v ≡ frame t k → next ≡ next_round k (frame_count t) → v < 2 ^ 32
      → FirstSums t s (n + 1) (set sums n (sum + v)) (sum + v) next
  first_more v next h read e fits =
      record {
        room = length-set sums n (sum + v) ∙ was.room;
        is_work = more;
        position = e ∙ round_is k (frame_count t) was.inside ∙ rw (← add-one k, was.position, mod-add-mod (s + n) (frame_count t) 1, add_assoc s n 1);
        inside = rw (e, round_is k (frame_count t) was.inside) (mod-lt (suc k) (omega (arith, was.inside)));
        small = omega (arith, was.small);
        stand = λ j l. at j l (ℕ_discrete j n);
      }
    where
      more : sum + v ≡ work t s (n + 1)
      more = rw (add-one n, work_suc t s n, ← was.is_work, ← frame_mod t (s + n), ← was.position, ← read)

      at : (j : ℕ) → j < n + 1 → Dec (j ≡ n) → get_or (set sums n (sum + v)) j 0 ≡ work t s (suc j)
      at j l (yes q) = rw (q, get_or-set_same sums n (sum + v) 0 (omega (arith, was.room)), ← add-one n) more
      at j l (no q) = rw (get_or-set_other sums n j (sum + v) 0 q) (was.stand j (omega arith))

-- with all frames, behind the sum of none, their count and the period it is the tally of the task
pub tally_made : (r : Record) (s n : ℕ) (sums rest : List ℕ) (sum k : ℕ) → FirstSums (task_in r) s n sums sum k → frame_count (task_in r) ≤ n
    → frame_count (task_in r) ≤ most_frames → r.period < 2 ^ 32
    → TallyOf (counted_from r s) (record { sums = 0 ∷ (sums ++ rest); frame_count = frame_count (task_in r); period = r.period })
unfolding task_in
tally_made r s n sums rest sum k all h few fits =
    record { sums_are = at; count_is = refl; period_is = refl; few_frames = few; period_fits = fits }
  where
    at : (j : ℕ) → j ≤ frame_count (task_in r) → get_or (0 ∷ (sums ++ rest)) j 0 ≡ work (task_in r) s j
    at zero l = sym (work_zero (task_in r) s)
    at (suc j) l = get_or-append sums rest 0 j (omega (arith, all.room)) ∙ all.stand j (omega arith)

-- ---- the work of n jobs

module _ {h : Higher} {tally : Tally} (c : Counted h tally) where
  -- whole rounds times the round's sum, plus the first frames that remain
  pub by_rounds : {m : ℕ} → m ≡ frame_count h.task → (n : ℕ) → n / m * get_or tally.sums m 0 + get_or tally.sums (n % m) 0 ≡ work h.task h.start n
  by_rounds {m} e n =
      ap (λ (x : ℕ). n / m * x + get_or tally.sums (n % m) 0) (a_round ∙ whole_round h.task h.start)
      ∙ ap (λ (x : ℕ). n / m * work h.task 0 (frame_count h.task) + x) (c.tally_of.sums_are (n % m) (omega (arith, mod-lt n some)))
      ∙ sym (whole_rounds h.task h.start (n / m) (n % m))
      ∙ ap (work h.task h.start) (rw (← e) (div-add-mod' n m))
    where
      some : 1 ≤ m
      some = omega (arith, c.well_formed.has_frame)

      a_round : get_or tally.sums m 0 ≡ work h.task h.start (frame_count h.task)
      a_round = rw e (c.tally_of.sums_are (frame_count h.task) (le_refl _))

  -- of one frame each job is a round
  pub one_frame : frame_count h.task ≡ 1 → (n : ℕ) → n * get_or tally.sums 1 0 ≡ work h.task h.start n
  one_frame e n =
      let nothing : get_or tally.sums 0 0 ≡ 0 = c.tally_of.sums_are 0 (omega arith) ∙ work_zero h.task h.start in
      sym (ap (λ (x : ℕ). n * get_or tally.sums 1 0 + x) nothing ∙ add-zero _)
      ∙ rw (div-one, mod-one) at (by_rounds (sym e) n)

  -- in the first period there is one job
  pub one_job : (t : ℕ) → 1 ≤ t → t ≤ h.task.period → get_or tally.sums 1 0 ≡ released h t
  one_job t l u =
      c.tally_of.sums_are 1 c.well_formed.has_frame
      ∙ ap (work h.task h.start) (sym (releases_is (period_positive c.well_formed) 1 t (omega arith) (omega arith)))

-- ⌈t/T⌉ counts the periods that began before
pub releases_are : (t T : ℕ) → 1 ≤ t → 1 ≤ T → (t - 1) / T + 1 ≡ releases t T
releases_are zero T l h = let z : ⊥ = omega arith in absurd z
releases_are (suc t) T l h = let e : suc t - 1 ≡ t = omega arith in ap (λ (x : ℕ). x / T + 1) e ∙ add-one (t / T) ∙ sym (releases_suc h t)

pub released_bound : {h : Higher} {tally : Tally} → Counted h tally → (t : ℕ) → released h t < t + h.task.period
released_bound {h} c t = released_less (period_positive c.well_formed) h.task (frame_in_period h.task c.well_formed) h.start t

-- ---- the demand, as it is added up from the lowest task

-- rest are the tallies of the tasks that are still to come, from the highest down
pub record Added (above : List Tally) (blocked own t : ℕ) (rest : List Tally) (total : ℕ) : Type 0 where
  pub done : List Tally
  pub whole : rest ++ done ≡ above
  pub is_demand : (tallies : Tallies above) → total ≡ demand blocked own (drop (length rest) tallies.tasks) t
  pub small : total ≤ 2 ^ 33 + length done * 2 ^ 33

module _ (above : List Tally) (blocked own t : ℕ) where
  pub added_none : blocked < 2 ^ 32 → own < 2 ^ 32 → Added above blocked own t above (blocked + own)
  unfolding demand higher_work
  added_none b o =
      record {
        done = [];
        whole = append-nil above;
        is_demand = λ tallies. rw (drop_of_length-le tallies.tasks {i = length above} (omega (arith, tallies.many))) (sym (add-zero (blocked + own)));
        small = omega arith;
      }

  module _ (rest : List Tally) (total : ℕ) (left : List Tally) (tally : Tally) (so_far : Added above blocked own t rest total) (next : rest ≡ push left tally) where
    whole_next : left ++ (tally ∷ so_far.done) ≡ above
    whole_next = sym (append_assoc left (tally ∷ []) so_far.done) ∙ ap (λ (l : List Tally). l ++ so_far.done) (sym next) ∙ so_far.whole

    pub inside : length left + length so_far.done < length above
    inside = omega (arith, ap length whole_next, length-append left (tally ∷ so_far.done))

    -- the next tally is that of the task at its place
    pub counted_next : (tallies : Tallies above) → Counted (get_or tallies.tasks (length left) no_higher) tally
    counted_next tallies =
        let there : get_or above (length left) no_tally ≡ tally =
        ap (λ (l : List Tally). get_or l (length left) no_tally) (sym whole_next) ∙ get_or-append_seam left tally so_far.done no_tally in
        rw (← there) (tallies.each (length left) (omega (arith, inside)))

    pub added_next : (w : ℕ) → ((tallies : Tallies above) → w ≡ released (get_or tallies.tasks (length left) no_higher) t) → w < 2 ^ 33
        → Added above blocked own t left (total + w)
    unfolding demand higher_work
    added_next w e few =
        let more : length rest ≡ suc (length left) = ap length next ∙ length_push left tally ∙ add-one (length left) in
        record {
          done = tally ∷ so_far.done;
          whole = whole_next;
          is_demand = λ tallies.
              rw (drop-cons tallies.tasks (length left) no_higher (omega (arith, tallies.many, inside)))
              (omega (arith, e tallies, rw more at (so_far.is_demand tallies)));
          small = omega (arith, so_far.small);
        }

  pub added_all : {rest : List Tally} {total : ℕ} → Added above blocked own t rest total → length rest ≡ 0 → (tallies : Tallies above) → total ≡ demand blocked own tallies.tasks t
  added_all so_far e tallies = rw e at (so_far.is_demand tallies)
