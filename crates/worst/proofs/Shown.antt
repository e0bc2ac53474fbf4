-- What the written bytes are: a script of which nothing is turned away, whose run is the worst run, and whose play ends with the miss.
use Rattle.std.specs.Prelude.{None, Some}
use mathlib.Core.Bool.{true}
use mathlib.Core.List.{List, Memᴰ}
use mathlib.Core.Path.{◌≡◌, refl, ap}
use Prim.Native.Nat.{ℕ, zero, suc, ◌+◌, ◌≤◌, ◌<◌}
use native.Mathlib.Nat.{zero-add, le_trans}
use native.Mathlib.Omega.{arith}
use lib.ListN.{length}
use Rattle.lent.specs.Checks.{first_refusal}
use Rattle.theory.specs.Tasks.{Task, task_at, frame_count, deadline_of, Admitted}
use Rattle.theory.specs.Analysis.{FirstWithout, blocker}
use Rattle.theory.specs.WorstRun.{worst_run}
use Rattle.theory.proofs.Laws.{IsMissed, verdict_missed, frame_in_period}
use Rattle.sheet.specs.Constants.{most_tasks, most_frames, greatest_time}
use Rattle.sheet.proofs.Carried.{Carried, carried_fit}
use Rattle.sheet.proofs.InFields.{InFields}
use Rattle.sheet.proofs.Analysable.{each_at}
use Rattle.order.specs.Order.{priority_order, ordered_set}
use Rattle.order.proofs.Order.{order_permutes}
use Rattle.order.proofs.Laws.{ordered_length, ordered_at, ordered_admitted}
use Rattle.analysis.specs.Times.{number_at}
use Rattle.analysis.proofs.Numbering.{number_in}
use Rattle.analysis.specs.Misses.{miss_in}
use Rattle.analysis.proofs.MissedFrames.{miss_names}
use Rattle.plays.specs.Script.{Script}
use Rattle.plays.specs.Items.{item_checks}
use Rattle.plays.specs.ScriptRun.{script_run}
use Rattle.plays.specs.Play.{misser, end_of_play}
use Rattle.plays.specs.WorstScript.{worst_firsts, worst_script, SameRun}
use Rattle.plays.specs.declared.Entry.{Entry}
use Rattle.plays.proofs.Ledgers.{entry_found, entry_is}
use Rattle.plays.proofs.ScriptFacts.{member_at}
use Rattle.plays.proofs.ScriptLegal.{firsts_fit, firsts_and_entries, entries_in_order, entry_sound}
use Rattle.plays.proofs.WorstCount.{worst_few}
use Rattle.plays.proofs.WorstEntries.{worst_entry_is}
use Rattle.plays.proofs.WorstPlayed.{worst_script_is}
use Rattle.plays.proofs.WorstSound.{worst_script_sound}
use Rattle.plays.proofs.WorstMiss.{worst_play}
use Rattle.records.proofs.Filling.{length_sealed}
use Rattle.scripts.specs.Reading.{script_in, well_made}
use Rattle.scripts.specs.Writing.{script_bits, script_of, EntryFits, Fits}
use Rattle.scripts.proofs.RoundTrip.{script_reads_back, script_is_well_made, script_long}
use Rattle.scripts.proofs.Widths.{width_is}
use Rattle.worst.specs.Writing.{most_bytes}

firsts_long : (order : List ℕ) (tasks : List Task) (p k i n : ℕ) → length (worst_firsts order tasks p k i n) ≡ n
unfolding worst_firsts
firsts_long order tasks p k i zero = refl
firsts_long order tasks p k i (suc n) = ap suc (firsts_long order tasks p k (suc i) n)

module _ (policy : ℕ) (tasks : List Task) (carried : Carried policy tasks) (admitted : Admitted tasks) (p k : ℕ) (e : miss_in (ordered_set policy tasks) ≡ Some (record { place = p; frame = k })) where
  abbrev order : List ℕ
  order = priority_order policy tasks

  abbrev set : List Task
  set = ordered_set policy tasks

  abbrev sc : Script
  sc = worst_script order tasks p k

  abbrev D : ℕ
  D = deadline_of (task_at set p) k

  names : IsMissed set p (blocker set p) × FirstWithout set p k
  names = miss_names set p k e

  in_set : p < length tasks
  in_set = rw (ordered_length policy tasks) at names.0.in_set

  place_task : task_at set p ≡ task_at tasks (number_at order p)
  unfolding number_at
  place_task = ordered_at policy tasks p in_set

  each_fits : (i : ℕ) → i < length tasks → InFields (task_at tasks i)
  each_fits = each_at (carried_fit carried)

  few_frames : (i : ℕ) → i < length tasks → frame_count (task_at tasks i) ≤ most_frames
  unfolding frame_count
  few_frames i h = (each_fits i h).few_frames

  k_in : k < frame_count (task_at set p)
  k_in = names.1.frame_in

  in_time : D ≤ greatest_time
  in_time =
      let i = number_at order p in
      let i_in : i < length tasks = number_in (length tasks) order (order_permutes policy tasks) p in_set in
      rw place_task (omega (arith, (admitted.each_task i i_in).well_formed.deadline_in_period k (rw place_task at k_in), (each_fits i i_in).period_fits))

  kept : first_refusal (item_checks tasks sc) ≡ None
  unfolding ordered_set
  kept = worst_script_sound order tasks carried.few_tasks (order_permutes policy tasks) (ordered_admitted policy tasks admitted) p in_set k k_in

  entry_fits : (d : Entry) → Memᴰ d sc.entries → EntryFits d
  unfolding ordered_set
  entry_fits d m =
      let w = worst_entry_is order tasks p k d m in
      let (xs, ys, split, _, _) = entry_found sc.entries d.task d.tick d (entry_is 0 sc.entries (entries_in_order tasks sc kept) d m) in
      let s = entry_sound tasks sc kept xs d ys split in
      let f = each_fits d.task s.in_set in
      record {
        task_fits = omega (arith, s.in_set, carried.few_tasks);
        tick_fits = omega (arith, w.by_deadline, in_time);
        work_fits = omega (arith, le_trans s.work_fits (frame_in_period (task_at tasks d.task) (admitted.each_task d.task s.in_set).well_formed _), f.period_fits);
        lock_fits = omega (arith, s.lock_fits, f.lock_fits);
      }

  -- it has few entries, since the tasks above the named one pass
  few : length sc.entries ≤ D + length tasks
  unfolding ordered_set
  few = worst_few order tasks (order_permutes policy tasks) (ordered_admitted policy tasks admitted) p k in_set names.0.earlier_pass

  -- its numbers fit their fields
  fits : Fits (length tasks) sc
  unfolding worst_script ordered_set
  fits =
      record {
        as_many = firsts_long order tasks p k 0 (length tasks);
        firsts_fit =
            λ i h.
            let first = firsts_fit tasks 0 sc.firsts (firsts_and_entries tasks sc kept).0 i (omega (arith, firsts_long order tasks p k 0 (length tasks))) in
            omega (arith, rw (zero-add i) at first, few_frames i h);
        few_entries = omega (arith, few, in_time, carried.few_tasks);
        entries_fit = λ j h. entry_fits _ (member_at sc.entries j h);
      }

  -- The bytes are a script, and what they say is the worst script.
  pub worst_made : well_made (length tasks) (script_of (worst_script (priority_order policy tasks) tasks p k)) ≡ true
  worst_made = script_is_well_made (length tasks) sc fits

  pub worst_reads_back : script_in (length tasks) (script_of (worst_script (priority_order policy tasks) tasks p k)) ≡ worst_script (priority_order policy tasks) tasks p k
  worst_reads_back = script_reads_back (length tasks) sc fits

  -- None of its items is turned away.
  pub worst_kept : first_refusal (item_checks tasks (worst_script (priority_order policy tasks) tasks p k)) ≡ None
  worst_kept = kept

  -- Its run is the worst run.
  pub worst_is : SameRun (suc (deadline_of (task_at (ordered_set policy tasks) p) k)) (ordered_set policy tasks)
      (script_run (priority_order policy tasks) tasks (worst_script (priority_order policy tasks) tasks p k) (suc (deadline_of (task_at (ordered_set policy tasks) p) k)))
      (worst_run (ordered_set policy tasks) p k)
  unfolding ordered_set
  worst_is = worst_script_is order tasks (order_permutes policy tasks) (ordered_admitted policy tasks admitted) p in_set k k_in

  -- Its play ends with the miss of the named task, at 1 + D.
  pub worst_ends : (end_of_play (priority_order policy tasks) tasks (worst_script (priority_order policy tasks) tasks p k) ≡ suc (deadline_of (task_at (ordered_set policy tasks) p) k))
      × (misser (priority_order policy tasks) tasks (worst_script (priority_order policy tasks) tasks p k) (suc (deadline_of (task_at (ordered_set policy tasks) p) k))
      ≡ Some (number_at (priority_order policy tasks) p))
  unfolding ordered_set
  worst_ends =
      worst_play order tasks (order_permutes policy tasks) (ordered_admitted policy tasks admitted) p in_set k k_in (blocker set p) ((verdict_missed set).1 names.0) names.1 in_time

  -- How many bytes there are at the most.
  pub worst_bytes_few : length (script_of (worst_script (priority_order policy tasks) tasks p k)) ≤ most_bytes
  unfolding script_of
  worst_bytes_few =
      let n = length tasks in
      let m = length sc.entries in
      omega (arith, length_sealed (script_bits sc), script_long n sc fits, width_is n m, width_is most_tasks (greatest_time + most_tasks), few, in_time, carried.few_tasks)

-- The number of bytes that docs and header give.
pub most_bytes_are : most_bytes ≡ 8388741
most_bytes_are = omega (arith, width_is most_tasks (greatest_time + most_tasks))
