-- `write_frame` meets its contract: no room, or the script and behind it what stood there.
use Rattle.std.specs.Prelude.{Ok, Option, Result, Some}
use Rattle.std.proofs.Common.{◌≡◌, ℕ, List, ◌++◌, map, length, get_or, drop, ap, ap₂, ◌∙◌, arith, rules}
use lib.Seq.{length-take-le}
use Rattle.lent.specs.Lent.{laid}
use Rattle.theory.specs.Tasks.{deadline_of}
use Rattle.records.specs.Sealed.{sealed_size}
use Rattle.sheet.specs.Constants.{most_tasks}
use Rattle.sheet.specs.Tasks.{task_in, records_of}
use Rattle.sheet.specs.Admission.{admission}
use Rattle.sheet.specs.declared.Refusal.{Refusal}
use Rattle.sheet.specs.declared.TaskSet.{TaskSet}
use Rattle.sheet.proofs.Carried.{by_admission}
use Rattle.order.specs.Order.{priority_order, ordered_set}
use Rattle.order.specs.Ordered.{ordered, blocker_at}
use Rattle.order.specs.declared.Ordered.{Ordered}
use Rattle.analysis.specs.Misses.{miss_in}
use Rattle.analysis.specs.declared.MissedFrame.{MissedFrame}
use Rattle.analysis.proofs.Entries.{shaped}
use Rattle.plays.specs.Script.{Script}
use Rattle.plays.specs.WorstScript.{worst_script}
use Rattle.scripts.specs.Format.{script_width}
use Rattle.scripts.specs.Writing.{script_of}
use Rattle.worst.specs.declared.Plan.{Plan}
use Rattle.worst.specs.Inside.Plans.{SoundPlan, plan_entries, plan_script}
use Rattle.worst.specs.Inside.Steps.{PlanFor}
use Rattle.worst.proofs.Planning.{nowhere}
use Rattle.worst.proofs.Scripts.{place_inside, order_stands, end_fits, plan_is, plan_sound}
use Rattle.worst.proofs.Whole.{script_size_is}
use Rattle.worst.proofs.Outcomes.{no_room, script_done}
use Rattle.worst.proofs.write_frame.Goals as goal

-- the plan is sound, and its script is the worst script
record Planned (set : TaskSet) (m : MissedFrame) (plan : Plan) : Type 0 where
  sound : SoundPlan plan
  script_is : plan_script plan ≡ worst_script (priority_order set.policy (map task_in (records_of set))) (map task_in (records_of set)) m.place m.frame

planned : {set : TaskSet} {m : MissedFrame} {d : ℕ} {o : Ordered} {b : Option ℕ} {plan : Plan} → length set.tasks ≡ most_tasks → length plan.series ≡ most_tasks
    → admission set ≡ Ok tt → miss_in (ordered_set set.policy (map task_in (records_of set))) ≡ Some m → o ≡ ordered set
    → b ≡ blocker_at o m.place → d ≡ deadline_of (task_in (get_or o.places m.place nowhere).task) m.frame
    → PlanFor o set.tasks (record { place = m.place; frame = m.frame; blocker = b; end = d }) plan → Planned set m plan
planned {set} long room admitted missed eo eb ed given =
    record {
      sound = plan_sound set long admitted _ _ missed _ eo _ _ eb ed _ room given;
      script_is = plan_is set long admitted _ _ missed _ eo _ _ eb ed _ room given;
    }

-- its size is found
module _ {set : TaskSet} {m : MissedFrame} {entries size : ℕ} {plan : Plan} (h : Planned set m plan) (counted : entries ≡ length (plan_entries plan))
    (found : size ≡ sealed_size (script_width plan.count entries)) where
  size_planned : size ≡ length (script_of (plan_script plan))
  size_planned = found ∙ script_size_is plan h.sound _ counted

  size_is : size ≡ length (script_of (worst_script (priority_order set.policy (map task_in (records_of set))) (map task_in (records_of set)) m.place m.frame))
  size_is = size_planned ∙ ap (λ (s : Script). length (script_of s)) h.script_is

pub bounds-o-missed : goal.bounds-o-missed
bounds-o-missed c =
    let long : length c.args.judged.set.tasks ≡ most_tasks = search rules in
    let admitted = c.requires.judged.admits in
    omega (arith, place_inside c.args.judged.set long admitted _ _ c.requires.misses, (by_admission c.args.judged.set long admitted).few_tasks)

pub plan_for-plan-requires-clause-stand : goal.plan_for-plan-requires-clause-stand
plan_for-plan-requires-clause-stand c =
    let long : length c.args.judged.set.tasks ≡ most_tasks = search rules in
    rw c.in_order-o.ensures (shaped c.args.judged.set long c.requires.judged.admits _ c.requires.judged.shapes_are)

pub plan_for-plan-requires-clause-numbered : goal.plan_for-plan-requires-clause-numbered
plan_for-plan-requires-clause-numbered c =
    let long : length c.args.judged.set.tasks ≡ most_tasks = search rules in
    order_stands c.args.judged.set long c.requires.judged.admits _ _ c.requires.misses _ c.in_order-o.ensures

pub plan_for-plan-requires-clause-short : goal.plan_for-plan-requires-clause-short
plan_for-plan-requires-clause-short c =
    let long : length c.args.judged.set.tasks ≡ most_tasks = search rules in
    end_fits c.args.judged.set long c.requires.judged.admits _ _ c.requires.misses _ c.in_order-o.ensures _ c.deadline_of.ensures

pub entry_count-entries-requires : goal.entry_count-entries-requires
entry_count-entries-requires c =
    let h = planned (search rules) (search rules) c.requires.judged.admits c.requires.misses c.in_order-o.ensures c.blocker_of.ensures c.deadline_of.ensures c.plan_for-plan.ensures in
    h.sound

pub returns-then-script-size : goal.returns-then-script-size
returns-then-script-size c =
    let h = planned (search rules) (search rules) c.requires.judged.admits c.requires.misses c.in_order-o.ensures c.blocker_of.ensures c.deadline_of.ensures c.plan_for-plan.ensures in
    no_room _ _ _ _ c.requires.misses (rw (← size_is h c.entry_count-entries.ensures c.script_size-size.ensures) (omega arith))

pub put_script-requires : goal.put_script-requires
put_script-requires c =
    let h = planned (search rules) (search rules) c.requires.judged.admits c.requires.misses c.in_order-o.ensures c.blocker_of.ensures c.deadline_of.ensures c.plan_for-plan.ensures in
    let counted = c.entry_count-entries.ensures in
    (h.sound, counted, length-take-le _ c.args.script.now (omega arith) ∙ size_planned h counted c.script_size-size.ensures)

pub returns : goal.returns
unfolding laid
returns c =
    let h = planned (search rules) (search rules) c.requires.judged.admits c.requires.misses c.in_order-o.ensures c.blocker_of.ensures c.deadline_of.ensures c.plan_for-plan.ensures in
    let size = size_is h c.entry_count-entries.ensures c.script_size-size.ensures in
    let d = script_done _ _ c.args.script.now _ c.requires.misses (rw (← size) (omega arith)) in (
      ap (λ (n : ℕ). let x : Result (Option ℕ) Refusal = Ok (Some n) in x) size ∙ d.0,
      ap₂ (λ (l : List ℕ) (n : ℕ). l ++ drop n c.args.script.now) (c.put_script.ensures ∙ ap script_of h.script_is) size ∙ d.1,
    )
