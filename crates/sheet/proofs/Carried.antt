-- What an admitted set and an admitted sheet have in common: a policy and tasks that a sheet carries.
use Rattle.std.specs.Prelude.{Err, Ok, Result}
use Rattle.std.proofs.Common.{◌≡◌, ℕ, suc, ◌≤◌, true, leb, List, [], ◌∷◌, ◌++◌, map, length, refl, ap, ◌∙◌, ap₂, arith, length-take, eqb-true, leb-true}
use mathlib.Core.Bool.{and-eq-true_iff}
use borrow.Author.Tests.{not-false}
use lib.ListN.{length-map}
use Rattle.bits.specs.Packed.{bits_of}
use Rattle.check_word.specs.Division.{body, sealed}
use Rattle.theory.specs.Tasks.{Task}
use Rattle.sheet.specs.Constants.{version_1, version_2, most_tasks, most_frames, least_size, greatest_size}
use Rattle.sheet.specs.Tasks.{task_in, record_of, records_of, set_with}
use Rattle.sheet.specs.Fields.{own_deadlines}
use Rattle.sheet.specs.Layout.{header_in, behind_header}
use Rattle.sheet.specs.Admission.{decided, known_policy, policy_check, task_count_check, frame_count_check, task_checks, frame_count_checks, list_checks, admission}
use Rattle.sheet.specs.Reading.{layout_checks, version_among, checks_among, sheet_checks, version_of, policy_of, tasks_of, reading_of, reading_among, reading}
use Rattle.sheet.specs.declared.Task.{Task as Record}
use Rattle.sheet.specs.declared.TaskSet.{TaskSet}
use Rattle.sheet.specs.declared.Reading.{Reading}
use Rattle.sheet.proofs.Records.{AsMany, tasks_with, records_with}
use Rattle.sheet.proofs.Counts.{count_passes, count_passed, policy_passes, policy_passed}
use Rattle.sheet.proofs.InFields.{InFields, Each, no_task, task_more, each_map, FewFrames, FramesCounted, each_formed, as_many_formed, tasks_in_fields}
use Rattle.sheet.proofs.Checks.{admitted_first, passed_over, passed, no_check, both_passed}
use Rattle.sheet.proofs.RecordBits.{Held, LaidOut, layout_read, length_tasks_in, as_many_read, all_held_read}
use Rattle.sheet.specs.declared.Refusal.{Refusal}

pub record Carried (policy : ℕ) (ts : List Task) : Type 0 where
  pub policy_known : known_policy policy ≡ true
  pub some_task : 1 ≤ length ts
  pub few_tasks : length ts ≤ most_tasks
  pub counted : Each FramesCounted ts
  pub formed : decided (task_checks 0 ts) ≡ Ok tt

pub carried_fit : {policy : ℕ} {ts : List Task} → Carried policy ts → Each InFields ts
carried_fit {ts} c = tasks_in_fields 0 ts c.formed (each_map (λ t h. h.1) c.counted)

-- each of its tasks has a deadline for each frame
pub carried_many : {policy : ℕ} {ts : List Task} → Carried policy ts → Each AsMany ts
carried_many {ts} c = each_map (λ t f. as_many_formed t f.well) (each_formed 0 ts c.formed)

-- ---- an admitted set

pub few_by_checks : (i : ℕ) (rs : List Record) → decided (frame_count_checks i rs) ≡ Ok tt → Each FewFrames (map task_in rs)
unfolding frame_count_checks frame_count_check task_in
few_by_checks i [] e = no_task
few_by_checks i (r ∷ rs) e =
    let here = passed _ _ e in
    let count = count_passed r.frame_count most_frames here.0 in
    let few : FewFrames (task_in r) = rw (length-take r.frame_count r.frames) (omega arith) in
    task_more {t = task_in r} few (few_by_checks (suc i) rs here.1)

-- what a set has that passes its checks
record Passes (s : TaskSet) : Type 0 where
  policy_known : known_policy s.policy ≡ true
  some_task : 1 ≤ s.task_count
  few_tasks : s.task_count ≤ most_tasks
  few_frames : Each FewFrames (map task_in (records_of s))
  formed : decided (task_checks 0 (map task_in (records_of s))) ≡ Ok tt

passes : (s : TaskSet) → admission s ≡ Ok tt → Passes s
unfolding admission list_checks policy_check task_count_check
passes s e =
    let four = passed _ _ e in
    let six = passed _ _ four.1 in
    let later = both_passed (frame_count_checks 0 (records_of s)) (task_checks 0 (map task_in (records_of s))) six.1 in
    let count = count_passed s.task_count most_tasks six.0 in
    record {
      policy_known = policy_passed s.policy four.0;
      some_task = count.0;
      few_tasks = count.1;
      few_frames = few_by_checks 0 (records_of s) later.0;
      formed = later.1;
    }

-- an admitted set has as many tasks as it counts
pub count_in_use : (s : TaskSet) → length s.tasks ≡ most_tasks → admission s ≡ Ok tt → length (map task_in (records_of s)) ≡ s.task_count
unfolding records_of
count_in_use s room e =
    let p : Passes s = passes s e in
    length-map (records_of s) task_in ∙ length-take s.task_count s.tasks ∙ omega arith

pub by_admission : (s : TaskSet) → length s.tasks ≡ most_tasks → admission s ≡ Ok tt → Carried s.policy (map task_in (records_of s))
by_admission s room e =
    let p : Passes s = passes s e in
    let n = count_in_use s room e in
    let fit = tasks_in_fields 0 (map task_in (records_of s)) p.formed p.few_frames in
    record {
      policy_known = p.policy_known;
      some_task = omega arith;
      few_tasks = omega arith;
      counted = each_map (λ t h. (h.some_frame, h.few_frames)) fit;
      formed = p.formed;
    }

counts_pass : (i : ℕ) (ts : List Task) → Each FramesCounted ts → decided (frame_count_checks i (map record_of ts)) ≡ Ok tt
unfolding frame_count_checks frame_count_check record_of
counts_pass i [] no_task = no_check
counts_pass i (t ∷ ts) (task_more h hs) =
    passed_over _ _ _ (count_passes (length t.frames) most_frames h.0 h.1) ∙ counts_pass (suc i) ts hs

-- the answer to a known policy and 1 to 16 tasks with 1 to 8 frames each is that of 9, 10 and 11
pub answer_of_tasks : (policy : ℕ) (ts : List Task) → Each AsMany ts → known_policy policy ≡ true → 1 ≤ length ts → length ts ≤ most_tasks → Each FramesCounted ts
    → admission (set_with policy ts) ≡ decided (task_checks 0 ts)
unfolding admission list_checks policy_check task_count_check set_with
answer_of_tasks policy ts same known one few counted =
    passed_over _ _ _ (policy_passes policy known)
    ∙ passed_over _ _ _ (count_passes (length ts) most_tasks one few)
    ∙ ap₂ (λ (rs : List Record) (us : List Task). decided (frame_count_checks 0 rs ++ task_checks 0 us)) (records_with policy ts) (tasks_with policy ts same)
    ∙ admitted_first (frame_count_checks 0 (map record_of ts)) (task_checks 0 ts) (counts_pass 0 ts counted)

-- what a sheet carries is an admitted set
pub to_admission : {policy : ℕ} {ts : List Task} → Carried policy ts → admission (set_with policy ts) ≡ Ok tt
to_admission {policy} {ts} c = answer_of_tasks policy ts (carried_many c) c.policy_known c.some_task c.few_tasks c.counted ∙ c.formed

-- ---- an admitted sheet

-- what a sheet has that passes its checks
pub record PassedSheet (least most : ℕ) (s : List ℕ) : Type 0 where
  pub long_enough : least_size ≤ length s
  pub short_enough : length s ≤ greatest_size
  pub sealed_well : sealed s ≡ true
  pub version_known : version_among least most (version_of s) ≡ true
  pub policy_known : known_policy (policy_of s) ≡ true
  pub spare_zero : (header_in (bits_of (body s))).spare ≡ 0
  pub some_task : 1 ≤ (header_in (bits_of (body s))).task_count
  pub few_tasks : (header_in (bits_of (body s))).task_count ≤ most_tasks
  pub layout : LaidOut (own_deadlines (version_of s)) (header_in (bits_of (body s))).task_count (behind_header (bits_of (body s)))
  pub formed : decided (task_checks 0 (tasks_of s)) ≡ Ok tt

module _ (least most : ℕ) (s : List ℕ) where
  pub passed_among : decided (checks_among least most s) ≡ Ok tt → PassedSheet least most s
  unfolding checks_among policy_check task_count_check version_of policy_of tasks_of
  passed_among a =
      let bits = bits_of (body s) in
      let header = header_in bits in
      let own = own_deadlines header.version in
      let one = passed _ _ a in
      let two = passed _ _ one.1 in
      let three = passed _ _ two.1 in
      let four = passed _ _ three.1 in
      let five = passed _ _ four.1 in
      let six = passed _ _ five.1 in
      let later = both_passed (layout_checks own 0 header.task_count (behind_header bits)) (task_checks 0 (tasks_of s)) six.1 in
      let size = (and-eq-true_iff (leb least_size (length s)) (leb (length s) greatest_size)).0 (not-false _ one.0) in
      let count = count_passed header.task_count most_tasks six.0 in
      record {
        long_enough = leb-true least_size (length s) size.0;
        short_enough = leb-true (length s) greatest_size size.1;
        sealed_well = not-false (sealed s) two.0;
        version_known = not-false (version_among least most header.version) three.0;
        policy_known = policy_passed header.policy four.0;
        spare_zero = eqb-true header.spare 0 (not-false _ five.0);
        some_task = count.0;
        few_tasks = count.1;
        layout = layout_read own 0 header.task_count (behind_header bits) later.0;
        formed = later.1;
      }

  pub carried_among : decided (checks_among least most s) ≡ Ok tt → Carried (policy_of s) (tasks_of s)
  unfolding tasks_of
  carried_among a =
      let f : PassedSheet least most s = passed_among a in
      let n = length_tasks_in (own_deadlines (version_of s)) (header_in (bits_of (body s))).task_count (behind_header (bits_of (body s))) in
      record {
        policy_known = f.policy_known;
        some_task = rw n f.some_task;
        few_tasks = rw n f.few_tasks;
        counted = f.layout.counted;
        formed = f.formed;
      }

  -- what an admitted sheet is read as
  abbrev pub carried_reading : Reading
  carried_reading = record { version = version_of s; set = set_with (policy_of s) (tasks_of s) }

  -- an admitted sheet's reading is what it carries, and one that is turned away gets the refusal of its checks
  pub admitted_among : decided (checks_among least most s) ≡ Ok tt → reading_among least most s ≡ Ok carried_reading
  unfolding reading_among reading_of
  admitted_among a = ap (λ (x : Result Unit Refusal). reading_of x (version_of s) (set_with (policy_of s) (tasks_of s))) a

  pub refused_among : (why : Refusal) → decided (checks_among least most s) ≡ Err why → reading_among least most s ≡ Err why
  unfolding reading_among reading_of
  refused_among why a = ap (λ (x : Result Unit Refusal). reading_of x (version_of s) (set_with (policy_of s) (tasks_of s))) a

  -- and so the other way round
  pub among_admits : (r : Reading) → reading_among least most s ≡ Ok r → (decided (checks_among least most s) ≡ Ok tt) × (r ≡ carried_reading)
  unfolding reading_among reading_of
  among_admits r e = go (decided (checks_among least most s)) refl e
    where
      go : (a : Result Unit Refusal) → decided (checks_among least most s) ≡ a → reading_of a (version_of s) (set_with (policy_of s) (tasks_of s)) ≡ Ok r
          → (decided (checks_among least most s) ≡ Ok tt) × (r ≡ carried_reading)
      go (Ok tt) d e = (d, cc)
      go (Err why) d e = cc

  pub among_refuses : (why : Refusal) → reading_among least most s ≡ Err why → decided (checks_among least most s) ≡ Err why
  unfolding reading_among reading_of
  among_refuses why e = go (decided (checks_among least most s)) refl e
    where
      go : (a : Result Unit Refusal) → decided (checks_among least most s) ≡ a → reading_of a (version_of s) (set_with (policy_of s) (tasks_of s)) ≡ Err why
          → decided (checks_among least most s) ≡ Err why
      go (Ok tt) d e = cc
      go (Err r) d e = cc

-- the same of a sheet of either version
pub passed_sheet : (s : List ℕ) → decided (sheet_checks s) ≡ Ok tt → PassedSheet version_1 version_2 s
unfolding sheet_checks
passed_sheet = passed_among version_1 version_2

pub by_reading : (s : List ℕ) → decided (sheet_checks s) ≡ Ok tt → Carried (policy_of s) (tasks_of s)
unfolding sheet_checks
by_reading = carried_among version_1 version_2

pub admitted_reading : (s : List ℕ) → decided (sheet_checks s) ≡ Ok tt → reading s ≡ Ok (carried_reading version_1 version_2 s)
unfolding reading sheet_checks
admitted_reading = admitted_among version_1 version_2

pub refused_reading : (s : List ℕ) (why : Refusal) → decided (sheet_checks s) ≡ Err why → reading s ≡ Err why
unfolding reading sheet_checks
refused_reading = refused_among version_1 version_2

pub reading_admits : (s : List ℕ) (r : Reading) → reading s ≡ Ok r → (decided (sheet_checks s) ≡ Ok tt) × (r ≡ carried_reading version_1 version_2 s)
unfolding reading sheet_checks
reading_admits = among_admits version_1 version_2

pub reading_refuses : (s : List ℕ) (why : Refusal) → reading s ≡ Err why → decided (sheet_checks s) ≡ Err why
unfolding reading sheet_checks
reading_refuses = among_refuses version_1 version_2

-- whatever the bytes, the tasks found in them have a deadline for each frame, and their version can hold them
pub many_found : (s : List ℕ) → Each AsMany (tasks_of s)
unfolding tasks_of
many_found s = as_many_read _ _ _

pub held_found : (s : List ℕ) → Each (Held (own_deadlines (version_of s))) (tasks_of s)
unfolding tasks_of
held_found s = all_held_read _ _ _
