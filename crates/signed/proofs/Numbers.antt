-- A number says one thing: each answer comes back from its number.
use Rattle.std.specs.Prelude.{Err, None, Ok, Option, Result, Some}
use mathlib.Core.Bool.{true, false}
use mathlib.Core.List.{List, map}
use mathlib.Core.Logic.{◌⊎◌, inl, inr}
use mathlib.Core.Path.{◌≡◌, refl, ap, ap₂, ◌∙◌}
use Prim.Native.Nat.{ℕ, ◌+◌, ◌-◌, ◌*◌, ◌/◌, ◌%◌, ◌≤◌, ◌<◌}
use native.Mathlib.Nat.{mod-eq_of_lt}
use native.Mathlib.Omega.{arith}
use borrow.Author.Tests.{lt-ltb, le-ltb, eq-eqb, ne_eqb}
use lib.Dec.{eqb, lit<, lit≤}
use Rattle.lent.specs.Checks.{first_refusal}
use Rattle.lent.proofs.Checks.{Each, each_first}
use Rattle.theory.specs.Tasks.{Task}
use Rattle.sheet.specs.Constants.{most_tasks}
use Rattle.sheet.specs.Tasks.{task_in}
use Rattle.sheet.specs.Admission.{list_checks}
use Rattle.sheet.specs.Reading.{sheet_checks, tasks_of}
use Rattle.sheet.specs.Refusals.{number_of, task_of_refusal, reason_of_refusal}
use Rattle.sheet.specs.declared.Task.{Task as Record}
use Rattle.sheet.specs.declared.Reason.{Reason}
use Rattle.sheet.specs.declared.Refusal.{Refusal}
use Rattle.sheet.specs.declared.Refusal.TheVariants.{Length, CheckWord, Version, Policy, BitSet, TaskCount, FrameCount, Records, IllFormed, Lock, NotMonotonic, Room, Deadlines}
use Rattle.sheet.proofs.Refused.{Covers, list_each, sheet_each}
use Rattle.analysis.specs.Answers.{blocker_code, code}
use Rattle.analysis.specs.declared.Decision.{Decision}
use Rattle.analysis.specs.declared.Verdict.{Verdict}
use Rattle.analysis.specs.declared.Verdict.TheVariants.{Holds, Missed}
use Rattle.lists.specs.declared.ListRead.{ListRead}
use Rattle.player.specs.declared.PlayRefusal.{PlayRefusal}
use Rattle.player.specs.declared.PlayRefusal.TheVariants.{Base}
use Rattle.player.specs.declared.Played.{Played}
use Rattle.player.specs.declared.Played.TheVariants.{Done}
use Rattle.player.specs.declared.Played.TheVariants.{Missed as first_missed}
use Rattle.player.proofs.Within.{RefusalWithin, own_within, script_within, item_within, Within, missed_within, done_within, turned_within}
use Rattle.workbench.specs.Numbers.{reason_number, refused_number, answer_number, read_detail, written_detail, decision_detail, played_detail, worst_detail, read_number, written_number, decision_number, play_refused_number, played_number, worst_number}
use Rattle.workbench.proofs.Small.{NamesBelow, names_more, room_names, sheet_names}
use Rattle.signed.specs.Claims.{missed, refused, said}
use Rattle.signed.specs.Numbers.{blocker_by, said_by, refusal_by, reason_by, refused_by, answer_by, listed_by, list_read_by, written_by, verdict_by, analysed_by, decision_by, ended_by, play_refused_by, played_by, script_by, worst_by}

-- ---- refusals

pub refusal_range : (r : Refusal) → (1 ≤ number_of r) × (number_of r ≤ 17)
refusal_range Length = (lit≤ tt, lit≤ tt)
refusal_range CheckWord = (lit≤ tt, lit≤ tt)
refusal_range Version = (lit≤ tt, lit≤ tt)
refusal_range Policy = (lit≤ tt, lit≤ tt)
refusal_range BitSet = (lit≤ tt, lit≤ tt)
refusal_range TaskCount = (lit≤ tt, lit≤ tt)
refusal_range (FrameCount i) = (lit≤ tt, lit≤ tt)
refusal_range Records = (lit≤ tt, lit≤ tt)
refusal_range (IllFormed i) = (lit≤ tt, lit≤ tt)
refusal_range (Lock i) = (lit≤ tt, lit≤ tt)
refusal_range (NotMonotonic i why) = (lit≤ tt, lit≤ tt)
refusal_range Room = (lit≤ tt, lit≤ tt)
refusal_range Deadlines = (lit≤ tt, lit≤ tt)

refusal_back : (r : Refusal) → refusal_by (number_of r) (task_of_refusal r) (reason_of_refusal r) ≡ r
unfolding refusal_by
refusal_back Length = refl
refusal_back CheckWord = refl
refusal_back Version = refl
refusal_back Policy = refl
refusal_back BitSet = refl
refusal_back TaskCount = refl
refusal_back (FrameCount i) = refl
refusal_back Records = refl
refusal_back (IllFormed i) = refl
refusal_back (Lock i) = refl
refusal_back (NotMonotonic i why) = refl
refusal_back Room = refl
refusal_back Deadlines = refl

-- a refusal whose number is at most m
abbrev pub Up : ℕ → Refusal → Type 0
Up m r = number_of r ≤ m

-- those of a sheet and of tasks are 1 to 11
pub numbered : (m : ℕ) → 11 ≤ m → (tasks : List Task) → Covers (Up m) tasks
numbered m h tasks =
    record {
      of_length = omega arith;
      of_check_word = omega arith;
      of_version = omega arith;
      of_policy = omega arith;
      of_bit_set = omega arith;
      of_task_count = omega arith;
      of_records = omega arith;
      of_frame_count = λ i l. omega arith;
      of_form = λ i l. omega arith;
      of_lock = λ i l. omega arith;
      of_monotony = λ i l few none_starts. omega arith;
    }

-- beside them 12 for want of room, where nothing is written
abbrev pub Twelve : Refusal → Type 0
Twelve = Up 12

pub sheet_twelve : (s : List ℕ) → Each Twelve (sheet_checks s)
sheet_twelve s = sheet_each s (numbered 12 (lit≤ tt) (tasks_of s))

pub list_twelve : (policy n : ℕ) (rs : List Record) → Each Twelve (list_checks policy n rs)
list_twelve policy n rs = list_each policy n rs (numbered 12 (lit≤ tt) (map task_in rs))

-- ---- the blocker

-- a blocker that is named is below sixteen
abbrev pub Few : Option ℕ → Type 0
Few b = (q : ℕ) → b ≡ Some q → q < most_tasks

blocker_back : (b : Option ℕ) → Few b → (blocker_by (blocker_code b) ≡ b) × (blocker_code b ≤ 16)
unfolding blocker_by
blocker_back (Some q) h = let l = h q refl in (rw (ne_eqb q 16 (omega arith)), omega arith)
blocker_back None h = (refl, lit≤ tt)

-- an outcome whose blocker is
unfoldable pub FewOf : Result Verdict Refusal → Type 0
FewOf (Ok Holds) = Unit {0}
FewOf (Ok (Missed p b)) = Few b
FewOf (Err why) = Unit {0}

module _ (p c : ℕ) (h : c ≤ 16) where
  less : 100 + 17 * p + c - 100 ≡ 17 * p + c
  less = omega arith

  quotient : (17 * p + c) / 17 ≡ p
  quotient = omega arith

  rest : (17 * p + c) % 17 ≡ c
  rest = omega arith

-- ---- `burrbeech_check_sheet`

pub miss_said : (p c : ℕ) → c ≤ 16 → said_by (100 + 17 * p + c) ≡ missed p (blocker_by c)
unfolding said_by
miss_said p c h =
    rw (ne_eqb (100 + 17 * p + c) 0 (omega arith), le-ltb (100 + 17 * p + c) 100 (omega arith), less p c h, quotient p c h, rest p c h)

pub refusal_said : (c : ℕ) → 1 ≤ c → c < 100 → said_by c ≡ refused c
unfolding said_by
refusal_said c l h = rw (ne_eqb c 0 (omega arith), lt-ltb c 100 (omega arith))

pub said_back : (o : Result Verdict Refusal) → FewOf o → said_by (code o) ≡ said o
unfolding said said_by FewOf
said_back (Ok Holds) h = refl
said_back (Ok (Missed p b)) h = let (same, small) = blocker_back b h in miss_said p (blocker_code b) small ∙ ap (missed p) same
said_back (Err r) h = let (l, m) = refusal_range r in refusal_said (number_of r) l (omega arith)

-- ---- every other entry

-- a refusal whose task and reason, if it has them, have room in eight bits each
abbrev pub NamesSmall : Refusal → Type 0
NamesSmall = NamesBelow 256

-- a number with a refusal in it, and one with none
with_refusal : (r : Refusal) → eqb (refused_number r % 256) 0 ≡ false
with_refusal r = let range = refusal_range r in ne_eqb (refused_number r % 256) 0 (omega arith)

-- a number in eight bits below another
module _ (low high : ℕ) (h : low < 256) where
  low_part : (low + 256 * high) % 256 ≡ low
  low_part = omega arith

  high_part : (low + 256 * high) / 256 ≡ high
  high_part = omega arith

reason_back : (why : Reason) → why.frame < 256 → why.length < 256 → why.other < 256 → reason_by (reason_number why) ≡ why
unfolding reason_by
reason_back why f l o =
    let n = reason_number why in
    let above : n / 256 ≡ why.length + 256 * why.other = high_part why.frame (why.length + 256 * why.other) f in
    let length_is : n / 256 % 256 ≡ why.length = ap (λ (x : ℕ). x % 256) above ∙ low_part why.length why.other l in
    let high : n / 65536 ≡ why.other = omega arith in
    let other_is : n / 65536 % 256 ≡ why.other = ap (λ (x : ℕ). x % 256) high ∙ mod-eq_of_lt o in
    rw (low_part why.frame (why.length + 256 * why.other) f, length_is, other_is)

refused_back : (r : Refusal) → NamesSmall r → refused_by (refused_number r) ≡ r
unfolding refused_by
refused_back r h =
    let range = refusal_range r in
    let why = reason_of_refusal r in
    let detail = task_of_refusal r + 256 * reason_number why in
    let number_small : number_of r < 256 = omega arith in
    let above : refused_number r / 256 ≡ detail = high_part (number_of r) detail number_small in
    let task_is : refused_number r / 256 % 256 ≡ task_of_refusal r = ap (λ (x : ℕ). x % 256) above ∙ low_part (task_of_refusal r) (reason_number why) h.task in
    let reason_is : reason_by (refused_number r / 256 / 256) ≡ why =
    ap (λ (x : ℕ). reason_by (x / 256)) above ∙ ap reason_by (high_part (task_of_refusal r) (reason_number why) h.task) ∙ reason_back why h.frame h.length h.other in
    rw (low_part (number_of r) detail number_small, task_is, reason_is) (refusal_back r)

module _ (m : ℕ) where
  with_none : eqb (256 * m % 256) 0 ≡ true
  with_none = eq-eqb (256 * m % 256) 0 (omega arith)

  above_none : 256 * m / 256 ≡ m
  above_none = omega arith

-- an answer comes back from its number where its detail does, or its refusal
module _ {T E : Type 0} (told : ℕ → T) (why : ℕ → E) (detail : T → ℕ) (refused : E → ℕ) where
  told_back : (x : T) → told (detail x) ≡ x → answer_by told why (answer_number detail refused (Ok x)) ≡ Ok x
  unfolding answer_by
  told_back x e = rw (with_none (detail x), above_none (detail x)) (ap Ok e)

  turned_back : (r : E) → eqb (refused r % 256) 0 ≡ false → why (refused r) ≡ r → answer_by told why (answer_number detail refused (Err r)) ≡ Err r
  unfolding answer_by
  turned_back r f e = rw f (ap Err e)

-- one of a refusal whose task and reason have room
module _ {T : Type 0} (told : ℕ → T) (detail : T → ℕ) where
  answer_back : (x : Result T Refusal) → ((t : T) → x ≡ Ok t → told (detail t) ≡ t) → ((why : Refusal) → x ≡ Err why → NamesSmall why)
      → answer_by told refused_by (answer_number detail refused_number x) ≡ x
  answer_back (Ok t) h names = told_back told refused_by detail refused_number t (h t refl)
  answer_back (Err r) h names = turned_back told refused_by detail refused_number r (with_refusal r) (refused_back r (names r refl))

pub written_back : (w : Result ℕ Refusal) → ((why : Refusal) → w ≡ Err why → NamesSmall why) → written_by (written_number w) ≡ w
unfolding written_by
written_back w names = answer_back (λ n. n) written_detail w (λ n e. refl) names

-- what was read has room in eight bits each
pub record ReadInBits (x : ListRead) : Type 0 where
  pub version : x.version < 256
  pub policy : x.policy < 256
  pub task_count : x.task_count < 256

listed_back : (x : ListRead) → ReadInBits x → listed_by (read_detail x) ≡ x
unfolding listed_by
listed_back x h =
    let rest = x.policy + 256 * x.version in
    let next : read_detail x / 256 % 256 ≡ x.policy = ap (λ (n : ℕ). n % 256) (high_part x.task_count rest h.task_count) ∙ low_part x.policy x.version h.policy in
    let above : read_detail x / 65536 ≡ x.version = let v = h.version in let p = h.policy in let c = h.task_count in omega arith in
    let high : read_detail x / 65536 % 256 ≡ x.version = ap (λ (n : ℕ). n % 256) above ∙ mod-eq_of_lt h.version in
    rw (low_part x.task_count rest h.task_count, next, high)

pub read_back : (x : Result ListRead Refusal) → ((r : ListRead) → x ≡ Ok r → ReadInBits r) → ((why : Refusal) → x ≡ Err why → NamesSmall why)
    → list_read_by (read_number x) ≡ x
unfolding list_read_by
read_back x small names = answer_back listed_by read_detail x (λ r e. listed_back r (small r e)) names

miss_back : (p c : ℕ) → c ≤ 16 → verdict_by (1 + 17 * p + c) ≡ Missed p (blocker_by c)
unfolding verdict_by
miss_back p c h =
    let less_one : 1 + 17 * p + c - 1 ≡ 17 * p + c = omega arith in
    rw (ne_eqb (1 + 17 * p + c) 0 (omega arith), less_one, quotient p c h, rest p c h)

-- a verdict in sixteen bits below a count in eight
analysed_back : (m n : ℕ) → m < 65536 → n < 256 → analysed_by (m + 65536 * n) ≡ record { verdict = verdict_by m; task_count = n }
unfolding analysed_by
analysed_back m n h l =
    let low : (m + 65536 * n) % 65536 ≡ m = omega arith in
    let above : (m + 65536 * n) / 65536 ≡ n = omega arith in
    let high : (m + 65536 * n) / 65536 % 256 ≡ n = ap (λ (x : ℕ). x % 256) above ∙ mod-eq_of_lt l in
    ap₂ (λ (x y : ℕ). record { verdict = verdict_by x; task_count = y }) low high

-- a decision whose parts have room in their bits
unfoldable pub InBits : Verdict → ℕ → Type 0
InBits Holds n = n < 256
InBits (Missed p b) n = (p < most_tasks) × Few b × (n < 256)

decided_back : (v : Verdict) (n : ℕ) → InBits v n → analysed_by (decision_detail (record { verdict = v; task_count = n })) ≡ record { verdict = v; task_count = n }
unfolding InBits verdict_by
decided_back Holds n l = analysed_back 0 n (lit< tt) l
decided_back (Missed p b) n (h, few, l) =
    let (same, small) = blocker_back b few in
    let m : ℕ = 1 + 17 * p + blocker_code b in
    analysed_back m n (omega arith) l ∙ ap (λ (v : Verdict). record { verdict = v; task_count = n }) (miss_back p (blocker_code b) small ∙ ap (Missed p) same)

pub decision_back : (x : Result Decision Refusal) → ((d : Decision) → x ≡ Ok d → InBits d.verdict d.task_count) → ((why : Refusal) → x ≡ Err why → NamesSmall why)
    → decision_by (decision_number x) ≡ x
unfolding decision_by
decision_back x small names = answer_back analysed_by decision_detail x (λ d e. decided_back d.verdict d.task_count (small d e)) names

-- ---- a play and its trace

-- the moment in thirty-two bits below the task in eight
module _ (t i : ℕ) (h : t < 4294967296) (l : i < 256) where
  tick_part : (t + 4294967296 * i) % 4294967296 ≡ t
  tick_part = omega arith

  task_part : (t + 4294967296 * i) / 4294967296 % 256 ≡ i
  task_part = let above : (t + 4294967296 * i) / 4294967296 ≡ i = omega arith in ap (λ (x : ℕ). x % 256) above ∙ mod-eq_of_lt l

own_back : (r : Refusal) → Twelve r → NamesSmall r → play_refused_by (refused_number r) ≡ Base r
unfolding play_refused_by
own_back r few h =
    rw (ne_eqb (refused_number r % 256) 13 (omega arith), ne_eqb (refused_number r % 256) 14 (omega arith)) (ap Base (refused_back r h))

module _ (sheet script : List ℕ) where
  own_small : (why : Refusal) → (first_refusal (sheet_checks sheet) ≡ Some why) ⊎ (why ≡ Room) → NamesSmall why
  own_small why (inl e) = names_more (lit≤ tt) (each_first (NamesBelow 32) (sheet_checks sheet) (sheet_names sheet) why e)
  own_small why (inr e) = rw e (names_more (lit≤ tt) room_names)

  own_twelve : (why : Refusal) → (first_refusal (sheet_checks sheet) ≡ Some why) ⊎ (why ≡ Room) → Twelve why
  own_twelve why (inl e) = each_first Twelve (sheet_checks sheet) (sheet_twelve sheet) why e
  own_twelve why (inr e) = rw e (lit≤ tt)

  play_back : (r : PlayRefusal) → RefusalWithin sheet script r → (eqb (play_refused_number r % 256) 0 ≡ false) × (play_refused_by (play_refused_number r) ≡ r)
  unfolding play_refused_by
  play_back _ (own_within why e) = (with_refusal why, own_back why (own_twelve why e) (own_small why e))
  play_back _ script_within = (refl, refl)
  play_back _ (item_within j h) =
      let number : (14 + 256 * j) % 256 ≡ 14 = omega arith in
      let which : (14 + 256 * j) / 256 ≡ j = omega arith in
      (rw number, rw (number, which))

  -- each answer of a play or a trace comes back from its number
  pub played_back : (p : Result Played PlayRefusal) → Within sheet script p → played_by (played_number p) ≡ p
  unfolding played_by ended_by
  played_back _ (missed_within t i h l) =
      told_back ended_by play_refused_by played_detail play_refused_number (first_missed t i)
      (rw (tick_part t i (omega arith) (omega arith), task_part t i (omega arith) (omega arith), ne_eqb i 16 (omega arith)))
  played_back _ (done_within t h) =
      told_back ended_by play_refused_by played_detail play_refused_number (Done t)
      (rw (tick_part t 16 (omega arith) (omega arith), task_part t 16 (omega arith) (omega arith)))
  played_back _ (turned_within r h) =
      let back = play_back r h in turned_back ended_by play_refused_by played_detail play_refused_number r back.0 back.1

-- ---- a worst run

script_back : (x : Option ℕ) → ((n : ℕ) → x ≡ Some n → 1 ≤ n) → script_by (worst_detail x) ≡ x
unfolding script_by
script_back None has = refl
script_back (Some n) has = let h = has n refl in rw (ne_eqb n 0 (omega arith))

-- each answer comes back from its number, since what is written has a byte
pub worst_back : (w : Result (Option ℕ) Refusal) → ((n : ℕ) → w ≡ Ok (Some n) → 1 ≤ n) → ((why : Refusal) → w ≡ Err why → NamesSmall why) → worst_by (worst_number w) ≡ w
unfolding worst_by
worst_back w has names = answer_back script_by worst_detail w (λ x e. script_back x (λ n f. has n (e ∙ ap Ok f))) names
