-- The refusals by number (SCOPE.md, "What is turned away").
use Rattle.std.specs.Prelude.{ℕ}
use Rattle.records.specs.declared.Surplus.{Surplus}
use Rattle.records.specs.declared.Surplus.TheVariants.{ByteLeft, BitSet as BitLeft}
use Rattle.sheet.specs.declared.Reason.{Reason}
use Rattle.sheet.specs.declared.Refusal.{Refusal}
use Rattle.sheet.specs.declared.Refusal.TheVariants.{Length, CheckWord, Version, Policy, BitSet, TaskCount, FrameCount, Records, IllFormed, Lock, NotMonotonic, Room, Deadlines}

abbrev pub number_of : Refusal → ℕ
number_of Length = 1
number_of CheckWord = 2
number_of Version = 3
number_of Policy = 4
number_of BitSet = 5
number_of TaskCount = 6
number_of (FrameCount i) = 7
number_of Records = 8
number_of (IllFormed i) = 9
number_of (Lock i) = 10
number_of (NotMonotonic i why) = 11
number_of Room = 12
number_of Deadlines = 17

-- the task that a refusal names: for 7, 9, 10 and 11; 0 for the others
abbrev pub task_of_refusal : Refusal → ℕ
task_of_refusal (FrameCount i) = i
task_of_refusal (IllFormed i) = i
task_of_refusal (Lock i) = i
task_of_refusal (NotMonotonic i why) = i
task_of_refusal _ = 0

-- where there is no reason to give
abbrev pub no_reason : Reason
no_reason = record { frame = 0; length = 0; other = 0 }

-- the reason that a refusal gives: for 11; none for the others
abbrev pub reason_of_refusal : Refusal → Reason
reason_of_refusal (NotMonotonic i why) = why
reason_of_refusal _ = no_reason

-- what is left behind a record, as a refusal
abbrev pub surplus_refused : Surplus → Refusal
surplus_refused ByteLeft = Records
surplus_refused BitLeft = BitSet
