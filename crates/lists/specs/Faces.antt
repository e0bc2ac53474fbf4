-- SCOPE.md, "Lent memory": what the calls with a lent list answer and leave, refused calls too.
use Rattle.std.specs.Prelude.{List, map, ℕ, length, Result}
use Rattle.lent.specs.Lent.{Call, answered, left_after}
use Rattle.sheet.specs.Tasks.{task_in, record_of}
use Rattle.sheet.specs.Admission.{list_checks}
use Rattle.sheet.specs.Reading.{sheet_checks, version_of, policy_of, tasks_of}
use Rattle.sheet.specs.Writing.{sheet_of, writing_checks}
use Rattle.sheet.specs.declared.Task.{Task}
use Rattle.sheet.specs.declared.Refusal.{Refusal}
use Rattle.sheet.specs.declared.Refusal.TheVariants.{Room}
use Rattle.analysis.specs.Answers.{analysing}
use Rattle.analysis.specs.declared.Decision.{Decision}
use Rattle.lists.specs.declared.ListRead.{ListRead}

-- ---- a sheet read into a list

-- the sheet's own refusals; a record for each of its tasks; the version, the policy and the task count
unfoldable pub reading_list : List ℕ → Call Refusal Task ListRead
reading_list sheet =
    record {
      checks = sheet_checks sheet;
      writes = map record_of (tasks_of sheet);
      says = record { version = version_of sheet; policy = policy_of sheet; task_count = length (tasks_of sheet) };
    }

unfoldable pub list_read : List ℕ → List Task → Result ListRead Refusal
list_read sheet list = answered Room (reading_list sheet) list

unfoldable pub list_filled : List ℕ → List Task → List Task
list_filled sheet list = left_after Room (reading_list sheet) list

-- ---- a list written to a sheet

-- the refusals of a list that is written; its sheet of that version; how many bytes
unfoldable pub writing_list : (version policy : ℕ) → List Task → Call Refusal ℕ ℕ
writing_list version policy list =
    record {
      checks = writing_checks version policy (length list) list;
      writes = sheet_of version policy (map task_in list);
      says = length (sheet_of version policy (map task_in list));
    }

unfoldable pub list_written : (version policy : ℕ) → List Task → List ℕ → Result ℕ Refusal
list_written version policy list room = answered Room (writing_list version policy list) room

unfoldable pub list_left : (version policy : ℕ) → List Task → List ℕ → List ℕ
list_left version policy list room = left_after Room (writing_list version policy list) room

-- ---- a list analysed

unfoldable pub analysing_list : ℕ → List Task → Call Refusal ℕ Decision
analysing_list policy list = analysing (list_checks policy (length list) list) policy (map task_in list)

unfoldable pub list_analysed : ℕ → List Task → List ℕ → Result Decision Refusal
list_analysed policy list room = answered Room (analysing_list policy list) room

unfoldable pub list_times : ℕ → List Task → List ℕ → List ℕ
list_times policy list room = left_after Room (analysing_list policy list) room
