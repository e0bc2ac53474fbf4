-- What we sign for a sheet that is converted: which calls are turned away, and what the bytes are.
use Rattle.std.specs.Prelude.{true, List, ◌↔◌, ◌⊎◌, ◌≡◌, ℕ, ◌≤◌, ◌<◌, length, take, drop, Err, Ok, Result, Some, IsOk}
use Rattle.bits.specs.Packed.{Bytes as IsBytes}
use Rattle.lent.specs.Lent.{refusal_of}
use Rattle.theory.specs.Tasks.{Task}
use Rattle.sheet.specs.Constants.{version_1, version_2}
use Rattle.sheet.specs.Reading.{version_of, policy_of, tasks_of, reading}
use Rattle.sheet.specs.Writing.{one_deadline_each}
use Rattle.sheet.specs.declared.Refusal.{Refusal}
use Rattle.sheet.specs.declared.Refusal.TheVariants.{Room, Deadlines}
use Rattle.analysis.specs.Answers.{sheet_decision, sheet_left}
use Rattle.report_text.specs.Report.{report}
use Rattle.converter.specs.Converting.{other_version, conversion, converting}

-- The bytes are the same set in another version.
pub record SameSet (version : ℕ) (sheet bytes : List ℕ) : Type 0 where
  -- both are admitted, each of its version
  pub taken : IsOk (reading sheet)
  pub of_other : version_of sheet ≡ other_version version
  pub given : IsOk (reading bytes)
  pub of_this : version_of bytes ≡ version
  -- with the same policy and the same tasks
  pub same_policy : policy_of bytes ≡ policy_of sheet
  pub same_tasks : tasks_of bytes ≡ tasks_of sheet
  -- so that the analysis of both is the same, whatever the room for its times, and the report
  pub same_decision : (times : List ℕ) → sheet_decision bytes times ≡ sheet_decision sheet times
  pub same_times : (times : List ℕ) → sheet_left bytes times ≡ sheet_left sheet times
  pub same_report : report bytes ≡ report sheet
  -- and the conversion back is the sheet (that the converter gives it: `convert_there_and_back`)
  pub back : IsBytes sheet → conversion (other_version version) bytes ≡ sheet

-- how many bytes an answer says were written
unfoldable pub written_said : Result ℕ Refusal → ℕ
written_said (Ok n) = n
written_said (Err why) = 0

-- The converter to a version takes the sheet: the version is 1 or 2, and the sheet is admitted and of the other one.
pub record Taken (version : ℕ) (sheet : List ℕ) : Type 0 where
  pub known : (version ≡ version_1) ⊎ (version ≡ version_2)
  pub admitted : IsOk (reading sheet)
  pub of_other : version_of sheet ≡ other_version version

-- A version can hold tasks: 2 always, 1 where each task has one deadline.
abbrev pub CanHold : ℕ → List Task → Type 0
CanHold version tasks = (version ≡ version_2) ⊎ (one_deadline_each tasks ≡ true)

-- What we sign for an answer, and for the lent bytes before and after.
pub record ConvertSigned (version : ℕ) (sheet before : List ℕ) (answer : Result ℕ Refusal) (after : List ℕ) : Type 0 where
  -- it is a refusal exactly where that is the first of the order: 3 for the version told, those of a sheet of the other version, 17, last 12
  pub turned : (why : Refusal) → (answer ≡ Err why) ↔ (refusal_of Room (converting version sheet) before ≡ Some why)
  -- it is 17 exactly where the sheet is taken and the version cannot hold its tasks; so never to version 2
  pub seventeen : (answer ≡ Err Deadlines) ↔ (Taken version sheet × ¬ CanHold version (tasks_of sheet))
  -- it is 12 exactly where the sheet is taken, the version can hold it, and the lent bytes are fewer than those of the conversion
  pub no_room : (answer ≡ Err Room) ↔ (Taken version sheet × CanHold version (tasks_of sheet) × (length before < length (conversion version sheet)))
  -- it is that n bytes were written exactly where the sheet is taken, the version can hold it, and the conversion has n bytes, which have room
  pub written : (n : ℕ) → (answer ≡ Ok n)
      ↔ (Taken version sheet × CanHold version (tasks_of sheet) × (length (conversion version sheet) ≡ n) × (n ≤ length before))
  -- the bytes written are the conversion, and the same set in that version
  pub converts : (n : ℕ) → answer ≡ Ok n → (take n after ≡ conversion version sheet) × SameSet version sheet (take n after)
  -- a refusal leaves all bytes as they were, and else those behind are
  pub unchanged : (why : Refusal) → answer ≡ Err why → after ≡ before
  pub same_length : length after ≡ length before
  pub same_behind : drop (written_said answer) after ≡ drop (written_said answer) before
