-- Calls of the public entries that keep their contracts: what is answered, and what the lent memory holds before and after.
-- Each of the calls says what the contract of its entry says, and no more.
use Rattle.std.specs.Prelude.{List, ◌≡◌, ℕ, Option, Result}
use Rattle.sheet.specs.declared.Refusal.{Refusal}
use Rattle.sheet.specs.declared.Task.{Task as Record}
use Rattle.sheet.specs.declared.TaskSet.{TaskSet}
use Rattle.analysis.specs.Answers.{set_decision, set_left, sheet_decision, sheet_left}
use Rattle.analysis.specs.declared.Decision.{Decision}
use Rattle.lists.specs.Faces.{list_read, list_filled, list_written, list_left, list_analysed, list_times}
use Rattle.lists.specs.declared.ListRead.{ListRead}
use Rattle.converter.specs.Converting.{converted, converted_left}
use Rattle.workbench.specs.Entry.{entry_number, entry_left}
use Rattle.workbench.specs.Numbers.{read_number, written_number, decision_number, played_number, worst_number}
use Rattle.worst.specs.Writing.{worst_answer, worst_left}
use Rattle.report_text.specs.Report.{report}
use Rattle.report_text.specs.Text.{text_of, report_written, report_left}
use Rattle.report_text.specs.declared.Text.{Text}
use Rattle.player.specs.Answers.{played, traced, trace_left}
use Rattle.player.specs.declared.Played.{Played}
use Rattle.player.specs.declared.PlayRefusal.{PlayRefusal}

-- a call that is lent memory gives the answer that is due, and leaves in the memory what is to be left
pub record Keeps {X A : Type 0} (due : X) (left : List A) (answer : X) (after : List A) : Type 0 where
  pub answers : answer ≡ due
  pub leaves : after ≡ left

-- a call that is lent none gives the answer that is due
pub record Answers {X : Type 0} (due answer : X) : Type 0 where
  pub answers : answer ≡ due

-- `analyse_set`: a set by value, its times to lent numbers
abbrev pub AnalyseSet : TaskSet → List ℕ → Result Decision Refusal → List ℕ → Type 0
AnalyseSet set before = Keeps (set_decision set before) (set_left set before)

-- `analyse_sheet`: a sheet, its times to lent numbers
abbrev pub AnalyseSheet : (sheet before : List ℕ) → Result Decision Refusal → List ℕ → Type 0
AnalyseSheet sheet before = Keeps (sheet_decision sheet before) (sheet_left sheet before)

-- `analyse_list`: a lent list of records, its times to lent numbers
abbrev pub AnalyseList : ℕ → List Record → List ℕ → Result Decision Refusal → List ℕ → Type 0
AnalyseList policy list before = Keeps (list_analysed policy list before) (list_times policy list before)

-- `read_list`: a sheet into a lent list of records
abbrev pub ReadList : List ℕ → List Record → Result ListRead Refusal → List Record → Type 0
ReadList sheet before = Keeps (list_read sheet before) (list_filled sheet before)

-- `write_list`: a lent list of records to lent bytes, in that version
abbrev pub WriteList : (version policy : ℕ) → List Record → List ℕ → Result ℕ Refusal → List ℕ → Type 0
WriteList version policy list before = Keeps (list_written version policy list before) (list_left version policy list before)

-- `convert`: a sheet of the other version, written to lent bytes in the version told
abbrev pub Convert : (version : ℕ) → (sheet before : List ℕ) → Result ℕ Refusal → List ℕ → Type 0
Convert version sheet before = Keeps (converted version sheet before) (converted_left version sheet before)

-- `report_text`: the text of a report
abbrev pub ReportText : List ℕ → Text → Type 0
ReportText sheet = Answers (text_of (report sheet))

-- `write_report`: the text of a report to lent bytes
abbrev pub WriteReport : (sheet before : List ℕ) → Result ℕ Refusal → List ℕ → Type 0
WriteReport sheet before = Keeps (report_written sheet before) (report_left sheet before)

-- `play`: a script played for a sheet
abbrev pub Play : (sheet script : List ℕ) → Result Played PlayRefusal → Type 0
Play sheet script = Answers (played sheet script)

-- `trace`: the same, a byte for each tick to lent bytes
abbrev pub Trace : (sheet script before : List ℕ) → Result Played PlayRefusal → List ℕ → Type 0
Trace sheet script before = Keeps (traced sheet script before) (trace_left sheet script before)

-- `worst_run`: a sheet, its worst run to lent bytes
abbrev pub WorstRun : (sheet before : List ℕ) → Result (Option ℕ) Refusal → List ℕ → Type 0
WorstRun sheet before = Keeps (worst_answer sheet before) (worst_left sheet before)

-- `burrbeech_check_sheet`: a sheet, its times to lent bytes; the answer is a number
abbrev pub CheckSheetC : (sheet before : List ℕ) → ℕ → List ℕ → Type 0
CheckSheetC sheet before = Keeps (entry_number sheet before) (entry_left sheet before)

-- `burrbeech_analyse_sheet`, `burrbeech_analyse_list`, `burrbeech_read_list`, `burrbeech_write_list`, `burrbeech_convert`, `burrbeech_report`, `burrbeech_play`,
-- `burrbeech_trace`, `burrbeech_worst_run`: as the calls above, the answer by its number
abbrev pub AnalyseSheetC : (sheet before : List ℕ) → ℕ → List ℕ → Type 0
AnalyseSheetC sheet before = Keeps (decision_number (sheet_decision sheet before)) (sheet_left sheet before)

abbrev pub AnalyseListC : ℕ → List Record → List ℕ → ℕ → List ℕ → Type 0
AnalyseListC policy list before = Keeps (decision_number (list_analysed policy list before)) (list_times policy list before)

abbrev pub ReadListC : List ℕ → List Record → ℕ → List Record → Type 0
ReadListC sheet before = Keeps (read_number (list_read sheet before)) (list_filled sheet before)

abbrev pub WriteListC : (version policy : ℕ) → List Record → List ℕ → ℕ → List ℕ → Type 0
WriteListC version policy list before = Keeps (written_number (list_written version policy list before)) (list_left version policy list before)

abbrev pub ConvertC : (version : ℕ) → (sheet before : List ℕ) → ℕ → List ℕ → Type 0
ConvertC version sheet before = Keeps (written_number (converted version sheet before)) (converted_left version sheet before)

abbrev pub ReportC : (sheet before : List ℕ) → ℕ → List ℕ → Type 0
ReportC sheet before = Keeps (written_number (report_written sheet before)) (report_left sheet before)

abbrev pub PlayC : (sheet script : List ℕ) → ℕ → Type 0
PlayC sheet script = Answers (played_number (played sheet script))

abbrev pub TraceC : (sheet script before : List ℕ) → ℕ → List ℕ → Type 0
TraceC sheet script before = Keeps (played_number (traced sheet script before)) (trace_left sheet script before)

abbrev pub WorstRunC : (sheet before : List ℕ) → ℕ → List ℕ → Type 0
WorstRunC sheet before = Keeps (worst_number (worst_answer sheet before)) (worst_left sheet before)
