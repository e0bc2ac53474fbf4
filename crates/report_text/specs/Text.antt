-- The report as it is returned, its bytes in a room of 2048 with 0 behind them, and as it is put to lent bytes.
use Rattle.std.specs.Prelude.{List, [], ◌++◌, ℕ, ◌-◌, length, replicate, Result}
use Rattle.lent.specs.Lent.{Call, answered, left_after}
use Rattle.sheet.specs.declared.Refusal.{Refusal}
use Rattle.sheet.specs.declared.Refusal.TheVariants.{Room}
use Rattle.report_text.specs.Report.{report}
use Rattle.report_text.specs.declared.Text.{Text}

-- how long a report can be
abbrev pub room : ℕ
room = 2048

-- a report as it is returned
unfoldable pub text_of : List ℕ → Text
text_of l = record { length = length l; bytes = l ++ replicate (room - length l) 0 }

-- a report to lent bytes: every byte string has one, refused sheets too, and only its room can be too small
unfoldable pub reporting : List ℕ → Call Refusal ℕ ℕ
reporting s = record { checks = []; writes = report s; says = length (report s) }

-- what is answered
unfoldable pub report_written : List ℕ → List ℕ → Result ℕ Refusal
report_written s memory = answered Room (reporting s) memory

-- what the bytes hold afterwards
unfoldable pub report_left : List ℕ → List ℕ → List ℕ
report_left s memory = left_after Room (reporting s) memory
