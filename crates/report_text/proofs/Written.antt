-- A report put to lent bytes: what is answered and left.
use Rattle.std.proofs.Common.{List, ◌++◌, ◌≡◌, ◌≤◌, ◌<◌, ℕ, length, drop, Ok, Err}
use Rattle.lent.specs.Lent.{laid}
use Rattle.lent.proofs.Checks.{no_check}
use Rattle.lent.proofs.Lent.{by_room, done, turned_tells, done_tells}
use Rattle.sheet.specs.declared.Refusal.TheVariants.{Room}
use Rattle.report_text.specs.Report.{report}
use Rattle.report_text.specs.Text.{reporting, report_written, report_left}

module _ (s memory : List ℕ) where
  pub no_room : length memory < length (report s) → (Err Room ≡ report_written s memory) × (memory ≡ report_left s memory)
  unfolding report_written report_left reporting
  no_room h = turned_tells Room (reporting s) memory (by_room Room (reporting s) memory no_check h)

  pub written : length (report s) ≤ length memory → (Ok (length (report s)) ≡ report_written s memory) × (report s ++ drop (length (report s)) memory ≡ report_left s memory)
  unfolding report_written report_left reporting laid
  written h = done_tells Room (reporting s) memory (done Room (reporting s) memory no_check h)
