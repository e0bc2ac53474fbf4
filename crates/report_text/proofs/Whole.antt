-- A text at the start of a room of zeros.
use Rattle.std.proofs.Common.{List, ◌++◌, ◌≡◌, ℕ, ◌≤◌, length, ap}
use Rattle.std.proofs.lemmas.List.{drop-replicate}
use lib.ListN.{drop, replicate}
use Rattle.report_text.specs.Report.{report}
use Rattle.report_text.specs.Text.{room, text_of}
use Rattle.report_text.specs.declared.Text.{Text}
use Rattle.report_text.proofs.Reported.{report_fits}

pub text_is : (l : List ℕ) → ◌≡◌ {A = Text} (record { length = length l; bytes = l ++ drop (length l) (replicate room 0) }) (text_of l)
unfolding text_of
text_is l = ap (λ (rest : List ℕ). record { length = length l; bytes = l ++ rest }) (drop-replicate (length l) room 0)

-- the text of a report lies within its room
pub text_within : (s : List ℕ) (t : Text) → t ≡ text_of (report s) → t.length ≤ room
unfolding text_of
text_within s t e = rw e (report_fits s)
