-- An analysis whose times can go to task-number order.
use Rattle.std.specs.Prelude.{◌≡◌, ℕ, ◌≤◌, ◌<◌, length}
use Rattle.sheet.specs.Constants.{most_tasks, most_frames}
use Rattle.order.specs.Claims.{Permutes}
use Rattle.analysis.specs.Findings.{slots_in, numbers_found}
use Rattle.analysis.specs.declared.Analysis.{Analysis}

-- each task has a number of its own, and eight slots for its times
pub record Numbered (a : Analysis) : Type 0 where
  pub few : a.task_count ≤ most_tasks
  pub numbers : Permutes a.task_count (numbers_found a)
  pub room : length a.findings ≡ most_tasks
  pub eight : (p : ℕ) → p < a.task_count → length (slots_in a p) ≡ most_frames
