-- The lines of the tasks as the code prints them: from what the analysis finds of each place.
use Rattle.std.specs.Prelude.{List, [], ◌∷◌, map, ℕ, ◌+◌, ◌*◌, ◌≤◌, ◌<◌, take, None, Option, Some}
use Rattle.sheet.specs.Constants.{most_tasks, most_frames}
use Rattle.analysis.specs.declared.Finding.{Finding}
use Rattle.report_text.specs.Words.{missed_word, decimal, line}

-- a word behind others of its line: a space stands before it
abbrev pub behind : List ℕ → List ℕ
behind w = 0x20 ∷ w

-- of the slots with times the first n, or once that the task misses
unfoldable pub found_words : Option (List ℕ) → ℕ → List (List ℕ)
found_words (Some times) n = map decimal (take n times)
found_words None n = missed_word ∷ []

-- the line of what is found of a task
unfoldable pub finding_line : Finding → List ℕ
finding_line f =
    line (
    decimal f.number
    ∷ decimal f.period
    ∷ decimal f.deadline
    ∷ decimal f.blocked
    ∷ found_words f.times f.frame_count)

-- within the sheet's limits
pub record Printable (f : Finding) : Type 0 where
  pub known_number : f.number < most_tasks
  pub few_frames : f.frame_count ≤ most_frames

-- how many bytes at most: a number with the space before it, the line of a task, the first line
abbrev pub word_room : ℕ
word_room = 11

abbrev pub line_room : ℕ
line_room = 3 + word_room * (3 + most_frames)

abbrev pub first_room : ℕ
first_room = 41
