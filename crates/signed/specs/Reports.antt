-- What we sign for the report: what its first line says, read from its bytes, and what stands in the line of each task.
use Rattle.std.specs.Prelude.{Bool, true, false, cond, List, [], ◌∷◌, ◌++◌, map, ◌⊎◌, ◌≡◌, ℕ, zero, suc, ◌+◌, ◌-◌, ◌*◌, ◌≤◌, ◌<◌, eqb, length, get_or, take, drop, Err, None, Ok, Option, Result, Some}
use Rattle.theory.specs.Tasks.{Task, task_at, frame_count, shortest_deadline}
use Rattle.theory.specs.Tasks.{Admitted as IsAdmitted}
use Rattle.theory.specs.Analysis.{lower, blocking}
use Rattle.sheet.specs.declared.Refusal.{Refusal}
use Rattle.sheet.specs.declared.Refusal.TheVariants.{Room}
use Rattle.order.specs.Order.{priority_order, ordered_set}
use Rattle.analysis.specs.Times.{number_at}
use Rattle.analysis.specs.Runs.{place}
use Rattle.report_text.specs.Words.{holds_word, missed_word, refused_word, decimal, line}
use Rattle.report_text.specs.Report.{blocker_word}
use Rattle.report_text.specs.declared.Text.{Text}
use Rattle.signed.specs.Claims.{Said, holds, missed, refused, NoMiss, SomeMiss, WorstTime, Named}

-- ---- words read from bytes

-- a byte before the words that follow: the line's end, a space, or a byte of the first word
unfoldable pub before_words : (end space : Bool) → ℕ → List (List ℕ) → List (List ℕ)
before_words true space b ws = [] ∷ []
before_words false true b ws = [] ∷ ws
before_words false false b [] = (b ∷ []) ∷ []
before_words false false b (w ∷ ws) = (b ∷ w) ∷ ws

-- the words of a text's first line
unfoldable pub words_in : List ℕ → List (List ℕ)
words_in [] = []
words_in (b ∷ bs) = before_words (eqb b 0x0A) (eqb b 0x20) b (words_in bs)

-- the number that decimal digits stand for, behind those that were read
unfoldable pub number_from : ℕ → List ℕ → ℕ
number_from read [] = read
number_from read (d ∷ ds) = number_from (read * 10 + (d - 48)) ds

unfoldable pub number_in : List ℕ → ℕ
number_in ds = number_from 0 ds

-- a dash stands for no blocker
unfoldable pub blocker_in : List ℕ → Option ℕ
blocker_in w = cond (eqb (get_or w 0 0) 0x2D) None (Some (number_in w))

-- what the words of a first line say: `holds` begins with h, `missed` with m
unfoldable pub said_in : List (List ℕ) → Said
said_in ws =
    let first = get_or (get_or ws 0 []) 0 0 in
    cond (eqb first 0x68) holds
    (cond (eqb first 0x6D) (missed (number_in (get_or ws 2 [])) (blocker_in (get_or ws 3 []))) (refused (number_in (get_or ws 1 []))))

-- ---- the lines of the tasks

-- number, period, deadline and blocking of the task at place q of the priority order
unfoldable pub task_words : ℕ → List Task → ℕ → List (List ℕ)
task_words policy tasks q =
    let i = number_at (priority_order policy tasks) q in
    decimal i
    ∷ decimal (task_at tasks i).period
    ∷ decimal (shortest_deadline (task_at tasks i))
    ∷ decimal (blocking (lower (ordered_set policy tasks) q))
    ∷ []

-- a line with the worst time of each frame
pub record TimedWords (policy : ℕ) (tasks : List Task) (q : ℕ) (words : List (List ℕ)) : Type 0 where
  pub times : List ℕ
  pub one_each : length times ≡ frame_count (task_at tasks (number_at (priority_order policy tasks) q))
  pub worst : (k : ℕ) → k < length times → WorstTime policy tasks (number_at (priority_order policy tasks) q) k (get_or times k 0)
  pub are : words ≡ task_words policy tasks q ++ map decimal times

-- a line with the word `missed`: the task misses in some run
pub record MissedWords (policy : ℕ) (tasks : List Task) (q : ℕ) (words : List (List ℕ)) : Type 0 where
  pub misses : SomeMiss policy tasks (number_at (priority_order policy tasks) q)
  pub are : words ≡ task_words policy tasks q ++ (missed_word ∷ [])

-- one or the other; above task p the worst times
pub record WordsUpTo (policy : ℕ) (tasks : List Task) (p q : ℕ) (words : List (List ℕ)) : Type 0 where
  pub either : TimedWords policy tasks q words ⊎ MissedWords policy tasks q words
  pub above : q < place policy tasks p → TimedWords policy tasks q words

-- the lines of n places from place q on
unfoldable pub lines : (ℕ → List (List ℕ)) → ℕ → ℕ → List ℕ
lines words q zero = []
lines words q (suc n) = line (words q) ++ lines words (suc q) n

-- a text of a first line and a line for each of n places, in their order, with such words
pub record Lines (n : ℕ) (Words : ℕ → List (List ℕ) → Type 0) (text : List ℕ) : Type 0 where
  pub words : ℕ → List (List ℕ)
  pub whole : text ≡ line (words_in text) ++ lines words 0 n
  pub each : (q : ℕ) → q < n → Words q (words q)

-- the bytes of a report that are its text
unfoldable pub text_in : Text → List ℕ
text_in t = take t.length t.bytes

-- What we sign for a report on these tasks, by what its first line says: the words of that line, and the line of each task.
unfoldable pub ReportSigned : ℕ → List Task → List ℕ → Said → Type 0
ReportSigned policy tasks text holds =
    NoMiss policy tasks
    × (words_in text ≡ holds_word ∷ decimal (length tasks) ∷ [])
    × Lines (length tasks) (TimedWords policy tasks) text
    × IsAdmitted tasks
ReportSigned policy tasks text (missed p b) =
    Named policy tasks p b
    × (words_in text ≡ missed_word ∷ decimal (length tasks) ∷ decimal p ∷ blocker_word b ∷ [])
    × Lines (length tasks) (WordsUpTo policy tasks p) text
    × IsAdmitted tasks
ReportSigned policy tasks text (refused number) = (1 ≤ number) × (number ≤ 12) × (text ≡ line (refused_word ∷ decimal number ∷ []))

-- And for its text in lent bytes: it stands there, as long as it is said to be and within the room, and the bytes behind it are as they were; or there
-- is no room, and nothing has changed.
unfoldable pub ReportLeft : ℕ → List Task → (before after : List ℕ) → Result ℕ Refusal → Type 0
ReportLeft policy tasks before after (Ok n) =
    ReportSigned policy tasks (take n after) (said_in (words_in (take n after)))
    × (n ≤ length before)
    × (length after ≡ length before)
    × (drop n after ≡ drop n before)
    × (n ≤ 2048)
ReportLeft policy tasks before after (Err why) = (why ≡ Room) × (after ≡ before)
