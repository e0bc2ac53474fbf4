-- The course of a play: what is known of the script that is played, and of the player's state from moment to moment.
use Rattle.std.specs.Prelude.{Bool, true, false, if◌then◌else◌, ◌&&◌, ◌≡◌, ℕ, ◌+◌, ◌≤◌, ◌<◌, nat_le, nat_lt, length, get_or, take, drop, None, is_none}
use mathlib.Core.List.{List, Memᴰ}
use Rattle.bits.specs.Packed.{bits_of}
use Rattle.check_word.specs.Division.{body}
use Rattle.lent.specs.Checks.{first_refusal}
use Rattle.theory.specs.Tasks.{Task, task_at, deadline_of, Admitted}
use Rattle.sheet.specs.Constants.{most_tasks, greatest_time}
use Rattle.sheet.specs.Tasks.{task_in, no_record}
use Rattle.order.specs.Claims.{Permutes}
use Rattle.analysis.specs.Times.{place_of}
use Rattle.plays.specs.Script.{Script, no_entry}
use Rattle.plays.specs.Items.{item_checks}
use Rattle.plays.specs.ScriptRun.{script_state}
use Rattle.plays.specs.Play.{script_seen, misser, over, end_of_play, shown_from}
use Rattle.plays.specs.declared.Entry.{Entry}
use Rattle.scripts.specs.Reading.{firsts_in, entry_at, well_made}
use Rattle.player.specs.Shows.{Shows}
use Rattle.player.specs.Answers.{ended}
use Rattle.player.specs.State.{never}
use Rattle.player.specs.declared.state.Player.{Player}
use Rattle.player.specs.declared.course.Cast.{Cast}
use Rattle.player.specs.declared.course.Progress.{Progress}
use Rattle.player.specs.declared.Played.{Played}

-- an entry that is never released
abbrev pub never_released : Entry
never_released = record { task = 0; tick = never; work = 0; lock = 0 }

-- entry j, or that one where there is none
abbrev pub upcoming : List ℕ → Cast → ℕ → Entry
upcoming s cast j = if nat_lt j cast.entries then entry_at cast.count s j else never_released

-- how far a play has come, with that player
abbrev pub with_player : Progress → Player → Progress
with_player at player = record { player = player; frames = at.frames; released = at.released; next = at.next }

-- all jobs are done: every one of n entries is released, and no task has the tick
abbrev pub done_with : ℕ → Progress → Bool
done_with n at = nat_le n at.released && is_none at.player.picked

-- a script of which no item is turned away, of an admitted set in priority order
pub record Ready (order : List ℕ) (tasks : List Task) (sc : Script) : Type 0 where
  pub permutes : Permutes (length tasks) order
  pub admitted : Admitted tasks
  pub few : length tasks ≤ most_tasks
  pub as_many : length sc.firsts ≡ length tasks
  pub kept : first_refusal (item_checks tasks sc) ≡ None
  pub ticks_in : (e : Entry) → Memᴰ e sc.entries → e.tick ≤ greatest_time
  pub deadlines_in : (i k : ℕ) → i < length tasks → deadline_of (task_at tasks i) k ≤ greatest_time

-- the script in the bytes and the cast that plays it
pub record Stage (s : List ℕ) (cast : Cast) : Type 0 where
  pub tasks : List Task
  pub sc : Script
  pub ready : Ready (take cast.count cast.order) tasks sc
  pub count_is : cast.count ≡ length tasks
  pub made : well_made cast.count s ≡ true
  pub firsts_are : firsts_in cast.count (bits_of (body s)) ≡ sc.firsts
  pub entries_are : cast.entries ≡ length sc.entries
  pub entry_is : (j : ℕ) → j < length sc.entries → entry_at cast.count s j ≡ get_or sc.entries j no_entry
  pub task_is : (i : ℕ) → i < length tasks → task_in (get_or cast.tasks i no_record) ≡ task_at tasks i

module _ (order : List ℕ) (tasks : List Task) (sc : Script) where
  -- at moment t, before the releases of tick t: j entries are released, those of earlier ticks
  pub record InPlay (t j : ℕ) (player : Player) : Type 0 where
    pub shows : Shows order tasks sc (script_state order tasks sc t) player
    pub released_before : (d : Entry) → Memᴰ d (take j sc.entries) → d.tick < t
    pub rest_from : (d : Entry) → Memᴰ d (drop j sc.entries) → t ≤ d.tick
    pub within : j ≤ length sc.entries

  -- with the releases of tick t seen
  pub record Seen (t j : ℕ) (player : Player) : Type 0 where
    pub shows : Shows order tasks sc (script_seen order tasks sc t) player
    pub released_by : (d : Entry) → Memᴰ d (take j sc.entries) → d.tick ≤ t
    pub rest_after : (d : Entry) → Memᴰ d (drop j sc.entries) → t < d.tick
    pub within : j ≤ length sc.entries

  -- the frames kept at moment t: of each task that of its next job
  pub record NextFrames (t : ℕ) (frames : List ℕ) : Type 0 where
    pub room : length frames ≡ most_tasks
    pub frame_is : (i : ℕ) → i < length tasks → get_or frames i 0 ≡ ((script_state order tasks sc t).lanes (place_of order i)).next

module _ {s : List ℕ} {cast : Cast} (stage : Stage s cast) where
  abbrev pub order_on : List ℕ
  order_on = take cast.count cast.order

  -- the frames kept in this play
  abbrev pub FramesOn : ℕ → List ℕ → Type 0
  FramesOn t frames = NextFrames order_on stage.tasks stage.sc t frames

  -- how far a play has come at moment t: it is not over before
  pub record Going (t : ℕ) (at : Progress) : Type 0 where
    pub in_play : InPlay order_on stage.tasks stage.sc t at.released at.player
    pub frames_now : FramesOn t at.frames
    pub next_is : at.next ≡ upcoming s cast at.released
    pub not_over : (u : ℕ) → u < t → over order_on stage.tasks stage.sc u ≡ false

  -- and with the releases of tick t seen, where no task misses at moment t; the frames are kept for the next moment
  pub record Gone (t : ℕ) (at : Progress) : Type 0 where
    pub seen : Seen order_on stage.tasks stage.sc t at.released at.player
    pub frames_then : FramesOn (t + 1) at.frames
    pub next_is : at.next ≡ upcoming s cast at.released

  -- how the play ends
  abbrev pub the_end : Played
  the_end =
      let t = end_of_play order_on stage.tasks stage.sc in
      ended t (misser order_on stage.tasks stage.sc t)

-- a play at moment t at which no task misses
pub record Calmly (s : List ℕ) (cast : Cast) (t : ℕ) (at : Progress) : Type 0 where
  pub stage : Stage s cast
  pub going : Going stage t at
  pub calm : misser (order_on stage) stage.tasks stage.sc t ≡ None
  pub soon : t < never

-- n ticks of the play, a byte each
abbrev pub shown_on : {s : List ℕ} {cast : Cast} → Stage s cast → ℕ → List ℕ
shown_on stage n = shown_from (order_on stage) stage.tasks stage.sc 0 n

-- a play up to its end, and room for a byte of each tick
pub record Traceable (s : List ℕ) (cast : Cast) (end room : ℕ) : Type 0 where
  pub stage : Stage s cast
  pub to_end : (stage : Stage s cast) → end ≡ end_of_play (order_on stage) stage.tasks stage.sc
  pub has_room : end ≤ room
