-- What the functions of the course cite: the next entry, the releases of a tick one by one, how the play goes on and how it ends.
use Rattle.std.specs.Prelude.{None, Option, Some, All, IfSome, is_none, nat_le, ◌&&◌}
use mathlib.Core.Bool.{true, false, and-eq-true_iff, true≢false}
use mathlib.Core.List.{List}
use mathlib.Core.Path.{◌≡◌, refl, sym, ap, ◌∙◌}
use Prim.Native.Nat.{ℕ, zero, suc, ◌+◌, ◌*◌, ◌≤◌, ◌<◌}
use native.Mathlib.Decide.{dec_le, ℕ_discrete}
use native.Mathlib.Nat.{add-zero, zero-add, le_of_suc-le-suc, not-suc-le-zero}
use native.Mathlib.Numerals.{add-one}
use native.Mathlib.Omega.{arith}
use borrow.Author.Tests.{lt-ltb, le-ltb, le-leb, leb-true}
use lib.ListN.{length, get_or, take, set, replicate}
use Rattle.std.proofs.lemmas.List.{get_or_default}
use lib.Seq.{get_or-take, take_all}
use Rattle.bits.specs.Packed.{bits_of}
use Rattle.check_word.specs.Division.{body}
use Rattle.lent.specs.Lent.{laid}
use Rattle.lent.proofs.Laid.{laid_to, laid_more, laid_all}
use Rattle.theory.specs.Tasks.{Task, task_at, frame_count, deadline_of}
use Rattle.theory.specs.Runs.{Legal}
use Rattle.theory.proofs.Search.{IsFirst}
use Rattle.plays.specs.ScriptRun.{by_place, script_run}
use Rattle.sheet.specs.Constants.{most_tasks, greatest_time}
use Rattle.sheet.specs.Tasks.{task_in, no_record, next_round}
use Rattle.sheet.proofs.Rounds.{next_is}
use Rattle.plays.specs.Script.{Script, no_entry}
use Rattle.plays.specs.Play.{misser, all_done, over, end_of_play, shown, shown_from}
use Rattle.plays.specs.declared.Entry.{Entry}
use Rattle.plays.proofs.ScriptFacts.{member_at, entry_in_set}
use Rattle.plays.specs.OnePending.{Calm}
use Rattle.plays.proofs.PlayEnds.{not_over, still_on, over_by_miss, over_by_done, end_is, end_unique}
use Rattle.scripts.specs.Reading.{firsts_in}
use Rattle.scripts.proofs.Entries.{firsts_in_slots}
use Rattle.player.specs.Answers.{ended}
use Rattle.player.specs.State.{never, at_rest, released, picked_by, ticked, misser_in, looking_ahead, shown_byte}
use Rattle.player.specs.Inside.Course.{upcoming, Stage, FramesOn, Going, Gone, Calmly, order_on, done_with, the_end, shown_on, with_player}
use Rattle.player.specs.declared.state.Player.{Player}
use Rattle.player.specs.declared.course.Cast.{Cast}
use Rattle.player.specs.declared.course.Progress.{Progress}
use Rattle.player.specs.declared.Played.TheVariants.{Missed, Done}
use Rattle.player.proofs.Moments.{Releasing, starts, first_kept, releases_start, frame_in, releases_more, releases_end, goes_on, legal, finds_misser, picked_in, tick_shown}
use Rattle.player.proofs.Moments.{all_are_done, not_all_released, not_all_done, ahead_in_play}

none_of : {A : Type 0} (o : Option A) → is_none o ≡ true → o ≡ None
none_of None e = refl
none_of (Some i) e = absurd (true≢false (sym e))

-- ---- the play of a cast

module _ {s : List ℕ} {cast : Cast} (stage : Stage s cast) where
  abbrev order_here : List ℕ
  order_here = order_on stage

  abbrev tasks_here : List Task
  tasks_here = stage.tasks

  abbrev sc_here : Script
  sc_here = stage.sc

  abbrev in_turn : ℕ → Entry
  in_turn j = get_or stage.sc.entries j no_entry

  next_entry : (j : ℕ) → j < length stage.sc.entries → upcoming s cast j ≡ in_turn j
  next_entry j h = rw (lt-ltb j cast.entries (omega (arith, stage.entries_are))) (stage.entry_is j h)

  -- an entry of the tick is one of the script's
  is_entry : (t j : ℕ) → t < never → j ≤ length stage.sc.entries → (upcoming s cast j).tick ≡ t → j < length stage.sc.entries
  is_entry t j soon within now = go (ℕ_discrete j (length stage.sc.entries))
    where
      go : Dec (j ≡ length stage.sc.entries) → j < length stage.sc.entries
      go (no ne) = omega arith
      go (yes e) = let z : never ≡ t = rw (le-ltb j cast.entries (omega (arith, stage.entries_are))) at now in absurd (omega arith)

  abbrev pub ReleasingOn : ℕ → ℕ → Player → List ℕ → Type 0
  ReleasingOn t j player frames = Releasing order_here tasks_here sc_here t j player frames

  -- no task misses up to moment t
  pub calm_so_far : (t : ℕ) (at : Progress) → Going stage t at → misser order_here tasks_here sc_here t ≡ None → Calm order_here tasks_here sc_here t
  calm_so_far t at going calm u h = go (ℕ_discrete u t)
    where
      go : Dec (u ≡ t) → misser order_here tasks_here sc_here u ≡ None
      go (yes e) = rw e calm
      go (no ne) = (not_over order_here tasks_here sc_here u (going.not_over u (omega arith))).0

  -- a turn of the releases of tick t: an entry of the tick comes next
  pub record Turn (t : ℕ) (at : Progress) : Type 0 where
    pub soon : t < never
    pub releasing : ReleasingOn t at.released at.player at.frames
    pub next_is : at.next ≡ upcoming s cast at.released
    pub now : at.next.tick ≡ t

  module _ (t : ℕ) (at : Progress) (turn : Turn t at) where
    in_row : at.released < length stage.sc.entries
    in_row = is_entry t at.released turn.soon turn.releasing.within (sym (ap (λ x. x.tick) turn.next_is) ∙ turn.now)

    entry_here : at.next ≡ in_turn at.released
    entry_here = turn.next_is ∙ next_entry at.released in_row

    entry_task : at.next.task < length stage.tasks
    entry_task = rw entry_here (entry_in_set stage.tasks stage.sc stage.ready.kept at.released in_row)

    -- its task has a slot
    pub entry_room : at.next.task < most_tasks
    entry_room = omega (arith, entry_task, stage.ready.few)

    -- what a release asks
    pub entry_fits : (deadline k : ℕ) → deadline ≡ deadline_of (task_in (get_or cast.tasks at.next.task no_record)) k
        → (at.next.task < most_tasks) × (at.next.tick ≤ greatest_time) × (deadline ≤ greatest_time)
    entry_fits deadline k its = (
      entry_room,
      rw entry_here (stage.ready.ticks_in (in_turn at.released) (member_at stage.sc.entries at.released in_row)),
      rw (its, stage.task_is _ entry_task) (stage.ready.deadlines_in _ k entry_task),
    )

    pub entries_left : at.released < cast.entries
    entries_left = omega (arith, in_row, stage.entries_are)

    -- one release more: the deadline is that of the frame kept for its task, and the frame that follows is kept
    pub one_more : Calm order_here tasks_here sc_here t → (deadline k : ℕ)
        → deadline ≡ deadline_of (task_in (get_or cast.tasks at.next.task no_record)) (get_or at.frames at.next.task 0)
        → k ≡ next_round (get_or at.frames at.next.task 0) (frame_count (task_in (get_or cast.tasks at.next.task no_record)))
        → ReleasingOn t (at.released + 1) (released at.player at.next deadline) (set at.frames at.next.task k)
    one_more calm deadline k its behind =
        let at_tick = sym (ap (λ x. x.tick) entry_here) ∙ turn.now in
        rw (entry_here, add-one at.released)
        (releases_more order_here tasks_here sc_here stage.ready t at.released at.player at.frames turn.releasing calm in_row at_tick deadline k
        (rw (entry_here, task_there) at its)
        (rw (entry_here, task_there) at behind ∙ next_is _ _ (frame_in order_here tasks_here sc_here stage.ready t at.released at.player at.frames turn.releasing in_row at_tick)))
      where
        task_there : task_in (get_or cast.tasks (in_turn at.released).task no_record) ≡ task_at tasks_here (in_turn at.released).task
        task_there = stage.task_is _ (entry_in_set stage.tasks stage.sc stage.ready.kept at.released in_row)

  -- the releases of a tick begin
  pub release_starts : (t : ℕ) (at : Progress) → Going stage t at → ReleasingOn t at.released at.player at.frames
  release_starts t at going = releases_start order_here tasks_here sc_here stage.ready t at.released at.player at.frames going.in_play going.frames_now

  -- and end
  pub all_seen : (t : ℕ) (at : Progress) → ReleasingOn t at.released at.player at.frames → at.next ≡ upcoming s cast at.released → ¬ (at.next.tick ≡ t) → Gone stage t at
  all_seen t at releasing is ne =
      let (seen, nexts) = releases_end order_here tasks_here sc_here stage.ready t at.released at.player at.frames releasing
      (λ in_row e. ne (ap (λ x. x.tick) (is ∙ next_entry at.released in_row) ∙ e)) in
      record { seen = seen; frames_then = rw (add-one t) nexts; next_is = is }

  -- no entry of the tick comes next
  pub none_released : (t : ℕ) (at : Progress) → Going stage t at → ¬ (at.next.tick ≡ t) → Gone stage t at
  none_released t at going ne = all_seen t at (release_starts t at going) going.next_is ne

  -- ---- from moment to moment

  -- before the first tick
  pub begins : (frames : List ℕ) → FramesOn stage 0 frames → Going stage 0 (record { player = at_rest; frames = frames; released = 0; next = upcoming s cast 0 })
  begins frames nexts = record { in_play = starts order_here tasks_here sc_here; frames_now = nexts; next_is = refl; not_over = λ u h. absurd (omega arith) }

  -- with the first frames of the script
  pub frames_begin : (frames : List ℕ) → length frames ≡ most_tasks → frames ≡ laid (firsts_in cast.count (bits_of (body s))) (replicate most_tasks 0) → FramesOn stage 0 frames
  frames_begin frames room is =
      first_kept order_here tasks_here sc_here stage.ready.permutes frames room
      (λ i h. sym (get_or-take cast.count frames i 0 (omega (arith, stage.count_is))) ∙ ap (λ l. get_or l i 0) (firsts_in_slots cast.count s frames is ∙ stage.firsts_are))

  -- the order holds task numbers
  pub order_fits : All (λ i. i < most_tasks) (order_on stage)
  order_fits p d h =
      let here = stage.ready.permutes.each_place p (omega (arith, stage.ready.permutes.same_length)) in
      rw (get_or_default (order_on stage) p d 0 h) (omega (arith, here, stage.ready.few))

  pub count_fits : cast.count ≤ most_tasks
  count_fits = omega (arith, stage.count_is, stage.ready.few)

  -- how far a play has come with the task picked that has the tick, and behind the tick
  abbrev pub picked_at : List ℕ → Progress → Progress
  picked_at order at = record { player = picked_by order at.player; frames = at.frames; released = at.released; next = at.next }

  abbrev pub behind : List ℕ → Progress → Progress
  behind order at = record { player = ticked (picked_by order at.player); frames = at.frames; released = at.released; next = at.next }

  -- the play goes on behind a tick at which it is not over
  pub behind_tick : (t : ℕ) → ((u : ℕ) → u < t → over order_here tasks_here sc_here u ≡ false) → (at : Progress) → Gone stage t at → over order_here tasks_here sc_here t ≡ false
      → Going stage (t + 1) (behind order_here at)
  behind_tick t before at gone on =
      record {
        in_play = rw (add-one t) (goes_on order_here tasks_here sc_here stage.ready t at.released at.player gone.seen);
        frames_now = gone.frames_then;
        next_is = gone.next_is;
        not_over = λ u h. go u h (ℕ_discrete u t);
      }
    where
      go : (u : ℕ) → u < t + 1 → Dec (u ≡ t) → over order_here tasks_here sc_here u ≡ false
      go u h (yes e) = rw e on
      go u h (no ne) = before u (omega arith)

  -- a task that has the tick is one of the set
  pub picked_there : (t : ℕ) (at : Progress) → Gone stage t at → IfSome (picked_by order_here at.player).picked (λ i. i < most_tasks)
  picked_there t at gone = picked_in order_here tasks_here sc_here stage.ready t at.released at.player gone.seen

  -- ---- the end

  abbrev legal_here : (n : ℕ) → Legal (by_place order_here tasks_here) (script_run order_here tasks_here sc_here n)
  legal_here = legal order_here tasks_here sc_here stage.ready

  -- the first moment at which the play is over
  pub end_here : IsFirst 0 (suc (2 * greatest_time)) (over (order_on stage) stage.tasks stage.sc) (end_of_play (order_on stage) stage.tasks stage.sc)
  end_here = end_is order_here tasks_here sc_here stage.ready.permutes stage.ready.admitted legal_here stage.ready.ticks_in stage.ready.deadlines_in

  -- the moment at which the play is over, and not before, and who misses then
  ends_at : (t : ℕ) → over order_here tasks_here sc_here t ≡ true → ((u : ℕ) → u < t → over order_here tasks_here sc_here u ≡ false)
      → ended t (misser order_here tasks_here sc_here t) ≡ the_end stage
  ends_at t e on =
      rw (end_unique order_here tasks_here sc_here stage.ready.permutes stage.ready.admitted legal_here stage.ready.ticks_in stage.ready.deadlines_in t e on) refl

  module _ (t : ℕ) (at : Progress) (going : Going stage t at) where
    -- who misses is found
    pub found_is : misser_in at.player (length order_here) t ≡ misser order_here tasks_here sc_here t
    found_is = ap (λ n. misser_in at.player n t) stage.ready.permutes.same_length ∙ finds_misser order_here tasks_here sc_here t at.player going.in_play.shows

    -- a task misses
    pub miss_ends : (i : ℕ) → misser_in at.player (length (order_on stage)) t ≡ Some i → Missed t i ≡ the_end stage
    unfolding ended
    miss_ends i found =
        let e : misser order_here tasks_here sc_here t ≡ Some i = sym found_is ∙ found in
        rw e at (ends_at t (over_by_miss order_here tasks_here sc_here t e) going.not_over)

    -- none does: the player looks ahead
    abbrev pub calm_ahead : misser_in at.player (length (order_on stage)) t ≡ None → t < never → (then : Progress) → then ≡ with_player at (looking_ahead at.player t) → Calmly s cast t then
    calm_ahead found soon then ahead =
        record {
          stage = stage;
          going =
              rw ahead
              record {
                in_play = ahead_in_play order_here tasks_here sc_here stage.ready t at.released at.player going.in_play;
                frames_now = going.frames_now;
                next_is = going.next_is;
                not_over = going.not_over;
              };
          calm = sym found_is ∙ found;
          soon = soon;
        }

  module _ (t : ℕ) (at : Progress) (gone : Gone stage t at) where
    -- all jobs are done
    done_so : (cast.entries ≤ at.released) → (picked_by order_here at.player).picked ≡ None → all_done order_here tasks_here sc_here t ≡ true
    done_so l e = all_are_done order_here tasks_here sc_here stage.ready t at.released at.player gone.seen (omega (arith, stage.entries_are, gone.seen.within)) e

    -- they are not
    not_done_so : (o : Option ℕ) → (picked_by order_here at.player).picked ≡ o → nat_le cast.entries at.released && is_none o ≡ false → all_done order_here tasks_here sc_here t ≡ false
    not_done_so (Some i) e f = not_all_done order_here tasks_here sc_here stage.ready t at.released at.player gone.seen i e
    not_done_so None e f = go (dec_le cast.entries at.released)
      where
        go : Dec (cast.entries ≤ at.released) → all_done order_here tasks_here sc_here t ≡ false
        go (no l) = not_all_released order_here tasks_here sc_here stage.ready t at.released at.player gone.seen (omega (arith, stage.entries_are))
        go (yes l) = let z : true ≡ false = rw (le-leb cast.entries at.released l) at f in absurd (true≢false z)

    module _ (before : (u : ℕ) → u < t → over order_here tasks_here sc_here u ≡ false) (calm : misser order_here tasks_here sc_here t ≡ None) where
      -- all jobs are done at a moment at which no task misses
      pub done_ends : done_with cast.entries (picked_at (order_on stage) at) ≡ true → Done t ≡ the_end stage
      unfolding ended
      done_ends e =
          let both = (and-eq-true_iff (nat_le cast.entries at.released) (is_none (picked_by order_here at.player).picked)).0 e in
          rw calm at (ends_at t (over_by_done order_here tasks_here sc_here t (done_so (leb-true cast.entries at.released both.0) (none_of (picked_by order_here at.player).picked both.1))) before)

      -- the play goes on where neither is so
      pub goes_behind : done_with cast.entries (picked_at (order_on stage) at) ≡ false → Going stage (t + 1) (behind order_here at)
      goes_behind e = behind_tick t before at gone (still_on order_here tasks_here sc_here t calm (not_done_so (picked_by order_here at.player).picked refl e))

  -- no play gets past the last moment
  pub never_past : (t : ℕ) (at : Progress) → Going stage t at → t ≤ 2 * greatest_time
  never_past t at going =
      let before : ¬ (end_of_play order_here tasks_here sc_here < t) = λ h. true≢false (sym end_here.passes ∙ going.not_over _ h) in
      omega (arith, end_here.before)

-- a turn where no task misses
pub turn_at : {s : List ℕ} {cast : Cast} {t : ℕ} {from : Progress} (on : Calmly s cast t from) (at : Progress)
    → (at.next ≡ upcoming s cast at.released) × ((on : Calmly s cast t from) → ReleasingOn on.stage t at.released at.player at.frames) → at.next.tick ≡ t → Turn on.stage t at
turn_at on at kept now = record { soon = on.soon; releasing = kept.1 on; next_is = kept.0; now = now }

-- ---- a trace

module _ (order : List ℕ) (tasks : List Task) (sc : Script) where
  pub shown_length : (t n : ℕ) → length (shown_from order tasks sc t n) ≡ n
  unfolding shown_from
  shown_length t zero = refl
  shown_length t (suc n) = ap suc (shown_length (suc t) n)

  pub shown_at : (t n m : ℕ) → m < n → get_or (shown_from order tasks sc t n) m 0 ≡ shown order tasks sc (t + m)
  unfolding shown_from
  shown_at t zero m h = absurd (not-suc-le-zero h)
  shown_at t (suc n) zero h = ap (shown order tasks sc) (sym (add-zero t))
  shown_at t (suc n) (suc m) h = shown_at (suc t) n m (le_of_suc-le-suc h) ∙ ap (shown order tasks sc) (omega arith)

module _ {s : List ℕ} {cast : Cast} (stage : Stage s cast) (end : ℕ) (to_end : end ≡ end_of_play (order_on stage) stage.tasks stage.sc) (t : ℕ) (before : t < end) where
  pub not_yet : (misser (order_on stage) stage.tasks stage.sc t ≡ None) × (all_done (order_on stage) stage.tasks stage.sc t ≡ false)
  not_yet = not_over (order_on stage) stage.tasks stage.sc t ((end_here stage).earlier t (omega arith) (omega arith))

  -- before its end the play is calm and goes on
  abbrev pub calm_yet : (at : Progress) → Going stage t at → Calmly s cast t at
  calm_yet at going =
      record { stage = stage; going = going; calm = not_yet.0; soon = omega (arith, (end_here stage).before) }

  pub goes_yet : ((u : ℕ) → u < t → over (order_on stage) stage.tasks stage.sc u ≡ false) → (at : Progress) → Gone stage t at → Going stage (t + 1) (behind stage (order_on stage) at)
  goes_yet earlier at gone = behind_tick stage t earlier at gone (still_on (order_on stage) stage.tasks stage.sc t not_yet.0 not_yet.1)

  module _ (at : Progress) (gone : Gone stage t at) where
    -- its byte is the one that stands there in the trace
    byte_yet : shown_byte (picked_by (order_on stage) at.player) ≡ get_or (shown_on stage end) t 0
    byte_yet =
        tick_shown (order_on stage) stage.tasks stage.sc stage.ready t at.released at.player gone.seen
        ∙ ap (shown (order_on stage) stage.tasks stage.sc) (sym (zero-add t))
        ∙ sym (shown_at (order_on stage) stage.tasks stage.sc 0 end t before)

    -- written behind those before it
    pub byte_laid : (memory : List ℕ) → end ≤ length memory
        → set (laid_to (shown_on stage end) memory t) t (shown_byte (picked_by (order_on stage) at.player)) ≡ laid_to (shown_on stage end) memory (t + 1)
    byte_laid memory room =
        rw byte_yet
        (laid_more (shown_on stage end) memory t 0 (omega (arith, shown_length (order_on stage) stage.tasks stage.sc 0 end)) (omega arith))

-- all bytes are written
pub all_laid : {s : List ℕ} {cast : Cast} (stage : Stage s cast) (end : ℕ) (memory : List ℕ) → laid_to (shown_on stage end) memory end ≡ laid (shown_on stage end) memory
all_laid stage end memory =
    let all : take end (shown_on stage end) ≡ shown_on stage end = take_all end (shown_on stage end) (omega (arith, shown_length (order_on stage) stage.tasks stage.sc 0 end)) in
    laid_all (shown_on stage end) memory end (ap length all ∙ shown_length (order_on stage) stage.tasks stage.sc 0 end) ∙ ap (λ l. laid l memory) all
