-- A sheet and a script: they are turned away as the order of the checks says, or the cast plays the sheet's script.
use Rattle.std.specs.Prelude.{Err, None, Ok, Option, Result, Some}
use mathlib.Core.Bool.{true, false}
use mathlib.Core.List.Memᴰ
use mathlib.Core.List.{List, [], ◌∷◌, map, Memᴰ}
use mathlib.Core.Logic.{◌⊎◌, inl, inr}
use mathlib.Core.Path.{◌≡◌, refl, sym, ap, subst, ◌∙◌}
use Prim.Native.Nat.{ℕ, suc, ◌-◌, ◌%◌, ◌≤◌, ◌<◌}
use native.Mathlib.Decide.{dec_lt}
use native.Mathlib.Nat.{mod-lt}
use native.Mathlib.Omega.{arith}
use lib.ListN.{length, get_or, take, replicate, length-map, length-append}
use Rattle.std.proofs.lemmas.List.{take-map}
use Rattle.bits.specs.Packed.{bits_of}
use Rattle.check_word.specs.Division.{body}
use Rattle.lent.specs.Checks.{first_refusal}
use Rattle.lent.specs.Lent.{laid}
use Rattle.lent.proofs.Lent.{by_checks, by_room, done, turned_tells, done_tells}
use Rattle.theory.specs.Tasks.{Task, task_at, frame_count, deadline_of}
use Rattle.sheet.specs.Constants.{most_tasks, greatest_time}
use Rattle.sheet.specs.Tasks.{task_in, record_of, no_record, records_of, set_with, blank_record}
use Rattle.sheet.specs.Admission.{decided}
use Rattle.sheet.specs.Reading.{sheet_checks, policy_of, tasks_of}
use Rattle.sheet.specs.declared.TaskSet.{TaskSet}
use Rattle.sheet.specs.declared.Refusal.{Refusal}
use Rattle.sheet.specs.declared.Refusal.TheVariants.{Room}
use Rattle.sheet.proofs.Records.{tasks_with}
use Rattle.sheet.proofs.InFields.{InFields}
use Rattle.sheet.proofs.Turns.{time_at}
use Rattle.sheet.proofs.Carried.{Carried, carried_fit, by_reading, many_found}
use Rattle.sheet.proofs.Analysable.{each_at, admitted_sheet_is_admitted}
use Rattle.order.specs.Order.{priority_order}
use Rattle.order.specs.Ordered.{order_of, ordered, in_use, numbers_of}
use Rattle.order.specs.declared.Place.{Place}
use Rattle.order.proofs.Laws.{ordered_numbers}
use Rattle.order.proofs.Records.{task_there}
use Rattle.order.proofs.Order.{order_length, order_permutes}
use Rattle.plays.specs.Items.{item_checks}
use Rattle.plays.specs.Script.{Script, no_entry}
use Rattle.plays.specs.declared.Entry.{Entry}
use Rattle.plays.specs.Play.{misser, end_of_play, shown_from}
use Rattle.scripts.specs.Reading.{firsts_in, script_in, well_made, entry_at, entry_count}
use Rattle.scripts.specs.Writing.{Fits}
use Rattle.scripts.proofs.Entries.{count_of_entries, entry_is}
use Rattle.scripts.proofs.RoundTrip.{numbers_fit}
use Rattle.scripts.specs.Judging.{judged_by, judged, judgement}
use Rattle.scripts.specs.declared.Flaw.{Flaw}
use Rattle.scripts.specs.declared.Flaw.TheVariants.{Malformed}
use Rattle.player.specs.Answers.{order_in, script_for, play_checks, ended, moment_of, stops_at, play_end, played, tracing, traced, trace_left}
use Rattle.player.specs.Inside.Course.{Ready, Stage, the_end, shown_on}
use Rattle.player.specs.Inside.Staging.{cast_for, staged_by, set_staged, answer_staged, sheet_staged}
use Rattle.player.specs.declared.PlayRefusal.{PlayRefusal}
use Rattle.player.specs.declared.PlayRefusal.TheVariants.{Base, Malformed as ill_made, Item}
use Rattle.player.specs.declared.course.Cast.{Cast}
use Rattle.player.proofs.Playing.{shown_length}
use Rattle.player.proofs.Turned.{Told, by_sheet, by_form, by_item, by_nothing, told}

-- a deadline of a task whose numbers fit their fields is a time
deadline_fits : (t : Task) (k : ℕ) → InFields t → deadline_of t k ≤ greatest_time
unfolding deadline_of frame_count
deadline_fits t k fit = omega (arith, time_at t.deadlines (k % frame_count t) fit.deadlines_fit (omega (arith, mod-lt k fit.some_frame, fit.as_many)))

-- what is true of each entry by its index is true of each member
member_by_index : (P : Entry → Type 0) (es : List Entry) → ((j : ℕ) → j < length es → P (get_or es j no_entry)) → (e : Entry) → Memᴰ e es → P e
member_by_index P [] h e m = absurd (Memᴰ.not-nil m)
member_by_index P (x ∷ es) h e m = go (Memᴰ.cases_cons m) (member_by_index P es (λ j l. h (suc j) (omega arith)) e)
  where
    go : (e ≡ x) ⊎ Memᴰ e es → (Memᴰ e es → P e) → P e
    go (inl same) later = subst P (sym same) (h 0 (omega arith))
    go (inr m) later = later m

-- the moment of an end
pub moment_by : (t : ℕ) (o : Option ℕ) → moment_of (ended t o) ≡ t
unfolding ended
moment_by t None = refl
moment_by t (Some i) = refl

moment_ended : (sheet bytes : List ℕ) → moment_of (play_end sheet bytes) ≡ stops_at sheet bytes
unfolding play_end
moment_ended sheet bytes = moment_by (stops_at sheet bytes) _

-- ---- which way

module _ (sheet bytes : List ℕ) where
  abbrev tasks : List Task
  tasks = tasks_of sheet

  abbrev n : ℕ
  n = length tasks

  abbrev set : TaskSet
  set = set_with (policy_of sheet) tasks

  -- what is known of a sheet and a script that are not turned away
  pub record Playing : Type 0 where
    pub admitted : decided (sheet_checks sheet) ≡ Ok tt
    pub made : well_made n bytes ≡ true
    pub kept : first_refusal (item_checks tasks (script_in n bytes)) ≡ None

  pub data Way : Type 0 where
    turned : (r : PlayRefusal) → first_refusal (play_checks sheet bytes) ≡ Some r → sheet_staged sheet bytes ≡ Err r → Way
    plays : first_refusal (play_checks sheet bytes) ≡ None → Playing
        → sheet_staged sheet bytes ≡ Ok (cast_for (set_with (policy_of sheet) (tasks_of sheet)) bytes) → Way

  -- nothing turns them away
  pub is_playing : first_refusal (play_checks sheet bytes) ≡ None → Playing
  unfolding decided script_for
  is_playing e = go (subst (Told sheet bytes) e (told sheet bytes))
    where
      go : Told sheet bytes None → Playing
      go (by_nothing s w f) = record { admitted = rw s; made = w; kept = f }

  its_tasks : map task_in (records_of set) ≡ tasks
  its_tasks = tasks_with (policy_of sheet) tasks (many_found sheet)

  staged_set : {j : Result Unit Flaw} → decided (sheet_checks sheet) ≡ Ok tt → judgement tasks bytes ≡ j → sheet_staged sheet bytes ≡ staged_by j set bytes
  unfolding sheet_staged answer_staged set_staged
  staged_set a e = rw (a, its_tasks, e)

  refused_staged : {why : Refusal} → decided (sheet_checks sheet) ≡ Err why → sheet_staged sheet bytes ≡ Err (Base why)
  unfolding sheet_staged answer_staged
  refused_staged a = rw a

  judged_ill : well_made n bytes ≡ false → judgement tasks bytes ≡ Err Malformed
  unfolding judgement
  judged_ill e = rw e

  judged_well : {o : Option ℕ} → well_made n bytes ≡ true → first_refusal (item_checks tasks (script_in n bytes)) ≡ o → judgement tasks bytes ≡ judged_by o
  unfolding judgement judged
  judged_well e f = rw (e, f)

  pub way : Way
  unfolding decided script_for staged_by
  way = go (first_refusal (play_checks sheet bytes)) refl (told sheet bytes)
    where
      go : (o : Option PlayRefusal) → first_refusal (play_checks sheet bytes) ≡ o → Told sheet bytes o → Way
      go _ e (by_sheet why s) = turned (Base why) e (refused_staged (rw s))
      go _ e (by_form s w) = turned ill_made e (staged_set (rw s) (judged_ill w))
      go _ e (by_item j s w f) = turned (Item j) e (staged_set (rw s) (judged_well w f))
      go _ e (by_nothing s w f) = plays e (is_playing e) (staged_set (rw s) (judged_well w f))

  -- ---- the stage of a sheet and a script that are not turned away

  module _ (playing : Playing) where
    carried : Carried (policy_of sheet) tasks
    carried = by_reading sheet playing.admitted

    abbrev order : List ℕ
    order = priority_order (policy_of sheet) tasks

    abbrev sc : Script
    sc = script_in n bytes

    abbrev cast : Cast
    cast = cast_for set bytes

    order_is : order_of set ≡ order
    unfolding order_of set_with
    order_is = ap (priority_order (policy_of sheet)) its_tasks

    count_is : cast.count ≡ n
    unfolding cast_for
    count_is = ap length order_is ∙ order_length (policy_of sheet) tasks

    -- the numbers of the cast are those of the priority order
    played_order : take cast.count cast.order ≡ order
    unfolding cast_for ordered numbers_of in_use
    played_order = take-map (λ (q : Place). q.number) (length (order_of set)) (ordered set).places ∙ ordered_numbers set ∙ order_is

    entries_are : cast.entries ≡ length sc.entries
    unfolding cast_for
    entries_are = ap (λ m. entry_count m bytes) count_is ∙ count_of_entries n bytes playing.made

    fits : Fits n sc
    fits = numbers_fit n bytes

    ready : Ready order tasks sc
    ready =
        record {
          permutes = order_permutes (policy_of sheet) tasks;
          admitted = admitted_sheet_is_admitted sheet playing.admitted;
          few = carried.few_tasks;
          as_many = fits.as_many;
          kept = playing.kept;
          ticks_in = member_by_index (λ e. e.tick ≤ greatest_time) sc.entries (λ j h. (fits.entries_fit j h).tick_fits);
          deadlines_in = λ i k h. deadline_fits (task_at tasks i) k (each_at (carried_fit carried) i h);
        }

    its_records : (i : ℕ) → i < n → task_in (get_or cast.tasks i no_record) ≡ task_at tasks i
    unfolding cast_for set_with records_of
    its_records i h =
        sym (task_there set.tasks n (omega (arith, length-append (map record_of tasks) (replicate (most_tasks - n) blank_record), length-map tasks record_of)) i no_record h)
        ∙ ap (λ ts. task_at ts i) its_tasks

    its_firsts : firsts_in cast.count (bits_of (body bytes)) ≡ sc.firsts
    unfolding script_in
    its_firsts = ap (λ m. firsts_in m (bits_of (body bytes))) count_is

    -- the script is one of which no item is turned away
    pub is_ready : Ready (order_in sheet) (tasks_of sheet) (script_for sheet bytes)
    unfolding order_in script_for
    is_ready = ready

    -- the cast plays the script
    pub stage_facts : Stage bytes (cast_for (set_with (policy_of sheet) (tasks_of sheet)) bytes)
    stage_facts =
        record {
          tasks = tasks;
          sc = sc;
          ready = rw played_order ready;
          count_is = count_is;
          made = rw count_is playing.made;
          firsts_are = its_firsts;
          entries_are = entries_are;
          entry_is = λ j h. ap (λ m. entry_at m bytes j) count_is ∙ entry_is n bytes playing.made j h;
          task_is = its_records;
        }

    -- it ends as the sheet's run does
    pub end_said : the_end stage_facts ≡ play_end sheet bytes
    unfolding play_end stops_at order_in script_for stage_facts
    end_said = ap (λ o. ended (end_of_play o tasks sc) (misser o tasks sc (end_of_play o tasks sc))) played_order

    pub end_moment : moment_of (the_end stage_facts) ≡ stops_at sheet bytes
    end_moment = ap moment_of end_said ∙ moment_ended sheet bytes

    -- its bytes are those of the trace
    pub bytes_traced : shown_on stage_facts (moment_of (the_end stage_facts)) ≡ (tracing sheet bytes).writes
    unfolding tracing order_in script_for stage_facts
    bytes_traced = ap (shown_on stage_facts) end_moment ∙ shown_so
      where
        shown_so : shown_on stage_facts (stops_at sheet bytes) ≡ (tracing sheet bytes).writes
        shown_so = ap (λ o. shown_from o tasks sc 0 (stops_at sheet bytes)) played_order

-- ---- what the entries answer

module _ (sheet bytes : List ℕ) where
  -- the cast plays
  pub record Plays (cast : Cast) : Type 0 where
    pub no_refusal : first_refusal (play_checks sheet bytes) ≡ None
    pub stage : Stage bytes cast
    pub ends : the_end stage ≡ play_end sheet bytes
    pub traces : shown_on stage (moment_of (the_end stage)) ≡ (tracing sheet bytes).writes

  -- the stage of a sheet and a script
  module _ (staged : Result Cast PlayRefusal) (is : staged ≡ sheet_staged sheet bytes) where
    pub turned_away : (r : PlayRefusal) → staged ≡ Err r → first_refusal (play_checks sheet bytes) ≡ Some r
    turned_away r e = go (way sheet bytes)
      where
        go : Way sheet bytes → first_refusal (play_checks sheet bytes) ≡ Some r
        go (turned q f s) = let same : ◌≡◌ {A = Result Cast PlayRefusal} (Err q) (Err r) = sym (is ∙ s) ∙ e in f ∙ ap Some cc
        go (plays f p s) = let z : ◌≡◌ {A = Result Cast PlayRefusal} (Ok _) (Err r) = sym (is ∙ s) ∙ e in cc

    pub is_played : (who : Cast) → staged ≡ Ok who → Plays who
    is_played who e = go (way sheet bytes)
      where
        go : Way sheet bytes → Plays who
        go (turned q f s) = let z : ◌≡◌ {A = Result Cast PlayRefusal} (Err q) (Ok who) = sym (is ∙ s) ∙ e in let y : ⊥ = cc in absurd y
        go (plays f p s) =
            let z : ◌≡◌ {A = Result Cast PlayRefusal} (Ok (cast_for (set_with (policy_of sheet) (tasks_of sheet)) bytes)) (Ok who) = sym (is ∙ s) ∙ e in
            let same : cast_for (set_with (policy_of sheet) (tasks_of sheet)) bytes ≡ who = cc in
            subst Plays same (record { no_refusal = f; stage = stage_facts sheet bytes p; ends = end_said sheet bytes p; traces = bytes_traced sheet bytes p })

  pub played_turned : {r : PlayRefusal} → first_refusal (play_checks sheet bytes) ≡ Some r → Err r ≡ played sheet bytes
  unfolding played
  played_turned e = rw (e, played)

  pub played_ends : first_refusal (play_checks sheet bytes) ≡ None → Ok (play_end sheet bytes) ≡ played sheet bytes
  unfolding played
  played_ends e = rw (e, played)

  -- ---- a trace

  module _ (room : List ℕ) where
    pub trace_turned : {r : PlayRefusal} → first_refusal (play_checks sheet bytes) ≡ Some r → (Err r ≡ traced sheet bytes room) × (room ≡ trace_left sheet bytes room)
    unfolding traced trace_left tracing
    trace_turned {r} e = turned_tells (Base Room) (tracing sheet bytes) room (by_checks (Base Room) (tracing sheet bytes) room r e)

    module _ {cast : Cast} (p : Plays cast) where
      ticks_many : length (tracing sheet bytes).writes ≡ moment_of (the_end p.stage)
      ticks_many = sym (ap length p.traces) ∙ shown_length _ _ _ 0 (moment_of (the_end p.stage))

      pub trace_short : length room < moment_of (the_end p.stage) → (Err (Base Room) ≡ traced sheet bytes room) × (room ≡ trace_left sheet bytes room)
      unfolding traced trace_left tracing
      trace_short h =
          turned_tells (Base Room) (tracing sheet bytes) room (by_room (Base Room) (tracing sheet bytes) room p.no_refusal (omega (arith, ticks_many)))

      pub trace_done : moment_of (the_end p.stage) ≤ length room
          → (Ok (play_end sheet bytes) ≡ traced sheet bytes room) × (laid (shown_on p.stage (moment_of (the_end p.stage))) room ≡ trace_left sheet bytes room)
      unfolding traced trace_left tracing
      trace_done h =
          let d = done_tells (Base Room) (tracing sheet bytes) room (done (Base Room) (tracing sheet bytes) room p.no_refusal (omega (arith, ticks_many))) in
          (d.0, ap (λ l. laid l room) p.traces ∙ d.1)

    -- a trace is turned away as a play is, or for want of room for a byte of each tick, or it answers as the play does; there is no other way
    pub data Traced : Type 0 where
      not_played : (r : PlayRefusal) → first_refusal (play_checks sheet bytes) ≡ Some r → traced sheet bytes room ≡ Err r → trace_left sheet bytes room ≡ room → Traced
      no_room : first_refusal (play_checks sheet bytes) ≡ None → length room < stops_at sheet bytes
          → traced sheet bytes room ≡ Err (Base Room) → trace_left sheet bytes room ≡ room → Traced
      is_traced : first_refusal (play_checks sheet bytes) ≡ None → stops_at sheet bytes ≤ length room → traced sheet bytes room ≡ Ok (play_end sheet bytes)
          → trace_left sheet bytes room ≡ laid (shown_from (order_in sheet) (tasks_of sheet) (script_for sheet bytes) 0 (stops_at sheet bytes)) room → Traced

    pub trace_way : Traced
    unfolding traced trace_left tracing
    trace_way = go (first_refusal (play_checks sheet bytes)) refl
      where
        long : length (tracing sheet bytes).writes ≡ stops_at sheet bytes
        long = shown_length _ _ _ 0 (stops_at sheet bytes)

        by_length : first_refusal (play_checks sheet bytes) ≡ None → Dec (length room < stops_at sheet bytes) → Traced
        by_length e (yes h) = let t = by_room (Base Room) (tracing sheet bytes) room e (omega (arith, long)) in no_room e h t.answer t.unchanged
        by_length e (no h) = let d = done (Base Room) (tracing sheet bytes) room e (omega (arith, long)) in is_traced e (omega arith) d.answer d.holds

        go : (o : Option PlayRefusal) → first_refusal (play_checks sheet bytes) ≡ o → Traced
        go None e = by_length e (dec_lt (length room) (stops_at sheet bytes))
        go (Some r) e = let t = by_checks (Base Room) (tracing sheet bytes) room r e in not_played r e t.answer t.unchanged
