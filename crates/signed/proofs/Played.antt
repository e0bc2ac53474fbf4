-- What is signed for a play and for a trace is so of what they answer and leave by their definitions.
use Rattle.std.specs.Prelude.{None, Option, Some, Ok, Err}
use mathlib.Core.List.{List}
use mathlib.Core.Logic.{◌↔◌}
use Rattle.theory.proofs.Options.{none_ne_some}
use mathlib.Core.Path.{◌≡◌, refl, sym, ap, ◌∙◌}
use Prim.Native.Nat.{ℕ, ◌≤◌, ◌<◌}
use native.Mathlib.Nat.{zero-add}
use native.Mathlib.Omega.{arith}
use lib.ListN.{length, get_or, drop, get_or-append}
use Rattle.lent.specs.Checks.{first_refusal}
use Rattle.lent.specs.Lent.{laid}
use Rattle.lent.proofs.Laid.{laid_length}
use Rattle.sheet.specs.Reading.{tasks_of}
use Rattle.sheet.specs.declared.Refusal.TheVariants.{Room}
use Rattle.plays.specs.Play.{misser, shown, shown_from}
use Rattle.plays.proofs.TickSays.{shown_says}
use Rattle.player.specs.Answers.{order_in, script_for, play_checks, ended, stops_at, play_end, played, traced, trace_left}
use Rattle.player.specs.declared.PlayRefusal.{PlayRefusal}
use Rattle.player.specs.declared.PlayRefusal.TheVariants.{Base}
use Rattle.player.proofs.Playing.{shown_length, shown_at}
use Rattle.player.proofs.Ways.{played_turned, played_ends, Traced, not_played, no_room, is_traced, trace_way}
use Rattle.player.proofs.Exactly.{one_refusal, turned_exactly, own_exactly, form_exactly, item_exactly, run_of_set, run_of_script, missed_exactly, done_exactly}
use Rattle.signed.specs.Plays.{PlaySigned, ticks_said, TraceSigned}
use Rattle.signed.proofs.Read.{admitted_is, refused_is, not_for_room, behind_laid}

module _ (sheet script : List ℕ) where
  -- ---- a play

  pub played_signed : PlaySigned sheet script (played sheet script)
  played_signed =
      record {
        turned = turned_exactly sheet script;
        own = λ why. let (there, back) = own_exactly sheet script why in (λ e. (refused_is sheet why).0 (there e), λ a. back ((refused_is sheet why).1 a));
        ill_made =
            let (there, back) = form_exactly sheet script in
            (λ e. let (a, w) = there e in ((admitted_is sheet).0 a, w), λ (a, w). back ((admitted_is sheet).1 a, w));
        item = λ j.
            let (there, back) = item_exactly sheet script j in
            (λ e. let (a, w, b) = there e in ((admitted_is sheet).0 a, w, b), λ (a, w, b). back ((admitted_is sheet).1 a, w, b));
        run_of_set = run_of_set sheet script;
        run_of_script = run_of_script sheet script;
        missed = missed_exactly sheet script;
        done = done_exactly sheet script;
      }

  -- ---- a trace

  -- the ticks of a play that is not turned away
  ticks_played : first_refusal (play_checks sheet script) ≡ None → ticks_said (played sheet script) ≡ stops_at sheet script
  unfolding play_end ended ticks_said
  ticks_played e = ap ticks_said (sym (played_ends sheet script e)) ∙ go (misser (order_in sheet) (tasks_of sheet) (script_for sheet script) (stops_at sheet script))
    where
      go : (o : Option ℕ) → ticks_said (Ok (ended (stops_at sheet script) o)) ≡ stops_at sheet script
      go None = refl
      go (Some i) = refl

  -- one that is turned away has none
  ticks_turned : {r : PlayRefusal} → first_refusal (play_checks sheet script) ≡ Some r → ticks_said (played sheet script) ≡ 0
  unfolding ticks_said
  ticks_turned e = ap ticks_said (sym (played_turned sheet script e))

  module _ (before : List ℕ) where
    -- 12 for want of room, and only so
    room_exactly : (traced sheet script before ≡ Err (Base Room)) ↔ (length before < ticks_said (played sheet script))
    room_exactly = (λ e. there (trace_way sheet script before) e, λ h. back (trace_way sheet script before) h)
      where
        there : Traced sheet script before → traced sheet script before ≡ Err (Base Room) → length before < ticks_said (played sheet script)
        there (not_played r f a _) e =
            let same : r ≡ Base Room = one_refusal (sym a ∙ e) in
            absurd (not_for_room sheet ((own_exactly sheet script Room).0 ((turned_exactly sheet script (Base Room)).1 (f ∙ ap Some same))))
        there (no_room f h a _) e = rw (ticks_played f) h
        there (is_traced f h a _) e =
            absurd (none_ne_some (Base Room) (sym f ∙ (turned_exactly sheet script (Base Room)).0 (sym (played_ends sheet script f) ∙ sym a ∙ e)))

        back : Traced sheet script before → length before < ticks_said (played sheet script) → traced sheet script before ≡ Err (Base Room)
        back (not_played r f a _) h = let z : ⊥ = omega (arith, ticks_turned f) in absurd z
        back (no_room f l a _) h = a
        back (is_traced f l a _) h = let z : ⊥ = omega (arith, ticks_played f) in absurd z

    -- with room enough the answer is that of a play
    answers_as_play : ticks_said (played sheet script) ≤ length before → traced sheet script before ≡ played sheet script
    answers_as_play h = go (trace_way sheet script before)
      where
        go : Traced sheet script before → traced sheet script before ≡ played sheet script
        go (not_played r f a _) = a ∙ played_turned sheet script f
        go (no_room f l a _) = let z : ⊥ = omega (arith, ticks_played f) in absurd z
        go (is_traced f l a _) = a ∙ played_ends sheet script f

    -- a refused call: the bytes are as they were
    refused_so : {r : PlayRefusal} → traced sheet script before ≡ Err r → trace_left sheet script before ≡ before
        → TraceSigned sheet script before (traced sheet script before) (trace_left sheet script before)
    unfolding ticks_said
    refused_so a l =
        record {
          no_room = room_exactly;
          as_play = λ h. (answers_as_play h, rw (answers_as_play h) played_signed);
          unchanged = λ why e. l;
          shows = λ u h. let none_said = ap ticks_said a in let z : ⊥ = omega arith in absurd z;
          same_length = ap length l;
          same_behind = ap (drop (ticks_said (traced sheet script before))) l;
        }

    -- a call that is done: a byte of each tick stands first
    done_so : first_refusal (play_checks sheet script) ≡ None → stops_at sheet script ≤ length before → traced sheet script before ≡ Ok (play_end sheet script)
        → trace_left sheet script before ≡ laid (shown_from (order_in sheet) (tasks_of sheet) (script_for sheet script) 0 (stops_at sheet script)) before
        → TraceSigned sheet script before (traced sheet script before) (trace_left sheet script before)
    unfolding laid
    done_so f h a l =
        record {
          no_room = room_exactly;
          as_play = λ h. (answers_as_play h, rw (answers_as_play h) played_signed);
          unchanged = λ why e. absurd (none_ne_some why (sym f ∙ (turned_exactly sheet script why).0 (sym as_played ∙ e)));
          shows = λ u h.
              let byte : get_or (trace_left sheet script before) u 0 ≡ shown (order_in sheet) (tasks_of sheet) (script_for sheet script) u =
              ap (λ m. get_or m u 0) l
              ∙ get_or-append bytes (drop (length bytes) before) 0 u (omega (arith, long, said))
              ∙ shown_at _ _ _ 0 (stops_at sheet script) u (omega (arith, said))
              ∙ ap (shown (order_in sheet) (tasks_of sheet) (script_for sheet script)) (zero-add u) in
              rw byte (shown_says (order_in sheet) (tasks_of sheet) (script_for sheet script) _ u);
          same_length = ap length l ∙ laid_length bytes before (omega (arith, long));
          same_behind = rw (said, l) (behind_laid bytes before (stops_at sheet script) long);
        }
      where
        bytes : List ℕ
        bytes = shown_from (order_in sheet) (tasks_of sheet) (script_for sheet script) 0 (stops_at sheet script)

        long : length bytes ≡ stops_at sheet script
        long = shown_length _ _ _ 0 (stops_at sheet script)

        as_played : traced sheet script before ≡ played sheet script
        as_played = a ∙ played_ends sheet script f

        said : ticks_said (traced sheet script before) ≡ stops_at sheet script
        said = ap ticks_said as_played ∙ ticks_played f

    pub traced_signed : TraceSigned sheet script before (traced sheet script before) (trace_left sheet script before)
    traced_signed = go (trace_way sheet script before)
      where
        go : Traced sheet script before → TraceSigned sheet script before (traced sheet script before) (trace_left sheet script before)
        go (not_played r f a l) = refused_so a l
        go (no_room f h a l) = refused_so a l
        go (is_traced f h a l) = done_so f h a l
