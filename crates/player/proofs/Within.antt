-- The numbers that a play and a trace answer are small: moments up to twice the greatest time, tasks of a set, items of a script.
use Rattle.std.specs.Prelude.{None, Option, Some, Err, Ok, Result}
use mathlib.Core.List.{List, ◌∷◌}
use mathlib.Core.Logic.{◌⊎◌, inl, inr}
use mathlib.Core.Path.{◌≡◌, refl, subst, ap, ◌∙◌}
use Prim.Native.Nat.{ℕ, ◌+◌, ◌*◌, ◌^◌, ◌≤◌, ◌<◌}
use native.Mathlib.Omega.{arith}
use lib.ListN.{length, length-append}
use Rattle.lent.specs.Checks.{first_refusal}
use Rattle.theory.specs.Tasks.{Task}
use Rattle.theory.proofs.Search.{Answer, answer, nothing, it_is, first_some}
use Rattle.sheet.specs.Constants.{most_tasks, greatest_time}
use Rattle.sheet.specs.Reading.{sheet_checks, policy_of, tasks_of}
use Rattle.sheet.specs.declared.Refusal.{Refusal}
use Rattle.sheet.specs.declared.Refusal.TheVariants.{Room}
use Rattle.order.specs.Order.{priority_order}
use Rattle.order.proofs.Order.{order_permutes}
use Rattle.plays.specs.Script.{Script}
use Rattle.plays.specs.Broken.{BrokenAt, no_such_frame, broken_entry}
use Rattle.plays.specs.Play.{task_misses, misser}
use Rattle.plays.proofs.Refused.{item_refused}
use Rattle.plays.proofs.ScriptLegal.{script_legal}
use Rattle.plays.proofs.PlayEnds.{end_is}
use Rattle.scripts.proofs.RoundTrip.{numbers_fit}
use Rattle.player.specs.Answers.{order_in, script_for, play_checks, ended, stops_at, play_end, played, traced}
use Rattle.player.specs.declared.PlayRefusal.{PlayRefusal}
use Rattle.player.specs.declared.PlayRefusal.TheVariants.{Base, Malformed as ill_made, Item}
use Rattle.player.specs.declared.Played.{Played}
use Rattle.player.specs.declared.Played.TheVariants.{Missed, Done}
use Rattle.player.proofs.Turned.{few_tasks, Told, by_sheet, by_form, by_item, told}
use Rattle.player.proofs.Ways.{Playing, is_playing, is_ready, played_turned, played_ends, Traced, not_played, no_room, is_traced, trace_way}

-- an item that is wrong is one of the script
item_in : (order : List ℕ) (tasks : List Task) (sc : Script) (j : ℕ) → BrokenAt order tasks sc j → j < length sc.firsts + length sc.entries
item_in order tasks sc j (no_such_frame l bad before) = omega arith
item_in order tasks sc j (broken_entry xs e ys split at frames before bad) =
    let long = ap length split ∙ length-append xs (e ∷ ys) in omega arith

module _ (sheet bytes : List ℕ) where
  -- the numbers of a refusal: those of the sheet's own are the sheet's, 12 is for want of room
  pub data RefusalWithin : PlayRefusal → Type 0 where
    own_within : (why : Refusal) → (first_refusal (sheet_checks sheet) ≡ Some why) ⊎ (why ≡ Room) → RefusalWithin (Base why)
    script_within : RefusalWithin ill_made
    item_within : (j : ℕ) → j < 2 ^ 25 → RefusalWithin (Item j)

  -- the numbers of an answer
  pub data Within : Result Played PlayRefusal → Type 0 where
    missed_within : (t i : ℕ) → t ≤ 2 * greatest_time → i < most_tasks → Within (Ok (Missed t i))
    done_within : (t : ℕ) → t ≤ 2 * greatest_time → Within (Ok (Done t))
    turned_within : (r : PlayRefusal) → RefusalWithin r → Within (Err r)

  refusal_within : {r : PlayRefusal} → first_refusal (play_checks sheet bytes) ≡ Some r → RefusalWithin r
  unfolding script_for
  refusal_within {r} e = go r (subst (Told sheet bytes) e (told sheet bytes))
    where
      go : (q : PlayRefusal) → Told sheet bytes (Some q) → RefusalWithin q
      go _ (by_sheet why s) = own_within why (inl s)
      go _ (by_form s w) = script_within
      go _ (by_item j s w f) =
          let fits = numbers_fit (length (tasks_of sheet)) bytes in
          let it_is = item_in _ _ _ j (item_refused (priority_order (policy_of sheet) (tasks_of sheet)) _ _ (few_tasks sheet s) (order_permutes (policy_of sheet) (tasks_of sheet)) j f) in
          item_within j (omega (arith, it_is, fits.as_many, fits.few_entries, few_tasks sheet s))

  end_within : Playing sheet bytes → Within (Ok (play_end sheet bytes))
  unfolding play_end ended stops_at misser
  end_within p = go (answer (misser (order_in sheet) (tasks_of sheet) (script_for sheet bytes) (stops_at sheet bytes)))
    where
      within : stops_at sheet bytes ≤ 2 * greatest_time
      within =
          let r = is_ready sheet bytes p in
          let e = end_is _ _ _ r.permutes r.admitted (script_legal _ _ _ r.permutes r.as_many r.kept) r.ticks_in r.deadlines_in in
          omega (arith, e.before)

      go : Answer (misser (order_in sheet) (tasks_of sheet) (script_for sheet bytes) (stops_at sheet bytes)) → Within (Ok (play_end sheet bytes))
      go (nothing q) = rw q (done_within (stops_at sheet bytes) within)
      go (it_is i q) =
          let in_set = (first_some 0 (length (tasks_of sheet)) (task_misses (order_in sheet) (tasks_of sheet) (script_for sheet bytes) (stops_at sheet bytes)) q).before in
          rw q (missed_within (stops_at sheet bytes) i within (omega (arith, in_set, (is_ready sheet bytes p).few)))

  -- what a play answers
  pub played_within : Within (played sheet bytes)
  played_within = go (first_refusal (play_checks sheet bytes)) refl
    where
      go : (o : Option PlayRefusal) → first_refusal (play_checks sheet bytes) ≡ o → Within (played sheet bytes)
      go None e = rw (← played_ends sheet bytes e) (end_within (is_playing sheet bytes e))
      go (Some r) e = rw (← played_turned sheet bytes e) (turned_within r (refusal_within e))

  -- and a trace
  pub traced_within : (room : List ℕ) → Within (traced sheet bytes room)
  traced_within room = go (trace_way sheet bytes room)
    where
      go : Traced sheet bytes room → Within (traced sheet bytes room)
      go (not_played r e a _) = rw a (turned_within r (refusal_within e))
      go (no_room e h a _) = rw a (turned_within (Base Room) (own_within Room (inr refl)))
      go (is_traced e h a _) = rw a (end_within (is_playing sheet bytes e))
