-- What a play answers, in the words of the theory: each answer is given exactly where it is so.
use Rattle.std.specs.Prelude.{None, Option, Some, Err, Ok, Result}
use mathlib.Core.Bool.{true, false}
use mathlib.Core.List.{List}
use mathlib.Core.Logic.{◌↔◌}
use mathlib.Core.Path.{◌≡◌, refl, sym, subst, ap, ◌∙◌}
use Prim.Native.Nat.{ℕ}
use lib.ListN.{length}
use Rattle.lent.specs.Checks.{first_refusal}
use Rattle.theory.specs.Tasks.{Task}
use Rattle.theory.specs.Runs.{Legal}
use Rattle.sheet.specs.Reading.{sheet_checks, policy_of, tasks_of}
use Rattle.sheet.specs.declared.Refusal.{Refusal}
use Rattle.order.specs.Order.{ordered_set}
use Rattle.order.specs.Claims.{Permutes}
use Rattle.order.proofs.Order.{order_permutes}
use Rattle.analysis.specs.Runs.{RunOf}
use Rattle.plays.specs.Script.{Script}
use Rattle.plays.specs.ScriptRun.{by_place, script_run}
use Rattle.plays.specs.Broken.{BrokenAt}
use Rattle.plays.specs.Play.{misser}
use Rattle.plays.specs.Says.{FirstMiss, NeverMisses, LastComplete}
use Rattle.plays.specs.OfScript.{OfScript}
use Rattle.plays.proofs.OfScript.{of_script}
use Rattle.plays.proofs.Refused.{item_refused, broken_refused}
use Rattle.plays.proofs.ScriptLegal.{script_legal}
use Rattle.plays.proofs.PlaySays.{play_misses, play_done}
use Rattle.scripts.specs.Reading.{well_made}
use Rattle.player.specs.Answers.{order_in, script_for, play_checks, ended, stops_at, play_end, played}
use Rattle.player.specs.Inside.Course.{Ready}
use Rattle.player.specs.declared.PlayRefusal.{PlayRefusal}
use Rattle.player.specs.declared.PlayRefusal.TheVariants.{Base, Malformed as ill_made, Item}
use Rattle.player.specs.declared.Played.{Played}
use Rattle.player.specs.declared.Played.TheVariants.{Missed, Done}
use Rattle.player.proofs.Turned.{few_tasks, sheet_turns, form_turns, item_turns, Told, by_sheet, by_form, by_item, told}
use Rattle.player.proofs.Ways.{is_playing, is_ready, played_turned, played_ends}

-- it is turned away by one refusal
pub one_refusal : {q r : PlayRefusal} → ◌≡◌ {A = Result Played PlayRefusal} (Err q) (Err r) → q ≡ r
one_refusal e = cc

module _ (t : ℕ) (o : Option ℕ) where
  -- how a play ends says the moment, and the task that misses
  ended_missed : (u i : ℕ) → ended t o ≡ Missed u i → (t ≡ u) × (o ≡ Some i)
  unfolding ended
  ended_missed u i e = go o refl e
    where
      go : (p : Option ℕ) → o ≡ p → ended t p ≡ Missed u i → (t ≡ u) × (o ≡ Some i)
      go None q e = cc
      go (Some j) q e = let at : t ≡ u = cc in let same : j ≡ i = cc in (at, q ∙ ap Some same)

  ended_done : (u : ℕ) → ended t o ≡ Done u → (t ≡ u) × (o ≡ None)
  unfolding ended
  ended_done u e = go o refl e
    where
      go : (p : Option ℕ) → o ≡ p → ended t p ≡ Done u → (t ≡ u) × (o ≡ None)
      go None q e = let at : t ≡ u = cc in (at, q)
      go (Some j) q e = cc

ended_some : (t i : ℕ) → ended t (Some i) ≡ Missed t i
unfolding ended
ended_some t i = refl

ended_none : (t : ℕ) → ended t None ≡ Done t
unfolding ended
ended_none t = refl

module _ (sheet bytes : List ℕ) where
  abbrev order : List ℕ
  order = order_in sheet

  abbrev tasks : List Task
  tasks = tasks_of sheet

  abbrev sc : Script
  sc = script_for sheet bytes

  end_by_ended : ended (stops_at sheet bytes) (misser order tasks sc (stops_at sheet bytes)) ≡ play_end sheet bytes
  unfolding play_end
  end_by_ended = refl

  -- ---- turned away

  -- a play is turned away by the first check that applies, and only so
  pub turned_exactly : (why : PlayRefusal) → (played sheet bytes ≡ Err why) ↔ (first_refusal (play_checks sheet bytes) ≡ Some why)
  turned_exactly why = (λ e. go (first_refusal (play_checks sheet bytes)) refl e, λ e. sym (played_turned sheet bytes e))
    where
      go : (o : Option PlayRefusal) → first_refusal (play_checks sheet bytes) ≡ o → played sheet bytes ≡ Err why → first_refusal (play_checks sheet bytes) ≡ Some why
      go None f e = let z : ◌≡◌ {A = Result Played PlayRefusal} (Ok (play_end sheet bytes)) (Err why) = played_ends sheet bytes f ∙ e in cc
      go (Some r) f e = f ∙ ap Some (one_refusal (played_turned sheet bytes f ∙ e))

  told_of : {why : PlayRefusal} → played sheet bytes ≡ Err why → Told sheet bytes (Some why)
  told_of {why} e = subst (Told sheet bytes) ((turned_exactly why).0 e) (told sheet bytes)

  -- by a refusal of the sheet's own
  pub own_exactly : (why : Refusal) → (played sheet bytes ≡ Err (Base why)) ↔ (first_refusal (sheet_checks sheet) ≡ Some why)
  own_exactly why = (λ e. go why (told_of e), λ s. (turned_exactly (Base why)).1 (sheet_turns sheet bytes s))
    where
      go : (w : Refusal) → Told sheet bytes (Some (Base w)) → first_refusal (sheet_checks sheet) ≡ Some w
      go _ (by_sheet w s) = s

  -- with 13, where the sheet is admitted and the bytes are not made as a script is
  pub form_exactly : (played sheet bytes ≡ Err ill_made) ↔ ((first_refusal (sheet_checks sheet) ≡ None) × (well_made (length tasks) bytes ≡ false))
  form_exactly = (λ e. go (told_of e), λ (s, w). (turned_exactly ill_made).1 (form_turns sheet bytes s w))
    where
      go : Told sheet bytes (Some ill_made) → (first_refusal (sheet_checks sheet) ≡ None) × (well_made (length tasks) bytes ≡ false)
      go (by_form s w) = (s, w)

  in_order : Permutes (length tasks) order
  unfolding order_in
  in_order = order_permutes (policy_of sheet) (tasks_of sheet)

  -- with 14, where the sheet is admitted, the bytes are made as a script is, and the item is the first that is wrong
  pub item_exactly : (j : ℕ) → (played sheet bytes ≡ Err (Item j))
      ↔ ((first_refusal (sheet_checks sheet) ≡ None) × (well_made (length tasks) bytes ≡ true) × BrokenAt order tasks sc j)
  item_exactly j = (
    λ e. go j (told_of e),
    λ (s, w, b). (turned_exactly (Item j)).1 (item_turns sheet bytes s w (broken_refused order tasks sc (few_tasks sheet s) in_order j b)),
  )
    where
      go : (k : ℕ) → Told sheet bytes (Some (Item k))
          → (first_refusal (sheet_checks sheet) ≡ None) × (well_made (length tasks) bytes ≡ true) × BrokenAt order tasks sc k
      go _ (by_item k s w f) = (s, w, item_refused order tasks sc (few_tasks sheet s) in_order k f)

  -- ---- played

  module _ (playable : first_refusal (play_checks sheet bytes) ≡ None) where
    ready : Ready order tasks sc
    ready = is_ready sheet bytes (is_playing sheet bytes playable)

    legal : (n : ℕ) → Legal (by_place (order_in sheet) (tasks_of sheet)) (script_run order tasks sc n)
    legal = script_legal order tasks sc in_order ready.as_many ready.kept

    -- the script's run, of whatever length, is a run of the set
    pub run_of_set : (n : ℕ) → RunOf (policy_of sheet) (tasks_of sheet) (script_run order tasks sc n)
    unfolding RunOf ordered_set order_in
    run_of_set n = legal n

    -- and it does what the script says
    pub run_of_script : (n : ℕ) → OfScript order tasks sc n
    run_of_script = of_script order tasks sc ready.kept

    ends_missing : (t i : ℕ) → ((stops_at sheet bytes ≡ t) × (misser order tasks sc t ≡ Some i)) ↔ FirstMiss order tasks sc t i
    unfolding stops_at
    ends_missing t i = play_misses _ _ _ in_order ready.admitted legal ready.ticks_in ready.deadlines_in t i

    ends_done : (t : ℕ) → ((stops_at sheet bytes ≡ t) × (misser order tasks sc t ≡ None))
        ↔ (NeverMisses order tasks sc × LastComplete order tasks sc t)
    unfolding stops_at
    ends_done t = play_done _ _ _ in_order ready.admitted legal ready.ticks_in ready.deadlines_in t

  -- a play that is not turned away ends
  ends_so : (t : ℕ) (o : Option ℕ) → first_refusal (play_checks sheet bytes) ≡ None → stops_at sheet bytes ≡ t
      → misser order tasks sc t ≡ o → played sheet bytes ≡ Ok (ended t o)
  ends_so t o f at m = sym (played_ends sheet bytes f) ∙ ap Ok (sym end_by_ended ∙ rw (at, m))

  -- an answer that is no refusal is the end of a play
  not_turned : {a : Played} → played sheet bytes ≡ Ok a → first_refusal (play_checks sheet bytes) ≡ None
  not_turned {a} e = go (first_refusal (play_checks sheet bytes)) refl
    where
      go : (o : Option PlayRefusal) → first_refusal (play_checks sheet bytes) ≡ o → first_refusal (play_checks sheet bytes) ≡ None
      go None f = f
      go (Some r) f = let z : ◌≡◌ {A = Result Played PlayRefusal} (Err r) (Ok a) = played_turned sheet bytes f ∙ e in cc

  -- that end
  ends_as : {a : Played} → played sheet bytes ≡ Ok a
      → ended (stops_at sheet bytes) (misser order tasks sc (stops_at sheet bytes)) ≡ a
  ends_as {a} e =
      let z : ◌≡◌ {A = Result Played PlayRefusal} (Ok (play_end sheet bytes)) (Ok a) = played_ends sheet bytes (not_turned e) ∙ e in
      end_by_ended ∙ cc

  -- a play answers a miss of task i at moment t exactly where that is the first miss of the script's run
  pub missed_exactly : (t i : ℕ) → (played sheet bytes ≡ Ok (Missed t i))
      ↔ ((first_refusal (play_checks sheet bytes) ≡ None) × FirstMiss order tasks sc t i)
  missed_exactly t i = (there, back)
    where
      there : played sheet bytes ≡ Ok (Missed t i) → (first_refusal (play_checks sheet bytes) ≡ None) × FirstMiss order tasks sc t i
      there e =
          let f = not_turned e in
          let (at, m) = ended_missed (stops_at sheet bytes) _ t i (ends_as e) in
          (f, (ends_missing f t i).0 (at, rw at at m))

      back : (first_refusal (play_checks sheet bytes) ≡ None) × FirstMiss order tasks sc t i → played sheet bytes ≡ Ok (Missed t i)
      back (f, first) = let (at, m) = (ends_missing f t i).1 first in ends_so t (Some i) f at m ∙ ap Ok (ended_some t i)

  -- and that all jobs are done at moment t exactly where no job misses and the last is complete at t
  pub done_exactly : (t : ℕ) → (played sheet bytes ≡ Ok (Done t))
      ↔ ((first_refusal (play_checks sheet bytes) ≡ None) × NeverMisses order tasks sc × LastComplete order tasks sc t)
  done_exactly t = (there, back)
    where
      there : played sheet bytes ≡ Ok (Done t)
          → (first_refusal (play_checks sheet bytes) ≡ None) × NeverMisses order tasks sc × LastComplete order tasks sc t
      there e =
          let f = not_turned e in
          let (at, m) = ended_done (stops_at sheet bytes) _ t (ends_as e) in
          let (calm, last) = (ends_done f t).0 (at, rw at at m) in
          (f, calm, last)

      back : (first_refusal (play_checks sheet bytes) ≡ None) × NeverMisses order tasks sc × LastComplete order tasks sc t
          → played sheet bytes ≡ Ok (Done t)
      back (f, calm, last) = let (at, m) = (ends_done f t).1 (calm, last) in ends_so t None f at m ∙ ap Ok (ended_none t)
