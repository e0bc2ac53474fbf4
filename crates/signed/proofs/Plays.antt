-- What we sign for a play and its trace, at the entries: every theorem is about any call that keeps its contract (specs/Calls.antt).
-- What is claimed stands in specs/Plays.antt and specs/Numbers.antt.
use Rattle.std.specs.Prelude.{Result, Err, IsOk}
use mathlib.Core.Bool.{true}
use mathlib.Core.List.{List}
use mathlib.Core.Path.{◌≡◌, sym, ap, ◌∙◌}
use Prim.Native.Nat.{ℕ}
use lib.ListN.{length}
use Rattle.sheet.specs.Reading.{tasks_of, reading}
use Rattle.sheet.specs.declared.Refusal.TheVariants.{CheckWord}
use Rattle.scripts.specs.Reading.{well_made}
use Rattle.scripts.proofs.Changes.{damaged_script}
use Rattle.player.specs.Answers.{played}
use Rattle.player.specs.declared.PlayRefusal.{PlayRefusal}
use Rattle.player.specs.declared.PlayRefusal.TheVariants.{Base, Malformed}
use Rattle.player.specs.declared.Played.{Played}
use Rattle.player.proofs.Within.{played_within, traced_within}
use Rattle.player.proofs.Ways.{trace_turned}
use Rattle.player.proofs.Exactly.{own_exactly}
use Rattle.workbench.specs.Numbers.{play_refused_number, played_number}
use Rattle.signed.specs.Calls.{Play, Trace, PlayC, TraceC}
use Rattle.signed.specs.Claims.{Damaged}
use Rattle.signed.specs.Numbers.{played_by}
use Rattle.signed.specs.Plays.{PlaySigned, TraceSigned}
use Rattle.signed.proofs.Numbers.{played_back}
use Rattle.signed.proofs.Damage.{damaged_is_2}
use Rattle.signed.proofs.Signed.{one_call}
use Rattle.signed.proofs.Played.{played_signed, traced_signed}

-- ---- What the answer says is so of the sheet, the script and its run

-- `play`
pub play_signed : (sheet script : List ℕ) (answer : Result Played PlayRefusal) → Play sheet script answer → PlaySigned sheet script answer
play_signed sheet script answer c = rw c.answers (played_signed sheet script)

-- `trace`
pub trace_signed : (sheet script before after : List ℕ) (answer : Result Played PlayRefusal) → Trace sheet script before answer after → TraceSigned sheet script before answer after
trace_signed sheet script before after answer c = rw (c.answers, c.leaves) (traced_signed sheet script before)

-- The entries for C are those for Rattle, with the answer that the number says: tick and task, or the refusal with its item.
pub play_c_says : (sheet script : List ℕ) (number : ℕ) → PlayC sheet script number → Play sheet script (played_by number)
play_c_says sheet script number c = record { answers = ap played_by c.answers ∙ played_back sheet script _ (played_within sheet script) }

pub trace_c_says : (sheet script before after : List ℕ) (number : ℕ) → TraceC sheet script before number after → Trace sheet script before (played_by number) after
trace_c_says sheet script before after number c =
    record { answers = ap played_by c.answers ∙ played_back sheet script _ (traced_within sheet script before); leaves = c.leaves }

-- `burrbeech_play`
pub play_c_signed : (sheet script : List ℕ) (number : ℕ) → PlayC sheet script number → PlaySigned sheet script (played_by number)
play_c_signed sheet script number c = play_signed sheet script (played_by number) (play_c_says sheet script number c)

-- `burrbeech_trace`
pub trace_c_signed : (sheet script before after : List ℕ) (number : ℕ) → TraceC sheet script before number after
    → TraceSigned sheet script before (played_by number) after
trace_c_signed sheet script before after number c = trace_signed sheet script before after (played_by number) (trace_c_says sheet script before after number c)

-- ---- For the same input a second conforming call answers and leaves the same

pub one_play : (sheet script : List ℕ) (a b : Result Played PlayRefusal) → Play sheet script a → Play sheet script b → a ≡ b
one_play sheet script a b c d = c.answers ∙ sym d.answers

pub one_trace : (sheet script before x y : List ℕ) (a b : Result Played PlayRefusal) → Trace sheet script before a x → Trace sheet script before b y → (a ≡ b) × (x ≡ y)
one_trace sheet script before x y a b c d = one_call c d

pub one_play_c : (sheet script : List ℕ) (a b : ℕ) → PlayC sheet script a → PlayC sheet script b → a ≡ b
one_play_c sheet script a b c d = c.answers ∙ sym d.answers

pub one_trace_c : (sheet script before x y : List ℕ) (a b : ℕ) → TraceC sheet script before a x → TraceC sheet script before b y → (a ≡ b) × (x ≡ y)
one_trace_c sheet script before x y a b c d = one_call c d

-- ---- Damage: a script, or the sheet, changed within sixteen neighbouring bits is turned away, and nothing else changes

-- a play that is turned away: what each entry answers, and that a trace changes nothing
module _ (sheet script : List ℕ) (why : PlayRefusal) (turned : played sheet script ≡ Err why) where
  play_turned : (answer : Result Played PlayRefusal) → Play sheet script answer → answer ≡ Err why
  play_turned answer c = c.answers ∙ turned

  trace_turned_so : (before after : List ℕ) (answer : Result Played PlayRefusal) → Trace sheet script before answer after → (answer ≡ Err why) × (after ≡ before)
  trace_turned_so before after answer c =
      let (said, left) = trace_turned sheet script before (((played_signed sheet script).turned why).0 turned) in
      (c.answers ∙ sym said, c.leaves ∙ sym left)

  play_c_turned : (number : ℕ) → PlayC sheet script number → number ≡ play_refused_number why
  play_c_turned number c = c.answers ∙ ap played_number turned

  trace_c_turned : (before after : List ℕ) (number : ℕ) → TraceC sheet script before number after → (number ≡ play_refused_number why) × (after ≡ before)
  trace_c_turned before after number c =
      let (said, left) = trace_turned sheet script before (((played_signed sheet script).turned why).0 turned) in
      (c.answers ∙ ap played_number (sym said), c.leaves ∙ sym left)

-- A script that is well made for an admitted sheet, changed so, gets 13.
module _ (sheet script changed : List ℕ) (admitted : IsOk (reading sheet)) (made : well_made (length (tasks_of sheet)) script ≡ true)
    (damaged : Damaged script changed) where
  script_damaged : played sheet changed ≡ Err Malformed
  script_damaged =
      (played_signed sheet changed).ill_made.1 (
        admitted,
        damaged_script (length (tasks_of sheet)) script changed damaged.from damaged.bytes_before damaged.bytes_after made damaged.same_length
            damaged.elsewhere_same damaged.changed,
      )

  pub play_script_damaged : (answer : Result Played PlayRefusal) → Play sheet changed answer → answer ≡ Err Malformed
  play_script_damaged = play_turned sheet changed Malformed script_damaged

  pub trace_script_damaged : (before after : List ℕ) (answer : Result Played PlayRefusal) → Trace sheet changed before answer after → (answer ≡ Err Malformed) × (after ≡ before)
  trace_script_damaged = trace_turned_so sheet changed Malformed script_damaged

  pub play_c_script_damaged : (number : ℕ) → PlayC sheet changed number → number ≡ 13
  play_c_script_damaged = play_c_turned sheet changed Malformed script_damaged

  pub trace_c_script_damaged : (before after : List ℕ) (number : ℕ) → TraceC sheet changed before number after → (number ≡ 13) × (after ≡ before)
  trace_c_script_damaged = trace_c_turned sheet changed Malformed script_damaged

-- An admitted sheet, changed so, gets 2, whatever the script.
module _ (sheet changed script : List ℕ) (admitted : IsOk (reading sheet)) (damaged : Damaged sheet changed) where
  sheet_damaged : played changed script ≡ Err (Base CheckWord)
  sheet_damaged = (own_exactly changed script CheckWord).1 (damaged_is_2 sheet changed admitted damaged)

  pub play_damaged : (answer : Result Played PlayRefusal) → Play changed script answer → answer ≡ Err (Base CheckWord)
  play_damaged = play_turned changed script (Base CheckWord) sheet_damaged

  pub trace_damaged : (before after : List ℕ) (answer : Result Played PlayRefusal) → Trace changed script before answer after
      → (answer ≡ Err (Base CheckWord)) × (after ≡ before)
  trace_damaged = trace_turned_so changed script (Base CheckWord) sheet_damaged

  pub play_c_damaged : (number : ℕ) → PlayC changed script number → number ≡ 2
  play_c_damaged = play_c_turned changed script (Base CheckWord) sheet_damaged

  pub trace_c_damaged : (before after : List ℕ) (number : ℕ) → TraceC changed script before number after → (number ≡ 2) × (after ≡ before)
  trace_c_damaged = trace_c_turned changed script (Base CheckWord) sheet_damaged
