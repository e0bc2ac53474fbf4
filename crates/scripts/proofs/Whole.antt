-- The whole judgement: the string is made as a script is or not, then its first frames, then its entries.
use Rattle.std.proofs.Common.{◌≡◌, ℕ, Bool, true, false, cond, List, ◌++◌, map, length, take, ◌≤◌, Option, None, Some, Ok, Err, refl, sym, ap, ◌∙◌}
use Rattle.std.proofs.lemmas.List.{length-map}
use Rattle.bits.specs.Packed.{bits_of}
use Rattle.check_word.specs.Division.{body}
use Rattle.lent.specs.Checks.{Check, first_refusal}
use Rattle.lent.proofs.Checks.{none_first, some_first}
use Rattle.theory.specs.Tasks.{Task}
use Rattle.theory.proofs.Search.{Answer, answer, nothing, it_is}
use Rattle.sheet.specs.Constants.{most_tasks}
use Rattle.sheet.specs.Tasks.{task_in}
use Rattle.sheet.specs.declared.Task.{Task as Record}
use Rattle.plays.specs.Items.{first_ledger, first_frame_checks, entry_checks, item_checks}
use Rattle.scripts.specs.Reading.{firsts_in, script_in, first_frames, well_made}
use Rattle.scripts.specs.Judging.{judged_by, judged, judgement}
use Rattle.scripts.specs.declared.Flaw.{Flaw}
use Rattle.scripts.specs.declared.Flaw.TheVariants.{Malformed, Item}
use Rattle.scripts.proofs.Entries.{length_firsts, firsts_in_slots, firsts_there}

-- ---- what an answer to a row of items tells of it

by_none : (o : Option ℕ) → judged_by o ≡ Ok tt → o ≡ None
by_none None e = refl
by_none (Some j) e = absurd cc

by_some : (o : Option ℕ) (i : ℕ) → judged_by o ≡ Err (Item i) → o ≡ Some i
by_some None i e = absurd cc
by_some (Some j) i e = cc

never_by : (o : Option ℕ) → judged_by o ≡ Err Malformed → ⊥
never_by None e = cc
never_by (Some j) e = cc

module _ (cs : List (Check ℕ)) where
  pub sound_row : judged cs ≡ Ok tt → first_refusal cs ≡ None
  unfolding judged
  sound_row = by_none (first_refusal cs)

  refused_first : (ds : List (Check ℕ)) (f : Flaw) → judged cs ≡ Err f → judged (cs ++ ds) ≡ Err f
  unfolding judged
  refused_first ds f e = go (answer (first_refusal cs))
    where
      go : Answer (first_refusal cs) → judged_by (first_refusal (cs ++ ds)) ≡ Err f
      go (nothing n) = let z : Ok tt ≡ Err f = sym (ap judged_by n) ∙ e in absurd cc
      go (it_is i q) = ap judged_by (some_first cs ds i q) ∙ sym (ap judged_by q) ∙ e

  sound_first : (ds : List (Check ℕ)) → judged cs ≡ Ok tt → judged (cs ++ ds) ≡ judged ds
  unfolding judged
  sound_first ds e = ap judged_by (none_first cs ds (by_none (first_refusal cs) e))

-- ---- n tasks in records, and a string of theirs

module _ (rs : List Record) (s : List ℕ) where
  abbrev ts : List Task
  ts = map task_in rs

  abbrev n : ℕ
  n = length rs

  as_many : length ts ≡ n
  as_many = length-map rs task_in

  pub malformed : well_made n s ≡ false → Err Malformed ≡ judgement ts s
  unfolding judgement
  malformed e = rw (as_many, e)

  -- the slots with its first frames, where it is made as a script is
  module _ (few : n ≤ most_tasks) (w : well_made n s ≡ true) (slots : List ℕ) (es : slots ≡ first_frames n s) where
    abbrev firsts : List (Check ℕ)
    firsts = first_frame_checks ts 0 (take n slots)

    abbrev entries : List (Check ℕ)
    entries = entry_checks ts n (first_ledger (take n slots)) (script_in n s).entries

    firsts_are : take n slots ≡ firsts_in n (bits_of (body s))
    firsts_are = firsts_in_slots n s slots (es ∙ firsts_there n s few w)

    items_are : judgement ts s ≡ judged (firsts ++ entries)
    unfolding judgement item_checks script_in
    items_are = rw (as_many, w, firsts_are, length_firsts n s)

    pub firsts_decide : (f : Flaw) → judged firsts ≡ Err f → Err f ≡ judgement ts s
    firsts_decide f e = sym (items_are ∙ refused_first firsts entries f e)

    pub entries_decide : judged firsts ≡ Ok tt → judged entries ≡ judgement ts s
    entries_decide e = sym (items_are ∙ sound_first firsts entries e)

-- ---- what a judgement tells

module _ (ts : List Task) (s : List ℕ) where
  abbrev by_items : Option ℕ
  by_items = first_refusal (item_checks ts (script_in (length ts) s))

  -- A script that is sound is made as one, and no item of it is turned away.
  pub sound_tells : judgement ts s ≡ Ok tt → (well_made (length ts) s ≡ true) × (by_items ≡ None)
  unfolding judgement judged
  sound_tells e = go (well_made (length ts) s) e
    where
      go : (b : Bool) → cond b (judged_by by_items) (Err Malformed) ≡ Ok tt → (b ≡ true) × (by_items ≡ None)
      go true q = (refl, by_none by_items q)
      go false q = absurd cc

  -- One that is unsound is made as a script, and item j is the first that is turned away.
  pub unsound_tells : (j : ℕ) → judgement ts s ≡ Err (Item j) → (well_made (length ts) s ≡ true) × (by_items ≡ Some j)
  unfolding judgement judged
  unsound_tells j e = go (well_made (length ts) s) e
    where
      go : (b : Bool) → cond b (judged_by by_items) (Err Malformed) ≡ Err (Item j) → (b ≡ true) × (by_items ≡ Some j)
      go true q = (refl, by_some by_items j q)
      go false q = absurd cc

  -- One that is malformed is not made as a script.
  pub malformed_tells : judgement ts s ≡ Err Malformed → well_made (length ts) s ≡ false
  unfolding judgement judged
  malformed_tells e = go (well_made (length ts) s) e
    where
      go : (b : Bool) → cond b (judged_by by_items) (Err Malformed) ≡ Err Malformed → b ≡ false
      go true q = absurd (never_by by_items q)
      go false q = refl
