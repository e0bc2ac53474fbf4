-- The whole sheet: its length, its check word, its body, its tasks, one behind the other.
use Rattle.std.specs.Prelude.{Err, Ok, Result, nat_le}
use mathlib.Core.Bool.{Bool, true, false, not, ◌&&◌}
use mathlib.Core.List.{List, map}
use mathlib.Core.Path.{◌≡◌, refl, sym, ap, ◌∙◌}
use Prim.Native.Nat.{ℕ}
use lib.ListN.{length}
use Rattle.bits.specs.Packed.{bits_of}
use Rattle.check_word.specs.Division.{body, sealed}
use Rattle.sheet.specs.Constants.{version_1, version_2, least_size, greatest_size}
use Rattle.sheet.specs.Tasks.{task_in, records_of, set_with}
use Rattle.sheet.specs.Layout.{header_in}
use Rattle.sheet.specs.Admission.{decided, task_checks}
use Rattle.sheet.specs.Reading.{checks_among, sheet_checks, version_of, policy_of, tasks_of, reading_of, reading_among}
use Rattle.sheet.proofs.Checks.{applies, passed_over, and_then, decided_append}
use Rattle.sheet.proofs.Records.{tasks_with}
use Rattle.sheet.proofs.Carried.{refused_among, admitted_among, many_found}
use Rattle.sheet.specs.declared.Reading.{Reading}
use Rattle.sheet.specs.declared.Refusal.{Refusal}
use Rattle.sheet.specs.declared.Refusal.TheVariants.{Length, CheckWord}
use Rattle.sheet.specs.declared.TaskSet.{TaskSet}
use Rattle.admission.specs.Judged.{judged}
use Rattle.admission.proofs.Answers.{judged_admits, judged_refuses}
use Rattle.admission.specs.declared.Judged.{Judged}
use Rattle.reader.specs.Sheets.{sheet_judged}
use Rattle.reader.specs.Inside.Parts.{body_checks, set_in, body_reading, bytes_checks, bytes_reading}

-- ---- up to the tasks themselves

module _ (least most : ℕ) (s : List ℕ) where
  carried : Result Unit Refusal → Result Reading Refusal
  carried a = reading_of a (header_in (bits_of (body s))).version (set_in (bits_of (body s)))

  bytes_refused : (why : Refusal) → decided (bytes_checks least most s) ≡ Err why → Err why ≡ bytes_reading least most s
  unfolding bytes_reading reading_of carried
  bytes_refused why e = sym (ap carried e)

  abbrev sized : Bool
  sized = nat_le least_size (length s) && nat_le (length s) greatest_size

  pub size_wrong : sized ≡ false → Err Length ≡ bytes_reading least most s
  unfolding bytes_checks
  size_wrong e = bytes_refused Length (applies _ Length _ (ap not e))

  module _ (size : sized ≡ true) where
    pub seal_wrong : sealed s ≡ false → Err CheckWord ≡ bytes_reading least most s
    unfolding bytes_checks
    seal_wrong e = bytes_refused CheckWord (passed_over _ Length _ (ap not size) ∙ applies _ CheckWord _ (ap not e))

    pub body_decides : sealed s ≡ true → body_reading least most (bits_of (body s)) ≡ bytes_reading least most s
    unfolding bytes_checks bytes_reading body_reading carried
    body_decides e = ap carried (sym (passed_over _ Length _ (ap not size) ∙ passed_over _ CheckWord _ (ap not e)))

  -- ---- and with them

  both : decided (checks_among least most s) ≡ and_then (decided (bytes_checks least most s)) (decided (task_checks 0 (tasks_of s)))
  unfolding checks_among bytes_checks body_checks tasks_of version_of
  both = decided_append (bytes_checks least most s) (task_checks 0 (tasks_of s))

  -- a reading tells the answer to its checks
  carried_why : (a : Result Unit Refusal) (why : Refusal) → carried a ≡ Err why → a ≡ Err why
  unfolding carried reading_of
  carried_why (Ok _) why e = let z : ⊥ = cc in absurd z
  carried_why (Err _) why e = cc

  carried_so : (a : Result Unit Refusal) (r : Reading) → carried a ≡ Ok r
      → (a ≡ Ok tt) × (record { version = (header_in (bits_of (body s))).version; set = set_in (bits_of (body s)) } ≡ r)
  unfolding carried reading_of
  carried_so (Ok _) r e = (refl, cc)
  carried_so (Err _) r e = let z : ⊥ = cc in absurd z

  by_bytes : (a : Result Unit Refusal) → decided (bytes_checks least most s) ≡ a → decided (checks_among least most s) ≡ and_then a (decided (task_checks 0 (tasks_of s)))
  by_bytes a e = both ∙ ap (λ (x : Result Unit Refusal). and_then x (decided (task_checks 0 (tasks_of s)))) e

  -- a refusal before the tasks are looked at
  refused_before : (why : Refusal) → bytes_reading least most s ≡ Err why → decided (checks_among least most s) ≡ Err why
  unfolding bytes_reading carried
  refused_before why e = by_bytes (Err why) (carried_why _ why e)

  pub among_refused_before : (why : Refusal) → bytes_reading least most s ≡ Err why → Err why ≡ reading_among least most s
  among_refused_before why e = sym (refused_among least most s why (refused_before why e))

  module _ (r : Reading) (e : bytes_reading least most s ≡ Ok r) where
    tasks_decide : decided (checks_among least most s) ≡ decided (task_checks 0 (tasks_of s))
    unfolding bytes_reading carried
    tasks_decide = by_bytes (Ok tt) (carried_so _ r e).0

    reading_is : record { version = version_of s; set = set_with (policy_of s) (tasks_of s) } ≡ r
    unfolding bytes_reading carried policy_of tasks_of version_of set_in
    reading_is = (carried_so _ r e).1

    -- what is judged of the set
    judged_so : judged (decided (task_checks 0 (map task_in (records_of r.set)))) r.set ≡ judged (decided (checks_among least most s)) (set_with (policy_of s) (tasks_of s))
    judged_so =
        ap (λ (x : TaskSet). judged (decided (task_checks 0 (map task_in (records_of x)))) x) (sym (ap (λ (x : Reading). x.set) reading_is))
        ∙ ap (λ (ts : _). judged (decided (task_checks 0 ts)) (set_with (policy_of s) (tasks_of s))) (tasks_with (policy_of s) (tasks_of s) (many_found s))
        ∙ ap (λ (x : Result Unit Refusal). judged x (set_with (policy_of s) (tasks_of s))) (sym tasks_decide)

    -- what is read, by what is judged
    pub among_refused : (why : Refusal) → judged (decided (task_checks 0 (map task_in (records_of r.set)))) r.set ≡ Err why → Err why ≡ reading_among least most s
    among_refused why q = sym (refused_among least most s why (judged_refuses _ _ why (sym judged_so ∙ q)))

    pub among_admitted : (j : Judged) → judged (decided (task_checks 0 (map task_in (records_of r.set)))) r.set ≡ Ok j → Ok r ≡ reading_among least most s
    among_admitted j q = ap Ok (sym reading_is) ∙ sym (admitted_among least most s (judged_admits _ _ j (sym judged_so ∙ q)).0)

-- ---- a sheet that is judged

pub sheet_refused : (s : List ℕ) (why : Refusal) → bytes_reading version_1 version_2 s ≡ Err why → Err why ≡ sheet_judged s
unfolding sheet_judged sheet_checks judged
sheet_refused s why e = sym (ap (λ (a : Result Unit Refusal). judged a (set_with (policy_of s) (tasks_of s))) (refused_before version_1 version_2 s why e))

pub sheet_judged_so : (s : List ℕ) (r : Reading) → bytes_reading version_1 version_2 s ≡ Ok r → judged (decided (task_checks 0 (map task_in (records_of r.set)))) r.set ≡ sheet_judged s
unfolding sheet_judged sheet_checks
sheet_judged_so s r e = judged_so version_1 version_2 s r e
