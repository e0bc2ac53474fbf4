-- What a conversion carries: the same policy and tasks in the other version, so that there and back gives the same bytes.
use Rattle.std.specs.Prelude.{Ok}
use mathlib.Core.Bool.{true, not, ◌||◌}
use mathlib.Core.List.{List}
use mathlib.Core.Path.{◌≡◌, ap, ap₂, ◌∙◌}
use Prim.Native.Nat.{ℕ}
use Rattle.bits.specs.Packed.{Bytes as IsBytes}
use Rattle.lent.proofs.Checks.{passed, passed_over}
use Rattle.sheet.specs.Constants.{version_1, version_2}
use Rattle.sheet.specs.Fields.{own_deadlines}
use Rattle.sheet.specs.Tasks.{set_with}
use Rattle.sheet.specs.Admission.{decided}
use Rattle.sheet.specs.Reading.{version_among, checks_among, sheet_checks, version_of, policy_of, tasks_of, reading}
use Rattle.sheet.specs.Writing.{sheet_of, one_deadline_each}
use Rattle.sheet.proofs.Each.{Each}
use Rattle.sheet.proofs.RecordBits.{Held, each_held}
use Rattle.sheet.proofs.Checks.{none_applies, admits}
use Rattle.sheet.proofs.Carried.{Carried, by_reading}
use Rattle.sheet.proofs.SheetBits.{version_is, policy_is, tasks_are, sheet_is_read}
use Rattle.sheet.proofs.RoundTrip.{version_small, read_then_write}
use Rattle.converter.specs.Converting.{conversion}

-- a sheet that one reader admits is admitted by every reader of its version
pub other_limits : (a b c d : ℕ) (s : List ℕ) → decided (checks_among a b s) ≡ Ok tt → version_among c d (version_of s) ≡ true → decided (checks_among c d s) ≡ Ok tt
unfolding checks_among version_of
other_limits a b c d s h known =
    let one = passed _ _ (none_applies (checks_among a b s) h) in
    let two = passed _ _ one.1 in
    let three = passed _ _ two.1 in
    admits (checks_among c d s)
    (passed_over _ _ _ one.0 ∙ passed_over _ _ _ two.0 ∙ passed_over _ _ _ (ap not known) ∙ three.1)

-- an admitted sheet that the other version can hold
module _ (s : List ℕ) (a : decided (sheet_checks s) ≡ Ok tt) (version : ℕ) (known : version_among version_1 version_2 version ≡ true)
    (held : (own_deadlines version || one_deadline_each (tasks_of s)) ≡ true) where
  carries : Carried (policy_of s) (tasks_of s)
  carries = by_reading s a

  each : Each (Held (own_deadlines version)) (tasks_of s)
  each = each_held (own_deadlines version) (tasks_of s) held

  -- The conversion of an admitted sheet is admitted, and carries the version that was asked for, the same policy and the same tasks.
  pub conversion_is_read : reading (conversion version s) ≡ Ok (record { version = version; set = set_with (policy_of s) (tasks_of s) })
  unfolding conversion reading
  conversion_is_read = sheet_is_read version (policy_of s) (tasks_of s) (version_small version known) carries each version_1 version_2 known

  pub conversion_carries : (version_of (conversion version s) ≡ version) × (policy_of (conversion version s) ≡ policy_of s) × (tasks_of (conversion version s) ≡ tasks_of s)
  unfolding conversion
  conversion_carries =
      let small = version_small version known in (
        version_is version (policy_of s) (tasks_of s) small carries each,
        policy_is version (policy_of s) (tasks_of s) small carries each,
        tasks_are version (policy_of s) (tasks_of s) small carries each,
      )

  -- There and back gives the same bytes.
  pub there_and_back : IsBytes s → conversion (version_of s) (conversion version s) ≡ s
  unfolding conversion
  there_and_back h = ap₂ (sheet_of (version_of s)) conversion_carries.1 conversion_carries.2 ∙ read_then_write s h a
