-- What is left behind the last record: 8 for bits left, 5 for fill bits.
use Rattle.std.specs.Prelude.{Err, Ok, Result}
use mathlib.Core.Bool.{Bool, true, false, cond}
use mathlib.Core.List.{List, [], ◌∷◌}
use mathlib.Core.Path.{◌≡◌, refl}
use lib.Dec.{leb}
use lib.ListN.{length}
use Rattle.lent.specs.Checks.{◌⇒◌, first_refusal}
use Rattle.records.specs.Sealed.{byte_width, some_set, rest_of}
use Rattle.records.specs.declared.Surplus.{Surplus}
use Rattle.records.specs.declared.Surplus.TheVariants.{ByteLeft, BitSet as FillSet}
use Rattle.sheet.specs.Admission.{decided}
use Rattle.sheet.specs.Reading.{layout_checks}
use Rattle.sheet.specs.Refusals.{surplus_refused}
use Rattle.sheet.specs.declared.Refusal.TheVariants.{Records, BitSet}
use Rattle.sheet.specs.declared.Refusal.{Refusal}

abbrev pub refused : Result Unit Surplus → Result Unit Refusal
refused (Ok _) = Ok tt
refused (Err left) = Err (surplus_refused left)

pub fill_answer : (bs : List Bool) → refused (rest_of bs) ≡ decided (layout_checks true 0 0 bs)
unfolding rest_of layout_checks decided first_refusal
fill_answer bs = go (leb byte_width (length bs)) (some_set bs)
  where
    go : (b c : Bool) → refused (cond b (Err ByteLeft) (cond c (Err FillSet) (Ok tt))) ≡ decided ((b ⇒ Records) ∷ (c ⇒ BitSet) ∷ [])
    go true c = refl
    go false true = refl
    go false false = refl
