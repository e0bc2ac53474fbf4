-- SCOPE.md, "Converting": what the converter answers to a version and a sheet, and what it leaves in the lent bytes.
use Rattle.std.specs.Prelude.{List, [], ◌∷◌, ◌++◌, ℕ, ◌+◌, ◌-◌, length, Result}
use Rattle.lent.specs.Checks.{Check}
use Rattle.lent.specs.Lent.{Call, answered, left_after}
use Rattle.sheet.specs.Constants.{version_1, version_2}
use Rattle.sheet.specs.Reading.{checks_among, policy_of, tasks_of}
use Rattle.sheet.specs.Writing.{sheet_of, version_check, deadlines_check}
use Rattle.sheet.specs.declared.Refusal.{Refusal}
use Rattle.sheet.specs.declared.Refusal.TheVariants.{Room}

-- the version that a converter to this one takes, of 1 and 2; every other gets 3 before
abbrev pub other_version : ℕ → ℕ
other_version version = version_1 + version_2 - version

-- the order: 3 for the version that it is told, those of a sheet of the version that it takes, 17
unfoldable pub converting_checks : ℕ → List ℕ → List (Check Refusal)
converting_checks version sheet =
    version_check version
    ∷ checks_among (other_version version) (other_version version) sheet
    ++ deadlines_check version (tasks_of sheet)
    ∷ []

-- the sheet of the same policy and tasks in this version
unfoldable pub conversion : ℕ → List ℕ → List ℕ
conversion version sheet = sheet_of version (policy_of sheet) (tasks_of sheet)

-- converting: these refusals, that sheet as what is written, the count of its bytes as the answer
unfoldable pub converting : ℕ → List ℕ → Call Refusal ℕ ℕ
converting version sheet =
    record {
      checks = converting_checks version sheet;
      writes = conversion version sheet;
      says = length (conversion version sheet);
    }

-- what the converter answers for a lent room, and what the room holds afterwards
unfoldable pub converted : ℕ → List ℕ → List ℕ → Result ℕ Refusal
converted version sheet room = answered Room (converting version sheet) room

unfoldable pub converted_left : ℕ → List ℕ → List ℕ → List ℕ
converted_left version sheet room = left_after Room (converting version sheet) room
