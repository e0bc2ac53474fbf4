-- The refusals of a play by number (SCOPE.md, "What is turned away"): 1 to 12 as everywhere, and the two that only scripts get.
use Rattle.std.specs.Prelude.{ℕ}
use Rattle.sheet.specs.Refusals.{number_of}
use Rattle.player.specs.declared.PlayRefusal.{PlayRefusal}
use Rattle.player.specs.declared.PlayRefusal.TheVariants.{Base, Malformed, Item}

abbrev pub play_number_of : PlayRefusal → ℕ
play_number_of (Base r) = number_of r
play_number_of Malformed = 13
play_number_of (Item j) = 14
