-- The numbers of the refusals are small.
use Rattle.std.proofs.Common.{◌<◌, lit<}
use Rattle.sheet.specs.Refusals.{number_of}
use Rattle.sheet.specs.declared.Refusal.{Refusal}
use Rattle.sheet.specs.declared.Refusal.TheVariants.{Length, CheckWord, Version, Policy, BitSet, TaskCount, FrameCount, Records, IllFormed, Lock, NotMonotonic, Room, Deadlines}

pub number_small : (r : Refusal) → number_of r < 32
number_small Length = lit< tt
number_small CheckWord = lit< tt
number_small Version = lit< tt
number_small Policy = lit< tt
number_small BitSet = lit< tt
number_small TaskCount = lit< tt
number_small (FrameCount i) = lit< tt
number_small Records = lit< tt
number_small (IllFormed i) = lit< tt
number_small (Lock i) = lit< tt
number_small (NotMonotonic i why) = lit< tt
number_small Room = lit< tt
number_small Deadlines = lit< tt
