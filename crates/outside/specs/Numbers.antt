-- The number by which a C program sees what was taken from a field.
use Rattle.std.specs.Prelude.{ℕ, ◌^◌, None, Option, Some}

-- the value itself; where there is no field, a number that no field of 32 bits holds
abbrev pub number_seen : Option ℕ → ℕ
number_seen (Some v) = v
number_seen None = 2 ^ 32
