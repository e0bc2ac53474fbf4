-- Every field of the layout has 1 to 32 bits.
use Rattle.std.proofs.Common.{◌≡◌, ℕ, zero, suc, ◌*◌, ◌≤◌, Bool, true, false, replicate, refl, lit≤}
use Rattle.records.specs.Rows.{total}
use Rattle.records.specs.Faces.{lawful}
use Rattle.sheet.specs.Constants.{time_width}
use Rattle.sheet.specs.Fields.{header_widths, fixed_widths, frame_fields, frame_widths}

pub header_lawful : lawful header_widths ≡ true
unfolding lawful
header_lawful = refl

pub fixed_lawful : (own : Bool) → lawful (fixed_widths own) ≡ true
unfolding lawful
fixed_lawful false = refl
fixed_lawful true = refl

times_lawful : (n : ℕ) → lawful (replicate n time_width) ≡ true
unfolding lawful
times_lawful zero = refl
times_lawful (suc n) = times_lawful n

pub frames_lawful : (own : Bool) (n : ℕ) → lawful (frame_widths own n) ≡ true
frames_lawful own n = times_lawful (frame_fields own * n)

-- and there are some
pub some_header : 1 ≤ total header_widths
unfolding total
some_header = lit≤ tt

pub some_fixed : (own : Bool) → 1 ≤ total (fixed_widths own)
unfolding total
some_fixed false = lit≤ tt
some_fixed true = lit≤ tt
