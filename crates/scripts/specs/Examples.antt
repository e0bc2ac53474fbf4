-- Scripts worked by hand, computed from the definitions.
use Rattle.std.proofs.Math.Bool.{xor}
use Rattle.std.specs.Prelude.{List, [], ◌∷◌, ◌≡◌, refl, ℕ, Ok, Err}
use Rattle.bits.specs.Packed.{value, digits, bits_of, bytes_of}
use Rattle.check_word.specs.Division.{added, polynomial, divided, remainder, started, check_word, seal, body, sealed}
use Rattle.lent.specs.Checks.{first_refusal}
use Rattle.records.specs.Rows.{packed, unpacked, total}
use Rattle.records.specs.Sealed.{whole_bytes, sealed_record, some_set}
use Rattle.theory.specs.Tasks.{Task, task_at, frame_count, next_frame, frame}
use Rattle.plays.specs.Script.{Script}
use Rattle.plays.specs.Items.{standing, first_ledger, after_entry, in_range, in_order, by_rules, sound, first_frame_checks, entry_checks, item_checks}
use Rattle.plays.specs.declared.Entry.{Entry}
use Rattle.scripts.specs.Format.{script_width}
use Rattle.scripts.specs.Reading.{firsts_in, entry_count_in, entry_with, entry_at_start, entries_in, script_in, there, well_made}
use Rattle.scripts.specs.Writing.{entries_bits, script_bits, script_of}
use Rattle.scripts.specs.Judging.{judged, judgement}
use Rattle.scripts.specs.declared.Flaw.TheVariants.{Malformed, Item}

-- frames 2 and 1 every 4 ticks with Q 1, and one frame 3 every 8 ticks
abbrev pub two_tasks : List Task
two_tasks = record { period = 4; lock = 1; frames = 2 ∷ 1 ∷ []; deadlines = 4 ∷ 4 ∷ [] } ∷ record { period = 8; lock = 0; frames = 3 ∷ []; deadlines = 8 ∷ [] } ∷ []

abbrev entry : ℕ → ℕ → ℕ → ℕ → Entry
entry task tick work lock = record { task = task; tick = tick; work = work; lock = lock }

abbrev with_entries : ℕ → List Entry → Script
with_entries first es = record { firsts = first ∷ 0 ∷ []; entries = es }

-- task 0 begins with its frame 1; both tasks at tick 0, task 0 again a period later
abbrev pub three_releases : Script
three_releases = with_entries 1 (entry 0 0 1 1 ∷ entry 1 0 3 0 ∷ entry 0 4 2 0 ∷ [])

abbrev bytes_with : ℕ → List ℕ
bytes_with last =
    0x10 ∷ 0x00 ∷ 0x00 ∷ 0x03
    ∷ 0x00 ∷ 0x00 ∷ 0x00 ∷ 0x00 ∷ 0x00 ∷ 0x10 ∷ 0x00 ∷ 0x01
    ∷ 0x10 ∷ 0x00 ∷ 0x00 ∷ 0x00 ∷ 0x00 ∷ 0x30 ∷ 0x00 ∷ 0x00
    ∷ 0x00 ∷ 0x00 ∷ 0x04 ∷ 0x00 ∷ 0x00 ∷ 0x20 ∷ 0x00 ∷ 0x00
    ∷ 0x77 ∷ last ∷ []

-- what an example opens in order to compute
bytes : Unit {0}
unfolding value digits bits_of bytes_of added polynomial divided remainder started check_word seal body sealed xor packed unpacked total whole_bytes sealed_record some_set
bytes = tt

reads : Unit {0}
unfolding bytes script_width firsts_in entry_count_in entry_with entry_at_start entries_in script_in there well_made entries_bits script_bits script_of
reads = tt

judges : Unit {0}
unfolding reads first_refusal task_at frame_count next_frame frame standing first_ledger after_entry in_range in_order by_rules sound first_frame_checks entry_checks item_checks judged judgement
judges = tt

-- 30 bytes: two first frames and the count, three entries, no fill, the check word
pub bytes_of_three : script_of three_releases ≡ bytes_with 0xD4
unfolding reads
bytes_of_three = refl

pub three_read : script_in 2 (bytes_with 0xD4) ≡ three_releases
unfolding reads
three_read = refl

pub three_are_sound : judgement two_tasks (bytes_with 0xD4) ≡ Ok tt
unfolding judges
three_are_sound = refl

-- a bit of the check word changed
pub check_word_wrong : judgement two_tasks (bytes_with 0xD5) ≡ Err Malformed
unfolding judges
check_word_wrong = refl

-- task 0 has no frame 2: item 0
pub no_such_frame : judgement two_tasks (script_of (with_entries 2 [])) ≡ Err (Item 0)
unfolding judges
no_such_frame = refl

-- frame 1 of task 0 has time 1: item 2, the first entry
pub too_much_work : judgement two_tasks (script_of (with_entries 1 (entry 0 0 2 0 ∷ []))) ≡ Err (Item 2)
unfolding judges
too_much_work = refl

-- a lock of 1 over a Q of 0
pub lock_over : judgement two_tasks (script_of (with_entries 1 (entry 1 0 3 1 ∷ []))) ≡ Err (Item 2)
unfolding judges
lock_over = refl

-- of the same tick, task 1 before task 0: the later entry
pub out_of_order : judgement two_tasks (script_of (with_entries 1 (entry 1 0 3 0 ∷ entry 0 0 1 0 ∷ []))) ≡ Err (Item 3)
unfolding judges
out_of_order = refl

-- three ticks after the release before it
pub too_close : judgement two_tasks (script_of (with_entries 1 (entry 0 0 1 0 ∷ entry 0 3 1 0 ∷ []))) ≡ Err (Item 3)
unfolding judges
too_close = refl
