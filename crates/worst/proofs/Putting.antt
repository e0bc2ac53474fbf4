-- The rows of a script: its entries, its first frames and its count fit their fields.
use mathlib.Core.Bool.{Bool, true}
use mathlib.Core.List.{List, [], ◌∷◌, ◌++◌, append-nil, append_assoc}
use mathlib.Core.Path.{◌≡◌, refl, sym, ap, ◌∙◌}
use Prim.Native.Nat.{ℕ, zero, suc, ◌+◌, ◌^◌, ◌≤◌, ◌<◌}
use native.Mathlib.Omega.{arith}
use lib.ListN.{length, get_or, take, length-append, length-map, get_or-map}
use lib.Seq.{get_or-take, length-take-le}
use Rattle.records.specs.Rows.{packed}
use Rattle.records.specs.Faces.{end_of, lawful, row_fits}
use Rattle.records.specs.Inside.Steps.{Placed}
use Rattle.records.proofs.Packing.{no_field, one_more}
use Rattle.records.proofs.Parts.{take_replicate}
use Rattle.records.proofs.Placing.{placed_behind}
use Rattle.records.proofs.Putting.{row_can, room_behind}
use Rattle.sheet.specs.Constants.{most_tasks}
use Rattle.plays.specs.declared.Entry.{Entry}
use Rattle.scripts.specs.Format.{first_frame_width, first_frame_widths, count_widths, entry_widths}
use Rattle.scripts.specs.Writing.{entry_numbers, entries_bits, EntryFits}
use Rattle.scripts.proofs.ScriptBits.{fit_alike, fit_entry}
use Rattle.worst.specs.declared.Plan.{Plan}
use Rattle.worst.specs.declared.Series.{Series}
use Rattle.worst.specs.Inside.Plans.{no_series, plan_series, SoundPlan, plan_entries, plan_firsts, head_bits}
use Rattle.worst.proofs.Counts.{entries_few}

-- ---- one entry

entry_lawful : lawful entry_widths ≡ true
unfolding lawful
entry_lawful = refl

module _ (e : Entry) (ws ns : List ℕ) (ew : ws ≡ entry_widths) (en : ns ≡ entry_numbers e) where
  -- an entry that fits can be put where there is room
  pub entry_can : (size at : ℕ) → EntryFits e → at + length (packed entry_widths (entry_numbers e)) ≤ end_of size → row_fits size at ws ns ≡ true
  entry_can size at f h = rw (ew, en) (row_can size at entry_lawful (fit_entry e f) h)

  -- the row that was put is the entry
  pub entry_placed : {s t : List ℕ} {at next : ℕ} → Placed s at (packed ws ns) t next → Placed s at (packed entry_widths (entry_numbers e)) t next
  entry_placed p = rw (ew, en) at p

-- entries one behind the other
entries_behind : (es fs : List Entry) → entries_bits (es ++ fs) ≡ entries_bits es ++ entries_bits fs
unfolding entries_bits
entries_behind [] fs = refl
entries_behind (e ∷ es) fs =
    ap (λ (bs : List Bool). packed entry_widths (entry_numbers e) ++ bs) (entries_behind es fs)
    ∙ sym (append_assoc (packed entry_widths (entry_numbers e)) (entries_bits es) (entries_bits fs))

-- an entry behind others adds its bits
pub entry_behind : (es : List Entry) (e : Entry) → entries_bits (es ++ (e ∷ [])) ≡ entries_bits es ++ packed entry_widths (entry_numbers e)
unfolding entries_bits
entry_behind es e = entries_behind es (e ∷ []) ∙ ap (λ (bs : List Bool). entries_bits es ++ bs) (append-nil (packed entry_widths (entry_numbers e)))

-- ---- first frames and count

firsts_lawful : (n : ℕ) → lawful (first_frame_widths n) ≡ true
unfolding lawful
firsts_lawful zero = refl
firsts_lawful (suc n) = firsts_lawful n

count_lawful : lawful count_widths ≡ true
unfolding lawful
count_lawful = refl

module _ (pl : Plan) (sound : SoundPlan pl) where
  abbrev firsts : List ℕ
  firsts = plan_firsts pl

  pub as_many : length (plan_firsts pl) ≡ pl.count
  as_many = length-map (take pl.count pl.series) (λ series. series.next) ∙ length-take-le pl.count pl.series (omega (arith, sound.room, sound.few_tasks))

  -- the first frame of task i
  pub first_at : (i : ℕ) → i < pl.count → get_or firsts i 0 ≡ (plan_series pl i).next
  first_at i h =
      get_or-map (λ series. series.next) (take pl.count pl.series) i no_series ∙ ap (λ (x : Series). x.next) (get_or-take pl.count pl.series i no_series h)

  abbrev first_bits : List Bool
  first_bits = packed (first_frame_widths (length firsts)) firsts

  abbrev count_bits : List Bool
  count_bits = packed count_widths (length (plan_entries pl) ∷ [])

  first_small : (i : ℕ) → i < length firsts → get_or firsts i 0 < 2 ^ first_frame_width
  first_small i h =
      let there : i < pl.count = omega (arith, as_many) in
      let s = sound.each i there in
      rw (first_at i there) (omega (arith, s.next_in, s.few_frames))

  widths_are : (ws : List ℕ) → ws ≡ first_frame_widths most_tasks → take pl.count ws ≡ first_frame_widths (length firsts)
  widths_are ws ew = ap (take pl.count) ew ∙ take_replicate pl.count most_tasks first_frame_width sound.few_tasks ∙ ap first_frame_widths (sym as_many)

  module _ (b : List ℕ) (room : length (head_bits pl) ≤ end_of (length b)) (ws : List ℕ) (ew : ws ≡ first_frame_widths most_tasks) where
    both : 0 + length first_bits + length count_bits ≤ end_of (length b)
    unfolding head_bits
    both = omega (arith, length-append first_bits count_bits)

    -- the first frames can be put
    pub firsts_can : row_fits (length b) 0 (take pl.count ws) firsts ≡ true
    firsts_can = rw (widths_are ws ew) (row_can (length b) 0 (firsts_lawful (length firsts)) (fit_alike first_frame_width firsts first_small) (omega (arith, both)))

    module _ {t : List ℕ} {at : ℕ} (p : Placed b 0 (packed (take pl.count ws) firsts) t at) where
      first : Placed b 0 first_bits t at
      first = rw (widths_are ws ew) at p

      module _ (cs : List ℕ) (ec : cs ≡ count_widths) (n : ℕ) (en : n ≡ length (plan_entries pl)) where
        -- the count can be put behind them
        pub count_can : row_fits (length t) at cs (n ∷ []) ≡ true
        count_can =
            let small : length (plan_entries pl) < 2 ^ 24 = omega (arith, entries_few pl sound) in
            rw (ec, en) (row_can (length t) at count_lawful (one_more small no_field) (room_behind first_bits (length count_bits) both first))

        -- both together are the head
        pub head_placed : {u : List ℕ} {end : ℕ} → Placed t at (packed cs (n ∷ [])) u end → Placed b 0 (head_bits pl) u end
        unfolding head_bits
        head_placed q = placed_behind first_bits count_bits (omega (arith, both)) first (rw (ec, en) at q)
