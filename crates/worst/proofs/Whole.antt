-- The whole script: head and entries, and the fill and check word behind them, are the bytes of the definition.
use mathlib.Core.Bool.{Bool}
use mathlib.Core.List.{List, [], ◌∷◌, ◌++◌}
use mathlib.Core.Path.{◌≡◌, refl, sym, ap, ap₂, ◌∙◌}
use Prim.Native.Nat.{ℕ, ◌+◌, ◌≤◌}
use native.Mathlib.Omega.{arith}
use lib.ListN.{length, length-append, length-replicate}
use Rattle.records.specs.Rows.{packed, total}
use Rattle.records.specs.Sealed.{sealed_record, sealed_size}
use Rattle.records.specs.Faces.{end_of, closed}
use Rattle.records.specs.Inside.Steps.{Placed}
use Rattle.records.proofs.Filling.{length_sealed}
use Rattle.records.proofs.Packing.{length_packed}
use Rattle.records.proofs.Placing.{placed_long, placed_behind}
use Rattle.records.proofs.Putting.{room_behind, placed_first}
use Rattle.records.proofs.RoundTrip.{closed_is}
use Rattle.scripts.specs.Format.{first_frame_width, first_frame_widths, count_widths, script_width}
use Rattle.scripts.specs.Writing.{entries_bits, script_bits, script_of}
use Rattle.scripts.proofs.ScriptBits.{length_entries_bits}
use Rattle.scripts.proofs.Widths.{width_is}
use Rattle.worst.specs.declared.Plan.{Plan}
use Rattle.worst.specs.Inside.Plans.{SoundPlan, plan_entries, plan_firsts, plan_script, head_bits}
use Rattle.worst.proofs.Counts.{entries_few}
use Rattle.worst.proofs.Putting.{as_many}

module _ (pl : Plan) (sound : SoundPlan pl) where
  -- the bits of its head and of its entries
  abbrev H : List Bool
  H = head_bits pl

  abbrev E : List Bool
  E = entries_bits (plan_entries pl)

  script_rows : sealed_record (H ++ E) ≡ script_of (plan_script pl)
  unfolding script_of script_bits plan_script head_bits
  script_rows = refl

  rows_size : length (script_of (plan_script pl)) ≡ sealed_size (length (H ++ E))
  rows_size = ap length (sym script_rows) ∙ length_sealed (H ++ E)

  length_head : length H ≡ total (first_frame_widths pl.count) + total count_widths
  unfolding head_bits
  length_head =
      let firsts = plan_firsts pl in
      length-append (packed (first_frame_widths (length firsts)) firsts) (packed count_widths (length (plan_entries pl) ∷ []))
      ∙ ap₂ ◌+◌
      (length_packed (first_frame_widths (length firsts)) firsts (length-replicate {A = ℕ} (length firsts) first_frame_width)
      ∙ ap (λ (n : ℕ). total (first_frame_widths n)) (as_many pl sound))
      (length_packed count_widths (length (plan_entries pl) ∷ []) refl)

  rows_width : length (H ++ E) ≡ script_width pl.count (length (plan_entries pl))
  unfolding script_width
  rows_width = length-append H E ∙ ap₂ ◌+◌ length_head (length_entries_bits (plan_entries pl))

  -- how many bytes it has
  pub script_size_is : (n : ℕ) → n ≡ length (plan_entries pl) → sealed_size (script_width pl.count n) ≡ length (script_of (plan_script pl))
  script_size_is n e = sym (rows_size ∙ ap sealed_size (rows_width ∙ ap (script_width pl.count) (sym e)))

  -- the room that the parts find, one behind the other
  module _ (bytes : List ℕ) (exact : length bytes ≡ length (script_of (plan_script pl))) where
    room : 0 + length H + length E ≤ end_of (length bytes)
    room =
        omega (
          arith,
          rows_size,
          length-append H E,
          rows_width,
          width_is pl.count (length (plan_entries pl)),
          entries_few pl sound,
          sound.few_tasks,
        )

    -- the head finds its room
    pub head_room : length H ≤ end_of (length bytes)
    head_room = omega (arith, room)

    module _ {t : List ℕ} {at : ℕ} (p : Placed bytes 0 H t at) where
      -- the entries find theirs behind it
      pub entries_room : at + length E ≤ end_of (length t)
      entries_room = room_behind H (length E) room p

      -- what is closed behind them is the script
      pub whole : {u v : List ℕ} {end : ℕ} → Placed t at E u end → v ≡ closed u end → v ≡ script_of (plan_script pl)
      whole {u} {v} {end} q ev =
          let all : Placed bytes 0 (H ++ E) u end = placed_behind H E (omega (arith, room)) p q in
          let same : length u ≡ length bytes = placed_long (rw (length-append H E) (omega (arith, room))) all in
          let at_end : length (H ++ E) ≡ end = omega (arith, all.behind) in
          ev ∙ closed_is u end (H ++ E) (placed_first (H ++ E) all) (same ∙ exact ∙ rows_size ∙ ap sealed_size at_end) ∙ script_rows
