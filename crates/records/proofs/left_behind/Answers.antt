-- `left_behind` meets its contract: the bits left are counted in whole bytes, and fewer than eight are one field, whose number is 0 where none is set.
use mathlib.Core.Path.{sym, ◌∙◌}
use Prim.Native.Nat.{◌-◌, ◌%◌}
use native.Mathlib.Omega.{arith}
use Rattle.records.proofs.Filling.{length_rest, rest_none, rest_long, rest_set, rest_zeros}
use Rattle.records.proofs.Taking.{number_left}
use Rattle.records.proofs.left_behind.Goals as goal
use Rattle.records.proofs.left_behind.Goals.{then-used-eq0-via-then-used-eq0, then-used-eq0-via-else-used-eq0+then-byte-bytes}

pub returns-then-bytes-byte : goal.returns-then-bytes-byte
returns-then-bytes-byte c = let l = length_rest c.args.bytes.now c.args.at in rest_none _ (omega arith)

pub returns-then-used-eq0 : goal.returns-then-used-eq0
returns-then-used-eq0 c =
    let l = length_rest c.args.bytes.now c.args.at in
    rest_long _
    (elim c.then-used-eq0.branch [ then-used-eq0-via-then-used-eq0 w ↦ omega arith | then-used-eq0-via-else-used-eq0+then-byte-bytes w ↦ omega arith ])

pub returns-then-unwrap_or-ne0 : goal.returns-then-unwrap_or-ne0
returns-then-unwrap_or-ne0 c =
    let l = length_rest c.args.bytes.now c.args.at in
    let v = number_left c.args.bytes.now c.args.at (8 - c.args.at % 8) _ _ c.take_field.ensures c.unwrap_or.ensures (omega arith) (omega arith) (omega arith) in
    rest_set _ (omega arith) (λ e. c.if-unwrap_or-ne0.true (v ∙ e))

pub returns : goal.returns
returns c =
    let l = length_rest c.args.bytes.now c.args.at in
    let v = number_left c.args.bytes.now c.args.at (8 - c.args.at % 8) _ _ c.take_field.ensures c.unwrap_or.ensures (omega arith) (omega arith) (omega arith) in
    rest_zeros _ (omega arith) (sym v ∙ c.if-unwrap_or-ne0.false)
