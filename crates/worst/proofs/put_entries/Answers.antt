-- `put_entries` meets its contract: the entries before the next one are written.
use Rattle.worst.proofs.Written.{written_none, ready_all, next_in, step_fits, entry_fits, entry_room, entry_within, written_more}
use Rattle.worst.proofs.put_entries.Goals as goal

pub loop-series-init : goal.loop-series-init
loop-series-init c = record { written = written_none c.args.plan c.requires.0 _ _; next = c.soonest-i.ensures }

pub entry-requires : goal.entry-requires
entry-requires c = next_in c.args.plan c.requires.0 _ _ c.requires.1 c.loop-series.invariant c.loop-series-test.true

pub put_entry-end-requires : goal.put_entry-end-requires
put_entry-end-requires c =
    let known = c.loop-series.invariant in
    let in_time = c.loop-series-test.true in (
      entry_fits c.args.plan c.requires.0 _ _ c.requires.1 known in_time _ c.entry.ensures,
      entry_room c.args.plan c.requires.0 _ _ c.requires.1 known in_time _ c.entry.ensures,
    )

pub advance-requires : goal.advance-requires
advance-requires c =
    let known = c.loop-series.invariant in
    let in_time = c.loop-series-test.true in
    (next_in c.args.plan c.requires.0 _ _ c.requires.1 known in_time, step_fits c.args.plan c.requires.0 _ _ c.requires.1 known in_time)

pub loop-series-smaller : goal.loop-series-smaller
loop-series-smaller c = entry_within c.args.plan c.requires.0 _ _ c.requires.1 c.loop-series.invariant c.loop-series-test.true _ c.entry.ensures c.put_entry-end.ensures

pub loop-series-preserved : goal.loop-series-preserved
loop-series-preserved c =
    record {
      written = written_more c.args.plan c.requires.0 _ _ c.requires.1 c.loop-series.invariant c.loop-series-test.true _ c.entry.ensures c.put_entry-end.ensures _ c.put_entry-end.auto.bytes c.advance.ensures;
      next = c.soonest-i-in-loop-series.ensures;
    }

pub returns : goal.returns
returns c = ready_all c.args.plan c.requires.0 _ _ c.loop-series.invariant c.loop-series-test.false
