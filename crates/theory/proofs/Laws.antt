-- The laws of the analysis that other crates cite, gathered in one place; laws of runs are cited from the files in which they stand.

-- frames and the work of n jobs: one job more, whole rounds, monotone in n and in frames
pub use Rattle.theory.proofs.Work.{work_zero, work_suc, work_one, work_add, work_mono, work_mod, whole_round, whole_rounds, work_frames}
-- the start frame and the largest frame: what they are, and that nothing else is
pub use Rattle.theory.proofs.Work.{qualifies_test, monotonic_test, IsStart, start_is, start_when, start_most, IsLargest, largest_is, largest_when, frame_le_largest}
-- why a task has no start: where no frame qualifies there is a reason, and only one; its length; its numbers
pub use Rattle.theory.proofs.Reason.{exceeded_test, reason_is, one_reason, reason_length, reason_within}
-- frames within the period: the work of ⌈t/T⌉ jobs is less than t + T
pub use Rattle.theory.proofs.Work.{frame_in_period, period_positive, work_in_periods}
pub use Rattle.theory.proofs.Demand.{released_less}
-- frames and deadlines at their places; the shortest deadline
pub use Rattle.theory.proofs.Work.{frame_at, deadline_at, IsShortest, shortest_is}
-- admitted, as a test
pub use Rattle.theory.proofs.Tests.{admitted_task_is, admitted_is}
-- blocking and blocker
pub use Rattle.theory.proofs.Blocking.{lower_lock, largest_lock_step, largest_lock_last, IsBlocker, blocker_is, blocker_when, no_blocker, no_blocker_when}
-- ⌈t/T⌉
pub use Rattle.theory.proofs.Demand.{releases_more, releases_mono, releases_is, releases_zero, releases_suc, releases_less}
-- demand: monotone in t, in blocking, in frames and in the set above; the same in any order of the tasks above; as a sum over places
pub use Rattle.theory.proofs.Demand.{AtLeast, Within, nobody, extra, each, within_refl, demand_mono, demand_order}
pub use Rattle.theory.proofs.Places.{sum_below, sum_zero, sum_suc, work_in, higher_work_sum}
pub use Rattle.theory.proofs.Verdict.{demand_of_mono, demand_of_monotone, demand_of_least}
-- response: computed and as a relation; unique; no later for less demand
pub use Rattle.theory.proofs.Response.{response_is, no_response_is, response_unique, response_exists, response_less}
pub use Rattle.theory.proofs.Verdict.{response_of_is, no_response_of_is, passes_frames, passes_if, fails_first}
-- the rounds: growing, below every solution, at the least one in the end; and the invariant of a loop over them
pub use Rattle.theory.proofs.Response.{Monotone, rounds_grow, rounds_below, rounds_least, rounds_end, rounds_reach, rounds_pass}
pub use Rattle.theory.proofs.Response.{MoreBelow, more_below_start, more_below_round, more_below_is, more_below_none}
pub use Rattle.theory.proofs.Verdict.{rounds_of_reach, rounds_of_pass}
-- the verdict; and that nothing depends on the order of the tasks above and below
pub use Rattle.theory.proofs.Releases.{releases_few}
pub use Rattle.theory.proofs.Verdict.{verdict_holds, IsMissed, verdict_missed}
pub use Rattle.theory.proofs.Order.{SamePlace, blocking_order, demand_of_same, response_of_same, passes_same}
-- within a task the tick goes to the oldest job
pub use Rattle.theory.proofs.Lanes.{total, serve_oldest_first}
