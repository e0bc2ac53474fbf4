-- Cases A to O: one statement over the table, computed.
use mathlib.Core.Bool.{xor}
use mathlib.Core.Path.{refl}
use Rattle.bits.specs.Packed.{value, digits, bits_of, bytes_of}
use Rattle.check_word.specs.Division.{added, polynomial, divided, remainder, started, check_word, seal, body, sealed}
use Rattle.theory.specs.First.{first, every, found}
use Rattle.theory.specs.Tasks.{task_at, frame_count, frame, work, largest, largest_frame, qualifies, start_frame, deadline_of, smallest, shortest_deadline}
use Rattle.theory.specs.Reason.{exceeds, exceeding, exceeded, exceeded_length, exceeding_frame}
use Rattle.theory.specs.Analysis.{lower, largest_lock, blocking, blocker, higher, releases, higher_work, demand, response, demand_of, response_of, passes, verdict}
use Rattle.records.specs.Rows.{packed, unpacked, total}
use Rattle.records.specs.Sealed.{whole_bytes, sealed_record, some_set}
use Rattle.sheet.specs.Layout.{header_in, behind_header, frame_count_in, record_width, firsts, seconds, task_from, task_at_start, tasks_in}
use Rattle.sheet.specs.Reading.{layout_checks, checks_among, sheet_checks, version_of, policy_of, tasks_of}
use Rattle.sheet.specs.Tasks.{task_in, in_slots, record_of, records_of, set_with, blank_record}
use Rattle.lent.specs.Checks.{first_refusal}
use Rattle.sheet.specs.Admission.{decided, known_policy, all, is_time, in_range, none_above, well_formed, lock_fits, monotonic, reason_of, policy_check, task_count_check, frame_count_check, task_checks, frame_count_checks, list_checks, admission}
use Rattle.sheet.specs.Writing.{header_bits, fixed_numbers, by_turns, frame_numbers, task_bits, tasks_bits, sheet_of}
use Rattle.order.specs.Order.{key, is_higher, placed, order_from, priority_order, ordered_set}
use Rattle.analysis.specs.Times.{number_at, place_of, blocker_number, verdict_number, outcome_of, times_from, slots_by, slots_found, slots_of}
use Rattle.analysis.specs.Findings.{finding_at, findings_from, findings_of, numbers_found, in_turn, times_by_number}
use Rattle.analysis.specs.Answers.{outcome_by, analysed, analysis_by, set_analysis}
use Rattle.report_text.specs.Words.{decimal_of, decimal, line}
use Rattle.report_text.specs.Report.{blocker_word, first_line, time_words, task_line, task_lines, lines_behind, report}
use Rattle.cases.specs.Table.{in_eights, given_by, given, Agrees, table}

-- The definitions give every case of the table its answers.
pub cases_a_to_o : Agrees table
unfolding table Agrees given given_by in_eights times_by_number in_turn numbers_found findings_of findings_from finding_at set_analysis analysis_by analysed outcome_of number_at place_of blocker_number verdict_number times_from slots_by slots_found slots_of key is_higher placed order_from priority_order ordered_set admission decided first_refusal known_policy all is_time in_range none_above well_formed lock_fits monotonic exceeds exceeding exceeded exceeded_length exceeding_frame reason_of policy_check task_count_check frame_count_check task_checks frame_count_checks list_checks task_in in_slots record_of records_of set_with blank_record lower largest_lock blocking blocker higher releases higher_work demand response demand_of response_of passes verdict task_at frame_count frame work largest largest_frame qualifies start_frame deadline_of smallest shortest_deadline first every found body sheet_of sealed_record seal whole_bytes header_bits tasks_bits task_bits fixed_numbers frame_numbers by_turns packed bytes_of digits value report first_line blocker_word time_words task_line task_lines lines_behind line decimal decimal_of outcome_by sheet_checks checks_among layout_checks version_of policy_of tasks_of tasks_in task_at_start task_from firsts seconds record_width frame_count_in behind_header header_in some_set unpacked total sealed check_word remainder divided started added polynomial xor bits_of
cases_a_to_o = refl
