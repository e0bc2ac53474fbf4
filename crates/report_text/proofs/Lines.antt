-- The lines of the report, word by word, and how long they are.
use Rattle.std.proofs.Common.{List, [], ◌∷◌, ◌++◌, ◌≡◌, ℕ, ◌+◌, ◌≤◌, ◌<◌, length, take, length-append, length-take, append_assoc, append-nil, arith, Option, Some, None, Result, Ok, Err}
use Rattle.std.specs.List.{flat_map}
use Rattle.sheet.specs.Refusals.{number_of}
use Rattle.sheet.specs.declared.Refusal.{Refusal}
use Rattle.analysis.specs.declared.Finding.{Finding}
use Rattle.analysis.specs.declared.Verdict.{Verdict}
use Rattle.analysis.specs.declared.Verdict.TheVariants.{Holds, Missed}
use Rattle.report_text.specs.Words.{holds_word, missed_word, refused_word, decimal}
use Rattle.report_text.specs.Report.{blocker_word, first_line}
use Rattle.report_text.specs.Inside.Lines.{behind, found_words, finding_line, Printable, line_room, first_room}
use Rattle.report_text.proofs.Decimal.{decimal_length, two_digits}
use Rattle.report_text.proofs.Line.{line_behind, words_length}

-- ---- each line behind what stands on the page

apart : (page w a b c r end : List ℕ) → (((((page ++ w) ++ a) ++ b) ++ c) ++ r) ++ end ≡ page ++ (w ++ ((a ++ (b ++ (c ++ r))) ++ end))
apart page w a b c r end = simp append_assoc

module _ (page : List ℕ) where
  pub holds_put : (n : ℕ) → ((page ++ holds_word) ++ behind (decimal n)) ++ (0x0A ∷ []) ≡ page ++ first_line (Ok Holds) n
  unfolding first_line
  holds_put n = rw (line_behind holds_word (decimal n ∷ [])) (simp append_assoc)

  pub missed_put : (n i : ℕ) (b : Option ℕ)
      → ((((page ++ missed_word) ++ behind (decimal n)) ++ behind (decimal i)) ++ behind (blocker_word b)) ++ (0x0A ∷ [])
      ≡ page ++ first_line (Ok (Missed i b)) n
  unfolding first_line
  missed_put n i b =
      rw (line_behind missed_word (decimal n ∷ decimal i ∷ blocker_word b ∷ []), ← append-nil ((((page ++ missed_word) ++ behind (decimal n)) ++ behind (decimal i)) ++ behind (blocker_word b)))
      (apart page missed_word (behind (decimal n)) (behind (decimal i)) (behind (blocker_word b)) [] (0x0A ∷ []))

  pub refused_put : (r : Refusal) (n : ℕ) → ((page ++ refused_word) ++ behind (decimal (number_of r))) ++ (0x0A ∷ []) ≡ page ++ first_line (Err r) n
  unfolding first_line
  refused_put r n = rw (line_behind refused_word (decimal (number_of r) ∷ [])) (simp append_assoc)

  pub finding_put : (f : Finding)
      → (((((page ++ decimal f.number) ++ behind (decimal f.period)) ++ behind (decimal f.deadline)) ++ behind (decimal f.blocked)) ++ flat_map behind (found_words f.times f.frame_count)) ++ (0x0A ∷ [])
      ≡ page ++ finding_line f
  unfolding finding_line
  finding_put f =
      rw (line_behind (decimal f.number) (decimal f.period ∷ decimal f.deadline ∷ decimal f.blocked ∷ found_words f.times f.frame_count))
      (apart page (decimal f.number) (behind (decimal f.period)) (behind (decimal f.deadline)) (behind (decimal f.blocked)) _ (0x0A ∷ []))

-- ---- lengths

pub number_room : (page after : List ℕ) (n : ℕ) → n < 16 → after ≡ page ++ decimal n → length after ≤ length page + 2
number_room page after n h e = rw (e, length-append) (omega (arith, two_digits n (omega arith)))

blocker_length : (b : Option ℕ) → length (blocker_word b) ≤ 10
unfolding blocker_word
blocker_length (Some b) = decimal_length b
blocker_length None = omega arith

pub first_line_length : (o : Result Verdict Refusal) (n : ℕ) → length (first_line o n) ≤ first_room
first_line_length (Ok Holds) n = rw (← holds_put [] n, length-append) (omega (arith, decimal_length n))
first_line_length (Ok (Missed i b)) n =
    rw (← missed_put [] n i b, length-append, length-append, length-append) (omega (arith, decimal_length n, decimal_length i, blocker_length b))
first_line_length (Err r) n = rw (← refused_put [] r n, length-append) (omega (arith, decimal_length (number_of r)))

found_length : (times : Option (List ℕ)) (n : ℕ) → n ≤ 8 → length (flat_map behind (found_words times n)) ≤ 88
unfolding found_words
found_length None n h = omega arith
found_length (Some times) n h = omega (arith, words_length (take n times), length-take n times)

module _ (f : Finding) (h : Printable f) where
  pub line_length : length (finding_line f) ≤ line_room
  line_length =
      rw (← finding_put [] f, length-append, length-append, length-append, length-append, length-append)
      (omega (arith, two_digits f.number (omega (arith, h.known_number)), decimal_length f.period, decimal_length f.deadline, decimal_length f.blocked, found_length f.times f.frame_count h.few_frames))
