-- A line is its first word, the others behind it, and its end.
use Rattle.std.proofs.Common.{List, [], ◌∷◌, ◌++◌, map, ◌≡◌, ℕ, ◌*◌, ◌≤◌, length, length-append, append_assoc, arith, refl, sym, ap, ◌∙◌}
use Rattle.std.specs.List.{flat_map}
use Prim.Native.Nat.{zero-le}
use Rattle.report_text.specs.Words.{decimal, line}
use Rattle.report_text.specs.Inside.Lines.{behind, word_room}
use Rattle.report_text.proofs.Decimal.{decimal_length}

pub line_behind : (w : List ℕ) (ws : List (List ℕ)) → line (w ∷ ws) ≡ w ++ (flat_map behind ws ++ (0x0A ∷ []))
unfolding line
line_behind w [] = refl
line_behind w (v ∷ ws) = ap (λ l. w ++ (0x20 ∷ l)) (line_behind v ws ∙ sym (append_assoc v (flat_map behind ws) (0x0A ∷ [])))

pub words_length : (ns : List ℕ) → length (flat_map behind (map decimal ns)) ≤ word_room * length ns
words_length [] = zero-le
words_length (n ∷ ns) = rw (length-append (0x20 ∷ decimal n) (flat_map behind (map decimal ns))) (omega (arith, decimal_length n, words_length ns))
