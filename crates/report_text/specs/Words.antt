-- Text as bytes: words, numbers in decimal, lines.
use Rattle.std.specs.Prelude.{true, false, List, [], ◌∷◌, ◌++◌, ℕ, zero, suc, ◌+◌, ◌/◌, ◌%◌, ltb}

-- the words of the report
abbrev pub holds_word : List ℕ
holds_word = 0x68 ∷ 0x6F ∷ 0x6C ∷ 0x64 ∷ 0x73 ∷ []

abbrev pub missed_word : List ℕ
missed_word = 0x6D ∷ 0x69 ∷ 0x73 ∷ 0x73 ∷ 0x65 ∷ 0x64 ∷ []

abbrev pub refused_word : List ℕ
refused_word = 0x72 ∷ 0x65 ∷ 0x66 ∷ 0x75 ∷ 0x73 ∷ 0x65 ∷ 0x64 ∷ []

abbrev pub dash_word : List ℕ
dash_word = 0x2D ∷ []

-- a number in decimal, of at most `most` digits
unfoldable pub decimal_of : ℕ → ℕ → List ℕ
decimal_of zero n = []
decimal_of (suc most) n = elim (ltb n 10) [ true ↦ (48 + n) ∷ [] | false ↦ decimal_of most (n / 10) ++ ((48 + n % 10) ∷ []) ]

-- a number below 10,000,000,000
unfoldable pub decimal : ℕ → List ℕ
decimal n = decimal_of 10 n

-- words with a space between each two, and a line's end
unfoldable pub line : List (List ℕ) → List ℕ
line [] = 0x0A ∷ []
line (w ∷ []) = w ++ (0x0A ∷ [])
line (w ∷ v ∷ ws) = w ++ (0x20 ∷ line (v ∷ ws))
