-- the lines of a text
use Rattle.std.specs.Prelude.{ℕ, ◌==◌, if◌then◌else◌, List, [], ◌∷◌}

-- these lines with a byte before the first of them
abbrev pub with_byte : ℕ → List (List ℕ) → List (List ℕ)
with_byte c [] = (c ∷ []) ∷ []
with_byte c (line ∷ lines) = (c ∷ line) ∷ lines

-- the lines of a text, each without its line feed: the last one may lack it
unfoldable pub lines : List ℕ → List (List ℕ)
lines [] = []
lines (c ∷ cs) = if c == 10 then [] ∷ lines cs else with_byte c (lines cs)
