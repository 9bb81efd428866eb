use Rattle.std.specs.Prelude.{ℕ, List, ◌++◌, codes, decimal}

-- a word, a space, a number in decimal and a line feed
unfoldable pub line : List ℕ → ℕ → List ℕ
line word number = ((word ++ codes " ") ++ decimal number) ++ codes "\n"
