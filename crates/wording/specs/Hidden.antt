-- Characters that aren't seen themselves, or change how those beside them are shown.
use Rattle.std.specs.Prelude.{ℕ, Bool, ◌||◌}
use Rattle.std.specs.Char.{is_control}
use Rattle.std.specs.Int.{is_in_range}

-- control characters, marks of direction, characters without width, ends of lines and paragraphs, and tags
abbrev pub is_hidden : ℕ → Bool
is_hidden c =
    is_control c
    || (is_in_range 0x61C 0x61C c
    || (is_in_range 0x200B 0x200F c
    || (is_in_range 0x2028 0x202E c
    || (is_in_range 0x2060 0x2064 c
    || (is_in_range 0x2066 0x2069 c
    || (is_in_range 0xFEFF 0xFEFF c
    || is_in_range 0xE0000 0xE007F c))))))
