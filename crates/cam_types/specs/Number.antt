use Rattle.std.specs.Prelude.{ℕ, ◌==◌, Bool, not, nat_lt, nat_le, ◌&&◌, if◌then◌else◌, List, length, slice_index, Option, Some, None}
use Rattle.std.specs.Char.{is_ascii_digit}
use Rattle.std.specs.List.{list_all}
use Rattle.std.specs.Str.Parse.{digits_value}

-- a zero stands before another byte
abbrev pub has_leading_zero : List ℕ → Bool
has_leading_zero text = nat_lt 1 (length text) && (slice_index text 0 == 48)

-- decimal digits, one at least, and no zero before another digit
abbrev pub is_decimal : List ℕ → Bool
is_decimal text = nat_lt 0 (length text) && not (has_leading_zero text) && list_all is_ascii_digit text

-- the number that a text spells, where it is at most `most`
unfoldable pub number_of : ℕ → List ℕ → Option ℕ
number_of most text =
    if is_decimal text && nat_le (digits_value 10 text) most then Some (digits_value 10 text) else None
