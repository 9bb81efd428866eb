-- nearest ranks of numbers
use Rattle.std.specs.Prelude.{ℕ, ◌*◌, Bool, nat_le, List, length, count_by, find, unwrap_or}
use Rattle.std.specs.List.{range_with_len}

-- that many in a thousand of these numbers are no more than this
abbrev pub is_enough : ℕ → List ℕ → ℕ → Bool
is_enough thousandths numbers n = nat_le (thousandths * length numbers) (1000 * count_by (λ number. nat_le number n) numbers)

-- nearest rank: the least number that is enough, of those below the most; 0 if there is none
unfoldable pub rank_below : ℕ → ℕ → List ℕ → ℕ
rank_below most thousandths numbers = unwrap_or (find (is_enough thousandths numbers) (range_with_len 0 most)) 0
