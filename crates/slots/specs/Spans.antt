-- spans of time, which are half open
use Rattle.std.specs.Prelude.{ℕ, Bool, nat_le, nat_lt, ◌&&◌, List, count_by}
pub use Rattle.slots.specs.declared.spans.Span.{Span}

-- a time is in a span
abbrev pub covers : ℕ → Span → Bool
covers t s = nat_le s.from t && nat_lt t s.until

-- in how many spans it is
abbrev pub covering : List Span → ℕ → ℕ
covering spans t = count_by (covers t) spans
