-- spans near a number of nanoseconds
use Rattle.std.specs.Prelude.{ℕ, ◌+◌, ◌-◌, ◌*◌, ◌/◌, max, min, nat_le, if◌then◌else◌, Option, None, unwrap_or}
use Rattle.std.specs.Option.{option_or}
use Rattle.recording_file.specs.declared.span.TimeUnit.{TimeUnit}
use Rattle.recording_file.specs.declared.span.TimeUnit.TheVariants as time
use Rattle.capture.specs.Rounds.{Span, unit_nanoseconds, span_of}

-- the most of a unit that a count says
abbrev pub MAX_COUNT : ℕ
MAX_COUNT = 4294967295

-- the most nanoseconds, up to so many, that whole numbers of a unit make
abbrev pub most_in : ℕ → TimeUnit → ℕ
most_in nanoseconds unit = min (nanoseconds / unit_nanoseconds unit) MAX_COUNT * unit_nanoseconds unit

-- the most nanoseconds, up to so many, that a span has
unfoldable pub most_within : ℕ → ℕ
most_within n = max (max (most_in n time.Nanosecond) (most_in n time.Microsecond)) (max (most_in n time.Millisecond) (most_in n time.Second))

-- the longest span of at most so many nanoseconds
abbrev pub span_within : ℕ → Option Span
span_within n = span_of (most_within n)

-- how many of a unit are at least so many nanoseconds
abbrev pub count_from : ℕ → TimeUnit → ℕ
count_from nanoseconds unit = (nanoseconds + unit_nanoseconds unit - 1) / unit_nanoseconds unit

-- a whole number of a unit that is at least so many nanoseconds, if a count says it
unfoldable pub span_up_in : ℕ → TimeUnit → Option Span
span_up_in nanoseconds unit = if nat_le (count_from nanoseconds unit) MAX_COUNT then span_of (count_from nanoseconds unit * unit_nanoseconds unit) else None

-- the longest span of all
abbrev pub longest_span : Span
longest_span = record { count = MAX_COUNT; unit = time.Second }

-- a span of at least so many nanoseconds, by the finest unit that has one; the longest of all if there is none
unfoldable pub span_from : ℕ → Span
span_from n = unwrap_or (option_or (option_or (option_or (span_up_in n time.Nanosecond) (span_up_in n time.Microsecond)) (span_up_in n time.Millisecond)) (span_up_in n time.Second)) longest_span

-- the coarsest unit of which so many nanoseconds are at least a hundred
abbrev pub unit_for : ℕ → TimeUnit
unit_for n = if nat_le 100000000000 n then time.Second else if nat_le 100000000 n then time.Millisecond else if nat_le 100000 n then time.Microsecond else time.Nanosecond

-- a span of at most so many nanoseconds, and of few digits: a whole number of that unit
unfoldable pub short_within : ℕ → Option Span
short_within n = span_of (n / unit_nanoseconds (unit_for n) * unit_nanoseconds (unit_for n))

-- the same of at least so many
unfoldable pub short_from : ℕ → Option Span
short_from n = span_of (count_from n (unit_for n) * unit_nanoseconds (unit_for n))
