-- the starts that had room while requests waited
use Rattle.std.specs.Prelude.{ℕ, zero, suc, ◌+◌, ◌-◌, ◌/◌, ◌==◌, Bool, not, nat_lt, ◌&&◌, ◌||◌, List, [], ◌∷◌, map, filter, find, count_by}
use Rattle.std.specs.List.{range_with_len, flat_map}
use Rattle.std.specs.Option.{option_map_or}
use Rattle.slots.specs.Spans.{Span, covering}
use Rattle.slots.specs.Flights.{Flight, in_flight, greatest}
pub use Rattle.slots.specs.declared.flight.Wait.{Wait}

-- the span in which a request waits
abbrev pub span_waited : Wait → Span
span_waited w = record { from = w.arrival; until = w.start }

-- how many wait at a time
abbrev pub waiting : List Wait → ℕ → ℕ
waiting ws t = covering (map span_waited ws) t

-- nobody waits from this time on
abbrev pub last_start : List Wait → ℕ
last_start ws = greatest (map (λ (w : Wait). w.start) ws)

-- a level has a gap at a time: fewer are in flight, and a request waits
abbrev pub has_gap : List Flight → List Wait → ℕ → ℕ → Bool
has_gap fs ws level t = nat_lt (in_flight fs t) level && nat_lt 0 (waiting ws t)

-- a span of gaps begins: there is one, and there was none just before
abbrev pub begins : (ℕ → Bool) → ℕ → Bool
begins gap t = gap t && ((t == 0) || not (gap (t - 1)))

-- where spans begin, up to before a time
abbrev pub beginnings : (ℕ → Bool) → ℕ → List ℕ
beginnings gap last = filter (begins gap) (range_with_len 0 last)

-- where the span that begins at a time ends: at the first later time without a gap, which is no later than the last
abbrev pub span_end : (ℕ → Bool) → ℕ → ℕ → ℕ
span_end gap last from = option_map_or (λ t. t) (find (λ t. not (gap t)) (range_with_len (from + 1) (last - from))) last

-- that many times from one on, one service time apart
abbrev pub spaced : ℕ → ℕ → ℕ → List ℕ
spaced service from zero = []
spaced service from (suc n) = from ∷ spaced service (from + service) n

-- the spare starts of a span: as many as fit into it
abbrev pub spare_within : ℕ → ℕ → ℕ → List ℕ
spare_within service from until = spaced service from ((until - from) / service)

-- the spare starts of a level, whose spans end by the last time
abbrev pub spare_of : ℕ → (ℕ → Bool) → ℕ → List ℕ
spare_of service gap last = flat_map (λ from. spare_within service from (span_end gap last from)) (beginnings gap last)

-- those of all levels
unfoldable pub spare_starts : List Flight → List Wait → ℕ → ℕ → List ℕ
spare_starts fs ws slots service = flat_map (λ level. spare_of service (has_gap fs ws level) (last_start ws)) (range_with_len 1 slots)

-- the round of a time, where round 1 begins at that time and each is that long
abbrev pub round_at : ℕ → ℕ → ℕ → ℕ
round_at span begin t = 1 + (t - begin) / span

-- how many of these times are in a round
abbrev pub in_round : ℕ → ℕ → ℕ → List ℕ → ℕ
in_round span begin round times = count_by (λ t. round_at span begin t == round) times
