-- mean waits
use Rattle.std.proofs.Common.{◌≡◌, ℕ, ◌+◌, ◌-◌, ◌*◌, ◌/◌, ◌^◌, ◌<◌, ◌≤◌, max, List, [], ◌∷◌, ◌++◌, length, take, filter, refl, sym, ap, arith, Option, Some, None, ◌∙◌}
use Rattle.std.specs.List.{sum_by, range_with_len}
use Rattle.std.proofs.Math.Nat.{div-le_of_le-mul, div-add-mod', le-div_iff_mul-le}
use Rattle.std.proofs.lemmas.Nat.{div_below, mod_below}
use Rattle.recording_file.specs.declared.limits.TheConstants.{MAX_RECORDED_ROUNDS}
use Rattle.recording_file.proofs.ListLemmas.{range_more}
use Rattle.std.specs.Option.{IfSome, IfNone}
use Rattle.capture.specs.Rounds.{Span, round_at, span_nanoseconds}
use Rattle.capture.specs.Spans.{MAX_COUNT}
use Rattle.capture.proofs.SpanBoundLemmas.{span_some}
use Rattle.std.proofs.lemmas.Bool.{ne_eqb}
use Rattle.std.proofs.lemmas.List.{take_all}
use Rattle.capture.specs.Timed.{TimedRequest, is_started, most_of}
use Rattle.capture.specs.Lengths.{wait_of, longest_round}

pub half_small : (waits count : ℕ) → waits ≤ count * 2 ^ 64 → waits / (2 * count) ≤ 2 ^ 63
half_small waits count le = div-le_of_le-mul (2 * count) (omega arith)

pub longest_none : (qs : List TimedRequest) (n count : ℕ) → length qs ≤ n → count ≡ length (filter is_started (take n qs)) → count ≡ 0 → None ≡ longest_round qs
unfolding longest_round
longest_none qs n count le is none =
    let all = take_all n qs le in
    let empty : length (filter is_started qs) ≡ 0 = ap (λ xs. length (filter is_started xs)) (sym all) ∙ sym is ∙ none in
    rw empty refl

pub longest_some : (qs : List TimedRequest) (n waits count twice : ℕ) → length qs ≤ n → waits ≡ sum_by wait_of (filter is_started (take n qs)) → count ≡ length (filter is_started (take n qs)) → (count ≡ 0 → ⊥) → twice ≡ 2 * count → Some (waits / twice) ≡ longest_round qs
unfolding longest_round
longest_some qs n waits count twice le sum many some double =
    let all = take_all n qs le in
    let counted : count ≡ length (filter is_started qs) = many ∙ ap (λ xs. length (filter is_started xs)) all in
    let summed : waits ≡ sum_by wait_of (filter is_started qs) = sum ∙ ap (λ xs. sum_by wait_of (filter is_started xs)) all in
    let other = ne_eqb count 0 some in
    rw (double, summed, ← counted, other) refl

-- the greatest of one number more
pub most_more : {X : Type 0} (f : X → ℕ) (xs : List X) (y : X) → most_of f (xs ++ y ∷ []) ≡ max (most_of f xs) (f y)
most_more f [] y = omega arith
most_more f (x ∷ xs) y = omega (arith, most_more f xs y)

pub most_of_range : (f : ℕ → ℕ) (n most : ℕ) → most ≡ most_of f (range_with_len 0 n) → max most (f n) ≡ most_of f (range_with_len 0 (n + 1))
most_of_range f n most so_far =
    let at : 0 + n ≡ n = omega arith in
    let next = ap (most_of f) (range_more 0 n) ∙ most_more f (range_with_len 0 n) (0 + n) in
    let here : f (0 + n) ≡ f n = ap f at in
    omega arith

-- a time in that many rounds of what this length makes of it
pub rounds_fit : (span begin last : ℕ) → (last - begin) / MAX_RECORDED_ROUNDS + 1 ≤ span → round_at span begin last ≤ MAX_RECORDED_ROUNDS
rounds_fit span begin last long =
    let time : ℕ = last - begin in
    let whole = div-add-mod' time MAX_RECORDED_ROUNDS in
    let rest = mod_below time MAX_RECORDED_ROUNDS (omega arith) in
    let below = div_below time span MAX_RECORDED_ROUNDS (omega arith) (omega arith) in
    omega arith

-- and no round as short as the last one that doesn't
pub rounds_over : (span begin last : ℕ) → 1 ≤ span → span ≤ (last - begin) / MAX_RECORDED_ROUNDS → MAX_RECORDED_ROUNDS < round_at span begin last
rounds_over span begin last some short =
    let time : ℕ = last - begin in
    let whole = div-add-mod' time MAX_RECORDED_ROUNDS in
    let enough : MAX_RECORDED_ROUNDS ≤ time / span = (le-div_iff_mul-le {k = span} {x = MAX_RECORDED_ROUNDS} {y = time} some).1 (omega arith) in
    omega arith

-- the same of a span, if there is one
pub fit_of : (begin last least : ℕ) (r : Option Span) → least ≡ (last - begin) / MAX_RECORDED_ROUNDS + 1 → IfSome r (λ s. least ≤ span_nanoseconds s) → IfSome r (λ s. round_at (span_nanoseconds s) begin last ≤ MAX_RECORDED_ROUNDS)
fit_of begin last least None is h = tt
fit_of begin last least (Some s) is h = rounds_fit (span_nanoseconds s) begin last (rw (← is) h)

-- and of all that are too short, if there is none
pub over_of : (begin last least half : ℕ) (r : Option Span) → least ≡ (last - begin) / MAX_RECORDED_ROUNDS + 1 → IfNone r ((s : Span) → s.count ≤ MAX_COUNT → span_nanoseconds s ≤ half → span_nanoseconds s < least) → IfNone r ((s : Span) → 1 ≤ s.count → s.count ≤ MAX_COUNT → span_nanoseconds s ≤ half → MAX_RECORDED_ROUNDS < round_at (span_nanoseconds s) begin last)
over_of begin last least half (Some s) is h = tt
over_of begin last least half None is h = λ s some few le. rounds_over (span_nanoseconds s) begin last (span_some s some) (omega (arith, h s few le))
