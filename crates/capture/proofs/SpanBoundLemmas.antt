-- spans near a number of nanoseconds
use Rattle.std.proofs.Common.{◌≡◌, ◌≢◌, ℕ, ◌*◌, ◌/◌, ◌<◌, ◌≤◌, max, min, nat_le, true, false, cond, Option, Some, None, unwrap_or, refl, arith, inl, inr}
use Rattle.std.specs.Option.{IfSome, IfNone}
use Rattle.std.proofs.lemmas.Bool.{leb-true, cases_lt}
use Rattle.recording_file.specs.declared.span.TimeUnit.{TimeUnit}
use Rattle.recording_file.specs.declared.span.TimeUnit.TheVariants as time
use Rattle.capture.specs.Rounds.{Span, unit_nanoseconds, span_nanoseconds}
use Rattle.capture.specs.Spans.{MAX_COUNT, most_in, most_within, count_from, longest_span, unit_for}

-- ---- the longest span of at most so many

most_in_within : (n : ℕ) (u : TimeUnit) → most_in n u ≤ n
most_in_within n time.Nanosecond = omega arith
most_in_within n time.Microsecond = omega arith
most_in_within n time.Millisecond = omega arith
most_in_within n time.Second = omega arith

pub is_within : (n : ℕ) → most_within n ≤ n
unfolding most_within
is_within n = omega (arith, most_in_within n time.Nanosecond, most_in_within n time.Microsecond, most_in_within n time.Millisecond, most_in_within n time.Second)

span_in_unit : (n count : ℕ) (u : TimeUnit) → count ≤ MAX_COUNT → count * unit_nanoseconds u ≤ n → count * unit_nanoseconds u ≤ most_in n u
span_in_unit n count time.Nanosecond few le = omega arith
span_in_unit n count time.Microsecond few le = omega arith
span_in_unit n count time.Millisecond few le = omega arith
span_in_unit n count time.Second few le = omega arith

most_of_units : (n : ℕ) (u : TimeUnit) → most_in n u ≤ most_within n
unfolding most_within
most_of_units n time.Nanosecond = omega arith
most_of_units n time.Microsecond = omega arith
most_of_units n time.Millisecond = omega arith
most_of_units n time.Second = omega arith

pub is_longest : (n : ℕ) (t : Span) → t.count ≤ MAX_COUNT → span_nanoseconds t ≤ n → span_nanoseconds t ≤ most_within n
is_longest n t few le = omega (arith, span_in_unit n t.count t.unit few le, most_of_units n t.unit)

-- no span has so many nanoseconds
abbrev pub HasNoSpan : ℕ → Type 0
HasNoSpan n = (s : Span) → 1 ≤ s.count → s.count ≤ 4294967295 → span_nanoseconds s ≢ n

no_count : (count : ℕ) (u : TimeUnit) → count ≡ 0 → count * unit_nanoseconds u ≡ 0
no_count count time.Nanosecond is = omega arith
no_count count time.Microsecond is = omega arith
no_count count time.Millisecond is = omega arith
no_count count time.Second is = omega arith

none_in : (n : ℕ) (u : TimeUnit) → HasNoSpan (most_in n u) → most_in n u ≡ 0
none_in n u none =
    let count : ℕ = min (n / unit_nanoseconds u) MAX_COUNT in
    elim (cases_lt 0 count) [
      | inl some ↦ absurd (none (record { count = count; unit = u }) some (omega arith) refl)
      | inr zero' ↦ let is : count ≡ 0 = omega arith in no_count count u is
    ]

-- what holds of both holds of the greater
of_max : (P : ℕ → Type 0) (a b : ℕ) → P a → P b → P (max a b)
of_max P a b x y = elim (cases_lt a b) [
  | inl lt ↦ let is : max a b ≡ b = omega arith in rw is y
  | inr ge ↦ let is : max a b ≡ a = omega arith in rw is x
]

pub none_within : (n : ℕ) → HasNoSpan (most_within n) → n ≡ 0
unfolding most_within
none_within n none =
    let P : ℕ → Type 0 = λ m. HasNoSpan m → m ≡ 0 in
    let all = of_max P (max (most_in n time.Nanosecond) (most_in n time.Microsecond)) (max (most_in n time.Millisecond) (most_in n time.Second))
    (of_max P (most_in n time.Nanosecond) (most_in n time.Microsecond) (none_in n time.Nanosecond) (none_in n time.Microsecond))
    (of_max P (most_in n time.Millisecond) (most_in n time.Second) (none_in n time.Millisecond) (none_in n time.Second)) in
    let zero' = all none in
    omega arith

-- the same of the span of that many
pub within_of : (n m : ℕ) (r : Option Span) → m ≡ most_within n → IfSome r (λ s. span_nanoseconds s ≡ m) → IfSome r (λ s. span_nanoseconds s ≤ n)
within_of n m None is h = tt
within_of n m (Some s) is h = omega (arith, is_within n)

pub longest_of : (n m : ℕ) (r : Option Span) → m ≡ most_within n → IfSome r (λ s. span_nanoseconds s ≡ m) → IfSome r (λ s. (t : Span) → t.count ≤ MAX_COUNT → span_nanoseconds t ≤ n → span_nanoseconds t ≤ span_nanoseconds s)
longest_of n m None is h = tt
longest_of n m (Some s) is h = λ t few le. omega (arith, is_longest n t few le)

pub none_of : (n m : ℕ) (r : Option Span) → m ≡ most_within n → IfNone r (HasNoSpan m) → IfNone r (n ≡ 0)
none_of n m (Some s) is h = tt
none_of n m None is h = none_within n (rw (← is) h)

-- ---- a span of at least so many

pub from_of : (n : ℕ) (o : Option Span) (r : Span) → r ≡ unwrap_or o longest_span → IfSome o (λ s. n ≤ span_nanoseconds s) → min n 4294967295000000000 ≤ span_nanoseconds r
from_of n None r is h = rw is (omega arith)
from_of n (Some s) r is h = rw is (omega arith)

pub some_of : (o : Option Span) (r : Span) → r ≡ unwrap_or o longest_span → IfSome o (λ s. 1 ≤ s.count) → 1 ≤ r.count
some_of None r is h = rw is (omega arith)
some_of (Some s) r is h = rw is h

pub count_covers : (n : ℕ) (u : TimeUnit) → n ≤ count_from n u * unit_nanoseconds u
count_covers n time.Nanosecond = omega arith
count_covers n time.Microsecond = omega arith
count_covers n time.Millisecond = omega arith
count_covers n time.Second = omega arith

-- ---- spans of few digits

no_count_from : (n : ℕ) (u : TimeUnit) → n ≡ 0 → count_from n u * unit_nanoseconds u ≡ 0
no_count_from n time.Nanosecond is = omega arith
no_count_from n time.Microsecond is = omega arith
no_count_from n time.Millisecond is = omega arith
no_count_from n time.Second is = omega arith

pub span_some : (s : Span) → 1 ≤ s.count → 1 ≤ span_nanoseconds s
span_some s some = by s.unit
  where
    by : (u : TimeUnit) → 1 ≤ s.count * unit_nanoseconds u
    by time.Nanosecond = omega arith
    by time.Microsecond = omega arith
    by time.Millisecond = omega arith
    by time.Second = omega arith

-- what holds of the unit that is taken holds if it holds of each where it may be taken
of_unit : (n : ℕ) (P : TimeUnit → Type 0) → (100000000000 ≤ n → P time.Second) → (100000000 ≤ n → P time.Millisecond) → (100000 ≤ n → P time.Microsecond) → P time.Nanosecond → P (unit_for n)
of_unit n P s ms us ns = elim (nat_le 100000000000 n) as (λ b. nat_le 100000000000 n ≡ b → P (cond b time.Second (cond (nat_le 100000000 n) time.Millisecond (cond (nat_le 100000 n) time.Microsecond time.Nanosecond)))) [
  | true ↦ λ e. s (leb-true _ _ e)
  | false ↦ λ _. elim (nat_le 100000000 n) as (λ b. nat_le 100000000 n ≡ b → P (cond b time.Millisecond (cond (nat_le 100000 n) time.Microsecond time.Nanosecond))) [
    | true ↦ λ e. ms (leb-true _ _ e)
    | false ↦ λ _. elim (nat_le 100000 n) as (λ b. nat_le 100000 n ≡ b → P (cond b time.Microsecond time.Nanosecond)) [ true ↦ λ e. us (leb-true _ _ e) | false ↦ λ _. ns ] refl
  ] refl
] refl

pub whole_near : (n : ℕ) → 1 ≤ n / unit_nanoseconds (unit_for n) * unit_nanoseconds (unit_for n) → 100 * n < 101 * (n / unit_nanoseconds (unit_for n) * unit_nanoseconds (unit_for n))
whole_near n = of_unit n (λ u. 1 ≤ n / unit_nanoseconds u * unit_nanoseconds u → 100 * n < 101 * (n / unit_nanoseconds u * unit_nanoseconds u)) (λ big some. omega arith) (λ big some. omega arith) (λ big some. omega arith) (λ some. omega arith)

pub from_near : (n : ℕ) → 1 ≤ n → 100 * (count_from n (unit_for n) * unit_nanoseconds (unit_for n)) < 101 * n
from_near n some = of_unit n (λ u. 100 * (count_from n u * unit_nanoseconds u) < 101 * n) (λ big. omega arith) (λ big. omega arith) (λ big. omega arith) (omega arith)

pub whole_within : (n : ℕ) (u : TimeUnit) → n / unit_nanoseconds u * unit_nanoseconds u ≤ n
whole_within n time.Nanosecond = omega arith
whole_within n time.Microsecond = omega arith
whole_within n time.Millisecond = omega arith
whole_within n time.Second = omega arith

-- the same of the spans of so many
pub near_within : (n m : ℕ) (r : Option Span) → m ≡ n / unit_nanoseconds (unit_for n) * unit_nanoseconds (unit_for n) → IfSome r (λ s. span_nanoseconds s ≡ m) → IfSome r (λ s. 1 ≤ s.count) → IfSome r (λ s. 100 * n < 101 * span_nanoseconds s)
near_within n m None is h some = tt
near_within n m (Some s) is h some =
    let positive = span_some s some in
    omega (arith, whole_near n (rw (← is) (omega arith)))

pub short_within_of : (n m : ℕ) (r : Option Span) → m ≡ n / unit_nanoseconds (unit_for n) * unit_nanoseconds (unit_for n) → IfSome r (λ s. span_nanoseconds s ≡ m) → IfSome r (λ s. span_nanoseconds s ≤ n)
short_within_of n m None is h = tt
short_within_of n m (Some s) is h = omega (arith, whole_within n (unit_for n))

pub short_from_of : (n m : ℕ) (r : Option Span) → m ≡ count_from n (unit_for n) * unit_nanoseconds (unit_for n) → IfSome r (λ s. span_nanoseconds s ≡ m) → IfSome r (λ s. n ≤ span_nanoseconds s)
short_from_of n m None is h = tt
short_from_of n m (Some s) is h = omega (arith, count_covers n (unit_for n))

pub near_from : (n m : ℕ) (r : Option Span) → m ≡ count_from n (unit_for n) * unit_nanoseconds (unit_for n) → IfSome r (λ s. span_nanoseconds s ≡ m) → IfSome r (λ s. 1 ≤ s.count) → IfSome r (λ s. 100 * span_nanoseconds s < 101 * n)
near_from n m None is h some = tt
near_from n m (Some s) is h some =
    let positive = span_some s some in
    elim (cases_lt 0 n) [
      | inl some' ↦ omega (arith, from_near n some')
      | inr none ↦ let zero' : n ≡ 0 = omega arith in absurd (omega (arith, no_count_from n (unit_for n) zero'))
    ]
