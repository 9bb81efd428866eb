-- spans of a number of nanoseconds
use Rattle.std.proofs.Common.{◌≡◌, ◌≢◌, ℕ, ◌*◌, ◌/◌, ◌≤◌, Option, Some, None, refl, sym, ◌∙◌, arith}
use Rattle.std.specs.Option.{option_or, IfSome, IfNone}
use Rattle.std.proofs.lemmas.Bool.{eq-eqb, lt-ltb, le-leb}
use Rattle.std.proofs.lemmas.Option.{none-some}
use Rattle.recording_file.specs.declared.span.TimeUnit.{TimeUnit}
use Rattle.recording_file.specs.declared.span.TimeUnit.TheVariants as time
use Rattle.capture.specs.Rounds.{Span, unit_nanoseconds, span_nanoseconds, span_in, span_of}

-- what holds of the value of each of two holds of that of the first that has one
pub or_holds : {X : Type 0} (P : X → Type 0) (r a b : Option X) → r ≡ option_or a b → IfSome a P → IfSome b P → IfSome r P
or_holds P r None b is here next = rw is next
or_holds P r (Some x) b is here next = rw is here

-- the first of four that has a value
or_row : {X : Type 0} (a b c d : Option X) → option_or (option_or (option_or a b) c) d ≡ option_or a (option_or b (option_or c d))
or_row None None c d = refl
or_row None (Some x) c d = refl
or_row (Some x) b c d = refl

pub first_unit : (n : ℕ) (r : Option Span) → r ≡ option_or (option_or (option_or (span_in n time.Second) (span_in n time.Millisecond)) (span_in n time.Microsecond)) (span_in n time.Nanosecond) → r ≡ span_of n
unfolding span_of
first_unit n r is = is ∙ or_row (span_in n time.Second) (span_in n time.Millisecond) (span_in n time.Microsecond) (span_in n time.Nanosecond)

-- where none of two has a value, the first has none, and the second has none
or_first : {X : Type 0} (a b : Option X) → option_or a b ≡ None → a ≡ None
or_first None b none = refl
or_first (Some x) b none = none

or_second : {X : Type 0} (a b : Option X) → option_or a b ≡ None → b ≡ None
or_second None b none = none
or_second (Some x) b none = absurd (none-some x (sym none))

-- where no unit has it, each has none
no_unit : (n : ℕ) → span_of n ≡ None → (u : TimeUnit) → span_in n u ≡ None
unfolding span_of
no_unit n none time.Second = or_first _ _ none
no_unit n none time.Millisecond = or_first _ _ (or_second (span_in n time.Second) _ none)
no_unit n none time.Microsecond = or_first _ _ (or_second (span_in n time.Millisecond) _ (or_second (span_in n time.Second) _ none))
no_unit n none time.Nanosecond = or_second (span_in n time.Microsecond) _ (or_second (span_in n time.Millisecond) _ (or_second (span_in n time.Second) _ none))

-- a whole number of a unit, divided by it
whole : (n count : ℕ) (u : TimeUnit) → count * unit_nanoseconds u ≡ n → n / unit_nanoseconds u ≡ count
whole n count time.Nanosecond is = omega (arith, is)
whole n count time.Microsecond is = omega (arith, is)
whole n count time.Millisecond is = omega (arith, is)
whole n count time.Second is = omega (arith, is)

in_unit : (n : ℕ) (s : Span) → 1 ≤ s.count → s.count ≤ 4294967295 → span_nanoseconds s ≡ n → span_in n s.unit ≡ Some s
unfolding span_in
in_unit n s some few is = rw (whole n s.count s.unit is, eq-eqb (s.count * unit_nanoseconds s.unit) n is, lt-ltb 0 s.count some, le-leb s.count 4294967295 few) refl

-- where there is no span, none has that many nanoseconds
pub no_span : (n : ℕ) (r : Option Span) → r ≡ span_of n → IfNone r ((s : Span) → 1 ≤ s.count → s.count ≤ 4294967295 → span_nanoseconds s ≢ n)
no_span n (Some s) is = tt
no_span n None is = λ s some few same. none-some s (sym (no_unit n (sym is) s.unit) ∙ in_unit n s some few same)
