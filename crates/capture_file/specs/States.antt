-- what has become of an attempt
use Rattle.std.specs.Prelude.{ℕ, Bool, true, false}
pub use Rattle.capture_file.specs.declared.attempt.State.{State}
use Rattle.capture_file.specs.declared.attempt.State.TheVariants.{Waiting, InFlight, Completed, PutBack}

-- when it was started, and 0 if it waits
abbrev pub start_of : State → ℕ
start_of Waiting = 0
start_of (InFlight start) = start
start_of (Completed start end) = start
start_of (PutBack start end) = start

abbrev pub is_waiting : State → Bool
is_waiting Waiting = true
is_waiting (InFlight start) = false
is_waiting (Completed start end) = false
is_waiting (PutBack start end) = false

abbrev pub is_in_flight : State → Bool
is_in_flight Waiting = false
is_in_flight (InFlight start) = true
is_in_flight (Completed start end) = false
is_in_flight (PutBack start end) = false
