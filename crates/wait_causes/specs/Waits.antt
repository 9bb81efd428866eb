-- the waits of a stay: runs of rounds with one cause
use Rattle.std.specs.Prelude.{◌≡◌, ℕ, ◌+◌, ◌-◌, Bool, true, not, ◌&&◌, List, [], ◌∷◌, ◌++◌, map, flat_map, nat_le}
use Rattle.std.specs.List.{range_with_len, list_all}
use Rattle.wait_causes.specs.Words.{is_cause, WaitCause}
use Rattle.wait_causes.specs.Origins.{Origin, cause_of}
use Rattle.wait_causes.specs.Stays.{ExplainedStay}
pub use Rattle.wait_causes.specs.declared.wait.Wait.{Wait}

-- a round with its cause
abbrev pub beside : (ℕ → WaitCause) → ℕ → ℕ × WaitCause
beside cause r = (r, cause r)

-- the rounds of a wait, each with its cause
abbrev pub rounds_of : Wait → List (ℕ × WaitCause)
rounds_of w = map (beside (λ r. w.cause)) (range_with_len w.first (w.last + 1 - w.first))

-- no cause stands beside itself
abbrev pub are_apart : List WaitCause → Bool
are_apart [] = true
are_apart (x ∷ []) = true
are_apart (x ∷ y ∷ ys) = not (is_cause x y) && are_apart (y ∷ ys)

-- Round by round, the waits are these rounds, each with its cause. Each wait has a round, and none goes on in the next.
pub record AreWaits (cause : ℕ → WaitCause) (rounds : List ℕ) (waits : List Wait) : Type 0 where
  pub written_out : flat_map rounds_of waits ≡ map (beside cause) rounds
  pub each_some : list_all (λ (w : Wait). nat_le w.first w.last) waits ≡ true
  pub apart : are_apart (map (λ (w : Wait). w.cause) waits) ≡ true

-- the waits of a stay
abbrev pub AreWaitsOf : Origin → ExplainedStay → List Wait → Type 0
AreWaitsOf o s waits = AreWaits (cause_of o s.device) (range_with_len s.arrival (s.live - s.arrival)) waits

-- with one wait more they are those of that many rounds from the first on, and that one ends with them
pub record AreBegun (cause : ℕ → WaitCause) (first n : ℕ) (waits : List Wait) (wait : Wait) : Type 0 where
  pub are : AreWaits cause (range_with_len first n) (waits ++ wait ∷ [])
  pub ends : wait.last + 1 ≡ first + n
