-- what each row of a net sent in each round, and the least weight of it
use Rattle.std.specs.List.{list_any}
use Rattle.std.specs.Prelude.{◌≡◌, ℕ, zero, suc, ◌+◌, ◌*◌, ◌==◌, ◌<◌, ◌≤◌, Bool, false, ◌&&◌, if◌then◌else◌, min, List, length, slice_get, Option, Some, None}
use Rattle.round_net.specs.Instance.{Instance, rows, uses}
use Rattle.round_net.specs.Rows.{cell}
pub use Rattle.wait_causes.specs.declared.sends.Sends.{Sends}

abbrev pub no_sends : Sends
no_sends = record { count = 0; least = None }

-- the lesser of two weights, of which one may be missing
abbrev pub lesser : Option ℕ → ℕ → ℕ
lesser None w = w
lesser (Some v) w = min v w

-- one more
abbrev pub with_send : Sends → ℕ → Sends
with_send s w = record { count = s.count + 1; least = Some (lesser s.least w) }

-- those of the first n stays that pass a test
abbrev pub sends_by : (ℕ → ℕ) → (ℕ → Bool) → ℕ → Sends
sends_by weight test zero = no_sends
sends_by weight test (suc n) = if test n then with_send (sends_by weight test n) (weight n) else sends_by weight test n

-- those of the first n stays that a row sent in a round
abbrev pub sends_in : Instance → (ℕ → ℕ) → ℕ → ℕ → ℕ → Sends
sends_in net live n row r = sends_by net.weight (λ s. uses net row s && (live s == r)) n

-- the list has them for each row in each round
pub record AreSends (net : Instance) (live : ℕ → ℕ) (n : ℕ) (sends : List Sends) : Type 0 where
  pub cells : length sends ≡ rows net * net.rounds
  pub each : (row r : ℕ) → row < rows net → 1 ≤ r → r ≤ net.rounds → slice_get sends (cell net.rounds row r) ≡ Some (sends_in net live n row r)

-- a stay more, in some rows alone
abbrev pub sends_with : Instance → (ℕ → ℕ) → ℕ → List ℕ → ℕ → ℕ → Sends
sends_with net live s own row r =
    if list_any (λ x. x == row) own && (live s == r) then with_send (sends_in net live s row r) (net.weight s) else sends_in net live s row r

pub record AreNoted (net : Instance) (live : ℕ → ℕ) (s : ℕ) (own : List ℕ) (sends : List Sends) : Type 0 where
  pub cells : length sends ≡ rows net * net.rounds
  pub each : (row r : ℕ) → row < rows net → 1 ≤ r → r ≤ net.rounds → slice_get sends (cell net.rounds row r) ≡ Some (sends_with net live s own row r)

-- none of these rows is this one
abbrev pub IsNew : List ℕ → ℕ → Type 0
IsNew own row = list_any (λ x. x == row) own ≡ false
