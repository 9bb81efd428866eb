-- what is started and waits in rounds
use Rattle.std.specs.Prelude.{◌≡◌, ℕ, ◌+◌, ◌<◌, ◌≤◌, ◌==◌, Bool, nat_lt, nat_le, ◌&&◌, List, length, count_by, get_or, slice_index, Vec}
use Rattle.std.specs.Global.{Global}
use Rattle.recording_file.specs.declared.request.Request.{Request}
use Rattle.capture.specs.declared.device_rounds.DeviceRows.{DeviceRows}

-- how many of a device's requests arrived in a round, and how many were started in it
abbrev pub arrivals_in : List Request → ℕ → ℕ → ℕ
arrivals_in qs device round = count_by (λ (q : Request). (q.device == device) && (q.arrival == round)) qs

abbrev pub sends_in : List Request → ℕ → ℕ → ℕ
sends_in qs device round = count_by (λ (q : Request). (q.device == device) && (q.sent == round)) qs

-- how many of a device's requests wait at the end of a round
abbrev pub waiting : List Request → ℕ → ℕ → ℕ
waiting qs device round = count_by (λ (q : Request). (q.device == device) && (nat_le q.arrival round && nat_lt round q.sent)) qs

-- a device is pressed in a round if one waits at its end
abbrev pub is_pressed : List Request → ℕ → ℕ → Bool
is_pressed qs device round = nat_lt 0 (waiting qs device round)

-- a number for each round, from round 0 up to the last one
pub record IsRow (number : ℕ → ℕ) (rounds : ℕ) (row : List ℕ) : Type 0 where
  pub size : length row ≡ rounds + 1
  pub each : (round : ℕ) → round ≤ rounds → slice_index row round ≡ number round

-- each of so many devices has its row
pub record AreRows (number : ℕ → ℕ → ℕ) (devices rounds : ℕ) (rows : List (Vec ℕ Global)) : Type 0 where
  pub all : length rows ≡ devices
  pub each : (d : ℕ) (x : Vec ℕ Global) → d < devices → IsRow (number d) rounds (get_or rows d x).items

pub record AreDeviceRows (qs : List Request) (devices rounds : ℕ) (rows : DeviceRows) : Type 0 where
  pub arrivals : AreRows (arrivals_in qs) devices rounds rows.arrivals.items
  pub sends : AreRows (sends_in qs) devices rounds rows.sends.items
