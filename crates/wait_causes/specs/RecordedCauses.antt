-- why the stays of a recording waited
use Rattle.std.specs.Prelude.{ℕ, ◌==◌, Bool, if◌then◌else◌}
use Rattle.std.specs.List.{list_any}
use Rattle.round_net.specs.Instance.{Instance, adapter_resource, link_rows}
use Rattle.round_net.specs.Schedules.{load}
use Rattle.wait_causes.specs.Words.{WaitCause, DeviceStopped, AdapterStopped, LinkStopped, DeviceFull, AdapterFull, LinkFull, NotAsked}

-- a row takes nothing in a round
abbrev pub is_stopped : Instance → ℕ → ℕ → Bool
is_stopped net r row = net.cap row r == 0

-- as many of a row's were sent in a round as it takes
abbrev pub is_used_up : Instance → (ℕ → ℕ) → ℕ → ℕ → Bool
is_used_up net live r row = load net live row r == net.cap row r

-- what held up the stays of a device in a round: the first that holds
unfoldable pub recorded_cause : Instance → (ℕ → ℕ) → ℕ → ℕ → WaitCause
recorded_cause net live d r =
    let adapter = net.adapter_of d in
    if is_stopped net r d then DeviceStopped
    else if is_stopped net r (adapter_resource net adapter) then AdapterStopped
    else if list_any (is_stopped net r) (link_rows net adapter) then LinkStopped
    else if is_used_up net live r d then DeviceFull
    else if is_used_up net live r (adapter_resource net adapter) then AdapterFull
    else if list_any (is_used_up net live r) (link_rows net adapter) then LinkFull
    else NotAsked
