-- the adapters and links that never limit what is below them
use Rattle.std.specs.Prelude.{ℕ, ◌+◌, ◌-◌, ◌==◌, Bool, false, nat_lt, nat_le, min, if◌then◌else◌, List, [], filter, sum_by, Option, Some}
use Rattle.std.specs.List.{list_all, range_with_len}
use Rattle.std.specs.Option.{option_map, option_map_or}
use Rattle.round_net.specs.Instance.{Instance, adapter_resource, link_resource}
use Rattle.round_net.specs.declared.limits.TheConstants.{MAX_CAP}

-- the row right above that of a device is its adapter's, and above that of an adapter its link's, if it is on one
abbrev pub row_above : Instance → ℕ → Option ℕ
row_above net row =
    if nat_lt row net.devices then Some (adapter_resource net (net.adapter_of row))
    else option_map (link_resource net) (net.link_of (row - net.devices))

-- one row is right below another
unfoldable pub is_below : Instance → ℕ → ℕ → Bool
is_below net row part = option_map_or (λ above. above == row) (row_above net part) false

-- the rows right below one: of an adapter those of the devices on it, of a link those of the adapters on it; of a device none
abbrev pub rows_below : Instance → ℕ → List ℕ
rows_below net row = filter (is_below net row) (range_with_len 0 (net.devices + net.adapters))

-- what rows take together in a round, of which at most MAX_CAP counts
abbrev pub together : (ℕ → ℕ) → List ℕ → ℕ
together cap rows = min (sum_by cap rows) MAX_CAP

-- a row takes at least what those take together in a round
abbrev pub is_enough : Instance → List ℕ → ℕ → ℕ → Bool
is_enough net below row r = nat_le (together (λ part. net.cap part r) below) (net.cap row r)

-- so it does in each round, of those right below it
abbrev pub never_limits : Instance → ℕ → Bool
never_limits net row = list_all (is_enough net (rows_below net row) row) (range_with_len 1 net.rounds)

-- the rows right below one that never limits them; none if it ever does
unfoldable pub carried : Instance → ℕ → List ℕ
carried net row = if never_limits net row then rows_below net row else []
