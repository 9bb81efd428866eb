-- what changed most
use Rattle.std.specs.Prelude.{◌≡◌, ℕ, ◌+◌, ◌-◌, ◌≤◌, ◌<◌, if◌then◌else◌, nat_lt, List, Option, Some, None, All, Contains}
use Rattle.wait_causes.specs.declared.table.Row.{Row}
use Rattle.wait_causes.specs.Pairs.{PairedRow}

-- the weighted rounds of a row, and 0 of none
abbrev pub live_of : Option Row → ℕ
live_of None = 0
live_of (Some r) = r.part.live

-- by how much they changed, to less or to more
abbrev pub change : PairedRow → ℕ
change r = (live_of r.after - live_of r.before) + (live_of r.before - live_of r.after)

abbrev pub change_of : Option PairedRow → ℕ
change_of None = 0
change_of (Some r) = change r

-- the one that changed more: the first, if the second didn't
abbrev pub more_changed : Option PairedRow → PairedRow → Option PairedRow
more_changed m r = if nat_lt (change_of m) (change r) then Some r else m

-- no row changed; or this is one of them that did, and none changed more
abbrev pub IsMostChanged : List PairedRow → Option PairedRow → Type 0
IsMostChanged rows None = All (λ r. change r ≡ 0) rows
IsMostChanged rows (Some m) = Contains rows m × (0 < change m) × All (λ r. change r ≤ change m) rows
