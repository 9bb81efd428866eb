use Rattle.std.proofs.Common.{◌≡◌, map, take, zip}
use Rattle.wait_causes.specs.Stays.{row_by}
use Rattle.wait_causes.proofs.listing.list_stays.Given as goal

abbrev pub invariant-loop-stay : goal.invariant-loop-stay
invariant-loop-stay l = l.rows.items ≡ map (row_by l.table.config l.table.events) (take l.stay (zip l.records l.best))
