use Rattle.std.proofs.Common.{arith}
use Rattle.round_net.specs.PriceRows.{pricing_of_rows}
use Rattle.round_net.specs.Rows.{cell}
use Rattle.round_net.proofs.CellLemmas.{price_in}
use Rattle.cost_plan.proofs.by_weight.checked_plan.Goals as goal

pub returns-in-Proved-clause-small : goal.returns-in-Proved-clause-small
unfolding pricing_of_rows
returns-in-Proved-clause-small c = λ resource round here first last.
    let size = c.requires.cells in
    let is = c.cells.ensures.priced in
    let p = c.args.prices in
    let within = price_in p resource round is (omega (arith, here, size.devices, size.adapters, size.links)) first (omega (arith, last, size.rounds)) in
    let small = is.small (cell p.rounds resource round) 0 within in
    omega (arith, small, size.max_price)
