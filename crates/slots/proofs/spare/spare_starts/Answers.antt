use Rattle.std.proofs.Common.{arith}
use Rattle.slots.proofs.SpareLemmas.{changes_in_rounds, spare_tally}
use Rattle.slots.proofs.spare.spare_starts.Goals as goal

pub tally_of-requires-clause-levels : goal.tally_of-requires-clause-levels
tally_of-requires-clause-levels c =
    let are = c.in_ok-changes.ensures.changes c.args.slots.now.slots in
    are.levels

pub tally_of-requires-clause-rounds : goal.tally_of-requires-clause-rounds
tally_of-requires-clause-rounds c =
    changes_in_rounds c.args.flights.now c.args.waits.now c.args.slots.now.slots _ _ c.args.rounds (c.in_ok-changes.ensures.changes c.args.slots.now.slots) c.requires.span c.requires.begin c.requires.rounds

pub returns-clause-rows : goal.returns-clause-rows
returns-clause-rows c = λ round within.
    let is = spare_tally c.args.flights.now c.args.waits.now c.args.slots.now.slots _ _ _ _ (c.in_ok-changes.ensures.changes c.args.slots.now.slots) c.in_ok-tally.ensures.tally in
    is.rows.each round (omega (arith, within, c.in_ok-tally.ensures.size))

pub returns-clause-total : goal.returns-clause-total
returns-clause-total c =
    let is = spare_tally c.args.flights.now c.args.waits.now c.args.slots.now.slots _ _ _ _ (c.in_ok-changes.ensures.changes c.args.slots.now.slots) c.in_ok-tally.ensures.tally in
    is.all
