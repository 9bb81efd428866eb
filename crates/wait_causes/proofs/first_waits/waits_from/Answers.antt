use Rattle.std.proofs.Common.{◌-◌, arith}
use Rattle.wait_causes.proofs.FirstWaitsLemmas.{waits_counted, none_counted}
use Rattle.wait_causes.proofs.first_waits.waits_from.Goals as goal

pub returns-then-live-first : goal.returns-then-live-first
returns-then-live-first c = λ f each. none_counted f c.args.first c.args.live (omega (arith, c.if-live-first.true))

pub returns : goal.returns
returns c = λ f each.
    let first = c.args.first in
    let live = c.args.live in
    let counted = waits_counted f first live c.requires.first (omega (arith, c.if-live-first.false)) in
    let end = each (live - 2) (omega (arith, c.if-live-first.false, c.requires.first, c.requires.last)) in
    let begin = each (first - 1) (omega (arith, c.if-live-first.false, c.requires.first, c.requires.last)) in
    omega (arith, counted, end, begin, c.from.ensures, c.saturating_sub-changed.ensures, c.number_at.ensures, c.number_at-before.ensures)
