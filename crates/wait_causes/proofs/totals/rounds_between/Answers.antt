use Rattle.std.proofs.Common.{◌∙◌}
use Rattle.wait_causes.specs.Stays.{rounds_by}
use Rattle.wait_causes.proofs.TotalsLemmas.{rounds_found, none_between}
use Rattle.wait_causes.proofs.totals.rounds_between.Goals as goal

pub returns-then-live-arrival : goal.returns-then-live-arrival
returns-then-live-arrival c = λ f are. c.none.ensures ∙ none_between rounds_by f c.args.arrival c.args.live c.if-live-arrival.true

pub returns : goal.returns
returns c = λ f are. c.since.ensures ∙ rounds_found f c.args.totals.now c.args.arrival c.args.live _ _ c.requires.first c.if-live-arrival.false c.requires.last are
