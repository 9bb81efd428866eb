use Rattle.std.proofs.Common.{◌∙◌}
use Rattle.wait_causes.specs.Behind.{behind_by}
use Rattle.wait_causes.proofs.TotalsLemmas.{behind_found, none_between}
use Rattle.wait_causes.proofs.totals.behind_between.Goals as goal

pub returns-then-live-arrival : goal.returns-then-live-arrival
returns-then-live-arrival c = λ f are. c.none.ensures ∙ none_between behind_by f c.args.arrival c.args.live c.if-live-arrival.true

pub returns : goal.returns
returns c = λ f are. c.since.ensures ∙ behind_found f c.args.totals.now c.args.arrival c.args.live _ _ c.requires.first c.if-live-arrival.false c.requires.last are
