use Rattle.std.proofs.Common.{◌∙◌, ap}
use Rattle.round_net.specs.Rows.{NetRows, instance_of_rows}
use Rattle.conversions.proofs.NetLemmas.{net_rows, net_rounds, net_cap}
use Rattle.conversions.proofs.runs.cap.Goals as goal

pub cap-requires-clause-row : goal.cap-requires-clause-row
cap-requires-clause-row c = rw (c.requires.net, net_rows c.args.history.now.config c.args.history.now.events) c.requires.row

pub cap-requires-clause-last : goal.cap-requires-clause-last
cap-requires-clause-last c = rw (c.requires.net, net_rounds c.args.history.now.config c.args.history.now.events) c.requires.last

pub returns-clause-same : goal.returns-clause-same
returns-clause-same c =
    let h = c.args.history.now in
    c.cap.ensures.same ∙ ap (λ (n : NetRows). (instance_of_rows n).cap c.args.row c.args.at) c.requires.net ∙ net_cap h.config h.events c.args.row c.args.at c.requires.row c.requires.first c.requires.last
