use Rattle.std.proofs.Common.{slice_index}
use Rattle.std.proofs.lemmas.Result.{IfOk-weaker}
use Rattle.round_net.specs.Rows.{instance_of_rows, live_of_rows}
use Rattle.round_net.proofs.LoadListLemmas.{loads_same}
use Rattle.what_if.proofs.rounds.sent.Goals as goal

pub returns : goal.returns
returns c =
    let net = instance_of_rows c.args.net.now in
    IfOk-weaker c.load_list.result _ _ (λ counts are. loads_same net (slice_index c.deref.result.now) (live_of_rows c.args.net.now) counts.items (rw (← c.deref.ensures.value) at c.in_ok-live_rounds.ensures.each) are) c.load_list.ensures
