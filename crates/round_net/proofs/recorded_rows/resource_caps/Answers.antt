use Rattle.std.proofs.Common.{◌≡◌, ◌∙◌, ◌+◌, ◌/◌, ◌%◌, arith}
use Rattle.recording_file.specs.Caps.{cap_in}
use Rattle.recording_file.specs.Room.{Holds}
use Rattle.recording_file.proofs.PlacingLemmas.{head_config}
use Rattle.round_net.specs.RecordedNets.{recorded_cap}
use Rattle.round_net.proofs.RecordedLemmas.{cells_none, cells_more, few_cells}
use Rattle.round_net.proofs.recorded_rows.resource_caps.Goals as goal

pub overflow_mul-cells : goal.overflow_mul-cells
overflow_mul-cells c =
    let kept = c.config-config.ensures.kept in
    let few = few_cells c.args.recording.now.config c.args.recording.now.rounds (head_config c.args.recording.now kept.head) (let most = kept.head.rounds in omega arith) in
    rw (c.resource_count.ensures, c.config-config.ensures.same, c.rounds-rounds.ensures.same) (omega (arith, few))

pub loop-at-init : goal.loop-at-init
loop-at-init c = cells_none c.rounds-rounds.result (recorded_cap c.args.recording.now) c.in_ok-caps.caps.items c.in_ok-caps.ensures.items

pub loop-at-preserved : goal.loop-at-preserved
unfolding recorded_cap
loop-at-preserved c =
    let r = c.args.recording.now in
    let held : Holds c.rounds-rounds.result (cap_in c.config-config.result.now r.caps) c.deref.result.now = rw (c.rounds-rounds.ensures.same, c.config-config.ensures.same, c.deref.ensures.value) c.in_ok-taken.ensures in
    let here : c.resource_cap.result ≡ recorded_cap r (c.loop-at.at / c.rounds-rounds.result) (c.loop-at.at % c.rounds-rounds.result + 1) = rw c.config-config.ensures.same at (c.resource_cap.ensures r.caps held) in
    c.in_ok-push.ensures.items ∙ cells_more c.rounds-rounds.result (recorded_cap r) c.loop-at.caps.items c.loop-at.at c.resource_cap.result c.loop-at.invariant here
