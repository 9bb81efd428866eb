use Rattle.std.proofs.Common.{◌∙◌, ap, max}
use Rattle.capture.specs.Lengths.{starts_on}
use Rattle.capture.proofs.LengthLemmas.{most_of_range}
use Rattle.capture.proofs.lengths.max_starts.Goals as goal

pub loop-device-preserved : goal.loop-device-preserved
loop-device-preserved c = c.max-most.ensures ∙ ap (λ n. max c.loop-device.most n) c.starts_on.ensures ∙ most_of_range (starts_on c.args.requests.now) c.loop-device.device c.loop-device.most c.loop-device.invariant
