use Rattle.std.proofs.Common.{◌≡◌, ◌∙◌, ap}
use Rattle.trace_file.specs.Records.{least_version}
use Rattle.trace_file.proofs.WholeLaws.{least_held}
use Rattle.trace_file.proofs.trace_text.write_trace.Goals as goal

pub write_in-requires-clause-held : goal.write_in-requires-clause-held
write_in-requires-clause-held g c =
    let t = c.args.history.now.config in
    let least : c.least.result ≡ least_version t = c.least.ensures ∙ ap least_version c.config.ensures in
    rw least (least_held t)
