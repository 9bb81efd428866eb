use Rattle.std.proofs.Common.{rules}
use Rattle.cam_path.specs.Paths.{Fits}
use Rattle.report_text.proofs.ReportLemmas.{path_behind}
use Rattle.report_text.proofs.report.push_path.Goals as goal

pub returns-clause-short : goal.returns-clause-short
returns-clause-short c =
    let fits : Fits c.of.result = record { bus = search rules; target = search rules; lun = search rules } in
    path_behind c.of.result c.args.text.now.items _ fits c.in_ok-write.ensures.written
