use Rattle.trace_file.proofs.WholeLaws.{one_past, one_version}
use Rattle.trace_file.proofs.reading.one_history.Goals as goal

pub returns-clause-one : goal.returns-clause-one
returns-clause-one c = one_past

pub returns-clause-versions : goal.returns-clause-versions
returns-clause-versions c = one_version
