use Rattle.trace_file.proofs.ParserLemmas.{is_legal-nil}
use Rattle.trace_file.proofs.parser_items.without_events.Goals as goal

pub returns-in-Ok-clause-kept : goal.returns-in-Ok-clause-kept
returns-in-Ok-clause-kept c = rw c.in-Ok.ensures record { config = c.in_ok-configured.ensures.kept.kept; legal = is_legal-nil _ }
