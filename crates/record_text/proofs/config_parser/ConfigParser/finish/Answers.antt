use Rattle.record_text.proofs.ConfigLemmas.{finished_law}
use Rattle.record_text.proofs.config_parser.ConfigParser.finish.Goals as goal

pub returns-clause-value : goal.returns-clause-value
returns-clause-value c = finished_law c.args.self c.finish.result c.requires c.finish.ensures
