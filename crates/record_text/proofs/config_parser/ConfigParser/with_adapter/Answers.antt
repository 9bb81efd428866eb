use Rattle.std.proofs.Common.{◌∙◌, sym}
use Rattle.record_text.proofs.ConfigLemmas.{none_where_ok}
use Rattle.record_text.proofs.ConfigLaws.{adapter_ordered}
use Rattle.record_text.proofs.config_parser.ConfigParser.with_adapter.Goals as goal

pub returns-clause-ordered : goal.returns-clause-ordered
returns-clause-ordered c =
    let none = none_where_ok _ _ _ c.add_adapter.ensures.answer c.in_ok-add_adapter.was in
    adapter_ordered c.args.self c.args.adapter c.add_adapter.new.self (sym c.reaches_last.ensures ∙ c.if-not-reaches_last.false) c.requires.place c.requires.ordered none c.in_ok-add_adapter.ensures.ok
