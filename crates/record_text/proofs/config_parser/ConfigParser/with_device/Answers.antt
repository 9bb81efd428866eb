use Rattle.std.proofs.Common.{◌∙◌, sym}
use Rattle.record_text.proofs.ConfigLemmas.{device_refused, device_taken, none_where_ok}
use Rattle.record_text.proofs.ConfigLaws.{device_ordered}
use Rattle.record_text.proofs.config_parser.ConfigParser.with_device.Goals as goal

pub returns-in-Ok-clause-value : goal.returns-in-Ok-clause-value
returns-in-Ok-clause-value c = λ _.
    let none = none_where_ok _ _ _ c.add_device.ensures.answer c.in-Ok.is in
    device_taken c.args.self c.args.device c.device.result c.add_device.new.self (sym c.lacks_adapters.ensures ∙ c.if-lacks_adapters.false) c.requires.ordered c.device.ensures none c.in-Ok.ensures.ok

pub returns-in-Ok-clause-ordered : goal.returns-in-Ok-clause-ordered
returns-in-Ok-clause-ordered c =
    let none = none_where_ok _ _ _ c.add_device.ensures.answer c.in-Ok.is in
    device_ordered c.args.self c.args.device c.device.result c.add_device.new.self (sym c.lacks_adapters.ensures ∙ c.if-lacks_adapters.false) c.requires.place c.requires.ordered c.device.ensures none c.in-Ok.ensures.ok

pub returns-in-Err-clause-value : goal.returns-in-Err-clause-value
returns-in-Err-clause-value c = λ other.
    device_refused c.args.self c.args.device c.device.result _ c.in-Err.error (sym c.lacks_adapters.ensures ∙ c.if-lacks_adapters.false) c.requires.ordered c.device.ensures c.add_device.ensures.answer c.in-Err.is (λ e. other (let k = e in cc))
