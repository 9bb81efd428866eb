use Rattle.trace_file.proofs.ParserLemmas.{sound_event}
use Rattle.trace_file.proofs.parser_items.with_event.Goals as goal

pub returns-in-Ok-clause-sound : goal.returns-in-Ok-clause-sound
returns-in-Ok-clause-sound c =
    sound_event c.args.history c.push.new.self c.args.event c.requires.kept c.in-Ok.ensures.legal c.in-Ok.ensures.ok
