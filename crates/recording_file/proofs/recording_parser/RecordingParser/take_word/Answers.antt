use Rattle.csv.specs.Records.{fields_of}
use Rattle.record_text.proofs.RecordLemmas.{took_ok}
use Rattle.recording_file.proofs.ParserReady.{parsed_ready}
use Rattle.recording_file.proofs.recording_parser.RecordingParser.take_word.Goals as goal

pub apply_parsed-requires-clause-at : goal.apply_parsed-requires-clause-at
apply_parsed-requires-clause-at c = (parsed_ready c.args.number c.args.self c.args.word (fields_of c.args.row.now) c.in-Ok.parsed c.requires.sound c.requires.at c.requires.eight (took_ok _ _ _ _ c.parsed.ensures c.in-Ok.is)).0

pub apply_parsed-requires-clause-fits : goal.apply_parsed-requires-clause-fits
apply_parsed-requires-clause-fits c = (parsed_ready c.args.number c.args.self c.args.word (fields_of c.args.row.now) c.in-Ok.parsed c.requires.sound c.requires.at c.requires.eight (took_ok _ _ _ _ c.parsed.ensures c.in-Ok.is)).1
