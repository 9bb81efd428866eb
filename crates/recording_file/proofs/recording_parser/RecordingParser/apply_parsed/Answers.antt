use Rattle.std.proofs.Common.{refl, arith}
use Rattle.recording_file.specs.declared.word.RecordingWord.TheVariants as word
use Rattle.recording_file.proofs.ParserLemmas.{may_take}
use Rattle.recording_file.proofs.recording_parser.RecordingParser.apply_parsed.Goals as goal

pub add_row-requires-clause-place : goal.add_row-requires-clause-place
add_row-requires-clause-place c = may_take c.args.self word.Weight _ (rw c.in-Weight.is at c.requires.at) refl (omega arith)

pub add_row-requires-in-Link-clause-place : goal.add_row-requires-in-Link-clause-place
add_row-requires-in-Link-clause-place c = may_take c.args.self word.Link _ (rw c.in-Link.is at c.requires.at) refl (omega arith)

pub add_row-requires-in-Sim-clause-place : goal.add_row-requires-in-Sim-clause-place
add_row-requires-in-Sim-clause-place c = may_take c.args.self word.Sim _ (rw c.in-Sim.is at c.requires.at) refl (omega arith)

pub add_row-requires-in-Dev-clause-place : goal.add_row-requires-in-Dev-clause-place
add_row-requires-in-Dev-clause-place c = may_take c.args.self word.Dev _ (rw c.in-Dev.is at c.requires.at) refl (omega arith)
