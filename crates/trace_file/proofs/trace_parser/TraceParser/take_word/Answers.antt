use Rattle.std.proofs.Common.{refl}
use Rattle.trace_file.specs.declared.word.TraceWord.TheVariants as word
use Rattle.trace_file.proofs.ParserLemmas.{may_take}
use Rattle.trace_file.proofs.trace_parser.TraceParser.take_word.Goals as goal

pub add_row-requires-clause-place : goal.add_row-requires-clause-place
add_row-requires-clause-place c = may_take c.args.self word.Weight _ (rw c.in-Weight.is at c.requires.place) refl

pub add_row-requires-in-Link-clause-place : goal.add_row-requires-in-Link-clause-place
add_row-requires-in-Link-clause-place c = may_take c.args.self word.Link _ (rw c.in-Link.is at c.requires.place) refl

pub add_row-requires-in-Sim-clause-place : goal.add_row-requires-in-Sim-clause-place
add_row-requires-in-Sim-clause-place c = may_take c.args.self word.Sim _ (rw c.in-Sim.is at c.requires.place) refl

pub add_row-requires-in-Dev-clause-place : goal.add_row-requires-in-Dev-clause-place
add_row-requires-in-Dev-clause-place c = may_take c.args.self word.Dev _ (rw c.in-Dev.is at c.requires.place) refl

pub add_row-requires-in-Lane-clause-place : goal.add_row-requires-in-Lane-clause-place
add_row-requires-in-Lane-clause-place c = may_take c.args.self word.Lane _ (rw c.in-Lane.is at c.requires.place) refl
