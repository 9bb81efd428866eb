-- What each parser of reading keeps.
use Rattle.std.specs.Prelude.{◌≡◌, ◌≤◌, ⊤, true, length, None, sum_by}
use Rattle.record_text.specs.ConfigParsing.{next_rank, row_rank, IsOrdered}
use Rattle.record_text.specs.declared.config_row.ConfigRow.{ConfigRow}
use Rattle.trace_file.specs.Histories.{Past, config_fault, is_legal}
use Rattle.trace_file.specs.ScriptReading.{is_configuring, ScriptParser}
use Rattle.trace_file.specs.declared.script_parser.ScriptParser.TheVariants as script
use Rattle.trace_file.specs.Reading.{TraceParser}
use Rattle.trace_file.specs.declared.trace_parser.TraceParser.TheVariants as parser

-- a configuration within its rules, and legal events
pub record IsKept (p : Past) : Type 0 where
  pub config : config_fault p.config ≡ None
  pub legal : is_legal p.config p.events ≡ true

-- what holds at a parser
unfoldable pub IsSound : TraceParser → Type 0
IsSound parser.Header = ⊤
IsSound (parser.Config v c) = IsOrdered c
IsSound (parser.Events p) = IsKept p

-- a row of the configuration may come next
abbrev pub MayTake : TraceParser → ConfigRow → Type 0
MayTake (parser.Config v c) r = next_rank c ≤ row_rank r
MayTake s r = ⊤

-- what holds at a parser of a script, which counts the steps of all drivers and the answers of all lanes
unfoldable pub IsSoundScript : ScriptParser → Type 0
IsSoundScript script.Header = ⊤
IsSoundScript (script.First v) = ⊤
IsSoundScript (script.Config given t) = IsSound t × (is_configuring t ≡ true)
IsSoundScript (script.Rows s steps answers) = (steps ≡ sum_by length s.drivers) × (answers ≡ sum_by length s.answers)
