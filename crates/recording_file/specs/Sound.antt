-- What each parser of reading keeps.
use Rattle.std.specs.Prelude.{◌≤◌, ⊤, IfSome}
use Rattle.record_text.specs.ConfigParsing.{next_rank, row_rank, IsOrdered}
use Rattle.record_text.specs.declared.config_row.ConfigRow.{ConfigRow}
use Rattle.recording_file.specs.Recorded.{Span, IsKept, MAX_RECORDED_ROUNDS}
use Rattle.recording_file.specs.Reading.{RecordingParser, Start}
use Rattle.recording_file.specs.declared.recording_parser.RecordingParser.TheVariants as parser

pub record IsStart (start : Start) : Type 0 where
  pub unit : IfSome start.unit (λ (u : Span). 1 ≤ u.count)
  pub some : 1 ≤ start.rounds
  pub rounds : start.rounds ≤ MAX_RECORDED_ROUNDS

-- what holds at a parser: a configuration has no lane
unfoldable pub IsSound : RecordingParser → Type 0
IsSound (parser.Timed v u) = 1 ≤ u.count
IsSound (parser.Config start c) = IsStart start × IsOrdered c × (c.rank ≤ 3)
IsSound (parser.Book r) = IsKept r
IsSound _ = ⊤

-- a row of the configuration may come next, which is none of a lane
abbrev pub MayTake : RecordingParser → ConfigRow → Type 0
MayTake (parser.Config start c) r = (next_rank c ≤ row_rank r) × (row_rank r ≤ 3)
MayTake s r = ⊤
