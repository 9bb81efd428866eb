-- What a record does to a parser of a recording.
use Rattle.std.proofs.Common.{◌≡◌, ◌≢◌, ◌≤◌, ◌+◌, ℕ, true, false, refl, arith, nat_le}
use Rattle.std.proofs.lemmas.Bool.{and_parts, leb-true}
use Rattle.record_text.specs.ConfigParsing.{lacks_adapters, next_rank, row_rank, IsOrdered}
use Rattle.record_text.specs.declared.config_parser.ConfigParser.{ConfigParser}
use Rattle.record_text.specs.declared.config_row.ConfigRow.{ConfigRow}
use Rattle.record_text.specs.Text.{Row}
use Rattle.record_text.proofs.ConfigLaws.{config_whole}
use Rattle.recording_file.specs.Recorded.{IsKept}
use Rattle.recording_file.specs.Reading.{begun, row_step, stands, step, RecordingParser, Start}
use Rattle.recording_file.specs.declared.recording_parser.RecordingParser.TheVariants as parser
use Rattle.recording_file.specs.Words.{word_rank, RecordingWord}
use Rattle.recording_file.specs.Sound.{IsStart, MayTake}

-- a configuration with an adapter is whole
pub kept_begun : (start : Start) (c : ConfigParser) → IsStart start → IsOrdered c → c.rank ≤ 3 → lacks_adapters c ≡ false → IsKept (begun start c.partial)
kept_begun start c head h few came =
    record {
      head = record { unit = head.unit; some = head.some; rounds = head.rounds; config = config_whole c h came; lanes = h.lanes (omega arith); names = refl; caps = refl };
      requests = refl;
      few = omega arith;
      done = tt;
    }

-- where a word stands, a row of its rank may come next
pub may_take : (s : RecordingParser) (w : RecordingWord) (r : ConfigRow) → stands s w ≡ true → word_rank w ≡ 2 + row_rank r → row_rank r ≤ 3 → MayTake s r
unfolding stands
may_take (parser.Config start c) w r place same few =
    let k = leb-true _ _ (and_parts (nat_le (2 + next_rank c) (word_rank w)) true place).0 in
    (omega arith, few)
may_take _ w r place same few = tt

pub step_after_header : (n : ℕ) (s : RecordingParser) (row : Row) → s ≢ parser.Header → step n s row ≡ row_step n s row
unfolding step
step_after_header n parser.Header row h = absurd (h refl)
step_after_header n _ row h = refl
