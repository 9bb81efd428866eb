use Rattle.std.proofs.Common.{◌≡◌, ◌<◌, ℕ, List, Some, length}
use Rattle.csv.specs.Reading.{Ready, default_config, source_of}
use Rattle.csv.specs.declared.reader.Trim.TheVariants as trim
use Rattle.record_text.specs.Text.{records_in}
use Rattle.record_text.proofs.RecordLemmas.{IsLeft}
use Rattle.record_text.proofs.applying.take_records.Given as goal

abbrev pub invariant-loop-row : goal.invariant-loop-row
invariant-loop-row g l = (l.row-iterator.rdr.trim ≡ trim.None) × Ready l.row-iterator.rdr × (0 < l.row-iterator.left) × (l.row-iterator.rdr.config ≡ default_config)
    × g.S.Parser.is_sound l.parser
    × (y : List ℕ) × (source_of (λ s. Some s.now) l.row-iterator.rdr ≡ Some y)
    × IsLeft (g.S.Parser.step) l.fn.first (records_in l.fn.text) l.number l.parser l.row-iterator.rdr.state y (length l.fn.text)
