use Rattle.std.proofs.Common.{◌≡◌, ◌<◌, ℕ, List, Some}
use Rattle.csv.specs.Reading.{Ready, default_config, source_of}
use Rattle.csv.specs.declared.reader.Trim.TheVariants as trim
use Rattle.views.proofs.NumberLemmas.{IsAhead}
use Rattle.views.proofs.notes.place.record_at.Given as goal

abbrev pub invariant-loop-row : goal.invariant-loop-row
invariant-loop-row l = (l.row-iterator.rdr.trim ≡ trim.None) × Ready l.row-iterator.rdr × (0 < l.row-iterator.left) × (l.row-iterator.rdr.config ≡ default_config)
    × (y : List ℕ) × (source_of (λ s. Some s.now) l.row-iterator.rdr ≡ Some y)
    × IsAhead l.fn.text l.fn.number l.left l.row-iterator.rdr.state y
