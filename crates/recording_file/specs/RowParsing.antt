-- The parsers at which a record is read.
use Rattle.std.specs.Prelude.{◌≡◌, ◌<◌, true, nat_lt, if◌then◌else◌, length, [], ⊤}
use Rattle.record_text.specs.ConfigParsing.{lacks_adapters}
use Rattle.recording_file.specs.Recorded.{MAX_REQUESTS}
use Rattle.recording_file.specs.Words.{word_rank, RecordingWord}
use Rattle.recording_file.specs.Reading.{begun, recorded_of, stands, RecordingParser}
use Rattle.recording_file.specs.declared.recording_parser.RecordingParser.TheVariants as parser
use Rattle.recording_file.specs.declared.word.RecordingWord.TheVariants as word

-- a parser after the rounds, without an adapter or with a whole configuration
abbrev pub IsOpen : RecordingParser → Type 0
IsOpen (parser.Config start c) = lacks_adapters c ≡ true
IsOpen (parser.Book r) = ⊤
IsOpen _ = ⊥

-- names and caps are read at such a parser
abbrev pub IsNaming : RecordingParser → RecordingWord → Type 0
IsNaming s word.Name = IsOpen s
IsNaming s word.Cap = IsOpen s
IsNaming s w = ⊤

-- the same parser with a whole configuration, where an adapter has come
abbrev pub booked : RecordingParser → RecordingParser
booked (parser.Config start c) = if lacks_adapters c then parser.Config start c else parser.Book (begun start c.partial)
booked s = s

-- a record of this word can be taken at a parser as it is
abbrev pub IsAt : RecordingParser → RecordingWord → Type 0
IsAt s word.Weight = stands s word.Weight ≡ true
IsAt s word.Link = stands s word.Link ≡ true
IsAt s word.Sim = stands s word.Sim ≡ true
IsAt s word.Dev = stands s word.Dev ≡ true
IsAt s word.Name = IsOpen s
IsAt s word.Cap = IsOpen s × ((recorded_of s).requests ≡ [])
IsAt s word.Request = IsOpen s × (length (recorded_of s).requests < MAX_REQUESTS)
IsAt s w = ⊤

-- the parser at which a record of this word is taken: names, caps and requests want a whole configuration
abbrev pub ready_for : RecordingParser → RecordingWord → RecordingParser
ready_for s w = if nat_lt (word_rank w) 6 then s else booked s
