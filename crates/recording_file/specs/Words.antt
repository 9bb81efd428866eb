-- The words of a recording's records, and those of its fields.
use Rattle.std.specs.Prelude.{ℕ, Bool, true, false, List, [], ◌∷◌, Option, codes, bytes_eq, find}
pub use Rattle.recording_file.specs.declared.word.RecordingWord.{RecordingWord}
use Rattle.recording_file.specs.declared.word.RecordingWord.TheVariants as word
use Rattle.recording_file.specs.Names.{NameKind}
use Rattle.recording_file.specs.declared.name.NameKind.TheVariants as named
use Rattle.recording_file.specs.Caps.{PartKind}
use Rattle.recording_file.specs.declared.part.PartKind.TheVariants as part
pub use Rattle.recording_file.specs.declared.span.TimeUnit.{TimeUnit}
use Rattle.recording_file.specs.declared.span.TimeUnit.TheVariants as time

-- the word that a recording begins with, by its version: one with completions or one without
abbrev pub name_text : Bool → List ℕ
name_text false = codes "camrecord1"
name_text true = codes "camrecord2"

-- how a word is spelled
abbrev pub spelled : RecordingWord → List ℕ
spelled word.Unit = codes "unit"
spelled word.Rounds = codes "rounds"
spelled word.Weight = codes "weight"
spelled word.Link = codes "link"
spelled word.Sim = codes "sim"
spelled word.Dev = codes "dev"
spelled word.Name = codes "name"
spelled word.Cap = codes "cap"
spelled word.Request = codes "request"

abbrev pub all_words : List RecordingWord
all_words =
    word.Request ∷ word.Cap ∷ word.Name ∷ word.Unit ∷ word.Rounds ∷ word.Weight ∷ word.Link ∷ word.Sim ∷ word.Dev ∷ []

-- the word that a field spells
unfoldable pub word_of : List ℕ → Option RecordingWord
word_of field = find (λ w. bytes_eq field (spelled w)) all_words

-- where a record of this word stands: the kinds come in this order
abbrev pub word_rank : RecordingWord → ℕ
word_rank word.Unit = 0
word_rank word.Rounds = 1
word_rank word.Weight = 2
word_rank word.Link = 3
word_rank word.Sim = 4
word_rank word.Dev = 5
word_rank word.Name = 6
word_rank word.Cap = 7
word_rank word.Request = 8

-- how a unit of time is spelled, and which one a field spells
abbrev pub time_text : TimeUnit → List ℕ
time_text time.Nanosecond = codes "ns"
time_text time.Microsecond = codes "us"
time_text time.Millisecond = codes "ms"
time_text time.Second = codes "s"

unfoldable pub time_of : List ℕ → Option TimeUnit
time_of field = find (λ u. bytes_eq field (time_text u)) (time.Nanosecond ∷ time.Microsecond ∷ time.Millisecond ∷ time.Second ∷ [])

-- how the kind of what has a name is spelled, and which one a field spells
abbrev pub named_text : NameKind → List ℕ
named_text named.Driver = codes "driver"
named_text named.Device = codes "dev"
named_text named.Adapter = codes "sim"
named_text named.Link = codes "link"

unfoldable pub named_of : List ℕ → Option NameKind
named_of field = find (λ k. bytes_eq field (named_text k)) (named.Driver ∷ named.Device ∷ named.Adapter ∷ named.Link ∷ [])

-- how the kind of what has a cap is spelled, and which one a field spells
abbrev pub part_text : PartKind → List ℕ
part_text part.Device = codes "dev"
part_text part.Adapter = codes "sim"
part_text part.Link = codes "link"

unfoldable pub part_kind_of : List ℕ → Option PartKind
part_kind_of field = find (λ k. bytes_eq field (part_text k)) (part.Device ∷ part.Adapter ∷ part.Link ∷ [])
