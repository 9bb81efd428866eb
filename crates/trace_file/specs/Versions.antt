-- What each version of traces has.
use Rattle.std.specs.Prelude.{ℕ, Bool, true, false, List, codes}
pub use Rattle.trace_file.specs.declared.version.Version.{Version}
use Rattle.trace_file.specs.declared.version.Version.TheVariants as version
use Rattle.trace_file.specs.declared.word.TraceWord.{TraceWord}
use Rattle.trace_file.specs.declared.word.TraceWord.TheVariants as word

-- the word that a trace of a version begins with
abbrev pub name_of : Version → List ℕ
name_of version.One = codes "camtrace1"
name_of version.Two = codes "camtrace2"
name_of version.Three = codes "camtrace3"

-- version 1 has the standard weights, and no record of them
abbrev pub has_table : Version → Bool
has_table version.One = false
has_table version.Two = true
has_table version.Three = true

-- version 3 alone has links
abbrev pub has_links : Version → Bool
has_links version.One = false
has_links version.Two = false
has_links version.Three = true

-- a version knows a word
abbrev pub has_word : Version → TraceWord → Bool
has_word v word.Weight = has_table v
has_word v word.Link = has_links v
has_word v w = true
