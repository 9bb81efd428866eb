-- How records are written.
use Rattle.std.specs.Prelude.{ℕ, List}
use Rattle.trace_file.specs.Histories.{Past}
use Rattle.trace_file.specs.Records.{least_version, records_of}
use Rattle.trace_file.specs.Versions.{Version}
use Rattle.trace_file.specs.declared.version.Version.TheVariants as version
use Rattle.record_text.specs.Writing.{text_of}

-- the text of a history's records in a version
unfoldable pub text_in : Version → Past → List ℕ
text_in v past = text_of (records_of v past)

-- the same in the least version that holds it, and in the newest one
abbrev pub trace_text : Past → List ℕ
trace_text past = text_in (least_version past.config) past

abbrev pub migrated_text : Past → List ℕ
migrated_text past = text_in version.Three past
