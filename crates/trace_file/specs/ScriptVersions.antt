-- What each version of scripts has.
use Rattle.std.specs.Prelude.{ℕ, if◌then◌else◌, List, codes}
pub use Rattle.trace_file.specs.declared.script_version.ScriptVersion.{ScriptVersion}
use Rattle.trace_file.specs.declared.script_version.ScriptVersion.TheVariants as script
use Rattle.trace_file.specs.Histories.{Topology}
use Rattle.trace_file.specs.Records.{holds}
use Rattle.trace_file.specs.Versions.{Version}
use Rattle.trace_file.specs.declared.version.Version.TheVariants as trace

-- the word that a script of a version begins with
abbrev pub script_name : ScriptVersion → List ℕ
script_name script.One = codes "camscript1"
script_name script.Two = codes "camscript2"

-- the version of the traces whose records of the configuration it has
abbrev pub trace_version : ScriptVersion → Version
trace_version script.One = trace.One
trace_version script.Two = trace.Three

-- the least version that holds a configuration
abbrev pub least_script : Topology → ScriptVersion
least_script c = if holds trace.One c then script.One else script.Two
