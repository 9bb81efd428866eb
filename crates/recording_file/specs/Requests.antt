-- What a recorder answers to a request.
use Rattle.std.specs.Prelude.{⊤, Option, Some, None, Result, Ok, Err}
use Rattle.recording_file.specs.Recorded.{RequestFault}
use Rattle.recording_file.specs.Places.{Places}
pub use Rattle.recording_file.specs.declared.request_error.RequestError.{RequestError}
pub use Rattle.recording_file.specs.declared.request_error.RequestError.TheVariants.{Illegal, OutOfMemory}

abbrev pub unless_cause : Option RequestFault → Result ⊤ RequestError
unless_cause None = Ok tt
unless_cause (Some cause) = Err (Illegal cause)

-- where a request is placed, unless there is a cause against it
abbrev pub placed_unless : Places → Option RequestFault → Result Places RequestError
placed_unless p None = Ok p
placed_unless p (Some cause) = Err (Illegal cause)
