-- how a run ends
use Rattle.std.specs.Prelude.{◌≡◌, ℕ, Bool, true, List, Option, Result, Ok, Err}
use Rattle.std.specs.Io.KnownBytes.{Appends}
use Rattle.audit_report.specs.Words.{AppendsFront}
use Rattle.audit_report.specs.Inputs.{Input, WasRead, WhyNoNet}
pub use Rattle.audit_report.specs.declared.audit_fault.AuditFault.{AuditFault}
pub use Rattle.audit_report.specs.declared.audit_fault.AuditFault.TheVariants.{Trace, Recording, Unsent, Report, WriteFailed, OutOfMemory}

-- What is read by such a run, when that was read, why it wasn't, and which texts are right for it.
module _ {I : Type 0} (Was : Option (List ℕ) → Option (List ℕ) → I → Type 0) (WhyNot : Option (List ℕ) → Option (List ℕ) → Bool → AuditFault → Type 0) (IsRight : I → List ℕ → Type 0) where
  -- it was read to its end, and a text that is right for it was written, all of it
  pub record Wrote (before after out out' : Option (List ℕ)) : Type 0 where
    pub read : I
    pub text : List ℕ
    pub was : Was before after read
    pub right : IsRight read text
    pub written : Appends out out' text

  -- only the front of it was written, and the writer's note says that a call failed
  pub record WroteFront (before after out out' : Option (List ℕ)) (noted : Bool) : Type 0 where
    pub read : I
    pub text : List ℕ
    pub was : Was before after read
    pub right : IsRight read text
    pub front : AppendsFront out out' text
    pub failed : noted ≡ true

  -- how the run ended: with its text written, or with a failed write, or with a fault for its cause and nothing written
  abbrev pub EndedBy : Option (List ℕ) → Option (List ℕ) → Bool → Option (List ℕ) → Option (List ℕ) → Bool → Result (Unit {0}) AuditFault → Type 0
  EndedBy before after failed out out' out_failed (Ok u) = Wrote before after out out'
  EndedBy before after failed out out' out_failed (Err WriteFailed) = WroteFront before after out out' out_failed
  EndedBy before after failed out out' out_failed (Err fault) = WhyNot before after failed fault × (out' ≡ out)

-- the same of a run over a trace or a recording, in which each stay has to have a send
abbrev pub Ended : (Input → List ℕ → Type 0) → Option (List ℕ) → Option (List ℕ) → Bool → Option (List ℕ) → Option (List ℕ) → Bool → Result (Unit {0}) AuditFault → Type 0
Ended = EndedBy WasRead WhyNoNet
