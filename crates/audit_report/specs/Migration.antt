-- what a migration of a trace writes
use Rattle.std.specs.Prelude.{◌≡◌, ℕ, Bool, List, Option}
use Rattle.audit_report.specs.Words.{Past, IsTrace, WasTrace, Explains, migrated_text}
use Rattle.audit_report.specs.Runs.{AuditFault, Trace, OutOfMemory}

-- the text of the history's records in the newest version, which is a trace of the same history
pub record IsMigration (past : Past) (text : List ℕ) : Type 0 where
  pub lines : text ≡ migrated_text past
  pub trace : IsTrace text past

-- a trace was read
pub record WasSomeTrace (before after : Option (List ℕ)) : Type 0 where
  pub past : Past
  pub trace : WasTrace before after past

-- why there was no trace to migrate, or memory was wanting for what is made of one
abbrev pub WhyNoTrace : Option (List ℕ) → Option (List ℕ) → Bool → AuditFault → Type 0
WhyNoTrace before after failed (Trace fault) = Explains before after failed fault
WhyNoTrace before after failed OutOfMemory = WasSomeTrace before after
WhyNoTrace before after failed _ = ⊥
