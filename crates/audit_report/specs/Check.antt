-- what a check of a trace or a recording writes
use Rattle.std.specs.Prelude.{◌≡◌, ℕ, ◌++◌, List, None, codes}
use Rattle.audit_report.specs.Words.{instance_of_rows, line}
use Rattle.audit_report.specs.Inputs.{Input, net_of_input, unsent_of, IsLiveCost}
pub use Rattle.audit_report.specs.declared.check.Counts.{Counts}

-- the five lines of so many commands, stays and rounds, whose live schedule costs so much
unfoldable pub check_text : ℕ → ℕ → ℕ → ℕ → List ℕ
check_text commands stays rounds live =
    line (codes "camcheck") 1
    ++ line (codes "commands") commands
    ++ line (codes "stays") stays
    ++ line (codes "rounds") rounds
    ++ line (codes "live") live

-- each stay has a send, and these are the counts and what the live schedule cost
pub record IsCounted (i : Input) (counts : Counts) : Type 0 where
  pub complete : unsent_of i ≡ None
  pub commands : counts.commands ≡ (net_of_input i).commands
  pub stays : counts.stays ≡ (instance_of_rows (net_of_input i)).stays
  pub rounds : counts.rounds ≡ (instance_of_rows (net_of_input i)).rounds
  pub live : IsLiveCost i counts.live

-- the text has the five lines of these counts
pub record IsCheck (i : Input) (text : List ℕ) : Type 0 where
  pub counts : Counts
  pub counted : IsCounted i counts
  pub lines : text ≡ check_text counts.commands counts.stays counts.rounds counts.live
