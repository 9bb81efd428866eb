-- what an audit of a trace or a recording writes
use Rattle.std.specs.Prelude.{◌≡◌, ℕ, ◌≤◌, Bool, if◌then◌else◌, List, length, slice_index, None}
use Rattle.audit_report.specs.Words.{NetRows, instance_of_rows, live_of_rows, IsAdmissible, cost, IsClaim, live_cost_of, max_bytes, report_text, summary_text, Claim}
use Rattle.cost_plan.specs.InTurn.{TakesTurns}
use Rattle.cost_plan.specs.Ties.{KeepsLive}
use Rattle.audit_report.specs.Findings.{IsRight}
use Rattle.audit_report.specs.Inputs.{Input, net_of_input, unsent_of, IsLiveCost, StandsFree}

-- the report of a claim on a net, or its summary alone
abbrev pub audit_text : Bool → NetRows → Claim → List ℕ
audit_text summary net claim =
    if summary then summary_text net (live_cost_of net) claim.best claim.excess else report_text net claim

-- Each stay has a send. Each send of a history stands where its device and adapter were free, and the live schedule is
-- admissible at the live cost that stands in the text. The text has a schedule that is admissible at the cost that stands
-- there, and prices that prove by themselves that no admissible schedule costs less: the live one if that is a best one, and
-- else one in which stays of one device and one weight take turns. It isn't longer than a report may be.
pub record IsAudit (summary : Bool) (i : Input) (text : List ℕ) : Type 0 where
  pub claim : Claim
  pub complete : unsent_of i ≡ None
  pub free : StandsFree i
  pub lived : IsLiveCost i (live_cost_of (net_of_input i))
  pub admissible : IsAdmissible (instance_of_rows (net_of_input i)) (live_of_rows (net_of_input i))
  pub claims : IsClaim (instance_of_rows (net_of_input i)) claim
  pub right : IsRight (net_of_input i) claim
  pub live : KeepsLive (instance_of_rows (net_of_input i)) (live_of_rows (net_of_input i)) (slice_index claim.schedule)
  pub turns : TakesTurns (instance_of_rows (net_of_input i)) (live_of_rows (net_of_input i)) (slice_index claim.schedule)
  pub least : (other : ℕ → ℕ) → IsAdmissible (instance_of_rows (net_of_input i)) other → claim.best ≤ cost (instance_of_rows (net_of_input i)) other
  pub short : length text ≤ max_bytes (instance_of_rows (net_of_input i))
  pub lines : text ≡ audit_text summary (net_of_input i) claim
