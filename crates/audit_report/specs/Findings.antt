-- what comes of a claim about a net, and the line that says so
use Rattle.std.specs.Prelude.{◌≡◌, ◌≢◌, ℕ, ◌-◌, ◌++◌, Bool, true, false, List, slice_index, codes, decimal}
use Rattle.audit_report.specs.Words.{Stay, NetRows, instance_of_rows, live_of_rows, cost, ProvesBest, names_of_rows, pricing_of_rows, number_text, IsGap, IsRefused, Claim, Cause, Early, Late, DeviceFull, AdapterFull, LinkFull}
pub use Rattle.audit_report.specs.declared.finding.Finding.{Finding}
use Rattle.audit_report.specs.declared.finding.Finding.TheVariants.{Proved, Gap, NotAdmissible, WrongBest, WrongExcess}

module _ (net : NetRows) (claim : Claim) where
  -- what the claimed schedule costs, and by how much the live one costs more
  abbrev pub claimed_cost : ℕ
  claimed_cost = cost (instance_of_rows net) (slice_index claim.schedule)

  abbrev pub claimed_excess : ℕ
  claimed_excess = cost (instance_of_rows net) (live_of_rows net) - claimed_cost

  -- the claimed prices prove the claimed schedule
  abbrev pub IsProved : Type 0
  IsProved = ProvesBest (instance_of_rows net) (slice_index claim.schedule) (pricing_of_rows claim.prices)

  -- the claim is right in all: its prices prove its schedule, and its numbers are the schedule's
  pub record IsRight : Type 0 where
    pub proved : IsProved
    pub best : claim.best ≡ claimed_cost
    pub excess : claim.excess ≡ claimed_excess

  -- what a finding on the claim says
  abbrev pub Says : Finding → Type 0
  Says Proved = IsRight
  Says (Gap gap) = IsGap (instance_of_rows net) (slice_index claim.schedule) (pricing_of_rows claim.prices) gap
  Says (NotAdmissible stay cause) =
      IsRefused (instance_of_rows net) (names_of_rows net) (slice_index claim.schedule) stay cause
  Says WrongBest = IsProved × (claim.best ≢ claimed_cost)
  Says WrongExcess = IsProved × (claim.best ≡ claimed_cost) × (claim.excess ≢ claimed_excess)

-- it says that the claim is right in all
abbrev pub is_proved : Finding → Bool
is_proved Proved = true
is_proved _ = false

-- what is wrong with a stay's place
abbrev pub cause_text : Cause → List ℕ
cause_text Early = codes "early"
cause_text Late = codes "late"
cause_text DeviceFull = codes "device full"
cause_text AdapterFull = codes "adapter full"
cause_text LinkFull = codes "link full"

-- the line on a schedule that costs so much more than the prices are worth
unfoldable pub gap_text : ℕ → List ℕ
gap_text gap = codes "not proved: gap " ++ (decimal gap ++ codes "\n")

-- the line on a stay with whose place something is wrong
unfoldable pub stay_text : Stay → Cause → List ℕ
stay_text stay cause =
    codes "not proved: stay" ++ ((number_text stay.ccb ++ number_text stay.attempt) ++ (codes " " ++ (cause_text cause ++ codes "\n")))

-- the line that says a finding
abbrev pub finding_text : Finding → List ℕ
finding_text Proved = codes "proved\n"
finding_text (Gap gap) = gap_text gap
finding_text (NotAdmissible stay cause) = stay_text stay cause
finding_text WrongBest = codes "not proved: best\n"
finding_text WrongExcess = codes "not proved: excess\n"
