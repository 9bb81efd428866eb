-- Reports of claims, and what a reader of reports answers.
use Rattle.std.specs.Prelude.{◌≡◌, ℕ, ◌≤◌, ◌-◌, ◌⊎◌, ⊤, Bool, true, List, ◌++◌, length, take, slice_index, All, Option, codes}
use Rattle.std.specs.List.{AllByRecursion}
use Rattle.report_text.specs.Words.{IsWholeWithin, IsLongerThan, Device, Instance, pricing_of_rows, IsPriced, IsPricingFor, NetRows, instance_of_rows}
use Rattle.report_text.specs.Limits.{max_stated, max_number, max_bytes}
use Rattle.report_text.specs.Report.{live_cost_of, summary_text, plan_text}
use Rattle.report_text.specs.TextLines.{lines}
pub use Rattle.report_text.specs.declared.claim.Claim.{Claim}
pub use Rattle.report_text.specs.declared.report_fault.ReportFault.{ReportFault}
use Rattle.report_text.specs.declared.report_fault.ReportFault.TheVariants as fault

-- a round for each stay, none above what its line may say, a price for each round of each row, none above the net's largest, and costs of at most 18
-- digits
pub record IsClaim (net : Instance) (claim : Claim) : Type 0 where
  pub stays : length claim.schedule ≡ net.stays
  pub rounds : All (λ r. r ≤ max_number net) claim.schedule
  pub pricing : IsPricingFor net claim.prices
  pub priced : IsPriced claim.prices
  pub best : claim.best ≤ max_stated
  pub excess : claim.excess ≤ max_stated

-- the report of a claim on a net
unfoldable pub report_text : NetRows → Claim → List ℕ
report_text net claim =
    summary_text net (live_cost_of net) claim.best claim.excess
    ++ plan_text net (slice_index claim.schedule) (pricing_of_rows claim.prices)

-- the text is the report of the claim, or that without its last line feed
pub record IsReport (net : NetRows) (text : List ℕ) (claim : Claim) : Type 0 where
  pub bounded : length text ≤ max_bytes (instance_of_rows net)
  pub spelled : (text ≡ report_text net claim) ⊎ (text ++ codes "\n" ≡ report_text net claim)

-- what was read to its end was a report of the claim
pub record WasReport (net : NetRows) (before after : Option (List ℕ)) (claim : Claim) : Type 0 where
  pub text : List ℕ
  pub whole : IsWholeWithin (max_bytes (instance_of_rows net)) before after text
  pub report : IsReport net text claim
  pub claims : IsClaim (instance_of_rows net) claim

-- the first n lines of the text are those of the claim's report; where one of them ends earlier, so does the other
pub record Begins (net : NetRows) (text : List ℕ) (n : ℕ) (claim : Claim) : Type 0 where
  pub claims : IsClaim (instance_of_rows net) claim
  pub same : take n (lines text) ≡ take n (lines (report_text net claim))

-- the net's devices have targets that a path can say
abbrev pub HasSmallTargets : NetRows → Type 0
HasSmallTargets net = AllByRecursion (λ (d : Device). d.target ≤ 65535) net.config.devices

-- the lines before line n, counted from 1, are the first ones of some claim's report, and with line n they are those of none
pub record IsFirstFaulty (net : NetRows) (text : List ℕ) (n : ℕ) : Type 0 where
  pub counted : 1 ≤ n
  pub claim : Claim
  pub before : Begins net text (n - 1) claim
  pub none : HasSmallTargets net → (claim : Claim) → Begins net text n claim → ⊥

-- the line that a fault of a text names, and 0 where it names none
abbrev pub fault_line : ReportFault → ℕ
fault_line (fault.BadLine n) = n
fault_line (fault.PriceRange n) = n
fault_line (fault.WrongStays n) = n
fault_line fault.TooLong = 0
fault_line fault.ReadFailed = 0
fault_line fault.OutOfMemory = 0

-- what was read to its end was no report: the fault names its first faulty line
pub record WasFaulty (net : NetRows) (before after : Option (List ℕ)) (n : ℕ) : Type 0 where
  pub text : List ℕ
  pub whole : IsWholeWithin (max_bytes (instance_of_rows net)) before after text
  pub first : IsFirstFaulty net text n

-- why no report was read, where a reader's note says at last whether a call failed
abbrev pub Explains : NetRows → Option (List ℕ) → Option (List ℕ) → Bool → ReportFault → Type 0
Explains net before after failed (fault.BadLine n) = WasFaulty net before after n
Explains net before after failed (fault.PriceRange n) = WasFaulty net before after n
Explains net before after failed (fault.WrongStays n) = WasFaulty net before after n
Explains net before after failed fault.TooLong = IsLongerThan (max_bytes (instance_of_rows net)) before after
Explains net before after failed fault.ReadFailed = failed ≡ true
Explains net before after failed fault.OutOfMemory = ⊤
