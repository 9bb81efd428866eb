-- what is kept of who was in the way, device by device
use Rattle.std.specs.Prelude.{◌≡◌, ℕ, List, map, count_by, Option, Vec}
use Rattle.std.specs.Global.{Global}
use Rattle.std.specs.List.{range_with_len}
use Rattle.wait_causes.specs.Explained.{Explained}
use Rattle.wait_causes.specs.Origins.{instance_in}
use Rattle.wait_causes.specs.Stays.{explained}
use Rattle.wait_causes.specs.declared.explained_stay.ExplainedStay.{ExplainedStay}
use Rattle.wait_causes.specs.declared.table.Grouping.{Grouping}
use Rattle.wait_causes.specs.Totals.{totals_by}
use Rattle.wait_causes.specs.BlameAmounts.{who, is_who}

-- the stays of an explanation, and who was in the way there
abbrev pub stays_in : Explained → List ExplainedStay
stays_in e = explained e.origin e.pace e.best

abbrev pub who_in : Explained → Grouping → ℕ → ℕ → Option ℕ
who_in e by = who e.origin (stays_in e) by

-- that of each round of a device
abbrev pub who_at : Explained → Grouping → ℕ → List (Option ℕ)
who_at e by d = map (who_in e by d) (range_with_len 1 (instance_in e.origin).rounds)

-- in how many rounds before each one of a device it was this one
abbrev pub totals_at : Explained → Grouping → Option ℕ → ℕ → List ℕ
totals_at e by m d = totals_by (count_by (is_who m)) (who_in e by d) (instance_in e.origin).rounds

-- each device has its list
abbrev pub AreWho : Explained → Grouping → List (Vec (Option ℕ) Global) → Type 0
AreWho e by lists = map (λ (v : Vec (Option ℕ) Global). v.items) lists ≡ map (who_at e by) (range_with_len 0 (instance_in e.origin).devices)

abbrev pub AreTotals : Explained → Grouping → Option ℕ → List (Vec ℕ Global) → Type 0
AreTotals e by m totals = map (λ (v : Vec ℕ Global). v.items) totals ≡ map (totals_at e by m) (range_with_len 0 (instance_in e.origin).devices)
