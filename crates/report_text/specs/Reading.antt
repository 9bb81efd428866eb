-- How a text is read as a report: line by line, each the one that is due after those before it.
use Rattle.std.specs.Prelude.{◌≡◌, ℕ, zero, suc, ◌+◌, ◌-◌, ◌*◌, ◌/◌, ◌%◌, ◌==◌, ◌<◌, ◌≤◌, nat_lt, if◌then◌else◌, List, [], ◌∷◌, ◌++◌, length, drop, get_or, All, codes, decimal, ◌≢◌, ◌⊎◌}
use Rattle.report_text.specs.Words.{rows, NetRows, instance_of_rows}
use Rattle.report_text.specs.Limits.{max_stated, max_number}
use Rattle.report_text.specs.Report.{live_cost_of, number_text, stay_start, row_text}
use Rattle.report_text.specs.TextLines.{lines}
use Rattle.report_text.specs.Claims.{Claim, IsClaim, report_text, Begins, HasSmallTargets}

-- the first five lines, which the net gives: their words, and the numbers after them
abbrev pub known_word : ℕ → List ℕ
known_word zero = codes "camaudit "
known_word (suc zero) = codes "commands "
known_word (suc (suc zero)) = codes "stays "
known_word (suc (suc (suc zero))) = codes "rounds "
known_word (suc (suc (suc (suc k)))) = codes "live "

abbrev pub known_number : NetRows → ℕ → ℕ
known_number net zero = 1
known_number net (suc zero) = net.commands
known_number net (suc (suc zero)) = (instance_of_rows net).stays
known_number net (suc (suc (suc zero))) = (instance_of_rows net).rounds
known_number net (suc (suc (suc (suc k)))) = live_cost_of net

-- these and the next two, a best cost and the excess
unfoldable pub top_text : NetRows → ℕ → ℕ → List ℕ
top_text net k v =
    if nat_lt k 5 then known_word k ++ decimal (known_number net k)
    else (if k == 5 then codes "best " else codes "excess ") ++ decimal v

-- the line of a stay for which this round is best
unfoldable pub stay_text : NetRows → ℕ → ℕ → List ℕ
stay_text net s v = (stay_start net s ++ codes " ") ++ (decimal v ++ number_text ((instance_of_rows net).weight s))

-- the line of a price up to the price
abbrev pub price_front : List ℕ → ℕ → List ℕ
price_front whose r = whose ++ (number_text r ++ codes " ")

-- the same by the cell, a resource in a round
unfoldable pub cell_front : NetRows → ℕ → List ℕ
cell_front net c = price_front (row_text net.config.devices (instance_of_rows net).adapters (c / (instance_of_rows net).rounds)) (c % (instance_of_rows net).rounds + 1)

abbrev pub cells : NetRows → ℕ
cells net = rows (instance_of_rows net) * (instance_of_rows net).rounds

-- The line of each number of a report, if it has one: of the first seven, of the round of each stay, of the price of each
-- cell, unless it is 0, and last.
unfoldable pub form : NetRows → ℕ → ℕ → List (List ℕ)
form net k v =
    if nat_lt k 7 then top_text net k v ∷ []
    else if nat_lt k (7 + (instance_of_rows net).stays) then stay_text net (k - 7) v ∷ []
    else if nat_lt k (7 + (instance_of_rows net).stays + cells net) then (if v == 0 then [] else (cell_front net (k - (7 + (instance_of_rows net).stays)) ++ decimal v) ∷ [])
    else codes "end" ∷ []

-- the lines of these numbers, from one place on
unfoldable pub lines_of : NetRows → ℕ → List ℕ → List (List ℕ)
lines_of net k [] = []
lines_of net k (v ∷ vs) = form net k v ++ lines_of net (suc k) vs

-- the numbers of a claim's report; those that the net gives stand as 0
abbrev pub top_of : ℕ → ℕ → List ℕ
top_of best excess = 0 ∷ 0 ∷ 0 ∷ 0 ∷ 0 ∷ best ∷ excess ∷ []

abbrev pub values_of : Claim → List ℕ
values_of claim = top_of claim.best claim.excess ++ (claim.schedule ++ (claim.prices.prices ++ 0 ∷ []))

-- The text begins with the lines of these numbers, and no claim whose report has these lines and the next one has others.
pub record HasRead (net : NetRows) (text vs : List ℕ) (rest : List (List ℕ)) : Type 0 where
  pub read : lines text ≡ lines_of net 0 vs ++ rest
  pub only : HasSmallTargets net → (n : ℕ) (claim : Claim) → length (lines_of net 0 vs) < n → Begins net text n claim → (more : List ℕ) × (values_of claim ≡ vs ++ more)

-- the same up to an offset, by what was read: costs, rounds and prices
pub record HasReadTo (net : NetRows) (text : List ℕ) (best excess : ℕ) (rounds prices : List ℕ) (at : ℕ) : Type 0 where
  pub small_best : best ≤ max_stated
  pub small_excess : excess ≤ max_stated
  pub small_rounds : All (λ r. r ≤ max_number (instance_of_rows net)) rounds
  pub small_prices : All (λ p. p ≤ (instance_of_rows net).max_price) prices
  pub so_far : HasRead net text (top_of best excess ++ (rounds ++ prices)) (lines (drop at text))
  pub within : at ≤ length text

-- The line at hand isn't the last one, which is due, or it is and more stands after it; then the line after it is faulty.
abbrev pub IsEndFault : List (List ℕ) → List (List ℕ) → ℕ → Type 0
IsEndFault all rest n = ((get_or rest 0 [] ≢ codes "end") × (n + length rest ≡ length all + 1))
    ⊎ ((get_or rest 0 [] ≡ codes "end") × (0 < length (drop 1 rest)) × (n + length (drop 1 rest) ≡ length all + 1))

-- the lines of the text are those of the claim's report, and of no other claim's
pub record IsReadAs (net : NetRows) (text : List ℕ) (claim : Claim) : Type 0 where
  pub claims : IsClaim (instance_of_rows net) claim
  pub same : lines text ≡ lines (report_text net claim)
  pub only : HasSmallTargets net → (other : Claim) → IsClaim (instance_of_rows net) other → lines text ≡ lines (report_text net other) → other ≡ claim
