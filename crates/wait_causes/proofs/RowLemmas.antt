-- the rows of a table have together what the whole has
use Rattle.std.proofs.Common.{◌≡◌, ℕ, ◌+◌, ◌<◌, ◌≤◌, true, false, cond, Some, None, unwrap_or, List, [], ◌∷◌, length, refl, sym, ap, ◌∙◌, arith}
use Rattle.std.specs.Prelude.{◌==◌, max, fold, All, sum_by}
use Rattle.std.specs.List.{range_with_len}
use Rattle.std.proofs.lemmas.Bool.Decides.{nat_tests}
use Rattle.std.proofs.lemmas.List.Elements.{All-cons}
use Rattle.std.proofs.lemmas.List.Sums.{sum_by-cons}
use Rattle.wait_causes.specs.Origins.{Known}
use Rattle.wait_causes.specs.Parts.{measure, part_of}
use Rattle.wait_causes.specs.TableLaws.{amount, RowsAddUp}
use Rattle.wait_causes.specs.Tables.{number, stays_of, row_for, row_of, greatest, table_of}
use Rattle.round_net.specs.declared.cause.WaitCause.TheVariants.{Error, Caller, AdapterFrozen, DeviceStopped, AdapterStopped, LinkStopped, DeviceFull, AdapterFull, LinkFull, NotAsked}
use Rattle.wait_causes.specs.declared.explained_stay.ExplainedStay.{ExplainedStay}
use Rattle.wait_causes.specs.declared.part.Measure.{Measure}
use Rattle.wait_causes.specs.declared.part.Measure.TheVariants.{Waited, Live, Pace, Best, Cost, Full}
use Rattle.wait_causes.specs.Behind.{LessUrgent, Equal, MoreUrgent}
use Rattle.wait_causes.specs.declared.table.Grouping.{Grouping}
use Rattle.wait_causes.specs.declared.table.Row as table
use Rattle.wait_causes.proofs.CostLemmas.{sum_flat, sum_same, sum_numbers}

-- no number is above the greatest
rises : (by : Grouping) (stays : List ExplainedStay) (n : ℕ) → n ≤ fold (λ n s. max n (number by s)) n stays
rises by [] n = omega arith
rises by (s ∷ ss) n =
    let more : n ≤ max n (number by s) = omega arith in
    omega (arith, more, rises by ss (max n (number by s)))

in_reach : (by : Grouping) (stays : List ExplainedStay) (n : ℕ) → All (λ s. number by s < fold (λ n s. max n (number by s)) n stays + 1) stays
in_reach by [] n = λ k d lt. absurd (omega arith)
in_reach by (s ∷ ss) n =
    let more : number by s ≤ max n (number by s) = omega arith in
    All-cons (λ t. number by t < fold (λ n s. max n (number by s)) n (s ∷ ss) + 1) s ss
    (omega (arith, more, rises by ss (max n (number by s)))) (in_reach by ss (max n (number by s)))

pub all_reached : (by : Grouping) (stays : List ExplainedStay) → All (λ s. number by s < greatest by stays + 1) stays
unfolding greatest
all_reached by stays = in_reach by stays 0

-- what a stay has of a measure, where it is known
abbrev share : Known → Measure → ExplainedStay → ℕ
share known Pace s = cond known.pace (measure Pace s) 0
share known of s = measure of s

nothing : (stays : List ExplainedStay) → sum_by (λ (s : ExplainedStay). 0) stays ≡ 0
nothing [] = refl
nothing (s ∷ ss) = omega (arith, nothing ss, sum_by-cons (λ (s : ExplainedStay). 0) s ss)

-- the amount of some stays is their sum
amount_of : (known : Known) (of : Measure) (stays : List ExplainedStay) → amount of (part_of known stays) ≡ sum_by (share known of) stays
unfolding part_of
amount_of known Pace stays = elim known.pace as (λ b. unwrap_or (cond b (Some (sum_by (measure Pace) stays)) None) 0 ≡ sum_by (λ (s : ExplainedStay). cond b (measure Pace s) 0) stays) [ true ↦ refl | false ↦ sym (nothing stays) ]
amount_of known Waited stays = refl
amount_of known Live stays = refl
amount_of known Best stays = refl
amount_of known (Cost Error) stays = refl
amount_of known (Cost Caller) stays = refl
amount_of known (Cost AdapterFrozen) stays = refl
amount_of known (Cost DeviceStopped) stays = refl
amount_of known (Cost AdapterStopped) stays = refl
amount_of known (Cost LinkStopped) stays = refl
amount_of known (Cost DeviceFull) stays = refl
amount_of known (Cost AdapterFull) stays = refl
amount_of known (Cost LinkFull) stays = refl
amount_of known (Cost NotAsked) stays = refl
amount_of known (Full LessUrgent) stays = refl
amount_of known (Full Equal) stays = refl
amount_of known (Full MoreUrgent) stays = refl

pub plus-none : (n : ℕ) → n + 0 ≡ n
plus-none n = omega arith

pub row_cons : (known : Known) (n : ℕ) (s : ExplainedStay) (ss : List ExplainedStay) → row_for known n (s ∷ ss) ≡ record { number = n; part = part_of known (s ∷ ss) } ∷ []
unfolding row_for
row_cons known n s ss =
    let some : (length (s ∷ ss) == 0) ≡ false = grind (arith, nat_tests) in
    rw some refl

pub row_none : (known : Known) (n : ℕ) → row_for known n [] ≡ []
unfolding row_for
row_none known n = refl

row_amount : (known : Known) (of : Measure) (n : ℕ) (part : List ExplainedStay) → sum_by (λ (row : table.Row). amount of row.part) (row_for known n part) ≡ sum_by (share known of) part
row_amount known of n [] = ap (sum_by (λ (row : table.Row). amount of row.part)) (row_none known n)
row_amount known of n (s ∷ ss) =
    ap (sum_by (λ (row : table.Row). amount of row.part)) (row_cons known n s ss)
    ∙ sum_by-cons (λ (row : table.Row). amount of row.part) (record { number = n; part = part_of known (s ∷ ss) }) []
    ∙ plus-none (amount of (part_of known (s ∷ ss)))
    ∙ amount_of known of (s ∷ ss)

length_of : (known : Known) (stays : List ExplainedStay) → (part_of known stays).stays ≡ length stays
unfolding part_of
length_of known stays = refl

ones : (stays : List ExplainedStay) → length stays ≡ sum_by (λ (s : ExplainedStay). 1) stays
ones [] = refl
ones (s ∷ ss) = omega (arith, ones ss, sum_by-cons (λ (s : ExplainedStay). 1) s ss)

row_length : (known : Known) (n : ℕ) (part : List ExplainedStay) → sum_by (λ (row : table.Row). row.part.stays) (row_for known n part) ≡ sum_by (λ (s : ExplainedStay). 1) part
row_length known n [] = ap (sum_by (λ (row : table.Row). row.part.stays)) (row_none known n)
row_length known n (s ∷ ss) =
    ap (sum_by (λ (row : table.Row). row.part.stays)) (row_cons known n s ss)
    ∙ sum_by-cons (λ (row : table.Row). row.part.stays) (record { number = n; part = part_of known (s ∷ ss) }) []
    ∙ plus-none (part_of known (s ∷ ss)).stays
    ∙ length_of known (s ∷ ss) ∙ ones (s ∷ ss)

pub rows_sum : (known : Known) (by : Grouping) (stays : List ExplainedStay) (g : table.Row → ℕ) (f : ExplainedStay → ℕ) → ((n : ℕ) (part : List ExplainedStay) → sum_by g (row_for known n part) ≡ sum_by f part) →
    sum_by g (table_of known by stays) ≡ sum_by f stays
unfolding table_of
rows_sum known by stays g f each =
    sum_flat g (row_of known by stays) (range_with_len 0 (greatest by stays + 1))
    ∙ sum_same (λ n. sum_by g (row_of known by stays n)) (λ n. sum_by f (stays_of by stays n)) 0 (greatest by stays + 1) (λ n lt. each n (stays_of by stays n))
    ∙ sum_numbers (number by) f (greatest by stays + 1) stays (all_reached by stays)

pub all_rows : RowsAddUp
all_rows known by stays = (
  rows_sum known by stays (λ (row : table.Row). row.part.stays) (λ s. 1) (row_length known) ∙ sym (length_of known stays ∙ ones stays),
  λ of. rows_sum known by stays (λ (row : table.Row). amount of row.part) (share known of) (row_amount known of) ∙ sym (amount_of known of stays),
)
