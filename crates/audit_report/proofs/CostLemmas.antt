-- what the live schedule costs, by the net and by the events, and how long a report is
use Rattle.std.proofs.Common.{◌≡◌, ℕ, ◌+◌, ◌*◌, ◌-◌, ◌≤◌, List, [], ◌∷◌, length, map, refl, sym, ap, ◌∙◌, arith, sum_by}
use Rattle.std.proofs.lemmas.List.Sums.{sum_by-cons}
use Rattle.std.proofs.lemmas.Nat.{mul-le}
use Rattle.audit_report.specs.Words.{Topology, MAX_ROUNDS, MAX_WEIGHT, MAX_NET_STAYS, MAX_NET_ROUNDS, MAX_DEVICES, MAX_ADAPTERS, MAX_LINKS, stays_begun, live_part, Event, Passage, sum_below, of_stay, instance_of_rows, live_of_rows, IsAdmissible, cost, Instance, IsSound, rows, stay_row, net_of, instance_of, live_of, StayRow, max_bytes, net_of_recording}
use Rattle.audit_report.specs.Inputs.{Input, IsLegal, net_of_input}
use Rattle.audit_report.specs.declared.input.Input.TheVariants as input
use Rattle.trace_file.proofs.ScriptRules.{sum_by-map}
use Rattle.round_net.proofs.NetLemmas.{history_size}
use Rattle.round_net.proofs.SumLemmas.{sum_below-shift, sum_below-most}

-- what a stay's row costs
abbrev row_cost : StayRow → ℕ
row_cost row = row.weight * (row.live - row.arrival)

abbrev cost_at : List StayRow → ℕ → ℕ
cost_at rows s = of_stay (λ (row : StayRow). row.weight) rows s * (of_stay (λ (row : StayRow). row.live) rows s - of_stay (λ (row : StayRow). row.arrival) rows s)

rows_sum : (rows : List StayRow) → sum_below (length rows) (cost_at rows) ≡ sum_by row_cost rows
rows_sum [] = refl
rows_sum (row ∷ rows) =
    sum_below-shift (length rows) (cost_at (row ∷ rows)) ∙ ap (λ n. row_cost row + n) (rows_sum rows) ∙ sym (sum_by-cons row_cost row rows)

same_parts : (c : Topology) (es : List Event) (ps : List Passage) → sum_by (λ p. row_cost (stay_row c es p)) ps ≡ sum_by (live_part c es) ps
unfolding stay_row live_part
same_parts c es ps = refl

-- the net's live schedule costs what the history's stays waited
pub cost-live : (c : Topology) (es : List Event) → cost (instance_of c es) (live_of c es) ≡ sum_by (live_part c es) (stays_begun es)
unfolding instance_of_rows live_of_rows net_of
cost-live c es = rows_sum (map (stay_row c es) (stays_begun es)) ∙ sum_by-map (stay_row c es) row_cost (stays_begun es) ∙ same_parts c es (stays_begun es)

-- an admissible schedule costs at most what all stays would, at the largest weight, if they waited for all rounds
cost-most : (net : Instance) (live f : ℕ → ℕ) → IsSound net live → IsAdmissible net f → cost net f ≤ net.stays * (MAX_WEIGHT * net.rounds)
cost-most net live f sound fits =
    sum_below-most net.stays (MAX_WEIGHT * net.rounds) _ (λ s lt. mul-le (net.weight s) (f s - net.arrival s) MAX_WEIGHT net.rounds (sound.small_weight s lt)
    (omega (arith, fits.not_late s lt, sound.to_last s lt)))

-- that is at most what it would be of as many stays and rounds as a net may have
pub cost-small : (net : Instance) (live f : ℕ → ℕ) → IsSound net live → IsAdmissible net f → cost net f ≤ MAX_NET_STAYS * (MAX_WEIGHT * MAX_NET_ROUNDS)
cost-small net live f sound fits =
    let each = mul-le net.stays (MAX_WEIGHT * net.rounds) MAX_NET_STAYS (MAX_WEIGHT * MAX_NET_ROUNDS) sound.few_stays (omega (arith, sound.few_rounds)) in
    omega (arith, cost-most net live f sound fits, each)

-- how long a report of so many stays and cells is at most
abbrev report_length : Instance → ℕ
report_length net = 350 + (64 * net.stays + 64 * net.rounds * rows net + 4)

cells_small : (net : Instance) (live : ℕ → ℕ) (most : ℕ) → IsSound net live → net.rounds ≤ most → 64 * net.rounds * rows net ≤ 64 * most * (MAX_DEVICES + MAX_ADAPTERS + MAX_LINKS)
cells_small net live most sound few =
    mul-le (64 * net.rounds) (rows net) (64 * most) (MAX_DEVICES + MAX_ADAPTERS + MAX_LINKS) (omega (arith, few)) (omega (arith, sound.few_devices, sound.few_adapters, sound.few_links))

-- it isn't longer than a report may be
pub report-short : (i : Input) → IsLegal i → IsSound (instance_of_rows (net_of_input i)) (live_of_rows (net_of_input i)) → report_length (instance_of_rows (net_of_input i)) ≤ max_bytes (instance_of_rows (net_of_input i))
unfolding instance_of_rows net_of net_of_recording
report-short (input.Trace past) legal sound =
    let size = history_size past.config past.events legal in
    omega (arith, cells_small (instance_of past.config past.events) (live_of past.config past.events) MAX_ROUNDS sound size.0, size.1)
report-short (input.Recording r) legal sound =
    omega (arith, cells_small (instance_of_rows (net_of_recording r)) (live_of_rows (net_of_recording r)) MAX_NET_ROUNDS sound sound.few_rounds, sound.few_stays)
