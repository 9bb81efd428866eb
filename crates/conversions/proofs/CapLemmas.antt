-- the caps of a history's recording
use Rattle.std.proofs.Common.{◌≡◌, ℕ, ◌+◌, ◌-◌, ◌<◌, ◌≤◌, Bool, true, false, List, [], ◌∷◌, ◌++◌, length, map, refl, sym, ap, ◌∙◌, arith, Some, None, inl, inr, All, nat_le, find, slice_get, append_assoc}
use Rattle.std.specs.List.{range_with_len, flat_map}
use Rattle.std.specs.Option.{option_map_or}
use Rattle.std.proofs.lemmas.Bool.{and_parts, and_from, or_left, or_right, leb-true, le-leb, lt-ltb, eq-eqb, cases_eq, cases_lt}
use Rattle.std.proofs.lemmas.Grind.{flat_map-append}
use Rattle.std.proofs.lemmas.List.{append-nil, map-append}
use Rattle.std.proofs.lemmas.List.Elements.{All-map, All-append}
use Rattle.cam_types.specs.Topology.{Topology}
use Rattle.event_rules.specs.Counts.{round}
use Rattle.event_rules.specs.Past.{Past}
use Rattle.event_rules.specs.declared.event.Event.{Event}
use Rattle.recording_file.specs.Caps.{covers, cap_in, openings, is_cap, is_over, is_next_cap, is_same_part}
use Rattle.recording_file.specs.Counts.{counts_of}
use Rattle.recording_file.specs.Recorded.{Recorded}
use Rattle.recording_file.specs.Runs.{begins_run, run_starts, run_last}
use Rattle.recording_file.specs.declared.cap.Cap.{Cap}
use Rattle.recording_file.specs.declared.part.Part.{Part}
use Rattle.recording_file.proofs.ListLemmas.{none_passes, found_holds, each_of_flat, all_of_flat, each_of_map, each_of_filter, all_of_filter, each_of_range, all_of_range, range_more}
use Rattle.recording_file.proofs.RunLemmas.{run_last_is, HasStart, has_start, run_over, starts_none, starts_more, starts_same}
use Rattle.round_net.specs.Caps.{resource_count, cap}
use Rattle.round_net.specs.RecordedNets.{part_of_resource}
use Rattle.round_net.proofs.FilledLemmas.{at_element}
use Rattle.conversions.specs.Recorded.{without_lanes, run_cap, resource_caps, caps_of, recorded_with}
use Rattle.conversions.proofs.PartLemmas.{one_row, rows_in_order, part_there}

-- what a cap that covers a round of a row's part says
abbrev Says : Topology → List Event → ℕ → ℕ → Cap → Type 0
Says c es row r k = covers (part_of_resource c row) r k ≡ true → k.most ≡ cap c es row r

-- a run's cap says the cap of each of its rounds
run_says : (c : Topology) (es : List Event) (row r other first : ℕ) → first ≤ round es → Says c es row r (run_cap c es other first)
unfolding run_cap
run_says c es row r other first few covered =
    let parts = and_parts (is_same_part (part_of_resource c other) (part_of_resource c row)) _ covered in
    let rounds = and_parts (nat_le first r) (nat_le r (run_last (cap c es other) (round es) first)) parts.1 in
    let same : other ≡ row = one_row c row other parts.0 in
    let is = run_last_is (cap c es other) (round es) first few in
    sym (is.same r (leb-true first r rounds.0) (leb-true r _ rounds.1)) ∙ ap (λ n. cap c es n r) same

all_say : (c : Topology) (es : List Event) (row r rows : ℕ) → All (Says c es row r) (caps_of c es rows)
unfolding caps_of resource_caps run_starts
all_say c es row r rows =
    all_of_flat (Says c es row r) (resource_caps c es) (range_with_len 0 rows) (all_of_range (λ other. All (Says c es row r) (resource_caps c es other)) 0 rows (λ other from to.
    let usual : ℕ = openings c (part_of_resource c other) in
    All-map (Says c es row r) (run_cap c es other) (run_starts (cap c es other) usual (round es))
    (all_of_filter (begins_run (cap c es other) usual) (λ first. Says c es row r (run_cap c es other first)) (range_with_len 1 (round es)) (all_of_range (λ first. begins_run (cap c es other) usual first ≡ true → Says c es row r (run_cap c es other first)) 1 (round es) (λ first low high _. run_says c es row r other first (omega arith))))))

-- where no cap covers a round of a row, the row has its openings in it
none_covers : (c : Topology) (es : List Event) (row r rows : ℕ) → row < rows → find (covers (part_of_resource c row) r) (caps_of c es rows) ≡ None → (first : ℕ) → 1 ≤ first → first ≤ round es → begins_run (cap c es row) (openings c (part_of_resource c row)) first ≡ true → covers (part_of_resource c row) r (run_cap c es row first) ≡ false
unfolding caps_of resource_caps run_starts
none_covers c es row r rows within none first some few begins =
    let p : Part = part_of_resource c row in
    let usual : ℕ = openings c p in
    let fails : Cap → Type 0 = λ k. covers p r k ≡ false in
    let all = none_passes (covers p r) (caps_of c es rows) none in
    let rowwise = each_of_flat fails (resource_caps c es) (range_with_len 0 rows) all in
    let here = each_of_range (λ other. All fails (resource_caps c es other)) 0 rows rowwise row (omega arith) (omega arith) in
    let starts = each_of_map fails (run_cap c es row) (run_starts (cap c es row) usual (round es)) here in
    let each = each_of_filter (begins_run (cap c es row) usual) (λ q. fails (run_cap c es row q)) (range_with_len 1 (round es)) starts in
    each_of_range (λ q. begins_run (cap c es row) usual q ≡ true → fails (run_cap c es row q)) 1 (round es) each first some (omega arith) begins

same_part : (p : Part) → is_same_part p p ≡ true
same_part p = and_from _ _ (eq-eqb _ _ refl) (eq-eqb p.number p.number refl)

-- the run in which a round lies covers it
start_covers : (c : Topology) (es : List Event) (row r : ℕ) → r ≤ round es → (s : HasStart (cap c es row) (openings c (part_of_resource c row)) r) → covers (part_of_resource c row) r (run_cap c es row s.start) ≡ true
unfolding run_cap
start_covers c es row r few s =
    let before = s.before in
    let is = run_last_is (cap c es row) (round es) s.start (omega arith) in
    let last : ℕ = run_last (cap c es row) (round es) s.start in
    let to : r ≤ last = elim (cases_lt last r) [
      | inl over ↦
          let after = is.after in
          absurd (is.longest (omega arith) (s.same (last + 1) (omega arith) (omega arith) ∙ sym (s.same s.start (omega arith) before)))
      | inr still ↦ still
    ] in
    and_from _ _ (same_part (part_of_resource c row)) (and_from (nat_le s.start r) _ (le-leb s.start r before) (le-leb r last to))

-- by the recording's caps a row takes in each round what it took in the history
pub cap_in_row : (c : Topology) (es : List Event) (row r rows : ℕ) → row < rows → 1 ≤ r → r ≤ round es → cap_in (without_lanes c) (caps_of c es rows) (part_of_resource c row) r ≡ cap c es row r
cap_in_row c es row r rows within some few =
    let p : Part = part_of_resource c row in
    elim (find (covers p r) (caps_of c es rows)) as (λ o. find (covers p r) (caps_of c es rows) ≡ o → option_map_or (λ (k : Cap). k.most) o (openings (without_lanes c) p) ≡ cap c es row r) [
      | Some k ↦ λ e. let holds = found_holds (Says c es row r) (covers p r) (caps_of c es rows) k (all_say c es row r rows) e in holds.0 holds.1
      | None ↦ λ e. elim (cases_eq (cap c es row r) (openings c p)) [
        | inl usually ↦ sym usually
        | inr other ↦
            let s = has_start (cap c es row) (openings c p) r some other in
            let covered = start_covers c es row r few s in
            let le = s.before in
            let uncovered = none_covers c es row r rows within e s.start s.some (omega arith) s.begins in
            absurd cc
      ]
    ] refl

-- ---- the order of the caps

abbrev IsOver : Part → ℕ → Cap → Type 0
IsOver p r k = is_over k p r ≡ true

earlier_rows : (c : Topology) (es : List Event) (row r : ℕ) → All (IsOver (part_of_resource c row) r) (caps_of c es row)
unfolding caps_of resource_caps run_cap
earlier_rows c es row r =
    all_of_flat (IsOver (part_of_resource c row) r) (resource_caps c es) (range_with_len 0 row) (all_of_range (λ other. All (IsOver (part_of_resource c row) r) (resource_caps c es other)) 0 row (λ other from to.
    let usual : ℕ = openings c (part_of_resource c other) in
    let starts : List ℕ = run_starts (cap c es other) usual (round es) in
    All-map (IsOver (part_of_resource c row) r) (run_cap c es other) starts (λ k d lt. or_left _ _ (rows_in_order c row other (omega arith)))))

earlier_runs : (c : Topology) (es : List Event) (row before usual : ℕ) → before < round es → begins_run (cap c es row) usual (before + 1) ≡ true → All (IsOver (part_of_resource c row) (before + 1)) (map (run_cap c es row) (run_starts (cap c es row) usual before))
unfolding run_starts run_cap
earlier_runs c es row before usual lt begins =
    let p : Part = part_of_resource c row in
    All-map (IsOver p (before + 1)) (run_cap c es row) (run_starts (cap c es row) usual before)
    (all_of_filter (begins_run (cap c es row) usual) (λ first. IsOver p (before + 1) (run_cap c es row first)) (range_with_len 1 before) (all_of_range (λ first. begins_run (cap c es row) usual first ≡ true → IsOver p (before + 1) (run_cap c es row first)) 1 before (λ first low high _.
    let over = run_over (cap c es row) usual (round es) first (before + 1) low (omega arith) (omega arith) begins in
    or_right _ _ (and_from _ _ (same_part p) (lt-ltb _ _ over)))))

latest_over : (p : Part) (r : ℕ) (caps : List Cap) → All (IsOver p r) caps → is_next_cap caps p r ≡ true
latest_over p r caps h = elim (slice_get caps (length caps - 1)) as (λ o. slice_get caps (length caps - 1) ≡ o → option_map_or (λ (k : Cap). is_over k p r) o true ≡ true) [
  | None ↦ λ e. refl
  | Some k ↦ λ e. at_element (IsOver p r) caps (length caps - 1) k h e
] refl

-- the caps of a row so far
abbrev pub runs_before : Topology → List Event → ℕ → ℕ → List Cap
runs_before c es row before = map (run_cap c es row) (run_starts (cap c es row) (openings c (part_of_resource c row)) before)

-- the cap of a run comes next after those of earlier rows and runs
pub run_next : (c : Topology) (es : List Event) (row before : ℕ) → row < resource_count c → before < round es → begins_run (cap c es row) (openings c (part_of_resource c row)) (before + 1) ≡ true → (run_cap c es row (before + 1)).most ≤ 65535
    → is_cap (round es) (counts_of (without_lanes c)) (caps_of c es row ++ runs_before c es row before, run_cap c es row (before + 1)) ≡ true
unfolding is_cap run_cap
run_next c es row before within lt begins few =
    let p : Part = part_of_resource c row in
    let first : ℕ = before + 1 in
    let is = run_last_is (cap c es row) (round es) first (omega arith) in
    let over = All-append (IsOver p first) (caps_of c es row) (runs_before c es row before) (earlier_rows c es row first) (earlier_runs c es row before (openings c p) lt begins) in
    and_from _ _ (part_there c row within) (and_from _ _ (latest_over p first (caps_of c es row ++ runs_before c es row before) over)
    (and_from _ _ (le-leb 1 first (omega arith)) (and_from _ _ (le-leb first _ is.after) (and_from _ _ (le-leb _ (round es) is.within) (le-leb _ 65535 few)))))

-- ---- what the loops make

-- whether a run of a row begins, by what was found of its part
pub begins_by : (c k : Topology) (es : List Event) (row before usual : ℕ) (p : Part) (begins : Bool) → k ≡ c → p ≡ part_of_resource k row → usual ≡ openings k p → begins ≡ begins_run (cap c es row) usual (before + 1) → begins_run (cap c es row) (openings c (part_of_resource c row)) (before + 1) ≡ begins
begins_by c k es row before usual p begins same part is e =
    let here : usual ≡ openings c (part_of_resource c row) = is ∙ rw (part, same) refl in
    ap (λ (n : ℕ). begins_run (cap c es row) n (before + 1)) (sym here) ∙ sym e

-- no row has caps yet
pub caps_none : (past : Past) (r : Recorded) → r ≡ recorded_with past [] [] → r ≡ recorded_with past (caps_of past.config past.events 0) []
unfolding caps_of
caps_none past r e = e

-- no run of a row has its cap yet
pub runs_none : (past : Past) (row : ℕ) (r : Recorded) → r ≡ recorded_with past (caps_of past.config past.events row) [] → r ≡ recorded_with past (caps_of past.config past.events row ++ runs_before past.config past.events row 0) []
runs_none past row r e = e ∙ ap (λ caps. recorded_with past caps []) (sym (rw (starts_none (cap past.config past.events row) (openings past.config (part_of_resource past.config row))) (append-nil (caps_of past.config past.events row))))

-- a round begins a run, or begins none
pub runs_more : (past : Past) (row before : ℕ) (old new : Recorded) (k : Cap) → old ≡ recorded_with past (caps_of past.config past.events row ++ runs_before past.config past.events row before) [] → begins_run (cap past.config past.events row) (openings past.config (part_of_resource past.config row)) (before + 1) ≡ true → k ≡ run_cap past.config past.events row (before + 1) → new ≡ record old { caps = old.caps ++ k ∷ [] }
    → new ≡ recorded_with past (caps_of past.config past.events row ++ runs_before past.config past.events row (before + 1)) []
runs_more past row before old new k so_far begins here more =
    let c : Topology = past.config in
    let es : List Event = past.events in
    let starts : List ℕ = run_starts (cap c es row) (openings c (part_of_resource c row)) before in
    let next : runs_before c es row (before + 1) ≡ runs_before c es row before ++ run_cap c es row (before + 1) ∷ [] = ap (map (run_cap c es row)) (starts_more (cap c es row) (openings c (part_of_resource c row)) before begins) ∙ map-append (run_cap c es row) starts ((before + 1) ∷ []) in
    more ∙ rw (so_far, here) (ap (λ caps. recorded_with past caps []) (append_assoc (caps_of c es row) (runs_before c es row before) (run_cap c es row (before + 1) ∷ []) ∙ ap (λ caps. caps_of c es row ++ caps) (sym next)))

pub runs_same : (past : Past) (row before : ℕ) (r : Recorded) → r ≡ recorded_with past (caps_of past.config past.events row ++ runs_before past.config past.events row before) [] → begins_run (cap past.config past.events row) (openings past.config (part_of_resource past.config row)) (before + 1) ≡ false
    → r ≡ recorded_with past (caps_of past.config past.events row ++ runs_before past.config past.events row (before + 1)) []
runs_same past row before r so_far begins = rw (starts_same (cap past.config past.events row) (openings past.config (part_of_resource past.config row)) before begins) so_far

-- all runs of a row have theirs
pub runs_all : (past : Past) (row : ℕ) (r : Recorded) → r ≡ recorded_with past (caps_of past.config past.events row ++ runs_before past.config past.events row (round past.events)) [] → r ≡ recorded_with past (caps_of past.config past.events (row + 1)) []
unfolding caps_of resource_caps
runs_all past row r e =
    let c : Topology = past.config in
    let es : List Event = past.events in
    let rows : flat_map (resource_caps c es) (range_with_len 0 (row + 1)) ≡ flat_map (resource_caps c es) (range_with_len 0 row) ++ resource_caps c es row = ap (flat_map (resource_caps c es)) (range_more 0 row) ∙ flat_map-append (resource_caps c es) (range_with_len 0 row) ((0 + row) ∷ []) ∙ last_row c es row in
    e ∙ ap (λ caps. recorded_with past caps []) (sym rows)
  where
    last_row : (c : Topology) (es : List Event) (row : ℕ) → flat_map (resource_caps c es) (range_with_len 0 row) ++ flat_map (resource_caps c es) ((0 + row) ∷ []) ≡ flat_map (resource_caps c es) (range_with_len 0 row) ++ resource_caps c es row
    last_row c es row = let at : 0 + row ≡ row = omega arith in ap (λ caps. flat_map (resource_caps c es) (range_with_len 0 row) ++ caps) (ap (λ n. flat_map (resource_caps c es) (n ∷ [])) at ∙ append-nil (resource_caps c es row))
