-- what the freezes of a kind cost is what stays waited for its cause
use Rattle.std.proofs.Common.{◌≡◌, ℕ, suc, ◌+◌, ◌-◌, ◌*◌, ◌<◌, ◌≤◌, Bool, true, false, cond, List, [], ◌∷◌, ◌++◌, map, length, refl, sym, ap, ◌∙◌, arith, append-nil, Some, None, zip, filter, flat_map, count_by, sum_by, slice_get, ◌==◌, ◌&&◌, nat_le, nat_lt, All, if◌then◌else◌}
use Rattle.std.specs.List.{range_with_len}
use Rattle.std.specs.Option.{option_map_or}
use Rattle.std.proofs.lemmas.Bool.{and_parts, eqb-true}
use Rattle.std.proofs.lemmas.List.Elements.{All-cons, filter-append}
use Rattle.std.proofs.lemmas.List.Sums.{sum_by-cons}
use Rattle.round_net.proofs.CountLemmas.{count_by-cons}
use Rattle.round_net.proofs.WindowLemmas.{IsInWindow, windows-legal}
use Rattle.wait_causes.specs.Words.{Topology, IsConfig, device_adapter, round, history_rules, is_legal, live_round, stays_begun, Event, Passage, round_ends, cause_at, numbers, is_frozen_at, is_cause, FreezeKind}
use Rattle.cam_types.proofs.ConfigLemmas.{bus-there}
use Rattle.event_rules.proofs.LimitLemmas.{round_first}
use Rattle.round_net.proofs.WindowLemmas.{live_round-le}
use Rattle.wait_causes.specs.Causes.{round_cause}
use Rattle.wait_causes.specs.Freezes.{is_frozen_in, begins, rounds_between, cause_of, grouping_of, waits_for, stay_cost, cost_in, freeze_from, freezes_at, freezes_by, freezes_of, freezes, is_kind, cost_of, Freeze}
use Rattle.wait_causes.specs.Parts.{rounds_for, measure, Cost}
use Rattle.wait_causes.specs.Stays.{explained_stay, explained_stays, ExplainedStay}
use Rattle.wait_causes.specs.Tables.{number, stays_of}
use Rattle.round_net.specs.declared.cause.WaitCause as waiting
use Rattle.round_net.specs.declared.cause.WaitCause.TheVariants as why
use Rattle.round_net.specs.declared.freeze_kind.FreezeKind.TheVariants.{Error, Caller, Adapter}
use Rattle.wait_causes.proofs.CostLemmas.{runs_cost, written_out, count_passed, count_waits, sum_flat, sum_same, sum_numbers}
use Rattle.wait_causes.proofs.StayLemmas.{devices_in_range}

-- the first that holds
first_of : (a b e f g h : Bool) → waiting.WaitCause
first_of a b e f g h =
    if a then why.Error
    else if b then why.Caller
    else if e then why.AdapterFrozen
    else if f then why.DeviceFull
    else if g then why.AdapterFull
    else if h then why.LinkFull
    else why.NotAsked

-- one after these is none that a freeze has
full_or_not : (kind : FreezeKind) (f g h : Bool) → is_cause (cause_of kind) (first_of false false false f g h) ≡ true → false ≡ true
unfolding first_of
full_or_not Error true g h is = is
full_or_not Error false true h is = is
full_or_not Error false false true is = is
full_or_not Error false false false is = is
full_or_not Caller true g h is = is
full_or_not Caller false true h is = is
full_or_not Caller false false true is = is
full_or_not Caller false false false is = is
full_or_not Adapter true g h is = is
full_or_not Adapter false true h is = is
full_or_not Adapter false false true is = is
full_or_not Adapter false false false is = is

error_held : (a b e f g h : Bool) → is_cause why.Error (first_of a b e f g h) ≡ true → a ≡ true
unfolding first_of
error_held true b e f g h is = refl
error_held false true e f g h is = is
error_held false false true f g h is = is
error_held false false false f g h is = full_or_not Error f g h is

caller_held : (a b e f g h : Bool) → is_cause why.Caller (first_of a b e f g h) ≡ true → b ≡ true
unfolding first_of
caller_held a true e f g h is = refl
caller_held true false e f g h is = is
caller_held false false true f g h is = is
caller_held false false false f g h is = full_or_not Caller f g h is

adapter_held : (a b e f g h : Bool) → is_cause why.AdapterFrozen (first_of a b e f g h) ≡ true → e ≡ true
unfolding first_of
adapter_held a b true f g h is = refl
adapter_held true b false f g h is = is
adapter_held false true false f g h is = is
adapter_held false false false f g h is = full_or_not Adapter f g h is

-- a device, or its adapter
abbrev pub holder : FreezeKind → Topology → ℕ → ℕ
holder Error c d = d
holder Caller c d = d
holder Adapter c d = device_adapter c d

held_at : (kind : FreezeKind) (c : Topology) (before : List Event) (d : ℕ) → is_cause (cause_of kind) (cause_at c before d) ≡ true → is_frozen_at kind before (holder kind c d) ≡ true
unfolding cause_at first_of
held_at Error c before d is = error_held _ _ _ _ _ _ is
held_at Caller c before d is = caller_held _ _ _ _ _ _ is
held_at Adapter c before d is = adapter_held _ _ _ _ _ _ is

none_held : (kind : FreezeKind) → is_cause (cause_of kind) why.NotAsked ≡ true → false ≡ true
none_held Error is = is
none_held Caller is = is
none_held Adapter is = is

-- a stay waits for a freeze in no other rounds than those at whose ends it holds
held_in : (kind : FreezeKind) (c : Topology) (es : List Event) (d r : ℕ) → is_cause (cause_of kind) (round_cause c es d r) ≡ true → is_frozen_in kind es (holder kind c d) r ≡ true
unfolding round_cause is_frozen_in
held_in kind c es d r is = elim (slice_get (round_ends es) (r - 1)) as (λ o. is_cause (cause_of kind) (option_map_or (λ before. cause_at c before d) o why.NotAsked) ≡ true → option_map_or (λ before. is_frozen_at kind before (holder kind c d)) o false ≡ true) [
  | None ↦ λ h. none_held kind h
  | Some before ↦ λ h. held_at kind c before d h
] is

number_is : (kind : FreezeKind) (c : Topology) (es : List Event) (p : Passage) (best : ℕ) → number (grouping_of kind) (explained_stay c es p best) ≡ holder kind c p.device
unfolding explained_stay
number_is Error c es p best = refl
number_is Caller c es p best = refl
number_is Adapter c es p best = refl

count-map : (p : waiting.WaitCause → Bool) (f : ℕ → waiting.WaitCause) (xs : List ℕ) → count_by p (map f xs) ≡ count_by (λ x. p (f x)) xs
count-map p f [] = refl
count-map p f (x ∷ xs) = count_by-cons p (f x) (map f xs) ∙ ap (λ n. cond (p (f x)) 1 0 + n) (count-map p f xs) ∙ sym (count_by-cons (λ x. p (f x)) x xs)

rounds_are : (kind : FreezeKind) (c : Topology) (es : List Event) (p : Passage) (best : ℕ) → count_by (is_cause (cause_of kind)) (map (round_cause c es p.device) (range_with_len p.arrival (live_round es p - p.arrival))) ≡ rounds_for (cause_of kind) (explained_stay c es p best).rounds
unfolding explained_stay
rounds_are Error c es p best = refl
rounds_are Caller c es p best = refl
rounds_are Adapter c es p best = refl

-- what is counted of a stay in the rounds at whose ends its device or adapter was frozen
abbrev pub Counted : FreezeKind → Topology → List Event → ExplainedStay → Type 0
Counted kind c es s =
    count_by (waits_for (round_cause c es) (cause_of kind) s) (filter (is_frozen_in kind es (number (grouping_of kind) s)) (rounds_between 1 (round es))) ≡ rounds_for (cause_of kind) s.rounds

counted : (kind : FreezeKind) (c : Topology) (es : List Event) (p : Passage) (best : ℕ) → 1 ≤ p.arrival → Counted kind c es (explained_stay c es p best)
unfolding explained_stay
counted kind c es p best some =
    let s : ExplainedStay = explained_stay c es p best in
    count_passed (waits_for (round_cause c es) (cause_of kind) s) (is_frozen_in kind es (number (grouping_of kind) s)) (rounds_between 1 (round es))
    (λ r e. ap (λ n. is_frozen_in kind es n r) (number_is kind c es p best)
    ∙ held_in kind c es p.device r (and_parts (nat_lt r s.live) (is_cause (cause_of kind) (round_cause c es p.device r)) (and_parts (nat_le s.arrival r) (nat_lt r s.live && is_cause (cause_of kind) (round_cause c es p.device r)) e).1).1)
    ∙ count_waits (λ r. is_cause (cause_of kind) (round_cause c es p.device r)) p.arrival (live_round es p) 1 (round es - 1) some (omega (arith, live_round-le es p, round_first es))
    ∙ sym (count-map (is_cause (cause_of kind)) (round_cause c es p.device) (range_with_len p.arrival (live_round es p - p.arrival)))
    ∙ rounds_are kind c es p best

each_stay : (c : Topology) (es : List Event) (R : Passage → Type 0) (P : ExplainedStay → Type 0) → ((p : Passage) (b : ℕ) → R p → P (explained_stay c es p b)) → (ps : List Passage) (best : List ℕ) → All R ps → All P (map (λ (m : Passage × ℕ). explained_stay c es m.0 m.1) (zip ps best))
each_stay c es R P f [] best all = λ k d lt. absurd (omega arith)
each_stay c es R P f (p ∷ ps) [] all = λ k d lt. absurd (omega arith)
each_stay c es R P f (p ∷ ps) (b ∷ bs) all =
    All-cons P (explained_stay c es p b) (map (λ (m : Passage × ℕ). explained_stay c es m.0 m.1) (zip ps bs)) (f p b (all 0 p (omega arith)))
    (each_stay c es R P f ps bs (λ k d lt. all (suc k) d (omega arith)))

-- the stays of a number cost what they waited
there_step : (kind : FreezeKind) (c : Topology) (es : List Event) (n : ℕ) (s : ExplainedStay) (rest : List ExplainedStay) (b : Bool) → (number (grouping_of kind) s == n) ≡ b → Counted kind c es s →
    cost_in (round_cause c es) (cause_of kind) (filter (is_frozen_in kind es n) (rounds_between 1 (round es))) rest ≡ sum_by (measure (Cost (cause_of kind))) rest →
    cost_in (round_cause c es) (cause_of kind) (filter (is_frozen_in kind es n) (rounds_between 1 (round es))) (cond b (s ∷ rest) rest) ≡ sum_by (measure (Cost (cause_of kind))) (cond b (s ∷ rest) rest)
unfolding cost_in
there_step kind c es n s rest false is all next = next
there_step kind c es n s rest true is all next =
    let same = eqb-true (number (grouping_of kind) s) n is in
    let one : count_by (waits_for (round_cause c es) (cause_of kind) s) (filter (is_frozen_in kind es n) (rounds_between 1 (round es))) ≡ rounds_for (cause_of kind) s.rounds =
    ap (λ k. count_by (waits_for (round_cause c es) (cause_of kind) s) (filter (is_frozen_in kind es k) (rounds_between 1 (round es)))) (sym same) ∙ all in
    sum_by-cons (stay_cost (round_cause c es) (cause_of kind) (filter (is_frozen_in kind es n) (rounds_between 1 (round es)))) s rest
    ∙ ap (λ k. s.weight * k + cost_in (round_cause c es) (cause_of kind) (filter (is_frozen_in kind es n) (rounds_between 1 (round es))) rest) one
    ∙ ap (λ k. s.weight * rounds_for (cause_of kind) s.rounds + k) next
    ∙ sym (sum_by-cons (measure (Cost (cause_of kind))) s rest)

there_cost : (kind : FreezeKind) (c : Topology) (es : List Event) (n : ℕ) (stays : List ExplainedStay) → All (Counted kind c es) stays →
    cost_in (round_cause c es) (cause_of kind) (filter (is_frozen_in kind es n) (rounds_between 1 (round es))) (stays_of (grouping_of kind) stays n) ≡ sum_by (measure (Cost (cause_of kind))) (stays_of (grouping_of kind) stays n)
unfolding cost_in
there_cost kind c es n [] all = refl
there_cost kind c es n (s ∷ ss) all =
    there_step kind c es n s (stays_of (grouping_of kind) ss n) (number (grouping_of kind) s == n) refl (all 0 s (omega arith)) (there_cost kind c es n ss (λ k d lt. all (suc k) d (omega arith)))

number_there : (kind : FreezeKind) (c : Topology) (d : ℕ) → IsConfig c → d < length c.devices → holder kind c d < numbers kind c
number_there Error c d kept lt = lt
number_there Caller c d kept lt = lt
number_there Adapter c d kept lt = bus-there c d kept lt

pub kind_adds_up : (kind : FreezeKind) (c : Topology) (es : List Event) (best : List ℕ) → IsConfig c → is_legal history_rules c es ≡ true →
    sum_by (λ (f : Freeze). f.cost) (freezes_of kind c es (explained_stays c es best)) ≡ sum_by (measure (Cost (cause_of kind))) (explained_stays c es best)
unfolding freezes_by freezes_at explained_stays
kind_adds_up kind c es best kept legal =
    let windows = windows-legal history_rules c es legal in
    let all_counted = each_stay c es (IsInWindow es) (Counted kind c es) (λ p b w. counted kind c es p b w.first) (stays_begun es) best windows.each in
    let all_there = each_stay c es (λ (p : Passage). p.device < length c.devices) (λ (s : ExplainedStay). number (grouping_of kind) s < numbers kind c)
    (λ p b lt. omega (arith, number_is kind c es p b, number_there kind c p.device kept lt)) (stays_begun es) best (devices_in_range history_rules c es legal) in
    sum_flat (λ (f : Freeze). f.cost) (λ n. freezes_at kind n (is_frozen_in kind es n) (round es) (round_cause c es) (stays_of (grouping_of kind) (explained_stays c es best) n)) (range_with_len 0 (numbers kind c))
    ∙ sum_same (λ n. sum_by (λ (f : Freeze). f.cost) (freezes_at kind n (is_frozen_in kind es n) (round es) (round_cause c es) (stays_of (grouping_of kind) (explained_stays c es best) n)))
    (λ n. sum_by (measure (Cost (cause_of kind))) (stays_of (grouping_of kind) (explained_stays c es best) n)) 0 (numbers kind c)
    (λ n lt. runs_cost kind n (is_frozen_in kind es n) (round es) (round_cause c es) (stays_of (grouping_of kind) (explained_stays c es best) n) (filter (begins (is_frozen_in kind es n)) (rounds_between 1 (round es)))
    ∙ ap (λ rs. cost_in (round_cause c es) (cause_of kind) rs (stays_of (grouping_of kind) (explained_stays c es best) n)) (written_out (is_frozen_in kind es n) (round es) (round_first es))
    ∙ there_cost kind c es n (explained_stays c es best) all_counted)
    ∙ sum_numbers (number (grouping_of kind)) (measure (Cost (cause_of kind))) (numbers kind c) (explained_stays c es best) all_there

-- the freezes of a kind among others
kept_map : (want kind : FreezeKind) (n : ℕ) (frozen : ℕ → Bool) (last : ℕ) (causes : ℕ → ℕ → waiting.WaitCause) (there : List ExplainedStay) (b : Bool) → is_kind want kind ≡ b → (rs : List ℕ) →
    filter (λ (f : Freeze). is_kind want f.kind) (map (freeze_from kind n frozen last causes there) rs) ≡ cond b (map (freeze_from kind n frozen last causes there) rs) []
unfolding freeze_from
kept_map want kind n frozen last causes there true is [] = refl
kept_map want kind n frozen last causes there false is [] = refl
kept_map want kind n frozen last causes there true is (r ∷ rs) = rw is (ap (λ xs. freeze_from kind n frozen last causes there r ∷ xs) (kept_map want kind n frozen last causes there true is rs))
kept_map want kind n frozen last causes there false is (r ∷ rs) = rw is (kept_map want kind n frozen last causes there false is rs)

kept_flat : (p : Freeze → Bool) (f : ℕ → List Freeze) (b : Bool) → ((n : ℕ) → filter p (f n) ≡ cond b (f n) []) → (ns : List ℕ) → filter p (flat_map f ns) ≡ cond b (flat_map f ns) []
kept_flat p f true each [] = refl
kept_flat p f false each [] = refl
kept_flat p f true each (n ∷ ns) = filter-append p (f n) (flat_map f ns) ∙ ap (λ xs. xs ++ filter p (flat_map f ns)) (each n) ∙ ap (λ xs. f n ++ xs) (kept_flat p f true each ns)
kept_flat p f false each (n ∷ ns) = filter-append p (f n) (flat_map f ns) ∙ ap (λ xs. xs ++ filter p (flat_map f ns)) (each n) ∙ kept_flat p f false each ns

kept_kind : (want kind : FreezeKind) (c : Topology) (es : List Event) (stays : List ExplainedStay) (b : Bool) → is_kind want kind ≡ b →
    filter (λ (f : Freeze). is_kind want f.kind) (freezes_of kind c es stays) ≡ cond b (freezes_of kind c es stays) []
unfolding freezes_by freezes_at
kept_kind want kind c es stays b is =
    kept_flat (λ (f : Freeze). is_kind want f.kind) (λ n. freezes_at kind n (is_frozen_in kind es n) (round es) (round_cause c es) (stays_of (grouping_of kind) stays n)) b
    (λ n. kept_map want kind n (is_frozen_in kind es n) (round es) (round_cause c es) (stays_of (grouping_of kind) stays n) b is (filter (begins (is_frozen_in kind es n)) (rounds_between 1 (round es))))
    (range_with_len 0 (numbers kind c))

apart : (want : FreezeKind) (c : Topology) (es : List Event) (stays : List ExplainedStay) → filter (λ (f : Freeze). is_kind want f.kind) (freezes c es stays)
    ≡ cond (is_kind want Error) (freezes_of Error c es stays) [] ++ cond (is_kind want Caller) (freezes_of Caller c es stays) [] ++ cond (is_kind want Adapter) (freezes_of Adapter c es stays) []
unfolding freezes
apart want c es stays =
    filter-append (λ (f : Freeze). is_kind want f.kind) (freezes_of Error c es stays ++ freezes_of Caller c es stays) (freezes_of Adapter c es stays)
    ∙ rw (filter-append (λ (f : Freeze). is_kind want f.kind) (freezes_of Error c es stays) (freezes_of Caller c es stays), kept_kind want Error c es stays (is_kind want Error) refl, kept_kind want Caller c es stays (is_kind want Caller) refl, kept_kind want Adapter c es stays (is_kind want Adapter) refl) refl

own : (want : FreezeKind) (c : Topology) (es : List Event) (stays : List ExplainedStay) → filter (λ (f : Freeze). is_kind want f.kind) (freezes c es stays) ≡ freezes_of want c es stays
own Error c es stays = apart Error c es stays ∙ append-nil (freezes_of Error c es stays ++ []) ∙ append-nil (freezes_of Error c es stays)
own Caller c es stays = apart Caller c es stays ∙ append-nil (freezes_of Caller c es stays)
own Adapter c es stays = apart Adapter c es stays

pub costs_add_up : (kind : FreezeKind) (c : Topology) (es : List Event) (best : List ℕ) → IsConfig c → is_legal history_rules c es ≡ true →
    cost_of kind (freezes c es (explained_stays c es best)) ≡ sum_by (measure (Cost (cause_of kind))) (explained_stays c es best)
unfolding cost_of
costs_add_up kind c es best kept legal = ap (sum_by (λ (f : Freeze). f.cost)) (own kind c es (explained_stays c es best)) ∙ kind_adds_up kind c es best kept legal
