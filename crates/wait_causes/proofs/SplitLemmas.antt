-- what stays waited behind, and the rounds in which rows were full
use Rattle.std.proofs.Common.{◌≡◌, ℕ, zero, suc, ◌+◌, ◌-◌, ◌*◌, cond, List, [], ◌∷◌, map, refl, ap, arith, zip, All, mul-add, Option, Some, None, ◌==◌}
use Rattle.std.specs.List.{range_with_len}
use Rattle.std.specs.Option.{option_map_or}
use Rattle.std.proofs.lemmas.List.Elements.{All-filter}
use Rattle.std.proofs.lemmas.List.Sums.{sum_by-cons}
use Rattle.cam_types.specs.Lists.{prefixed}
use Rattle.recording_file.specs.Recorded.{Recorded}
use Rattle.recording_file.specs.declared.request.Request.{Request}
use Rattle.round_net.proofs.CountLemmas.{count_by-cons}
use Rattle.round_net.specs.Instance.{Instance}
use Rattle.wait_causes.specs.Words.{Topology, weight, live_round, stays_begun, Event, Passage, is_cause, WaitCause, Error, Caller, AdapterFrozen, DeviceStopped, AdapterStopped, LinkStopped, DeviceFull, AdapterFull, LinkFull, NotAsked}
use Rattle.wait_causes.specs.Behind.{is_full, full_row, behind_row, behind_in, is_behind, behind_by, all_behind, Behind, LessUrgent, Equal, MoreUrgent}
use Rattle.wait_causes.specs.BehindLaws.{IsSplit, IsSplitPart, BehindAddsUp}
use Rattle.wait_causes.specs.Origins.{Origin, Known, known_of, cause_of, instance_in, live_in}
use Rattle.wait_causes.specs.declared.origin.Origin.TheVariants as origin
use Rattle.wait_causes.specs.Parts.{measure, part_of, costs_of, behind_costs, full_costs, all_behind_costs, Cost, Full}
use Rattle.wait_causes.specs.Stays.{rounds_by, full_rounds, explained, explained_stay, explained_stays, explained_request, explained_requests, ExplainedStay}
use Rattle.wait_causes.specs.Tables.{number, stays_of}

-- one round
abbrev pub ones : Option Behind → ℕ
ones b = cond (is_behind LessUrgent b) 1 0 + cond (is_behind Equal b) 1 0 + cond (is_behind MoreUrgent b) 1 0

abbrev pub fulls : WaitCause → ℕ
fulls c = cond (is_cause DeviceFull c) 1 0 + cond (is_cause AdapterFull c) 1 0 + cond (is_cause LinkFull c) 1 0

one_some : (b : Behind) → ones (Some b) ≡ 1
one_some LessUrgent = refl
one_some Equal = refl
one_some MoreUrgent = refl

one_round : (c : WaitCause) (b : Behind) → ones (cond (is_full c) (Some b) None) ≡ fulls c
one_round Error b = refl
one_round Caller b = refl
one_round AdapterFrozen b = refl
one_round DeviceStopped b = refl
one_round AdapterStopped b = refl
one_round LinkStopped b = refl
one_round DeviceFull b = one_some b
one_round AdapterFull b = one_some b
one_round LinkFull b = one_some b
one_round NotAsked b = refl

-- the rounds of a stay
rounds_split : (net : Instance) (live : ℕ → ℕ) (causes : ℕ → ℕ → WaitCause) (d w : ℕ) (rounds : List ℕ) →
    all_behind (behind_by (map (behind_in net live causes d w) rounds)) ≡ full_rounds (rounds_by (map (causes d) rounds))
rounds_split net live causes d w [] = refl
rounds_split net live causes d w (r ∷ rs) =
    let b : Option Behind = behind_in net live causes d w r in
    let bs : List (Option Behind) = map (behind_in net live causes d w) rs in
    let c : WaitCause = causes d r in
    let cs : List WaitCause = map (causes d) rs in
    let here : ones b ≡ fulls c = one_round c (option_map_or (behind_row net live w r) (full_row net d c) MoreUrgent) in
    omega (
      arith,
      here,
      rounds_split net live causes d w rs,
      count_by-cons (is_behind LessUrgent) b bs,
      count_by-cons (is_behind Equal) b bs,
      count_by-cons (is_behind MoreUrgent) b bs,
      count_by-cons (is_cause DeviceFull) c cs,
      count_by-cons (is_cause AdapterFull) c cs,
      count_by-cons (is_cause LinkFull) c cs,
    )

history_split : (c : Topology) (es : List Event) (zs : List (Passage × ℕ)) → All IsSplit (map (λ (m : Passage × ℕ). explained_stay c es m.0 m.1) zs)
unfolding explained_stay
history_split c es [] k d lt = absurd (omega arith)
history_split c es (m ∷ zs) zero d lt =
    let o : Origin = origin.Trace (record { config = c; events = es }) in
    rounds_split (instance_in o) (live_in o) (cause_of o) m.0.device (weight c m.0.priority) (range_with_len m.0.arrival (live_round es m.0 - m.0.arrival))
history_split c es (m ∷ zs) (suc k) d lt = history_split c es zs k d (omega arith)

recording_split : (r : Recorded) (zs : List ((List Request × Request) × (ℕ × ℕ))) → All IsSplit (map (λ (m : (List Request × Request) × (ℕ × ℕ)). explained_request r m.0 m.1) zs)
unfolding explained_request
recording_split r [] k d lt = absurd (omega arith)
recording_split r (m ∷ zs) zero d lt =
    let o : Origin = origin.Recording r in
    rounds_split (instance_in o) (live_in o) (cause_of o) m.0.1.device (weight r.config m.0.1.priority) (range_with_len m.0.1.arrival (m.0.1.sent - m.0.1.arrival))
recording_split r (m ∷ zs) (suc k) d lt = recording_split r zs k d (omega arith)

all_split : (o : Origin) (pace best : List ℕ) → All IsSplit (explained o pace best)
unfolding explained_stays explained_requests
all_split (origin.Trace past) pace best = history_split past.config past.events (zip (stays_begun past.events) best)
all_split (origin.Recording r) pace best = recording_split r (zip (prefixed r.requests) (zip pace best))

-- a weight times each of three, all together
weighed : (w a b c d e f : ℕ) → a + b + c ≡ d + e + f → w * a + w * b + w * c ≡ w * d + w * e + w * f
weighed w a b c d e f all =
    omega (arith, ap (λ k. w * k) all, mul-add w (a + b) c, mul-add w a b, mul-add w (d + e) f, mul-add w d e)

costs_split : (xs : List ExplainedStay) → All IsSplit xs → all_behind_costs (behind_costs xs) ≡ full_costs (costs_of xs)
costs_split [] all = refl
costs_split (x ∷ xs) all =
    let rest = costs_split xs (λ k d lt. all (suc k) d (omega arith)) in
    let one = weighed x.weight x.behind.less_urgent x.behind.equal x.behind.more_urgent x.rounds.device_full x.rounds.adapter_full x.rounds.link_full (all 0 x (omega arith)) in
    omega (
      arith,
      rest,
      one,
      sum_by-cons (measure (Full LessUrgent)) x xs,
      sum_by-cons (measure (Full Equal)) x xs,
      sum_by-cons (measure (Full MoreUrgent)) x xs,
      sum_by-cons (measure (Cost DeviceFull)) x xs,
      sum_by-cons (measure (Cost AdapterFull)) x xs,
      sum_by-cons (measure (Cost LinkFull)) x xs,
    )

part_split : (known : Known) (xs : List ExplainedStay) → All IsSplit xs → IsSplitPart (part_of known xs)
unfolding part_of
part_split known xs all = costs_split xs all

-- a part of all stays is split
pub whole_split : (o : Origin) (pace best : List ℕ) → IsSplitPart (part_of (known_of o) (explained o pace best))
whole_split o pace best = part_split (known_of o) (explained o pace best) (all_split o pace best)

pub split_law : BehindAddsUp
split_law o pace best = (all_split o pace best, λ by n. part_split (known_of o) (stays_of by (explained o pace best) n) (All-filter (λ s. number by s == n) IsSplit (explained o pace best) (all_split o pace best)))
