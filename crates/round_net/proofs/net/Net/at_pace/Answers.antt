use Rattle.std.proofs.Common.{◌≡◌, ◌≤◌, ◌*◌, ◌∙◌, ℕ, All, length, slice_index, sym, ap, subst, List}
use Rattle.std.proofs.lemmas.Result.{IfOk-weaker}
use Rattle.round_net.specs.declared.limits.TheConstants.{MAX_CAP}
use Rattle.round_net.specs.Instance.{rows}
use Rattle.round_net.specs.Pace.{pace_cap, with_caps, at_pace, instance_at_pace}
use Rattle.round_net.specs.Rows.{cell, instance_of_rows, live_of_rows}
use Rattle.round_net.specs.Schedules.{IsAdmissible, load, cost}
use Rattle.round_net.proofs.LoadListLemmas.{loads_same}
use Rattle.round_net.proofs.PaceLemmas.{caps_at_pace, caps_by_rounds, by_caps, small_at_pace, held_at_pace, live_at_pace, admissible_at_pace, cost_at_pace}
use Rattle.round_net.proofs.TableLemmas.{length-cells}
use Rattle.round_net.proofs.net.Net.at_pace.Goals as goal

pub waiting-requires-clause-arrived : goal.waiting-requires-clause-arrived
waiting-requires-clause-arrived c =
    let net = instance_of_rows c.args.self.now in
    rw (c.deref-3.ensures.value) (loads_same net (slice_index c.deref-2.result.now) net.arrival c.in_ok-arrived.arrived.items (rw (← c.deref-2.ensures.value) at c.in_ok-arrivals.ensures.each) c.in_ok-arrived.ensures)

pub waiting-requires-clause-sent : goal.waiting-requires-clause-sent
waiting-requires-clause-sent c =
    let net = instance_of_rows c.args.self.now in
    rw (c.deref-4.ensures.value) (loads_same net (slice_index c.deref.result.now) (live_of_rows c.args.self.now) c.in_ok-sent.sent.items (rw (← c.deref.ensures.value) at c.in_ok-live_rounds.ensures.each) c.in_ok-sent.ensures)

pub pace_caps-requires-clause-sent : goal.pace_caps-requires-clause-sent
pace_caps-requires-clause-sent c =
    let net = instance_of_rows c.args.self.now in
    rw (c.deref-5.ensures.value) (loads_same net (slice_index c.deref.result.now) (live_of_rows c.args.self.now) c.in_ok-sent.sent.items (rw (← c.deref.ensures.value) at c.in_ok-live_rounds.ensures.each) c.in_ok-sent.ensures)

pub with_caps-requires-clause-cells : goal.with_caps-requires-clause-cells
with_caps-requires-clause-cells c =
    let net = instance_of_rows c.args.self.now in
    ap length c.in_ok-pace_caps.ensures ∙ length-cells net.rounds (pace_cap net (live_of_rows c.args.self.now)) (rows net * net.rounds)

pub with_caps-requires-clause-small : goal.with_caps-requires-clause-small
with_caps-requires-clause-small c =
    let same : c.in_ok-pace_caps.field-0.items ≡ caps_at_pace c.args.self.now = caps_by_rounds c.args.self.now c.in_ok-pace_caps.field-0.items c.in_ok-pace_caps.ensures in
    subst (λ (caps : List ℕ). All (λ cap. cap ≤ MAX_CAP) caps) (sym same) (small_at_pace c.args.self.now c.rounds-rounds.ensures.sound)

pub with_caps-requires-clause-held : goal.with_caps-requires-clause-held
with_caps-requires-clause-held c = λ row r within first last.
    let same : c.in_ok-pace_caps.field-0.items ≡ caps_at_pace c.args.self.now = caps_by_rounds c.args.self.now c.in_ok-pace_caps.field-0.items c.in_ok-pace_caps.ensures in
    let net = instance_of_rows c.args.self.now in
    subst (λ (caps : List ℕ). load net (live_of_rows c.args.self.now) row r ≤ slice_index caps (cell net.rounds row r)) (sym same) (held_at_pace c.args.self.now row r c.rounds-rounds.ensures.sound within first last)

pub returns-clause-net : goal.returns-clause-net
returns-clause-net c =
    IfOk-weaker c.with_caps.result (λ net. net ≡ with_caps c.args.self.now c.in_ok-pace_caps.field-0.items) (λ net. net ≡ at_pace c.args.self.now) (λ net is. is ∙ by_caps c.args.self.now c.in_ok-pace_caps.field-0.items c.in_ok-pace_caps.ensures) c.with_caps.ensures

pub returns-clause-live : goal.returns-clause-live
returns-clause-live c =
    IfOk-weaker c.with_caps.result (λ net. net ≡ with_caps c.args.self.now c.in_ok-pace_caps.field-0.items) (λ _. IsAdmissible (instance_at_pace c.args.self.now) (live_of_rows c.args.self.now)) (λ net is. live_at_pace c.args.self.now c.rounds-rounds.ensures.sound) c.with_caps.ensures

pub returns-clause-within : goal.returns-clause-within
returns-clause-within c =
    IfOk-weaker c.with_caps.result (λ net. net ≡ with_caps c.args.self.now c.in_ok-pace_caps.field-0.items) (λ _. (f : ℕ → ℕ) → IsAdmissible (instance_at_pace c.args.self.now) f → IsAdmissible (instance_of_rows c.args.self.now) f)
    (λ net is f fits. admissible_at_pace c.args.self.now f c.rounds-rounds.ensures.sound fits) c.with_caps.ensures

pub returns-clause-cost : goal.returns-clause-cost
returns-clause-cost c =
    IfOk-weaker c.with_caps.result (λ net. net ≡ with_caps c.args.self.now c.in_ok-pace_caps.field-0.items) (λ _. (f : ℕ → ℕ) → cost (instance_at_pace c.args.self.now) f ≡ cost (instance_of_rows c.args.self.now) f) (λ net is f. cost_at_pace c.args.self.now f) c.with_caps.ensures
