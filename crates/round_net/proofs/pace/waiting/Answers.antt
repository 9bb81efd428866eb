use Rattle.std.proofs.Common.{◌≡◌, ◌≤◌, ◌<◌, ◌+◌, ◌*◌, ◌/◌, ◌%◌, ◌∙◌, ℕ, sym, ap, arith}
use Rattle.round_net.specs.Rows.{instance_of_rows, live_of_rows}
use Rattle.round_net.specs.Pace.{waiting}
use Rattle.round_net.proofs.PaceLemmas.{waiting_begun, waiting_next, next_place, first_place}
use Rattle.round_net.proofs.RecordedLemmas.{cells_none, cells_more}
use Rattle.round_net.proofs.pace.waiting.Goals as goal
use Rattle.round_net.proofs.pace.waiting.Goals.{then-at-rounds-eq0, else-at-rounds-eq0}

pub loop-at-init : goal.loop-at-init
loop-at-init c =
    let net = instance_of_rows c.args.net.now in
    let live = live_of_rows c.args.net.now in
    let some : 1 ≤ c.rounds-rounds.result = rw c.rounds-rounds.ensures.same c.rounds-rounds.ensures.sound.some_rounds in
    record {
      so_far = cells_none c.rounds-rounds.result (waiting net live) c.in_ok-counts.counts.items c.in_ok-counts.ensures.items;
      count = λ more. absurd (omega (arith, first_place c.rounds-rounds.result some));
    }

pub overflow_add-count : goal.overflow_add-count
overflow_add-count c =
    let net = instance_of_rows c.args.net.now in
    let live = live_of_rows c.args.net.now in
    let sound = c.rounds-rounds.ensures.sound in
    let at : ℕ = c.loop-at.at in
    let q : ℕ = at % net.rounds in
    let rounds = c.rounds-rounds.ensures.same in
    let lt : at < net.devices * net.rounds = rw (c.devices.ensures.same, rounds) at c.loop-at-test.true in
    let count : c.if-at-rounds-eq0.count ≡ waiting net live (at / net.rounds) q = elim c.if-at-rounds-eq0.branch [
      | then-at-rounds-eq0 w ↦ waiting_begun net live (at / net.rounds) q c.if-at-rounds-eq0.count sound.from_first (rw rounds at w.if-at-rounds-eq0.true) w.count-is
      | else-at-rounds-eq0 w ↦ let some : 0 < q = (let other = rw rounds at w.if-at-rounds-eq0.false in omega arith) in w.count-is ∙ (rw rounds at c.loop-at.invariant.count) some
    ] in
    let step = waiting_next net live c.args.arrived.now c.args.sent.now at c.if-at-rounds-eq0.count sound c.requires.arrived c.requires.sent lt count in
    let few = sound.few_stays in
    omega (arith, step.few)

pub overflow_sub-count : goal.overflow_sub-count
overflow_sub-count c =
    let net = instance_of_rows c.args.net.now in
    let live = live_of_rows c.args.net.now in
    let sound = c.rounds-rounds.ensures.sound in
    let at : ℕ = c.loop-at.at in
    let q : ℕ = at % net.rounds in
    let rounds = c.rounds-rounds.ensures.same in
    let lt : at < net.devices * net.rounds = rw (c.devices.ensures.same, rounds) at c.loop-at-test.true in
    let count : c.if-at-rounds-eq0.count ≡ waiting net live (at / net.rounds) q = elim c.if-at-rounds-eq0.branch [
      | then-at-rounds-eq0 w ↦ waiting_begun net live (at / net.rounds) q c.if-at-rounds-eq0.count sound.from_first (rw rounds at w.if-at-rounds-eq0.true) w.count-is
      | else-at-rounds-eq0 w ↦ let some : 0 < q = (let other = rw rounds at w.if-at-rounds-eq0.false in omega arith) in w.count-is ∙ (rw rounds at c.loop-at.invariant.count) some
    ] in
    let step = waiting_next net live c.args.arrived.now c.args.sent.now at c.if-at-rounds-eq0.count sound c.requires.arrived c.requires.sent lt count in
    step.enough

pub loop-at-preserved : goal.loop-at-preserved
loop-at-preserved c =
    let net = instance_of_rows c.args.net.now in
    let live = live_of_rows c.args.net.now in
    let sound = c.rounds-rounds.ensures.sound in
    let at : ℕ = c.loop-at.at in
    let q : ℕ = at % net.rounds in
    let rounds = c.rounds-rounds.ensures.same in
    let lt : at < net.devices * net.rounds = rw (c.devices.ensures.same, rounds) at c.loop-at-test.true in
    let count : c.if-at-rounds-eq0.count ≡ waiting net live (at / net.rounds) q = elim c.if-at-rounds-eq0.branch [
      | then-at-rounds-eq0 w ↦ waiting_begun net live (at / net.rounds) q c.if-at-rounds-eq0.count sound.from_first (rw rounds at w.if-at-rounds-eq0.true) w.count-is
      | else-at-rounds-eq0 w ↦ let some : 0 < q = (let other = rw rounds at w.if-at-rounds-eq0.false in omega arith) in w.count-is ∙ (rw rounds at c.loop-at.invariant.count) some
    ] in
    let step = waiting_next net live c.args.arrived.now c.args.sent.now at c.if-at-rounds-eq0.count sound c.requires.arrived c.requires.sent lt count in
    let next = step.next ∙ ap (λ k. waiting net live (at / k) (at % k + 1)) (sym rounds) in
    record {
      so_far = c.in_ok-push.ensures.items ∙ cells_more c.rounds-rounds.result (waiting net live) c.loop-at.counts.items at _ c.loop-at.invariant.so_far next;
      count = λ more.
          let place = next_place at c.rounds-rounds.result (omega (arith, rounds, sound.some_rounds)) more in
          next ∙ rw place.0 (ap (waiting net live (at / c.rounds-rounds.result)) (sym place.1));
    }
