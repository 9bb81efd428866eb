use Rattle.std.proofs.Common.{◌≡◌, ◌+◌, ◌-◌, ◌<◌, ◌∙◌, sym, subst, arith, slice_index}
use Rattle.std.proofs.lemmas.List.{length-set, get_or_default}
use Rattle.capture.specs.Loads.{IsRow, waiting, arrivals_in}
use Rattle.capture.proofs.WaitLemmas.{wait_step, behind_more, ahead_more, none_come}
use Rattle.capture.proofs.device_rounds.waiting_row.Goals as goal

pub loop-round-init : goal.loop-round-init
loop-round-init c =
    let copy : c.in_ok-row.row.items ≡ c.args.arrivals.now = c.in_ok-row.ensures.items_if_clones_equal (λ x y is. is) in
    let row = subst (IsRow (arrivals_in c.args.requests.now c.args.device) c.args.last) (sym copy) c.requires.arrivals in
    record {
      now = none_come c.args.requests.now c.args.device;
      size = row.size;
      behind = λ k lt. absurd (omega arith);
      ahead = λ k low high. row.each k high;
    }

pub overflow_add-waiting : goal.overflow_add-waiting
overflow_add-waiting c =
    let h = c.loop-round.invariant in
    let size = h.size in
    let r = c.loop-round.round in
    let lt : r < c.args.last + 1 = omega (arith, c.loop-round-test.true, c.len-round-end.ensures, c.in_ok-row.ensures.len, c.requires.arrivals.size) in
    let step = wait_step c.args.last c.args.requests.now c.args.device r c.loop-round.waiting c.index.result.now (slice_index c.args.sends.now r) c.requires.within h.now (c.index.ensures ∙ get_or_default c.loop-round.row.items r c.index.result.now 0 (omega (arith, lt, size)) ∙ h.ahead r (omega arith) (omega (arith, lt))) (c.requires.sends.each r (omega (arith, lt))) in
    omega (arith, step.few, c.requires.few)

pub overflow_sub-waiting : goal.overflow_sub-waiting
overflow_sub-waiting c =
    let h = c.loop-round.invariant in
    let size = h.size in
    let r = c.loop-round.round in
    let lt : r < c.args.last + 1 = omega (arith, c.loop-round-test.true, c.len-round-end.ensures, c.in_ok-row.ensures.len, c.requires.arrivals.size) in
    let step = wait_step c.args.last c.args.requests.now c.args.device r c.loop-round.waiting c.index.result.now (slice_index c.args.sends.now r) c.requires.within h.now (c.index.ensures ∙ get_or_default c.loop-round.row.items r c.index.result.now 0 (omega (arith, lt, size)) ∙ h.ahead r (omega arith) (omega (arith, lt))) (c.requires.sends.each r (omega (arith, lt))) in
    step.enough

pub loop-round-preserved : goal.loop-round-preserved
loop-round-preserved c =
    let h = c.loop-round.invariant in
    let size = h.size in
    let r = c.loop-round.round in
    let row = c.loop-round.row.items in
    let lt : r < c.args.last + 1 = omega (arith, c.loop-round-test.true, c.len-round-end.ensures, c.in_ok-row.ensures.len, c.requires.arrivals.size) in
    let step = wait_step c.args.last c.args.requests.now c.args.device r c.loop-round.waiting c.index.result.now (slice_index c.args.sends.now r) c.requires.within h.now (c.index.ensures ∙ get_or_default row r c.index.result.now 0 (omega (arith, lt, size)) ∙ h.ahead r (omega arith) (omega (arith, lt))) (c.requires.sends.each r (omega (arith, lt))) in
    let v = c.loop-round.waiting + c.index.result.now - slice_index c.args.sends.now r in
    record {
      now = step.next;
      size = length-set row r v ∙ h.size;
      behind = behind_more row r v (waiting c.args.requests.now c.args.device) (omega (arith, lt, size)) step.is h.behind;
      ahead = ahead_more row r v c.args.last (arrivals_in c.args.requests.now c.args.device) h.ahead;
    }

pub returns : goal.returns
returns c =
    let h = c.loop-round.invariant in
    record {
      size = h.size;
      each = λ k few. h.behind k (omega (arith, few, c.loop-round-test.false, c.len-round-end.ensures, c.in_ok-row.ensures.len, c.requires.arrivals.size));
    }
