use Rattle.std.proofs.Common.{◌-◌, ◌∙◌, length, sym, ap, subst, arith, nat_lt, slice_index}
use Rattle.capture.specs.Loads.{IsRow, sends_in}
use Rattle.capture.specs.Rounds.{Rounded}
use Rattle.capture.specs.Usual.{middle, usual_taken}
use Rattle.capture.proofs.DeviceLemmas.{row_read}
use Rattle.capture.proofs.UsualLemmas.{pressed_numbers, few_numbers}
use Rattle.capture.proofs.capture.Capture.usual_in.Goals as goal

pub middle-requires : goal.middle-requires
middle-requires c =
    let r = c.args.self.now in
    let sends = row_read (sends_in r.requests) c.requires.0 r.rounds c.args.device c.args.rows.now.sends.items c.index-sends.result.now c.requires.2.sends c.requires.1 c.index-sends.ensures in
    let size = sends.size in
    let few = c.self.invariant.rounds in
    let rounds = ap (λ (r : Rounded). r.rounds) c.self.view_is in
    rw (c.deref-6.ensures.value, c.in_ok-numbers.ensures) (omega (arith, few_numbers (slice_index c.deref-4.result.now) (λ round. nat_lt 0 (slice_index c.deref-5.result.now round)) 1 (length c.deref-4.result.now - 1), ap length c.deref-4.ensures.value, size, few, rounds))

pub returns-clause-same : goal.returns-clause-same
returns-clause-same c =
    let r : Rounded = record { unit = c.self.inside.round; rounds = c.self.inside.rounds; requests = c.self.inside.requests.items } in
    let now = c.args.self.now in
    let read = row_read (sends_in now.requests) c.requires.0 now.rounds c.args.device c.args.rows.now.sends.items c.index-sends.result.now c.requires.2.sends c.requires.1 c.index-sends.ensures in
    let sends = subst (λ (s : Rounded). IsRow (sends_in s.requests c.args.device) s.rounds c.index-sends.result.now.items) (sym c.self.view_is) read in
    c.middle.ensures.same ∙ ap middle (c.deref-6.ensures.value ∙ pressed_numbers r c.args.device c.index-sends.result.now.items c.in_ok-waiting.waiting.items c.in_ok-numbers.numbers.items c.deref-4.result.now c.deref-5.result.now sends (rw c.deref.ensures.value at c.in_ok-waiting.ensures) c.deref-4.ensures.value c.deref-5.ensures.value c.in_ok-numbers.ensures) ∙ ap (λ (r : Rounded). usual_taken r c.args.device) c.self.view_is
