use Rattle.std.proofs.Common.{◌≡◌, ◌<◌, ◌∙◌, List, None, length, get_or, slice_index, ap, refl, sym, arith}
use Rattle.std.proofs.lemmas.List.{length-take}
use Rattle.recording_file.specs.declared.request.Request.{Request}
use Rattle.conversions.specs.Rescheduled.{moved_to}
use Rattle.conversions.proofs.RescheduleLemmas.{moved-more, moved-long}
use Rattle.conversions.proofs.rescheduling.add_requests.Goals as goal

pub add_request-requires-clause-few : goal.add_request-requires-clause-few
add_request-requires-clause-few c =
    let r = c.args.recording.now in
    let n = c.loop-number.number in
    let same = c.requests-request-items.ensures.same in
    let few = c.requests-request-items.ensures.kept.few in
    rw c.loop-number.invariant (omega (arith, moved-long c.args.schedule.now r.requests n, length-take n r.requests, c.loop-number-test.true, ap (λ (xs : List Request). length xs) same, few))

pub loop-number-preserved : goal.loop-number-preserved
loop-number-preserved c =
    let r = c.args.recording.now in
    let n = c.loop-number.number in
    let same = c.requests-request-items.ensures.same in
    let less : n < length r.requests = omega (arith, c.loop-number-test.true, ap (λ (xs : List Request). length xs) same) in
    let d : Request = record { driver = 0; device = 0; priority = 0; arrival = 0; last = None; sent = 0; done = None } in
    let placed : c.moved_to.result ≡ moved_to (get_or r.requests n d) (slice_index c.args.schedule.now n) = c.moved_to.ensures ∙ rw (same, c.round-round.ensures) refl in
    c.in_ok-add_request.ensures.ok ∙ rw (c.loop-number.invariant, placed) (ap (λ (qs : List Request). record r { requests = qs }) (sym (moved-more c.args.schedule.now r.requests n d less)))
