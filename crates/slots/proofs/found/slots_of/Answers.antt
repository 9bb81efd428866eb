use Rattle.std.proofs.Common.{◌≡◌, ◌∙◌, ℕ, ap, sym, arith, Some, Ok, Err, unwrap_or, sum, length, filter}
use Rattle.slots.specs.Flights.{Flight, greatest, in_flight, most, times_of_service, takes_last_by, usual_time, last_times}
use Rattle.slots.specs.declared.slots_fault.SlotsFault.TheVariants.{TooFew}
use Rattle.slots.proofs.FoundLemmas.{slots_none, slots_few, slots_found, usual_is, flying_is, found_is, service_is, service_above, in_flight-within, in_flight-reached}
use Rattle.slots.proofs.found.slots_of.Goals as goal

pub returns-then-all-eq0-clause-ok : goal.returns-then-all-eq0-clause-ok
returns-then-all-eq0-clause-ok c = slots_none c.args.flights.now c.args.depth (sym c.total_of-all.ensures.sum ∙ c.if-all-eq0.true)

pub returns-then-slots-most-clause-err : goal.returns-then-slots-most-clause-err
returns-then-slots-most-clause-err c = λ _.
    let fs = c.args.flights.now in
    let all = c.total_of-all.ensures in
    let usual = usual_is fs _ _ _ all.sum all.count c.mean-usual.ensures in
    let flying = c.deref.ensures.value ∙ flying_is fs _ _ usual c.in_ok-flying.ensures in
    let is : c.greatest-most.result ≡ most fs = c.greatest-most.ensures ∙ ap greatest flying in
    let slots : c.unwrap_or-slots.result ≡ unwrap_or c.args.depth (most fs) = c.unwrap_or-slots.ensures ∙ ap (unwrap_or c.args.depth) is in
    slots_few fs c.args.depth (omega (arith, all.sum, c.if-all-eq0.false)) (omega (arith, slots, is, c.if-slots-most.true)) ∙ ap (λ n. Err (TooFew n)) (sym is)

pub returns-clause-ok : goal.returns-clause-ok
returns-clause-ok c =
    let fs = c.args.flights.now in
    let all = c.total_of-all.ensures in
    let usual = usual_is fs _ _ _ all.sum all.count c.mean-usual.ensures in
    let flying = c.deref.ensures.value ∙ flying_is fs _ _ usual c.in_ok-flying.ensures in
    let is : c.greatest-most.result ≡ most fs = c.greatest-most.ensures ∙ ap greatest flying in
    let slots : c.unwrap_or-slots.result ≡ unwrap_or c.args.depth (most fs) = c.unwrap_or-slots.ensures ∙ ap (unwrap_or c.args.depth) is in
    let number : Flight → ℕ = λ f. in_flight fs f.start in
    let flying_last = c.deref-2.ensures.value ∙ flying_is fs _ _ usual c.in_ok-flying.ensures in
    let by = c.total_of_last-last.ensures in
    let same = ap (λ u. times_of_service (filter (takes_last_by u number c.greatest-most.result) fs)) usual ∙ ap (λ m. times_of_service (filter (takes_last_by (usual_time fs) number m) fs)) is in
    let last : c.total_of_last-last.result.count ≡ length (last_times fs) = by.count number flying_last ∙ ap length same in
    let last_total : c.total_of_last-last.result.sum ≡ sum (last_times fs) = by.sum number flying_last ∙ ap sum same in
    let service = service_is fs _ _ _ _ _ last_total last all.sum all.count c.service_by.ensures in
    slots_found fs c.args.depth (omega (arith, all.sum, c.if-all-eq0.false)) (omega (arith, slots, is, c.if-slots-most.false)) ∙ ap (λ n. Ok (Some n)) (found_is fs (unwrap_or c.args.depth (most fs)) _ _ _ _ slots is service last)

pub returns-clause-bound : goal.returns-clause-bound
returns-clause-bound c = λ t.
    let fs = c.args.flights.now in
    let all = c.total_of-all.ensures in
    let usual = usual_is fs _ _ _ all.sum all.count c.mean-usual.ensures in
    let flying = c.deref.ensures.value ∙ flying_is fs _ _ usual c.in_ok-flying.ensures in
    let is : c.greatest-most.result ≡ most fs = c.greatest-most.ensures ∙ ap greatest flying in
    omega (arith, is, in_flight-within fs t)

pub returns-clause-reached : goal.returns-clause-reached
returns-clause-reached c =
    let fs = c.args.flights.now in
    let all = c.total_of-all.ensures in
    let usual = usual_is fs _ _ _ all.sum all.count c.mean-usual.ensures in
    let flying = c.deref.ensures.value ∙ flying_is fs _ _ usual c.in_ok-flying.ensures in
    let is : c.greatest-most.result ≡ most fs = c.greatest-most.ensures ∙ ap greatest flying in
    let at = in_flight-reached fs in
    (at.0, at.1 ∙ sym is)

pub returns-clause-service : goal.returns-clause-service
returns-clause-service c =
    let fs = c.args.flights.now in
    let all = c.total_of-all.ensures in
    let usual = usual_is fs _ _ _ all.sum all.count c.mean-usual.ensures in
    let flying = c.deref.ensures.value ∙ flying_is fs _ _ usual c.in_ok-flying.ensures in
    let is : c.greatest-most.result ≡ most fs = c.greatest-most.ensures ∙ ap greatest flying in
    let number : Flight → ℕ = λ f. in_flight fs f.start in
    let flying_last = c.deref-2.ensures.value ∙ flying_is fs _ _ usual c.in_ok-flying.ensures in
    let by = c.total_of_last-last.ensures in
    let same = ap (λ u. times_of_service (filter (takes_last_by u number c.greatest-most.result) fs)) usual ∙ ap (λ m. times_of_service (filter (takes_last_by (usual_time fs) number m) fs)) is in
    let last : c.total_of_last-last.result.count ≡ length (last_times fs) = by.count number flying_last ∙ ap length same in
    let last_total : c.total_of_last-last.result.sum ≡ sum (last_times fs) = by.sum number flying_last ∙ ap sum same in
    let service = service_is fs _ _ _ _ _ last_total last all.sum all.count c.service_by.ensures in
    let above = service_above fs (omega (arith, all.sum, c.if-all-eq0.false)) in
    omega (arith, above, service)
