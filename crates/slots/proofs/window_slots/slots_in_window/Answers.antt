use Rattle.std.proofs.Common.{◌≡◌, ◌∙◌, ℕ, ◌≤◌, ap, sym, arith, Ok, Err, Option, unwrap_or, max, sum, length, ◌++◌, subst}
use Rattle.std.specs.Option.{IfSome}
use Rattle.slots.specs.Flights.{times_of_service}
use Rattle.slots.specs.Windowed.{flights_in_window, last_times_in_window, last_times_of, most_so_far, numbered_own}
use Rattle.slots.specs.declared.slots_fault.SlotsFault.TheVariants.{TooFew}
use Rattle.slots.proofs.WindowLemmas.{most_is, own_is, window_few, window_found, window_found_is, window_service, window_service_above}
use Rattle.slots.proofs.window_slots.slots_in_window.Goals as goal

pub returns-then-slots-in_flight-clause-err : goal.returns-then-slots-in_flight-clause-err
returns-then-slots-in_flight-clause-err c = λ _.
    let earlier = c.args.earlier.now in
    let own = c.args.own.now in
    let numbered = own_is earlier own _ _ _ c.in_ok-flights.ensures c.deref.ensures.value c.in_ok-own.ensures in
    let most = most_is earlier own c.args.known _ _ _ _ numbered c.deref-2.ensures.value c.greatest_number.ensures c.max-in_flight.ensures in
    let slots : c.unwrap_or-slots.result ≡ unwrap_or c.args.depth (max (most_so_far c.args.known earlier own) 1) = c.unwrap_or-slots.ensures ∙ ap (unwrap_or c.args.depth) (c.max.ensures ∙ ap (λ n. max n 1) most) in
    window_few earlier own c.args.known c.args.depth (omega (arith, slots, most, c.if-slots-in_flight.true)) ∙ ap (λ n. Err (TooFew n)) (sym most)

pub returns-clause-ok : goal.returns-clause-ok
returns-clause-ok c =
    let earlier = c.args.earlier.now in
    let own = c.args.own.now in
    let known = c.args.known in
    let numbered = own_is earlier own _ _ _ c.in_ok-flights.ensures c.deref.ensures.value c.in_ok-own.ensures in
    let most = most_is earlier own known _ _ _ _ numbered c.deref-2.ensures.value c.greatest_number.ensures c.max-in_flight.ensures in
    let slots : c.unwrap_or-slots.result ≡ unwrap_or c.args.depth (max (most_so_far known earlier own) 1) = c.unwrap_or-slots.ensures ∙ ap (unwrap_or c.args.depth) (c.max.ensures ∙ ap (λ n. max n 1) most) in
    let all : c.deref-4.result.now ≡ earlier ++ numbered_own earlier own = c.deref-4.ensures.value ∙ c.in_ok-all.ensures ∙ ap (λ ns. earlier ++ ns) (c.deref-3.ensures.value ∙ numbered) in
    let same : last_times_of c.max-in_flight.result c.deref-4.result.now ≡ last_times_in_window known earlier own = ap (last_times_of c.max-in_flight.result) all ∙ ap (λ m. last_times_of m (earlier ++ numbered_own earlier own)) most in
    let last : c.total_of_last_numbered-last.result.count ≡ length (last_times_in_window known earlier own) = c.total_of_last_numbered-last.ensures.count ∙ ap length same in
    let last_total : c.total_of_last_numbered-last.result.sum ≡ sum (last_times_in_window known earlier own) = c.total_of_last_numbered-last.ensures.sum ∙ ap sum same in
    let times : times_of_service c.deref-5.result.now ≡ times_of_service (flights_in_window earlier own) = ap times_of_service (c.deref-5.ensures.value ∙ c.in_ok-flights.ensures) in
    let service = window_service known.service (times_of_service (flights_in_window earlier own)) (last_times_in_window known earlier own) _ _ _ _ _ (c.total_of.ensures.sum ∙ ap sum times) (c.total_of.ensures.count ∙ ap length times) last_total last c.service_in_window.ensures in
    window_found earlier own known c.args.depth (omega (arith, slots, most, c.if-slots-in_flight.false)) ∙ ap Ok (window_found_is earlier own known _ _ _ _ _ slots most service last)

pub returns-clause-service : goal.returns-clause-service
returns-clause-service c =
    let all = times_of_service c.deref-5.result.now in
    let last = last_times_of c.max-in_flight.result c.deref-4.result.now in
    let service = window_service c.args.known.service all last _ _ _ _ _ c.total_of.ensures.sum c.total_of.ensures.count c.total_of_last_numbered-last.ensures.sum c.total_of_last_numbered-last.ensures.count c.service_in_window.ensures in
    λ above. let P = λ (o : Option ℕ). IfSome o (λ t. 1 ≤ t) in subst P (sym service) (window_service_above c.args.known.service all c.max-in_flight.result c.deref-4.result.now above)
