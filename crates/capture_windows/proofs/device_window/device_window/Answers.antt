use Rattle.std.proofs.Common.{◌≡◌, ◌∙◌, ◌||◌, ap, sym, arith, length, filter, map}
use Rattle.slots.specs.Windowed.{slots_in_window}
use Rattle.capture_windows.specs.Attempts.{Attempt, is_request, is_waiting}
use Rattle.capture_windows.specs.Devices.{attempts_of, earlier_flights, own_flights, wait_in, waits_at}
use Rattle.capture_windows.proofs.RoomLemmas.{flights_are, flights_by, flights_few, flights_length, waits_begin, waits_end}
use Rattle.capture_windows.proofs.device_window.device_window.Goals as goal

pub slots_in_window-requires : goal.slots_in_window-requires
slots_in_window-requires c =
    let earlier = c.deref.ensures.value ∙ c.in_ok-earlier.ensures in
    let started = c.deref-2.ensures.value ∙ c.in_ok-started.ensures in
    record { few = omega (arith, flights_few c.args.span c.args.own.now, ap length earlier, ap length started, c.requires.few) }

pub spare_in_window-requires-clause-few : goal.spare_in_window-requires-clause-few
spare_in_window-requires-clause-few c =
    let flights = c.deref-5.ensures.value ∙ flights_are c.args.span c.args.own.now _ _ _ (c.deref-3.ensures.value ∙ c.in_ok-earlier.ensures) (c.deref-4.ensures.value ∙ c.in_ok-started.ensures) c.in_ok-flights.ensures in
    omega (arith, flights_length c.args.span c.args.own.now _ flights, c.requires.few)

pub spare_in_window-requires-clause-begin : goal.spare_in_window-requires-clause-begin
spare_in_window-requires-clause-begin c =
    rw (c.deref-6.ensures.value, c.in_ok-waits.ensures) (waits_begin c.args.span c.args.rounds.begin (filter (λ (a : Attempt). is_request c.args.span a || is_waiting c.args.span.until a) c.args.own.now))

pub spare_in_window-requires-clause-rounds : goal.spare_in_window-requires-clause-rounds
spare_in_window-requires-clause-rounds c =
    rw (c.deref-6.ensures.value, c.in_ok-waits.ensures) (waits_end c.args.span c.args.rounds.begin c.args.rounds.length c.args.rounds.count (filter (λ (a : Attempt). is_request c.args.span a || is_waiting c.args.span.until a) c.args.own.now) c.requires.length c.requires.end)

pub of-requires : goal.of-requires
of-requires c =
    let flights = c.deref-7.ensures.value ∙ flights_are c.args.span c.args.own.now _ _ _ (c.deref-3.ensures.value ∙ c.in_ok-earlier.ensures) (c.deref-4.ensures.value ∙ c.in_ok-started.ensures) c.in_ok-flights.ensures in
    record { few = omega (arith, flights_length c.args.span c.args.own.now _ flights, c.requires.few) }

pub returns-clause-room : goal.returns-clause-room
returns-clause-room c = λ attempts device is.
    let span = c.args.span in
    let known = c.args.known.now in
    let earlier = c.deref.ensures.value ∙ c.in_ok-earlier.ensures ∙ ap (earlier_flights span) is in
    let started = c.deref-2.ensures.value ∙ c.in_ok-started.ensures ∙ ap (own_flights span) is in
    let flights = c.deref-5.ensures.value ∙ flights_are span c.args.own.now _ _ _ (c.deref-3.ensures.value ∙ c.in_ok-earlier.ensures) (c.deref-4.ensures.value ∙ c.in_ok-started.ensures) c.in_ok-flights.ensures in
    let device_flights = flights_by span attempts device c.args.own.now _ flights is in
    let waits : c.deref-6.result.now ≡ waits_at span c.args.rounds.begin attempts device =
    c.deref-6.ensures.value ∙ c.in_ok-waits.ensures ∙ ap (λ bs. map (wait_in span c.args.rounds.begin) (filter (λ (a : Attempt). is_request span a || is_waiting span.until a) bs)) is in
    record {
      slots = ap (λ e. slots_in_window e (own_flights span (attempts_of device attempts)) known.known known.depth) (sym earlier) ∙ ap (λ o. slots_in_window c.deref.result.now o known.known known.depth) (sym started) ∙ c.in_ok-slots.ensures.ok;
      spare = rw (device_flights, waits) at c.in_ok-spare.ensures;
      service = c.in_ok-slots.ensures.service c.requires.service;
    }

pub returns-clause-counts : goal.returns-clause-counts
returns-clause-counts c = λ attempts device is.
    let flights = c.deref-7.ensures.value ∙ flights_are c.args.span c.args.own.now _ _ _ (c.deref-3.ensures.value ∙ c.in_ok-earlier.ensures) (c.deref-4.ensures.value ∙ c.in_ok-started.ensures) c.in_ok-flights.ensures in
    let device_flights = flights_by c.args.span attempts device c.args.own.now _ flights is in
    record { bounds = rw device_flights at c.in_ok-counts.ensures }
