use Rattle.std.proofs.Common.{◌≡◌, length, map, sym, ◌∙◌, arith}
use Rattle.std.specs.List.Sorted.{IsNonDecreasingBy}
use Rattle.std.proofs.lemmas.Result.{IfOk-weaker}
use Rattle.capture.specs.Keys.{request_at}
use Rattle.capture.specs.Timed.{arrival_of, by_arrival}
use Rattle.capture.proofs.SortLemmas.{by_arrival-same, found_count, found_is, found_sorted, found_within}
use Rattle.capture.proofs.arrival_order.in_arrival_order.Goals as goal

pub returns-then-are_by_arrival-clause-items : goal.returns-then-are_by_arrival-clause-items
returns-then-are_by_arrival-clause-items c =
    sym (by_arrival-same c.args.requests.items (rw c.deref.ensures.value at (c.are_by_arrival.ensures c.if-are_by_arrival.true)))

pub at_places-requires : goal.at_places-requires
at_places-requires c =
    let ok = c.args.requests.ok in
    let small = c.args.requests.small in
    let are = rw c.deref-2.ensures.value at c.in_ok-keys.ensures in
    rw (c.deref-3.ensures.value, c.deref-4.ensures.value) (found_within c.args.requests.items (omega (arith, ok, small)) c.in_ok-keys.keys.items are)

pub returns-clause-items : goal.returns-clause-items
returns-clause-items c =
    let ok = c.args.requests.ok in
    let small = c.args.requests.small in
    let are = rw c.deref-2.ensures.value at c.in_ok-keys.ensures in
    let found = found_is c.args.requests.items (omega (arith, ok, small)) c.in_ok-keys.keys.items are in
    let all = rw (c.deref-3.ensures.value, c.deref-4.ensures.value) at c.at_places.ensures in
    IfOk-weaker c.at_places.result (λ found. found.items ≡ map (request_at c.args.requests.items) c.in_ok-keys.keys.items) (λ sorted. sorted.items ≡ by_arrival c.args.requests.items) (λ sorted is. is ∙ found) all

pub returns-clause-sorted : goal.returns-clause-sorted
returns-clause-sorted c =
    let ok = c.args.requests.ok in
    let small = c.args.requests.small in
    let are = rw c.deref-2.ensures.value at c.in_ok-keys.ensures in
    let found = found_sorted c.args.requests.items (omega (arith, ok, small)) c.in_ok-keys.keys.items are in
    let all = rw (c.deref-3.ensures.value, c.deref-4.ensures.value) at c.at_places.ensures in
    IfOk-weaker c.at_places.result (λ found. found.items ≡ map (request_at c.args.requests.items) c.in_ok-keys.keys.items) (λ sorted. IsNonDecreasingBy arrival_of sorted.items) (λ sorted is. rw is found) all

pub returns-clause-count : goal.returns-clause-count
returns-clause-count c =
    let ok = c.args.requests.ok in
    let small = c.args.requests.small in
    let are = rw c.deref-2.ensures.value at c.in_ok-keys.ensures in
    let found = found_count c.args.requests.items (omega (arith, ok, small)) c.in_ok-keys.keys.items are in
    let all = rw (c.deref-3.ensures.value, c.deref-4.ensures.value) at c.at_places.ensures in
    IfOk-weaker c.at_places.result (λ found. found.items ≡ map (request_at c.args.requests.items) c.in_ok-keys.keys.items) (λ sorted. length sorted.items ≡ length c.args.requests.items) (λ sorted is. rw is found) all
