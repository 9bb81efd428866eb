use Rattle.std.proofs.Common.{◌∙◌, ap, sym, filter}
use Rattle.capture.specs.Rounds.{first_arrival}
use Rattle.capture.specs.Rooms.{waits_of}
use Rattle.capture.specs.Timed.{arrival_of, is_started}
use Rattle.std.proofs.lemmas.List.Kept.{IsNonDecreasingBy-filter}
use Rattle.capture.proofs.RoomLemmas.{waits_begin}
use Rattle.capture.proofs.SortLemmas.{started-same}
use Rattle.capture.proofs.room.waits_in.Goals as goal

pub returns-then-are_by_arrival-clause-begin : goal.returns-then-are_by_arrival-clause-begin
returns-then-are_by_arrival-clause-begin c =
    let up = c.are_by_arrival.ensures c.if-are_by_arrival.true in
    c.first_started.ensures ∙ ap first_arrival (sym (started-same c.args.requests.now up))

pub returns-then-are_by_arrival-clause-list : goal.returns-then-are_by_arrival-clause-list
returns-then-are_by_arrival-clause-list c =
    let up = c.are_by_arrival.ensures c.if-are_by_arrival.true in
    c.in_ok-waits_where_started.ensures ∙ ap (λ qs. waits_of qs c.args.device) (sym (started-same c.args.requests.now up))

pub returns-then-are_by_arrival-clause-first : goal.returns-then-are_by_arrival-clause-first
returns-then-are_by_arrival-clause-first c =
    let up = c.are_by_arrival.ensures c.if-are_by_arrival.true in
    rw (c.first_started.ensures, c.in_ok-waits_where_started.ensures) (waits_begin (filter is_started c.args.requests.now) c.args.device (IsNonDecreasingBy-filter arrival_of is_started c.args.requests.now up))

pub returns-clause-first : goal.returns-clause-first
returns-clause-first c =
    rw (c.first_arrival.ensures, c.deref.ensures.value, c.in_ok-waits_of.ensures, c.deref-2.ensures.value) (waits_begin c.in_ok-taken.taken.items c.args.device c.in_ok-taken.ensures.sorted)
