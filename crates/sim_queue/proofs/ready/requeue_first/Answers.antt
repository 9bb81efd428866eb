use Rattle.std.proofs.Common.{◌≡◌, Some, length, sym, ap, refl, ◌∙◌, arith}
use Rattle.camq_heap.specs.Order.{place}
use Rattle.camq_heap.specs.Queue.{key, has_generation}
use Rattle.sim_queue.specs.Adapter.{Row}
use Rattle.sim_queue.specs.Turns.{entry_of}
use Rattle.sim_queue.proofs.TurnLemmas.{IsRowAt, first_read, rest-first, rest-new, rest-room, IsWritten-placed, entry_made}
use Rattle.sim_queue.proofs.ready.requeue_first.Goals as goal

pub insert_reserved-requires-clause-new_generation :
    goal.insert_reserved-requires-clause-new_generation
insert_reserved-requires-clause-new_generation c =
    let r = c.index-rows-at.result in
    let h : IsRowAt c.args.rows.now c.args.ready.now c.args.at r = record { inside = c.requires.in_range; is = c.index-rows-at.is; in_turn = c.requires.in_turn } in
    let first = first_read h c.requires.ready c.requires.first in
    ap (λ q. has_generation c.generation.result q.entries) c.remove_first.ensures.rest ∙ ap (has_generation c.generation.result) (rest-first h first.ready first.is)
    ∙ rest-new h (record r { turn = c.args.turn }) c.generation.result refl c.requires.turn c.generation.ensures

pub insert_reserved-requires-clause-room : goal.insert_reserved-requires-clause-room
insert_reserved-requires-clause-room c =
    let r = c.index-rows-at.result in
    let h : IsRowAt c.args.rows.now c.args.ready.now c.args.at r = record { inside = c.requires.in_range; is = c.index-rows-at.is; in_turn = c.requires.in_turn } in
    let first = first_read h c.requires.ready c.requires.first in
    omega (arith, rest-room h, ap length (rest-first h first.ready first.is), ap (λ q. length q.entries) c.remove_first.ensures.rest, ap (λ q. q.capacity) c.remove_first.ensures.rest)

pub returns-in-Some : goal.returns-in-Some
returns-in-Some c =
    let r = c.index-rows-at.result in
    let h : IsRowAt c.args.rows.now c.args.ready.now c.args.at r = record { inside = c.requires.in_range; is = c.index-rows-at.is; in_turn = c.requires.in_turn } in
    let first = first_read h c.requires.ready c.requires.first in
    let f : Row → Row = λ z. record z { turn = c.args.turn } in
    let same : Some c.in-Some.first ≡ Some (entry_of r) = sym c.in-Some.is ∙ c.remove_first.ensures.first ∙ first.is in
    let own : c.in-Some.first ≡ entry_of r = cc in
    IsWritten-placed h f c.insert_reserved.new.self refl c.requires.turn (ap (λ q. q.capacity) c.insert_reserved.ensures.placed ∙ ap (λ q. q.capacity) c.remove_first.ensures.rest) _ first.ready
    (entry_made (f r) c.in-Some.first.priority c.generation.result (ap (λ e. e.priority) own) c.generation.ensures)
    (ap (λ q. q.entries) c.insert_reserved.ensures.placed ∙ ap (place key _) (ap (λ q. q.entries) c.remove_first.ensures.rest ∙ rest-first h first.ready first.is))
