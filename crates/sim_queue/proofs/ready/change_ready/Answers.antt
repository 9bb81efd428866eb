use Rattle.std.proofs.Common.{is_some, unwrap_or, length, sym, ap, refl, ◌∙◌, arith}
use Rattle.camq_heap.specs.Order.{place}
use Rattle.camq_heap.specs.Queue.{key, has_generation}
use Rattle.sim_queue.specs.Adapter.{Row}
use Rattle.sim_queue.specs.Turns.{entry_of}
use Rattle.sim_queue.proofs.TurnLemmas.{IsRowAt, row-fits, rest-unready, rest-new, rest-room, found-within, rest-removed, rest-changed, IsWritten-placed, IsWritten-left, entry_made}
use Rattle.sim_queue.proofs.ready.change_ready.Goals as goal

pub insert_reserved-requires-clause-new_generation :
    goal.insert_reserved-requires-clause-new_generation
insert_reserved-requires-clause-new_generation c =
    let r = c.index-rows-at.result in
    let h : IsRowAt c.args.rows.now c.args.ready.now c.args.at r = record { inside = c.requires.in_range; is = c.index-rows-at.is; in_turn = c.requires.in_turn } in
    ap (has_generation c.generation.result) (rest-unready h (ap is_some c.in-None-Some.is-0)) ∙ rest-new h r c.generation.result refl (row-fits h).turn c.generation.ensures

pub insert_reserved-requires-clause-room : goal.insert_reserved-requires-clause-room
insert_reserved-requires-clause-room c =
    let r = c.index-rows-at.result in
    let h : IsRowAt c.args.rows.now c.args.ready.now c.args.at r = record { inside = c.requires.in_range; is = c.index-rows-at.is; in_turn = c.requires.in_turn } in
    omega (arith, rest-room h, ap length (rest-unready h (ap is_some c.in-None-Some.is-0)))

pub remove_at-requires : goal.remove_at-requires
remove_at-requires c =
    let r = c.index-rows-at.result in
    let h : IsRowAt c.args.rows.now c.args.ready.now c.args.at r = record { inside = c.requires.in_range; is = c.index-rows-at.is; in_turn = c.requires.in_turn } in
    found-within h c.place_in_turn-place.result c.place_in_turn-place.ensures (ap is_some c.in-Some-None.is-0)

pub change_priority-requires : goal.change_priority-requires
change_priority-requires c =
    let r = c.index-rows-at.result in
    let h : IsRowAt c.args.rows.now c.args.ready.now c.args.at r = record { inside = c.requires.in_range; is = c.index-rows-at.is; in_turn = c.requires.in_turn } in
    found-within h c.place_in_turn-place-in-Some-Some.result c.place_in_turn-place-in-Some-Some.ensures (ap is_some c.in-Some-Some.is-0)

pub returns-in-None-Some : goal.returns-in-None-Some
returns-in-None-Some c =
    let r = c.index-rows-at.result in
    let h : IsRowAt c.args.rows.now c.args.ready.now c.args.at r = record { inside = c.requires.in_range; is = c.index-rows-at.is; in_turn = c.requires.in_turn } in
    let f : Row → Row = λ z. record z { priority = c.args.priority } in
    IsWritten-placed h f c.insert_reserved.new.self refl (row-fits h).turn (ap (λ q. q.capacity) c.insert_reserved.ensures.placed) _ (ap is_some c.in-None-Some.is-1)
    (entry_made (f r) c.in-None-Some.now c.generation.result (sym (ap (λ o. unwrap_or o 0) c.in-None-Some.is-1)) c.generation.ensures)
    (ap (λ q. q.entries) c.insert_reserved.ensures.placed ∙ ap (place key _) (rest-unready h (ap is_some c.in-None-Some.is-0)))

pub returns-in-Some-None : goal.returns-in-Some-None
returns-in-Some-None c =
    let r = c.index-rows-at.result in
    let h : IsRowAt c.args.rows.now c.args.ready.now c.args.at r = record { inside = c.requires.in_range; is = c.index-rows-at.is; in_turn = c.requires.in_turn } in
    IsWritten-left h (λ z. record z { priority = c.args.priority }) c.remove_at.new.self refl (row-fits h).turn (ap (λ q. q.capacity) c.remove_at.ensures.rest) (ap is_some c.in-Some-None.is-1)
    (ap (λ q. q.entries) c.remove_at.ensures.rest ∙ rest-removed h c.place_in_turn-place.result c.place_in_turn-place.ensures (ap is_some c.in-Some-None.is-0))

pub returns-in-Some-Some : goal.returns-in-Some-Some
returns-in-Some-Some c =
    let r = c.index-rows-at.result in
    let h : IsRowAt c.args.rows.now c.args.ready.now c.args.at r = record { inside = c.requires.in_range; is = c.index-rows-at.is; in_turn = c.requires.in_turn } in
    let f : Row → Row = λ z. record z { priority = c.args.priority } in
    IsWritten-placed h f c.change_priority.new.self refl (row-fits h).turn (ap (λ q. q.capacity) c.change_priority.ensures) (record (entry_of r) { priority = c.in-Some-Some.now }) (ap is_some c.in-Some-Some.is-1)
    (entry_made (f r) c.in-Some-Some.now _ (sym (ap (λ o. unwrap_or o 0) c.in-Some-Some.is-1)) refl)
    (ap (λ q. q.entries) c.change_priority.ensures ∙ rest-changed h c.place_in_turn-place-in-Some-Some.result c.place_in_turn-place-in-Some-Some.ensures (ap is_some c.in-Some-Some.is-0) c.in-Some-Some.now)
