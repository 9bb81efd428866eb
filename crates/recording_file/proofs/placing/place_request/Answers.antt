use Rattle.std.proofs.Common.{◌≡◌, ◌∙◌, ◌++◌, ◌∷◌, [], List, ℕ, sym, ap, length, rules}
use Rattle.recording_file.specs.Places.{taken_at}
use Rattle.recording_file.proofs.RoomLemmas.{written_back}
use Rattle.recording_file.proofs.PlaceLemmas.{are_cells, is_device}
use Rattle.recording_file.proofs.PlacingLemmas.{plain_none, room_table, table_sized}
use Rattle.recording_file.proofs.TakenLemmas.{taken_room}
use Rattle.recording_file.proofs.placing.place_request.Goals as goal

pub ready_places-requires-clause-size : goal.ready_places-requires-clause-size
ready_places-requires-clause-size c = table_sized _ _ _ _ _ c.requires.table

pub returns-clause-table : goal.returns-clause-table
returns-clause-table c =
    let rounds = c.args.rounds in
    let t = c.args.config.now in
    let q = c.args.request in
    let ready = c.in_ok-places.ensures.ready c.args.requests.now.items c.requires.table in
    let plain = plain_none rounds t q ready.plain in
    let are = are_cells rounds t q.device q.sent c.requires.config plain.there plain.some plain.last in
    let taken = taken_room rounds t c.args.caps.now c.args.requests.now.items c.ready_places.new.room.items q ready.room are (is_device t q.device plain.there) ready.crowd in
    let same = ap length c.deref_mut.ensures.value in
    let pushed : c.push.new.self.items ≡ c.args.requests.now.items ++ q ∷ [] = search rules in
    let long = c.take.auto.room ∙ same in
    let after = c.take.ensures ∙ ap (λ (l : List ℕ). taken_at l c.in_ok-places.places) c.deref_mut.ensures.value ∙ ap (taken_at c.ready_places.new.room.items) ready.places in
    rw (written_back c.ready_places.new.room.len c.take.new.room c.ready_places.new.room.items long (sym c.deref_mut.ensures.len ∙ same), pushed, after)
    (room_table rounds t c.args.caps.now _ _ c.requires.some taken)
