use Rattle.std.proofs.Common.{◌∙◌, sym, refl}
use Rattle.recording_file.proofs.PlaceLemmas.{are_cells, full_is_crowd}
use Rattle.recording_file.proofs.PlacingLemmas.{cause_crowd, cause_plain, plain_none}
use Rattle.recording_file.proofs.placing.ready_places.Goals as goal

pub returns-in-Some-clause-value : goal.returns-in-Some-clause-value
returns-in-Some-clause-value c = λ before t other. rw (cause_plain c.args.rounds c.args.config.now c.args.caps.now before c.args.request c.in-Some.cause (sym c.plain_cause.ensures ∙ c.in-Some.is)) refl

pub of-places-requires-clause-device : goal.of-places-requires-clause-device
of-places-requires-clause-device c = (plain_none _ _ _ (sym c.plain_cause.ensures ∙ c.in_default.is)).there

pub of-places-requires-clause-some : goal.of-places-requires-clause-some
of-places-requires-clause-some c = (plain_none _ _ _ (sym c.plain_cause.ensures ∙ c.in_default.is)).some

pub of-places-requires-clause-last : goal.of-places-requires-clause-last
of-places-requires-clause-last c = (plain_none _ _ _ (sym c.plain_cause.ensures ∙ c.in_default.is)).last

pub full-requires : goal.full-requires
full-requires c = rw (c.deref.ensures.value, c.in_ok-fill_room.ensures.size) c.of-places.ensures.within

pub returns-in-Some-full-clause-value : goal.returns-in-Some-full-clause-value
returns-in-Some-full-clause-value c = λ before t other.
    let none = sym c.plain_cause.ensures ∙ c.in_default.is in
    let plain = plain_none _ _ _ none in
    let room = c.in_ok-fill_room.ensures.filled before t in
    let are = are_cells c.args.rounds c.args.config.now c.args.request.device c.args.request.sent c.requires.config plain.there plain.some plain.last in
    let full = full_is_crowd c.args.rounds c.args.config.now c.args.caps.now before _ c.args.request room are in
    let found = rw (c.deref.ensures.value, c.of-places.ensures.places) at c.full.ensures in
    rw (cause_crowd c.args.rounds c.args.config.now c.args.caps.now before c.args.request none, ← full, ← found, c.in-Some-full.is) refl

pub returns-in-None-clause-value : goal.returns-in-None-clause-value
returns-in-None-clause-value c = λ before t other.
    let none = sym c.plain_cause.ensures ∙ c.in_default.is in
    let plain = plain_none _ _ _ none in
    let room = c.in_ok-fill_room.ensures.filled before t in
    let are = are_cells c.args.rounds c.args.config.now c.args.request.device c.args.request.sent c.requires.config plain.there plain.some plain.last in
    let full = full_is_crowd c.args.rounds c.args.config.now c.args.caps.now before _ c.args.request room are in
    let found = rw (c.deref.ensures.value, c.of-places.ensures.places) at c.full.ensures in
    rw (cause_crowd c.args.rounds c.args.config.now c.args.caps.now before c.args.request none, ← full, ← found, c.in-None.is, c.of-places.ensures.places) refl

pub returns-in-None-clause-ready : goal.returns-in-None-clause-ready
returns-in-None-clause-ready c = λ before t.
    let none = sym c.plain_cause.ensures ∙ c.in_default.is in
    let plain = plain_none _ _ _ none in
    let room = c.in_ok-fill_room.ensures.filled before t in
    let are = are_cells c.args.rounds c.args.config.now c.args.request.device c.args.request.sent c.requires.config plain.there plain.some plain.last in
    let full = full_is_crowd c.args.rounds c.args.config.now c.args.caps.now before _ c.args.request room are in
    let found = rw (c.deref.ensures.value, c.of-places.ensures.places) at c.full.ensures in
    record {
      config = c.requires.config;
      places = c.of-places.ensures.places;
      room = room;
      within = rw c.in_ok-fill_room.ensures.size c.of-places.ensures.within;
      plain = none;
      crowd = sym full ∙ sym found ∙ c.in-None.is;
    }
