use Rattle.std.proofs.Common.{◌≡◌, ◌+◌, ◌≤◌, true, List, [], ◌∷◌, ◌++◌, take, refl, sym, ap, subst, ◌∙◌, arith}
use Rattle.std.proofs.lemmas.List.{take_more}
use Rattle.round_net.specs.Words.{round, Event, history_rules, is_legal_event, Transport}
use Rattle.event_rules.proofs.LimitLemmas.{legal-at}
use Rattle.round_net.proofs.PlaceLemmas.{round-take, noted-first, noted-step}
use Rattle.round_net.proofs.walk.walk.Goals as goal

started : (t : Transport) → t.rules ≡ history_rules → t.events ≡ [] → t ≡ record { config = t.config; rules = history_rules; events = [] }
started t rules events = rw (← rules, ← events) refl

pub note-requires-clause-within : goal.note-requires-clause-within
note-requires-clause-within c = let le : round [] ≤ round c.args.events.now = round-take c.args.events.now 0 in rw c.requires.start (omega (arith, c.requires.within))

pub loop-event-init : goal.loop-event-init
loop-event-init c =
    let now = c.note.ensures in
    record {
      replay = started c.args.replay c.requires.rules c.requires.start;
      ended = c.requires.no_end;
      cells = record { marked = c.note.auto.frozen ∙ c.requires.cells.marked; opened = c.note.auto.openings ∙ c.requires.cells.opened; sent = c.note.auto.sends ∙ c.requires.cells.sent };
      noted = noted-first c.args.replay.config c.args.rounds c.args.frozen.now c.note.new.frozen c.args.openings.now c.note.new.openings c.args.sends.now c.note.new.sends
          c.requires.no_mark c.requires.no_opening c.requires.no_send (rw c.requires.start at now.marked) (rw c.requires.start at (now.opened refl)) (rw c.requires.start at now.sent);
    }

pub append-requires : goal.append-requires
append-requires c =
    let there = legal-at history_rules c.args.replay.config c.args.events.now c.loop-event.event-index c.event-item.result c.loop-event-test.true c.requires.legal in
    record {
      legal = subst (λ (t : Transport). is_legal_event t.rules t.config (t.events, c.event-item.result) ≡ true) (sym c.loop-event.invariant.replay)
          (ap (λ (e : Event). is_legal_event history_rules c.args.replay.config (take c.loop-event.event-index c.args.events.now, e)) c.event-item.is ∙ there);
    }

pub note-requires-in-loop-event-clause-within : goal.note-requires-in-loop-event-clause-within
note-requires-in-loop-event-clause-within c =
    let i = c.loop-event.event-index in
    let events : List Event = c.args.events.now in
    let event : Event = c.event-item.result in
    let more : take (i + 1) events ≡ take i events ++ event ∷ [] = take_more events i event c.loop-event-test.true ∙ ap (λ (e : Event). take i events ++ e ∷ []) (sym c.event-item.is) in
    let there = c.append.ensures ∙ ap (λ (t : Transport). record t { events = t.events ++ event ∷ [] }) c.loop-event.invariant.replay in
    let le : round (take (i + 1) events) ≤ round events = round-take events (i + 1) in
    rw (there, ← more) (omega (arith, c.requires.within))

pub loop-event-preserved : goal.loop-event-preserved
loop-event-preserved c =
    let i = c.loop-event.event-index in
    let events : List Event = c.args.events.now in
    let event : Event = c.event-item.result in
    let more : take (i + 1) events ≡ take i events ++ event ∷ [] = take_more events i event c.loop-event-test.true ∙ ap (λ (e : Event). take i events ++ e ∷ []) (sym c.event-item.is) in
    let there = c.append.ensures ∙ ap (λ (t : Transport). record t { events = t.events ++ event ∷ [] }) c.loop-event.invariant.replay in
    let now = c.note-in-loop-event.ensures in
    let was = c.loop-event.invariant.cells in
    let kept = c.note-in-loop-event.auto in
    record {
      ended = rw more (rw c.loop-event.invariant.replay at c.in_ok-push.ensures);
      replay = there ∙ ap (λ es. record { config = c.args.replay.config; rules = history_rules; events = es }) (sym more);
      cells = record { marked = kept.frozen ∙ was.marked; opened = kept.openings ∙ was.opened; sent = kept.sends ∙ was.sent };
      noted = rw more (noted-step c.args.replay.config (take i events) event c.args.rounds c.loop-event.frozen c.note-in-loop-event.new.frozen c.loop-event.openings c.note-in-loop-event.new.openings
          c.loop-event.sends c.note-in-loop-event.new.sends c.is_tick.result c.loop-event.invariant.noted c.is_tick.ensures
          (rw there at now.marked) (rw there at now.opened) now.kept (rw there at now.sent));
    }
