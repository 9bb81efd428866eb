use Rattle.std.proofs.Common.{sym, ◌∙◌, length}
use Rattle.round_net.specs.Ends.{cause_at, is_frozen_at, numbers, Error, Caller, Adapter}
use Rattle.round_net.proofs.EndLemmas.{at_ends-tick, at_ends-still}
use Rattle.round_net.proofs.round_ends.RoundEnds.push.Goals as goal

pub returns-then-not-is_tick : goal.returns-then-not-is_tick
returns-then-not-is_tick c =
    let t = c.args.replay.now in
    let e = c.args.event.now in
    let still = sym c.is_tick.ensures ∙ c.if-not-is_tick.true in
    record {
      causes = at_ends-still (cause_at t.config) (length t.config.devices) t.events e _ still c.requires.causes;
      errors = at_ends-still (is_frozen_at Error) (numbers Error t.config) t.events e _ still c.requires.errors;
      callers = at_ends-still (is_frozen_at Caller) (numbers Caller t.config) t.events e _ still c.requires.callers;
      adapters = at_ends-still (is_frozen_at Adapter) (numbers Adapter t.config) t.events e _ still c.requires.adapters;
    }

pub returns : goal.returns
returns c =
    let t = c.args.replay.now in
    let e = c.args.event.now in
    let ticks = sym c.is_tick.ensures ∙ c.if-not-is_tick.false in
    record {
      causes = at_ends-tick (cause_at t.config) (length t.config.devices) t.events e _ _ ticks c.requires.causes c.in_ok-push_causes.ensures;
      errors = at_ends-tick (is_frozen_at Error) (numbers Error t.config) t.events e _ _ ticks c.requires.errors c.in_ok-push_flags.ensures;
      callers = at_ends-tick (is_frozen_at Caller) (numbers Caller t.config) t.events e _ _ ticks c.requires.callers c.in_ok-push_flags-2.ensures;
      adapters = at_ends-tick (is_frozen_at Adapter) (numbers Adapter t.config) t.events e _ _ ticks c.requires.adapters c.in_ok-push_flags-3.ensures;
    }
