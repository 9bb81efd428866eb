use Rattle.std.proofs.Common.{◌≡◌, ◌∙◌, sym, ap, subst, List, length, map, false, arith}
use Rattle.sim_worker.specs.Words.{Rules, Transport, round, Tick}
use Rattle.event_rules.proofs.LimitLemmas.{round-legal}
use Rattle.sim_worker.specs.Endings.{IsDrained}
use Rattle.sim_worker.specs.Runs.{may_tick}
use Rattle.sim_worker.specs.Work.{Work, AreBehindPauses, IsAtEnd, Driver}
use Rattle.sim_worker.proofs.FullLemmas.{full_at_limit, full_is, last_round, room_left, says_full}
use Rattle.sim_worker.proofs.KeepLemmas.{AllRest, at_end, drained, landed, round_may_open}
use Rattle.sim_worker.proofs.LeftLemmas.{left-event}
use Rattle.sim_worker.proofs.ListFacts.{put_back}
use Rattle.sim_worker.proofs.StepLemmas.{tick_step}
use Rattle.sim_worker.proofs.TurnLemmas.{at_limit, room_for}
use Rattle.sim_worker.proofs.sim.Sim.keep.Goals as goal

pub returns-then-is_drained-clause-ending : goal.returns-then-is_drained-clause-ending
returns-then-is_drained-clause-ending c =
    let rest = subst AllRest (sym c.self.view_is) c.requires.rest in
    let end = subst IsAtEnd (sym c.self.view_is) (c.is_drained.ensures.done c.if-is_drained.true) in
    subst (λ (w : Work). IsDrained w.script w.transport.events) c.self.view_is (drained _ c.self.invariant rest end)

pub returns-then-is_full-clause-ending : goal.returns-then-is_full-clause-ending
returns-then-is_full-clause-ending c =
    let rest = subst AllRest (sym c.self.view_is) c.requires.rest in
    let behind = subst AreBehindPauses (sym c.self.view_is) c.requires.behind in (
      (λ drained. c.is_drained.ensures.left c.if-is_drained.false (subst IsAtEnd c.self.view_is (at_end _ c.self.invariant rest behind (subst (λ (t : Transport). IsDrained c.self.inside.script.now t.events) c.in-Err.ensures.1 drained)))),
      ap (λ t. length t.events) c.in-Err.ensures.1
          ∙ at_limit _ c.self.invariant (full_at_limit c.self.inside.xpt.rules c.self.inside.xpt.config c.self.inside.xpt.events Tick
          (ap says_full c.in-Err.ensures.0 ∙ full_is c.in-Err.why ∙ sym c.is_full.ensures ∙ c.if-is_full.true)),
    )

pub returns-in-Err-clause-ending : goal.returns-in-Err-clause-ending
returns-in-Err-clause-ending c =
    let rest = subst AllRest (sym c.self.view_is) c.requires.rest in
    let behind = subst AreBehindPauses (sym c.self.view_is) c.requires.behind in
    let last = last_round c.self.inside.xpt.rules c.self.inside.xpt.config c.self.inside.xpt.events c.in-Err.why c.in-Err.ensures.0 (sym c.is_full.ensures ∙ c.if-is_full.false) (landed _ c.self.invariant rest) in
    let room = room_left c.self.inside.xpt.rules c.self.inside.xpt.config c.self.inside.xpt.events Tick c.in-Err.why c.in-Err.ensures.0 (sym c.is_full.ensures ∙ c.if-is_full.false) in
    let most = round-legal c.self.inside.xpt.rules c.self.inside.xpt.config c.self.inside.xpt.events (omega (arith, c.self.invariant.a_round, ap (λ (r : Rules). r.rounds) c.self.invariant.rules)) c.self.invariant.legal in (
      (λ drained. c.is_drained.ensures.left c.if-is_drained.false (subst IsAtEnd c.self.view_is (at_end _ c.self.invariant rest behind (subst (λ (t : Transport). IsDrained c.self.inside.script.now t.events) c.in-Err.ensures.1 drained)))),
      (
        ap (λ t. round t.events) c.in-Err.ensures.1 ∙ omega (arith, last, most, ap (λ (r : Rules). r.rounds) c.self.invariant.rules),
        ap (λ t. may_tick c.self.inside.script.now.config c.self.inside.script.now.limits t.events) c.in-Err.ensures.1 ∙ round_may_open _ c.self.invariant rest,
        omega (arith, ap (λ t. length t.events) c.in-Err.ensures.1, room, ap (λ (r : Rules). r.events) c.self.invariant.rules),
      ),
    )

pub invariant_of-self-2 : goal.invariant_of-self-2
invariant_of-self-2 c =
    let rest = subst AllRest (sym c.self.view_is) c.requires.rest in
    let len : length c.renew.new.drivers ≡ length c.self.inside.drivers.items = c.renew.ensures.len ∙ ap (λ (ds : List Driver). length ds) c.deref_mut.ensures.value in
    let whole = put_back c.self.inside.drivers.len c.renew.new.drivers c.self.inside.drivers.items len (omega (arith, c.self.inside.drivers.ok.0)) in
    rw whole (tick_step c.self.inside.script.now c.self.inside.xpt c.tick.new.self c.self.inside.drivers.items c.renew.new.drivers c.self.inside.lanes.items c.self.inside.refused false
    (c.renew.ensures.done ∙ ap (map (λ (w : Driver). w.done)) c.deref_mut.ensures.value) len (round_may_open _ c.self.invariant rest) c.in_default.ensures.0 c.self.invariant)

pub returns-clause-less : goal.returns-clause-less
returns-clause-less c =
    let len : length c.renew.new.drivers ≡ length c.self.inside.drivers.items = c.renew.ensures.len ∙ ap (λ (ds : List Driver). length ds) c.deref_mut.ensures.value in
    let whole = put_back c.self.inside.drivers.len c.renew.new.drivers c.self.inside.drivers.items len (omega (arith, c.self.inside.drivers.ok.0)) in
    left-event c.self.inside.script.now c.self.inside.xpt c.tick.new.self c.self.inside.drivers.items _ c.self.inside.lanes.items c.self.inside.lanes.items c.self.inside.refused false Tick c.args.self.now c.self.view_is
    c.in_default.ensures.0 (room_for c.self.inside.xpt Tick c.in_default.ensures.0.0) (ap (λ (ds : List Driver). length ds) whole ∙ len ∙ c.self.invariant.eight)
