use Rattle.std.proofs.Common.{◌<◌, length, ap, sym, subst, ◌∙◌, Some, option_map}
use Rattle.xpt_core.specs.Words.{first, best_ready}
use Rattle.xpt_core.specs.Device.{entry}
use Rattle.event_rules.proofs.NextLemmas.{head_stands}
use Rattle.xpt_core.specs.Transport.{Transport}
use Rattle.xpt_core.proofs.HeadLaws.{best_ready-turn, head-open, head-closed}
use Rattle.xpt_core.proofs.NextLemmas.{next-none, next-empty, next-some}
use Rattle.xpt_core.proofs.RowLemmas.{on-there}
use Rattle.xpt_core.proofs.queues.Queues.next.Goals as goal

pub returns-in_err-device : goal.returns-in_err-device
returns-in_err-device c =
    let t = c.args.self.now in
    let is = head-open t.config t.events c.args.adapter (sym c.link_has_opening.ensures ∙ c.if-not-link_has_opening.false) ∙ sym (best_ready-turn t.config t.events c.args.adapter) ∙ ap best_ready (sym c.sim.ensures) ∙ sym c.best_ready.ensures in
    c.from_residual.ensures ∙ sym (next-none t.config t.events c.args.adapter (is ∙ c.in_err-device.was))

pub first-requires : goal.first-requires
first-requires c =
    let t = c.args.self.now in
    let is = head-open t.config t.events c.args.adapter (sym c.link_has_opening.ensures ∙ c.if-not-link_has_opening.false) ∙ sym (best_ready-turn t.config t.events c.args.adapter) ∙ ap best_ready (sym c.sim.ensures) ∙ sym c.best_ready.ensures in
    subst (λ (x : Transport). c.in_ok-device.device < length x.config.devices) (sym c.self.view_is)
    (on-there t.config c.args.adapter c.in_ok-device.device (head_stands t.config t.events c.args.adapter c.in_ok-device.device (is ∙ c.in_ok-device.was)).on)

pub returns-in_err-stay : goal.returns-in_err-stay
returns-in_err-stay c =
    let t = c.args.self.now in
    let is = head-open t.config t.events c.args.adapter (sym c.link_has_opening.ensures ∙ c.if-not-link_has_opening.false) ∙ sym (best_ready-turn t.config t.events c.args.adapter) ∙ ap best_ready (sym c.sim.ensures) ∙ sym c.best_ready.ensures in
    let stay = ap (λ (x : Transport). option_map entry (first x.events c.in_ok-device.device)) (sym c.self.view_is) ∙ sym c.first.ensures in
    c.from_residual-in_err-stay.ensures ∙ sym (next-empty t.config t.events c.args.adapter c.in_ok-device.device (is ∙ c.in_ok-device.was) (stay ∙ c.in_err-stay.was))

pub returns : goal.returns
returns c =
    let t = c.args.self.now in
    let is = head-open t.config t.events c.args.adapter (sym c.link_has_opening.ensures ∙ c.if-not-link_has_opening.false) ∙ sym (best_ready-turn t.config t.events c.args.adapter) ∙ ap best_ready (sym c.sim.ensures) ∙ sym c.best_ready.ensures in
    let stay = ap (λ (x : Transport). option_map entry (first x.events c.in_ok-device.device)) (sym c.self.view_is) ∙ sym c.first.ensures in
    ap Some c.new.ensures ∙ sym (next-some t.config t.events c.args.adapter c.in_ok-device.device c.in_ok-stay.stay (is ∙ c.in_ok-device.was) (stay ∙ c.in_ok-stay.was))

pub returns-then-not-link_has_opening : goal.returns-then-not-link_has_opening
returns-then-not-link_has_opening c =
    let t = c.args.self.now in
    sym (next-none t.config t.events c.args.adapter (head-closed t.config t.events c.args.adapter (sym c.link_has_opening.ensures ∙ c.if-not-link_has_opening.true)))
