use Rattle.std.proofs.Common.{◌≡◌, true, refl, ap, sym, subst, ◌∙◌}
use Rattle.xpt_core.specs.Words.{Event, is_legal_event}
use Rattle.xpt_core.specs.DeviceUpdates.{CanUpdate, updated}
use Rattle.xpt_core.specs.Transport.{Transport}
use Rattle.xpt_core.specs.declared.devices.Devices.TheInside.{Inside}
use Rattle.xpt_core.proofs.DeviceSoundLemmas.{sound-update, sound-count, sound-few, sound-events, sound-keep_submission, sound-push}
use Rattle.xpt_core.proofs.devices.Devices.append.Goals as goal

-- the event is legal after those of the fields
allowed : (i : Inside) (t : Transport) (e : Event) → ◌≡◌ {A = Transport} (record { config = i.config; rules = i.rules; events = i.events.items }) t → is_legal_event t.rules t.config (t.events, e) ≡ true →
    is_legal_event i.rules i.config (i.events.items, e) ≡ true
allowed i t e view legal = ap (λ (x : Transport). is_legal_event x.rules x.config (x.events, e)) view ∙ legal

pub update-requires : goal.update-requires
update-requires c =
    let legal = allowed c.self.inside c.args.self.now c.args.event c.self.view_is c.requires.legal in
    subst (λ ss. CanUpdate ss c.args.event c.self.inside.queues.items) (sym c.deref.ensures.value) (sound-update c.self.inside c.self.invariant c.args.event legal)

pub behind-self-inside-requires-clause-found : goal.behind-self-inside-requires-clause-found
behind-self-inside-requires-clause-found c =
    sound-count c.self.inside c.self.invariant c.args.event (allowed c.self.inside c.args.self.now c.args.event c.self.view_is c.requires.legal)

pub behind-self-inside-requires-clause-few : goal.behind-self-inside-requires-clause-few
behind-self-inside-requires-clause-few c =
    sound-few c.self.inside c.self.invariant c.args.event (allowed c.self.inside c.args.self.now c.args.event c.self.view_is c.requires.legal)

pub keep_submission-requires : goal.keep_submission-requires
keep_submission-requires c = record { room = sound-keep_submission c.self.inside c.args.event c.self.invariant (allowed c.self.inside c.args.self.now c.args.event c.self.view_is c.requires.legal) }

pub push_reserved-requires : goal.push_reserved-requires
push_reserved-requires c = sound-events c.self.inside c.self.invariant c.args.event (allowed c.self.inside c.args.self.now c.args.event c.self.view_is c.requires.legal)

pub invariant_of-self : goal.invariant_of-self
invariant_of-self c =
    sound-push c.self.inside c.self.invariant c.args.event (allowed c.self.inside c.args.self.now c.args.event c.self.view_is c.requires.legal) _
    refl refl c.push_reserved.ensures.items c.keep_submission.ensures.items (c.update.ensures ∙ ap (λ ss. updated ss c.args.event c.self.inside.queues.items) c.deref.ensures.value)
    c.behind-self-inside.ensures c.push_reserved.ensures.capacity c.keep_submission.ensures.capacity
