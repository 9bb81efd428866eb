use Rattle.std.proofs.Common.{◌++◌, ◌∷◌, [], arith, ap, ◌∙◌, refl, length, set}
use Rattle.event_rules.specs.Counts.{round}
use Rattle.xpt_core.specs.StayRecord.{begun}
use Rattle.xpt_core.specs.Transport.{Transport}
use Rattle.xpt_core.proofs.StaySoundLemmas.{sent-ccb, requeued-ccb, submitted-few, submitted-urgent, requeued-few, room-records, room-latest, len-latest, held-place, held-within, few-records, few-latest, few-rounds, few-attempts, sound-submit, sound-send, sound-requeue, sound-quiet}
use Rattle.xpt_core.proofs.stays.update.update.Goals as goal

pub push_reserved-requires : goal.push_reserved-requires
push_reserved-requires c = room-latest _ _ c.requires.kept (submitted-few _ _ c.requires.kept c.args.event.now c.requires.legal _ _ _ _ _ c.in-Submit.is)

pub push_reserved-requires-in-Submit : goal.push_reserved-requires-in-Submit
push_reserved-requires-in-Submit c = room-records _ _ c.requires.kept (submitted-few _ _ c.requires.kept c.args.event.now c.requires.legal _ _ _ _ _ c.in-Submit.is)

pub index-requires : goal.index-requires
index-requires c = let lt = sent-ccb _ _ c.requires.kept c.args.event.now c.requires.legal _ _ c.in-Send.is in omega (arith, lt, len-latest _ _ c.requires.kept)

pub send-requires : goal.send-requires
send-requires c =
    let lt = sent-ccb _ _ c.requires.kept c.args.event.now c.requires.legal _ _ c.in-Send.is in
    held-within _ _ c.requires.kept _ _ lt (held-place _ _ c.requires.kept _ _ lt c.index.ensures)

pub returns-in_default : goal.returns-in_default
returns-in_default c = sound-quiet _ _ c.requires.kept c.args.event.now c.requires.legal _ _ refl refl refl c.args.event.now refl c.in_default.not-Submit c.in_default.not-Send c.in_default.not-Requeue refl refl

pub returns-in-Send : goal.returns-in-Send
returns-in-Send c =
    sound-send _ _ c.requires.kept c.args.event.now c.requires.legal _ _ refl c.send.ensures.capacity refl _ _ c.in-Send.is _ _ c.index.ensures
    (c.round-round.ensures ∙ ap (λ (t : Transport). round t.events) c.devices.ensures) c.send.ensures.items refl

pub overflow_cast-len : goal.overflow_cast-len
overflow_cast-len c = omega (arith, few-latest _ _ c.requires.kept)

pub overflow_cast-number : goal.overflow_cast-number
overflow_cast-number c = omega (arith, few-records _ _ c.requires.kept)

pub returns-in-Submit : goal.returns-in-Submit
returns-in-Submit c =
    sound-submit _ _ c.requires.kept c.args.event.now c.requires.legal _ _ refl c.push_reserved-in-Submit.ensures.capacity c.push_reserved.ensures.capacity _ _ _ _ _ c.in-Submit.is
    _ _ _ _ c.len.ensures (c.round-round.ensures ∙ ap (λ (t : Transport). round t.events) c.devices.ensures) (ap length (c.events.ensures.same ∙ ap (λ (t : Transport). t.events) c.devices-2.ensures))
    (c.begun.ensures ∙ ap begun c.submitted-stay.ensures) c.push_reserved-in-Submit.ensures.items (c.push_reserved.ensures.items ∙ ap (λ n. c.args.latest.now.items ++ n ∷ []) c.len-number.ensures)

pub index-before-requires : goal.index-before-requires
index-before-requires c = let lt = requeued-ccb _ _ c.requires.kept c.args.event.now c.requires.legal _ c.in-Requeue.is in omega (arith, lt, len-latest _ _ c.requires.kept)

pub requeue-stay-requires-clause-few : goal.requeue-stay-requires-clause-few
requeue-stay-requires-clause-few c =
    let lt = requeued-ccb _ _ c.requires.kept c.args.event.now c.requires.legal _ c.in-Requeue.is in
    few-attempts _ _ c.requires.kept _ _ lt (held-place _ _ c.requires.kept _ _ lt c.index-before.ensures)

pub requeue-stay-requires-clause-rounds : goal.requeue-stay-requires-clause-rounds
requeue-stay-requires-clause-rounds c =
    omega (arith, few-rounds _ _ c.requires.kept, c.round-round.ensures ∙ ap (λ (t : Transport). round t.events) c.devices.ensures)

pub index_mut-requires : goal.index_mut-requires
index_mut-requires c = let lt = requeued-ccb _ _ c.requires.kept c.args.event.now c.requires.legal _ c.in-Requeue.is in omega (arith, lt, len-latest _ _ c.requires.kept)

pub push_reserved-requires-in-Requeue : goal.push_reserved-requires-in-Requeue
push_reserved-requires-in-Requeue c =
    let room = room-records _ _ c.requires.kept (requeued-few _ _ c.requires.kept c.args.event.now c.requires.legal _ c.in-Requeue.is) in
    omega (arith, room, c.requeue-stay.ensures.len, c.requeue-stay.ensures.capacity)

pub returns-in-Requeue : goal.returns-in-Requeue
returns-in-Requeue c =
    sound-requeue _ _ c.requires.kept c.args.event.now c.requires.legal _ _ refl (c.push_reserved-in-Requeue.ensures.capacity ∙ c.requeue-stay.ensures.capacity) refl _ c.in-Requeue.is
    _ _ _ _ _ c.index-before.ensures (c.round-round.ensures ∙ ap (λ (t : Transport). round t.events) c.devices.ensures) (ap length (c.events.ensures.same ∙ ap (λ (t : Transport). t.events) c.devices-2.ensures))
    c.begun-in-Requeue.ensures c.requeue-stay.ensures.next
    (c.push_reserved-in-Requeue.ensures.items ∙ ap (λ rs. rs ++ c.begun-in-Requeue.result ∷ []) c.requeue-stay.ensures.items)
    (ap (set c.args.latest.now.items c.in-Requeue.ccb) c.len-number.ensures)

pub submitted-stay-requires : goal.submitted-stay-requires
submitted-stay-requires c = submitted-urgent _ _ c.requires.kept c.args.event.now c.requires.legal _ _ _ _ _ c.in-Submit.is
