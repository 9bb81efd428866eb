-- a transport after one event more, and its adapters' queues
use Rattle.std.proofs.Common.{◌≡◌, ◌-◌, ◌<◌, ◌≤◌, true, List, [], ◌∷◌, ◌++◌, length, sym, ap, subst, ◌∙◌, arith, length-append}
use Rattle.xpt_core.specs.Words.{Topology, Event, is_legal_event, is_legal, Adapter}
use Rattle.event_rules.proofs.LimitLemmas.{legal-front}
use Rattle.xpt_core.specs.Transport.{Transport}
use Rattle.xpt_core.specs.Known.{adapters_of}
use Rattle.xpt_core.specs.Affected.{affected_by, Affected}
use Rattle.xpt_core.specs.AdapterUpdates.{updated, CanUpdate, refreshed, AreAdapters, IsThere}
use Rattle.xpt_core.proofs.UpdateLaws.{unrefreshed, update-push, can-update}
use Rattle.xpt_core.proofs.RefreshLaws.{affected-there, refresh-push}
use Rattle.xpt_core.proofs.SimLemmas.{queues_of}

-- the event is legal after the same events
pub legal_there : (d t : Transport) (e : Event) → d ≡ t → is_legal_event t.rules t.config (t.events, e) ≡ true → is_legal_event d.rules d.config (d.events, e) ≡ true
legal_there d t e same legal = ap (λ (x : Transport). is_legal_event x.rules x.config (x.events, e)) same ∙ legal

module _ (d d' : Transport) (e : Event) (made : d' ≡ record d { events = d.events ++ e ∷ [] }) (whole : is_legal d'.rules d'.config d'.events ≡ true)
    (allowed : is_legal_event d.rules d.config (d.events, e) ≡ true) where
  legal : is_legal d.rules d.config d.events ≡ true
  legal = legal-front d.rules d.config d.events (e ∷ []) (sym (ap (λ (t : Transport). is_legal t.rules t.config t.events) made) ∙ whole)

  -- what adapters know of the event
  abbrev pub half : List Adapter
  half = adapters_of d.config (unrefreshed d.config d.events e)

  pub append-there : (t : Affected) → t ≡ affected_by d.events e → IsThere d'.config t
  append-there t is =
      subst (λ (x : Transport). IsThere x.config t) (sym made) (subst (IsThere d.config) (sym is) (affected-there d.rules d.config d.events e legal allowed))

  module _ (es : List Event) (c : Topology) (ss : List Adapter) (events : es ≡ d'.events) (config : c ≡ d'.config) (sims : ss ≡ queues_of d) where
    place : length es - 1 ≡ length d.events
    place = omega (arith, ap length (events ∙ ap (λ (t : Transport). t.events) made), length-append d.events (e ∷ []))

    own_config : c ≡ d.config
    own_config = config ∙ ap (λ (t : Transport). t.config) made

    pub append-update : length es ≤ 65535 → CanUpdate c (length es - 1) e ss
    append-update short =
        let lt : length d.events < 65535 = omega (arith, short, ap length (events ∙ ap (λ (t : Transport). t.events) made), length-append d.events (e ∷ [])) in
        subst (λ k. CanUpdate k (length es - 1) e ss) (sym own_config)
        (subst (λ n. CanUpdate d.config n e ss) (sym place)
        (subst (CanUpdate d.config (length d.events) e) (sym sims)
        (can-update d.rules d.config d.events legal e lt allowed)))

    pub append-half : (now : List Adapter) → now ≡ updated c (length es - 1) e ss → now ≡ half
    append-half now is =
        is ∙ ap (λ k. updated k (length es - 1) e ss) own_config ∙ ap (λ n. updated d.config n e ss) place ∙ ap (updated d.config (length d.events) e) sims
        ∙ sym (update-push d.rules d.config d.events legal e allowed)

  pub append-adapters : (now : List Adapter) → now ≡ half → AreAdapters d'.config now
  append-adapters now is = record { by = unrefreshed d.config d.events e; is = is ∙ ap (λ (t : Transport). adapters_of t.config (unrefreshed d.config d.events e)) (sym made) }

  pub append-known : (t : Affected) (now end : List Adapter) → t ≡ affected_by d.events e → now ≡ half → end ≡ refreshed d'.config d'.events t now → end ≡ queues_of d'
  append-known t now end affects is fresh =
      fresh ∙ ap (λ (x : Transport). refreshed x.config x.events t now) made ∙ ap (λ s. refreshed d.config (d.events ++ e ∷ []) s now) affects
      ∙ ap (refreshed d.config (d.events ++ e ∷ []) (affected_by d.events e)) is ∙ sym (refresh-push d.rules d.config d.events legal e allowed) ∙ ap queues_of (sym made)
