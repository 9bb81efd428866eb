-- the parts of a transport's devices, before any event and after one more
use Rattle.std.proofs.Common.{◌≡◌, ℕ, suc, ◌+◌, ◌<◌, ◌≤◌, Bool, true, false, cond, List, [], ◌∷◌, ◌++◌, length, refl, sym, ap, subst, ◌∙◌, arith, Option, Some, None, map, get_or, zero-add, not, ◌==◌, ◌||◌, count_by, slice_get, option_to_list, is_some, IfSome, vec_len, vec_capacity, option_map}
use Rattle.std.specs.List.{list_any, range_with_len}
use Rattle.std.proofs.lemmas.List.{length-map}
use Rattle.std.proofs.lemmas.List.FromFn.{length-range_with_len}
use Rattle.std.proofs.lemmas.Option.{slice_get_read}
use Rattle.std.proofs.lemmas.List.Sums.{sum_by-cons}
use Rattle.std.proofs.lemmas.Bool.Decides.{nat_tests}
use Rattle.xpt_core.specs.Words.{Topology, submission_of, submissions, ccbs, sendings, is_in_flight, has_in_flight, caller_count, error_count, stays_begun, waiting, queue, first, devices, openings, Event, Submit, Passage, Rules, IsWithinHistory, is_legal_event, is_legal, Device, Waiting}
use Rattle.cam_types.specs.declared.device.Device as config
use Rattle.event_rules.proofs.QueueLaws.{first-in_order}
use Rattle.event_rules.proofs.PushLaws.{submissions-push, few_commands}
use Rattle.event_rules.proofs.StateLaws.{slice_get-range}
use Rattle.event_rules.proofs.LawLemmas.{allowed-legal_event, legal-push}
use Rattle.event_rules.proofs.LimitLemmas.{room_submit}
use Rattle.event_rules.proofs.WithinLemmas.{short-legal}
use Rattle.event_rules.proofs.TotalLaws.{commands-stays}
use Rattle.xpt_core.specs.Device.{entry, in_order, device_state, new_device}
use Rattle.xpt_core.specs.DeviceUpdates.{updated, CanUpdate}
use Rattle.xpt_core.specs.Counted.{counts_of, counted, CanCount, AreFew}
use Rattle.xpt_core.specs.DevicesSound.{IsDevices}
use Rattle.xpt_core.specs.declared.devices.Devices.TheInside.{Inside}
use Rattle.xpt_core.proofs.TransportLemmas.{updated-push, can-update}
use Rattle.xpt_core.proofs.CountLemmas.{counts-push, can-count, are-few}

pub short-sound : (i : Inside) → IsDevices i → length i.events.items ≤ 65535
short-sound i is = let h = short-legal i.rules i.config i.events.items is.legal in omega (arith, h, is.within.events)

pub few-sound : (i : Inside) → IsDevices i → length i.submissions.items ≤ 65535
few-sound i is = omega (arith, ap length is.submissions, few_commands i.events.items, short-sound i is)

-- what an event finds, and makes
module _ (i : Inside) (is : IsDevices i) (e : Event) (allowed : is_legal_event i.rules i.config (i.events.items, e) ≡ true) where
  pub sound-update : CanUpdate i.submissions.items e i.queues.items
  sound-update =
      subst (λ ss. CanUpdate ss e i.queues.items) (sym is.submissions)
      (subst (λ qs. CanUpdate (submissions i.events.items) e qs) (sym is.queues) (can-update i.rules is.within i.config i.events.items is.legal e allowed))

  pub sound-count : CanCount e i.counts
  sound-count = subst (CanCount e) (sym is.counts) (can-count i.rules i.config i.events.items is.legal e allowed)

  pub sound-few : AreFew i.counts
  sound-few = subst AreFew (sym is.counts) (are-few i.events.items (short-sound i is))

  pub sound-events : vec_len i.events < vec_capacity i.events
  sound-events = omega (arith, i.events.ok.0, (allowed-legal_event i.rules i.config i.events.items e allowed).0, is.events_room)

  pub sound-push : (i' : Inside) → i'.config ≡ i.config → i'.rules ≡ i.rules → i'.events.items ≡ i.events.items ++ e ∷ [] → i'.submissions.items ≡ i.submissions.items ++ option_to_list (submission_of e) →
      i'.queues.items ≡ updated i.submissions.items e i.queues.items → i'.counts ≡ counted e i.counts → vec_capacity i'.events ≡ vec_capacity i.events → vec_capacity i'.submissions ≡ vec_capacity i.submissions → IsDevices i'
  sound-push i' ec el ee es eq en ev ew = record {
    within = rw el is.within;
    legal = rw (el, ec, ee) (legal-push i.rules i.config i.events.items e is.legal allowed);
    submissions = rw (ee, submissions-push, ← is.submissions) es;
    queues = eq ∙ ap (λ ss. updated ss e i.queues.items) is.submissions ∙ ap (updated (submissions i.events.items) e) is.queues
        ∙ sym (updated-push i.rules i.config i.rules.stays i.events.items is.legal e allowed) ∙ rw (el, ec, ee) refl;
    counts = en ∙ ap (counted e) is.counts ∙ sym (counts-push i.rules i.config i.events.items is.legal e allowed) ∙ ap counts_of (sym ee);
    events_room = rw (el, ev) is.events_room;
    submissions_room = rw (el, ew) is.submissions_room;
  }

-- what a submit submits has room
pub sound-keep_submission : (i : Inside) (e : Event) → IsDevices i → is_legal_event i.rules i.config (i.events.items, e) ≡ true → IfSome (submission_of e) (λ _. vec_len i.submissions < vec_capacity i.submissions)
sound-keep_submission i (Submit driver device priority retries flags) is allowed =
    omega (arith, i.submissions.ok.0, room_submit i.rules i.config i.events.items driver device priority retries flags allowed, commands-stays i.events.items, ap length is.submissions, is.submissions_room)
sound-keep_submission i _ is allowed = tt

-- before any event
pub new-state : (c : Topology) (n d : ℕ) (device : config.Device) → slice_get c.devices d ≡ Some device → device_state c n [] d ≡ new_device n device
unfolding device_state queue waiting stays_begun openings sendings submissions caller_count error_count
new-state c n d device is = rw is refl

-- the queue of a device
pub queue-within : (i : Inside) (d : ℕ) → IsDevices i → d < length i.config.devices → d < vec_len i.queues
queue-within i d is lt =
    omega (arith, i.queues.ok.0, ap length is.queues, length-map (devices i.config) (device_state i.config i.rules.stays i.events.items), length-range_with_len 0 (length i.config.devices))

pub queue-state : (i : Inside) (d : ℕ) (q : Device) → IsDevices i → d < length i.config.devices → q ≡ get_or i.queues.items d q → q ≡ device_state i.config i.rules.stays i.events.items d
queue-state i d q is lt at =
    let state = device_state i.config i.rules.stays i.events.items in
    let read : slice_get i.queues.items d ≡ Some q = slice_get_read i.queues.items (length i.queues.items) d q refl (omega (arith, i.queues.ok.0, queue-within i d is lt)) at in
    let made : slice_get i.queues.items d ≡ Some (state (0 + d)) = ap (λ qs. slice_get qs d) is.queues ∙ slice_get-range state 0 (length i.config.devices) d lt in
    let same : q ≡ state (0 + d) = cc in
    same ∙ ap state (zero-add d)

-- some CCB is in flight where one counts
or_cases : (b : Bool) (n : ℕ) → not (cond {A = ℕ} b 1 0 + n == 0) ≡ (b || not (n == 0))
or_cases true n = grind (arith, nat_tests)
or_cases false n = ap (λ k. not (k == 0)) (zero-add n)

some_counts : (p : ℕ → Bool) (xs : List ℕ) → not (count_by p xs == 0) ≡ list_any p xs
some_counts p [] = refl
some_counts p (x ∷ xs) =
    ap (λ k. not (k == 0)) (sum_by-cons (λ y. cond (p y) 1 0) x xs) ∙ or_cases (p x) (count_by p xs) ∙ ap (λ b. p x || b) (some_counts p xs)

pub flying-counts : (es : List Event) → not ((counts_of es).in_flight == 0) ≡ has_in_flight es
unfolding counts_of has_in_flight
flying-counts es = some_counts (is_in_flight es) (ccbs es)

-- the first of its queue
first_entry : (ps : List Passage) → slice_get (map entry ps) 0 ≡ option_map entry (slice_get ps 0)
first_entry [] = refl
first_entry (p ∷ ps) = refl

pub first-state : (c : Topology) (n : ℕ) (es : List Event) (d : ℕ) → slice_get (device_state c n es d).waiting 0 ≡ option_map entry (first es d)
unfolding device_state
first-state c n es d = first_entry (in_order es d) ∙ ap (option_map entry) (first-in_order es d)

-- and whether there is one
pub some_entry : (o : Option Passage) → is_some (option_map entry o) ≡ is_some o
some_entry None = refl
some_entry (Some p) = refl

-- and its priority
pub entry_priority : (o : Option Passage) → option_map (λ (w : Waiting). w.priority) (option_map entry o) ≡ option_map (λ (p : Passage). p.priority) o
entry_priority None = refl
entry_priority (Some p) = refl

-- a function over the places of a list
there : (a d : ℕ) → (a + 1) + d ≡ a + suc d
there a d = omega arith

map_places : (f : ℕ → Device) (g : config.Device → Device) (a : ℕ) (ds : List config.Device) → ((d : ℕ) (x : config.Device) → slice_get ds d ≡ Some x → f (a + d) ≡ g x) → map f (range_with_len a (length ds)) ≡ map g ds
map_places f g a [] h = refl
map_places f g a (x ∷ xs) h =
    let at : a + 0 ≡ a = omega arith in
    let here : f a ≡ g x = ap f (sym at) ∙ h 0 x refl in
    let rest : map f (range_with_len (a + 1) (length xs)) ≡ map g xs = map_places f g (a + 1) xs (λ d y e. ap f (there a d) ∙ h (suc d) y e) in
    rw (here, rest) refl

new_queues : (c : Topology) (n : ℕ) → map (new_device n) c.devices ≡ map (device_state c n []) (devices c)
new_queues c n = sym (map_places (device_state c n []) (new_device n) 0 c.devices (λ d x e. ap (device_state c n []) (zero-add d) ∙ new-state c n d x e))

none_legal : (rules : Rules) (c : Topology) → is_legal rules c [] ≡ true
unfolding is_legal
none_legal rules c = refl

no_submissions : submissions [] ≡ []
unfolding submissions
no_submissions = refl

pub sound-open : (i : Inside) → IsWithinHistory i.rules → i.events.items ≡ [] → i.submissions.items ≡ [] → i.queues.items ≡ map (new_device i.rules.stays) i.config.devices → i.counts ≡ counts_of [] →
    i.rules.events ≤ vec_capacity i.events → i.rules.stays ≤ vec_capacity i.submissions → IsDevices i
sound-open i within ee es eq en ev ew = record {
  within = within;
  legal = rw ee (none_legal i.rules i.config);
  submissions = es ∙ sym no_submissions ∙ ap submissions (sym ee);
  queues = rw ee (eq ∙ new_queues i.config i.rules.stays);
  counts = en ∙ ap counts_of (sym ee);
  events_room = ev;
  submissions_room = ew;
}
