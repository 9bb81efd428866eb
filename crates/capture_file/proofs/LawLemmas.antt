-- what holds of each event
use Rattle.std.proofs.Common.{◌≡◌, ℕ, ◌+◌, ◌-◌, ◌≤◌, ◌==◌, nat_le, inl, inr, Bool, true, false, not, ◌&&◌, cond, List, [], ◌∷◌, ◌++◌, Some, None, Option, is_some, refl, sym, ap, ◌∙◌, subst, arith}
use Rattle.std.specs.Option.{IsSomeAnd}
use Rattle.std.proofs.lemmas.Bool.Decides.{nat_tests}
use Rattle.capture_file.specs.declared.attempt.Arrival as arrival
use Rattle.capture_file.specs.declared.attempt.Place.{Place}
use Rattle.capture_file.specs.declared.attempt.Sent.{Sent}
use Rattle.capture_file.specs.declared.attempt.State.TheVariants as state
use Rattle.capture_file.specs.declared.attempt.Tag.{Tag}
use Rattle.capture_file.specs.States.{State, start_of, is_waiting}
use Rattle.capture_file.specs.Attempts.{Attempt, ids, IsRising, with_id, put, without, is_same_place, waits_at, is_in_flight_at, fits_at, first_waiting, newest_at, first_early}
use Rattle.capture_file.specs.Events.{Known, nothing, added, add, issued, started_before, seen, arrived, without_it, waiting_behind, moved, with_front, in_flight_since, with_start, with_next, put_back_at, with_put_back, completed_at, with_completion}
use Rattle.capture_file.specs.Laws.{Event, Arrival, MergeBack, MergeFront, Start, Issue, PutBack, Completion, after, gone, new_ids, IsStartKept, IsArrivalKept}
use Rattle.capture_file.proofs.KeyLemmas.{cases}
use Rattle.capture_file.proofs.FirstLemmas.{all_at, no_both, IsFirst, UpTo}
use Rattle.capture_file.proofs.LastLemmas.{IsLast, last_is}
use Rattle.capture_file.proofs.KnownLemmas.{found_push}
use Rattle.capture_file.proofs.PlaceLemmas.{waits_from_0, waits_first, waiting_at, waiting_passes, newest_found, early_found, early_passes}
use Rattle.capture_file.proofs.TableLemmas.{put_here, put_other, without_here, without_other}

append_nil : (ns : List ℕ) → ns ++ [] ≡ ns
append_nil [] = refl
append_nil (n ∷ ns) = ap (λ ms. n ∷ ms) (append_nil ns)

-- ---- the longest come first

waiting_from : (place : Place) (all : List Attempt) (r : Option Attempt) → IsFirst (waits_at place) all r → (a : Attempt) → with_id a.id all ≡ Some a → waits_at place a ≡ true
    → IsSomeAnd r (λ (first : Attempt). (waits_at place first ≡ true) × (first.id ≤ a.id))
waiting_from place all None h a at t = no_both (waits_at place a) t (all_at (λ b. waits_at place b ≡ false) all a.id a at h)
waiting_from place all (Some b) h a at t =
    let up : UpTo b a = all_at (λ c. waits_at place c ≡ true → UpTo b c) all a.id a at h.2 t in
    (h.1, up.id (waits_from_0 b.state (is_same_place b.place place) h.1 ∙ sym (waits_from_0 a.state (is_same_place a.place place) t)))

pub longest_waits : (place : Place) (all : List Attempt) → IsRising all → (a : Attempt) → with_id a.id all ≡ Some a → waits_at place a ≡ true
    → IsSomeAnd (first_waiting place all) (λ (first : Attempt). (waits_at place first ≡ true) × (first.id ≤ a.id))
longest_waits place all rising = waiting_from place all (first_waiting place all) (waits_first place all rising)

newest_from : (place : Place) (sent : Sent) (all : List Attempt) (r : Option Attempt) → IsLast (fits_at place sent) all r → (a : Attempt) → with_id a.id all ≡ Some a → fits_at place sent a ≡ true
    → IsSomeAnd r (λ (last : Attempt). (fits_at place sent last ≡ true) × (start_of a.state ≤ start_of last.state))
newest_from place sent all None h a at t = no_both (fits_at place sent a) t (all_at (λ b. fits_at place sent b ≡ false) all a.id a at h)
newest_from place sent all (Some b) h a at t =
    let up : UpTo a b = all_at (λ c. fits_at place sent c ≡ true → UpTo c b) all a.id a at h.2 t in
    (h.1, up.start)

pub newest_flies : (place : Place) (sent : Sent) (all : List Attempt) → IsRising all → (a : Attempt) → with_id a.id all ≡ Some a → fits_at place sent a ≡ true
    → IsSomeAnd (newest_at place sent all) (λ (last : Attempt). (fits_at place sent last ≡ true) × (start_of a.state ≤ start_of last.state))
newest_flies place sent all rising = newest_from place sent all (newest_at place sent all) (last_is (fits_at place sent) all rising)

-- ---- ids

ids-put : (a : Attempt) (all : List Attempt) → ids (put a all) ≡ ids all
ids-put a [] = refl
ids-put a (b ∷ rest) = cases (b.id == a.id)
    (λ t. let e : b.id ≡ a.id = grind (arith, nat_tests) in rw (t, e, ids-put a rest) refl)
    (λ f. rw (f, ids-put a rest) refl)

ids-push : (all : List Attempt) (a : Attempt) → ids (all ++ a ∷ []) ≡ ids all ++ a.id ∷ []
ids-push [] a = refl
ids-push (b ∷ rest) a = ap (λ ns. b.id ∷ ns) (ids-push rest a)

ids-without_put : (id : ℕ) (a : Attempt) (all : List Attempt) → ids (without id (put a all)) ≡ ids (without id all)
ids-without_put id a [] = refl
ids-without_put id a (b ∷ rest) = cases (b.id == a.id)
    (λ t. let e : b.id ≡ a.id = grind (arith, nat_tests) in cases (a.id == id)
    (λ s. rw (t, e, s) (ids-without_put id a rest))
    (λ g. rw (t, e, g) (ap (λ ns. a.id ∷ ns) (ids-without_put id a rest))))
    (λ f. cases (b.id == id)
    (λ s. rw (f, s) (ids-without_put id a rest))
    (λ g. rw (f, g) (ap (λ ns. b.id ∷ ns) (ids-without_put id a rest))))

no_new : (next : ℕ) (ns ms : List ℕ) → ns ≡ ms → ns ≡ ms ++ new_ids next next
no_new next ns ms e = let t : (next == next) ≡ true = grind (arith, nat_tests) in e ∙ rw t (sym (append_nil ms))

one_new : (next : ℕ) → new_ids next (next + 1) ≡ next ∷ []
one_new next = let f : (next + 1 == next) ≡ false = grind (arith, nat_tests) in rw f refl

pushed : (next : ℕ) (ns ms : List ℕ) → ns ≡ ms → ns ++ next ∷ [] ≡ ms ++ new_ids next (next + 1)
pushed next ns ms e = rw (e, one_new next) refl

ids_added : (place : Place) (sent : Sent) (a : Option arrival.Arrival) (s : State) (k : Known) → ids (add place sent a s k).attempts ≡ ids k.attempts ++ new_ids k.next (k.next + 1)
ids_added place sent a s k = ids-push k.attempts (added place sent a s k) ∙ pushed k.next (ids k.attempts) (ids k.attempts) refl

ids_arrived : (place : Place) (time : ℕ) (tag : Tag) (k : Known) (r : Option Attempt) → ids (arrived place time tag k r).attempts ≡ ids k.attempts ++ new_ids k.next (arrived place time tag k r).next
ids_arrived place time tag k None = ids_added place nothing (Some (record { time = time; tag = tag })) state.Waiting k
ids_arrived place time tag k (Some a) = no_new k.next (ids (put (seen tag a) k.attempts)) (ids k.attempts) (ids-put (seen tag a) k.attempts)

ids_without : (k : Known) (r : Option Attempt) → ids (without_it k r).attempts ≡ ids (without_it k r).attempts ++ new_ids k.next (without_it k r).next
ids_without k None = no_new k.next (ids k.attempts) (ids k.attempts) refl
ids_without k (Some a) = no_new k.next (ids (without a.id k.attempts)) (ids (without a.id k.attempts)) refl

ids_front : (place : Place) (k : Known) (r s : Option Attempt) → s ≡ first_waiting place k.attempts → ids (with_front place k r).attempts ≡ ids (without_it k (cond (is_some r) s None)).attempts ++ new_ids k.next (with_front place k r).next
ids_front place k None s e = no_new k.next (ids k.attempts) (ids k.attempts) refl
ids_front place k (Some a) None e =
    subst (λ w. ids (without_it (record k { attempts = put (moved place a) k.attempts }) w).attempts ≡ ids k.attempts ++ new_ids k.next (without_it (record k { attempts = put (moved place a) k.attempts }) w).next) e
    (no_new k.next (ids (put (moved place a) k.attempts)) (ids k.attempts) (ids-put (moved place a) k.attempts))
ids_front place k (Some a) (Some m) e =
    subst (λ w. ids (without_it (record k { attempts = put (moved place a) k.attempts }) w).attempts ≡ ids (without m.id k.attempts) ++ new_ids k.next (without_it (record k { attempts = put (moved place a) k.attempts }) w).next) e
    (no_new k.next (ids (without m.id (put (moved place a) k.attempts))) (ids (without m.id k.attempts)) (ids-without_put m.id (moved place a) k.attempts))

ids_start : (place : Place) (sent : Sent) (time : ℕ) (k : Known) (r : Option Attempt) → ids (with_start place sent time k r).attempts ≡ ids k.attempts ++ new_ids k.next (with_start place sent time k r).next
ids_start place sent time k None = ids_added place sent None (state.InFlight time) k
ids_start place sent time k (Some a) = no_new k.next (ids (put (in_flight_since sent time a) k.attempts)) (ids k.attempts) (ids-put (in_flight_since sent time a) k.attempts)

ids_next : (place : Place) (time : ℕ) (a : Option arrival.Arrival) (k : Known) (ns : List ℕ) → ids k.attempts ≡ ns → ids (with_next place time a k).attempts ≡ ns ++ new_ids k.next (with_next place time a k).next
ids_next place time None k ns e = no_new k.next (ids k.attempts) ns e
ids_next place time (Some before) k ns e = cases (is_some place.sector)
    (λ t. rw t (ids-push k.attempts (added place nothing (Some (record { time = time; tag = before.tag })) state.Waiting k) ∙ pushed k.next (ids k.attempts) ns e))
    (λ f. rw f (no_new k.next (ids k.attempts) ns e))

ids_put_back : (time : ℕ) (k : Known) (r : Option Attempt) → ids (with_put_back time k r).attempts ≡ ids k.attempts ++ new_ids k.next (with_put_back time k r).next
ids_put_back time k None = no_new k.next (ids k.attempts) (ids k.attempts) refl
ids_put_back time k (Some a) = ids_next a.place time a.arrival (record k { attempts = put (put_back_at time a) k.attempts }) (ids k.attempts) (ids-put (put_back_at time a) k.attempts)

ids_completion : (place : Place) (time : ℕ) (k : Known) (r : Option Attempt) → ids (with_completion place time k r).attempts ≡ ids (without_it k (cond (is_some r) None (first_waiting place k.attempts))).attempts ++ new_ids k.next (with_completion place time k r).next
ids_completion place time k None = ids_without k (first_waiting place k.attempts)
ids_completion place time k (Some a) = no_new k.next (ids (put (completed_at time a) k.attempts)) (ids k.attempts) (ids-put (completed_at time a) k.attempts)

pub ids_after : (event : Event) (k : Known) → ids (after event k).attempts ≡ ids (without_it k (gone event k)).attempts ++ new_ids k.next (after event k).next
ids_after (Arrival place time tag) k = ids_arrived place time tag k (started_before place time k)
ids_after (MergeBack place) k = ids_without k (first_waiting place k.attempts)
ids_after (MergeFront place behind) k = ids_front place k (waiting_behind place behind k) (first_waiting place k.attempts) refl
ids_after (Start place sent time) k = ids_start place sent time k (first_waiting place k.attempts)
ids_after (Issue place sent time tag) k = ids_added place sent (Some (record { time = time; tag = tag })) (state.InFlight time) k
ids_after (PutBack place sent time) k = ids_put_back time k (newest_at place sent k.attempts)
ids_after (Completion place sent time) k = ids_completion place time k (newest_at place sent k.attempts)

-- ---- what an event may make of an attempt

record Keeps (a b : Attempt) : Type 0 where
  start : IsStartKept a b
  arrival : IsArrivalKept a b

AreKept : List Attempt → List Attempt → Type 0
AreKept all after = (a b : Attempt) → with_id a.id all ≡ Some a → with_id a.id after ≡ Some b → Keeps a b

the_same : (a b : Attempt) → Some a ≡ Some b → a ≡ b
the_same a b e = cc

itself : (a b : Attempt) → Some a ≡ Some b → Keeps a b
itself a b e = subst (Keeps a) (the_same a b e) (record { start = λ f. (f, refl); arrival = inl refl })

kept_all : (all : List Attempt) → AreKept all all
unfolding AreKept
kept_all all a b at there = itself a b (sym at ∙ there)

kept_put : (all : List Attempt) (x y : Attempt) → with_id x.id all ≡ Some y → Keeps y x → AreKept all (put x all)
unfolding AreKept
kept_put all x y was keeps a b at there = cases (x.id == a.id)
    (λ t. let e : x.id ≡ a.id = grind (arith, nat_tests) in
    let old : y ≡ a = the_same y a (sym was ∙ ap (λ id. with_id id all) e ∙ at) in
    let new : x ≡ b = the_same x b (sym (put_here all x y was) ∙ ap (λ id. with_id id (put x all)) e ∙ there) in
    subst (λ c. Keeps c b) old (subst (Keeps y) new keeps))
    (λ f. itself a b (sym at ∙ sym (put_other all x a.id f) ∙ there))

kept_without : (all after : List Attempt) (id : ℕ) → AreKept all after → AreKept all (without id after)
unfolding AreKept
kept_without all after id kept a b at there = cases (id == a.id)
    (λ t. let e : id ≡ a.id = grind (arith, nat_tests) in
    let none : None ≡ Some b = sym (without_here after id) ∙ ap (λ n. with_id n (without id after)) e ∙ there in absurd (let none' = none in cc))
    (λ f. kept a b at (sym (without_other after id a.id f) ∙ there))

kept_push : (all : List Attempt) (n : Attempt) → AreKept all (all ++ n ∷ [])
unfolding AreKept
kept_push all n a b at there = itself a b (sym (found_push all a n a.id at) ∙ there)

kept_put_push : (all : List Attempt) (x y n : Attempt) → with_id x.id all ≡ Some y → Keeps y x → AreKept all (put x all ++ n ∷ [])
unfolding AreKept
kept_put_push all x y n was keeps a b at there = cases (x.id == a.id)
    (λ t. let e : x.id ≡ a.id = grind (arith, nat_tests) in
    let here : with_id a.id (put x all) ≡ Some x = ap (λ id. with_id id (put x all)) (sym e) ∙ put_here all x y was in
    let new : x ≡ b = the_same x b (sym (found_push (put x all) x n a.id here) ∙ there) in
    kept_put all x y was keeps a b at (subst (λ c. with_id a.id (put x all) ≡ Some c) new here))
    (λ f. let here : with_id a.id (put x all) ≡ Some a = put_other all x a.id f ∙ at in
    itself a b (sym (found_push (put x all) a n a.id here) ∙ there))

-- ---- what each event changes

not_early : (x l : Bool) (a : Option arrival.Arrival) → (x && not (is_some a) && l) ≡ true → a ≡ None
not_early x l None t = refl
not_early true l (Some a) t = no_both false t refl
not_early false l (Some a) t = no_both false t refl

pub waits : (s : State) (x : Bool) → (is_waiting s && x) ≡ true → is_waiting s ≡ true
waits state.Waiting x t = refl
waits (state.InFlight start) x t = no_both false t refl
waits (state.Completed start end) x t = no_both false t refl
waits (state.PutBack start end) x t = no_both false t refl

keeps_seen : (tag : Tag) (a : Attempt) → a.arrival ≡ None → Keeps a (seen tag a)
keeps_seen tag a e = record { start = λ f. (f, refl); arrival = inr (e, refl) }

keeps_moved : (place : Place) (a : Attempt) → Keeps a (moved place a)
keeps_moved place a = record { start = λ f. (f, refl); arrival = inl refl }

keeps_started : (sent : Sent) (time : ℕ) (a : Attempt) → is_waiting a.state ≡ true → Keeps a (in_flight_since sent time a)
keeps_started sent time a t = record { start = λ f. no_both (is_waiting a.state) t f; arrival = inl refl }

keeps_put_back : (time : ℕ) (a : Attempt) → Keeps a (put_back_at time a)
keeps_put_back time a = record { start = λ f. (refl, refl); arrival = inl refl }

keeps_completed : (time : ℕ) (a : Attempt) → Keeps a (completed_at time a)
keeps_completed time a = record { start = λ f. (refl, refl); arrival = inl refl }

kept_arrived : (place : Place) (time : ℕ) (tag : Tag) (k : Known) (r : Option Attempt) → IsRising k.attempts → r ≡ started_before place time k → AreKept k.attempts (arrived place time tag k r).attempts
kept_arrived place time tag k None rising e = kept_push k.attempts (added place nothing (Some (record { time = time; tag = tag })) state.Waiting k)
kept_arrived place time tag k (Some a) rising e = cases (k.skew == 0)
    (λ t. absurd (let none : Some a ≡ None = e ∙ rw t refl in cc))
    (λ f. let e' : Some a ≡ first_early place (time - k.skew) k.attempts = e ∙ rw f refl in
    let passes = early_passes place (time - k.skew) k.attempts (Some a) rising e' in
    kept_put k.attempts (seen tag a) a (early_found place (time - k.skew) k.attempts (Some a) rising e')
    (keeps_seen tag a (not_early (is_in_flight_at place a) (nat_le (time - k.skew) (start_of a.state)) a.arrival passes)))

kept_gone : (k : Known) (r : Option Attempt) → AreKept k.attempts (without_it k r).attempts
kept_gone k None = kept_all k.attempts
kept_gone k (Some a) = kept_without k.attempts k.attempts a.id (kept_all k.attempts)

-- the one behind is there
behind_at : (place : Place) (behind : Option Place) (k : Known) (a : Attempt) → IsRising k.attempts → Some a ≡ waiting_behind place behind k → with_id a.id k.attempts ≡ Some a
behind_at place None k a rising e = absurd (let e' : Some a ≡ None = e in cc)
behind_at place (Some behind) k a rising e = cases (is_same_place behind place)
    (λ t. absurd (let none : Some a ≡ None = e ∙ rw t refl in cc))
    (λ f. waiting_at behind k.attempts (Some a) rising (e ∙ rw f refl))

kept_joined : (all after : List Attempt) (k : Known) (r : Option Attempt) → k.attempts ≡ after → AreKept all after → AreKept all (without_it k r).attempts
kept_joined all after k None e kept = subst (AreKept all) (sym e) kept
kept_joined all after k (Some m) e kept = kept_without all k.attempts m.id (subst (AreKept all) (sym e) kept)

kept_front : (place : Place) (behind : Option Place) (k : Known) (r : Option Attempt) → IsRising k.attempts → r ≡ waiting_behind place behind k → AreKept k.attempts (with_front place k r).attempts
kept_front place behind k None rising e = kept_all k.attempts
kept_front place behind k (Some a) rising e =
    kept_joined k.attempts (put (moved place a) k.attempts) (record k { attempts = put (moved place a) k.attempts }) (first_waiting place k.attempts) refl
    (kept_put k.attempts (moved place a) a (behind_at place behind k a rising e) (keeps_moved place a))

kept_start : (place : Place) (sent : Sent) (time : ℕ) (k : Known) (r : Option Attempt) → IsRising k.attempts → r ≡ first_waiting place k.attempts → AreKept k.attempts (with_start place sent time k r).attempts
kept_start place sent time k None rising e = kept_push k.attempts (added place sent None (state.InFlight time) k)
kept_start place sent time k (Some a) rising e =
    kept_put k.attempts (in_flight_since sent time a) a (waiting_at place k.attempts (Some a) rising e)
    (keeps_started sent time a (waits a.state (is_same_place a.place place) (waiting_passes place k.attempts (Some a) rising e)))

kept_next : (time : ℕ) (k : Known) (a : Attempt) (before : Option arrival.Arrival) → with_id a.id k.attempts ≡ Some a → AreKept k.attempts (with_next a.place time before (record k { attempts = put (put_back_at time a) k.attempts })).attempts
kept_next time k a None at = kept_put k.attempts (put_back_at time a) a at (keeps_put_back time a)
kept_next time k a (Some before) at = cases (is_some a.place.sector)
    (λ t. rw t (kept_put_push k.attempts (put_back_at time a) a _ at (keeps_put_back time a)))
    (λ f. rw f (kept_put k.attempts (put_back_at time a) a at (keeps_put_back time a)))

kept_put_back : (place : Place) (sent : Sent) (time : ℕ) (k : Known) (r : Option Attempt) → IsRising k.attempts → r ≡ newest_at place sent k.attempts → AreKept k.attempts (with_put_back time k r).attempts
kept_put_back place sent time k None rising e = kept_all k.attempts
kept_put_back place sent time k (Some a) rising e = kept_next time k a a.arrival (newest_found place sent k.attempts (Some a) rising e)

kept_completion : (place : Place) (sent : Sent) (time : ℕ) (k : Known) (r : Option Attempt) → IsRising k.attempts → r ≡ newest_at place sent k.attempts → AreKept k.attempts (with_completion place time k r).attempts
kept_completion place sent time k None rising e = kept_gone k (first_waiting place k.attempts)
kept_completion place sent time k (Some a) rising e = kept_put k.attempts (completed_at time a) a (newest_found place sent k.attempts (Some a) rising e) (keeps_completed time a)

kept_after : (event : Event) (k : Known) → IsRising k.attempts → AreKept k.attempts (after event k).attempts
kept_after (Arrival place time tag) k rising = kept_arrived place time tag k (started_before place time k) rising refl
kept_after (MergeBack place) k rising = kept_gone k (first_waiting place k.attempts)
kept_after (MergeFront place behind) k rising = kept_front place behind k (waiting_behind place behind k) rising refl
kept_after (Start place sent time) k rising = kept_start place sent time k (first_waiting place k.attempts) rising refl
kept_after (Issue place sent time tag) k rising = kept_push k.attempts (issued place sent time tag k)
kept_after (PutBack place sent time) k rising = kept_put_back place sent time k (newest_at place sent k.attempts) rising refl
kept_after (Completion place sent time) k rising = kept_completion place sent time k (newest_at place sent k.attempts) rising refl

pub starts_kept : (event : Event) (k : Known) → IsRising k.attempts → (a b : Attempt) → with_id a.id k.attempts ≡ Some a → with_id a.id (after event k).attempts ≡ Some b → IsStartKept a b
unfolding AreKept
starts_kept event k rising a b at there = (kept_after event k rising a b at there).start

pub arrivals_kept : (event : Event) (k : Known) → IsRising k.attempts → (a b : Attempt) → with_id a.id k.attempts ≡ Some a → with_id a.id (after event k).attempts ≡ Some b → IsArrivalKept a b
unfolding AreKept
arrivals_kept event k rising a b at there = (kept_after event k rising a b at there).arrival
