-- the parts that hold a transport's stays, before any event and after one more
use Rattle.std.proofs.Common.{◌≡◌, ℕ, ◌+◌, ◌<◌, ◌≤◌, ◌^◌, true, false, List, [], ◌∷◌, ◌++◌, length, get_or, set, refl, sym, ap, ◌∙◌, arith, Some, None, subst, slice_get, vec_len, vec_capacity, IfSome, nat_le, ◌&&◌, option_map}
use Rattle.std.proofs.lemmas.Bool.{and_parts, leb-true}
use Rattle.xpt_core.specs.Words.{names_device, Topology, Flags, MAX_STAYS, MAX_PRIORITY, MAX_RETRIES, submission_of, is_send_of, is_requeue_of, round, commands, ccbs, submissions, stays_begun, stay_begun, Event, Submit, Send, Requeue, Passage, Rules, IsWithinHistory, is_legal_event, is_legal}
use Rattle.event_rules.proofs.RangeLemmas.{range_submit}
use Rattle.std.proofs.lemmas.List.{length-map}
use Rattle.std.proofs.lemmas.List.FromFn.{length-range_with_len}
use Rattle.std.proofs.lemmas.Option.{slice_get_within, slice_get-map}
use Rattle.std.proofs.lemmas.List.Sums.{count_by-le-length}
use Rattle.event_rules.proofs.PushLaws.{few_rounds}
use Rattle.event_rules.proofs.TotalLaws.{commands-stays, submitted_stay}
use Rattle.event_rules.proofs.LawLemmas.{legal-push}
use Rattle.event_rules.proofs.LimitLemmas.{room_submit, room_requeue, stays-legal}
use Rattle.event_rules.proofs.StandLemmas.{asks-send, asks-requeue}
use Rattle.xpt_core.specs.Places.{at_place, HasAt}
use Rattle.xpt_core.proofs.PlaceLemmas.{value_at}
use Rattle.event_rules.proofs.WithinLemmas.{short-legal}
use Rattle.xpt_core.specs.Latest.{latest_place, latest_places}
use Rattle.xpt_core.specs.StayRecord.{submitted_in, begun, sent_in, followed_in, requeued_in, StayRecord}
use Rattle.xpt_core.specs.Records.{record_of, records}
use Rattle.xpt_core.specs.Transport.{Transport}
use Rattle.xpt_core.specs.PartsSound.{IsStays, Stays}
use Rattle.xpt_core.proofs.LatestLemmas.{HasLatest, AreLatest, latest-legal}
use Rattle.xpt_core.proofs.RecordLaws.{records-quiet, records-submit, records-send, records-requeue, places-quiet, places-submit, places-requeue}

length-records : (es : List Event) → length (records es) ≡ length (stays_begun es)
unfolding records
length-records es = length-map (stays_begun es) (record_of es)

length-places : (es : List Event) → length (latest_places es) ≡ commands es
unfolding latest_places
length-places es = omega (arith, length-map (ccbs es) (latest_place es), length-range_with_len 0 (commands es))

read_place : (es : List Event) (k n : ℕ) → k < commands es → n ≡ get_or (latest_places es) k n → n ≡ latest_place es k
unfolding latest_places
read_place es k n lt is = value_at (latest_place es) (commands es) k n lt is

record_at : (es : List Event) (k : ℕ) (h : HasLatest es k) → slice_get (records es) (latest_place es k) ≡ Some (record_of es h.stay)
unfolding records
record_at es k h = slice_get-map (record_of es) (stays_begun es) (latest_place es k) ∙ ap (λ o. option_map (record_of es) o) h.there

none_begun : (c : Topology) (rules : Rules) → (is_legal rules c [] ≡ true) × (records [] ≡ []) × (latest_places [] ≡ [])
unfolding is_legal records stays_begun latest_places submissions
none_begun c rules = (refl, refl, refl)

pub sound-open : (t : Transport) (s : Stays) (c : Topology) (rules : Rules) (n : ℕ) → n ≡ rules.stays → IsWithinHistory rules → t ≡ record { config = c; rules = rules; events = [] } → s.records.items ≡ [] → s.latest.items ≡ [] →
    vec_capacity s.records ≡ n → vec_capacity s.latest ≡ n → IsStays t s
sound-open t s c rules n is-n within is-ccbs is-records is-latest room-records room-latest =
    let none = none_begun c rules in record {
      within = rw is-ccbs within;
      legal = rw is-ccbs none.0;
      records = rw is-ccbs (is-records ∙ sym none.1);
      latest = rw is-ccbs (is-latest ∙ sym none.2);
      records_room = rw is-ccbs (omega arith);
      latest_room = rw is-ccbs (omega arith);
    }

module _ (t : Transport) (s : Stays) (is : IsStays t s) where
  es : List Event
  es = t.events

  all : AreLatest t.events
  all = latest-legal t.rules t.config t.events is.legal

  pub held-latest : (k : ℕ) → k < commands t.events → HasLatest t.events k
  held-latest k lt = all.latest k lt

  pub len-records : vec_len s.records ≡ length (stays_begun t.events)
  len-records = omega (arith, s.records.ok.0, ap length is.records, length-records t.events)

  pub len-latest : vec_len s.latest ≡ commands t.events
  len-latest = omega (arith, s.latest.ok.0, ap length is.latest, length-places t.events)

  -- what stands at a CCB's place
  pub held-place : (k n : ℕ) → k < commands t.events → n ≡ get_or s.latest.items k n → n ≡ latest_place t.events k
  held-place k n lt read = read_place t.events k n lt (read ∙ ap (λ ns. get_or ns k n) is.latest)

  pub held-record : (k : ℕ) (h : HasLatest t.events k) → slice_get s.records.items (latest_place t.events k) ≡ Some (record_of t.events h.stay)
  held-record k h = ap (λ rs. slice_get rs (latest_place t.events k)) is.records ∙ record_at t.events k h

  pub held-within : (k n : ℕ) → k < commands t.events → n ≡ latest_place t.events k → n < length s.records.items
  held-within k n lt at = let h = all.latest k lt in omega (arith, slice_get_within s.records.items (latest_place t.events k) (record_of t.events h.stay) (held-record k h))

  -- few enough to count
  pub short : length t.events ≤ 65535
  short = omega (arith, short-legal t.rules t.config t.events is.legal, is.within.events)

  pub few-records : vec_len s.records ≤ MAX_STAYS
  few-records = omega (arith, len-records, stays-legal t.rules t.config t.events is.legal, is.within.stays)

  pub few-latest : vec_len s.latest ≤ MAX_STAYS
  few-latest = omega (arith, len-latest, len-records, few-records, commands-stays t.events)

  pub few-rounds : round t.events ≤ 65536
  few-rounds = omega (arith, few_rounds t.events, short)

  pub few-attempts : (k n : ℕ) → k < commands t.events → n ≡ latest_place t.events k → HasAt (λ (r : StayRecord). r.stay.attempt + 1 < 2 ^ 32) s.records.items n
  few-attempts k n lt at =
      let h = all.latest k lt in
      let few : h.stay.attempt + 1 < 2 ^ 32 = omega (arith, h.attempt, count_by-le-length (is_requeue_of k) t.events, short) in record {
        there = held-within k n lt at;
        so = λ r is-r.
            let both : Some (record_of t.events h.stay) ≡ Some r = sym (ap (slice_get s.records.items) at ∙ held-record k h) ∙ is-r in
            let same : record_of t.events h.stay ≡ r = cc in
            subst (λ (x : StayRecord). x.stay.attempt + 1 < 2 ^ 32) same few;
      }

  pub room-records : length (stays_begun t.events) < t.rules.stays → vec_len s.records < vec_capacity s.records
  room-records few = omega (arith, len-records, is.records_room)

  pub room-latest : length (stays_begun t.events) < t.rules.stays → vec_len s.latest < vec_capacity s.latest
  room-latest few = omega (arith, len-latest, commands-stays t.events, is.latest_room)

  -- one more event
  module _ (e : Event) (allowed : is_legal_event t.rules t.config (t.events, e) ≡ true) where
    legal-of : (e' : Event) → e ≡ e' → is_legal_event t.rules t.config (t.events, e') ≡ true
    legal-of e' same = ap (λ x. is_legal_event t.rules t.config (t.events, x)) (sym same) ∙ allowed

    pub sent-ccb : (lane ccb : ℕ) → e ≡ Send lane ccb → ccb < commands t.events
    sent-ccb lane ccb same = (asks-send t.rules t.config t.events lane ccb (legal-of (Send lane ccb) same)).0

    pub requeued-ccb : (ccb : ℕ) → e ≡ Requeue ccb → ccb < commands t.events
    requeued-ccb ccb same = (asks-requeue t.rules t.config t.events ccb (legal-of (Requeue ccb) same)).0

    -- there is room for the stay that it begins
    pub submitted-few : (driver device priority retries : ℕ) (flags : Flags) → e ≡ Submit driver device priority retries flags → length (stays_begun t.events) < t.rules.stays
    submitted-few driver device priority retries flags same =
        room_submit t.rules t.config t.events driver device priority retries flags (legal-of (Submit driver device priority retries flags) same)

    pub submitted-urgent : (driver device priority retries : ℕ) (flags : Flags) → e ≡ Submit driver device priority retries flags → priority ≤ MAX_PRIORITY
    submitted-urgent driver device priority retries flags same =
        let range = range_submit t.rules t.config t.events driver device priority retries flags (legal-of (Submit driver device priority retries flags) same) in
        let one = and_parts (names_device t.config device && nat_le priority MAX_PRIORITY) (nat_le retries MAX_RETRIES) range in
        leb-true _ _ (and_parts (names_device t.config device) (nat_le priority MAX_PRIORITY) one.0).1

    pub requeued-few : (ccb : ℕ) → e ≡ Requeue ccb → length (stays_begun t.events) < t.rules.stays
    requeued-few ccb same = room_requeue t.rules t.config t.events ccb (legal-of (Requeue ccb) same)

    module _ (t' : Transport) (s' : Stays) (made : t' ≡ record t { events = t.events ++ e ∷ [] })
        (same-records : vec_capacity s'.records ≡ vec_capacity s.records) (same-latest : vec_capacity s'.latest ≡ vec_capacity s.latest) where
      sound-push : (e' : Event) → e ≡ e' → s'.records.items ≡ records (t.events ++ e' ∷ []) → s'.latest.items ≡ latest_places (t.events ++ e' ∷ []) → IsStays t' s'
      sound-push e' same is-records is-latest = record {
        within = rw made is.within;
        legal = rw made (legal-push t.rules t.config t.events e is.legal allowed);
        records = rw (made, same) is-records;
        latest = rw (made, same) is-latest;
        records_room = rw (made, same-records) is.records_room;
        latest_room = rw (made, same-latest) is.latest_room;
      }

      pub sound-submit : (driver device priority retries : ℕ) (flags : Flags) → e ≡ Submit driver device priority retries flags →
          (n r m : ℕ) (x : StayRecord) → n ≡ vec_len s.latest → r ≡ round t.events → m ≡ length t.events → x ≡ begun (submitted_in n device priority r m) →
          s'.records.items ≡ s.records.items ++ x ∷ [] → s'.latest.items ≡ s.latest.items ++ vec_len s.records ∷ [] → IsStays t' s'
      sound-submit driver device priority retries flags same n r m x is-n now at is-x is-records is-latest =
          sound-push (Submit driver device priority retries flags) same
          (is-records ∙ ap (λ y. s.records.items ++ y ∷ []) (is-x ∙ rw (is-n ∙ len-latest, now, at) refl) ∙ ap (λ rs. rs ++ begun (submitted_stay t.events device priority) ∷ []) is.records
          ∙ sym (records-submit t.rules t.config t.events is.legal driver device priority retries flags))
          (is-latest ∙ ap (λ n. s.latest.items ++ n ∷ []) len-records ∙ ap (λ ns. ns ++ length (stays_begun t.events) ∷ []) is.latest
          ∙ sym (places-submit t.rules t.config t.events is.legal driver device priority retries flags))

      pub sound-send : (lane ccb : ℕ) → e ≡ Send lane ccb → (n r : ℕ) → n ≡ get_or s.latest.items ccb n → r ≡ round t.events → s'.records.items ≡ at_place n (sent_in r) s.records.items → s'.latest.items ≡ s.latest.items → IsStays t' s'
      sound-send lane ccb same n r read now is-records is-latest =
          sound-push (Send lane ccb) same
          (is-records ∙ ap (λ m. at_place m (sent_in r) s.records.items) (held-place ccb n (sent-ccb lane ccb same) read) ∙ ap (λ m. at_place (latest_place t.events ccb) (sent_in m) s.records.items) now
          ∙ ap (at_place (latest_place t.events ccb) (sent_in (round t.events))) is.records
          ∙ sym (records-send t.rules t.config t.events is.legal lane ccb (legal-of (Send lane ccb) same)))
          (is-latest ∙ is.latest ∙ sym (places-quiet t.events (Send lane ccb) refl refl))

      pub sound-requeue : (ccb : ℕ) → e ≡ Requeue ccb → (n r m : ℕ) (x : StayRecord) (p : Passage) → n ≡ get_or s.latest.items ccb n → r ≡ round t.events → m ≡ length t.events → x ≡ begun p →
          IfSome (slice_get s.records.items n) (λ y. p ≡ requeued_in r m y.stay) → s'.records.items ≡ at_place n (followed_in r) s.records.items ++ x ∷ [] → s'.latest.items ≡ set s.latest.items ccb (vec_len s.records) → IsStays t' s'
      sound-requeue ccb same n r m x p read now at is-x next is-records is-latest =
          let lt = requeued-ccb ccb same in
          let h = held-latest ccb lt in
          let here = held-place ccb n lt read in
          let found = ap (slice_get s.records.items) here ∙ held-record ccb h in
          let is-p : p ≡ requeued_in r m h.stay = rw found at next in
          let is-x' : x ≡ begun (requeued_in (round t.events) (length t.events) h.stay) = is-x ∙ ap begun (is-p ∙ ap (λ k. requeued_in k m h.stay) now ∙ ap (λ k. requeued_in (round t.events) k h.stay) at) in
          sound-push (Requeue ccb) same
          (is-records ∙ ap (λ y. at_place n (followed_in r) s.records.items ++ y ∷ []) is-x'
          ∙ ap (λ rs. rs ++ begun (requeued_in (round t.events) (length t.events) h.stay) ∷ [])
          (ap (λ k. at_place k (followed_in r) s.records.items) here ∙ ap (λ k. at_place (latest_place t.events ccb) (followed_in k) s.records.items) now
          ∙ ap (at_place (latest_place t.events ccb) (followed_in (round t.events))) is.records)
          ∙ sym (records-requeue t.rules t.config t.events is.legal ccb (legal-of (Requeue ccb) same) h))
          (is-latest ∙ ap (set s.latest.items ccb) len-records ∙ ap (λ ns. set ns ccb (length (stays_begun t.events))) is.latest
          ∙ sym (places-requeue t.rules t.config t.events is.legal ccb (legal-of (Requeue ccb) same) h))

      -- any other event
      quiet : (e' : Event) → e ≡ e' → stay_begun (t.events, e') ≡ None → submission_of e' ≡ None → ((k : ℕ) → is_send_of k e' ≡ false) → s'.records.items ≡ s.records.items → s'.latest.items ≡ s.latest.items → IsStays t' s'
      quiet e' same none still unsent is-records is-latest =
          sound-push e' same (is-records ∙ is.records ∙ sym (records-quiet t.events e' none unsent)) (is-latest ∙ is.latest ∙ sym (places-quiet t.events e' none still))

      pub sound-quiet : (e' : Event) → e ≡ e' → ((driver device priority retries : ℕ) (flags : Flags) → e ≡ Submit driver device priority retries flags → ⊥) → ((lane ccb : ℕ) → e ≡ Send lane ccb → ⊥) → ((ccb : ℕ) → e ≡ Requeue ccb → ⊥) →
          s'.records.items ≡ s.records.items → s'.latest.items ≡ s.latest.items → IsStays t' s'
      sound-quiet (Submit driver device priority retries flags) same a b d is-records is-latest = absurd (a driver device priority retries flags same)
      sound-quiet (Send lane ccb) same a b d is-records is-latest = absurd (b lane ccb same)
      sound-quiet (Requeue ccb) same a b d is-records is-latest = absurd (d ccb same)
      sound-quiet e same a b d is-records is-latest = quiet e same refl refl (λ k. refl) is-records is-latest
