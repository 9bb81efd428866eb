-- what one legal event more makes of the records and of the latest stays
use Rattle.std.proofs.Common.{◌≡◌, ◌≢◌, ℕ, ◌+◌, ◌<◌, ◌≤◌, Bool, true, false, cond, List, [], ◌∷◌, ◌++◌, length, map, set, refl, sym, ap, ◌∙◌, arith, Option, Some, None, inl, inr, zero-add, ◌==◌, ◌&&◌, ◌⊎◌, slice_get}
use Rattle.std.specs.List.{list_any, range_with_len}
use Rattle.std.specs.Option.{option_map, option_or}
use Rattle.std.proofs.lemmas.Bool.{and_parts, and_from, eq-eqb, eqb-true, ne_eqb, cases_eq}
use Rattle.std.proofs.lemmas.List.{map-append}
use Rattle.std.proofs.lemmas.List.Sums.{AllPass-from_list_all}
use Rattle.std.proofs.Math.Bool.{and-false}
use Rattle.xpt_core.specs.Words.{Topology, Flags, is_some_and, is_send_of, submission_of, round, commands, submission, ccbs, stays_begun, stay_begun, is_unsent, waiting, has_arrived, has_queued, Event, Submit, Send, Requeue, Passage, Submission, is_stay_of, Rules, is_legal_event, is_legal}
use Rattle.event_rules.proofs.PushLaws.{place-stay_begun, born_unsent}
use Rattle.event_rules.proofs.ListFacts.{range_with_len-push}
use Rattle.event_rules.proofs.StateLaws.{map-range_same, map-range_but}
use Rattle.event_rules.proofs.TotalLaws.{submitted_stay, requeued_stay, commands-submit, commands-none}
use Rattle.event_rules.proofs.SendLemmas.{send_from_next}
use Rattle.event_rules.proofs.StandLemmas.{asks-send, asks-requeue}
use Rattle.event_rules.proofs.StayLemmas.{is_of_its_ccb, of_its_ccb-stays_begun}
use Rattle.event_rules.proofs.TestLemmas.{list_any-filter}
use Rattle.xpt_core.specs.Places.{at_place}
use Rattle.xpt_core.proofs.RoomLemmas.{submitted}
use Rattle.xpt_core.specs.Latest.{latest_place, latest_places}
use Rattle.xpt_core.specs.StayRecord.{begun, sent_in, followed_in, requeued_in, StayRecord}
use Rattle.xpt_core.specs.Records.{next_stay, sent_round, record_of, records}
use Rattle.xpt_core.proofs.LatestLemmas as latest
use Rattle.xpt_core.proofs.LatestLemmas.{HasLatest, AreLatest, place_at, next-other, next-own, born_last, latest_place-own, latest_place-other, quiet}
use Rattle.xpt_core.proofs.StayPlaceLemmas.{all_at, any_at, any_none_at, map-same, map-at}
use Rattle.xpt_core.proofs.SentLemmas.{sent_round-push}

abbrev made : Passage → Option ℕ → Option Passage → StayRecord
made p sent next = record { stay = p; sent = sent; next_arrival = option_map (λ (q : Passage). q.arrival) next }

-- a stay's record, by its send and the stay that follows it
module _ (es : List Event) (e : Event) (p : Passage) (lt : p.place < length es) where
  record_by : (t : Bool) (next : Option Passage) → (is_unsent es p && is_send_of p.ccb e) ≡ t → next_stay (stays_begun (es ++ e ∷ [])) p ≡ next →
      record_of (es ++ e ∷ []) p ≡ made p (cond t (Some (round es)) (sent_round es p)) next
  record_by t next sends follows =
      ap (λ o. made p o (next_stay (stays_begun (es ++ e ∷ [])) p)) (sent_round-push es e p lt ∙ ap (λ b. cond b (Some (round es)) (sent_round es p)) sends)
      ∙ ap (made p (cond t (Some (round es)) (sent_round es p))) follows

  record-same : (is_unsent es p && is_send_of p.ccb e) ≡ false → next_stay (stays_begun (es ++ e ∷ [])) p ≡ next_stay (stays_begun es) p → record_of (es ++ e ∷ []) p ≡ record_of es p
  record-same = record_by false (next_stay (stays_begun es) p)

-- the record of a stay that the event begins
record-born : (es : List Event) (e : Event) (x : Passage) → stay_begun (es, e) ≡ Some x → record_of (es ++ e ∷ []) x ≡ begun x
record-born es e x is =
    ap (λ o. made x o (next_stay (stays_begun (es ++ e ∷ [])) x)) (rw (born_unsent es e x (place-stay_begun (es, e) x is)) refl)
    ∙ ap (made x None) (born_last es e x is)

records-born : (es : List Event) (e : Event) (x : Passage) (rs : List StayRecord) → stay_begun (es, e) ≡ Some x → map (record_of (es ++ e ∷ [])) (stays_begun es) ≡ rs → records (es ++ e ∷ []) ≡ rs ++ begun x ∷ []
unfolding records
records-born es e x rs is same =
    ap (map (record_of (es ++ e ∷ []))) (latest.begun es e x is) ∙ map-append (record_of (es ++ e ∷ [])) (stays_begun es) (x ∷ [])
    ∙ ap (λ ys. ys ++ record_of (es ++ e ∷ []) x ∷ []) same ∙ ap (λ y. rs ++ y ∷ []) (record-born es e x is)

-- an event that neither sends nor begins a stay
pub records-quiet : (es : List Event) (e : Event) → stay_begun (es, e) ≡ None → ((k : ℕ) → is_send_of k e ≡ false) → records (es ++ e ∷ []) ≡ records es
unfolding records
records-quiet es e none unsent =
    ap (map (record_of (es ++ e ∷ []))) (quiet es e none)
    ∙ map-same (record_of es) (record_of (es ++ e ∷ [])) (stays_begun es) (λ j p is.
    record-same es e p (place_at es j p is) (ap (λ b. is_unsent es p && b) (unsent p.ccb) ∙ and-false (is_unsent es p)) (ap (λ ps. next_stay ps p) (quiet es e none)))

pub places-quiet : (es : List Event) (e : Event) → stay_begun (es, e) ≡ None → submission_of e ≡ None → latest_places (es ++ e ∷ []) ≡ latest_places es
unfolding latest_places
places-quiet es e none still =
    ap (λ n. map (latest_place (es ++ e ∷ [])) (range_with_len 0 n)) (commands-none es e still)
    ∙ map-range_same (latest_place es) (latest_place (es ++ e ∷ [])) 0 (commands es) (λ k low lt. latest.same_place es e none k)

-- a legal event after legal ones
module _ (rules : Rules) (c : Topology) (es : List Event) (legal : is_legal rules c es ≡ true) where
  all : AreLatest es
  all = latest.latest-legal rules c es legal

  -- a stay without a send is its CCB's latest
  unsent_last : (j : ℕ) (p : Passage) → slice_get (stays_begun es) j ≡ Some p → is_unsent es p ≡ true → latest_place es p.ccb ≡ j
  unsent_last j p is unsent = (all.stays j p is).last ((all.stays j p is).alone unsent)

  -- a CCB has a stay queued if its latest one is
  pub queued-latest : (k : ℕ) (h : HasLatest es k) → has_queued es k ≡ (is_unsent es h.stay && has_arrived es h.stay)
  unfolding has_queued waiting
  queued-latest k h =
      list_any-filter (is_unsent es) (λ (p : Passage). (p.ccb == k) && has_arrived es p) (stays_begun es) ∙ cases (is_unsent es h.stay && has_arrived es h.stay) refl
    where
      fails : (is_unsent es h.stay && has_arrived es h.stay) ≡ false → (j : ℕ) (p : Passage) → slice_get (stays_begun es) j ≡ Some p → (t : Bool) → (is_unsent es p && ((p.ccb == k) && has_arrived es p)) ≡ t → t ≡ false
      fails is j p there false e = refl
      fails is j p there true e =
          let one = and_parts (is_unsent es p) ((p.ccb == k) && has_arrived es p) e in
          let two = and_parts (p.ccb == k) (has_arrived es p) one.1 in
          let at : latest_place es k ≡ j = ap (latest_place es) (sym (eqb-true p.ccb k two.0)) ∙ unsent_last j p there one.0 in
          let both : Some h.stay ≡ Some p = sym h.there ∙ ap (slice_get (stays_begun es)) at ∙ there in
          let same : h.stay ≡ p = cc in
          let yes : (is_unsent es h.stay && has_arrived es h.stay) ≡ true = rw same (and_from _ _ one.0 two.1) in
          sym yes ∙ is

      cases : (t : Bool) → (is_unsent es h.stay && has_arrived es h.stay) ≡ t → list_any (λ p. is_unsent es p && ((p.ccb == k) && has_arrived es p)) (stays_begun es) ≡ t
      cases true is =
          let parts = and_parts (is_unsent es h.stay) (has_arrived es h.stay) is in
          any_at _ (stays_begun es) (latest_place es k) h.stay h.there (and_from _ _ parts.0 (and_from _ _ (eq-eqb h.stay.ccb k h.ccb) parts.1))
      cases false is = any_none_at _ (stays_begun es) (λ j p there. let f = fails is j p there _ refl in f)

  -- one that wasn't submitted has none
  pub queued-none : (k : ℕ) → commands es ≤ k → has_queued es k ≡ false
  unfolding has_queued waiting
  queued-none k le =
      list_any-filter (is_unsent es) (λ (p : Passage). (p.ccb == k) && has_arrived es p) (stays_begun es)
      ∙ any_none_at _ (stays_begun es) (λ j p is. ap (λ b. is_unsent es p && (b && has_arrived es p)) (ne_eqb p.ccb k (λ same. omega (arith, (all.stays j p is).ccb))) ∙ and-false (is_unsent es p))

  -- a submit
  pub records-submit : (driver device priority retries : ℕ) (flags : Flags) → records (es ++ Submit driver device priority retries flags ∷ []) ≡ records es ++ begun (submitted_stay es device priority) ∷ []
  unfolding records
  records-submit driver device priority retries flags =
      let e = Submit driver device priority retries flags in
      records-born es e (submitted_stay es device priority) (map (record_of es) (stays_begun es)) refl
      (map-same (record_of es) (record_of (es ++ e ∷ [])) (stays_begun es) (λ j p is.
      record-same es e p (place_at es j p is) (and-false (is_unsent es p))
      (ap (λ ps. next_stay ps p) (latest.begun es e (submitted_stay es device priority) refl)
      ∙ next-other (stays_begun es) (submitted_stay es device priority) p (λ same. omega (arith, (all.stays j p is).ccb)))))

  pub places-submit : (driver device priority retries : ℕ) (flags : Flags) → latest_places (es ++ Submit driver device priority retries flags ∷ []) ≡ latest_places es ++ length (stays_begun es) ∷ []
  unfolding latest_places
  places-submit driver device priority retries flags =
      let e = Submit driver device priority retries flags in
      let x = submitted_stay es device priority in
      ap (λ n. map (latest_place (es ++ e ∷ [])) (range_with_len 0 n)) (commands-submit es e (record { driver = driver; device = device; priority = priority; retries = retries; flags = flags }) refl)
      ∙ ap (map (latest_place (es ++ e ∷ []))) (range_with_len-push 0 (commands es))
      ∙ map-append (latest_place (es ++ e ∷ [])) (ccbs es) ((0 + commands es) ∷ [])
      ∙ ap (λ ns. ns ++ latest_place (es ++ e ∷ []) (0 + commands es) ∷ []) (map-range_same (latest_place es) (latest_place (es ++ e ∷ [])) 0 (commands es) (λ k low lt. latest_place-other es e x refl k (λ same. omega arith)))
      ∙ ap (λ n. map (latest_place es) (ccbs es) ++ n ∷ []) (latest_place-own es e x refl (0 + commands es) (sym (zero-add (commands es))))

  -- a send
  module _ (lane ccb : ℕ) (allowed : is_legal_event rules c (es, Send lane ccb) ≡ true) where
    pub records-send : records (es ++ Send lane ccb ∷ []) ≡ at_place (latest_place es ccb) (sent_in (round es)) (records es)
    unfolding records
    records-send =
        let e = Send lane ccb in
        let h = all.latest ccb (asks-send rules c es lane ccb allowed).0 in
        let queued = (send_from_next c es lane ccb (asks-send rules c es lane ccb allowed).1).sendable.queued in
        let waits = (and_parts (is_unsent es h.stay) (has_arrived es h.stay) (sym (queued-latest ccb h) ∙ queued)).0 in
        ap (map (record_of (es ++ e ∷ []))) (quiet es e refl)
        ∙ map-at (record_of es) (record_of (es ++ e ∷ [])) (sent_in (round es)) (stays_begun es) (latest_place es ccb) h.stay h.there
        (record_by es e h.stay (place_at es (latest_place es ccb) h.stay h.there) true (next_stay (stays_begun es) h.stay) (and_from _ _ waits (eq-eqb ccb h.stay.ccb (sym h.ccb))) (ap (λ ps. next_stay ps h.stay) (quiet es e refl)))
        (λ j p ne is. record-same es e p (place_at es j p is) (other j p ne is (is_unsent es p) refl) (ap (λ ps. next_stay ps p) (quiet es e refl)))
      where
        other : (j : ℕ) (p : Passage) → j ≢ latest_place es ccb → slice_get (stays_begun es) j ≡ Some p → (t : Bool) → is_unsent es p ≡ t → (t && (ccb == p.ccb)) ≡ false
        other j p ne is false unsent = refl
        other j p ne is true unsent = ne_eqb ccb p.ccb (λ same. ne (sym (unsent_last j p is unsent) ∙ ap (latest_place es) (sym same)))

  -- a requeue
  module _ (ccb : ℕ) (allowed : is_legal_event rules c (es, Requeue ccb) ≡ true) (h : HasLatest es ccb) where
    one : (s : Submission) × (submission es ccb ≡ Some s)
    one = submitted es ccb (asks-requeue rules c es ccb allowed).0

    begins : stay_begun (es, Requeue ccb) ≡ Some (requeued_stay es ccb one.0)
    begins = ap (option_map (requeued_stay es ccb)) one.1

    -- the stay that it begins, by the one before it
    stay_by : ℕ → ℕ → ℕ → ℕ → Passage
    stay_by k attempt device priority = record {
      ccb = k;
      attempt = attempt;
      device = device;
      priority = priority;
      arrival = round es + 1;
      requeued = true;
      place = length es;
    }

    same_stay : (k k' a a' d d' p p' : ℕ) → k ≡ k' → a ≡ a' → d ≡ d' → p ≡ p' → stay_by k a d p ≡ stay_by k' a' d' p'
    same_stay k k' a a' d d' p p' ek ea ed ep = rw (ek, ea, ed, ep) refl

    by_last : (s : Submission) → is_some_and (is_stay_of h.stay) (Some s) ≡ true → requeued_stay es ccb s ≡ requeued_in (round es) (length es) h.stay
    unfolding stay_by
    by_last s own =
        let parts = and_parts (s.device == h.stay.device) (s.priority == h.stay.priority) own in
        same_stay _ _ _ _ _ _ _ _ (sym h.ccb) (omega (arith, h.attempt)) (eqb-true s.device h.stay.device parts.0) (eqb-true s.priority h.stay.priority parts.1)

    requeued-stay : stay_begun (es, Requeue ccb) ≡ Some (requeued_in (round es) (length es) h.stay)
    requeued-stay =
        let own = all_at (λ p. is_of_its_ccb es p ≡ true) (stays_begun es) (latest_place es ccb) h.stay (AllPass-from_list_all (is_of_its_ccb es) (stays_begun es) (of_its_ccb-stays_begun es)) h.there in
        begins ∙ ap Some (by_last one.0 (ap (is_some_and (is_stay_of h.stay)) (sym (ap (submission es) h.ccb ∙ one.1)) ∙ own))

    pub records-requeue : records (es ++ Requeue ccb ∷ []) ≡ at_place (latest_place es ccb) (followed_in (round es)) (records es) ++ begun (requeued_in (round es) (length es) h.stay) ∷ []
    unfolding records
    records-requeue =
        let e = Requeue ccb in
        let x = requeued_in (round es) (length es) h.stay in
        records-born es e x (at_place (latest_place es ccb) (followed_in (round es)) (map (record_of es) (stays_begun es))) requeued-stay
        (map-at (record_of es) (record_of (es ++ e ∷ [])) (followed_in (round es)) (stays_begun es) (latest_place es ccb) h.stay h.there
        (let lt = place_at es (latest_place es ccb) h.stay h.there in
        record_by es e h.stay lt false (Some x) (and-false (is_unsent es h.stay))
        (ap (λ ps. next_stay ps h.stay) (latest.begun es e x requeued-stay) ∙ next-own (stays_begun es) x h.stay refl lt ∙ ap (λ o. option_or o (Some x)) h.last))
        (λ j p ne is. record-same es e p (place_at es j p is) (and-false (is_unsent es p))
        (ap (λ ps. next_stay ps p) (latest.begun es e x requeued-stay) ∙ other j p ne is (cases_eq x.ccb p.ccb))))
      where
        kept : (j : ℕ) (p : Passage) → j ≢ latest_place es ccb → slice_get (stays_begun es) j ≡ Some p → ccb ≡ p.ccb → (x : Passage) (o : Option Passage) → next_stay (stays_begun es) p ≡ o → option_or o (Some x) ≡ o
        kept j p ne is same x None none = absurd (ne (sym ((all.stays j p is).last none) ∙ ap (latest_place es) (sym same)))
        kept j p ne is same x (Some q) some = refl

        other : (j : ℕ) (p : Passage) → j ≢ latest_place es ccb → slice_get (stays_begun es) j ≡ Some p → (h.stay.ccb ≡ p.ccb) ⊎ (h.stay.ccb ≢ p.ccb) →
            next_stay (stays_begun es ++ requeued_in (round es) (length es) h.stay ∷ []) p ≡ next_stay (stays_begun es) p
        other j p ne is (inr differs) = next-other (stays_begun es) (requeued_in (round es) (length es) h.stay) p differs
        other j p ne is (inl same) =
            let x = requeued_in (round es) (length es) h.stay in
            next-own (stays_begun es) x p same (place_at es j p is) ∙ kept j p ne is (sym h.ccb ∙ same) x (next_stay (stays_begun es) p) refl

    pub places-requeue : latest_places (es ++ Requeue ccb ∷ []) ≡ set (latest_places es) ccb (length (stays_begun es))
    unfolding latest_places
    places-requeue =
        let e = Requeue ccb in
        ap (λ n. map (latest_place (es ++ e ∷ [])) (range_with_len 0 n)) (commands-none es e refl)
        ∙ map-range_but (latest_place es) (latest_place (es ++ e ∷ [])) 0 (commands es) ccb (λ k ne. latest_place-other es e (requeued_stay es ccb one.0) begins k (λ same. ne (sym same ∙ sym (zero-add ccb))))
        ∙ ap (set (latest_places es) ccb) (latest_place-own es e (requeued_stay es ccb one.0) begins (0 + ccb) (sym (zero-add ccb)))
