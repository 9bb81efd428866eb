-- what one legal event more changes of what is counted of all devices
use Rattle.std.proofs.Common.{◌≡◌, ℕ, ◌+◌, ◌≤◌, true, false, cond, List, [], ◌∷◌, ◌++◌, length, refl, ap, ◌∙◌, arith, Some, None, add-zero, zero-add, not, option_map}
use Rattle.std.proofs.lemmas.List.FromFn.{length-range_with_len}
use Rattle.std.proofs.lemmas.List.Sums.{count_by-le-length}
use Rattle.xpt_core.specs.Words.{Topology, is_tick, is_send_of, submission_of, round, commands, ccbs, is_in_flight, stays_begun, stay_begun, waiting, Event, Submit, Send, Done, Requeue, Tick, Passage, Rules, is_legal_event, is_legal}
use Rattle.event_rules.proofs.PushLaws.{round-push, few_rounds, few_stays, few_commands}
use Rattle.event_rules.proofs.StateLaws.{is_in_flight-push}
use Rattle.event_rules.proofs.ShareLaws.{some-range, flying-other, flies-send, lands-done}
use Rattle.event_rules.proofs.TotalLaws.{submitted_stay, requeued_stay, flying, flying-same, flying-at, flying-submit, begun-none, begun-one, waiting-none, waiting-one, waiting-send, some_waits, few_waiting}
use Rattle.event_rules.proofs.StandLemmas.{AreStates, states-legal, asks-send, asks-done, asks-requeue, new-states, IsWaiting}
use Rattle.event_rules.proofs.FirstLemmas.{first-legal, stands}
use Rattle.xpt_core.specs.Counted.{counts_of, counted, CanCount, AreFew}
use Rattle.xpt_core.proofs.RoomLemmas.{submitted}

-- all counts
counts-same : (es : List Event) (e : Event) (r s w f : ℕ) → round (es ++ e ∷ []) ≡ r → length (stays_begun (es ++ e ∷ [])) ≡ s → length (waiting (es ++ e ∷ [])) ≡ w → flying (es ++ e ∷ []) ≡ f →
    counts_of (es ++ e ∷ []) ≡ record { round = r; stays = s; waiting = w; in_flight = f }
unfolding counts_of
counts-same es e r s w f er es' ew ef = rw (er, es', ew, ef) refl

round-same : (es : List Event) (e : Event) → is_tick e ≡ false → round (es ++ e ∷ []) ≡ round es
round-same es e still = round-push es e ∙ ap (λ b. round es + cond b 1 0) still ∙ add-zero (round es)

quiet-counts : (es : List Event) (e : Event) → is_tick e ≡ false → stay_begun (es, e) ≡ None → ((x : Passage) → not (is_send_of x.ccb e) ≡ true) → submission_of e ≡ None →
    ((k : ℕ) → is_in_flight (es ++ e ∷ []) k ≡ is_in_flight es k) → counts_of (es ++ e ∷ []) ≡ counts_of es
unfolding counts_of
quiet-counts es e still none unsent nothing h = counts-same es e _ _ _ _ (round-same es e still) (begun-none es e none) (waiting-none es e unsent none) (flying-same es e nothing h)

module _ (rules : Rules) (c : Topology) (es : List Event) (legal : is_legal rules c es ≡ true) where
  states : AreStates es
  states = states-legal rules c es legal

  sent : (lane ccb : ℕ) → is_legal_event rules c (es, Send lane ccb) ≡ true → IsWaiting es ccb
  sent lane ccb allowed =
      let turn = first-legal c es lane ccb (asks-send rules c es lane ccb allowed).1 in
      stands c es ccb turn.0 states turn.1

  pub counts-push : (e : Event) → is_legal_event rules c (es, e) ≡ true → counts_of (es ++ e ∷ []) ≡ counted e (counts_of es)
  unfolding counts_of
  counts-push (Submit driver device priority retries flags) allowed =
      let e = Submit driver device priority retries flags in
      let new = new-states es (commands es) states (omega arith) in
      counts-same es e _ _ _ _ (round-same es e refl) (begun-one es e (submitted_stay es device priority) refl) (waiting-one es e (submitted_stay es device priority) (λ x. refl) refl)
      (flying-submit es e (record { driver = driver; device = device; priority = priority; retries = retries; flags = flags }) refl (λ k. is_in_flight-push es e k) new.in_flight)
  counts-push (Send lane ccb) allowed =
      let e = Send lane ccb in
      let w = sent lane ccb allowed in
      let flies : is_in_flight (es ++ e ∷ []) ccb ≡ true = flies-send es lane ccb in
      counts-same es e _ _ _ _ (round-same es e refl) (begun-none es e refl) (waiting-send es lane ccb w.unsent)
      (let at = flying-at es e refl ccb (asks-send rules c es lane ccb allowed).0 (λ k ne. flying-other es e ccb k refl ne) false true w.in_flight flies in omega (arith, at))
  counts-push (Done ccb o) allowed =
      let e = Done ccb o in
      let asks = asks-done rules c es ccb o allowed in
      let lands : is_in_flight (es ++ e ∷ []) ccb ≡ false = lands-done es ccb o in
      counts-same es e _ _ _ _ (round-same es e refl) (begun-none es e refl) (waiting-none es e (λ x. refl) refl)
      (let at = flying-at es e refl ccb asks.0 (λ k ne. flying-other es e ccb k refl ne) true false asks.1 lands in omega (arith, at))
  counts-push (Requeue ccb) allowed =
      let e = Requeue ccb in
      let one = submitted es ccb (asks-requeue rules c es ccb allowed).0 in
      let begins : stay_begun (es, e) ≡ Some (requeued_stay es ccb one.0) = ap (option_map (requeued_stay es ccb)) one.1 in
      counts-same es e _ _ _ _ (round-same es e refl) (begun-one es e (requeued_stay es ccb one.0) begins) (waiting-one es e (requeued_stay es ccb one.0) (λ x. refl) begins)
      (flying-same es e refl (λ k. is_in_flight-push es e k))
  counts-push Tick allowed =
      counts-same es Tick _ _ _ _ (round-push es Tick) (begun-none es Tick refl) (waiting-none es Tick (λ x. refl) refl) (flying-same es Tick refl (λ k. is_in_flight-push es Tick k))
  counts-push e allowed = quiet-counts es e refl refl (λ x. refl) refl (λ k. is_in_flight-push es e k)

  pub can-count : (e : Event) → is_legal_event rules c (es, e) ≡ true → CanCount e (counts_of es)
  unfolding counts_of
  can-count (Send lane ccb) allowed = some_waits es ccb (sent lane ccb allowed).unsent
  can-count (Done ccb o) allowed =
      let asks = asks-done rules c es ccb o allowed in
      some-range (is_in_flight es) 0 (commands es) ccb asks.0 (ap (is_in_flight es) (zero-add ccb) ∙ asks.1)
  can-count _ allowed = tt

pub are-few : (es : List Event) → length es ≤ 65535 → AreFew (counts_of es)
unfolding counts_of
are-few es short = record {
  round = omega (arith, few_rounds es);
  stays = omega (arith, few_stays es);
  waiting = omega (arith, few_waiting es, few_stays es);
  in_flight = omega (arith, count_by-le-length (is_in_flight es) (ccbs es), length-range_with_len 0 (commands es), few_commands es);
}
