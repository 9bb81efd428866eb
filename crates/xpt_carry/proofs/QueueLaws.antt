-- the queues of a transport that goes on
use Rattle.std.proofs.Common.{◌≡◌, ℕ, ◌+◌, Bool, true, false, cond, List, [], ◌∷◌, ◌++◌, length, map, filter, refl, sym, ap, ◌∙◌, arith, append-nil, add-zero, Option, ◌==◌, ◌&&◌, nat_le}
use Rattle.std.specs.List.{list_all, range_with_len}
use Rattle.std.proofs.Math.Bool.{and-true}
use Rattle.std.proofs.lemmas.Bool.{and_parts}
use Rattle.cam_types.specs.Topology.{Topology}
use Rattle.event_rules.specs.Counts.{round, submissions, counted_requeues}
use Rattle.event_rules.specs.Sorted.{sorted_by}
use Rattle.event_rules.specs.Stays.{waiting, is_at, queue, queue_key}
use Rattle.event_rules.proofs.CcbLaws.{counted_requeues-push}
use Rattle.event_rules.proofs.PushLaws.{submissions-push}
use Rattle.event_rules.proofs.QueueLaws.{queue-tick, arrived-waiting, le_test}
use Rattle.event_rules.proofs.SortedLemmas.{filter-sorted_by}
use Rattle.xpt_core.proofs.EntryLemmas.{all-sorted}
use Rattle.xpt_carry.specs.Carry.{left_of, carried, carrying}
use Rattle.xpt_carry.specs.Laws.{left_of_stays, commands_in_order}
use Rattle.xpt_carry.proofs.IdleLemmas.{front, plain_front, none_wait}
use Rattle.xpt_carry.proofs.AnewLemmas.{anew, all_anew, lefts, stays-lefts, all_own, waiting-submits, round-submits, sorted_by-sorted, is_sorted-sorted_by, sorted_anew}
use Rattle.xpt_carry.proofs.CcbLemmas.{fresh_is, front_commands, lefts_kept}
use Rattle.event_rules.specs.declared.submission.Submission.{Submission}
use Rattle.event_rules.specs.declared.event.Event.{Event}
use Rattle.event_rules.specs.declared.passage.Passage.{Passage}
use Rattle.event_rules.specs.declared.event.Event.TheVariants.{Tick}

abbrev at_device : ℕ → Passage → Bool
at_device d p = p.device == d

-- what is left of stays submitted anew is what was left of them
kept_cases : (new old : ℕ → Option Submission) (p q : Passage) (ps qs : List Passage) (a b : Bool) → b ≡ true → new q.ccb ≡ old p.ccb →
    map (λ (x : Passage). new x.ccb) qs ≡ map (λ (x : Passage). old x.ccb) ps →
    map (λ (x : Passage). new x.ccb) (cond (a && b) (q ∷ qs) qs) ≡ map (λ (x : Passage). old x.ccb) (cond a (p ∷ ps) ps)
kept_cases new old p q ps qs true b now one rest =
    rw now (ap (λ o. o ∷ map (λ (x : Passage). new x.ccb) qs) one ∙ ap (λ os. old p.ccb ∷ os) rest)
kept_cases new old p q ps qs false b now one rest = rest

kept_anew : (new old : ℕ → Option Submission) (d r : ℕ) (ps : List Passage) (n m : ℕ) → map new (range_with_len n (length ps)) ≡ map (λ (x : Passage). old x.ccb) ps →
    map (λ (x : Passage). new x.ccb) (filter (is_at d r) (all_anew n r m ps)) ≡ map (λ (x : Passage). old x.ccb) (filter (at_device d) ps)
kept_anew new old d r [] n m h = refl
kept_anew new old d r (p ∷ ps) n m h =
    let one : new n ≡ old p.ccb = cc in
    let rest : map new (range_with_len (n + 1) (length ps)) ≡ map (λ (x : Passage). old x.ccb) ps = cc in
    kept_cases new old p (anew n r m p) (filter (at_device d) ps) (filter (is_at d r) (all_anew (n + 1) r (m + 1) ps)) (p.device == d) (nat_le r r) (le_test r r (omega arith)) one
    (kept_anew new old d r ps (n + 1) (m + 1) rest)

-- all that have arrived
arrived_cases : (d r : ℕ) (p : Passage) (ps qs : List Passage) → nat_le p.arrival r ≡ true → ps ≡ qs → cond (is_at d r p) (p ∷ ps) ps ≡ cond (at_device d p) (p ∷ qs) qs
arrived_cases d r p ps qs here e = rw (here, e, and-true (p.device == d)) refl

all_arrived : (d r : ℕ) (ps : List Passage) → list_all (λ (p : Passage). nat_le p.arrival r) ps ≡ true → filter (is_at d r) ps ≡ filter (at_device d) ps
all_arrived d r [] h = refl
all_arrived d r (p ∷ ps) h =
    let parts = and_parts (nat_le p.arrival r) (list_all (λ (q : Passage). nat_le q.arrival r) ps) h in
    arrived_cases d r p (filter (is_at d r) ps) (filter (at_device d) ps) parts.0 (all_arrived d r ps parts.1)

-- a tick leaves of each CCB what was left
left_tick : (es : List Event) (k : ℕ) → left_of (es ++ Tick ∷ []) k ≡ left_of es k
unfolding left_of
left_tick es k =
    let submitted : submissions (es ++ Tick ∷ []) ≡ submissions es = submissions-push es Tick ∙ append-nil (submissions es) in
    let counted : counted_requeues (es ++ Tick ∷ []) k ≡ counted_requeues es k = counted_requeues-push es Tick k ∙ add-zero (counted_requeues es k) in
    rw (submitted, counted) refl

lefts_tick : (es : List Event) (ps : List Passage) → left_of_stays (es ++ Tick ∷ []) ps ≡ left_of_stays es ps
lefts_tick es [] = refl
lefts_tick es (p ∷ ps) = ap (λ o. o ∷ left_of_stays (es ++ Tick ∷ []) ps) (left_tick es p.ccb) ∙ ap (λ os. left_of es p.ccb ∷ os) (lefts_tick es ps)

-- the old one's queue after a tick
ticked_queue : (es : List Event) (d : ℕ) → sorted_by queue_key (queue (es ++ Tick ∷ []) d) ≡ filter (at_device d) (carried es)
unfolding carried
ticked_queue es d =
    ap (sorted_by queue_key) (queue-tick es d) ∙ sym (filter-sorted_by queue_key (is_at d (round es + 1)) (waiting es))
    ∙ all_arrived d (round es + 1) (sorted_by queue_key (waiting es)) (all-sorted (λ (p : Passage). nat_le p.arrival (round es + 1)) (waiting es) (arrived-waiting es))

module _ (c : Topology) (es : List Event) where
  abbrev stays_anew : List Passage
  stays_anew = all_anew 0 (round (front c es)) (length (front c es)) (carried es)

  fresh_waiting : waiting (carrying c es) ≡ stays_anew
  fresh_waiting =
      ap waiting (fresh_is c es) ∙ waiting-submits (lefts es (carried es)) (front c es)
      ∙ rw (none_wait (front c es) (plain_front c es), front_commands c es) (stays-lefts es (carried es) 0 (round (front c es)) (length (front c es)) (all_own es))

  fresh_round : round (carrying c es) ≡ round (front c es)
  fresh_round = ap round (fresh_is c es) ∙ round-submits (lefts es (carried es)) (front c es)

  anew_sorted : sorted_by queue_key stays_anew ≡ stays_anew
  unfolding carried
  anew_sorted =
      sorted_by-sorted queue_key stays_anew
      (sorted_anew (carried es) 0 (round (front c es)) (length (front c es)) (is_sorted-sorted_by queue_key (waiting es)))

  fresh_queue : (d : ℕ) → sorted_by queue_key (queue (carrying c es) d) ≡ filter (is_at d (round (front c es))) stays_anew
  unfolding queue
  fresh_queue d =
      ap (λ r. sorted_by queue_key (filter (is_at d r) (waiting (carrying c es)))) fresh_round
      ∙ ap (λ ps. sorted_by queue_key (filter (is_at d (round (front c es))) ps)) fresh_waiting
      ∙ sym (filter-sorted_by queue_key (is_at d (round (front c es))) stays_anew) ∙ ap (filter (is_at d (round (front c es)))) anew_sorted

  pub queues_kept : (d : ℕ) → commands_in_order (carrying c es) d ≡ commands_in_order (es ++ Tick ∷ []) d
  unfolding commands_in_order
  queues_kept d =
      ap (left_of_stays (carrying c es)) (fresh_queue d)
      ∙ kept_anew (left_of (carrying c es)) (left_of es) d (round (front c es)) (carried es) 0 (length (front c es)) (lefts_kept c es)
      ∙ ap (left_of_stays es) (sym (ticked_queue es d)) ∙ sym (lefts_tick es (sorted_by queue_key (queue (es ++ Tick ∷ []) d)))
