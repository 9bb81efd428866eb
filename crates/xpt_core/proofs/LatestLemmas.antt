-- the latest stay of each CCB of a legal list: none follows it, and no other is without a send
use Rattle.std.proofs.Common.{◌≡◌, ◌≢◌, ℕ, ◌+◌, ◌-◌, ◌<◌, ◌≤◌, Bool, true, false, cond, List, [], ◌∷◌, ◌++◌, length, refl, sym, ap, ◌∙◌, arith, Option, Some, None, inl, inr, append-nil, length-append, not, ◌==◌, ◌&&◌, slice_get, reverse, count_by, option_to_list}
use Rattle.std.specs.List.{list_any, position_or_len}
use Rattle.std.specs.Option.{option_or}
use Rattle.std.proofs.lemmas.Bool.{and_parts, cases_eq, eq-eqb, ne_eqb, lt-ltb, le-ltb, or_cases}
use Rattle.std.proofs.lemmas.List.{reverse-append}
use Rattle.std.proofs.lemmas.List.Folds.{find-append}
use Rattle.std.proofs.lemmas.List.Sums.{sum_by-cons}
use Rattle.std.proofs.Math.Bool.{and-false}
use Rattle.xpt_core.specs.Words.{Topology, is_send_of, is_requeue_of, submission_of, Flags, commands, submission, submissions, is_recovering, stays_begun, stay_begun, is_unsent, waiting, Event, Submit, Send, Done, Requeue, Finish, FreezeDev, ReleaseDev, FreezeSim, ReleaseSim, Adjust, Tick, Passage, Submission, Rules, is_legal_event, is_legal}
use Rattle.event_rules.proofs.PushLaws.{stays_begun-push, place-stay_begun, places-stays_begun, is_unsent-push}
use Rattle.event_rules.proofs.CcbLaws.{requeues-push}
use Rattle.event_rules.proofs.TotalLaws.{unsent_count, submitted_stay, requeued_stay, commands-submit, commands-none}
use Rattle.event_rules.proofs.LimitLemmas.{legal-induction}
use Rattle.event_rules.proofs.StandLemmas.{AreStates, asks-requeue, commands-grow, waiting-states, states_step, states_none}
use Rattle.event_rules.proofs.TestLemmas.{list_any-filter}
use Rattle.xpt_core.proofs.RoomLemmas.{submitted}
use Rattle.xpt_core.specs.Latest.{is_of, latest_stay, latest_place}
use Rattle.xpt_core.specs.Records.{follows, next_stay}
use Rattle.xpt_core.proofs.StayPlaceLemmas.{all_at, front_at, seam_at, pushed_at, find_none_at, any_at}

-- a CCB's latest stay: none follows it, and its try is the count of the CCB's requeues
pub record HasLatest (es : List Event) (k : ℕ) : Type 0 where
  pub stay : Passage
  pub is : latest_stay es k ≡ Some stay
  pub there : slice_get (stays_begun es) (latest_place es k) ≡ Some stay
  pub ccb : stay.ccb ≡ k
  pub last : next_stay (stays_begun es) stay ≡ None
  pub attempt : stay.attempt ≡ count_by (is_requeue_of k) es

-- a stay: without a send none follows it, and where none follows it is its CCB's latest
pub record IsKept (es : List Event) (j : ℕ) (p : Passage) : Type 0 where
  pub ccb : p.ccb < commands es
  pub alone : is_unsent es p ≡ true → next_stay (stays_begun es) p ≡ None
  pub last : next_stay (stays_begun es) p ≡ None → latest_place es p.ccb ≡ j

-- a CCB that wasn't submitted: it has no stay, and no requeue
pub record IsNew (es : List Event) (k : ℕ) : Type 0 where
  pub none : latest_stay es k ≡ None
  pub requeues : count_by (is_requeue_of k) es ≡ 0

-- so it is of all CCBs and stays
pub record AreLatest (es : List Event) : Type 0 where
  pub states : AreStates es
  pub latest : (k : ℕ) → k < commands es → HasLatest es k
  pub stays : (j : ℕ) (p : Passage) → slice_get (stays_begun es) j ≡ Some p → IsKept es j p
  pub new : (k : ℕ) → commands es ≤ k → IsNew es k

pub place_at : (es : List Event) (j : ℕ) (p : Passage) → slice_get (stays_begun es) j ≡ Some p → p.place < length es
place_at es j p is = all_at (λ (q : Passage). q.place < length es) (stays_begun es) j p (places-stays_begun es) is

pub next-push : (ps : List Passage) (x p : Passage) → next_stay (ps ++ x ∷ []) p ≡ option_or (next_stay ps p) (cond (follows p x) (Some x) None)
next-push ps x p = find-append (follows p) ps (x ∷ [])

-- the stay of another CCB doesn't follow, and the next one of its own does
pub next-other : (ps : List Passage) (x p : Passage) → x.ccb ≢ p.ccb → next_stay (ps ++ x ∷ []) p ≡ next_stay ps p
next-other ps x p ne = next-push ps x p ∙ rw (ne_eqb x.ccb p.ccb ne) (none (next_stay ps p))
  where
    none : (o : Option Passage) → option_or o None ≡ o
    none None = refl
    none (Some q) = refl

pub next-own : (ps : List Passage) (x p : Passage) → x.ccb ≡ p.ccb → p.place < x.place → next_stay (ps ++ x ∷ []) p ≡ option_or (next_stay ps p) (Some x)
next-own ps x p same lt = next-push ps x p ∙ rw (eq-eqb x.ccb p.ccb same, lt-ltb p.place x.place lt) refl

next-front : (ps : List Passage) (x p : Passage) → next_stay (ps ++ x ∷ []) p ≡ None → next_stay ps p ≡ None
next-front ps x p h = front (next_stay ps p) (cond (follows p x) (Some x) None) (sym (next-push ps x p) ∙ h)
  where
    front : (o r : Option Passage) → option_or o r ≡ None → o ≡ None
    front None r h = refl
    front (Some q) r h = h

some_none : (o : Option Passage) (x : Passage) → option_or o (Some x) ≡ None → ⊥
some_none None x h = cc
some_none (Some q) x h = cc

place_cases : (n m : ℕ) (b : Bool) → n + 1 - 1 - cond (not b) (1 + m) 0 ≡ cond b n (n - 1 - m)
place_cases n m true = omega arith
place_cases n m false = omega arith

-- a stay without a send is counted among its CCB's
counted_any : {X : Type 0} → (t : X → Bool) (xs : List X) → list_any t xs ≡ true → 1 ≤ count_by t xs
counted_any t [] h = absurd (cc)
counted_any t (x ∷ xs) h = elim (or_cases (t x) (list_any t xs) h) [
  | inl here ↦ omega (arith, sum_by-cons (λ y. cond {A = ℕ} (t y) 1 0) x xs, ap (λ b. cond {A = ℕ} b 1 0) here)
  | inr later ↦ omega (arith, sum_by-cons (λ y. cond {A = ℕ} (t y) 1 0) x xs, counted_any t xs later)
]

pub some_unsent : (es : List Event) (j : ℕ) (p : Passage) → slice_get (stays_begun es) j ≡ Some p → is_unsent es p ≡ true → 1 ≤ unsent_count es p.ccb
unfolding waiting
some_unsent es j p is unsent =
    counted_any (is_of p.ccb) (waiting es)
    (list_any-filter (is_unsent es) (is_of p.ccb) (stays_begun es) ∙ any_at (λ q. is_unsent es q && is_of p.ccb q) (stays_begun es) j p is (rw (unsent, eq-eqb p.ccb p.ccb refl) refl))

-- a stay that an event begins
record Begins (es : List Event) (e : Event) (x : Passage) : Type 0 where
  begins : stay_begun (es, e) ≡ Some x
  ccb : x.ccb < commands (es ++ e ∷ [])
  others : (k : ℕ) → k < commands (es ++ e ∷ []) → k ≢ x.ccb → k < commands es
  fresh : (j : ℕ) (p : Passage) → slice_get (stays_begun es) j ≡ Some p → is_unsent es p ≡ true → x.ccb ≢ p.ccb
  attempt : x.attempt ≡ count_by (is_requeue_of x.ccb) (es ++ e ∷ [])
  requeues : (k : ℕ) → k ≢ x.ccb → is_requeue_of k e ≡ false

module _ (es : List Event) (e : Event) (x : Passage) where
  pub begun : stay_begun (es, e) ≡ Some x → stays_begun (es ++ e ∷ []) ≡ stays_begun es ++ x ∷ []
  begun is = stays_begun-push es e ∙ ap (λ o. stays_begun es ++ option_to_list o) is

  -- no stay follows it
  pub born_last : stay_begun (es, e) ≡ Some x → next_stay (stays_begun (es ++ e ∷ [])) x ≡ None
  born_last is = rw (begun is) (find_none_at (follows x) (stays_begun es ++ x ∷ []) (λ j p there. elim (pushed_at (stays_begun es) x j p there) [
    | inl old ↦ behind p (let lt = place_at es j p old in omega (arith, place-stay_begun (es, e) x is))
    | inr own ↦ behind p (omega (arith, ap (λ (q : Passage). q.place) own.1))
  ]))
    where
      behind : (p : Passage) → p.place ≤ x.place → follows x p ≡ false
      behind p le = rw (le-ltb x.place p.place le) (and-false (p.ccb == x.ccb))

  pub latest_stay-push : stay_begun (es, e) ≡ Some x → (k : ℕ) → latest_stay (es ++ e ∷ []) k ≡ cond (x.ccb == k) (Some x) (latest_stay es k)
  unfolding latest_stay
  latest_stay-push is k = rw (begun is, reverse-append (stays_begun es) (x ∷ [])) refl

  pub latest_place-push : stay_begun (es, e) ≡ Some x → (k : ℕ) → latest_place (es ++ e ∷ []) k ≡ cond (x.ccb == k) (length (stays_begun es)) (latest_place es k)
  unfolding latest_place
  latest_place-push is k =
      rw (begun is, reverse-append (stays_begun es) (x ∷ []), length-append (stays_begun es) (x ∷ []))
      (place_cases (length (stays_begun es)) (position_or_len (is_of k) (reverse (stays_begun es))) (x.ccb == k))

  pub latest_place-own : stay_begun (es, e) ≡ Some x → (k : ℕ) → x.ccb ≡ k → latest_place (es ++ e ∷ []) k ≡ length (stays_begun es)
  latest_place-own is k same = latest_place-push is k ∙ rw (eq-eqb x.ccb k same) refl

  pub latest_place-other : stay_begun (es, e) ≡ Some x → (k : ℕ) → x.ccb ≢ k → latest_place (es ++ e ∷ []) k ≡ latest_place es k
  latest_place-other is k ne = latest_place-push is k ∙ rw (ne_eqb x.ccb k ne) refl

  module _ (b : Begins es e x) where
    now : stays_begun (es ++ e ∷ []) ≡ stays_begun es ++ x ∷ []
    now = begun b.begins

    latest-own : HasLatest (es ++ e ∷ []) x.ccb
    latest-own = record {
      stay = x;
      is = latest_stay-push b.begins x.ccb ∙ rw (eq-eqb x.ccb x.ccb refl) refl;
      there = rw (latest_place-own b.begins x.ccb refl, now) (seam_at (stays_begun es) x);
      ccb = refl;
      last = born_last b.begins;
      attempt = b.attempt;
    }

    latest-other : (k : ℕ) → x.ccb ≢ k → HasLatest es k → HasLatest (es ++ e ∷ []) k
    latest-other k ne h = record {
      stay = h.stay;
      is = latest_stay-push b.begins k ∙ rw (ne_eqb x.ccb k ne) h.is;
      there = rw (latest_place-other b.begins k ne, now) (front_at (stays_begun es) (x ∷ []) (latest_place es k) h.stay h.there);
      ccb = h.ccb;
      last = rw now (next-other (stays_begun es) x h.stay (λ same. ne (same ∙ h.ccb)) ∙ h.last);
      attempt = omega (arith, h.attempt, requeues-push es e k, ap (λ t. cond {A = ℕ} t 1 0) (b.requeues k (λ same. ne (sym same))));
    }

    kept-old : (j : ℕ) (p : Passage) → slice_get (stays_begun es) j ≡ Some p → IsKept es j p → IsKept (es ++ e ∷ []) j p
    kept-old j p is h =
        let lt = place_at es j p is in
        let before : p.place < x.place = omega (arith, place-stay_begun (es, e) x b.begins) in record {
          ccb = omega (arith, h.ccb, commands-grow es e);
          alone = λ unsent.
              let was = (and_parts (is_unsent es p) (not (is_send_of p.ccb e)) (sym (is_unsent-push es e p lt) ∙ unsent)).0 in
              rw now (next-other (stays_begun es) x p (b.fresh j p is was) ∙ h.alone was);
          last = λ none.
              let none' : next_stay (stays_begun es ++ x ∷ []) p ≡ None = rw now at none in
              latest_place-other b.begins p.ccb (λ same. some_none (next_stay (stays_begun es) p) x (sym (next-own (stays_begun es) x p same before) ∙ none'))
              ∙ h.last (next-front (stays_begun es) x p none');
        }

    begin_step : AreStates (es ++ e ∷ []) → AreLatest es → AreLatest (es ++ e ∷ [])
    begin_step states h = record {
      states = states;
      latest = λ k lt. elim (cases_eq x.ccb k) [
        | inl same ↦ rw (← same) latest-own
        | inr ne ↦ latest-other k ne (h.latest k (b.others k lt (λ same. ne (sym same))))
      ];
      stays = λ j p is. elim (pushed_at (stays_begun es) x j p (rw now at is)) [
        | inl old ↦ kept-old j p old (h.stays j p old)
        | inr own ↦ rw (← own.1) (record { ccb = b.ccb; alone = λ _. born_last b.begins; last = λ _. latest_place-own b.begins x.ccb refl ∙ sym own.0 })
      ];
      new = λ k le.
          let was = h.new k (omega (arith, commands-grow es e)) in record {
            none = latest_stay-push b.begins k ∙ rw (ne_eqb x.ccb k (λ same. omega (arith, b.ccb))) was.none;
            requeues = omega (arith, was.requeues, requeues-push es e k, ap (λ t. cond {A = ℕ} t 1 0) (b.requeues k (λ same. omega (arith, b.ccb))));
          };
    }

-- an event that begins none
module _ (es : List Event) (e : Event) where
  pub quiet : stay_begun (es, e) ≡ None → stays_begun (es ++ e ∷ []) ≡ stays_begun es
  quiet none = stays_begun-push es e ∙ ap (λ o. stays_begun es ++ option_to_list o) none ∙ append-nil (stays_begun es)

  pub same_place : stay_begun (es, e) ≡ None → (k : ℕ) → latest_place (es ++ e ∷ []) k ≡ latest_place es k
  unfolding latest_place
  same_place none k = rw (quiet none) refl

  same_stay : stay_begun (es, e) ≡ None → (k : ℕ) → latest_stay (es ++ e ∷ []) k ≡ latest_stay es k
  unfolding latest_stay
  same_stay none k = rw (quiet none) refl

  quiet_step : stay_begun (es, e) ≡ None → submission_of e ≡ None → ((k : ℕ) → is_requeue_of k e ≡ false) → AreStates (es ++ e ∷ []) → AreLatest es → AreLatest (es ++ e ∷ [])
  quiet_step none still requeues states h =
      let tries : (k : ℕ) → count_by (is_requeue_of k) (es ++ e ∷ []) ≡ count_by (is_requeue_of k) es =
      λ k. omega (arith, requeues-push es e k, ap (λ t. cond {A = ℕ} t 1 0) (requeues k)) in record {
        states = states;
        latest = λ k lt.
            let was = h.latest k (omega (arith, commands-none es e still)) in record {
              stay = was.stay;
              is = same_stay none k ∙ was.is;
              there = rw (same_place none k, quiet none) was.there;
              ccb = was.ccb;
              last = rw (quiet none) was.last;
              attempt = was.attempt ∙ sym (tries k);
            };
        stays = λ j p is.
            let old = rw (quiet none) at is in
            let was = h.stays j p old in record {
              ccb = omega (arith, was.ccb, commands-none es e still);
              alone = λ unsent. rw (quiet none) (was.alone (and_parts (is_unsent es p) (not (is_send_of p.ccb e)) (sym (is_unsent-push es e p (place_at es j p old)) ∙ unsent)).0);
              last = λ last. same_place none p.ccb ∙ was.last (rw (quiet none) at last);
            };
        new = λ k le.
            let was = h.new k (omega (arith, commands-none es e still)) in
            record { none = same_stay none k ∙ was.none; requeues = tries k ∙ was.requeues };
      }

submit_begins : (es : List Event) (driver device priority retries : ℕ) (flags : Flags) → AreLatest es → Begins es (Submit driver device priority retries flags) (submitted_stay es device priority)
submit_begins es driver device priority retries flags h =
    let e = Submit driver device priority retries flags in
    let more = commands-submit es e (record { driver = driver; device = device; priority = priority; retries = retries; flags = flags }) refl in record {
      begins = refl;
      ccb = omega (arith, more);
      others = λ k lt ne. omega (arith, more);
      fresh = λ j p is unsent same. omega (arith, (h.stays j p is).ccb);
      attempt = omega (arith, (h.new (commands es) (omega arith)).requeues, requeues-push es e (commands es));
      requeues = λ k ne. refl;
    }

requeue_begins : (rules : Rules) (c : Topology) (es : List Event) (ccb : ℕ) (s : Submission) → is_legal_event rules c (es, Requeue ccb) ≡ true → submission es ccb ≡ Some s → AreLatest es → Begins es (Requeue ccb) (requeued_stay es ccb s)
requeue_begins rules c es ccb s allowed is h =
    let asks = asks-requeue rules c es ccb allowed in
    let more = commands-none es (Requeue ccb) refl in record {
      begins = rw is refl;
      ccb = omega (arith, asks.0, more);
      others = λ k lt ne. omega (arith, more);
      fresh = λ j p there unsent same. clash p.ccb (some_unsent es j p there unsent) (ap (is_recovering es) (sym same) ∙ asks.1);
      attempt = omega (arith, requeues-push es (Requeue ccb) ccb, ap (λ t. cond {A = ℕ} t 1 0) (eq-eqb ccb ccb refl));
      requeues = λ k ne. ne_eqb ccb k (λ same. ne (sym same));
    }
  where
    clash : (k : ℕ) → 1 ≤ unsent_count es k → is_recovering es k ≡ true → ⊥
    clash k some recovers = let fine = (waiting-states es k h.states some).recovering in let no : false ≡ true = sym fine ∙ recovers in cc

pub latest_step : (rules : Rules) (c : Topology) (es : List Event) (e : Event) → is_legal_event rules c (es, e) ≡ true → AreLatest es → AreLatest (es ++ e ∷ [])
latest_step rules c es e allowed h = by e (states_step rules c es e allowed h.states) allowed
  where
    by : (e : Event) → AreStates (es ++ e ∷ []) → is_legal_event rules c (es, e) ≡ true → AreLatest (es ++ e ∷ [])
    by (Submit driver device priority retries flags) states allowed =
        let e = Submit driver device priority retries flags in
        begin_step es e (submitted_stay es device priority) (submit_begins es driver device priority retries flags h) states h
    by (Requeue ccb) states allowed =
        let one = submitted es ccb (asks-requeue rules c es ccb allowed).0 in
        begin_step es (Requeue ccb) (requeued_stay es ccb one.0) (requeue_begins rules c es ccb one.0 allowed one.1 h) states h
    by (Send lane ccb) states allowed = quiet_step es (Send lane ccb) refl refl (λ k. refl) states h
    by (Done ccb outcome) states allowed = quiet_step es (Done ccb outcome) refl refl (λ k. refl) states h
    by (Finish ccb) states allowed = quiet_step es (Finish ccb) refl refl (λ k. refl) states h
    by (FreezeDev device count) states allowed = quiet_step es (FreezeDev device count) refl refl (λ k. refl) states h
    by (ReleaseDev device count) states allowed = quiet_step es (ReleaseDev device count) refl refl (λ k. refl) states h
    by (FreezeSim sim count) states allowed = quiet_step es (FreezeSim sim count) refl refl (λ k. refl) states h
    by (ReleaseSim sim) states allowed = quiet_step es (ReleaseSim sim) refl refl (λ k. refl) states h
    by (Adjust device openings) states allowed = quiet_step es (Adjust device openings) refl refl (λ k. refl) states h
    by Tick states allowed = quiet_step es Tick refl refl (λ k. refl) states h

pub none_latest : AreLatest []
unfolding stays_begun submissions latest_stay
none_latest = record { states = states_none; latest = λ k lt. absurd (omega arith); stays = λ j p is. absurd (cc); new = λ k le. record { none = refl; requeues = refl } }

pub latest-legal : (rules : Rules) (c : Topology) (es : List Event) → is_legal rules c es ≡ true → AreLatest es
unfolding is_legal
latest-legal rules c es legal = legal-induction rules c AreLatest (latest_step rules c) [] es legal none_latest
