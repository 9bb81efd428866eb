-- what is asked of the stays, by their records
use Rattle.std.proofs.Common.{◌≡◌, ℕ, ◌+◌, ◌<◌, ◌≤◌, ◌*◌, ◌-◌, Bool, true, false, cond, List, [], ◌∷◌, get_or, map, inl, inr, refl, sym, ap, ◌∙◌, arith, Option, Some, None, ◌&&◌, slice_get, find, sum_by, is_none, unwrap_or, vec_len, option_map}
use Rattle.std.specs.List.{list_any}
use Rattle.std.proofs.lemmas.List.Sums.{sum_by-cons}
use Rattle.std.proofs.lemmas.Option.{slice_get_within, slice_get_cases, get_or_from_slice_get}
use Rattle.std.proofs.lemmas.Bool.{cases_lt, or_parts}
use Rattle.xpt_core.specs.Words.{Topology, weight, round, commands, is_some_and, stays_begun, name_of, unsent, has_arrived, has_queued, live_part, live_cost, live_round, Event, Passage, Stay}
use Rattle.event_rules.specs.Stays as stays
use Rattle.xpt_core.specs.Transport.{Transport}
use Rattle.xpt_core.specs.StayRecord.{is_unsent, is_queued, waiting_cost, StayRecord}
use Rattle.xpt_core.specs.Latest.{latest_stay}
use Rattle.xpt_core.specs.Records.{record_of, records}
use Rattle.xpt_core.specs.PartsSound.{IsStays, Stays}
use Rattle.xpt_core.proofs.LatestLemmas.{latest-legal}
use Rattle.xpt_core.proofs.RecordLaws.{queued-latest, queued-none}
use Rattle.xpt_core.proofs.StaySoundLemmas.{len-latest, held-latest, held-place, held-record, held-within}

-- a record has no send where its stay has none
none_cases : (n : ℕ) (b : Bool) → is_none (cond b None (Some n)) ≡ b
none_cases n true = refl
none_cases n false = refl

pub unsent-of : (es : List Event) (p : Passage) → is_unsent (record_of es p) ≡ stays.is_unsent es p
unsent-of es p = none_cases (live_round es p) (stays.is_unsent es p)

abbrev stay_in : StayRecord → Stay
stay_in r = name_of r.stay

module _ (es : List Event) where
  found_cases : (p : Passage) (ps : List Passage) (b : Bool) → option_map stay_in (find is_unsent (map (record_of es) ps)) ≡ option_map name_of (find (stays.is_unsent es) ps) →
      option_map stay_in (cond b (Some (record_of es p)) (find is_unsent (map (record_of es) ps))) ≡ option_map name_of (cond b (Some p) (find (stays.is_unsent es) ps))
  found_cases p ps true same = refl
  found_cases p ps false same = same

  found : (ps : List Passage) → option_map stay_in (find is_unsent (map (record_of es) ps)) ≡ option_map name_of (find (stays.is_unsent es) ps)
  found [] = refl
  found (p ∷ ps) = rw (unsent-of es p) (found_cases p ps (stays.is_unsent es p) (found ps))

  pub find-records : option_map (λ (r : StayRecord). name_of r.stay) (find is_unsent (records es)) ≡ unsent es
  unfolding records unsent
  find-records = found (stays_begun es)

  any-map : (ps : List Passage) → list_any is_unsent (map (record_of es) ps) ≡ list_any (stays.is_unsent es) ps
  any-map [] = refl
  any-map (p ∷ ps) = rw (unsent-of es p, any-map ps) refl

  -- where each was sent, records cost what the live schedule did
  cost_cases : (c : Topology) (p : Passage) (n : ℕ) (b : Bool) → b ≡ false → weight c p.priority * (unwrap_or (cond b None (Some n)) 0 - p.arrival) ≡ weight c p.priority * (n - p.arrival)
  cost_cases c p n true is = absurd (cc)
  cost_cases c p n false is = refl

  sum-map : (c : Topology) (ps : List Passage) → list_any (stays.is_unsent es) ps ≡ false → sum_by (waiting_cost c) (map (record_of es) ps) ≡ sum_by (live_part c es) ps
  unfolding live_part
  sum-map c [] h = refl
  sum-map c (p ∷ ps) h =
      let parts = or_parts (stays.is_unsent es p) (list_any (stays.is_unsent es) ps) h in
      sum_by-cons (waiting_cost c) (record_of es p) (map (record_of es) ps)
      ∙ ap (λ n. n + sum_by (waiting_cost c) (map (record_of es) ps)) (cost_cases c p (live_round es p) (stays.is_unsent es p) parts.0)
      ∙ ap (λ n. live_part c es p + n) (sum-map c ps parts.1) ∙ sym (sum_by-cons (live_part c es) p ps)

  all_sent : (c : Topology) (t : Bool) → list_any (stays.is_unsent es) (stays_begun es) ≡ t →
      cond t None (Some (sum_by (waiting_cost c) (map (record_of es) (stays_begun es)))) ≡ cond t None (Some (sum_by (live_part c es) (stays_begun es)))
  all_sent c true h = refl
  all_sent c false h = ap Some (sum-map c (stays_begun es) h)

  pub cost-records : (c : Topology) → cond (list_any is_unsent (records es)) None (Some (sum_by (waiting_cost c) (records es))) ≡ live_cost c es
  unfolding records live_cost
  cost-records c = rw (any-map (stays_begun es)) (all_sent c (list_any (stays.is_unsent es) (stays_begun es)) refl)

-- what is read of a CCB's latest stay, after a transport's events
module _ (q : Transport) (s : Stays) (is : IsStays q s) (t : Transport) (view : q ≡ t) where
  stays-there : (k n : ℕ) → slice_get s.latest.items k ≡ Some n → k < commands q.events
  stays-there k n at = omega (arith, slice_get_within s.latest.items k n at, s.latest.ok.0, len-latest q s is)

  stays-past : (k : ℕ) → slice_get s.latest.items k ≡ None → commands q.events ≤ k
  stays-past k none = elim (slice_get_cases s.latest.items k).1 [
    | inl w ↦ let some = w.2 in absurd (cc)
    | inr v ↦ omega (arith, v.0, s.latest.ok.0, len-latest q s is)
  ]

  pub latest-none : (k : ℕ) → slice_get s.latest.items k ≡ None → option_map (record_of t.events) (latest_stay t.events k) ≡ None
  latest-none k none =
      let new = (latest-legal q.rules q.config q.events is.legal).new k (stays-past k none) in
      ap (λ (x : Transport). option_map (record_of x.events) (latest_stay x.events k)) (sym view) ∙ ap (option_map (record_of q.events)) new.none

  pub latest-within : (k n : ℕ) → slice_get s.latest.items k ≡ Some n → n < vec_len s.records
  latest-within k n at =
      let lt = stays-there k n at in
      omega (arith, s.records.ok.0, held-within q s is k n lt (held-place q s is k n lt (sym (get_or_from_slice_get s.latest.items k n n at))))

  pub latest-some : (k n : ℕ) (r : StayRecord) → slice_get s.latest.items k ≡ Some n → r ≡ get_or s.records.items n r → Some r ≡ option_map (record_of t.events) (latest_stay t.events k)
  latest-some k n r at read =
      let lt = stays-there k n at in
      let h = held-latest q s is k lt in
      let place = held-place q s is k n lt (sym (get_or_from_slice_get s.latest.items k n n at)) in
      let here : get_or s.records.items n r ≡ record_of q.events h.stay = get_or_from_slice_get s.records.items n _ r (ap (slice_get s.records.items) place ∙ held-record q s is k h) in
      ap Some (read ∙ here) ∙ ap (option_map (record_of q.events)) (sym h.is)
      ∙ ap (λ (x : Transport). option_map (record_of x.events) (latest_stay x.events k)) view

  -- whether a stay is queued, by that
  queued_here : (k : ℕ) (o : Option StayRecord) → o ≡ option_map (record_of q.events) (latest_stay q.events k) →
      has_queued q.events k ≡ is_some_and (is_queued (round q.events)) o
  queued_here k o same = elim (cases_lt k (commands q.events)) [
    | inl lt ↦
        let h = held-latest q s is k lt in
        queued-latest q.rules q.config q.events is.legal k h
        ∙ ap (λ b. b && has_arrived q.events h.stay) (sym (unsent-of q.events h.stay))
        ∙ ap (is_some_and (is_queued (round q.events))) (sym (same ∙ ap (option_map (record_of q.events)) h.is))
    | inr le ↦
        let new = (latest-legal q.rules q.config q.events is.legal).new k le in
        queued-none q.rules q.config q.events is.legal k le
        ∙ ap (is_some_and (is_queued (round q.events))) (sym (same ∙ ap (option_map (record_of q.events)) new.none))
  ]

  pub queued-by : (k : ℕ) (o : Option StayRecord) → o ≡ option_map (record_of t.events) (latest_stay t.events k) →
      is_some_and (is_queued (round t.events)) o ≡ has_queued t.events k
  queued-by k o same =
      ap (λ (x : Transport). is_some_and (is_queued (round x.events)) o) (sym view)
      ∙ sym (queued_here k o (same ∙ ap (λ (x : Transport). option_map (record_of x.events) (latest_stay x.events k)) (sym view)))
      ∙ ap (λ (x : Transport). has_queued x.events k) view

  -- the first without a send, and the live cost
  pub found-some : (r : StayRecord) → find is_unsent s.records.items ≡ Some r → Some (name_of r.stay) ≡ unsent t.events
  found-some r h =
      ap (option_map (λ (x : StayRecord). name_of x.stay)) (sym h ∙ ap (find is_unsent) is.records) ∙ find-records q.events ∙ ap (λ (x : Transport). unsent x.events) view

  pub found-none : find is_unsent s.records.items ≡ None → None ≡ unsent t.events
  found-none h =
      ap (option_map (λ (x : StayRecord). name_of x.stay)) (sym h ∙ ap (find is_unsent) is.records) ∙ find-records q.events ∙ ap (λ (x : Transport). unsent x.events) view

  pub cost-by : (rs : List StayRecord) → rs ≡ s.records.items → cond (list_any is_unsent rs) None (Some (sum_by (waiting_cost t.config) rs)) ≡ live_cost t.config t.events
  cost-by rs same =
      ap (λ ys. cond (list_any is_unsent ys) None (Some (sum_by (waiting_cost t.config) ys))) (same ∙ is.records) ∙ cost-records q.events t.config ∙ ap (λ (x : Transport). live_cost t.config x.events) view
