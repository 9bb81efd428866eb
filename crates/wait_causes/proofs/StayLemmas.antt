-- what stands in the row of a stay, and how many rounds have each cause
use Rattle.std.proofs.Common.{◌≡◌, ℕ, zero, suc, ◌+◌, ◌<◌, ◌≤◌, true, List, [], ◌∷◌, ◌++◌, map, length, take, get_or, refl, sym, ap, ◌∙◌, arith, zip, All, None}
use mathlib.Core.Path.{Path}
use Rattle.std.specs.List.{range_with_len}
use Rattle.std.specs.Option.{option_map_or}
use Rattle.std.proofs.lemmas.List.{length-map, take_all, map-append, take_more}
use Rattle.std.proofs.lemmas.Slice.Zip.{get_or-zip, seconds-zip, length-zip}
use Rattle.std.proofs.lemmas.List.Sums.{AllPass-from_list_all}
use Rattle.std.proofs.lemmas.List.Elements.{All-weaker}
use Rattle.wait_causes.specs.Words.{Topology, device_adapter, weight, run_level, Rules, is_legal, is_stay_in_range, submission, stays_begun, is_unsent, Event, Passage, Submission, records, record_of, StayRecord, WaitCause, Error}
use Rattle.event_rules.proofs.RangeLemmas.{stays_in_range}
use Rattle.event_rules.proofs.ListFacts.{count_by-push, range_with_len-push}
use Rattle.wait_causes.specs.Behind.{no_behind, FullBehind}
use Rattle.wait_causes.specs.Stays.{rounds_by, all_rounds, no_rounds, with_round, counted, explained_stay, explained_stays, paces, row_by, sent_in, ExplainedStay}
use Rattle.wait_causes.specs.declared.origin.Origin.TheVariants as origin
use Rattle.wait_causes.specs.declared.explained_stay.CauseRounds.{CauseRounds}
use Rattle.round_net.proofs.FoundLemmas.{live_cases}
use Rattle.round_net.proofs.NetLemmas.{device_in_range}

pub same_rounds : (a b c d e f g h i j a' b' c' d' e' f' g' h' i' j' : ℕ) → a ≡ a' → b ≡ b' → c ≡ c' → d ≡ d' → e ≡ e' → f ≡ f' → g ≡ g' → h ≡ h' → i ≡ i' → j ≡ j' →
    Path CauseRounds
    (record { error = a; caller = b; adapter_frozen = c; device_stopped = d; adapter_stopped = e; link_stopped = f; device_full = g; adapter_full = h; link_full = i; not_asked = j })
    (record { error = a'; caller = b'; adapter_frozen = c'; device_stopped = d'; adapter_stopped = e'; link_stopped = f'; device_full = g'; adapter_full = h'; link_full = i'; not_asked = j' })
same_rounds a b c d e f g h i j a' b' c' d' e' f' g' h' i' j' ea eb ec ed ee ef eg eh ei ej = rw (ea, eb, ec, ed, ee, ef, eg, eh, ei, ej) refl

-- one round more counts for its cause alone
pub rounds_by-push : (xs : List WaitCause) (x : WaitCause) → rounds_by (xs ++ x ∷ []) ≡ with_round (rounds_by xs) x
rounds_by-push xs Error = simp (count_by-push) (same_rounds _ _ _ _ _ _ _ _ _ _ _ _ _ _ _ _ _ _ _ _ (omega arith) (omega arith) (omega arith) (omega arith) (omega arith) (omega arith) (omega arith) (omega arith) (omega arith) (omega arith))
rounds_by-push xs _ = simp (count_by-push) (same_rounds _ _ _ _ _ _ _ _ _ _ _ _ _ _ _ _ _ _ _ _ (omega arith) (omega arith) (omega arith) (omega arith) (omega arith) (omega arith) (omega arith) (omega arith) (omega arith) (omega arith))

all_rounds-more : (n : CauseRounds) (x : WaitCause) → all_rounds (with_round n x) ≡ all_rounds n + 1
all_rounds-more n Error = omega arith
all_rounds-more n _ = omega arith

-- each round counts once
pub rounds_add_up : (f : ℕ → WaitCause) (a n : ℕ) → all_rounds (rounds_by (map f (range_with_len a n))) ≡ n
rounds_add_up f a zero = refl
rounds_add_up f a (suc n) =
    let more : suc n ≡ n + 1 = omega arith in
    ap (λ xs. all_rounds (rounds_by xs)) (ap (map f) (ap (range_with_len a) more ∙ range_with_len-push a n) ∙ map-append f (range_with_len a n) ((a + n) ∷ []))
    ∙ ap all_rounds (rounds_by-push (map f (range_with_len a n)) (f (a + n)))
    ∙ all_rounds-more (rounds_by (map f (range_with_len a n))) (f (a + n))
    ∙ omega (arith, rounds_add_up f a n)

-- the rounds so far and one more
pub rounds_step : (f : ℕ → WaitCause) (a n : ℕ) (old new : CauseRounds) (x : WaitCause) → old ≡ rounds_by (map f (range_with_len a n)) → new ≡ with_round old x → x ≡ f (a + n) → new ≡ rounds_by (map f (range_with_len a (n + 1)))
rounds_step f a n old new x was is here =
    is ∙ rw (was, here) (sym (rounds_by-push (map f (range_with_len a n)) (f (a + n))))
    ∙ ap rounds_by (sym (ap (map f) (range_with_len-push a n) ∙ map-append f (range_with_len a n) ((a + n) ∷ [])))

-- a row by its parts
pub row_of_parts : (c : Topology) (es : List Event) (r : StayRecord) (best driver adapter w live : ℕ) (rounds : CauseRounds) (behind : FullBehind) →
    driver ≡ option_map_or (λ (s : Submission). s.driver) (submission es r.stay.ccb) 0 → adapter ≡ device_adapter c r.stay.device → w ≡ weight c r.stay.priority → live ≡ sent_in es r →
    rounds ≡ no_rounds → behind ≡ no_behind →
    Path ExplainedStay (record {
      ccb = r.stay.ccb;
      attempt = r.stay.attempt;
      driver = driver;
      device = r.stay.device;
      adapter = adapter;
      priority = r.stay.priority;
      level = run_level r.stay.priority;
      weight = w;
      arrival = r.stay.arrival;
      live = live;
      pace = None;
      best = best;
      last = None;
      done = None;
      rounds = rounds;
      behind = behind;
    }) (row_by c es (r, best))
unfolding row_by
row_of_parts c es r best driver adapter w live rounds behind driver_is adapter_is weight_is live_is rounds_is behind_is = rw (rounds_is, behind_is, driver_is, adapter_is, weight_is, live_is) refl

-- each stay is of a device of the configuration
pub devices_in_range : (rules : Rules) (c : Topology) (es : List Event) → is_legal rules c es ≡ true → All (λ (p : Passage). p.device < length c.devices) (stays_begun es)
devices_in_range rules c es legal =
    All-weaker (λ p. is_stay_in_range c es p ≡ true) (λ (p : Passage). p.device < length c.devices) (device_in_range c es) (stays_begun es)
    (AllPass-from_list_all (is_stay_in_range c es) (stays_begun es) (stays_in_range rules c es legal))

-- a row, counted, is the stay's
row_counted : (c : Topology) (es : List Event) (p : Passage) (best : ℕ) → counted (origin.Trace (record { config = c; events = es })) (row_by c es (record_of es p, best)) ≡ explained_stay c es p best
unfolding row_by explained_stay
row_counted c es p best = rw (live_cases es p (is_unsent es p) refl) refl

rows_counted : (c : Topology) (es : List Event) (ps : List Passage) (best : List ℕ) →
    map (counted (origin.Trace (record { config = c; events = es }))) (map (row_by c es) (zip (map (record_of es) ps) best)) ≡ map (λ (m : Passage × ℕ). explained_stay c es m.0 m.1) (zip ps best)
rows_counted c es [] best = refl
rows_counted c es (p ∷ ps) [] = refl
rows_counted c es (p ∷ ps) (b ∷ bs) = rw (row_counted c es p b, rows_counted c es ps bs) refl

-- the rows by all records, counted, are the stays
pub stays_counted : (c : Topology) (es : List Event) (best : List ℕ) →
    map (counted (origin.Trace (record { config = c; events = es }))) (map (row_by c es) (zip (records es) best)) ≡ explained_stays c es best
unfolding records explained_stays
stays_counted c es best = rows_counted c es (stays_begun es) best

pub length-records : (es : List Event) → length (records es) ≡ length (stays_begun es)
unfolding records
length-records es = length-map (stays_begun es) (record_of es)

-- the rows of the stays so far, and one more
pub zip_push : {K V R : Type 0} (f : K × V → R) (ks : List K) (vs : List V) (i : ℕ) (rows new : List R) (r : R) (k : K) (v d : V) → rows ≡ map f (take i (zip ks vs)) → new ≡ rows ++ r ∷ [] → r ≡ f (get_or ks i k, v) → v ≡ get_or vs i d → i < length ks → i < length vs → new ≡ map f (take (i + 1) (zip ks vs))
zip_push {K} {V} {R} f ks vs i rows new r k v d was is here at lt lt' =
    let e : K × V = (k, d) in
    let within : i < length (zip ks vs) = rw (length-zip ks vs) (omega arith) in
    is ∙ rw (was, here, at) refl
    ∙ sym (ap (map f) (take_more (zip ks vs) i e within ∙ ap (λ m. take i (zip ks vs) ++ m ∷ []) (get_or-zip ks vs i e lt lt'))
    ∙ map-append f (take i (zip ks vs)) ((get_or ks i k, get_or vs i d) ∷ []))

pub zip_all : {K V R : Type 0} (f : K × V → R) (ks : List K) (vs : List V) (i : ℕ) → length vs ≡ length ks → length ks ≤ i → map f (take i (zip ks vs)) ≡ map f (zip ks vs)
zip_all f ks vs i same le = ap (map f) (take_all i (zip ks vs) (rw (length-zip ks vs) (omega arith)))

bests : (c : Topology) (es : List Event) (zs : List (Passage × ℕ)) → map (λ (s : ExplainedStay). s.best) (map (λ (m : Passage × ℕ). explained_stay c es m.0 m.1) zs) ≡ map (λ (m : Passage × ℕ). m.1) zs
unfolding explained_stay
bests c es [] = refl
bests c es (m ∷ zs) = ap (λ ns. m.1 ∷ ns) (bests c es zs)

pub best_kept : (c : Topology) (es : List Event) (best : List ℕ) → length best ≡ length (stays_begun es) → map (λ (s : ExplainedStay). s.best) (explained_stays c es best) ≡ best
unfolding explained_stays
best_kept c es best all = bests c es (zip (stays_begun es) best) ∙ seconds-zip (stays_begun es) best all

-- a history has no pace
no_paces : (c : Topology) (es : List Event) (zs : List (Passage × ℕ)) → paces (map (λ (m : Passage × ℕ). explained_stay c es m.0 m.1) zs) ≡ []
unfolding explained_stay
no_paces c es [] = refl
no_paces c es (m ∷ zs) = no_paces c es zs

pub pace_kept : (c : Topology) (es : List Event) (best : List ℕ) → paces (explained_stays c es best) ≡ []
unfolding explained_stays
pace_kept c es best = no_paces c es (zip (stays_begun es) best)
