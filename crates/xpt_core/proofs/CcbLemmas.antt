-- what the parts of a transport's CCBs say of its events
use Rattle.std.proofs.Common.{◌≡◌, ℕ, zero, suc, ◌<◌, ◌≤◌, Bool, true, false, cond, List, [], ◌∷◌, ◌++◌, length, get_or, refl, sym, ap, subst, ◌∙◌, arith, Option, Some, None, is_some, inl, inr, not, ◌&&◌, nat_lt, nat_le, count_by, option_and_then, slice_get, IfSome, All, IsTrue, vec_len, vec_capacity}
use Rattle.std.specs.List.{list_any}
use Rattle.std.specs.Option.{option_map, option_map_or}
use Rattle.std.proofs.lemmas.Bool.{cases_lt, and_parts, ltb-true, lt-ltb}
use Rattle.std.proofs.lemmas.Option.{slice_get-get_or}
use Rattle.std.proofs.lemmas.List.Elements.{All-from_get_or}
use Rattle.std.proofs.lemmas.List.FromFn.{length-range_with_len}
use Rattle.std.proofs.lemmas.List.Sums.{count_by-le-length}
use Rattle.xpt_core.specs.Words.{Topology, Outcome, MAX_PRIORITY, MAX_RETRIES, MAX_STAYS, classify, asks_requeue, asks_finish, is_some_and, ccb_of, ends, submission_of, submission, submissions, commands, ccbs, alive, is_in_flight, is_recovering, last_result, counted_requeues, retries_of, wants_requeue, wants_finish, stays_begun, Event, Submit, Submission, names_device, Rules, IsWithinHistory, max_alive, has_ccb, has_stay, is_legal_event, is_legal, last_class}
use Rattle.sense_class.specs.declared.class.Class as class
use Rattle.event_rules.proofs.ConcernLaws.{concerns-none}
use Rattle.event_rules.proofs.TotalLaws.{commands-stays}
use Rattle.event_rules.proofs.LimitLemmas.{stays-legal}
use Rattle.event_rules.proofs.LawLemmas.{allowed-legal_event, legal-push}
use Rattle.xpt_core.specs.Transport.{Transport}
use Rattle.xpt_core.specs.Change.{fresh, class_of_row, updated_at, IsSmall, Ccb}
use Rattle.xpt_core.specs.declared.ccbs.Ccbs.{Ccbs}
use Rattle.xpt_core.specs.Ccbs.{is_alive, ccb_by, alive_ccb, rows}
use Rattle.xpt_core.specs.Cases.{cases, failures, times, decided}
use Rattle.xpt_core.specs.Rows.{RowTable, is_row_in_flight, updated, CanUpdate}
use Rattle.xpt_core.specs.PartsSound.{IsCcbs}
use Rattle.xpt_core.proofs.ListFacts.{count_by-range, length-by_number, sum_by-same}
use Rattle.xpt_core.proofs.RowLaws.{length-rows, get_or-rows, rows-same, rows-updated, rows-submit, small_rows}
use Rattle.xpt_core.proofs.CaseLaws.{count_cases, case_recovers, cases-decided}
use Rattle.xpt_core.proofs.PlaceLaws.{IsSettled, settled-legal}
use Rattle.event_rules.proofs.StandLemmas.{states-legal, in_flight_held, recovering_held}

none_legal : (rules : Rules) (c : Topology) → is_legal rules c [] ≡ true
unfolding is_legal
none_legal rules c = refl

-- the events are settled
settled_of : (t : Transport) (b : Ccbs) → IsCcbs t b → IsSettled t.events
settled_of t b is = settled-legal t.rules t.config t.events is.legal

row_of : (t : Transport) (b : Ccbs) (n : ℕ) → IsCcbs t b → get_or b.rows.rows n None ≡ alive_ccb t.events n
row_of t b n is = ap (λ rs. get_or rs n None) is.rows ∙ get_or-rows t.events n

-- what a row says
abbrev pub is_row_recovering : Option Ccb → Bool
is_row_recovering row = is_some_and (λ (r : Ccb). r.recovering) row

flag_cases : (f : Ccb → Bool) (q : Bool) (a : Bool) (n : ℕ) (es : List Event) (o : Option Submission) → ((s : Submission) → f (ccb_by es n s) ≡ q) → (q ≡ true → (a ≡ true) × (is_some o ≡ true)) →
    is_some_and f (cond a (option_map (ccb_by es n) o) None) ≡ q
flag_cases f q true n es (Some s) is held = is s
flag_cases f true true n es None is held = let some = (held refl).1 in absurd (cc)
flag_cases f false true n es None is held = refl
flag_cases f true false n es o is held = let lives = (held refl).0 in absurd (cc)
flag_cases f false false n es o is held = refl

submitted : (es : List Event) (n : ℕ) → nat_lt n (commands es) ≡ true → is_some (submission es n) ≡ true
submitted es n lt = rw (slice_get-get_or (submissions es) n (let s : Submission = record { driver = 0; device = 0; priority = 0; retries = 0; flags = record { qfreeze = false; qfrzdis = false } } in s) (ltb-true n (commands es) lt)) refl

row_in_flight : (es : List Event) (n : ℕ) → IsSettled es → is_row_in_flight (alive_ccb es n) ≡ is_in_flight es n
unfolding alive_ccb
row_in_flight es n h =
    flag_cases (λ (r : Ccb). r.in_flight) (is_in_flight es n) (is_alive es n) n es (submission es n) (λ s. refl)
    (λ flies. let held = in_flight_held es n (h.states.placed n) flies in (held.1, submitted es n held.0))

row_recovering : (es : List Event) (n : ℕ) → IsSettled es → is_row_recovering (alive_ccb es n) ≡ is_recovering es n
unfolding alive_ccb
row_recovering es n h =
    flag_cases (λ (r : Ccb). r.recovering) (is_recovering es n) (is_alive es n) n es (submission es n) (λ s. refl)
    (λ recovers. let held = recovering_held es n (h.states.placed n) recovers in (held.1, submitted es n held.0))

-- the class of a row is that of the CCB's last result
class_cases : (es : List Event) (n : ℕ) (a : Bool) (o : Option Submission) → submission es n ≡ o → (o ≡ None → last_result es n ≡ None) →
    option_and_then class_of_row (cond a (option_map (ccb_by es n) o) None) ≡ cond a (last_class es n) None
class_cases es n true None is none = rw (none refl) refl
class_cases es n true (Some s) is none = rw is refl
class_cases es n false o is none = refl

no_result : (es : List Event) (n : ℕ) → IsSettled es → submission es n ≡ None → last_result es n ≡ None
no_result es n h is = elim (cases_lt n (commands es)) [
  | inl lt ↦ let some = slice_get-get_or (submissions es) n (let s : Submission = record { driver = 0; device = 0; priority = 0; retries = 0; flags = record { qfreeze = false; qfrzdis = false } } in s) lt in absurd (cc)
  | inr le ↦ ap (λ (r : Ccb). r.outcome) (h.row n (record { driver = 0; device = 0; priority = 0; retries = 0; flags = record { qfreeze = false; qfrzdis = false } }) le)
]

row_class : (es : List Event) (n : ℕ) → IsSettled es → option_and_then class_of_row (alive_ccb es n) ≡ cond (is_alive es n) (last_class es n) None
unfolding alive_ccb
row_class es n h = class_cases es n (is_alive es n) (submission es n) refl (λ is. no_result es n h is)

asks_cases : (asks : class.Class → Bool) (f : Outcome → class.Class) (a : Bool) (o : Option Outcome) → is_some_and asks (cond a (option_map f o) None) ≡ (a && is_some_and (λ r. asks (f r)) o)
asks_cases asks f true None = refl
asks_cases asks f true (Some r) = refl
asks_cases asks f false o = refl

pub requeue_wanted : (es : List Event) (n : ℕ) (o : Option class.Class) → o ≡ cond (is_alive es n) (last_class es n) None → is_some_and asks_requeue o ≡ (is_alive es n && wants_requeue es n)
unfolding wants_requeue
requeue_wanted es n o is = ap (is_some_and asks_requeue) is ∙ asks_cases asks_requeue (λ r. classify r (counted_requeues es n) (retries_of es n)) (is_alive es n) (last_result es n)

pub finish_wanted : (es : List Event) (n : ℕ) (o : Option class.Class) → o ≡ cond (is_alive es n) (last_class es n) None → is_some_and asks_finish o ≡ (is_alive es n && wants_finish es n)
unfolding wants_finish
finish_wanted es n o is = ap (is_some_and asks_finish) is ∙ asks_cases asks_finish (λ r. classify r (counted_requeues es n) (retries_of es n)) (is_alive es n) (last_result es n)

-- the counts
some_cases : (a : Bool) (n : ℕ) (es : List Event) (o : Option Submission) → is_some o ≡ true → is_some (cond a (option_map (ccb_by es n) o) None) ≡ a
some_cases true n es (Some s) h = refl
some_cases true n es None h = absurd (cc)
some_cases false n es o h = refl

row_alive : (es : List Event) (n : ℕ) → n < commands es → is_some (alive_ccb es n) ≡ is_alive es n
unfolding alive_ccb
row_alive es n lt = some_cases (is_alive es n) n es (submission es n) (submitted es n (lt-ltb n (commands es) lt))

alive_rows : (es : List Event) → count_by is_some (rows es) ≡ alive es
unfolding rows alive
alive_rows es = count_by-range is_some (alive_ccb es) (λ n. is_alive es n) 0 (commands es) (λ n le lt. row_alive es n (omega arith))

flying_rows : (es : List Event) → IsSettled es → count_by is_row_in_flight (rows es) ≡ count_by (is_in_flight es) (ccbs es)
unfolding rows
flying_rows es h = count_by-range is_row_in_flight (alive_ccb es) (is_in_flight es) 0 (commands es) (λ n le lt. row_in_flight es n h)

pub length_cases : (es : List Event) → IsSettled es → length (cases es) ≡ count_by (is_recovering es) (ccbs es)
length_cases es h =
    length-by_number (commands es) (cases es)
    (All-from_get_or (λ n. n < commands es) (cases es) 0 (λ i lt. ltb-true _ _ (recovering_held es (get_or (cases es) i 0) (h.states.placed (get_or (cases es) i 0)) (case_recovers es i 0 lt)).0))
    ∙ sum_by-same (λ n. times n (cases es)) (λ n. cond {A = ℕ} (is_recovering es n) 1 0) (ccbs es) (count_cases es)

-- each of the cases
pub each_recovers : (es : List Event) (ks : List ℕ) (i : ℕ) → ((i d : ℕ) → i < length ks → is_recovering es (get_or ks i d) ≡ true) → IfSome (slice_get ks i) (λ n. IsTrue (is_recovering es n))
each_recovers es [] i h = tt
each_recovers es (k ∷ ks) zero h = h 0 0 (omega arith)
each_recovers es (k ∷ ks) (suc i) h = each_recovers es ks i (λ j d lt. h (suc j) d (omega arith))

-- what a legal submit finds
record FindsRoom (rules : Rules) (es : List Event) : Type 0 where
  pub ccb : has_ccb rules es ≡ true
  pub stay : has_stay rules es ≡ true

submit_room : (rules : Rules) (c : Topology) (es : List Event) (e : Event) (s : Submission) → submission_of e ≡ Some s → is_legal_event rules c (es, e) ≡ true → FindsRoom rules es
submit_room rules c es (Submit driver device priority retries flags) s is legal =
    let asked = (allowed-legal_event rules c es (Submit driver device priority retries flags) legal).1 in
    let named = names_device c device && nat_le priority MAX_PRIORITY && nat_le retries MAX_RETRIES in
    let one = and_parts (named && has_ccb rules es) (has_stay rules es) asked in
    record { ccb = (and_parts named (has_ccb rules es) one.0).1; stay = one.1 }
submit_room rules c es _ s is legal = absurd (cc)

few_alive : (es : List Event) → alive es ≤ commands es
unfolding alive
few_alive es = omega (arith, count_by-le-length (λ ccb. not (list_any (ends ccb) es)) (ccbs es), length-range_with_len 0 (commands es))

room_alive : (o : Option ℕ) (n stays : ℕ) → n < stays → option_map_or (λ most. nat_lt n most) o true ≡ true → n < option_map_or (λ most. most) o stays
room_alive None n stays lt h = lt
room_alive (Some most) n stays lt h = ltb-true n most h

module _ (t : Transport) (b : Ccbs) (is : IsCcbs t b) (e : Event) (legal : is_legal_event t.rules t.config (t.events, e) ≡ true) where
  rows_many : length b.rows.rows ≡ commands t.events
  rows_many = ap length is.rows ∙ length-rows t.events

  submit_alive : (o : Option Submission) → submission_of e ≡ o → IfSome o (λ _. count_by is_some b.rows.rows < b.rows.slots)
  submit_alive None at = tt
  submit_alive (Some s) at =
      let room = submit_room t.rules t.config t.events e s at legal in
      let stay = ltb-true (length (stays_begun t.events)) t.rules.stays room.stay in
      let lt = room_alive t.rules.ccbs (alive t.events) t.rules.stays (omega (arith, stay, few_alive t.events, commands-stays t.events)) room.ccb in
      omega (arith, lt, is.slots, ap (count_by is_some) is.rows, alive_rows t.events)

  submit_stay : (o : Option Submission) → submission_of e ≡ o → IfSome o (λ _. length b.rows.rows < b.rows.room)
  submit_stay None at = tt
  submit_stay (Some s) at =
      let stay = ltb-true (length (stays_begun t.events)) t.rules.stays (submit_room t.rules t.config t.events e s at legal).stay in
      omega (arith, stay, rows_many, commands-stays t.events, is.row_room)

  can-update : CanUpdate e b.rows
  can-update =
      let short = (allowed-legal_event t.rules t.config t.events e legal).0 in
      record {
        small = subst (All IsSmall) (sym is.rows) (small_rows t.events (omega (arith, short, is.within.events)));
        alive = submit_alive (submission_of e) refl;
        room = submit_stay (submission_of e) refl;
      }

-- the rows after a legal event
updated_cases : (es : List Event) (e : Event) (o : Option ℕ) → ccb_of e ≡ o → submission_of e ≡ None → rows (es ++ e ∷ []) ≡ option_map_or (updated_at e (rows es)) o (rows es)
updated_cases es e None is none = rows-same es e none (λ n lt. concerns-none e n is)
updated_cases es e (Some n) is none = rows-updated es e n none is

rows_cases : (es : List Event) (e : Event) (o : Option Submission) → submission_of e ≡ o → IsSettled es →
    rows (es ++ e ∷ []) ≡ option_map_or (λ s. rows es ++ Some (fresh s) ∷ []) o (option_map_or (updated_at e (rows es)) (ccb_of e) (rows es))
rows_cases es e None is h = updated_cases es e (ccb_of e) refl is
rows_cases es e (Some s) is h = rows-submit es e s is (h.row (commands es) s (omega arith)) (h.states.lives (commands es) (omega arith))

-- one legal event more
pub ccbs-push : (t t' : Transport) (b b' : Ccbs) (e : Event) → IsCcbs t b → is_legal_event t.rules t.config (t.events, e) ≡ true → t' ≡ record t { events = t.events ++ e ∷ [] } →
    b'.rows ≡ record b.rows { rows = updated e b.rows.rows } → b'.cases.items ≡ decided e b.cases.items → vec_capacity b'.cases ≡ vec_capacity b.cases → IsCcbs t' b'
ccbs-push t t' b b' e is legal ea er ec room =
    let es = t.events in
    let rules : t'.rules ≡ t.rules = ap (λ (t : Transport). t.rules) ea in
    record {
      within = rw rules is.within;
      legal = ap (λ (t : Transport). is_legal t.rules t.config t.events) ea ∙ legal-push t.rules t.config es e is.legal legal;
      rows = ap (λ (r : RowTable). r.rows) er ∙ ap (updated e) is.rows ∙ sym (rows_cases es e (submission_of e) refl (settled_of t b is)) ∙ ap (λ (t : Transport). rows t.events) (sym ea);
      cases = ec ∙ ap (decided e) is.cases ∙ sym (cases-decided t.rules t.config es is.legal e legal) ∙ ap (λ (t : Transport). cases t.events) (sym ea);
      slots = ap (λ (r : RowTable). r.slots) er ∙ is.slots ∙ ap max_alive (sym rules);
      row_room = rw (rules, ap (λ (r : RowTable). r.room) er) is.row_room;
      case_room = rw (rules, room) is.case_room;
    }

-- none of them
none-rows : rows [] ≡ []
unfolding rows submissions
none-rows = refl

none-cases : cases [] ≡ []
unfolding cases failures
none-cases = refl

pub ccbs-open : (t : Transport) (b : Ccbs) (rules : Rules) (c : Topology) → IsWithinHistory rules → t ≡ record { config = c; rules = rules; events = [] } → b.rows ≡ record { rows = []; slots = max_alive rules; room = rules.stays } →
    b.cases.items ≡ [] → rules.stays < vec_capacity b.cases → IsCcbs t b
ccbs-open t b rules c within ea er ec room =
    let same-rules : t.rules ≡ rules = ap (λ (x : Transport). x.rules) ea in
    record {
      within = rw ea within;
      legal = rw ea (none_legal rules c);
      rows = ap (λ (r : RowTable). r.rows) er ∙ sym none-rows ∙ ap (λ (x : Transport). rows x.events) (sym ea);
      cases = ec ∙ sym none-cases ∙ ap (λ (x : Transport). cases x.events) (sym ea);
      slots = ap (λ (r : RowTable). r.slots) er ∙ ap max_alive (sym same-rules);
      row_room = omega (arith, ap (λ (r : RowTable). r.room) er, ap (λ (r : Rules). r.stays) same-rules);
      case_room = omega (arith, room, ap (λ (r : Rules). r.stays) same-rules);
    }

-- a CCB that is recovering is alive
pub recovering_lives : (rules : Rules) (c : Topology) (es : List Event) (n : ℕ) → is_legal rules c es ≡ true → is_recovering es n ≡ true → is_alive es n ≡ true
recovering_lives rules c es n legal recovers = (recovering_held es n ((states-legal rules c es legal).placed n) recovers).1

-- the questions of a transport
module _ (q : Transport) (b : Ccbs) (is : IsCcbs q b) (t : Transport) (same : q ≡ t) where
  pub ccb_in : (n : ℕ) → get_or b.rows.rows n None ≡ alive_ccb t.events n
  ccb_in n = row_of q b n is ∙ ap (λ (x : Transport). alive_ccb x.events n) same

  pub in_flight_in : (n : ℕ) → is_row_in_flight (get_or b.rows.rows n None) ≡ is_in_flight t.events n
  in_flight_in n = ap is_row_in_flight (row_of q b n is) ∙ row_in_flight q.events n (settled_of q b is) ∙ ap (λ (x : Transport). is_in_flight x.events n) same

  pub recovering_in : (n : ℕ) → is_row_recovering (get_or b.rows.rows n None) ≡ is_recovering t.events n
  recovering_in n = ap is_row_recovering (row_of q b n is) ∙ row_recovering q.events n (settled_of q b is) ∙ ap (λ (x : Transport). is_recovering x.events n) same

  pub class_in : (n : ℕ) → option_and_then class_of_row (get_or b.rows.rows n None) ≡ cond (is_alive t.events n) (last_class t.events n) None
  class_in n =
      ap (option_and_then class_of_row) (row_of q b n is) ∙ row_class q.events n (settled_of q b is)
      ∙ ap (λ (x : Transport). cond (is_alive x.events n) (last_class x.events n) None) same

  pub alive_in : count_by is_some b.rows.rows ≡ alive t.events
  alive_in = ap (count_by is_some) is.rows ∙ alive_rows q.events ∙ ap (λ (x : Transport). alive x.events) same

  pub flying_in : count_by is_row_in_flight b.rows.rows ≡ count_by (is_in_flight t.events) (ccbs t.events)
  flying_in =
      ap (count_by is_row_in_flight) is.rows ∙ flying_rows q.events (settled_of q b is)
      ∙ ap (λ (x : Transport). count_by (is_in_flight x.events) (ccbs x.events)) same

  pub cases_in : length b.cases.items ≡ count_by (is_recovering t.events) (ccbs t.events)
  cases_in = ap length is.cases ∙ length_cases q.events (settled_of q b is) ∙ ap (λ (x : Transport). count_by (is_recovering x.events) (ccbs x.events)) same

  pub case_in : (i : ℕ) → slice_get b.cases.items i ≡ slice_get (cases t.events) i
  case_in i = ap (λ ks. slice_get ks i) is.cases ∙ ap (λ (x : Transport). slice_get (cases x.events) i) same

  pub nth_recovers : (i : ℕ) (o : Option ℕ) → o ≡ slice_get b.cases.items i → IfSome o (λ n. IsTrue (is_recovering t.events n))
  nth_recovers i o at = subst (λ k. IfSome k (λ n. IsTrue (is_recovering t.events n))) (sym (at ∙ case_in i)) (each_recovers t.events (cases t.events) i (case_recovers t.events))

  -- what the event finds
  module _ (e : Event) (legal : is_legal_event t.rules t.config (t.events, e) ≡ true) where
    pub legal_here : is_legal_event q.rules q.config (q.events, e) ≡ true
    legal_here = ap (λ (x : Transport). is_legal_event x.rules x.config (x.events, e)) same ∙ legal

    pub can_update : CanUpdate e b.rows
    can_update = can-update q b is e legal_here

  -- an event finds room for the case that it makes
  pub room_for_case : vec_len b.cases < vec_capacity b.cases
  room_for_case =
      omega (
        arith,
        b.cases.ok.0,
        ap length is.cases,
        length_cases q.events (settled_of q b is),
        count_by-le-length (is_recovering q.events) (ccbs q.events),
        length-range_with_len 0 (commands q.events),
        commands-stays q.events,
        stays-legal q.rules q.config q.events is.legal,
        is.case_room,
      )

  -- and there are few of them
  pub few_cases : vec_len b.cases ≤ MAX_STAYS
  few_cases =
      omega (
        arith,
        b.cases.ok.0,
        ap length is.cases,
        length_cases q.events (settled_of q b is),
        count_by-le-length (is_recovering q.events) (ccbs q.events),
        length-range_with_len 0 (commands q.events),
        commands-stays q.events,
        stays-legal q.rules q.config q.events is.legal,
        is.within.stays,
      )
