-- a driver after one event more
use Rattle.std.proofs.Common.{◌≡◌, ◌≢◌, ℕ, zero, suc, ◌+◌, ◌<◌, ◌≤◌, Bool, true, false, List, [], ◌∷◌, ◌++◌, length, refl, sym, ap, ◌∙◌, subst, arith, cond, Some, inl, inr, append-nil, ◌⊎◌, nat_lt, ◌==◌, ◌&&◌, ◌||◌, filter, take, drop, slice_get, length-append, eqb-true, eq-eqb}
use Rattle.std.specs.List.{list_all}
use Rattle.std.proofs.lemmas.Bool.{and_from, and_parts, lt-ltb, ltb-true}
use Rattle.std.proofs.lemmas.List.Folds.{list_all-append}
use Rattle.std.proofs.lemmas.List.{map-append, length-map}
use Rattle.sim_worker.specs.Words.{round, Event, Tick, rules_of, Scenario, Step, Transport, is_rising, Receipt, Rules, refusal, Topology, refused, is_tick}
use Rattle.event_rules.proofs.ListFacts.{filter_map-push}
use Rattle.event_rules.proofs.QueueLaws.{le_test, test_le}
use Rattle.event_rules.proofs.PushLaws.{round-push}
use Rattle.event_rules.proofs.TurnLaws.{round-more}
use Rattle.event_rules.proofs.TestLemmas.{list_all-weaker}
use Rattle.trace_file.specs.declared.step.Step.TheVariants as step
use Rattle.sim_worker.specs.Logs.{StandsAt, FollowsRows, IsDriverLog, LetsRest, Rests, WasRefused, act, acts, events_of, made_before}
use Rattle.sim_worker.specs.Runs.{is_over}
use Rattle.sim_worker.specs.Walks.{IsBehindPauses, IsEarlier, IsOf, IsOn, IsSettled, IsSplit, IsThrough, IsWalk, MarksRefusal, Walk}
use Rattle.event_rules.proofs.QueueLaws.{round-still}
use Rattle.sim_worker.specs.Logs.{is_of_rules, HasDoneAll}
use Rattle.xpt_lock.specs.declared.seat.SeatName.TheVariants as names
use Rattle.sim_worker.proofs.ListFacts.{take_and_drop}
use Rattle.sim_worker.proofs.RunListFacts.{some_is, take_one, all_at, there_is, get_there, get_pushed, take_front, take_whole, less_or_not}

-- ---- places of receipts

rising_at : (log : List Receipt) (i j : ℕ) (a b : Receipt) → is_rising log ≡ true → slice_get log i ≡ Some a → slice_get log j ≡ Some b → i < j → a.at < b.at
rising_at [] i j a b h ia jb lt = absurd (cc)
rising_at (r ∷ rs) i zero a b h ia jb lt = absurd (omega arith)
rising_at (r ∷ rs) zero (suc j) a b h ia jb lt =
    let front = (and_parts (list_all (λ (later : Receipt). nat_lt r.at later.at) rs) (is_rising rs) h).0 in
    let same : r ≡ a = some_is r a ia in
    ltb-true a.at b.at (ap (λ (x : Receipt). nat_lt x.at b.at) (sym same) ∙ all_at (λ (later : Receipt). nat_lt r.at later.at) rs j b front jb)
rising_at (r ∷ rs) (suc i) (suc j) a b h ia jb lt = rising_at rs i j a b (and_parts (list_all (λ (later : Receipt). nat_lt r.at later.at) rs) (is_rising rs) h).1 ia jb (omega arith)

split_rest : (place m : ℕ) (r : Receipt) (rs : List Receipt) → IsSplit place (suc m) (r ∷ rs) → IsSplit place m rs
split_rest place m r rs h = λ j x at. let both = h (suc j) x at in (λ lt. both.0 (omega arith), λ lt. let back = both.1 lt in omega arith)

split_none : (place : ℕ) (r : Receipt) (rs : List Receipt) → IsSplit place 0 (r ∷ rs) → IsSplit place 0 rs
split_none place r rs h = λ j x at. let both = h (suc j) x at in (λ lt. absurd (omega arith), λ lt. absurd (let back = both.1 lt in omega arith))

pub split_filter : (place m : ℕ) (log : List Receipt) → IsSplit place m log → m ≤ length log → filter (λ (r : Receipt). nat_lt r.at place) log ≡ take m log
split_filter place zero [] h le = refl
split_filter place (suc m) [] h le = absurd (omega arith)
split_filter place zero (r ∷ rs) h le =
    let late : nat_lt r.at place ≡ false = not_before place r (λ lt. let back = (h 0 r refl).1 lt in omega arith) in
    rw late (split_filter place zero rs (split_none place r rs h) (omega arith))
  where
    not_before : (place : ℕ) (r : Receipt) → (r.at < place → ⊥) → nat_lt r.at place ≡ false
    not_before place r never = elim (nat_lt r.at place) as (λ b. nat_lt r.at place ≡ b → b ≡ false) [ true ↦ λ is. absurd (never (ltb-true r.at place is)) | false ↦ λ is. refl ] refl
split_filter place (suc m) (r ∷ rs) h le =
    let early : nat_lt r.at place ≡ true = lt-ltb r.at place ((h 0 r refl).0 (omega arith)) in
    rw early (ap (λ xs. r ∷ xs) (split_filter place m rs (split_rest place m r rs h) (omega arith)))

-- the receipt at a place from the m-th on, where the m-th is there
from_here : (log : List Receipt) (m j : ℕ) (r x : Receipt) → is_rising log ≡ true → slice_get log m ≡ Some r → slice_get log j ≡ Some x → m ≤ j → (x ≡ r) ⊎ (r.at < x.at)
from_here log m j r x rising here there le = elim (less_or_not m j) [
  | inl less ↦ inr (rising_at log m j r x rising here there less)
  | inr rest ↦ let same : j ≡ m = omega arith in inl (some_is x r (sym there ∙ ap (slice_get log) same ∙ here))
]

-- the receipt of the place is one more that is after it
pub split_more : (place m : ℕ) (log : List Receipt) (r : Receipt) → is_rising log ≡ true → IsSplit place m log → slice_get log m ≡ Some r → r.at ≡ place → IsSplit (place + 1) (m + 1) log
split_more place m log r rising h here at = λ j x there. (
  λ lt. elim (less_or_not j m) [
    | inl less ↦ let early = (h j x there).0 less in omega arith
    | inr rest ↦ let same : j ≡ m = omega arith in let is = some_is r x (sym here ∙ ap (slice_get log) (sym same) ∙ there) in omega (arith, ap (λ (y : Receipt). y.at) is, at)
  ],
  λ lt. elim (less_or_not j (m + 1)) [
    | inl less ↦ less
    | inr more ↦ absurd (let later = rising_at log m j r x rising here there (omega arith) in omega arith)
  ],
)

-- none is, where the next is of a later place
pub split_still : (place m : ℕ) (log : List Receipt) → is_rising log ≡ true → IsSplit place m log → ((r : Receipt) → slice_get log m ≡ Some r → r.at ≢ place) → IsSplit (place + 1) m log
split_still place m log rising h other = λ j x there. (
  λ lt. let early = (h j x there).0 lt in omega arith,
  λ lt. elim (less_or_not j m) [
    | inl less ↦ less
    | inr rest ↦ absurd (late j x there rest lt)
  ],
)
  where
    not_less_is : (a b : ℕ) → (a < b → ⊥) → a < b + 1 → a ≡ b
    not_less_is a b never lt = elim (less_or_not a b) [ inl less ↦ absurd (never less) | inr more ↦ omega arith ]

    late : (j : ℕ) (x : Receipt) → slice_get log j ≡ Some x → m ≤ j → x.at < place + 1 → ⊥
    late j x there le lt =
        let next = get_there log m (omega (arith, there_is log j x there)) in
        let not_early : next.0.at < place → ⊥ = λ early. let back = (h m next.0 next.1).1 early in omega arith in
        elim (from_here log m j next.0 x rising next.1 there le) [
          | inl same ↦ other next.0 next.1 (let at = ap (λ (y : Receipt). y.at) same in not_less_is next.0.at place not_early (omega arith))
          | inr more ↦ not_early (omega arith)
        ]

-- ---- rows

-- a pause that is over stays so
over_later : (now later : ℕ) → now ≤ later → (one : Step) → is_over now one ≡ true → is_over later one ≡ true
over_later now later le (step.Pause n) h = le_test n later (let reached = test_le n now h in omega arith)
over_later now later le (step.Act e) h = refl

pub stands_later : (steps : List Step) (made : List Event) (now later row : ℕ) → now ≤ later → StandsAt steps made now row → StandsAt steps made later row
stands_later steps made now later row le h = record {
  within = h.within;
  made = h.made;
  over = list_all-weaker (is_over now) (is_over later) (take row steps) (over_later now later le) h.over;
}

-- a pause that is over is passed
pub stands_behind_pause : (steps : List Step) (made : List Event) (now row n : ℕ) → slice_get steps row ≡ Some (step.Pause n) → n ≤ now → StandsAt steps made now row → StandsAt steps made now (row + 1)
stands_behind_pause steps made now row n there over h =
    let more = take_one steps row (step.Pause n) there in
    record {
      within = omega (arith, more.0);
      made = h.made ∙ sym (ap acts more.1 ∙ filter_map-push act (take row steps) (step.Pause n) ∙ append-nil (acts (take row steps)));
      over = ap (list_all (is_over now)) more.1 ∙ list_all-append (is_over now) (take row steps) (step.Pause n ∷ []) ∙ and_from _ _ h.over (and_from _ _ (le_test n now over) refl);
    }

-- the event of the row is made
stands_behind_act : (steps : List Step) (made : List Event) (now row : ℕ) (e : Event) → slice_get steps row ≡ Some (step.Act e) → StandsAt steps made now row → StandsAt steps (made ++ e ∷ []) now (row + 1)
stands_behind_act steps made now row e there h =
    let more = take_one steps row (step.Act e) there in
    record {
      within = omega (arith, more.0);
      made = ap (λ front. front ++ e ∷ []) h.made ∙ sym (ap acts more.1 ∙ filter_map-push act (take row steps) (step.Act e));
      over = ap (list_all (is_over now)) more.1 ∙ list_all-append (is_over now) (take row steps) (step.Act e ∷ []) ∙ and_from _ _ h.over refl;
    }

-- ---- walks

-- what a log followed before, it follows with an event more
follows_before : (steps : List Step) (log : List Receipt) (before : List Event) (e : Event) → FollowsRows steps log before → (j : ℕ) (r : Receipt) → slice_get log j ≡ Some r → r.at < length before →
    (row : ℕ) × StandsAt steps (made_before r.at log) (round (take r.at (before ++ e ∷ []))) row × (slice_get steps row ≡ Some (step.Act r.event))
follows_before steps log before e h j r at lt =
    let known = h j r at lt in
    (known.0, subst (λ es. StandsAt steps (made_before r.at log) (round es) known.0) (sym (take_front before (e ∷ []) r.at (omega arith))) known.1, known.2)

-- what the walk's transport would answer now
refused_now : (s : Scenario) (t : Transport) (e : Event) → IsOf s t → is_of_rules (refused t e) ≡ is_of_rules (refusal (rules_of s.limits) s.config t.events e)
refused_now s t e of = ap (λ (r : Rules). is_of_rules (refusal r t.config t.events e)) of.1 ∙ ap (λ (c : Topology). is_of_rules (refusal (rules_of s.limits) c t.events e)) of.0

refused_here : (s : Scenario) (t : Transport) (log : List Receipt) (e : Event) → IsOf s t → is_of_rules (refused t e) ≡ true → WasRefused s log t.events e
refused_here s t log e of h =
    let whole : take (length t.events) t.events ≡ t.events = take_whole t.events (length t.events) (omega arith) in
    record {
      place = length t.events;
      within = omega arith;
      same_round = ap round whole;
      same_calls = refl;
      refused = ap (λ es. is_of_rules (refusal (rules_of s.limits) s.config es e)) whole ∙ sym (refused_now s t e of) ∙ h;
    }

either_mark : (a b : Bool) → (a || b) ≡ true → (a ≡ true) ⊎ (b ≡ true)
either_mark true b h = inl refl
either_mark false b h = inr h

mark_right : (a b : Bool) → b ≡ true → (a || b) ≡ true
mark_right true b h = refl
mark_right false b h = h

mark_left : (a b : Bool) → a ≡ true → (a || b) ≡ true
mark_left true b h = refl
mark_left false b h = absurd (cc)

both_marks : (a b : Bool) → a ≡ true → b ≡ true → (a && b) ≡ true
both_marks true true h k = refl
both_marks _ _ h k = absurd (cc)

-- after the pauses that are over, and marked where the event of the row is refused now
pub walk_settled : (s : Scenario) (t : Transport) (steps : List Step) (log : List Receipt) (w : Walk) (row : ℕ) (now : Bool) → ((events : List Event) → StandsAt steps events (round t.events) w.row → StandsAt steps events (round t.events) row) →
    IsBehindPauses steps (round t.events) row → (IsBehindPauses steps (round t.events) w.row → row ≡ w.row) → ((e : Event) → slice_get steps row ≡ Some (step.Act e) → now ≡ is_of_rules (refused t e)) → IsOf s t → IsWalk s steps log t.events w →
    IsSettled s steps log t.events (record { row = row; made = w.made; refused = (row == w.row && w.refused) || now })
walk_settled s t steps log w row now moves behind stays known of h = record {
  walk = record {
    within = h.within;
    split = h.split;
    stands = moves _ h.stands;
    refused = λ is e there. elim (either_mark (row == w.row && w.refused) now is) [
      | inl kept ↦
          let parts = and_parts (row == w.row) w.refused kept in
          h.refused parts.1 e (ap (slice_get steps) (sym (eqb-true row w.row parts.0)) ∙ there)
      | inr new ↦ refused_here s t log e of (sym (known e there) ∙ new)
    ];
    marked = λ place early. (
      behind,
      λ e there stated.
          let kept = h.marked place early in
          let same : row ≡ w.row = stays kept.0 in
          mark_left _ now (both_marks _ _ (eq-eqb row w.row same) (kept.1 e (ap (slice_get steps) (sym same) ∙ there) stated)),
    );
  };
  behind = behind;
  now = λ e there stated. mark_right (row == w.row && w.refused) now (known e there ∙ refused_now s t e of ∙ stated);
}

one_longer : (before : List Event) (e : Event) → length (before ++ e ∷ []) ≡ length before + 1
one_longer before e = length-append before (e ∷ [])

same_split : (before : List Event) (e : Event) (m : ℕ) (log : List Receipt) → IsSplit (length before + 1) m log → IsSplit (length (before ++ e ∷ [])) m log
same_split before e m log h = subst (λ n. IsSplit n m log) (sym (one_longer before e)) h

made_is : (place m : ℕ) (log : List Receipt) → IsSplit place m log → m ≤ length log → made_before place log ≡ events_of (take m log)
made_is place m log h le = ap events_of (split_filter place m log h le)

-- what was refused in the round stays so while no round opens, and the driver makes no call
refused_later : (s : Scenario) (log : List Receipt) (before : List Event) (e x : Event) → is_tick e ≡ false → made_before (length (before ++ e ∷ [])) log ≡ made_before (length before) log → WasRefused s log before x → WasRefused s log (before ++ e ∷ []) x
refused_later s log before e x still same h =
    let front : take h.place (before ++ e ∷ []) ≡ take h.place before = take_front before (e ∷ []) h.place h.within in
    record {
      place = h.place;
      within = omega (arith, h.within, one_longer before e);
      same_round = ap round front ∙ h.same_round ∙ sym (round-still before e still);
      same_calls = h.same_calls ∙ sym same;
      refused = ap (λ es. is_of_rules (refusal (rules_of s.limits) s.config es x)) front ∙ h.refused;
    }

-- a round that opens is later than that of any place before it
no_tick_between : (before : List Event) (e : Event) (place : ℕ) → place ≤ length before → round (take place (before ++ e ∷ [])) ≡ round (before ++ e ∷ []) → is_tick e ≡ false
no_tick_between before e place le same = elim (is_tick e) as (λ b. is_tick e ≡ b → b ≡ false) [
  | true ↦ λ tick. absurd (
      let front : take place (before ++ e ∷ []) ≡ take place before = take_front before (e ∷ []) place le in
      let more : round (take place before) ≤ round before = subst (λ es. round (take place before) ≤ round es) (take_and_drop before place) (round-more (take place before) (drop place before)) in
      let opens : round (before ++ e ∷ []) ≡ round before + 1 = round-push before e ∙ ap (λ b. round before + cond {A = ℕ} b 1 0) tick in
      omega (arith, ap round front, more, opens, same))
  | false ↦ λ still. refl
] refl

-- the marks of a settled driver hold after an event that isn't its own
marked_beside : (s : Scenario) (steps : List Step) (log : List Receipt) (before : List Event) (e : Event) (w : Walk) (b : Bool) → made_before (length (before ++ e ∷ [])) log ≡ made_before (length before) log → (w.refused ≡ true → is_tick e ≡ false → b ≡ true) →
    IsSettled s steps log before w → (place : ℕ) → IsEarlier log (before ++ e ∷ []) place → IsBehindPauses steps (round (before ++ e ∷ [])) w.row × MarksRefusal s steps (take place (before ++ e ∷ [])) (record { row = w.row; made = w.made; refused = b })
marked_beside s steps log before e w b same keeps h place early =
    let le : place ≤ length before = omega (arith, early.less, one_longer before e) in
    let still = no_tick_between before e place le early.same_round in
    let now : round (before ++ e ∷ []) ≡ round before = round-still before e still in
    let front : take place (before ++ e ∷ []) ≡ take place before = take_front before (e ∷ []) place le in (
      subst (λ n. IsBehindPauses steps n w.row) (sym now) h.behind,
      λ x there stated. keeps (elim (less_or_not place (length before)) [
        | inl less ↦ (h.walk.marked place (record { less = less; same_round = ap round (sym front) ∙ early.same_round ∙ now; same_calls = early.same_calls ∙ same })).1 x there (ap (λ es. is_of_rules (refusal (rules_of s.limits) s.config es x)) (sym front) ∙ stated)
        | inr last ↦
            let whole : take place before ≡ before = take_whole before place last in
            h.now x there (ap (λ es. is_of_rules (refusal (rules_of s.limits) s.config es x)) (sym (front ∙ whole)) ∙ stated)
      ]) still,
    )

-- the event isn't of the driver's log
pub walk_beside : (s : Scenario) (steps : List Step) (log : List Receipt) (before : List Event) (e : Event) (w : Walk) (b : Bool) → is_rising log ≡ true → ((r : Receipt) → slice_get log w.made ≡ Some r → r.at ≢ length before) → (b ≡ true → (w.refused ≡ true) × (is_tick e ≡ false)) → (w.refused ≡ true → is_tick e ≡ false → b ≡ true) →
    IsSettled s steps log before w → FollowsRows steps log before → IsWalk s steps log (before ++ e ∷ []) (record { row = w.row; made = w.made; refused = b }) × FollowsRows steps log (before ++ e ∷ [])
walk_beside s steps log before e w b rising other keeps marks settled follows =
    let h = settled.walk in
    let split = split_still (length before) w.made log rising h.split other in
    let later = same_split before e w.made log split in
    let same : made_before (length (before ++ e ∷ [])) log ≡ made_before (length before) log = made_is _ w.made log later h.within ∙ sym (made_is _ w.made log h.split h.within) in (
      record {
        within = h.within;
        split = later;
        stands = subst (λ es. StandsAt steps es (round (before ++ e ∷ [])) w.row) (sym same) (stands_later steps _ (round before) (round (before ++ e ∷ [])) w.row (round-more before (e ∷ [])) h.stands);
        refused = λ is x there. refused_later s log before e x (keeps is).1 same (h.refused (keeps is).0 x there);
        marked = marked_beside s steps log before e w b same marks settled;
      },
      λ j r at lt. follows_before steps log before e follows j r at (elim (less_or_not r.at (length before)) [
        | inl less ↦ less
        | inr more ↦ let back = (split j r at).1 (omega (arith, one_longer before e, lt)) in (h.split j r at).0 back
      ]),
    )

-- no more calls were made before an earlier place
few_made : (log : List Receipt) (a b : ℕ) → a ≤ b → length (made_before a log) ≤ length (made_before b log)
few_made [] a b le = omega arith
few_made (r ∷ rs) a b le = elim (nat_lt r.at a) as (λ x. nat_lt r.at a ≡ x → length (events_of (cond {A = List Receipt} x (r ∷ filter (λ (y : Receipt). nat_lt y.at a) rs) (filter (λ (y : Receipt). nat_lt y.at a) rs))) ≤ length (made_before b (r ∷ rs))) [
  | true ↦ λ is.
      let later : nat_lt r.at b ≡ true = lt-ltb r.at b (let lt = ltb-true r.at a is in omega arith) in
      rw later (omega (arith, few_made rs a b le))
  | false ↦ λ is. elim (nat_lt r.at b) as (λ y. length (made_before a rs) ≤ length (events_of (cond {A = List Receipt} y (r ∷ filter (λ (z : Receipt). nat_lt z.at b) rs) (filter (λ (z : Receipt). nat_lt z.at b) rs)))) [
    | true ↦ omega (arith, few_made rs a b le)
    | false ↦ few_made rs a b le
  ]
] refl

-- a call more was made since
called_since : (log : List Receipt) (place here : ℕ) → place ≤ here → (all : List Event) (e : Event) → all ≡ made_before here log ++ e ∷ [] → made_before place log ≡ all → ⊥
called_since log place here le all e more same =
    let few = few_made log place here le in
    let long = length-append (made_before here log) (e ∷ []) in
    omega (arith, few, long, ap (λ (es : List Event). length es) more, ap (λ (es : List Event). length es) same)

abbrev IsMade : Scenario → List Step → List Receipt → List Event → Event → ℕ → ℕ → Type 0
IsMade s steps log before e row made = IsWalk s steps log (before ++ e ∷ []) (record { row = row; made = made; refused = false }) × FollowsRows steps log (before ++ e ∷ [])

-- the event is the next of the driver's log, and that of its row
made_here : (s : Scenario) (steps : List Step) (log : List Receipt) (before : List Event) (e : Event) (w : Walk) (r : Receipt) → is_rising log ≡ true → slice_get log w.made ≡ Some r → r.at ≡ length before → slice_get steps w.row ≡ Some (step.Act r.event) →
    IsWalk s steps log before w → FollowsRows steps log before → IsMade s steps log before e (w.row + 1) (w.made + 1)
made_here s steps log before e w r rising here at row h follows =
    let split = split_more (length before) w.made log r rising h.split here at in
    let later = same_split before e (w.made + 1) log split in
    let more = take_one log w.made r here in
    let le : w.made + 1 ≤ length log = omega (arith, more.0) in
    let front = made_is (length before) w.made log h.split h.within in
    let same : made_before (length (before ++ e ∷ [])) log ≡ made_before (length before) log ++ r.event ∷ [] =
    made_is _ (w.made + 1) log later le ∙ ap events_of more.1 ∙ map-append (λ (x : Receipt). x.event) (take w.made log) (r ∷ []) ∙ ap (λ es. es ++ r.event ∷ []) (sym front) in (
      record {
        within = le;
        split = later;
        stands = subst (λ es. StandsAt steps es (round (before ++ e ∷ [])) (w.row + 1)) (sym same) (stands_later steps _ (round before) (round (before ++ e ∷ [])) (w.row + 1) (round-more before (e ∷ [])) (stands_behind_act steps _ (round before) w.row r.event row h.stands));
        refused = λ is. absurd (no is);
        marked = λ place early. absurd (called_since log place (length before) (omega (arith, early.less, one_longer before e)) (made_before (length (before ++ e ∷ [])) log) r.event same early.same_calls);
      },
      λ j x there lt. elim (less_or_not x.at (length before)) [
        | inl less ↦ follows_before steps log before e follows j x there less
        | inr last ↦
            let place : x.at ≡ length before = omega (arith, one_longer before e, lt) in
            let back : j < w.made + 1 = (split j x there).1 (omega arith) in
            let not_early : j < w.made → ⊥ = λ early. let less = (h.split j x there).0 early in omega arith in
            let is : j ≡ w.made = elim (less_or_not j w.made) [ inl less ↦ absurd (not_early less) | inr ge ↦ omega arith ] in
            let same_r : r ≡ x = some_is r x (sym here ∙ ap (slice_get log) (sym is) ∙ there) in
            let prefix : take x.at (before ++ e ∷ []) ≡ before = ap (λ n. take n (before ++ e ∷ [])) place ∙ take_front before (e ∷ []) (length before) (omega arith) ∙ take_whole before (length before) (omega arith) in (
              w.row,
              subst (λ n. StandsAt steps (made_before n log) (round (take x.at (before ++ e ∷ []))) w.row) (sym place) (subst (λ es. StandsAt steps (made_before (length before) log) (round es) w.row) (sym prefix) h.stands),
              row ∙ ap (λ (y : Receipt). Some (step.Act y.event)) same_r,
            )
      ],
    )
  where
    no : false ≡ true → ⊥
    no is = cc

pub walk_made : (s : Scenario) (steps : List Step) (log : List Receipt) (before : List Event) (e due : Event) (w : Walk) (place row made : ℕ) → is_rising log ≡ true → place ≡ length before →
    (r : Receipt) × (slice_get log w.made ≡ Some r) × (r.at ≡ place) × (r.event ≡ due) × (made ≡ w.made + 1) → (slice_get steps w.row ≡ Some (step.Act due)) × (row ≡ w.row + 1) →
    IsWalk s steps log before w → FollowsRows steps log before → IsWalk s steps log (before ++ e ∷ []) (record { row = row; made = made; refused = false }) × FollowsRows steps log (before ++ e ∷ [])
walk_made s steps log before e due w place row made rising here found called h follows =
    let calls : slice_get steps w.row ≡ Some (step.Act found.0.event) = called.0 ∙ ap (λ (x : Event). Some (step.Act x)) (sym found.3) in
    let at : found.0.at ≡ length before = found.2 ∙ here in
    subst (λ m. IsMade s steps log before e row m) (sym found.4) (subst (λ k. IsMade s steps log before e k (w.made + 1)) (sym called.1) (made_here s steps log before e w found.0 rising found.1 at calls h follows))

-- a driver that rests where a round opens goes on following its rows
pub on_later : (s : Scenario) (steps : List Step) (log : List Receipt) (before : List Event) (e : Event) (here : Walk) → IsDriverLog s steps log before → IsWalk s steps log before here → (is_tick e ≡ true → LetsRest s log before (slice_get steps here.row)) → FollowsRows steps log (before ++ e ∷ []) →
    IsDriverLog s steps log (before ++ e ∷ [])
on_later s steps log before e here h w rests follows = record {
  follows = follows;
  rests = λ k at. elim (get_pushed before e k Tick at) [
    | inl early ↦ subst (Rests s steps log) (sym (take_front before (e ∷ []) k (let lt = there_is before k Tick early in omega arith))) (h.rests k early)
    | inr last ↦
        let prefix : take k (before ++ e ∷ []) ≡ before = ap (λ n. take n (before ++ e ∷ [])) last.0 ∙ take_front before (e ∷ []) (length before) (omega arith) ∙ take_whole before (length before) (omega arith) in
        subst (Rests s steps log) (sym prefix) (record { row = here.row; stands = w.stands; rests = rests (ap is_tick (sym last.1)) })
  ];
}

-- ---- what a walk says at the end

pub driver_is : (a b : ℕ) → names.Driver a ≡ names.Driver b → a ≡ b
driver_is a b e = cc

-- rows of which the first ask for all calls
acts_whole : (steps : List Step) (row : ℕ) → length (acts (take row steps)) ≡ length (acts steps) → acts (take row steps) ≡ acts steps
acts_whole [] zero h = refl
acts_whole [] (suc n) h = refl
acts_whole (x ∷ xs) zero h = no_more (acts (x ∷ xs)) h
  where
    no_more : (es : List Event) → 0 ≡ length es → [] ≡ es
    no_more [] h = refl
    no_more (e ∷ es) h = absurd (omega arith)
acts_whole (step.Act e ∷ xs) (suc n) h = ap (λ es. e ∷ es) (acts_whole xs n (omega arith))
acts_whole (step.Pause k ∷ xs) (suc n) h = acts_whole xs n h

-- a driver whose log has as many events as its rows ask for has done them all, if each pause is over
pub done_all : (s : Scenario) (steps : List Step) (log : List Receipt) (before : List Event) (w : Walk) → IsWalk s steps log before w → ((j : ℕ) (r : Receipt) → slice_get log j ≡ Some r → r.at < length before) →
    IsThrough steps (length log) (round before) → HasDoneAll steps log before
done_all s steps log before w h placed through =
    let made : w.made ≡ length log = elim (less_or_not w.made (length log)) [
      | inl less ↦ absurd (let next = get_there log w.made less in let early = (h.split w.made next.0 next.1).1 (placed w.made next.0 next.1) in omega arith)
      | inr ge ↦ omega (arith, h.within)
    ] in
    let all : made_before (length before) log ≡ events_of log = made_is (length before) w.made log h.split h.within ∙ ap events_of (take_whole log w.made (omega (arith, made))) in
    let front : events_of log ≡ acts (take w.row steps) = sym all ∙ h.stands.made in
    let as_many : length (acts (take w.row steps)) ≡ length (acts steps) = ap length (sym front) ∙ length-map log (λ (r : Receipt). r.event) ∙ through.0 in
    let whole : take (length steps) steps ≡ steps = take_whole steps (length steps) (omega arith) in
    record {
      within = omega arith;
      made = front ∙ acts_whole steps w.row as_many ∙ ap acts (sym whole);
      over = ap (list_all (is_over (round before))) whole ∙ through.1;
    }

-- a driver that has done them all has made as many calls as its rows ask for
pub through_done : (steps : List Step) (log : List Receipt) (events : List Event) → HasDoneAll steps log events → IsThrough steps (length log) (round events)
through_done steps log events h =
    let whole : take (length steps) steps ≡ steps = take_whole steps (length steps) (omega arith) in (
      sym (length-map log (λ (r : Receipt). r.event)) ∙ ap length h.made ∙ ap (λ rows. length (acts rows)) whole,
      ap (list_all (is_over (round events))) (sym whole) ∙ h.over,
    )

pub rests_now : (s : Scenario) (steps : List Step) (log : List Receipt) (before : List Event) (w : Walk) → LetsRest s log before (slice_get steps w.row) → IsWalk s steps log before w → Rests s steps log before
rests_now s steps log before w rests h = record { row = w.row; stands = h.stands; rests = rests }

-- nothing has happened, and nothing was done
pub on_start : (s : Scenario) (steps : List Step) (log : List Receipt) → IsOn s steps log [] (record { row = 0; made = 0; refused = false })
on_start s steps log = record {
  log = record { follows = λ j r at lt. absurd (omega arith); rests = λ k at. absurd (cc) };
  walk = record {
    within = omega arith;
    split = λ j r at. (λ lt. absurd (omega arith), λ lt. absurd (omega arith));
    stands = record { within = omega arith; made = ap events_of (split_filter 0 0 log (λ j r at. (λ lt. absurd (omega arith), λ lt. absurd (omega arith))) (omega arith)); over = refl };
    refused = λ is. absurd (no is);
    marked = λ place early. absurd (let less = early.less in omega arith);
  };
}
  where
    no : false ≡ true → ⊥
    no is = cc
