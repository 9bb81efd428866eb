-- the places of a round, and one place more
use Rattle.std.proofs.Common.{◌≡◌, ◌≢◌, ℕ, ◌<◌, ◌≤◌, Bool, true, false, cond, List, [], ◌∷◌, ◌++◌, length, take, refl, sym, ap, ◌∙◌, arith, append-nil, append_assoc, length-append, Option, Some, None, not, ◌==◌, ◌&&◌, ◌||◌, filter, if◌then◌else◌, count_by, option_to_list, slice_get, slice_index, slice_index_or, eqb-true, eq-eqb, ne_eqb}
use Rattle.std.specs.List.{list_all, before_last}
use Rattle.std.specs.Option.{option_map, option_map_or}
use Rattle.std.proofs.lemmas.Bool.Decides.{nat_tests}
use Rattle.std.proofs.lemmas.List.{map-append}
use Rattle.std.proofs.lemmas.List.Sums.{sum_by-take-le}
use Rattle.std.proofs.lemmas.List.Elements.{filter-append}
use Rattle.std.proofs.lemmas.List.Folds.{list_all-append}
use Rattle.std.proofs.Math.Bool.{and-false}
use Rattle.round_net.specs.Words.{prefixed, Topology, is_tick, is_adjust_of, adjusts_to, round, submission, sending_of, sendings, last, device_openings, adapter_openings, link_openings, openings, Event, Send, Submission, Sending}
use Rattle.cam_types.proofs.ListLemmas.{prefixed-push}
use Rattle.event_rules.proofs.PushLaws.{round-push, sendings-push}
use Rattle.round_net.proofs.CountLemmas.{count_by-append}
use Rattle.event_rules.proofs.OpeningLaws.{before_last-push}
use Rattle.round_net.specs.Rows.{cell}
use Rattle.round_net.specs.Caps.{fronts, places, resource_count, by_row, resource_freezes, resource_openings, carries, is_free, openings_in, sends_in}
use Rattle.round_net.specs.Marks.{Marks, Sets, IsNoted}

-- what one element more keeps holds of all lists
append-induction : {X : Type 0} (P : List X → Type 0) → ((xs : List X) (x : X) → P xs → P (xs ++ x ∷ [])) → (before after : List X) → P before → P (before ++ after)
append-induction P step before [] h = rw (append-nil before) h
append-induction P step before (x ∷ after) h = rw (← append_assoc before (x ∷ []) after) (append-induction P step (before ++ x ∷ []) after (step before x h))

pub push-induction : {X : Type 0} (P : List X → Type 0) → P [] → ((xs : List X) (x : X) → P xs → P (xs ++ x ∷ [])) → (xs : List X) → P xs
push-induction P none step xs = append-induction P step [] xs none

fronts-push : (es : List Event) (e : Event) → fronts (es ++ e ∷ []) ≡ fronts es ++ (es ++ e ∷ []) ∷ []
fronts-push es e = rw (prefixed-push es e) (rw (map-append (λ (m : List Event × Event). m.0) (prefixed es) ((es, e) ∷ [])) refl)

pub places-push : (es : List Event) (e : Event) (r : ℕ) → places (es ++ e ∷ []) r ≡ places es r ++ cond (round (es ++ e ∷ []) == r) ((es ++ e ∷ []) ∷ []) []
places-push es e r = ap (filter (λ before. round before == r)) (fronts-push es e) ∙ filter-append (λ before. round before == r) (fronts es) ((es ++ e ∷ []) ∷ [])

pub round-grows : (es : List Event) (e : Event) → round es ≤ round (es ++ e ∷ [])
round-grows es e = omega (arith, round-push es e)

pub round-take : (es : List Event) (i : ℕ) → round (take i es) ≤ round es
unfolding round
round-take es i = omega (arith, sum_by-take-le (λ e. cond (is_tick e) 1 0) es i)

-- no place is of a later round
pub places-later : (es : List Event) (r : ℕ) → round es < r → places es r ≡ []
places-later es = push-induction (λ xs. (r : ℕ) → round xs < r → places xs r ≡ [])
    (λ r lt. rw (ne_eqb (round []) r (λ e. omega arith)) refl)
    (λ xs x h r lt. places-push xs x r ∙ rw (h r (omega (arith, round-grows xs x)), ne_eqb (round (xs ++ x ∷ [])) r (λ e. omega arith)) refl) es

-- the last place is of its round
pub places-now : (es : List Event) → 0 < length (places es (round es))
places-now es = push-induction (λ xs. 0 < length (places xs (round xs)))
    (rw (eq-eqb (round []) (round []) refl) (omega arith))
    (λ xs x h. rw (places-push xs x (round (xs ++ x ∷ []))) (rw (eq-eqb (round (xs ++ x ∷ [])) (round (xs ++ x ∷ [])) refl) (omega (arith, length-append (places xs (round (xs ++ x ∷ []))) ((xs ++ x ∷ []) ∷ []))))) es

first-append : {X : Type 0} (xs ys : List X) → 0 < length xs → slice_get (xs ++ ys) 0 ≡ slice_get xs 0
first-append [] ys lt = absurd (omega arith)
first-append (x ∷ xs) ys lt = refl

-- a device's openings stay as they were until a round opens
openings-push : (c : Topology) (es : List Event) (e : Event) (d : ℕ) → is_tick e ≡ false → openings c (es ++ e ∷ []) d ≡ openings c es d
unfolding openings
openings-push c es e d still = ap (λ xs. option_map_or adjusts_to (last (is_adjust_of d) xs) (device_openings c d)) (before_last-push is_tick es e ∙ ap (λ b. cond b es (before_last is_tick es)) still)

-- so do a row's
resource_openings-push : (c : Topology) (es : List Event) (e : Event) (row : ℕ) → is_tick e ≡ false → resource_openings c (es ++ e ∷ []) row ≡ resource_openings c es row
unfolding resource_openings
resource_openings-push c es e row still = ap (λ n. by_row c (λ d. n) (adapter_openings c) (link_openings c) row) (openings-push c es e row still)

abbrev first_openings : Topology → ℕ → List (List Event) → ℕ
first_openings c row ps = option_map_or (λ before. resource_openings c before row) (slice_get ps 0) 0

-- a place that opens a round has the round's openings
pub openings_in-opened : (c : Topology) (es : List Event) (e : Event) (row r : ℕ) → is_tick e ≡ true → openings_in c (es ++ e ∷ []) row r ≡ (if r == round (es ++ e ∷ []) then resource_openings c (es ++ e ∷ []) row else openings_in c es row r)
unfolding openings_in
openings_in-opened c es e row r ticks =
    let now : ℕ = round (es ++ e ∷ []) in
    let later : round es < now = omega (arith, round-push es e, ap {B = ℕ} (λ b. cond b 1 0) ticks) in
    ap (first_openings c row) (places-push es e r) ∙
    elim (r == now) as (λ b. (r == now) ≡ b → first_openings c row (places es r ++ cond (now == r) ((es ++ e ∷ []) ∷ []) []) ≡ (if b then resource_openings c (es ++ e ∷ []) row else first_openings c row (places es r))) [
      | true ↦ λ at.
          let same : r ≡ now = eqb-true r now at in
          rw (eq-eqb now r (sym same), places-later es r (omega arith)) refl
      | false ↦ λ ne.
          rw (ne_eqb now r (λ at. let both : (r == now) ≡ true = eq-eqb r now (sym at) in cc), append-nil (places es r)) refl
    ] refl

-- and no other place changes them
pub openings_in-kept : (c : Topology) (es : List Event) (e : Event) (row r : ℕ) → is_tick e ≡ false → openings_in c (es ++ e ∷ []) row r ≡ openings_in c es row r
unfolding openings_in
openings_in-kept c es e row r still =
    let now : ℕ = round (es ++ e ∷ []) in
    let same : now ≡ round es = omega (arith, round-push es e, ap {B = ℕ} (λ b. cond b 1 0) still) in
    ap (first_openings c row) (places-push es e r) ∙
    elim (now == r) as (λ b. (now == r) ≡ b → first_openings c row (places es r ++ cond b ((es ++ e ∷ []) ∷ []) []) ≡ first_openings c row (places es r)) [
      | true ↦ λ at.
          let is : round es ≡ r = sym same ∙ eqb-true now r at in
          let some : 0 < length (places es r) = rw (← is) (places-now es) in
          ap (λ o. option_map_or (λ before. resource_openings c before row) o 0) (first-append (places es r) ((es ++ e ∷ []) ∷ []) some)
      | false ↦ λ ne. rw (append-nil (places es r)) refl
    ] refl

-- at each place the round's openings are the place's
pub openings_in-now : (c : Topology) (row : ℕ) (es : List Event) → openings_in c es row (round es) ≡ resource_openings c es row
unfolding openings_in
openings_in-now c row es = push-induction (λ xs. openings_in c xs row (round xs) ≡ resource_openings c xs row) (rw (eq-eqb (round []) (round []) refl) refl)
    (λ xs x h. elim (is_tick x) as (λ b. is_tick x ≡ b → openings_in c (xs ++ x ∷ []) row (round (xs ++ x ∷ [])) ≡ resource_openings c (xs ++ x ∷ []) row) [
      | true ↦ λ ticks. openings_in-opened c xs x row (round (xs ++ x ∷ [])) ticks ∙ rw (eq-eqb (round (xs ++ x ∷ [])) (round (xs ++ x ∷ [])) refl) refl
      | false ↦ λ still.
          let same : round (xs ++ x ∷ []) ≡ round xs = omega (arith, round-push xs x, ap {B = ℕ} (λ b. cond b 1 0) still) in
          openings_in-kept c xs x row (round (xs ++ x ∷ [])) still ∙ ap (openings_in c xs row) same ∙ h ∙ sym (resource_openings-push c xs x row still)
    ] refl) es

one_more : {X : Type 0} (test : X → Bool) (x : X) (b : Bool) → list_all test (cond b (x ∷ []) []) ≡ (not b || test x)
one_more test x true = elim (test x) as (λ t. (t && true) ≡ t) [ true ↦ refl | false ↦ refl ]
one_more test x false = refl

all_and_one : {X : Type 0} (test : X → Bool) (xs : List X) (x : X) (b : Bool) → list_all test (xs ++ cond b (x ∷ []) []) ≡ (list_all test xs && (not b || test x))
all_and_one test xs x b = list_all-append test xs (cond b (x ∷ []) []) ∙ ap (λ t. list_all test xs && t) (one_more test x b)

is_free-push : (c : Topology) (es : List Event) (e : Event) (row r : ℕ) → is_free c (es ++ e ∷ []) row r ≡ (is_free c es row r && (not (round (es ++ e ∷ []) == r) || (resource_freezes c (es ++ e ∷ []) row == 0)))
unfolding is_free
is_free-push c es e row r = ap (list_all (λ before. resource_freezes c before row == 0)) (places-push es e r) ∙ all_and_one (λ before. resource_freezes c before row == 0) (places es r) (es ++ e ∷ []) (round (es ++ e ∷ []) == r)

-- what is noted of the places so far and of one more
eqb-sym : (a b : ℕ) → (a == b) ≡ (b == a)
eqb-sym a b = grind (arith, nat_tests)

still_marked : (free b zero_count : Bool) → (not free || (b && not zero_count)) ≡ not (free && (not b || zero_count))
still_marked true true z = refl
still_marked true false z = refl
still_marked false b z = refl

-- one send more counts in the place's round alone
abbrev in_round : (Sending → Bool) → ℕ → Sending → Bool
in_round test r s = test s && (s.round == r)

made_now : (es : List Event) (n : ℕ) (o : Option Submission) (make : Submission → Sending) → ((x : Submission) → (make x).round ≡ n) → (s : Sending) → option_map make o ≡ Some s → s.round ≡ n
made_now es n None make h s is = absurd (cc)
made_now es n (Some x) make h s is = let same : make x ≡ s = cc in ap (λ (y : Sending). y.round) (sym same) ∙ h x

sent_now : (es : List Event) (e : Event) (s : Sending) → sending_of (es, e) ≡ Some s → s.round ≡ round (es ++ e ∷ [])
sent_now es (Send lane ccb) s is = made_now es (round (es ++ Send lane ccb ∷ [])) (submission es ccb) _ (λ x. omega (arith, round-push es (Send lane ccb))) s is
sent_now es _ s is = absurd (cc)

none_sent : (test : Sending → Bool) (r n : ℕ) (o : Option Sending) → ((s : Sending) → o ≡ Some s → s.round ≡ n) → r ≢ n → count_by (in_round test r) (option_to_list o) ≡ 0
none_sent test r n None at ne = refl
none_sent test r n (Some s) at ne = rw (ne_eqb s.round r (λ e. ne (sym e ∙ at s refl)), and-false (test s)) refl

sends-kept : (test : Sending → Bool) (es : List Event) (e : Event) (r : ℕ) → r ≢ round (es ++ e ∷ []) → count_by (in_round test r) (sendings (es ++ e ∷ [])) ≡ count_by (in_round test r) (sendings es)
sends-kept test es e r ne =
    omega (
      arith,
      ap (count_by (in_round test r)) (sendings-push es e),
      count_by-append (in_round test r) (sendings es) (option_to_list (sending_of (es, e))),
      none_sent test r (round (es ++ e ∷ [])) (sending_of (es, e)) (λ s is. sent_now es e s is) ne,
    )

sent-step : (test : Sending → Bool) (es : List Event) (e : Event) (r old new : ℕ) → old ≡ count_by (in_round test r) (sendings es) →
    new ≡ (if r == round (es ++ e ∷ []) then count_by (in_round test (round (es ++ e ∷ []))) (sendings (es ++ e ∷ [])) else old) → new ≡ count_by (in_round test r) (sendings (es ++ e ∷ []))
sent-step test es e r old new was is =
    is ∙ elim (r == round (es ++ e ∷ [])) as (λ b. (r == round (es ++ e ∷ [])) ≡ b →
    (if b then count_by (in_round test (round (es ++ e ∷ []))) (sendings (es ++ e ∷ [])) else old) ≡ count_by (in_round test r) (sendings (es ++ e ∷ []))) [
      | true ↦ λ at. ap (λ n. count_by (in_round test n) (sendings (es ++ e ∷ []))) (sym (eqb-true r (round (es ++ e ∷ [])) at))
      | false ↦ λ ne. was ∙ sym (sends-kept test es e r (λ at. let both : (r == round (es ++ e ∷ [])) ≡ true = eq-eqb r (round (es ++ e ∷ [])) at in absurd (cc)))
    ] refl

pub noted-step : (c : Topology) (es : List Event) (e : Event) (rounds : ℕ) (frozen frozen' : List Bool) (openings openings' sends sends' : List ℕ) (opens : Bool) → IsNoted c es rounds frozen openings sends → opens ≡ is_tick e →
    Marks (resource_count c) rounds frozen frozen' (round (es ++ e ∷ [])) (λ row. not (resource_freezes c (es ++ e ∷ []) row == 0)) →
    (opens ≡ true → Sets (resource_count c) rounds openings openings' (round (es ++ e ∷ [])) (resource_openings c (es ++ e ∷ []))) → (opens ≡ false → openings' ≡ openings) →
    Sets (resource_count c) rounds sends sends' (round (es ++ e ∷ [])) (λ row. sends_in c (es ++ e ∷ []) row (round (es ++ e ∷ []))) →
    IsNoted c (es ++ e ∷ []) rounds frozen' openings' sends'
unfolding sends_in
noted-step c es e rounds frozen frozen' openings openings' sends sends' opens is opens_is marked opened kept sent = record {
  marked = λ row r within first last.
      marked row r within first last
      ∙ rw (is.marked row r within first last, eqb-sym r (round (es ++ e ∷ [])), is_free-push c es e row r) (still_marked (is_free c es row r) (round (es ++ e ∷ []) == r) (resource_freezes c (es ++ e ∷ []) row == 0));
  opened = λ row r within first last.
      elim (is_tick e) as (λ b. is_tick e ≡ b → slice_index openings' (cell rounds row r) ≡ openings_in c (es ++ e ∷ []) row r) [
        | true ↦ λ ticks. opened (opens_is ∙ ticks) row r within first last ∙ rw (is.opened row r within first last) (sym (openings_in-opened c es e row r ticks))
        | false ↦ λ still. ap (λ ns. slice_index ns (cell rounds row r)) (kept (opens_is ∙ still)) ∙ is.opened row r within first last ∙ sym (openings_in-kept c es e row r still)
      ] refl;
  sent = λ row r within first last. sent-step (λ (s : Sending). carries c row s.device) es e r (slice_index sends (cell rounds row r)) (slice_index sends' (cell rounds row r)) (is.sent row r within first last) (sent row r within first last);
}

-- and of the first place
free_first : (test : List Event → Bool) (b : Bool) → (false || (b && not (test []))) ≡ not (list_all test (cond b ([] ∷ []) []))
free_first test true = elim (test []) as (λ t. not t ≡ not (t && true)) [ true ↦ refl | false ↦ refl ]
free_first test false = refl

open_first : (value : List Event → ℕ) (b : Bool) → (if b then value [] else 0) ≡ option_map_or value (slice_get (cond b ([] ∷ []) []) 0) 0
open_first value true = refl
open_first value false = refl

none_yet : (test : Sending → Bool) (r old new : ℕ) → old ≡ 0 → new ≡ (if r == round [] then count_by (in_round test (round [])) (sendings []) else old) → new ≡ count_by (in_round test r) (sendings [])
unfolding sendings
none_yet test r old new was is = is ∙ elim (r == round []) as (λ b. (if b then 0 else old) ≡ 0) [ true ↦ refl | false ↦ was ]

pub noted-first : (c : Topology) (rounds : ℕ) (frozen frozen' : List Bool) (openings openings' sends sends' : List ℕ) →
    ((i : ℕ) → slice_index_or frozen i false ≡ false) → ((i : ℕ) → slice_index openings i ≡ 0) → ((i : ℕ) → slice_index sends i ≡ 0) →
    Marks (resource_count c) rounds frozen frozen' (round []) (λ row. not (resource_freezes c [] row == 0)) → Sets (resource_count c) rounds openings openings' (round []) (resource_openings c []) → Sets (resource_count c) rounds sends sends' (round []) (λ row. sends_in c [] row (round [])) →
    IsNoted c [] rounds frozen' openings' sends'
unfolding is_free openings_in sends_in
noted-first c rounds frozen frozen' openings openings' sends sends' no_mark no_opening no_send marked opened sent = record {
  marked = λ row r within first last. marked row r within first last ∙ rw (no_mark (cell rounds row r), eqb-sym r (round [])) (free_first (λ before. resource_freezes c before row == 0) (round [] == r));
  opened = λ row r within first last. opened row r within first last ∙ rw (no_opening (cell rounds row r), eqb-sym r (round [])) (open_first (λ before. resource_openings c before row) (round [] == r));
  sent = λ row r within first last. none_yet (λ (s : Sending). carries c row s.device) r (slice_index sends (cell rounds row r)) (slice_index sends' (cell rounds row r)) (no_send (cell rounds row r)) (sent row r within first last);
}
