-- what is found of a device
use Rattle.std.proofs.Common.{◌≡◌, ℕ, zero, suc, ◌+◌, ◌-◌, ◌/◌, ◌<◌, ◌≤◌, ◌==◌, ◌&&◌, nat_lt, nat_le, Bool, true, false, cond, ◌⊎◌, List, [], ◌∷◌, length, map, get_or, refl, arith, ◌∙◌, ap, inl, inr, Option, None, Some, Ok, Err, unwrap_or, is_some}
use Rattle.std.specs.List.{filter_map, cons_option, list_any, sum, count_by, All, Contains}
use Rattle.std.proofs.lemmas.Bool.{cases_lt, cases_eq, ltb-true, leb-true, lt-ltb, le-ltb, le-leb, and_parts, and_from}
use Rattle.std.proofs.lemmas.Nat.{le-div}
use Rattle.std.proofs.lemmas.List.Elements.{All-nil, All-cons, All-contains, All-map}
use Rattle.std.proofs.lemmas.List.Sums.{sum_by-cons}
use Rattle.slots.specs.Spans.{Span, covers, covering}
use Rattle.slots.specs.Flights.{Flight, mean_of, mean, times_of_service, usual_time, span_held, spans_held, in_flight, most, last_times, service_time, found, slots_of, ENOUGH, end_after, served_from}
use Rattle.slots.specs.declared.flight.End.{End}
use Rattle.slots.specs.declared.flight.End.TheVariants.{Completed, PutBack, Unknown}
use Rattle.slots.specs.declared.slots_fault.SlotsFault.TheVariants.{TooFew}
use Rattle.slots.proofs.ListLemmas.{each_within, some_greatest, count_le}
use Rattle.slots.proofs.ServiceLemmas.{mean_of-some, last_by, last_times-by}

-- ---- slots are seen if the sum of the times is above 0

pub seen_none : (ts : List ℕ) → sum ts ≡ 0 → list_any (nat_lt 0) ts ≡ false
seen_none [] none = refl
seen_none (t ∷ ts) none =
    let is = sum_by-cons (λ n. n) t ts in
    let zero_here : t ≤ 0 = omega (arith, is, none) in
    rw (le-ltb 0 t zero_here) (seen_none ts (omega (arith, is, none)))

pub seen_some : (ts : List ℕ) → 0 < sum ts → list_any (nat_lt 0) ts ≡ true
seen_some [] some = absurd (omega arith)
seen_some (t ∷ ts) some =
    let is = sum_by-cons (λ n. n) t ts in
    elim (cases_lt 0 t) [
      | inl above ↦ rw (lt-ltb 0 t above) refl
      | inr none ↦ rw (le-ltb 0 t none) (seen_some ts (omega (arith, is, some, none)))
    ]

-- ---- the answers

pub slots_none : (fs : List Flight) (depth : Option ℕ) → sum (times_of_service fs) ≡ 0 → slots_of fs depth ≡ Ok None
unfolding slots_of
slots_none fs depth none = rw (seen_none (times_of_service fs) none) refl

pub slots_few : (fs : List Flight) (depth : Option ℕ) → 0 < sum (times_of_service fs) → unwrap_or depth (most fs) < most fs → slots_of fs depth ≡ Err (TooFew (most fs))
unfolding slots_of
slots_few fs depth some few = rw (seen_some (times_of_service fs) some, lt-ltb (unwrap_or depth (most fs)) (most fs) few) refl

pub slots_found : (fs : List Flight) (depth : Option ℕ) → 0 < sum (times_of_service fs) → most fs ≤ unwrap_or depth (most fs) → slots_of fs depth ≡ Ok (Some (found fs (unwrap_or depth (most fs))))
unfolding slots_of
slots_found fs depth some enough = rw (seen_some (times_of_service fs) some, le-ltb (unwrap_or depth (most fs)) (most fs) enough) refl

-- ---- no more are in flight than at some start

-- a span begins at a time, or none does
begins_here : (spans : List Span) (t : ℕ) → ((s : Span) × Contains spans s × (s.from ≡ t)) ⊎ All (λ (s : Span). s.from ≡ t → ⊥) spans
begins_here [] t = inr (All-nil (λ (s : Span). s.from ≡ t → ⊥))
begins_here (s ∷ spans) t = elim (cases_eq s.from t) [
  | inl here ↦ inl (s, (0, omega arith, refl), here)
  | inr other ↦ elim (begins_here spans t) [
    | inl found ↦ inl (found.0, (suc (found.1).0, let lt = (found.1).1 in omega arith, (found.1).2), found.2)
    | inr none ↦ inr (All-cons (λ (u : Span). u.from ≡ t → ⊥) s spans other none)
  ]
]

pub covers_at : (t : ℕ) (s : Span) → covers t s ≡ true → (s.from ≤ t) × (t < s.until)
covers_at t s covered = let parts = and_parts (nat_le s.from t) (nat_lt t s.until) covered in (leb-true s.from t parts.0, ltb-true t s.until parts.1)

pub covers_from : (t : ℕ) (s : Span) → s.from ≤ t → t < s.until → covers t s ≡ true
covers_from t s begun lasts = and_from (nat_le s.from t) (nat_lt t s.until) (le-leb s.from t begun) (lt-ltb t s.until lasts)

pub count_none : {X : Type 0} (xs : List X) → count_by (λ _. false) xs ≡ 0
count_none [] = refl
count_none (x ∷ xs) = let is = sum_by-cons (λ _. 0) x xs in let rest = count_none xs in omega (arith, is, rest)

pub covering_within : (spans : List Span) (m : ℕ) → All (λ (s : Span). covering spans s.from ≤ m) spans → (t : ℕ) → covering spans t ≤ m
covering_within spans m each zero = elim (begins_here spans 0) [
  | inl found ↦
      let at = All-contains (λ (s : Span). covering spans s.from ≤ m) spans found.0 each found.1 in
      let same : covering spans (found.0).from ≡ covering spans 0 = ap (covering spans) found.2 in
      omega arith
  | inr none ↦
      let fewer : covering spans 0 ≤ count_by (λ _. false) spans = count_le (covers 0) (λ _. false) spans (λ k d lt covered.
      let at = covers_at 0 (get_or spans k d) covered in
      let begun = at.0 in
      absurd (none k d lt (omega arith))) in
      omega (arith, fewer, count_none spans)
]
covering_within spans m each (suc t) = elim (begins_here spans (suc t)) [
  | inl found ↦
      let at = All-contains (λ (s : Span). covering spans s.from ≤ m) spans found.0 each found.1 in
      let same : covering spans (found.0).from ≡ covering spans (suc t) = ap (covering spans) found.2 in
      omega arith
  | inr none ↦
      let fewer : covering spans (suc t) ≤ covering spans t = count_le (covers (suc t)) (covers t) spans (λ k d lt covered.
      let at = covers_at (suc t) (get_or spans k d) covered in
      let begun = at.0 in
      let lasts = at.1 in
      let apart = none k d lt in
      covers_from t (get_or spans k d) (omega arith) (omega arith)) in
      let rest = covering_within spans m each t in
      omega arith
]

pub in_flight-within : (fs : List Flight) (t : ℕ) → in_flight fs t ≤ most fs
in_flight-within fs t = covering_within (spans_held fs) (most fs) (All-map (λ (s : Span). covering (spans_held fs) s.from ≤ most fs) (span_held (usual_time fs)) fs (each_within (λ (f : Flight). in_flight fs f.start) fs)) t

pub in_flight-reached : (fs : List Flight) → (t : ℕ) × (in_flight fs t ≡ most fs)
in_flight-reached [] = (0, refl)
in_flight-reached (f ∷ fs) =
    let at = some_greatest (λ (g : Flight). in_flight (f ∷ fs) g.start) f fs in
    ((at.0).start, at.1)

-- ---- the service time is above 0

-- one that took the last slot took some time
pub time_above : (usual start : ℕ) (e : End) (b : Bool) → cond (is_some (cond (nat_lt start (end_after usual start e) && b) (served_from start e) None)) 1 0 ≤ unwrap_or (cond (nat_lt start (end_after usual start e) && b) (served_from start e) None) 0
time_above usual start (Completed t) b = elim (nat_lt start t) as (λ v. nat_lt start t ≡ v → cond (is_some (cond (v && b) (Some (t - start)) None)) 1 0 ≤ unwrap_or (cond (v && b) (Some (t - start)) None) 0) [
  | true ↦ λ is. let later = ltb-true start t is in elim b as (λ v. cond (is_some (cond v (Some (t - start)) None)) 1 0 ≤ unwrap_or (cond v (Some (t - start)) None) 0) [ true ↦ omega arith | false ↦ omega arith ]
  | false ↦ λ _. omega arith
] refl
time_above usual start (PutBack t) b = elim (nat_lt start t && b) as (λ v. cond (is_some (cond {A = Option ℕ} v None None)) 1 0 ≤ unwrap_or (cond {A = Option ℕ} v None None) 0) [ true ↦ omega arith | false ↦ omega arith ]
time_above usual start Unknown b = elim (nat_lt start (start + usual) && b) as (λ v. cond (is_some (cond {A = Option ℕ} v None None)) 1 0 ≤ unwrap_or (cond {A = Option ℕ} v None None) 0) [ true ↦ omega arith | false ↦ omega arith ]

-- times that are each above 0 have a sum that is no less than their number
pub sum_above : {X : Type 0} (h : X → Option ℕ) → ((x : X) → cond (is_some (h x)) 1 0 ≤ unwrap_or (h x) 0) → (xs : List X) → length (filter_map h xs) ≤ sum (filter_map h xs)
sum_above h each [] = omega arith
sum_above h each (x ∷ xs) = one_more (h x) (filter_map h xs) (each x) (sum_above h each xs)
  where
    one_more : (o : Option ℕ) (ts : List ℕ) → cond (is_some o) 1 0 ≤ unwrap_or o 0 → length ts ≤ sum ts → length (cons_option o ts) ≤ sum (cons_option o ts)
    one_more None ts one rest = rest
    one_more (Some t) ts one rest = omega (arith, sum_by-cons (λ n. n) t ts)

pub mean_above : (sum count : ℕ) → 0 < count → 0 < sum → 1 ≤ mean_of sum count
mean_above sum count some above =
    let is = mean_of-some sum count some in
    let one : 1 ≤ (sum + (count - 1)) / count = le-div 1 (sum + (count - 1)) count some (omega arith) in
    omega arith

pub length_above : (ts : List ℕ) → 0 < sum ts → 0 < length ts
length_above [] above = absurd (omega arith)
length_above (t ∷ ts) above = omega arith

pub service_above : (fs : List Flight) → 0 < sum (times_of_service fs) → 1 ≤ service_time fs
service_above fs above = elim (nat_le ENOUGH (length (last_times fs))) as (λ b. nat_le ENOUGH (length (last_times fs)) ≡ b → 1 ≤ mean (cond b (last_times fs) (times_of_service fs))) [
  | true ↦ λ is.
      let enough : 16 ≤ length (last_times fs) = leb-true ENOUGH (length (last_times fs)) is in
      let number : Flight → ℕ = λ g. in_flight fs g.start in
      let same = last_times-by (usual_time fs) number (most fs) fs in
      let bound = sum_above (last_by (usual_time fs) number (most fs)) (λ (f : Flight). time_above (usual_time fs) f.start f.end (number f == most fs)) fs in
      let long = ap length same in
      let whole = ap sum same in
      mean_above (sum (last_times fs)) (length (last_times fs)) (omega arith) (omega (arith, bound, long, whole, enough))
  | false ↦ λ _. mean_above (sum (times_of_service fs)) (length (times_of_service fs)) (length_above (times_of_service fs) above) above
] refl

-- ---- what the code reckons with

pub usual_is : (fs : List Flight) (total count usual : ℕ) → total ≡ sum (times_of_service fs) → count ≡ length (times_of_service fs) → usual ≡ mean_of total count → usual ≡ usual_time fs
usual_is fs total count usual whole many is = is ∙ ap (λ n. mean_of n count) whole ∙ ap (mean_of (sum (times_of_service fs))) many

pub flying_is : (fs : List Flight) (usual : ℕ) (flying : List ℕ) → usual ≡ usual_time fs → flying ≡ map (λ (f : Flight). covering (map (span_held usual) fs) f.start) fs → flying ≡ map (λ (f : Flight). in_flight fs f.start) fs
flying_is fs usual flying same are = are ∙ ap (λ u. map (λ (f : Flight). covering (map (span_held u) fs) f.start) fs) same

-- what is found, by its parts
pub found_is : (fs : List Flight) (given slots number service last : ℕ) → slots ≡ given → number ≡ most fs → service ≡ service_time fs → last ≡ length (last_times fs) → found fs given ≡ record { slots = slots; in_flight = number; service = service; by_last_slot = last }
found_is fs given slots number service last same are by_service by_last = rw (same, are, by_service, by_last) refl

pub service_is : (fs : List Flight) (service last_total last all_total all : ℕ) → last_total ≡ sum (last_times fs) → last ≡ length (last_times fs) → all_total ≡ sum (times_of_service fs) → all ≡ length (times_of_service fs) → service ≡ cond (nat_le ENOUGH last) (mean_of last_total last) (mean_of all_total all) → service ≡ service_time fs
service_is fs service last_total last all_total all a b c d is = is ∙ rw (a, b, c, d) (elim (nat_le ENOUGH (length (last_times fs))) as (λ v. cond v (mean (last_times fs)) (mean (times_of_service fs)) ≡ mean (cond v (last_times fs) (times_of_service fs))) [ true ↦ refl | false ↦ refl ])
