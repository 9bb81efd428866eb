-- what is found of a device in a window
use Rattle.std.proofs.Common.{◌≡◌, ℕ, ◌<◌, ◌≤◌, ◌==◌, max, nat_lt, nat_le, true, false, cond, List, length, map, refl, arith, ◌∙◌, ap, inl, inr, Option, None, Some, Ok, Err, unwrap_or}
use Rattle.std.specs.List.{filter_map, sum}
use Rattle.std.specs.Option.{IfSome}
use Rattle.std.proofs.lemmas.Bool.{cases_lt, leb-true, lt-ltb, le-ltb}
use Rattle.std.proofs.lemmas.List.{length-map}
use Rattle.std.proofs.lemmas.List.Sorted.{length_permutation}
use Rattle.slots.specs.Spans.{Span}
use Rattle.slots.specs.Bounds.{AreBounds}
use Rattle.slots.specs.Flights.{ENOUGH, Flight, greatest, mean, mean_of, time_of_service, times_of_service}
use Rattle.slots.specs.Windowed.{Known, NumberedFlight, flights_in_window, found_in_window, last_times_in_window, last_times_of, most_so_far, number_of, numbered_among, numbered_own, service_by_times, slots_in_window, took_last}
use Rattle.slots.specs.declared.slots_fault.SlotsFault.TheVariants.{TooFew}
use Rattle.slots.proofs.ListLemmas.{kept_all}
use Rattle.slots.proofs.FoundLemmas.{length_above, mean_above, seen_none, seen_some, sum_above, time_above}
use Rattle.slots.proofs.ServiceLemmas.{no_flight}

-- each span begins once
pub begins_few : (spans : List Span) (begins ends : List ℕ) → AreBounds spans begins ends → length begins ≡ length spans
begins_few spans begins ends are = length_permutation _ begins are.begins_all ∙ length-map spans (λ (s : Span). s.from)

abbrev pub no_numbered : NumberedFlight
no_numbered = record { flight = no_flight; number = 0 }

-- the time of service of a flight that took the last slot
abbrev pub last_numbered : ℕ → NumberedFlight → Option ℕ
last_numbered most n = cond (took_last most n) (time_of_service n.flight) None

pub last_times-numbered : (most : ℕ) (ns : List NumberedFlight) → last_times_of most ns ≡ filter_map (last_numbered most) ns
last_times-numbered most ns = kept_all (took_last most) (λ (n : NumberedFlight). time_of_service n.flight) ns

-- ---- the answers

pub window_few : (earlier : List NumberedFlight) (own : List Flight) (known : Known) (depth : Option ℕ) → unwrap_or depth (max (most_so_far known earlier own) 1) < most_so_far known earlier own → slots_in_window earlier own known depth ≡ Err (TooFew (most_so_far known earlier own))
unfolding slots_in_window
window_few earlier own known depth few = rw (lt-ltb (unwrap_or depth (max (most_so_far known earlier own) 1)) (most_so_far known earlier own) few) refl

pub window_found : (earlier : List NumberedFlight) (own : List Flight) (known : Known) (depth : Option ℕ) → most_so_far known earlier own ≤ unwrap_or depth (max (most_so_far known earlier own) 1) → slots_in_window earlier own known depth ≡ Ok (found_in_window earlier own known (unwrap_or depth (max (most_so_far known earlier own) 1)))
unfolding slots_in_window
window_found earlier own known depth enough = rw (le-ltb (unwrap_or depth (max (most_so_far known earlier own) 1)) (most_so_far known earlier own) enough) refl

-- ---- what the code reckons with

-- the numbers of the window's own flights
pub own_is : (earlier : List NumberedFlight) (own : List Flight) (flights lent : List Flight) (numbered : List NumberedFlight) → flights ≡ flights_in_window earlier own → lent ≡ flights → numbered ≡ map (numbered_among lent) own → numbered ≡ numbered_own earlier own
own_is earlier own flights lent numbered are same is = is ∙ ap (λ fs. map (numbered_among fs) own) (same ∙ are)

pub most_is : (earlier : List NumberedFlight) (own : List Flight) (known : Known) (numbered lent : List NumberedFlight) (greatest_of most : ℕ) → numbered ≡ numbered_own earlier own → lent ≡ numbered → greatest_of ≡ greatest (map number_of lent) → most ≡ max known.in_flight greatest_of → most ≡ most_so_far known earlier own
most_is earlier own known numbered lent greatest_of most are same is whole = whole ∙ ap (max known.in_flight) (is ∙ ap (λ ns. greatest (map number_of ns)) (same ∙ are))

-- the service time by the sums of times
service_of : (known : Option ℕ) (all last : List ℕ) → cond (nat_lt 0 (sum all)) (Some (cond (nat_le ENOUGH (length last)) (mean_of (sum last) (length last)) (mean_of (sum all) (length all)))) known ≡ service_by_times known all last
service_of known all last = elim (cases_lt 0 (sum all)) [
  | inl some ↦
      rw (lt-ltb 0 (sum all) some, seen_some all some) (elim (nat_le ENOUGH (length last)) as (λ v. ◌≡◌ {A = Option ℕ} (Some (cond v (mean last) (mean all))) (Some (mean (cond v last all)))) [ true ↦ refl | false ↦ refl ])
  | inr none ↦ rw (le-ltb 0 (sum all) none, seen_none all (omega arith)) refl
]

pub window_service : (known : Option ℕ) (all last : List ℕ) (all_sum all_count last_sum last_count : ℕ) (service : Option ℕ) → all_sum ≡ sum all → all_count ≡ length all → last_sum ≡ sum last → last_count ≡ length last → service ≡ cond (nat_lt 0 all_sum) (Some (cond (nat_le ENOUGH last_count) (mean_of last_sum last_count) (mean_of all_sum all_count))) known → service ≡ service_by_times known all last
window_service known all last all_sum all_count last_sum last_count service a b c d is = is ∙ rw (a, b, c, d) (service_of known all last)

-- it is above 0 if what is known is
pub window_service_above : (known : Option ℕ) (all : List ℕ) (most : ℕ) (ns : List NumberedFlight) → IfSome known (λ t. 1 ≤ t) → IfSome (service_by_times known all (last_times_of most ns)) (λ t. 1 ≤ t)
window_service_above known all most ns above = elim (cases_lt 0 (sum all)) [
  | inl some ↦
      rw (seen_some all some) (elim (nat_le ENOUGH (length (last_times_of most ns))) as (λ b. nat_le ENOUGH (length (last_times_of most ns)) ≡ b → 1 ≤ mean (cond b (last_times_of most ns) all)) [
        | true ↦ λ is.
            let enough : 16 ≤ length (last_times_of most ns) = leb-true ENOUGH (length (last_times_of most ns)) is in
            let same = last_times-numbered most ns in
            let bound = sum_above (last_numbered most) (λ (n : NumberedFlight). time_above 0 n.flight.start n.flight.end (n.number == most)) ns in
            mean_above (sum (last_times_of most ns)) (length (last_times_of most ns)) (omega arith) (omega (arith, bound, ap length same, ap sum same, enough))
        | false ↦ λ _. mean_above (sum all) (length all) (length_above all some) some
      ] refl)
  | inr none ↦ rw (seen_none all (omega arith)) above
]

-- what is found, by its parts
pub window_found_is : (earlier : List NumberedFlight) (own : List Flight) (known : Known) (given slots number last : ℕ) (service : Option ℕ) → slots ≡ given → number ≡ most_so_far known earlier own → service ≡ service_by_times known.service (times_of_service (flights_in_window earlier own)) (last_times_in_window known earlier own) → last ≡ length (last_times_in_window known earlier own) → found_in_window earlier own known given ≡ record { slots = slots; in_flight = number; service = service; by_last_slot = last }
window_found_is earlier own known given slots number last service same are by_service by_last = rw (same, are, by_service, by_last) refl
