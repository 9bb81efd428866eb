-- means
use Rattle.std.proofs.Common.{◌≡◌, ℕ, ◌+◌, ◌-◌, ◌*◌, ◌/◌, ◌<◌, ◌≤◌, ◌==◌, max, cond, List, length, map, filter, get_or, refl, arith, ◌∙◌, ap, Option, None}
use Rattle.std.specs.List.{filter_map}
use Rattle.std.proofs.lemmas.List.{get_or-map}
use Rattle.std.proofs.lemmas.Nat.{div_below}
use Rattle.slots.specs.Flights.{Flight, mean_of, time_of_service, times_of_service, takes_last_by, last_time}
use Rattle.slots.specs.declared.flight.End.TheVariants.{Completed}
use Rattle.slots.proofs.ListLemmas.{kept_all}

-- a mean is no more than the greatest
pub mean_within : (sum count m : ℕ) → 0 < count → sum ≤ count * m → (sum + (count - 1)) / count < m + 1
mean_within sum count m some le =
    let turned : (m + 1) * count ≡ count * m + count = times_more m count in
    div_below (sum + (count - 1)) count (m + 1) some (omega arith)
  where
    times_more : (n k : ℕ) → (n + 1) * k ≡ k * n + k
    times_more n k = grind arith

pub mean_of-some : (sum count : ℕ) → 0 < count → mean_of sum count ≡ (sum + (count - 1)) / count
unfolding mean_of
mean_of-some sum count some = ap (λ n. (sum + (count - 1)) / n) one
  where
    one : max count 1 ≡ count
    one = omega arith

pub mean_of-none : (sum count : ℕ) → count ≡ 0 → sum ≡ 0 → mean_of sum count ≡ 0
unfolding mean_of
mean_of-none sum count none zero = rw (none, zero) refl

abbrev pub no_flight : Flight
no_flight = record { start = 0; end = Completed 0 }

-- the time of service of a flight that took the last slot
abbrev pub last_by : ℕ → (Flight → ℕ) → ℕ → Flight → Option ℕ
last_by usual number most f = cond (takes_last_by usual number most f) (time_of_service f) None

pub last_times-by : (usual : ℕ) (number : Flight → ℕ) (most : ℕ) (fs : List Flight) → times_of_service (filter (takes_last_by usual number most) fs) ≡ filter_map (last_by usual number most) fs
last_times-by usual number most fs = kept_all (takes_last_by usual number most) time_of_service fs

-- the time that is read at a place
pub last_read : (usual : ℕ) (number : Flight → ℕ) (most : ℕ) (fs : List Flight) (flying : List ℕ) (i : ℕ) (o : Option ℕ) → i < length fs → flying ≡ map number fs → o ≡ last_time usual (get_or fs i no_flight) (get_or flying i 0 == most) → o ≡ last_by usual number most (get_or fs i no_flight)
last_read usual number most fs flying i o lt are is =
    let read : get_or flying i 0 ≡ number (get_or fs i no_flight) = ap (λ ns. get_or ns i 0) are ∙ get_or-map number fs i no_flight 0 lt in
    is ∙ ap (λ n. last_time usual (get_or fs i no_flight) (n == most)) read
