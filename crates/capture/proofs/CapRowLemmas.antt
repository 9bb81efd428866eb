-- the caps of a part in each round
use Rattle.std.proofs.Common.{◌≡◌, ℕ, ◌+◌, ◌<◌, Bool, true, false, List, [], ◌∷◌, ◌++◌, length, filter, ◌==◌, max, min, nat_lt, if◌then◌else◌, slice_index, replicate, ap, refl, ◌∙◌, arith, Vec}
use Rattle.std.specs.Global.{Global}
use Rattle.std.specs.List.{range_with_len, sum_by}
use Rattle.std.proofs.lemmas.List.{length-replicate, get_or-replicate}
use Rattle.std.proofs.lemmas.List.Elements.{filter-append}
use Rattle.std.proofs.lemmas.List.Sums.{sum_by_push}
use Rattle.std.proofs.lemmas.List.{append-nil}
use Rattle.cam_types.specs.declared.device.Device.{Device}
use Rattle.cam_types.specs.Topology.{Topology}
use Rattle.cam_types.specs.Questions.{is_on}
use Rattle.recording_file.specs.Caps.{openings}
use Rattle.recording_file.specs.Recorded.{load}
use Rattle.recording_file.specs.declared.part.Part.{Part}
use Rattle.recording_file.specs.declared.request.Request.{Request}
use Rattle.recording_file.proofs.ListLemmas.{range_more}
use Rattle.capture.specs.Captured.{is_measured, is_open, own_cap, open_cap, cap_of, sum_on, spare_in, room}
use Rattle.capture.specs.Loads.{IsRow, waiting}
use Rattle.capture.specs.declared.capture_fault.TheConstants.{MAX_IN_ROUND}

-- by itself or not
pub row_of_open : (c : Topology) (rated opened : List Bool) (spare : List (Vec ℕ Global)) (qs : List Request) (p : Part) (last : ℕ) (row : List ℕ) → is_open opened p ≡ true → IsRow (open_cap c rated spare qs p) last row → IsRow (cap_of c rated opened spare qs p) last row
row_of_open c rated opened spare qs p last row is h = record { size = h.size; each = λ r few. h.each r few ∙ rw is refl }

pub row_of_own : (c : Topology) (rated opened : List Bool) (spare : List (Vec ℕ Global)) (qs : List Request) (p : Part) (last : ℕ) (row : List ℕ) → is_open opened p ≡ false → IsRow (own_cap c rated spare qs p) last row → IsRow (cap_of c rated opened spare qs p) last row
row_of_own c rated opened spare qs p last row is h = record { size = h.size; each = λ r few. h.each r few ∙ rw is refl }

-- with what more a device had room for
pub room_row : (c : Topology) (spare : List (Vec ℕ Global)) (qs : List Request) (p : Part) (last : ℕ) (old new : List ℕ) → IsRow (load c qs p) last old → length new ≡ length old → ((round : ℕ) → round < length old → slice_index new round ≡ min MAX_IN_ROUND (slice_index old round + spare_in spare p.number round)) → IsRow (room c spare qs p) last new
room_row c spare qs p last old new loads size added =
    let many = loads.size in
    record {
      size = size ∙ loads.size;
      each = λ r few. added r (omega arith) ∙ rw (loads.each r few) refl;
    }

-- of a part that is measured
pub measured_row : (c : Topology) (rated : List Bool) (spare : List (Vec ℕ Global)) (qs : List Request) (p : Part) (last usual : ℕ) (old waits new : List ℕ) → is_measured rated p ≡ true → usual ≡ openings c p → IsRow (room c spare qs p) last old → IsRow (waiting qs p.number) last waits → length new ≡ length old → ((round : ℕ) → round < length old → slice_index new round ≡ (if nat_lt 0 (slice_index waits round) then slice_index old round else max usual (slice_index old round))) → IsRow (own_cap c rated spare qs p) last new
unfolding own_cap
measured_row c rated spare qs p last usual old waits new measured is loads waiting' size raised =
    let many = loads.size in
    record {
      size = size ∙ loads.size;
      each = λ r few. raised r (omega arith) ∙ rw (waiting'.each r few, loads.each r few, is, measured) refl;
    }

-- and of any other
pub steady_row : (c : Topology) (rated : List Bool) (spare : List (Vec ℕ Global)) (qs : List Request) (p : Part) (last usual : ℕ) (old new : List ℕ) → is_measured rated p ≡ false → usual ≡ openings c p → IsRow (load c qs p) last old → length new ≡ length old → ((round : ℕ) → round < length old → slice_index new round ≡ max usual (slice_index old round)) → IsRow (own_cap c rated spare qs p) last new
unfolding own_cap
steady_row c rated spare qs p last usual old new steady is loads size raised =
    let many = loads.size in
    record {
      size = size ∙ loads.size;
      each = λ r few. raised r (omega arith) ∙ rw (loads.each r few, is, steady) refl;
    }

-- ---- of an adapter of unknown openings

-- the devices on it have more openings than it
pub full_row : (c : Topology) (rated : List Bool) (spare : List (Vec ℕ Global)) (qs : List Request) (p : Part) (last : ℕ) (new : List ℕ) → nat_lt (openings c p) (sum_on c p.number (openings c)) ≡ true → new ≡ replicate (last + 1) MAX_IN_ROUND → IsRow (open_cap c rated spare qs p) last new
unfolding open_cap
full_row c rated spare qs p last new more is = record {
  size = ap length is ∙ length-replicate (last + 1) MAX_IN_ROUND;
  each = λ r few. ap (λ row. slice_index row r) is ∙ get_or-replicate (last + 1) r MAX_IN_ROUND 0 (omega arith) ∙ rw more refl;
}

least_max : (m x s : ℕ) → min m (max x (min m s)) ≡ min m (max x s)
least_max m x s = omega arith

-- they don't
pub shared_row : (c : Topology) (rated : List Bool) (spare : List (Vec ℕ Global)) (qs : List Request) (p : Part) (last usual : ℕ) (old devices new : List ℕ) → nat_lt (openings c p) (sum_on c p.number (openings c)) ≡ false → usual ≡ openings c p → IsRow (load c qs p) last old → IsRow (λ round. min MAX_IN_ROUND (sum_on c p.number (λ d. own_cap c rated spare qs d round))) last devices → length new ≡ length old → ((round : ℕ) → round < length old → slice_index new round ≡ min MAX_IN_ROUND (max (max usual (slice_index old round)) (slice_index devices round))) → IsRow (open_cap c rated spare qs p) last new
unfolding open_cap
shared_row c rated spare qs p last usual old devices new fewer is loads sums size raised =
    let many = loads.size in
    record {
      size = size ∙ loads.size;
      each = λ r few. raised r (omega arith) ∙ rw (sums.each r few, loads.each r few, is, fewer) (least_max MAX_IN_ROUND (max (openings c p) (load c qs p r)) (sum_on c p.number (λ d. own_cap c rated spare qs d r)));
    }

-- ---- sums over the devices on an adapter

-- over those of the first so many
abbrev pub sum_below : Topology → ℕ → (ℕ → ℕ) → ℕ → ℕ
sum_below c a f n = sum_by f (filter (is_on c a) (range_with_len 0 n))

pub sum_taken : (c : Topology) (a n : ℕ) (f : ℕ → ℕ) → is_on c a n ≡ true → sum_below c a f (n + 1) ≡ sum_below c a f n + f n
sum_taken c a n f on =
    let at : 0 + n ≡ n = omega arith in
    let last : filter (is_on c a) ((0 + n) ∷ []) ≡ n ∷ [] = rw (at, on) refl in
    ap (λ xs. sum_by f (filter (is_on c a) xs)) (range_more 0 n) ∙ ap (sum_by f) (filter-append (is_on c a) (range_with_len 0 n) ((0 + n) ∷ []) ∙ ap (λ xs. filter (is_on c a) (range_with_len 0 n) ++ xs) last) ∙ sum_by_push f (filter (is_on c a) (range_with_len 0 n)) n

pub sum_passed : (c : Topology) (a n : ℕ) (f : ℕ → ℕ) → is_on c a n ≡ false → sum_below c a f (n + 1) ≡ sum_below c a f n
sum_passed c a n f off =
    let at : 0 + n ≡ n = omega arith in
    let last : filter (is_on c a) ((0 + n) ∷ []) ≡ [] = rw (at, off) refl in
    ap (λ xs. sum_by f (filter (is_on c a) xs)) (range_more 0 n) ∙ ap (sum_by f) (filter-append (is_on c a) (range_with_len 0 n) ((0 + n) ∷ []) ∙ ap (λ xs. filter (is_on c a) (range_with_len 0 n) ++ xs) last ∙ append-nil (filter (is_on c a) (range_with_len 0 n)))

-- such sums in each round, up to the most that a cap says
abbrev pub IsSumRow : Topology → ℕ → (ℕ → ℕ → ℕ) → ℕ → ℕ → List ℕ → Type 0
IsSumRow c a number n last row = IsRow (λ r. min MAX_IN_ROUND (sum_below c a (λ d. number d r) n)) last row

least_sum : (m s x : ℕ) → min m (min m s + x) ≡ min m (s + x)
least_sum m s x = omega arith

pub sum_row_taken : (c : Topology) (a : ℕ) (number : ℕ → ℕ → ℕ) (n last : ℕ) (old own new : List ℕ) → is_on c a n ≡ true → IsSumRow c a number n last old → IsRow (number n) last own → length new ≡ length old → ((r : ℕ) → r < length old → slice_index new r ≡ min MAX_IN_ROUND (slice_index old r + slice_index own r)) → IsSumRow c a number (n + 1) last new
sum_row_taken c a number n last old own new on sums owned size added =
    let many = sums.size in
    record {
      size = size ∙ sums.size;
      each = λ r few.
          let more = sum_taken c a n (λ d. number d r) on in
          added r (omega arith) ∙ rw (sums.each r few, owned.each r few, more) (least_sum MAX_IN_ROUND (sum_below c a (λ d. number d r) n) (number n r));
    }

pub sum_row_passed : (c : Topology) (a : ℕ) (number : ℕ → ℕ → ℕ) (n last : ℕ) (row : List ℕ) → is_on c a n ≡ false → IsSumRow c a number n last row → IsSumRow c a number (n + 1) last row
sum_row_passed c a number n last row off sums = record {
  size = sums.size;
  each = λ r few. let same = sum_passed c a n (λ d. number d r) off in sums.each r few ∙ rw same refl;
}

-- ---- the openings of an adapter's devices

abbrev pub openings_at : List Device → ℕ → ℕ
openings_at ds a = sum_by (λ (d : Device). d.openings) (filter (λ (d : Device). d.bus == a) ds)
