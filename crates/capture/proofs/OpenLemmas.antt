-- adapters of unknown openings never limit
use Rattle.std.proofs.Common.{◌≡◌, ℕ, ◌<◌, ◌≤◌, Bool, true, false, cond, List, length, filter, max, min, nat_lt, sym, ap, ◌∙◌, arith, Vec}
use Rattle.std.specs.Global.{Global}
use Rattle.std.specs.List.{range_with_len, flat_map, sum_by}
use Rattle.std.proofs.lemmas.List.Sums.{sum-map}
use Rattle.std.specs.Prelude.{sum}
use Rattle.cam_types.specs.Topology.{Topology}
use Rattle.cam_types.specs.Questions.{is_on}
use Rattle.recording_file.specs.Caps.{openings, part_of, cap_in}
use Rattle.recording_file.specs.declared.cap.Cap.{Cap}
use Rattle.recording_file.specs.Names.{NameValue}
use Rattle.recording_file.specs.Recorded.{load}
use Rattle.recording_file.specs.declared.part.PartKind.TheVariants as kind
use Rattle.recording_file.specs.declared.request.Request.{Request}
use Rattle.capture.specs.Captured.{own_cap, open_cap, sum_on, cap_of, part_caps, recorded_of, NeverLimits}
use Rattle.capture.specs.Parts.{all_parts}
use Rattle.capture.specs.Rounds.{Rounded}
use Rattle.capture.specs.declared.capture_fault.TheConstants.{MAX_IN_ROUND}
use Rattle.capture.proofs.CapLemmas.{cap_in_all}
use Rattle.capture.proofs.RangeLemmas.{map_alike}

-- sums of equal numbers
sum_alike : (f g : ℕ → ℕ) (t : ℕ → Bool) (n : ℕ) → ((q : ℕ) → q < n → f q ≡ g q) → sum_by f (filter t (range_with_len 0 n)) ≡ sum_by g (filter t (range_with_len 0 n))
sum_alike f g t n same = sym (sum-map f (filter t (range_with_len 0 n))) ∙ ap sum (map_alike f g t 0 n (λ q low high. same q (omega arith))) ∙ sum-map g (filter t (range_with_len 0 n))

has_room : (c : Topology) (rated : List Bool) (spare : List (Vec ℕ Global)) (qs : List Request) (a r : ℕ) → min MAX_IN_ROUND (sum_on c a (λ d. own_cap c rated spare qs d r)) ≤ open_cap c rated spare qs (part_of kind.Adapter a) r
unfolding open_cap
has_room c rated spare qs a r =
    let sums : ℕ = sum_on c a (λ d. own_cap c rated spare qs d r) in
    let least : ℕ = max (openings c (part_of kind.Adapter a)) (load c qs (part_of kind.Adapter a) r) in
    elim (nat_lt (openings c (part_of kind.Adapter a)) (sum_on c a (openings c))) as (λ b. min MAX_IN_ROUND sums ≤ cond b MAX_IN_ROUND (min MAX_IN_ROUND (max least sums))) [ true ↦ omega arith | false ↦ omega arith ]

pub never_limits : (c : Topology) (rated opened : List Bool) (spare : List (Vec ℕ Global)) (names : List NameValue) (r : Rounded) → NeverLimits opened (recorded_of c rated opened spare names r)
unfolding recorded_of
never_limits c rated opened spare names r = λ a round there opens some few.
    let caps : List Cap = flat_map (part_caps c rated opened spare r.requests r.rounds) (all_parts c) in
    let here : cap_in c caps (part_of kind.Adapter a) round ≡ cap_of c rated opened spare r.requests (part_of kind.Adapter a) round = cap_in_all c (cap_of c rated opened spare r.requests) r.rounds kind.Adapter a round there some few in
    let sums : sum_on c a (λ d. cap_in c caps d round) ≡ sum_on c a (λ d. own_cap c rated spare r.requests d round) =
    sum_alike (λ n. cap_in c caps (part_of kind.Device n) round) (λ n. own_cap c rated spare r.requests (part_of kind.Device n) round) (is_on c a) (length c.devices) (λ q lt. cap_in_all c (cap_of c rated opened spare r.requests) r.rounds kind.Device q round lt some few) in
    rw (here, sums, opens) (has_room c rated spare r.requests a round)
