-- the caps of a capture's recording
use Rattle.std.proofs.Common.{◌≡◌, ℕ, ◌+◌, ◌-◌, ◌<◌, ◌≤◌, Bool, true, false, List, [], ◌∷◌, ◌++◌, length, map, refl, sym, ap, ◌∙◌, arith, Some, None, inl, inr, All, nat_le, slice_get, append_assoc, find, take, get_or, slice_index, Vec}
use Rattle.std.specs.Global.{Global}
use Rattle.std.specs.List.{range_with_len, flat_map}
use Rattle.std.specs.Option.{option_map_or}
use Rattle.std.proofs.lemmas.Bool.{and_parts, and_from, or_left, or_right, leb-true, le-leb, lt-ltb, eq-eqb, cases_eq, cases_lt}
use Rattle.std.proofs.lemmas.Grind.{flat_map-append}
use Rattle.std.proofs.lemmas.List.{append-nil, map-append, take_more}
use Rattle.std.proofs.lemmas.List.Elements.{All-map, All-append}
use Rattle.cam_types.specs.Topology.{Topology}
use Rattle.recording_file.specs.Caps.{openings, covers, cap_in, part_of, part_count, is_cap, is_over, is_next_cap, is_same_part, is_part_before}
use Rattle.recording_file.specs.Counts.{counts_of}
use Rattle.recording_file.specs.Recorded.{Recorded}
use Rattle.recording_file.specs.Runs.{begins_run, run_starts, run_last}
use Rattle.recording_file.specs.declared.cap.Cap.{Cap}
use Rattle.recording_file.specs.declared.part.Part.{Part}
use Rattle.recording_file.specs.declared.part.PartKind.{PartKind}
use Rattle.recording_file.specs.declared.request.Request.{Request}
use Rattle.recording_file.proofs.ListLemmas.{none_passes, found_holds, each_of_flat, all_of_flat, each_of_map, each_of_filter, all_of_filter, each_of_range, all_of_range}
use Rattle.recording_file.proofs.RunLemmas.{run_last_is, HasStart, has_start, run_over, starts_none, starts_more, starts_same}
use Rattle.capture.specs.Captured.{cap_of, run_cap, run_caps, part_caps}
use Rattle.capture.specs.Loads.{IsRow}
use Rattle.capture.specs.Parts.{all_parts}
use Rattle.capture.proofs.FoundLemmas.{at_element}
use Rattle.capture.proofs.RangeLemmas.{filter_alike, find_alike, map_alike}
use Rattle.capture.proofs.PartLemmas.{IsThere, IsEarlier, at_part, same_part_is}

-- ---- the order of the caps

abbrev IsOver : Part → ℕ → Cap → Type 0
IsOver p r k = is_over k p r ≡ true

pub same_part : (p : Part) → is_same_part p p ≡ true
same_part p = and_from _ _ (eq-eqb _ _ refl) (eq-eqb p.number p.number refl)

-- the caps of the runs that begin in the first rounds
abbrev pub runs_before : Part → (ℕ → ℕ) → ℕ → ℕ → ℕ → List Cap
runs_before p number usual rounds before = map (run_cap p number rounds) (run_starts number usual before)

earlier_runs : (p : Part) (number : ℕ → ℕ) (usual rounds before : ℕ) → before < rounds → begins_run number usual (before + 1) ≡ true → All (IsOver p (before + 1)) (runs_before p number usual rounds before)
unfolding run_starts run_cap
earlier_runs p number usual rounds before lt begins =
    All-map (IsOver p (before + 1)) (run_cap p number rounds) (run_starts number usual before)
    (all_of_filter (begins_run number usual) (λ first. IsOver p (before + 1) (run_cap p number rounds first)) (range_with_len 1 before) (all_of_range (λ first. begins_run number usual first ≡ true → IsOver p (before + 1) (run_cap p number rounds first)) 1 before (λ first low high _.
    let over = run_over number usual rounds first (before + 1) low (omega arith) (omega arith) begins in
    or_right _ _ (and_from _ _ (same_part p) (lt-ltb _ _ over)))))

latest_over : (p : Part) (r : ℕ) (caps : List Cap) → All (IsOver p r) caps → is_next_cap caps p r ≡ true
latest_over p r caps h = elim (slice_get caps (length caps - 1)) as (λ o. slice_get caps (length caps - 1) ≡ o → option_map_or (λ (k : Cap). is_over k p r) o true ≡ true) [
  | None ↦ λ e. refl
  | Some k ↦ λ e. at_element (IsOver p r) caps (length caps - 1) k h e
] refl

abbrev pub IsBefore : Part → Cap → Type 0
IsBefore p k = is_part_before k.part p ≡ true

-- the cap of a run comes next after those of earlier parts and runs
pub run_next : (c : Topology) (caps : List Cap) (p : Part) (number : ℕ → ℕ) (usual rounds before : ℕ) → p.number < part_count (counts_of c) p.kind → All (IsBefore p) caps → before < rounds → begins_run number usual (before + 1) ≡ true → number (before + 1) ≤ 65535
    → is_cap rounds (counts_of c) (caps ++ runs_before p number usual rounds before, run_cap p number rounds (before + 1)) ≡ true
unfolding is_cap run_cap
run_next c caps p number usual rounds before there earlier lt begins few =
    let first : ℕ = before + 1 in
    let is = run_last_is number rounds first (omega arith) in
    let over = All-append (IsOver p first) caps (runs_before p number usual rounds before) (λ k d lt'. or_left _ _ (earlier k d lt')) (earlier_runs p number usual rounds before lt begins) in
    and_from _ _ (lt-ltb _ _ there) (and_from _ _ (latest_over p first (caps ++ runs_before p number usual rounds before) over)
    (and_from _ _ (le-leb 1 first (omega arith)) (and_from _ _ (le-leb first _ is.after) (and_from _ _ (le-leb _ rounds is.within) (le-leb _ 65535 few)))))

-- ---- what the loop over rounds makes

-- a recording with the caps of runs after its own
abbrev with_runs : Recorded → Part → (ℕ → ℕ) → ℕ → ℕ → Recorded
with_runs r p number usual before = record r { caps = r.caps ++ runs_before p number usual r.rounds before }

pub runs_none : (r : Recorded) (p : Part) (number : ℕ → ℕ) (usual : ℕ) → r ≡ with_runs r p number usual 0
runs_none r p number usual = ap (λ caps. record r { caps = caps }) (sym (rw (starts_none number usual) (append-nil r.caps)))

pub runs_more : (r old new : Recorded) (p : Part) (number : ℕ → ℕ) (usual before : ℕ) (k : Cap) → old ≡ with_runs r p number usual before → begins_run number usual (before + 1) ≡ true → k ≡ run_cap p number r.rounds (before + 1) → new ≡ record old { caps = old.caps ++ k ∷ [] } → new ≡ with_runs r p number usual (before + 1)
runs_more r old new p number usual before k so_far begins here more =
    let starts : List ℕ = run_starts number usual before in
    let next : runs_before p number usual r.rounds (before + 1) ≡ runs_before p number usual r.rounds before ++ run_cap p number r.rounds (before + 1) ∷ [] = ap (map (run_cap p number r.rounds)) (starts_more number usual before begins) ∙ map-append (run_cap p number r.rounds) starts ((before + 1) ∷ []) in
    more ∙ rw (so_far, here) (ap (λ caps. record r { caps = caps }) (append_assoc r.caps (runs_before p number usual r.rounds before) (run_cap p number r.rounds (before + 1) ∷ []) ∙ ap (λ caps. r.caps ++ caps) (sym next)))

pub runs_same : (r now : Recorded) (p : Part) (number : ℕ → ℕ) (usual before : ℕ) → now ≡ with_runs r p number usual before → begins_run number usual (before + 1) ≡ false → now ≡ with_runs r p number usual (before + 1)
runs_same r now p number usual before so_far begins = rw (starts_same number usual before begins) so_far

pub runs_all : (r now : Recorded) (p : Part) (number : ℕ → ℕ) (usual before : ℕ) → before ≡ r.rounds → now ≡ with_runs r p number usual before → now ≡ record r { caps = r.caps ++ run_caps p number usual r.rounds }
unfolding run_caps
runs_all r now p number usual before all so_far = rw all at so_far

-- ---- the caps of parts, by a number of each in each round

-- runs go by the numbers of their rounds alone
last_alike : (f g : ℕ → ℕ) (rounds first : ℕ) → ((q : ℕ) → q ≤ rounds → f q ≡ g q) → first ≤ rounds → run_last f rounds first ≡ run_last g rounds first
unfolding run_last
last_alike f g rounds first same le = ap (λ o. option_map_or (λ r. r - 1) o rounds) (find_alike _ _ (first + 1) (rounds - first) (λ q low high. rw (same q (omega arith), same first le) refl))

begins_alike : (f g : ℕ → ℕ) (usual rounds q : ℕ) → ((q : ℕ) → q ≤ rounds → f q ≡ g q) → q ≤ rounds → begins_run f usual q ≡ begins_run g usual q
unfolding begins_run
begins_alike f g usual rounds q same le = rw (same q le, same (q - 1) (omega arith)) refl

pub runs_alike : (p : Part) (f g : ℕ → ℕ) (usual rounds : ℕ) → ((q : ℕ) → q ≤ rounds → f q ≡ g q) → run_caps p f usual rounds ≡ run_caps p g usual rounds
unfolding run_caps run_starts run_cap
runs_alike p f g usual rounds same =
    ap (map (run_cap p f rounds)) (filter_alike (begins_run f usual) (begins_run g usual) 1 rounds (λ q low high. begins_alike f g usual rounds q same (omega arith)))
    ∙ map_alike (run_cap p f rounds) (run_cap p g rounds) (begins_run g usual) 1 rounds (λ q low high. rw (last_alike f g rounds q same (omega arith), same q (omega arith)) refl)

-- the caps of earlier parts come before
pub caps_before : (number : Part → ℕ → ℕ) (usual : Part → ℕ) (rounds : ℕ) (p : Part) (ps : List Part) → All (IsEarlier p) ps → All (IsBefore p) (flat_map (λ a. run_caps a (number a) (usual a) rounds) ps)
unfolding run_caps run_cap
caps_before number usual rounds p ps h =
    all_of_flat (IsBefore p) (λ a. run_caps a (number a) (usual a) rounds) ps (λ k d lt. All-map (IsBefore p) (run_cap (get_or ps k d) (number (get_or ps k d)) rounds) (run_starts (number (get_or ps k d)) (usual (get_or ps k d)) rounds) (λ i e lt'. h k d lt))

-- the caps of one part more
pub caps_more : {X : Type 0} (f : Part → List X) (ps : List Part) (n : ℕ) (d : Part) → n < length ps → flat_map f (take (n + 1) ps) ≡ flat_map f (take n ps) ++ f (get_or ps n d)
caps_more f ps n d lt = ap (flat_map f) (take_more ps n d lt) ∙ flat_map-append f (take n ps) (get_or ps n d ∷ []) ∙ ap (λ xs. flat_map f (take n ps) ++ xs) (append-nil (f (get_or ps n d)))

-- ---- what the caps say

abbrev Says : (Part → ℕ → ℕ) → Part → ℕ → Cap → Type 0
Says number p r k = covers p r k ≡ true → k.most ≡ number p r

run_says : (number : Part → ℕ → ℕ) (rounds : ℕ) (p a : Part) (r first : ℕ) → first ≤ rounds → Says number p r (run_cap a (number a) rounds first)
unfolding run_cap
run_says number rounds p a r first few covered =
    let parts = and_parts (is_same_part a p) _ covered in
    let span = and_parts (nat_le first r) (nat_le r (run_last (number a) rounds first)) parts.1 in
    let is = run_last_is (number a) rounds first few in
    sym (is.same r (leb-true first r span.0) (leb-true r _ span.1)) ∙ ap (λ b. number b r) (same_part_is a p parts.0)

all_say : (number : Part → ℕ → ℕ) (usual : Part → ℕ) (rounds : ℕ) (p : Part) (r : ℕ) (ps : List Part) → All (Says number p r) (flat_map (λ a. run_caps a (number a) (usual a) rounds) ps)
unfolding run_caps run_starts
all_say number usual rounds p r ps =
    all_of_flat (Says number p r) (λ a. run_caps a (number a) (usual a) rounds) ps (λ k d lt.
    let a : Part = get_or ps k d in
    All-map (Says number p r) (run_cap a (number a) rounds) (run_starts (number a) (usual a) rounds)
    (all_of_filter (begins_run (number a) (usual a)) (λ first. Says number p r (run_cap a (number a) rounds first)) (range_with_len 1 rounds) (all_of_range (λ first. begins_run (number a) (usual a) first ≡ true → Says number p r (run_cap a (number a) rounds first)) 1 rounds (λ first low high _. run_says number rounds p a r first (omega arith)))))

-- the run in which a round lies covers it
start_covers : (p : Part) (number : ℕ → ℕ) (usual rounds r : ℕ) → r ≤ rounds → (s : HasStart number usual r) → covers p r (run_cap p number rounds s.start) ≡ true
unfolding run_cap
start_covers p number usual rounds r few s =
    let before = s.before in
    let is = run_last_is number rounds s.start (omega arith) in
    let last : ℕ = run_last number rounds s.start in
    let to : r ≤ last = elim (cases_lt last r) [
      | inl over ↦
          let after = is.after in
          absurd (is.longest (omega arith) (s.same (last + 1) (omega arith) (omega arith) ∙ sym (s.same s.start (omega arith) before)))
      | inr still ↦ still
    ] in
    and_from _ _ (same_part p) (and_from (nat_le s.start r) _ (le-leb s.start r before) (le-leb r last to))

-- where none of a part's caps covers a round, no run of the part does
none_covers : (p : Part) (number : ℕ → ℕ) (usual rounds r : ℕ) → All (λ k. covers p r k ≡ false) (run_caps p number usual rounds) → (first : ℕ) → 1 ≤ first → first ≤ rounds → begins_run number usual first ≡ true → covers p r (run_cap p number rounds first) ≡ false
unfolding run_caps run_starts
none_covers p number usual rounds r none first some few begins =
    let fails : Cap → Type 0 = λ k. covers p r k ≡ false in
    let starts = each_of_map fails (run_cap p number rounds) (run_starts number usual rounds) none in
    let each = each_of_filter (begins_run number usual) (λ q. fails (run_cap p number rounds q)) (range_with_len 1 rounds) starts in
    each_of_range (λ q. begins_run number usual q ≡ true → fails (run_cap p number rounds q)) 1 rounds each first some (omega arith) begins

-- by the caps of all parts each takes its number in each round
pub cap_in_all : (c : Topology) (number : Part → ℕ → ℕ) (rounds : ℕ) (k : PartKind) (n r : ℕ) → IsThere c (part_of k n) → 1 ≤ r → r ≤ rounds → cap_in c (flat_map (λ a. run_caps a (number a) (openings c a) rounds) (all_parts c)) (part_of k n) r ≡ number (part_of k n) r
cap_in_all c number rounds k n r there some few =
    let p : Part = part_of k n in
    let caps : List Cap = flat_map (λ a. run_caps a (number a) (openings c a) rounds) (all_parts c) in
    elim (find (covers p r) caps) as (λ o. find (covers p r) caps ≡ o → option_map_or (λ (k : Cap). k.most) o (openings c p) ≡ number p r) [
      | Some k ↦ λ e. let holds = found_holds (Says number p r) (covers p r) caps k (all_say number (openings c) rounds p r (all_parts c)) e in holds.0 holds.1
      | None ↦ λ e. elim (cases_eq (number p r) (openings c p)) [
        | inl usually ↦ sym usually
        | inr other ↦
            let s = has_start (number p) (openings c p) r some other in
            let le = s.before in
            let covered = start_covers p (number p) (openings c p) rounds r few s in
            let fails : Cap → Type 0 = λ k. covers p r k ≡ false in
            let each = each_of_flat fails (λ a. run_caps a (number a) (openings c a) rounds) (all_parts c) (none_passes (covers p r) caps e) in
            let here = at_part c (λ a. All fails (run_caps a (number a) (openings c a) rounds)) each k n there in
            let uncovered = none_covers p (number p) (openings c p) rounds r here s.start s.some (omega arith) s.begins in
            absurd cc
      ]
    ] refl

-- the caps of a part by a row of its numbers
pub runs_of_row : (c : Topology) (rated opened : List Bool) (spare : List (Vec ℕ Global)) (qs : List Request) (p : Part) (row read : List ℕ) (usual asked kept rounds : ℕ) → read ≡ row → IsRow (cap_of c rated opened spare qs p) asked row → usual ≡ openings c p → asked ≡ kept → kept ≡ rounds → run_caps p (slice_index read) usual kept ≡ part_caps c rated opened spare qs rounds p
runs_of_row c rated opened spare qs p row read usual asked kept rounds same h is ask keep =
    rw (same, is, keep) (runs_alike p (slice_index row) (cap_of c rated opened spare qs p) (openings c p) rounds (λ q le. h.each q (omega arith)))
