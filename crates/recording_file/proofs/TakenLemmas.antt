-- A request takes of the room of its device, its adapter and its link, in its round.
use Rattle.std.proofs.Common.{◌≡◌, ◌<◌, ◌≤◌, ◌+◌, ◌-◌, ◌*◌, ℕ, List, [], ◌∷◌, ◌++◌, length, get_or, Bool, true, false, cond, refl, sym, ap, ◌∙◌, arith, length-set, ◌==◌, ◌&&◌, slice_index, Option, Some, None, option_map, IfSome}
use Rattle.std.specs.Option.{option_map_or}
use Rattle.std.proofs.lemmas.Bool.{eqb-true, eqb-false}
use Rattle.cam_types.specs.Topology.{Topology}
use Rattle.cam_types.specs.Questions.{device_adapter, adapter_link}
use Rattle.recording_file.specs.Caps.{Part, Cap, part_of, is_same_part, cap_in, PartKind}
use Rattle.recording_file.specs.declared.part.PartKind.TheVariants as kind
use Rattle.recording_file.specs.Recorded.{Request, takes_of, load, crowd_cause, DeviceFull, AdapterFull, LinkFull}
use Rattle.recording_file.specs.Room.{row_of, cell_of, IsCell, IsRoom}
use Rattle.recording_file.specs.Places.{places_of, full_at, taken_at, one_less, link_full, link_taken}
use Rattle.recording_file.proofs.RoomLemmas.{apart, row_few}
use Rattle.recording_file.proofs.PlaceLemmas.{AreCells, IsDevice, count_push, full_is_crowd, less_at, one_place}

cell_within : (rounds : ℕ) (p : Part) (round : ℕ) → IsCell rounds p round → cell_of rounds p round < 44 * rounds
cell_within rounds p round cell =
    let far = apart (row_of p) 44 rounds (row_few p.kind p.number cell.part) in
    let some = cell.some in
    let most = cell.most in
    omega arith

abbrev one : Bool → ℕ
one b = cond b 1 0

-- a link's place with one less
link_value : (cells : List ℕ) (o : Option ℕ) (i : ℕ) → IfSome o (λ at. at < length cells) → get_or (link_taken cells o) i 0 ≡ get_or cells i 0 - option_map_or (λ at. one (i == at)) o 0
link_value cells None i h = omega arith
link_value cells (Some at) i h = less_at cells at i h

taken_size : (cells : List ℕ) (d a : ℕ) (o : Option ℕ) → length (link_taken (one_less (one_less cells d) a) o) ≡ length cells
taken_size cells d a None = length-set _ a _ ∙ length-set cells d _
taken_size cells d a (Some at) = length-set _ at _ ∙ length-set _ a _ ∙ length-set cells d _

taken_value : (cells : List ℕ) (d a : ℕ) (o : Option ℕ) (i : ℕ) → d < length cells → a < length cells → IfSome o (λ at. at < length cells)
    → get_or (link_taken (one_less (one_less cells d) a) o) i 0 ≡ get_or cells i 0 - one (i == d) - one (i == a) - option_map_or (λ at. one (i == at)) o 0
taken_value cells d a o i h k l =
    let size = length-set cells d (get_or cells d 0 - 1) in
    let both = length-set (one_less cells d) a (get_or (one_less cells d) a 0 - 1) in
    let all : length (one_less (one_less cells d) a) ≡ length cells = both ∙ size in
    let first = less_at cells d i h in
    let next = less_at (one_less cells d) a i (omega arith) in
    let last = link_value (one_less (one_less cells d) a) o i (rw all l) in
    last ∙ ap (λ (n : ℕ). n - option_map_or (λ at. one (i == at)) o 0) (next ∙ ap (λ (n : ℕ). n - one (i == a)) first)

-- what a device's requests take of
abbrev same_by : Topology → ℕ → PartKind → ℕ → Bool
same_by c d kind.Device n = d == n
same_by c d kind.Adapter n = device_adapter c d == n
same_by c d kind.Link n = option_map_or (λ k. k == n) (adapter_link c (device_adapter c d)) false

takes_same : (c : Topology) (d : ℕ) (k : PartKind) (n : ℕ) → IsDevice c d → takes_of c (part_of k n) d ≡ same_by c d k n
takes_same c d kind.Device n w = refl
takes_same c d _ n w = rw w.1 refl

-- what is taken is there
not_full : (cells : List ℕ) (d a : ℕ) (o : Option ℕ) → full_at cells (record { device = d; adapter = a; link = o }) ≡ None
    → (1 ≤ get_or cells d 0) × (1 ≤ get_or cells a 0) × IfSome o (λ at. 1 ≤ get_or cells at 0)
not_full cells d a o e = by (get_or cells d 0 == 0) (get_or cells a 0 == 0) refl refl e
  where
    some : (n : ℕ) → (n == 0) ≡ false → 1 ≤ n
    some n e = let other = eqb-false n 0 e in omega arith

    last : (o : Option ℕ) → link_full cells o ≡ None → IfSome o (λ at. 1 ≤ get_or cells at 0)
    last None e = tt
    last (Some at) e = in_link (get_or cells at 0 == 0) refl e
      where
        in_link : (b : Bool) → (get_or cells at 0 == 0) ≡ b → cond b (Some LinkFull) None ≡ None → 1 ≤ get_or cells at 0
        in_link true is e = absurd cc
        in_link false is e = some _ is

    by : (x y : Bool) → (get_or cells d 0 == 0) ≡ x → (get_or cells a 0 == 0) ≡ y → cond x (Some DeviceFull) (cond y (Some AdapterFull) (link_full cells o)) ≡ None
        → (1 ≤ get_or cells d 0) × (1 ≤ get_or cells a 0) × IfSome o (λ at. 1 ≤ get_or cells at 0)
    by true y is it e = absurd cc
    by false true is it e = absurd cc
    by false false is it e = (some _ is, some _ it, last o e)

close : (v n cap x v' n' : ℕ) → v + n ≡ cap → (x ≡ 1 → 1 ≤ v) → x ≤ 1 → v' ≡ v - x → n' ≡ n + x → v' + n' ≡ cap
close v n cap x v' n' e some few is it = by (x == 1) refl
  where
    by : (b : Bool) → (x == 1) ≡ b → v' + n' ≡ cap
    by true h = let k = some (eqb-true x 1 h) in omega arith
    by false h = let k = eqb-false x 1 h in omega arith

one_few : (b : Bool) → one b ≤ 1
one_few true = omega arith
one_few false = omega arith

one_true : (b : Bool) → one b ≡ 1 → b ≡ true
one_true true e = refl
one_true false e = absurd (omega arith)

-- ---- one place after a request

-- what is known of a place beside a request's own places
record AtPlace (rounds : ℕ) (c : Topology) (q : Request) (k : PartKind) (n round : ℕ) (cells : List ℕ) : Type 0 where
  are : AreCells rounds c q.device q.sent
  there : IsDevice c q.device
  cell : IsCell rounds (part_of k n) round
  some : (1 ≤ get_or cells (cell_of rounds (part_of kind.Device q.device) q.sent) 0) × (1 ≤ get_or cells (cell_of rounds (part_of kind.Adapter (device_adapter c q.device)) q.sent) 0)
      × IfSome (option_map (λ l. cell_of rounds (part_of kind.Link l) q.sent) (adapter_link c (device_adapter c q.device))) (λ at. 1 ≤ get_or cells at 0)

abbrev place : ℕ → PartKind → ℕ → ℕ → ℕ
place rounds k n round = cell_of rounds (part_of k n) round

abbrev tests : ℕ → Topology → Request → PartKind → ℕ → ℕ → ℕ → ℕ
tests rounds c q k n round v =
    let i = place rounds k n round in
    v - one (i == place rounds kind.Device q.device q.sent) - one (i == place rounds kind.Adapter (device_adapter c q.device) q.sent)
    - option_map_or (λ at. one (i == at)) (option_map (λ l. place rounds kind.Link l q.sent) (adapter_link c (device_adapter c q.device))) 0

link_tests : (rounds : ℕ) (q : Request) (k : PartKind) (n round : ℕ) (o : Option ℕ) → IsCell rounds (part_of k n) round → IfSome o (λ l. IsCell rounds (part_of kind.Link l) q.sent)
    → option_map_or (λ at. one (place rounds k n round == at)) (option_map (λ l. place rounds kind.Link l q.sent) o) 0 ≡ option_map_or (λ l. one (is_same_part (part_of kind.Link l) (part_of k n) && (q.sent == round))) o 0
link_tests rounds q k n round None cell h = refl
link_tests rounds q k n round (Some l) cell h = ap one (one_place rounds (part_of k n) (part_of kind.Link l) round q.sent cell h)

same_tests : (rounds : ℕ) (c : Topology) (q : Request) (k : PartKind) (n round v : ℕ) (cells : List ℕ) → AtPlace rounds c q k n round cells
    → tests rounds c q k n round v ≡ v - one (is_same_part (part_of kind.Device q.device) (part_of k n) && (q.sent == round)) - one (is_same_part (part_of kind.Adapter (device_adapter c q.device)) (part_of k n) && (q.sent == round))
    - option_map_or (λ l. one (is_same_part (part_of kind.Link l) (part_of k n) && (q.sent == round))) (adapter_link c (device_adapter c q.device)) 0
same_tests rounds c q k n round v cells h =
    rw (
      one_place rounds (part_of k n) (part_of kind.Device q.device) round q.sent h.cell h.are.device,
      one_place rounds (part_of k n) (part_of kind.Adapter (device_adapter c q.device)) round q.sent h.cell h.are.adapter,
      link_tests rounds q k n round (adapter_link c (device_adapter c q.device)) h.cell h.are.link,
    ) refl

no_link : (o : Option ℕ) (t : Bool) → option_map_or (λ l. one (false && t)) o 0 ≡ 0
no_link None t = refl
no_link (Some l) t = refl

the_link : (o : Option ℕ) (n : ℕ) (t : Bool) → option_map_or (λ l. one ((l == n) && t)) o 0 ≡ one (option_map_or (λ l. l == n) o false && t)
the_link None n t = refl
the_link (Some l) n t = refl

-- one less is left where the request takes of the part in the round
less_left : (rounds : ℕ) (c : Topology) (q : Request) (k : PartKind) (n round v : ℕ) (cells : List ℕ) → AtPlace rounds c q k n round cells
    → tests rounds c q k n round v ≡ v - one (takes_of c (part_of k n) q.device && (q.sent == round))
less_left rounds c q kind.Device n round v cells h =
    same_tests rounds c q kind.Device n round v cells h ∙ (let z = no_link (adapter_link c (device_adapter c q.device)) (q.sent == round) in omega (arith, z))
less_left rounds c q kind.Adapter n round v cells h =
    let t = takes_same c q.device kind.Adapter n h.there in
    same_tests rounds c q kind.Adapter n round v cells h ∙ (let z = no_link (adapter_link c (device_adapter c q.device)) (q.sent == round) in rw t (omega (arith, z)))
less_left rounds c q kind.Link n round v cells h =
    let t = takes_same c q.device kind.Link n h.there in
    same_tests rounds c q kind.Link n round v cells h ∙ (let z = the_link (adapter_link c (device_adapter c q.device)) n (q.sent == round) in rw t (omega (arith, z)))

-- and there was one
was_some : (rounds : ℕ) (c : Topology) (q : Request) (k : PartKind) (n round : ℕ) (cells : List ℕ) → AtPlace rounds c q k n round cells
    → one (takes_of c (part_of k n) q.device && (q.sent == round)) ≡ 1 → 1 ≤ get_or cells (place rounds k n round) 0
was_some rounds c q kind.Device n round cells h e =
    let test = one_place rounds (part_of kind.Device n) (part_of kind.Device q.device) round q.sent h.cell h.are.device ∙ one_true _ e in
    rw (eqb-true _ _ test) h.some.0
was_some rounds c q kind.Adapter n round cells h e =
    let t = takes_same c q.device kind.Adapter n h.there in
    let same : ((device_adapter c q.device == n) && (q.sent == round)) ≡ true = ap (λ (b : Bool). b && (q.sent == round)) (sym t) ∙ one_true _ e in
    let test = one_place rounds (part_of kind.Adapter n) (part_of kind.Adapter (device_adapter c q.device)) round q.sent h.cell h.are.adapter ∙ same in
    rw (eqb-true _ _ test) h.some.1
was_some rounds c q kind.Link n round cells h e =
    let t = takes_same c q.device kind.Link n h.there in
    let same = ap (λ (b : Bool). b && (q.sent == round)) (sym t) ∙ one_true _ e in
    by (adapter_link c (device_adapter c q.device)) h.are.link h.some.2 same
  where
    by : (o : Option ℕ) → IfSome o (λ l. IsCell rounds (part_of kind.Link l) q.sent) → IfSome (option_map (λ l. cell_of rounds (part_of kind.Link l) q.sent) o) (λ at. 1 ≤ get_or cells at 0)
        → (option_map_or (λ l. l == n) o false && (q.sent == round)) ≡ true → 1 ≤ get_or cells (place rounds kind.Link n round) 0
    by None cell some e = absurd cc
    by (Some l) cell some e =
        let test = one_place rounds (part_of kind.Link n) (part_of kind.Link l) round q.sent h.cell cell ∙ e in
        rw (eqb-true _ _ test) some

-- ---- the table after a request

link_within : (rounds round : ℕ) (cells : List ℕ) (o : Option ℕ) → length cells ≡ 44 * rounds → IfSome o (λ l. IsCell rounds (part_of kind.Link l) round) → IfSome (option_map (λ l. cell_of rounds (part_of kind.Link l) round) o) (λ at. at < length cells)
link_within rounds round cells None size h = tt
link_within rounds round cells (Some l) size h = let k = cell_within rounds (part_of kind.Link l) round h in omega arith

pub taken_room : (rounds : ℕ) (c : Topology) (caps : List Cap) (before : List Request) (cells : List ℕ) (q : Request) → IsRoom rounds c caps before cells → AreCells rounds c q.device q.sent → IsDevice c q.device
    → crowd_cause c caps before q ≡ None → IsRoom rounds c caps (before ++ q ∷ []) (taken_at cells (places_of rounds c q.device q.sent))
taken_room rounds c caps before cells q h are there none =
    record { size = taken_size cells _ _ _ ∙ h.size; room = λ p round cell. by p.kind p.number round cell }
  where
    by : (k : PartKind) (n round : ℕ) → IsCell rounds (part_of k n) round
        → slice_index (taken_at cells (places_of rounds c q.device q.sent)) (cell_of rounds (part_of k n) round) + load c (before ++ q ∷ []) (part_of k n) round ≡ cap_in c caps (part_of k n) round
    by k n round cell =
        let at : AtPlace rounds c q k n round cells = record {
          are = are;
          there = there;
          cell = cell;
          some = not_full cells _ _ _ (full_is_crowd rounds c caps before cells q h are ∙ none);
        } in
        let size = h.size in
        let first = cell_within rounds _ q.sent are.device in
        let next = cell_within rounds _ q.sent are.adapter in
        close (get_or cells (place rounds k n round) 0) (load c before (part_of k n) round) (cap_in c caps (part_of k n) round) (one (takes_of c (part_of k n) q.device && (q.sent == round))) _ _
        (h.room (part_of k n) round cell) (was_some rounds c q k n round cells at) (one_few _)
        (taken_value cells _ _ _ (place rounds k n round) (omega arith) (omega arith) (link_within rounds q.sent cells (adapter_link c (device_adapter c q.device)) size are.link) ∙ less_left rounds c q k n round (get_or cells (place rounds k n round) 0) cells at)
        (count_push (λ (r : Request). takes_of c (part_of k n) r.device && (r.sent == round)) before q)
