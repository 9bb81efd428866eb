-- Where a request stands in the table of room, and what that says.
use Rattle.std.proofs.Common.{◌≡◌, ◌≢◌, ◌<◌, ◌≤◌, ◌+◌, ◌-◌, ◌*◌, ℕ, List, [], ◌∷◌, ◌++◌, ◌⊎◌, inl, inr, length, get_or, Bool, true, false, cond, refl, sym, ap, ◌∙◌, arith, zero, suc, ◌==◌, ◌&&◌, nat_le, slice_index, slice_get, Option, Some, None, option_map, option_and_then, unwrap_or, find, IfSome, count_by, sum_by, get_or-set_same, get_or-set_other}
use Rattle.std.specs.List.{AllByRecursion}
use Rattle.std.proofs.lemmas.List.Elements.{recursion_from_All}
use Rattle.std.specs.Option.{option_map_or, option_map as map_some}
use Rattle.std.proofs.lemmas.List.Sums.{sum_by-append}
use Rattle.std.proofs.lemmas.Option.{slice_get_cases}
use Rattle.recording_file.proofs.RoomLemmas.{same_row, one_part, one_kind}
use Rattle.std.proofs.lemmas.Bool.{and_parts, eq-eqb, eqb-true, ltb-true}
use Rattle.std.proofs.lemmas.Bool.Decides.{nat_tests}
use Rattle.cam_types.specs.Topology.{Topology, IsConfig, names_link}
use Rattle.cam_types.specs.Questions.{names_device, device_adapter, adapter_link}
use Rattle.cam_types.specs.declared.adapter.Adapter.{Adapter}
use Rattle.cam_types.specs.declared.device.Device.{Device}
use Rattle.cam_types.proofs.ConfigLemmas.{few_devices, few_adapters, few_links, bus-there, adapters_on_links}
use Rattle.recording_file.specs.Caps.{Part, Cap, part_of, part_rank, is_same_part, PartKind}
use Rattle.recording_file.specs.declared.part.PartKind.TheVariants as kind
use Rattle.recording_file.specs.Recorded.{Request, link_parts, is_full, full_cause, crowd_cause, DeviceFull, AdapterFull, LinkFull}
use Rattle.recording_file.specs.Room.{row_of, row_by, cell_of, IsCell, IsRoom}
use Rattle.recording_file.specs.Places.{places_of, full_at, one_less, link_full}

-- ---- numbers of what there is

pub device_there : (c : Topology) (d : ℕ) → IsConfig c → names_device c d ≡ true → d < 32
device_there c d h e = let few = few_devices c h in let less = ltb-true _ _ e in omega arith

pub adapter_there : (c : Topology) (d : ℕ) → IsConfig c → names_device c d ≡ true → device_adapter c d < 8
adapter_there c d h e = let few = few_adapters c h in let less = bus-there c d h (ltb-true _ _ e) in omega arith

link_by : (n : ℕ) (adapters : List Adapter) (i : ℕ) → AllByRecursion (λ (x : Adapter). names_link n x.link ≡ true) adapters → IfSome (option_and_then (λ (x : Adapter). x.link) (slice_get adapters i)) (λ l. l < n)
link_by n [] i h = tt
link_by n (x ∷ xs) zero h = by x.link h.0
  where
    by : (l : Option ℕ) → names_link n l ≡ true → IfSome l (λ k. k < n)
    by None e = tt
    by (Some k) e = ltb-true k n e
link_by n (x ∷ xs) (suc i) h = link_by n xs i h.1

few_by : (o : Option ℕ) (n : ℕ) → n ≤ 4 → IfSome o (λ l. l < n) → IfSome o (λ l. l < 4)
few_by None n few h = tt
few_by (Some l) n few h = omega arith

pub link_there : (c : Topology) (a : ℕ) → IsConfig c → IfSome (adapter_link c a) (λ l. l < 4)
link_there c a h = few_by (adapter_link c a) (length c.links) (few_links c h) (link_by (length c.links) c.adapters a (recursion_from_All _ c.adapters (adapters_on_links c h)))

-- ---- the cells of a request

-- the cells of a device, its adapter and its link, in a round
pub record AreCells (rounds : ℕ) (c : Topology) (d round : ℕ) : Type 0 where
  pub device : IsCell rounds (part_of kind.Device d) round
  pub adapter : IsCell rounds (part_of kind.Adapter (device_adapter c d)) round
  pub link : IfSome (adapter_link c (device_adapter c d)) (λ l. IsCell rounds (part_of kind.Link l) round)

pub are_cells : (rounds : ℕ) (c : Topology) (d round : ℕ) → IsConfig c → names_device c d ≡ true → 1 ≤ round → round ≤ rounds → AreCells rounds c d round
are_cells rounds c d round h there some most =
    record {
      device = record { part = device_there c d h there; some = some; most = most };
      adapter = record { part = adapter_there c d h there; some = some; most = most };
      link = by (adapter_link c (device_adapter c d)) (link_there c (device_adapter c d) h);
    }
  where
    by : (o : Option ℕ) → IfSome o (λ l. l < 4) → IfSome o (λ l. IsCell rounds (part_of kind.Link l) round)
    by None k = tt
    by (Some l) k = record { part = k; some = some; most = most }

-- ---- which of them is full

empty_full : (v n cap : ℕ) → v + n ≡ cap → (v == 0) ≡ nat_le cap n
empty_full v n cap e = grind (arith, nat_tests)

cell_full : (rounds : ℕ) (c : Topology) (caps : List Cap) (before : List Request) (cells : List ℕ) (p : Part) (round : ℕ) → IsRoom rounds c caps before cells → IsCell rounds p round
    → (slice_index cells (cell_of rounds p round) == 0) ≡ is_full c caps before round p
cell_full rounds c caps before cells p round h cell = empty_full _ _ _ (h.room p round cell)

pub full_is_crowd : (rounds : ℕ) (c : Topology) (caps : List Cap) (before : List Request) (cells : List ℕ) (q : Request) → IsRoom rounds c caps before cells → AreCells rounds c q.device q.sent
    → full_at cells (places_of rounds c q.device q.sent) ≡ crowd_cause c caps before q
unfolding crowd_cause
full_is_crowd rounds c caps before cells q h are =
    rw (cell_full rounds c caps before cells (part_of kind.Device q.device) q.sent h are.device, cell_full rounds c caps before cells (part_of kind.Adapter (device_adapter c q.device)) q.sent h are.adapter)
    (by (is_full c caps before q.sent (part_of kind.Device q.device)) (is_full c caps before q.sent (part_of kind.Adapter (device_adapter c q.device))) (adapter_link c (device_adapter c q.device)) are.link)
  where
    last : (l : ℕ) (b : Bool) → cond b (Some LinkFull) None ≡ option_map (λ (p : Part). full_cause p.kind) (cond b (Some (part_of kind.Link l)) None)
    last l true = refl
    last l false = refl

    by : (a b : Bool) (o : Option ℕ) → IfSome o (λ l. IsCell rounds (part_of kind.Link l) q.sent)
        → cond a (Some DeviceFull) (cond b (Some AdapterFull) (link_full cells (option_map (λ l. cell_of rounds (part_of kind.Link l) q.sent) o)))
        ≡ option_map (λ (p : Part). full_cause p.kind) (cond a (Some (part_of kind.Device q.device)) (cond b (Some (part_of kind.Adapter (device_adapter c q.device))) (find (is_full c caps before q.sent) (link_parts o))))
    by true b o k = refl
    by false true o k = refl
    by false false None k = refl
    by false false (Some l) k = rw (cell_full rounds c caps before cells (part_of kind.Link l) q.sent h k) (last l (is_full c caps before q.sent (part_of kind.Link l)))

-- ---- what a request takes

pub count_push : {X : Type 0} (p : X → Bool) (xs : List X) (x : X) → count_by p (xs ++ x ∷ []) ≡ count_by p xs + cond (p x) 1 0
count_push p xs x =
    let both = sum_by-append (λ y. cond (p y) 1 0) xs (x ∷ []) in
    let one : sum_by (λ y. cond (p y) 1 0) (x ∷ []) ≡ cond (p x) 1 0 = omega arith in
    omega (arith, both, one)

pub less_at : (cells : List ℕ) (at i : ℕ) → at < length cells → get_or (one_less cells at) i 0 ≡ get_or cells i 0 - cond (i == at) 1 0
less_at cells at i h = by (i == at) refl
  where
    by : (b : Bool) → (i == at) ≡ b → get_or (one_less cells at) i 0 ≡ get_or cells i 0 - cond b 1 0
    by true e = rw (eqb-true i at e) (get_or-set_same cells at (get_or cells at 0 - 1) 0 h)
    by false e =
        let other : i ≢ at = (λ same. let wrong = sym e ∙ eq-eqb i at same in cc) in
        get_or-set_other cells at i (get_or cells at 0 - 1) 0 other ∙ omega arith

-- two places are one exactly if their parts and rounds are the same
pub one_place : (rounds : ℕ) (p q : Part) (round other : ℕ) → IsCell rounds p round → IsCell rounds q other → (cell_of rounds p round == cell_of rounds q other) ≡ (is_same_part q p && (other == round))
one_place rounds p q round other a b = both _ _ forth back
  where
    both : (x y : Bool) → (x ≡ true → y ≡ true) → (y ≡ true → x ≡ true) → x ≡ y
    both true y f g = sym (f refl)
    both false true f g = g refl
    both false false f g = refl

    forth : (cell_of rounds p round == cell_of rounds q other) ≡ true → (is_same_part q p && (other == round)) ≡ true
    forth e =
        let same = eqb-true _ _ e in
        let k = a.some in
        let l = a.most in
        let m = b.some in
        let n = b.most in
        let rows = same_row (row_of p) (row_of q) (round - 1) (other - 1) rounds (omega arith) (omega arith) same in
        let one = one_part p.kind q.kind p.number q.number a.part b.part rows in
        let time : other ≡ round = (let t = rw rows at same in omega arith) in
        rw (eq-eqb _ _ (sym one.0), eq-eqb _ _ (sym one.1), eq-eqb _ _ time) refl

    back : (is_same_part q p && (other == round)) ≡ true → (cell_of rounds p round == cell_of rounds q other) ≡ true
    back e =
        let g = and_parts (is_same_part q p) _ e in
        let k = and_parts (part_rank q.kind == part_rank p.kind) _ g.0 in
        let kinds = one_kind q.kind p.kind (eqb-true _ _ k.0) in
        let numbers = eqb-true q.number p.number k.1 in
        let rows : row_of q ≡ row_of p = ap (λ (x : PartKind). row_by x q.number) kinds ∙ ap (row_by p.kind) numbers in
        let time = eqb-true other round g.1 in
        eq-eqb _ _ (sym (ap (λ (x : ℕ). x * rounds + (other - 1)) rows ∙ ap (λ (x : ℕ). row_of p * rounds + (x - 1)) time))

-- the device is there, and is this
abbrev pub IsDevice : Topology → ℕ → Type 0
IsDevice c d = (x : Device) × (slice_get c.devices d ≡ Some x)

pub is_device : (c : Topology) (d : ℕ) → names_device c d ≡ true → IsDevice c d
is_device c d e = by (slice_get c.devices d) (slice_get_cases c.devices d).1
  where
    by : (o : Option Device) → ((x : Device) × (d < length c.devices) × (o ≡ Some x) × (get_or c.devices d x ≡ x)) ⊎ ((length c.devices ≤ d) × (o ≡ None)) → (x : Device) × (o ≡ Some x)
    by o k = elim k [ inl w ↦ (w.0, w.2) | inr w ↦ absurd (let less = ltb-true _ _ e in let more = w.0 in omega arith) ]

pub adapter_is : (c : Topology) (d : ℕ) (o : Option ℕ) (n : ℕ) → o ≡ map_some (λ (x : Device). x.bus) (slice_get c.devices d) → n ≡ unwrap_or o 0 → n ≡ device_adapter c d
adapter_is c d o n e is = is ∙ ap (λ (p : Option ℕ). unwrap_or p 0) e ∙ by (slice_get c.devices d)
  where
    by : (x : Option Device) → unwrap_or (map_some (λ (y : Device). y.bus) x) 0 ≡ option_map_or (λ (y : Device). y.bus) x 0
    by None = refl
    by (Some x) = refl
