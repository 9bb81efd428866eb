-- the devices' readiness, set one after another
use Rattle.std.proofs.Common.{◌≡◌, ℕ, ◌+◌, ◌<◌, ◌≤◌, Bool, true, false, cond, List, [], ◌∷◌, length, get_or, refl, sym, ap, ◌∙◌, arith, Option, Some, None, map, zero-add, ◌==◌, ◌&&◌, ◌||◌, nat_lt, filter, slice_get}
use Rattle.std.specs.List.{list_any}
use Rattle.std.specs.Option.{option_map, option_map_or}
use Rattle.std.proofs.lemmas.Bool.{and_from, eqb-true, lt-ltb}
use Rattle.std.proofs.lemmas.List.Folds.{list_any_at}
use Rattle.std.proofs.lemmas.Bool.Decides.{nat_tests}
use Rattle.std.proofs.lemmas.List.{length-map}
use Rattle.std.proofs.lemmas.List.FromFn.{length-range_with_len, get_or-range_with_len}
use Rattle.xpt_core.specs.Words.{Topology, IsConfig, is_on, device_adapter, adapter_openings, devices, Event, Adapter, is_named, Row}
use Rattle.cam_types.specs.declared.device.Device.{Device}
use Rattle.event_rules.proofs.StateLaws.{map-range_same}
use Rattle.xpt_core.specs.Ready.{ready_priority}
use Rattle.xpt_core.specs.Known.{Known, row_of, adapter_of, adapters_of, adapters, set_at}
use Rattle.xpt_core.specs.AdapterUpdates.{with_ready, all_ready, AreAdapters}
use Rattle.xpt_core.specs.Places.{at_place}
use Rattle.cam_types.proofs.ConfigLemmas.{bus-there}
use Rattle.xpt_core.proofs.PlaceLemmas.{value_at}
use Rattle.xpt_core.proofs.RefreshLaws.{one-ready, each-ready}
use Rattle.xpt_core.proofs.RowLemmas.{adapter, row-same, rows_where, on-bus, on-there}

-- the adapter that the configuration answers
pub adapter_read : (c k : Topology) (d n : ℕ) (o : Option ℕ) → k ≡ c → o ≡ option_map (λ (x : Device). x.bus) (slice_get k.devices d) → o ≡ Some n → n ≡ device_adapter c d
adapter_read c k d n o same is some =
    ap (λ p. option_map_or (λ m. m) p 0) (sym some ∙ is) ∙ by (slice_get k.devices d) ∙ ap (λ t. device_adapter t d) same
  where
    by : (p : Option Device) → option_map_or (λ (m : ℕ). m) (option_map (λ (x : Device). x.bus) p) 0 ≡ option_map_or (λ (x : Device). x.bus) p 0
    by None = refl
    by (Some x) = refl

pub bus_within : (c : Topology) (ss : List Adapter) (d m n : ℕ) → IsConfig c → d < length c.devices → n ≡ device_adapter c d → m ≡ length ss → AreAdapters c ss → n < m
bus_within c ss d m n config lt is len are =
    omega (arith, is, len, bus-there c d config lt, ap length are.is, length-map (adapters c) (adapter_of c are.by), length-range_with_len 0 (length c.adapters))

-- a device is named by its adapter
or_cases : (q : Row → Bool) (r : Row) (rs : List Row) (b : Bool) → list_any q (cond b (r ∷ rs) rs) ≡ ((b && q r) || list_any q rs)
or_cases q r rs true = refl
or_cases q r rs false = refl

map_cases : (k : Known) (x : ℕ) (xs : List ℕ) (b : Bool) → map (row_of k) (cond b (x ∷ xs) xs) ≡ cond b (row_of k x ∷ map (row_of k) xs) (map (row_of k) xs)
map_cases k x xs true = refl
map_cases k x xs false = refl

any-rows : (k : Known) (p : ℕ → Bool) (q : Row → Bool) (xs : List ℕ) → list_any q (map (row_of k) (filter p xs)) ≡ list_any (λ x. p x && q (row_of k x)) xs
any-rows k p q [] = refl
any-rows k p q (x ∷ xs) =
    ap (list_any q) (map_cases k x (filter p xs) (p x)) ∙ or_cases q (row_of k x) (map (row_of k) (filter p xs)) (p x) ∙ ap (λ b. (p x && q (row_of k x)) || b) (any-rows k p q xs)

same_number : (a : ℕ) → (a == a) ≡ true
same_number a = grind (arith, nat_tests)

pub named-at : (c : Topology) (ss : List Adapter) (d n : ℕ) (s : Adapter) → IsConfig c → d < length c.devices → n ≡ device_adapter c d → AreAdapters c ss → s ≡ get_or ss n s → is_named d s.rows ≡ true
named-at c ss d n s config lt is are read =
    let there : n < length c.adapters = omega (arith, is, bus-there c d config lt) in
    let own : s ≡ adapter_of c are.by n = value_at (adapter_of c are.by) (length c.adapters) n s there (read ∙ ap (λ xs. get_or xs n s) are.is) in
    let on : is_on c n d ≡ true = on-bus c d lt n ∙ ap (λ b. b == n) (sym is) ∙ same_number n in
    let at : get_or (devices c) d 0 ≡ d = get_or-range_with_len 0 (length c.devices) d 0 lt ∙ zero-add d in
    let test : ℕ → Bool = λ x. is_on c n x && ((row_of are.by x).device == d) in
    ap (λ (t : Adapter). is_named d t.rows) own ∙ any-rows are.by (is_on c n) (λ r. r.device == d) (devices c)
    ∙ list_any_at test (devices c) d 0 (omega (arith, lt, length-range_with_len 0 (length c.devices))) (ap test at ∙ and_from _ _ on (same_number d))

-- the devices below a number ready by f, the others by g
abbrev pub below : ℕ → (ℕ → Option ℕ) → (ℕ → Option ℕ) → ℕ → Option ℕ
below n f g x = cond (nat_lt x n) (f x) (g x)

below_more : (n : ℕ) (f g : ℕ → Option ℕ) (x : ℕ) (b : Bool) → (n == x) ≡ b → below (n + 1) f g x ≡ cond b (f n) (below n f g x)
below_more n f g x true e =
    let same : n ≡ x = eqb-true n x e in
    let lt : nat_lt x (n + 1) ≡ true = lt-ltb x (n + 1) (omega arith) in
    ap (λ t. cond t (f x) (g x)) lt ∙ ap f (sym same)
below_more n f g x false e =
    let lt : nat_lt x (n + 1) ≡ nat_lt x n = grind (arith, nat_tests) in
    ap (λ t. cond t (f x) (g x)) lt

below_none : (f g : ℕ → Option ℕ) (x : ℕ) → below 0 f g x ≡ g x
below_none f g x = let lt : nat_lt x 0 ≡ false = grind (arith, nat_tests) in ap (λ t. cond t (f x) (g x)) lt

-- adapters of which as much is known, where devices are
same_where : (c : Topology) (k : Known) (f g : ℕ → Option ℕ) → ((x : ℕ) → x < length c.devices → f x ≡ g x) → adapters_of c (record k { ready = f }) ≡ adapters_of c (record k { ready = g })
same_where c k f g h =
    map-range_same (adapter_of c (record k { ready = g })) (adapter_of c (record k { ready = f })) 0 (length c.adapters)
    (λ a low lt. ap (λ rows. adapter rows (adapter_openings c a) (k.sent a) (k.callers a))
    (rows_where (record k { ready = g }) (record k { ready = f }) (is_on c a) (λ x on. row-same x _ _ _ _ refl (h x (on-there c a x on))) (devices c)))

-- so far, the devices below a number
abbrev pub SoFar : Topology → List Event → List Adapter → ℕ → List Adapter → Type 0
SoFar c es before n now =
    (k : Known) → before ≡ adapters_of c k → now ≡ adapters_of c (record k { ready = below n (ready_priority c es) k.ready })

pub so_far-start : (c : Topology) (es : List Event) (ss : List Adapter) → SoFar c es ss 0 ss
so_far-start c es ss k is = is ∙ same_where c k k.ready (below 0 (ready_priority c es) k.ready) (λ x lt. sym (below_none (ready_priority c es) k.ready x))

pub so_far-step : (c : Topology) (es : List Event) (before now ss : List Adapter) (d : ℕ) → d < length c.devices → SoFar c es before d now → ss ≡ at_place (device_adapter c d) (with_ready c es d) now → SoFar c es before (d + 1) ss
so_far-step c es before now ss d lt h made k is =
    let f = ready_priority c es in
    made ∙ ap (at_place (device_adapter c d) (with_ready c es d)) (h k is) ∙ one-ready c (record k { ready = below d f k.ready }) es d lt
    ∙ same_where c k (set_at d (f d) (below d f k.ready)) (below (d + 1) f k.ready) (λ x in_range. sym (below_more d f k.ready x (d == x) refl))

pub so_far-adapters : (c : Topology) (es : List Event) (before now : List Adapter) (n : ℕ) → AreAdapters c before → SoFar c es before n now → AreAdapters c now
so_far-adapters c es before now n are h = record { by = record are.by { ready = below n (ready_priority c es) are.by.ready }; is = h are.by are.is }

pub so_far-end : (c : Topology) (es : List Event) (before now : List Adapter) (n : ℕ) → length c.devices ≤ n → AreAdapters c before → SoFar c es before n now → now ≡ map (all_ready c es) before
so_far-end c es before now n le are h =
    let f = ready_priority c es in
    h are.by are.is
    ∙ same_where c are.by (below n f are.by.ready) f (λ x lt. ap (λ t. cond t (f x) (are.by.ready x)) (lt-ltb x n (omega arith)))
    ∙ sym (each-ready c are.by es) ∙ ap (map (all_ready c es)) (sym are.is)
