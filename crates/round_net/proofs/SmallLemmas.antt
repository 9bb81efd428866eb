-- openings and weights are small
use Rattle.std.proofs.Common.{◌≡◌, ℕ, ◌+◌, ◌-◌, ◌≤◌, true, false, cond, List, [], ◌∷◌, ◌++◌, length, get_or, refl, ap, arith, Some, None, ◌==◌, All, slice_get, nat_lt, nat_le}
use Rattle.std.specs.List.{before_last}
use Rattle.std.specs.Option.{option_map_or}
use Rattle.std.proofs.lemmas.Bool.{and_parts, leb-true}
use Rattle.std.proofs.lemmas.Option.{slice_get_within, get_or_from_slice_get}
use Rattle.round_net.specs.Words.{Topology, IsConfig, are_openings, Adapter, Device, MAX_OPENINGS, is_tick, is_adjust_of, adjusts_to, round, last, names_device, device_openings, adapter_openings, link_openings, openings, Event, Adjust, Rules, is_legal_event, is_legal}
use Rattle.event_rules.proofs.OpeningLaws.{before_last-push}
use Rattle.event_rules.proofs.StateLaws.{last-push}
use Rattle.event_rules.proofs.LawLemmas.{allowed-legal_event}
use Rattle.event_rules.proofs.LimitLemmas.{legal-induction}
use Rattle.round_net.specs.Caps.{resource_openings, is_free, openings_in, sends_in, cap}
use Rattle.round_net.proofs.PlaceLemmas.{openings_in-opened, openings_in-kept}
use Rattle.cam_types.proofs.ConfigLemmas.{small_adapters, small_links, small_devices}
use Rattle.round_net.proofs.OpeningLemmas.{sends_in-openings}

-- what each item of a list has at most, an item of it has, and 0 where there is none
slice_or_small : {X : Type 0} (f : X → ℕ) (xs : List X) (i most : ℕ) → All (λ x. f x ≤ most) xs → option_map_or f (slice_get xs i) 0 ≤ most
slice_or_small f xs i most h = elim (slice_get xs i) as (λ o. slice_get xs i ≡ o → option_map_or f o 0 ≤ most) [
  | None ↦ λ e. omega arith
  | Some x ↦ λ e. let le : f (get_or xs i x) ≤ most = h i x (slice_get_within xs i x e) in let same : f (get_or xs i x) ≡ f x = ap f (get_or_from_slice_get xs i x x e) in omega arith
] refl

pub small_adapter_openings : (c : Topology) (a : ℕ) → IsConfig c → adapter_openings c a ≤ MAX_OPENINGS
small_adapter_openings c a is = slice_or_small (λ (x : Adapter). x.openings) c.adapters a MAX_OPENINGS (small_adapters c is)

pub small_link_openings : (c : Topology) (l : ℕ) → IsConfig c → link_openings c l ≤ MAX_OPENINGS
small_link_openings c l is = slice_or_small (λ n. n) c.links l MAX_OPENINGS (small_links c is)

pub small_device_openings : (c : Topology) (d : ℕ) → IsConfig c → device_openings c d ≤ MAX_OPENINGS
small_device_openings c d is = slice_or_small (λ (x : Device). x.openings) c.devices d MAX_OPENINGS (small_devices c is)

-- each device's openings, now and from the next round on, and each row's in each round
pub record AreSmall (c : Topology) (es : List Event) : Type 0 where
  pub next : (d : ℕ) → option_map_or adjusts_to (last (is_adjust_of d) es) (device_openings c d) ≤ MAX_OPENINGS
  pub now : (d : ℕ) → openings c es d ≤ MAX_OPENINGS
  pub each : (row r : ℕ) → openings_in c es row r ≤ MAX_OPENINGS

adjusted_small : (rules : Rules) (c : Topology) (es : List Event) (e : Event) (d : ℕ) → is_legal_event rules c (es, e) ≡ true → is_adjust_of d e ≡ true → adjusts_to e ≤ MAX_OPENINGS
adjusted_small rules c es (Adjust device openings') d legal is =
    let asked = (allowed-legal_event rules c es (Adjust device openings') legal).1 in
    let range = (and_parts (names_device c device) (are_openings openings') asked).1 in
    leb-true openings' MAX_OPENINGS (and_parts (nat_lt 0 openings') (nat_le openings' MAX_OPENINGS) range).1
adjusted_small rules c es _ d legal is = absurd cc

next_small : (rules : Rules) (c : Topology) (es : List Event) (e : Event) → is_legal_event rules c (es, e) ≡ true → AreSmall c es → (d : ℕ) → option_map_or adjusts_to (last (is_adjust_of d) (es ++ e ∷ [])) (device_openings c d) ≤ MAX_OPENINGS
next_small rules c es e legal is d =
    rw (last-push (is_adjust_of d) es e) (elim (is_adjust_of d e) as (λ b. is_adjust_of d e ≡ b → option_map_or adjusts_to (cond b (Some e) (last (is_adjust_of d) es)) (device_openings c d) ≤ MAX_OPENINGS) [
      | true ↦ λ adjusts. adjusted_small rules c es e d legal adjusts
      | false ↦ λ other. is.next d
    ] refl)

now_small : (c : Topology) (es : List Event) (e : Event) → AreSmall c es → (d : ℕ) → openings c (es ++ e ∷ []) d ≤ MAX_OPENINGS
unfolding openings
now_small c es e is d =
    rw (before_last-push is_tick es e) (elim (is_tick e) as (λ b. option_map_or adjusts_to (last (is_adjust_of d) (cond b es (before_last is_tick es))) (device_openings c d) ≤ MAX_OPENINGS) [
      | true ↦ is.next d
      | false ↦ is.now d
    ])

-- a row has its device's openings, its adapter's, or its link's
small_row : (c : Topology) (es : List Event) (row : ℕ) → IsConfig c → ((d : ℕ) → openings c es d ≤ MAX_OPENINGS) → resource_openings c es row ≤ MAX_OPENINGS
unfolding resource_openings
small_row c es row config now =
    let adapter : ℕ = row - length c.devices in
    let link : ℕ = row - (length c.devices + length c.adapters) in
    elim (nat_lt row (length c.devices)) as (λ b. cond b (openings c es row) (cond (nat_lt row (length c.devices + length c.adapters)) (adapter_openings c adapter) (link_openings c link)) ≤ MAX_OPENINGS) [
      | true ↦ now row
      | false ↦ elim (nat_lt row (length c.devices + length c.adapters)) as (λ b. cond b (adapter_openings c adapter) (link_openings c link) ≤ MAX_OPENINGS) [
        | true ↦ small_adapter_openings c adapter config
        | false ↦ small_link_openings c link config
      ]
    ]

each_small : (c : Topology) (es : List Event) (e : Event) → IsConfig c → AreSmall c es → (row r : ℕ) → openings_in c (es ++ e ∷ []) row r ≤ MAX_OPENINGS
each_small c es e config is row r = elim (is_tick e) as (λ b. is_tick e ≡ b → openings_in c (es ++ e ∷ []) row r ≤ MAX_OPENINGS) [
  | true ↦ λ ticks. rw (openings_in-opened c es e row r ticks) (elim (r == round (es ++ e ∷ [])) as (λ b. cond b (resource_openings c (es ++ e ∷ []) row) (openings_in c es row r) ≤ MAX_OPENINGS) [ true ↦ small_row c (es ++ e ∷ []) row config (now_small c es e is) | false ↦ is.each row r ])
  | false ↦ λ still. rw (openings_in-kept c es e row r still) (is.each row r)
] refl

openings_none : (c : Topology) → IsConfig c → (d : ℕ) → openings c [] d ≤ MAX_OPENINGS
unfolding openings
openings_none c is d = small_device_openings c d is

small-none : (c : Topology) → IsConfig c → AreSmall c []
unfolding openings_in
small-none c is = record {
  next = λ d. small_device_openings c d is;
  now = openings_none c is;
  each = λ row r. elim (round [] == r) as (λ b. option_map_or (λ before. resource_openings c before row) (slice_get (cond b ([] ∷ []) []) 0) 0 ≤ MAX_OPENINGS) [ true ↦ small_row c [] row is (openings_none c is) | false ↦ omega arith ];
}

small-legal : (rules : Rules) (c : Topology) (es : List Event) → IsConfig c → is_legal rules c es ≡ true → AreSmall c es
unfolding is_legal
small-legal rules c es config legal = legal-induction rules c (AreSmall c)
    (λ before event here is. record { next = next_small rules c before event here is; now = now_small c before event is; each = each_small c before event config is }) [] es legal (small-none c config)

pub small_cap : (rules : Rules) (c : Topology) (es : List Event) (row r : ℕ) → IsConfig c → is_legal rules c es ≡ true → cap c es row r ≤ MAX_OPENINGS
unfolding cap
small_cap rules c es row r config legal =
    let few = (small-legal rules c es config legal).each row r in
    let le = sends_in-openings rules c es row r legal in
    elim (is_free c es row r) as (λ b. cond b (openings_in c es row r) (sends_in c es row r) ≤ MAX_OPENINGS) [ true ↦ few | false ↦ omega arith ]
