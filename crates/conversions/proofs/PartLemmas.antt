-- rows and the devices, adapters and links that have them
use Rattle.std.proofs.Common.{◌≡◌, ℕ, ◌+◌, ◌-◌, ◌<◌, true, false, cond, length, refl, ap, subst, arith, ◌==◌, nat_lt, Some}
use Rattle.std.proofs.lemmas.Bool.{ltb-true, ltb-false, lt-ltb, eqb-true, eq-eqb}
use Rattle.cam_types.specs.Topology.{Topology, IsConfig, names_link}
use Rattle.cam_types.specs.Questions.{is_on, is_under, device_adapter, adapter_link}
use Rattle.cam_types.specs.declared.adapter.Adapter.{Adapter}
use Rattle.cam_types.proofs.ConfigLemmas.{bus-there, adapters_on_links}
use Rattle.recording_file.specs.Caps.{part_of, part_count, is_same_part, is_part_before}
use Rattle.recording_file.specs.Counts.{counts_of}
use Rattle.recording_file.specs.Recorded.{takes_of}
use Rattle.recording_file.specs.declared.part.PartKind.TheVariants as kind
use Rattle.recording_file.specs.declared.part.Part.{Part}
use Rattle.round_net.specs.Caps.{resource_count, carries}
use Rattle.round_net.specs.RecordedNets.{part_of_resource}
use Rattle.round_net.proofs.FilledLemmas.{element, at_element}
use Rattle.round_net.proofs.OwnerLemmas.{by_resource_device, by_resource_adapter, by_resource_link}
use Rattle.conversions.specs.Recorded.{without_lanes}

module _ (c : Topology) where
  abbrev adapters_from : ℕ
  adapters_from = length c.devices

  abbrev links_from : ℕ
  links_from = length c.devices + length c.adapters

  -- what holds of each device's row, of each adapter's and of each link's holds of each row
  pub by_part : (P : ℕ → Part → Type 0) → ((d : ℕ) → d < length c.devices → P d (part_of kind.Device d)) → ((a : ℕ) → a < length c.adapters → P (adapters_from + a) (part_of kind.Adapter a)) → ((l : ℕ) → P (links_from + l) (part_of kind.Link l)) → (row : ℕ) → P row (part_of_resource c row)
  by_part P of_device of_adapter of_link row =
      elim (nat_lt row adapters_from) as (λ b. nat_lt row adapters_from ≡ b → P row (cond b (part_of kind.Device row) (cond (nat_lt row links_from) (part_of kind.Adapter (row - adapters_from)) (part_of kind.Link (row - links_from))))) [
        | true ↦ λ is. of_device row (ltb-true row adapters_from is)
        | false ↦ λ other.
            let past = ltb-false row adapters_from other in
            elim (nat_lt row links_from) as (λ b. nat_lt row links_from ≡ b → P row (cond b (part_of kind.Adapter (row - adapters_from)) (part_of kind.Link (row - links_from)))) [
              | true ↦ λ is.
                  let before = ltb-true row links_from is in
                  let at : adapters_from + (row - adapters_from) ≡ row = omega arith in
                  subst (λ (r : ℕ). P r (part_of kind.Adapter (row - adapters_from))) at (of_adapter (row - adapters_from) (omega arith))
              | false ↦ λ beyond.
                  let behind = ltb-false row links_from beyond in
                  let at : links_from + (row - links_from) ≡ row = omega arith in
                  subst (λ (r : ℕ). P r (part_of kind.Link (row - links_from))) at (of_link (row - links_from))
            ] refl
      ] refl

  -- no two rows have one part
  pub one_row : (row other : ℕ) → is_same_part (part_of_resource c other) (part_of_resource c row) ≡ true → other ≡ row
  one_row row other =
      by_part (λ r p. (o : ℕ) → is_same_part (part_of_resource c o) p ≡ true → o ≡ r)
      (λ d lt o. by_part (λ o p. is_same_part p (part_of kind.Device d) ≡ true → o ≡ d) (λ e lt' is. eqb-true e d is) (λ a lt' is. absurd cc) (λ l is. absurd cc) o)
      (λ a lt o. by_part (λ o p. is_same_part p (part_of kind.Adapter a) ≡ true → o ≡ adapters_from + a) (λ e lt' is. absurd cc) (λ b lt' is. ap (λ n. adapters_from + n) (eqb-true b a is)) (λ l is. absurd cc) o)
      (λ l o. by_part (λ o p. is_same_part p (part_of kind.Link l) ≡ true → o ≡ links_from + l) (λ e lt' is. absurd cc) (λ b lt' is. absurd cc) (λ m is. ap (λ n. links_from + n) (eqb-true m l is)) o)
      row other

  -- parts come in the order of their rows
  pub rows_in_order : (row other : ℕ) → other < row → is_part_before (part_of_resource c other) (part_of_resource c row) ≡ true
  rows_in_order row other =
      by_part (λ r p. (o : ℕ) → o < r → is_part_before (part_of_resource c o) p ≡ true)
      (λ d lt o. by_part (λ o p. o < d → is_part_before p (part_of kind.Device d) ≡ true) (λ e lt' before. lt-ltb e d before) (λ a lt' before. absurd (omega arith)) (λ l before. absurd (omega arith)) o)
      (λ a lt o. by_part (λ o p. o < adapters_from + a → is_part_before p (part_of kind.Adapter a) ≡ true) (λ e lt' before. refl) (λ b lt' before. lt-ltb b a (omega arith)) (λ l before. absurd (omega arith)) o)
      (λ l o. by_part (λ o p. o < links_from + l → is_part_before p (part_of kind.Link l) ≡ true) (λ e lt' before. refl) (λ b lt' before. refl) (λ m before. lt-ltb m l (omega arith)) o)
      row other

  -- a row's part is there
  pub part_there : (row : ℕ) → row < resource_count c → nat_lt (part_of_resource c row).number (part_count (counts_of c) (part_of_resource c row).kind) ≡ true
  part_there row = by_part (λ r p. r < resource_count c → nat_lt p.number (part_count (counts_of c) p.kind) ≡ true)
      (λ d lt within. lt-ltb d (length c.devices) lt)
      (λ a lt within. lt-ltb a (length c.adapters) lt)
      (λ l within. lt-ltb l (length c.links) (omega arith))
      row

  -- what a row carries, its part takes
  pub carries_takes : (row device : ℕ) → carries c row device ≡ takes_of c (part_of_resource c row) device
  carries_takes row device =
      elim (nat_lt row adapters_from) as (λ b. cond b (device == row) (cond (nat_lt row links_from) (is_on c (row - adapters_from) device) (is_under c (row - links_from) device)) ≡ takes_of c (cond b (part_of kind.Device row) (cond (nat_lt row links_from) (part_of kind.Adapter (row - adapters_from)) (part_of kind.Link (row - links_from)))) device) [
        | true ↦ refl
        | false ↦ elim (nat_lt row links_from) as (λ b. cond b (is_on c (row - adapters_from) device) (is_under c (row - links_from) device) ≡ takes_of c (cond b (part_of kind.Adapter (row - adapters_from)) (part_of kind.Link (row - links_from))) device) [ true ↦ refl | false ↦ refl ]
      ]

-- a part has this row, and takes the requests of the device
pub record HasRow (c : Topology) (device : ℕ) (p : Part) : Type 0 where
  pub row : ℕ
  pub within : row < resource_count c
  pub is : part_of_resource c row ≡ p
  pub takes : takes_of c p device ≡ true

pub device_resource : (c : Topology) (d : ℕ) → d < length c.devices → HasRow c d (part_of kind.Device d)
device_resource c d lt = record {
  row = d;
  within = omega arith;
  is = by_resource_device c (part_of kind.Device) (part_of kind.Adapter) (part_of kind.Link) d d (refl, lt);
  takes = eq-eqb d d refl;
}

pub adapter_resource : (c : Topology) (d : ℕ) → IsConfig (without_lanes c) → d < length c.devices → HasRow c d (part_of kind.Adapter (device_adapter c d))
adapter_resource c d config lt =
    let a : ℕ = device_adapter c d in
    let there : a < length c.adapters = bus-there (without_lanes c) d config lt in
    let device = element c.devices d lt in
    record {
      row = length c.devices + a;
      within = omega arith;
      is = by_resource_adapter c (part_of kind.Device) (part_of kind.Adapter) (part_of kind.Link) (length c.devices + a) a (refl, there);
      takes = rw device.1 (eq-eqb device.0.bus device.0.bus refl);
    }

pub link_resource : (c : Topology) (d l : ℕ) → IsConfig (without_lanes c) → d < length c.devices → adapter_link c (device_adapter c d) ≡ Some l → HasRow c d (part_of kind.Link l)
link_resource c d l config lt on =
    let device = element c.devices d lt in
    let adapter = element c.adapters (device_adapter c d) (bus-there (without_lanes c) d config lt) in
    let bus : device_adapter c d ≡ device.0.bus = rw device.1 refl in
    let link : adapter.0.link ≡ Some l = rw adapter.1 at on in
    let named = at_element (λ (x : Adapter). names_link (length c.links) x.link ≡ true) c.adapters (device_adapter c d) adapter.0 (adapters_on_links (without_lanes c) config) adapter.1 in
    let there : nat_lt l (length c.links) ≡ true = rw link at named in
    let under : adapter_link c device.0.bus ≡ Some l = rw bus at on in
    record {
      row = length c.devices + length c.adapters + l;
      within = let lt' = ltb-true l (length c.links) there in omega arith;
      is = by_resource_link c (part_of kind.Device) (part_of kind.Adapter) (part_of kind.Link) (length c.devices + length c.adapters + l) l (refl, ltb-true l (length c.links) there);
      takes = rw (device.1, under) (eq-eqb l l refl);
    }
