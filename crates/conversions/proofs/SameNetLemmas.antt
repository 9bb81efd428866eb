-- the net of a history's recording is that of the history
use Rattle.std.proofs.Common.{◌≡◌, ℕ, zero, suc, ◌*◌, List, [], ◌∷◌, ◌++◌, map, refl, sym, ap, ◌∙◌, slice_index}
use Rattle.std.proofs.lemmas.List.{length-map}
use Rattle.cam_types.specs.Lists.{prefixed_after}
use Rattle.cam_types.specs.Topology.{Topology}
use Rattle.event_rules.specs.Counts.{round}
use Rattle.event_rules.specs.Past.{Past}
use Rattle.event_rules.specs.Stays.{stays_begun}
use Rattle.event_rules.specs.declared.event.Event.{Event}
use Rattle.event_rules.specs.declared.passage.Passage.{Passage}
use Rattle.event_rules.proofs.LimitLemmas.{round_first}
use Rattle.event_rules.proofs.ListFacts.{length-prefixed_after}
use Rattle.recording_file.specs.declared.request.Request.{Request}
use Rattle.round_net.specs.Instance.{Instance}
use Rattle.round_net.specs.Rows.{cell, of_stay, instance_of_rows, live_of_rows}
use Rattle.round_net.specs.Caps.{resource_count, cap}
use Rattle.round_net.specs.Nets.{stay_row, table, net_of, instance_of, live_of, last_round}
use Rattle.round_net.specs.RecordedNets.{request_row, recorded_cap, net_of_recording, instance_of_recording, live_of_recording}
use Rattle.round_net.specs.declared.stay_row.StayRow.{StayRow}
use Rattle.round_net.specs.declared.price_range.TheConstants.{MAX_NET_PRICE}
use Rattle.round_net.proofs.TableLemmas.{cell-table, table_by_cells, length-cells}
use Rattle.conversions.specs.Requests.{request_of}
use Rattle.conversions.specs.Recorded.{without_lanes, recorded_of}
use Rattle.conversions.proofs.CapLemmas.{cap_in_row}
use Rattle.conversions.proofs.RequestLemmas.{last_unless_end}

-- a part in which each request's row agrees with its stay's
part_agrees : (c : Topology) (es : List Event) (part : StayRow → ℕ) → ((m : List Request) (p : Passage) → part (request_row (without_lanes c) (round es) (m, request_of es p)) ≡ part (stay_row c es p)) → (before : List Request) (ps : List Passage) (s : ℕ)
    → of_stay part (map (request_row (without_lanes c) (round es)) (prefixed_after before (map (request_of es) ps))) s ≡ of_stay part (map (stay_row c es) ps) s
part_agrees c es part same before [] s = refl
part_agrees c es part same before (p ∷ ps) zero = same before p
part_agrees c es part same before (p ∷ ps) (suc s) = part_agrees c es part same (before ++ request_of es p ∷ []) ps s

module _ (past : Past) where
  abbrev c : Topology
  c = past.config

  abbrev es : List Event
  es = past.events

  abbrev old : Instance
  old = instance_of c es

  abbrev new : Instance
  new = instance_of_recording (recorded_of past)

  stays_agree : new.stays ≡ old.stays
  unfolding recorded_of net_of_recording net_of instance_of_rows
  stays_agree =
      length-map (prefixed_after [] (map (request_of es) (stays_begun es))) (request_row (without_lanes c) (round es))
      ∙ length-prefixed_after [] (map (request_of es) (stays_begun es))
      ∙ length-map (stays_begun es) (request_of es)
      ∙ sym (length-map (stays_begun es) (stay_row c es))

  device_agrees : (s : ℕ) → new.device s ≡ old.device s
  unfolding recorded_of net_of_recording net_of instance_of_rows request_row request_of stay_row
  device_agrees s = part_agrees c es (λ (row : StayRow). row.device) (λ m p. refl) [] (stays_begun es) s

  arrival_agrees : (s : ℕ) → new.arrival s ≡ old.arrival s
  unfolding recorded_of net_of_recording net_of instance_of_rows request_row request_of stay_row
  arrival_agrees s = part_agrees c es (λ (row : StayRow). row.arrival) (λ m p. refl) [] (stays_begun es) s

  last_agrees : (s : ℕ) → new.last s ≡ old.last s
  unfolding recorded_of net_of_recording net_of instance_of_rows request_row request_of stay_row
  last_agrees s = part_agrees c es (λ (row : StayRow). row.last) (λ m p. last_unless_end (round es) (last_round es p)) [] (stays_begun es) s

  weight_agrees : (s : ℕ) → new.weight s ≡ old.weight s
  unfolding recorded_of net_of_recording net_of instance_of_rows request_row request_of stay_row
  weight_agrees s = part_agrees c es (λ (row : StayRow). row.weight) (λ m p. refl) [] (stays_begun es) s

  live_agrees : (s : ℕ) → live_of_recording (recorded_of past) s ≡ live_of c es s
  unfolding recorded_of net_of_recording net_of live_of_rows request_row request_of stay_row
  live_agrees s = part_agrees c es (λ (row : StayRow). row.live) (λ m p. refl) [] (stays_begun es) s

  -- the caps of both nets are one table
  caps_agree : table (resource_count c) (round es) (recorded_cap (recorded_of past)) ≡ table (resource_count c) (round es) (cap c es)
  unfolding recorded_of recorded_cap
  caps_agree =
      table_by_cells (resource_count c) (round es) (cap c es) (table (resource_count c) (round es) (recorded_cap (recorded_of past))) (round_first es) (length-cells (round es) (recorded_cap (recorded_of past)) (resource_count c * round es))
      (λ row r within first last. cell-table (resource_count c) (round es) (recorded_cap (recorded_of past)) row r within first last ∙ cap_in_row c es row r (resource_count c) within first last)

  cap_agrees : (row r : ℕ) → new.cap row r ≡ old.cap row r
  unfolding recorded_of net_of_recording net_of instance_of_rows
  cap_agrees row r = ap (λ (caps : List ℕ). slice_index caps (cell (round es) row r)) caps_agree

  -- the recording's net is the history's, but for its largest price
  pub same_net : new ≡ record old { max_price = MAX_NET_PRICE }
  unfolding recorded_of net_of_recording net_of instance_of_rows
  same_net = λ i. record {
    stays = stays_agree i;
    devices = old.devices;
    adapters = old.adapters;
    links = old.links;
    rounds = old.rounds;
    device = λ s. device_agrees s i;
    adapter_of = old.adapter_of;
    link_of = old.link_of;
    arrival = λ s. arrival_agrees s i;
    last = λ s. last_agrees s i;
    weight = λ s. weight_agrees s i;
    cap = λ row r. cap_agrees row r i;
    max_price = MAX_NET_PRICE;
  }

  -- and its stays were sent in the same rounds
  pub same_live : live_of_recording (recorded_of past) ≡ live_of c es
  same_live = λ i s. live_agrees s i
