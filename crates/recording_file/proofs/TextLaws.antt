-- The text of a recording's records is a text of the recording, and within its bound.
use Rattle.std.proofs.Common.{◌≡◌, ◌≤◌, ◌+◌, ◌*◌, ℕ, [], length, map, Bool, true, false, refl, ap, ◌∙◌, arith, None}
use Rattle.csv.specs.Reading.{default_config, records, strip_bom}
use Rattle.csv.specs.Writing.{escaped, fields_text, is_blank}
use Rattle.cam_types.specs.Topology.{IsConfig, adapter_fault, device_fault, link_fault}
use Rattle.cam_types.specs.Weights.{weight_fault}
use Rattle.cam_types.specs.declared.device.Device.{Device}
use Rattle.cam_types.proofs.ConfigLemmas.{adapter_items, device_items, few_adapters, few_devices, few_links, few_weights, link_items, weight_items}
use Rattle.recording_file.specs.Recorded.{Recorded, IsRecording, MAX_RECORDING_BYTES}
use Rattle.recording_file.specs.Caps.{is_cap}
use Rattle.recording_file.specs.Counts.{counts_of}
use Rattle.recording_file.specs.Names.{is_name}
use Rattle.recording_file.specs.Recordings.{IsRecordingText}
use Rattle.recording_file.specs.Records.{cap_row, header, name_row, records_of, request_row, rounds_row, unit_rows}
use Rattle.record_text.specs.ConfigRows.{adapter_row, device_row, link_row, weight_row}
use Rattle.recording_file.specs.Whole.{max_bytes}
use Rattle.recording_file.specs.Writing.{recording_text}
use Rattle.record_text.specs.Writing.{text_of}
use Rattle.record_text.proofs.ListLemmas.{along_both, none_along, true_along}
use Rattle.recording_file.proofs.BookLaws.{GoodRequest, counted_so, good_requests}
use Rattle.record_text.proofs.GoodRows.{GoodDevice, AreGood, and_more, both_good, each_good, good_adapter, good_device, good_link, good_weight, weaker, records_again}
use Rattle.recording_file.proofs.ItemCounts.{few_caps, few_names}
use Rattle.recording_file.proofs.PlacingLemmas.{head_config}
use Rattle.recording_file.proofs.GoodRecords.{good_cap, good_header, good_name, good_request, good_rounds, good_unit}
use Rattle.record_text.specs.Header.{header_row}

-- ---- a whole recording

-- so many bytes are together no more than a text may have
within : (weights links adapters devices names caps requests rounds : ℕ) → weights ≤ 16 → links ≤ 4 → adapters ≤ 8 → devices ≤ 32 → names ≤ 300 → caps ≤ 44 * rounds → rounds ≤ 65535 → requests ≤ 1048576
    → 43 + (54 + (44 + (weights * 54 + (links * 44 + (adapters * 54 + (devices * 74 + (names * 177 + (caps * 57 + requests * 98)))))))) ≤ MAX_RECORDING_BYTES
within weights links adapters devices names caps requests rounds w l a d n c r q = omega arith

-- the records are read again, and together they aren't longer than a text may be
good_records : (r : Recorded) → IsRecording r → AreGood MAX_RECORDING_BYTES (records_of true r)
unfolding records_of
good_records r h =
    let t = r.config in
    let head = h.kept.head in
    let is : IsConfig t = head_config r head in
    let counts = counts_of t in
    let small = counted_so t is in
    let unit = good_unit r.unit h.unit in
    let rounds = good_rounds r.rounds (let few = head.rounds in omega arith) in
    let weights = each_good (λ b w. weight_fault (b, w) ≡ None) weight_row 54 [] t.weights good_weight (none_along weight_fault [] t.weights (weight_items t is)) in
    let links = each_good (λ b k. link_fault (b, k) ≡ None) link_row 44 [] t.links good_link (none_along link_fault [] t.links (link_items t is)) in
    let adapters = each_good (λ b a. adapter_fault (length t.links) (b, a) ≡ None) adapter_row 54 [] t.adapters (good_adapter (length t.links) (few_links t is)) (none_along (adapter_fault (length t.links)) [] t.adapters (adapter_items t is)) in
    let devices = each_good (GoodDevice t.adapters) device_row 74 [] t.devices (good_device t.adapters (few_adapters t is))
    (along_both (λ b d. device_fault (length t.adapters) (b, d) ≡ None) (λ (d : Device). d.target ≤ 65535) [] t.devices (none_along (device_fault (length t.adapters)) [] t.devices (device_items t is)) h.targets) in
    let names = each_good (λ b x. is_name counts (b, x) ≡ true) name_row 177 [] r.names (good_name counts small) (true_along (is_name counts) [] r.names head.names) in
    let caps = each_good (λ b c. is_cap r.rounds counts (b, c) ≡ true) cap_row 57 [] r.caps (good_cap r.rounds counts small head.rounds) (true_along (is_cap r.rounds counts) [] r.caps head.caps) in
    let requests = each_good (GoodRequest r) request_row 98 [] r.requests (λ b q p. good_request q p.0.1.0) (good_requests r h) in
    let all = and_more 43 _ (header r.completions) _ (good_header r.completions) (both_good 54 _ (unit_rows r.unit) _ unit (and_more 44 _ (rounds_row r.rounds) _ rounds
    (both_good _ _ (map weight_row t.weights) _ weights (both_good _ _ (map link_row t.links) _ links (both_good _ _ (map adapter_row t.adapters) _ adapters
    (both_good _ _ (map device_row t.devices) _ devices (both_good _ _ (map name_row r.names) _ names (both_good _ _ (map cap_row r.caps) (map request_row r.requests) caps requests)))))))) in
    weaker _ MAX_RECORDING_BYTES (records_of true r) (within (length t.weights) (length t.links) (length t.adapters) (length t.devices) (length r.names) (length r.caps) (length r.requests) r.rounds (few_weights t is) (few_links t is) (few_adapters t is) (few_devices t is) (few_names r head) (few_caps r head) head.rounds h.kept.few) all

-- the text begins with the header's word, and so with no byte order mark
no_mark : (r : Recorded) → strip_bom (recording_text r) ≡ recording_text r
unfolding strip_bom recording_text text_of records_of header_row fields_text escaped is_blank
no_mark r = by r.completions refl
  where
    by : (v : Bool) → r.completions ≡ v → strip_bom (recording_text r) ≡ recording_text r
    by true e = rw e refl
    by false e = rw e refl

-- and so it may have as many bytes as a recording
bound : (r : Recorded) → max_bytes (recording_text r) ≡ MAX_RECORDING_BYTES
unfolding max_bytes recording_text text_of records_of header_row fields_text escaped is_blank
bound r = by r.completions refl
  where
    by : (v : Bool) → r.completions ≡ v → max_bytes (recording_text r) ≡ MAX_RECORDING_BYTES
    by true e = rw e refl
    by false e = rw e refl

-- the text of a recording's records is a text of it
pub is_text : (r : Recorded) → IsRecording r → IsRecordingText (recording_text r) r
unfolding recording_text
is_text r h =
    let rows = records_of true r in
    let good = good_records r h in
    record {
      bounded = rw (bound r) good.short;
      table = true;
      held = refl;
      spelled = ap (records default_config) (no_mark r) ∙ records_again rows good.whole;
    }
