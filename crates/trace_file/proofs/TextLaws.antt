-- The text of a history's records is a trace of the history.
use Rattle.std.proofs.Common.{◌≡◌, ◌≤◌, ◌+◌, ◌*◌, ℕ, List, [], ◌∷◌, ◌++◌, length, map, Bool, true, false, cond, refl, ap, ◌∙◌, arith, length-append, Option, Some, None, IfSome, decimal, codes}
use Rattle.std.specs.List.{AllByRecursion, flat_map, All}
use Rattle.std.proofs.lemmas.Fmt.{length-decimal-le}
use Rattle.std.proofs.lemmas.List.{length-map}
use Rattle.std.proofs.lemmas.List.Elements.{All-append, All-cons, All-from_recursion, All-map, All-nil, All-weaker, recursion_from_All}
use Rattle.csv.specs.Reading.{default_config, records, strip_bom}
use Rattle.csv.specs.Writing.{default_writer, escaped, fields_text, is_blank, read_back, row_text}
use Rattle.event_rules.specs.declared.event.Event.TheVariants as event
use Rattle.trace_file.specs.Fields.{flags_text, flags_word}
use Rattle.record_text.specs.Text.{Row}
use Rattle.trace_file.specs.Histories.{Adapter, WeightRow, weight_fault, Device, Event, Past, link_fault, adapter_fault, device_fault, lane_fault}
use Rattle.trace_file.specs.Versions.{has_table, Version}
use Rattle.trace_file.specs.Records.{weight_rows, event_row, header, hex, holds, records_of}
use Rattle.record_text.specs.ConfigRows.{weight_row, link_row, adapter_row, device_row, lane_row}
use Rattle.trace_file.specs.declared.version.Version.TheVariants as version
use Rattle.record_text.specs.Fields.{max_number}
use Rattle.trace_file.specs.Trace.{FitsEvent, IsHistory, IsTrace}
use Rattle.trace_file.specs.Writing.{text_in}
use Rattle.record_text.specs.Writing.{text_of}
use Rattle.cam_types.specs.Topology.{IsConfig}
use Rattle.cam_types.proofs.ConfigLemmas.{adapter_items, device_items, few_adapters, few_devices, few_links, few_weights, lane_items, link_items, weight_items}
use Rattle.cam_types.specs.declared.limits.TheConstants.{MAX_LINKS, MAX_ADAPTERS, MAX_DEVICES, MAX_LANES, MAX_EVENTS, MAX_WEIGHT_ROWS}
use Rattle.event_rules.proofs.LaneCount.{few_lanes}
use Rattle.record_text.proofs.ListLemmas.{Along, along_both, none_along}
use Rattle.trace_file.proofs.HexLaws.{length-hex}
use Rattle.record_text.proofs.ConfigLemmas.{device_small, adapter_link, adapter_small, link_number, link_small, weight_numbers, lane_small}
use Rattle.record_text.proofs.GoodRows.{GoodDevice, records_again}
use Rattle.record_text.proofs.RowSizes as sizes
use Rattle.record_text.proofs.RowSizes.{escaped-le}
use Rattle.record_text.specs.Header.{header_row}

-- ---- how long a record's text is

abbrev pub IsShort : Row → Type 0
IsShort row = sizes.IsShort 140 row

-- eight fields of 57 bytes together
abbrev pub short_by : (a b c d e f g h : List ℕ) → Type 0
short_by a b c d e f g h = length a + (length b + (length c + (length d + (length e + (length f + (length g + length h)))))) ≤ 57

pub eight : (a b c d e f g h : List ℕ) → short_by a b c d e f g h → IsShort (a ∷ b ∷ c ∷ d ∷ e ∷ f ∷ g ∷ h ∷ [])
eight a b c d e f g h few =
    let le = sizes.eight a b c d e f g h (2 * length a) (2 * length b) (2 * length c) (2 * length d) (2 * length e) (2 * length f) (2 * length g) (2 * length h)
    (escaped-le a) (escaped-le b) (escaped-le c) (escaped-le d) (escaped-le e) (escaped-le f) (escaped-le g) (escaped-le h) in
    omega arith

pub ten : (n : ℕ) → n ≤ max_number → length (decimal n) ≤ 10
ten n h = length-decimal-le 10 n (omega arith) (omega arith) (omega arith)

one_number : (w : List ℕ) (n : ℕ) → length w ≤ 8 → n ≤ max_number → IsShort (w ∷ decimal n ∷ [] ∷ [] ∷ [] ∷ [] ∷ [] ∷ [] ∷ [])
one_number w n h a = let x = ten n a in eight w (decimal n) [] [] [] [] [] [] (omega arith)

pub two_numbers : (w : List ℕ) (m n : ℕ) → length w ≤ 8 → m ≤ max_number → n ≤ max_number → IsShort (w ∷ decimal m ∷ decimal n ∷ [] ∷ [] ∷ [] ∷ [] ∷ [] ∷ [])
two_numbers w m n h a b = let x = ten m a in let y = ten n b in eight w (decimal m) (decimal n) [] [] [] [] [] (omega arith)

pub short_flags : (a b : Bool) → length (flags_word a b) ≤ 7
short_flags a b = grind arith

short_event : (e : Event) → FitsEvent e → IsShort (event_row e)
short_event (event.Submit driver device priority retries flags) h =
    let a = ten driver (omega arith) in
    let b = ten device h.1 in
    let c = ten priority h.2 in
    let d = ten retries h.3 in
    let f = short_flags flags.qfreeze flags.qfrzdis in
    eight (codes "submit") (decimal driver) (decimal device) (decimal priority) (decimal retries) (flags_text flags) [] [] (omega arith)
short_event (event.Send lane ccb) h = two_numbers (codes "send") lane ccb (omega arith) h.0 h.1
short_event (event.Done ccb outcome) h =
    let a = ten ccb h.0 in
    let s = length-hex outcome.sense in
    eight (codes "done") (decimal ccb) (hex (outcome.status ∷ [])) (hex (outcome.scsi ∷ [])) (hex outcome.sense) [] [] [] (omega arith)
short_event (event.Requeue ccb) h = one_number (codes "requeue") ccb (omega arith) h
short_event (event.Finish ccb) h = one_number (codes "finish") ccb (omega arith) h
short_event (event.FreezeDev device count) h = two_numbers (codes "freeze") device count (omega arith) h.0 h.1
short_event (event.ReleaseDev device count) h = two_numbers (codes "release") device count (omega arith) h.0 h.1
short_event (event.FreezeSim sim count) h = two_numbers (codes "sfreeze") sim count (omega arith) h.0 h.1
short_event (event.ReleaseSim sim) h = one_number (codes "srelease") sim (omega arith) h
short_event (event.Adjust device openings) h = two_numbers (codes "adjust") device openings (omega arith) h.0 h.1
short_event event.Tick h = eight (codes "tick") [] [] [] [] [] [] [] (omega arith)

short_device : (d : Device) → d.bus ≤ max_number → d.target ≤ max_number → d.lun ≤ max_number → d.openings ≤ max_number → IsShort (device_row d)
short_device d a b c o =
    let x = ten d.bus a in
    let y = ten d.target b in
    let z = ten d.lun c in
    let w = ten d.openings o in
    eight (codes "dev") (decimal d.bus) (decimal d.target) (decimal d.lun) (decimal d.openings) [] [] [] (omega arith)

-- ---- a whole history

-- a record that is written whole, in few bytes
abbrev pub IsGood : Row → Type 0
IsGood row = (read_back row ≡ row) × IsShort row

good_event : (e : Event) → FitsEvent e → IsGood (event_row e)
good_event e h = (whole e, short_event e h)
  where
    whole : (e : Event) → read_back (event_row e) ≡ event_row e
    whole (event.Submit driver device priority retries flags) = refl
    whole _ = refl

along_good : {X : Type 0} (P : List X → X → Type 0) (row : X → Row) (before xs : List X) → ((b : List X) (x : X) → P b x → IsGood (row x)) → Along P before xs → All IsGood (map row xs)
along_good P row before [] f h = All-nil IsGood
along_good P row before (x ∷ xs) f h = All-cons IsGood (row x) (map row xs) (f before x h.0) (along_good P row (before ++ x ∷ []) xs f h.1)

good_header : (v : Version) → IsGood (header v)
unfolding header_row
good_header version.One = (refl, eight (codes "camtrace1") (codes "a") (codes "b") (codes "c") (codes "d") (codes "e") (codes "f") (codes "g") (omega arith))
good_header version.Two = (refl, eight (codes "camtrace2") (codes "a") (codes "b") (codes "c") (codes "d") (codes "e") (codes "f") (codes "g") (omega arith))
good_header version.Three = (refl, eight (codes "camtrace3") (codes "a") (codes "b") (codes "c") (codes "d") (codes "e") (codes "f") (codes "g") (omega arith))

good_weight : (before : List WeightRow) (w : WeightRow) → weight_fault (before, w) ≡ None → IsGood (weight_row w)
good_weight before w e = let s = weight_numbers before w e in (refl, two_numbers (codes "weight") w.last w.weight (omega arith) (omega arith) (omega arith))

-- the records of the weights: each is good, and they aren't many
good_weights : (v : Version) (weights : List WeightRow) → Along (λ b w. weight_fault (b, w) ≡ None) [] weights → length weights ≤ MAX_WEIGHT_ROWS
    → All IsGood (weight_rows v weights) × (length (weight_rows v weights) ≤ MAX_WEIGHT_ROWS)
good_weights v weights h few = by (has_table v)
  where
    by : (b : Bool) → All IsGood (cond b (map weight_row weights) []) × (length (cond b (map weight_row weights) []) ≤ MAX_WEIGHT_ROWS)
    by true = let size = length-map weights weight_row in (along_good (λ b w. weight_fault (b, w) ≡ None) weight_row [] weights good_weight h, omega arith)
    by false = (All-nil IsGood, omega arith)

good_adapter : (links : ℕ) → links ≤ MAX_LINKS → (before : List Adapter) (a : Adapter) → adapter_fault links (before, a) ≡ None → IsGood (adapter_row a)
good_adapter links few before a e = by a.link (link_number links a.link few (adapter_link links before a e))
  where
    small : a.openings ≤ 255
    small = adapter_small links before a e

    by : (link : Option ℕ) → IfSome link (λ l. l ≤ max_number) → IsGood (adapter_row (record { openings = a.openings; link = link }))
    by None h = let s = small in (refl, one_number (codes "sim") a.openings (omega arith) (omega arith))
    by (Some l) h = let s = small in (refl, two_numbers (codes "sim") a.openings l (omega arith) (omega arith) h)

pub text-le : (rows : List Row) → AllByRecursion IsGood rows → length (text_of rows) ≤ 140 * length rows
unfolding text_of
text-le [] h = omega arith
text-le (row ∷ rows) h =
    let one = h.0.1 in
    let more = text-le rows h.1 in
    let both = length-append (row_text default_writer row) (flat_map (row_text default_writer) rows) in
    omega arith

-- a history's records: each is good, and they aren't many
pub good_records : (v : Version) (past : Past) → IsHistory past → length past.events ≤ MAX_EVENTS
    → All IsGood (records_of v past) × (length (records_of v past) ≤ MAX_EVENTS + (1 + MAX_WEIGHT_ROWS + MAX_LINKS + MAX_ADAPTERS + MAX_DEVICES + MAX_ADAPTERS * MAX_LANES))
unfolding records_of
good_records v past h few =
    let t = past.config in
    let n = length t.adapters in
    let is : IsConfig t = record { kept = h.config } in
    let adapter_count = few_adapters t is in
    let weights = good_weights v t.weights (none_along weight_fault [] t.weights (weight_items t is)) (few_weights t is) in
    let link_count = few_links t is in
    let shared = along_good (λ b k. link_fault (b, k) ≡ None) link_row [] t.links (λ b k e. let s = link_small b k e in (refl, one_number (codes "link") k (omega arith) (omega arith))) (none_along link_fault [] t.links (link_items t is)) in
    let openings = along_good (λ b a. adapter_fault (length t.links) (b, a) ≡ None) adapter_row [] t.adapters (good_adapter (length t.links) link_count)
    (none_along (adapter_fault (length t.links)) [] t.adapters (adapter_items t is)) in
    let devices = along_good (GoodDevice t.adapters) device_row [] t.devices (λ b d p. let s = device_small n b d p.0 in (refl, short_device d (omega arith) (omega (arith, p.1)) (omega arith) (omega arith)))
    (along_both (λ b d. device_fault n (b, d) ≡ None) (λ (d : Device). d.target ≤ 65535) [] t.devices (none_along (device_fault n) [] t.devices (device_items t is)) h.targets) in
    let buses = along_good (λ b a. lane_fault n (b, a) ≡ None) lane_row [] t.lanes (λ b a e. let s = lane_small n b a e in (refl, one_number (codes "lane") a (omega arith) (omega arith))) (none_along (lane_fault n) [] t.lanes (lane_items t is)) in
    let events = All-map IsGood event_row past.events (All-weaker FitsEvent (λ e. IsGood (event_row e)) good_event past.events (All-from_recursion FitsEvent past.events h.events)) in
    let lanes = map lane_row t.lanes ++ map event_row past.events in
    let rest = map device_row t.devices ++ lanes in
    let all = map adapter_row t.adapters ++ rest in
    let links = map link_row t.links ++ all in
    let size_w = length-append (weight_rows v t.weights) links in
    let size_k = length-append (map link_row t.links) all in
    let device_count = few_devices t is in
    let lane_count = few_lanes t is in
    let size_a = length-append (map adapter_row t.adapters) rest in
    let size_d = length-append (map device_row t.devices) lanes in
    let size_l = length-append (map lane_row t.lanes) (map event_row past.events) in
    let k = length-map t.links link_row in
    let a = length-map t.adapters adapter_row in
    let d = length-map t.devices device_row in
    let l = length-map t.lanes lane_row in
    let e = length-map past.events event_row in (
      All-cons IsGood (header v) _ (good_header v)
          (All-append IsGood (weight_rows v t.weights) links weights.0
          (All-append IsGood (map link_row t.links) all shared
          (All-append IsGood (map adapter_row t.adapters) rest openings
          (All-append IsGood (map device_row t.devices) lanes devices (All-append IsGood (map lane_row t.lanes) (map event_row past.events) buses events))))),
      omega arith,
    )

-- the text begins with the header's word, and so with no byte order mark
no_mark : (v : Version) (past : Past) → strip_bom (text_in v past) ≡ text_in v past
unfolding strip_bom text_in text_of records_of header_row fields_text escaped is_blank
no_mark version.One past = refl
no_mark version.Two past = refl
no_mark version.Three past = refl

-- the text of a history in a version that holds it is a trace of it
pub is_trace : (v : Version) (past : Past) → holds v past.config ≡ true → IsHistory past → length past.events ≤ 65535 → IsTrace (text_in v past) past
unfolding text_in
is_trace v past held h few =
    let rows = records_of v past in
    let g = good_records v past h few in
    let short = text-le rows (recursion_from_All IsGood rows g.0) in
    record {
      bounded = omega arith;
      version = v;
      held = held;
      spelled = ap (records default_config) (no_mark v past) ∙ records_again rows (recursion_from_All _ rows (All-weaker IsGood (λ row. read_back row ≡ row) (λ row p. p.0) rows g.0));
    }
