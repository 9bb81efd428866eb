-- What the parsers of reading have read is spelled so.
use Rattle.std.proofs.Common.{◌≡◌, ◌≤◌, ℕ, List, [], ◌∷◌, ◌++◌, Bool, true, false, cond, refl, ap, ◌∙◌, subst, arith}
use Rattle.std.specs.Prelude.{Option, Some, None, IfSome, Result, Ok, Err, ◌||◌, ⊤}
use Rattle.std.specs.List.{AllByRecursion}
use Rattle.cam_types.specs.Topology.{Topology}
use Rattle.cam_types.specs.Weights.{are_standard}
use Rattle.cam_types.specs.declared.device.Device.{Device}
use Rattle.cam_types.specs.declared.config.ConfigError.{ConfigError}
use Rattle.cam_types.specs.declared.config.ConfigError.TheVariants as error
use Rattle.record_text.specs.ConfigParsing.{lacking, lacks_adapters, pushed, row_rank, spelled_row, with_row}
use Rattle.record_text.specs.declared.config_parser.ConfigParser.{ConfigParser}
use Rattle.record_text.specs.declared.config_row.ConfigRow.{ConfigRow}
use Rattle.record_text.specs.declared.config_row.ConfigRow.TheVariants as row
use Rattle.record_text.specs.ConfigRows.{device_of}
use Rattle.record_text.specs.Text.{Row}
use Rattle.record_text.proofs.ConfigLaws.{row_ordered, row_taken}
use Rattle.record_text.proofs.ListLemmas.{all_push}
use Rattle.record_text.proofs.StepLemmas.{ok_is, on_ok}
use Rattle.recording_file.specs.Recorded.{Recorded, Span, FitsFields, IsKept, RequestFault}
use Rattle.recording_file.specs.Reading.{add_row, begun, in_config, recorded_of, unless_illegal, whole, BadConfig, RecordingParser, Start}
use Rattle.recording_file.specs.declared.recording_parser.RecordingParser.TheVariants as parser
use Rattle.recording_file.specs.Records.{header, records_of, unit_row}
use Rattle.recording_file.specs.Sound.{IsSound, MayTake}
use Rattle.recording_file.proofs.PushLaws.{push_row}
use Rattle.recording_file.proofs.ParserLemmas.{kept_begun}

-- the records that a parser has read, with rows of weights or without
abbrev pub rows_at : Bool → RecordingParser → List Row
rows_at table parser.Header = []
rows_at table (parser.First v) = header v ∷ []
rows_at table (parser.Timed v u) = header v ∷ unit_row u ∷ []
rows_at table s = records_of table (recorded_of s)

abbrev pub Held : Bool → Topology → Type 0
Held table t = (table || are_standard t.weights) ≡ true

-- a parser comes about with these rows of weights or without them
abbrev pub IsIn : RecordingParser → Bool → Type 0
IsIn (parser.Config start c) table = (table ≡ c.table) × Held table c.partial
IsIn (parser.Book r) table = Held table r.config
IsIn _ table = ⊤

-- the numbers of what is recorded fit their fields
pub record IsRanged (r : Recorded) : Type 0 where
  pub unit : IfSome r.unit (λ (u : Span). u.count ≤ 4294967295)
  pub targets : AllByRecursion (λ (d : Device). d.target ≤ 65535) r.config.devices
  pub fields : AllByRecursion FitsFields r.requests

pub record Reads (s : RecordingParser) (rows : List Row) : Type 0 where
  pub table : Bool
  pub spelled : rows ≡ rows_at table s
  pub held : IsIn s table
  pub sound : IsSound s
  pub ranged : IsRanged (recorded_of s)

pub no_cause : (n : ℕ) (o : Option RequestFault) (s t : RecordingParser) → unless_illegal n o s ≡ Ok t → (o ≡ None) × (s ≡ t)
no_cause n None s t e = (refl, ok_is s t e)
no_cause n (Some f) s t e = absurd cc

-- a parser with one record more
pub next_reads : (table : Bool) (next t : RecordingParser) (row : Row) (rows : List Row) → next ≡ t → rows ++ row ∷ [] ≡ rows_at table next → IsIn next table → IsSound next → IsRanged (recorded_of next) → Reads t (rows ++ row ∷ [])
next_reads table next t row rows same spelled held sound ranged =
    let made : Reads next (rows ++ row ∷ []) = record { table = table; spelled = spelled; held = held; sound = sound; ranged = ranged } in
    subst (λ (x : RecordingParser). Reads x (rows ++ row ∷ [])) same made

-- ---- one row of the configuration more

config_ok : (n : ℕ) (r : Result ConfigParser ConfigError) (d : ConfigParser) → in_config n r ≡ Ok d → r ≡ Ok d
config_ok n (Ok c) d e = cc
config_ok n (Err (error.Fault f)) d e = absurd cc
config_ok n (Err error.OutOfMemory) d e = absurd cc

-- the target of a row of a device fits its field
abbrev pub FitsTarget : ConfigRow → Type 0
FitsTarget (row.Dev d) = d.target ≤ 65535
FitsTarget _ = ⊤

more_targets : (c : ConfigParser) (r : ConfigRow) → FitsTarget r → AllByRecursion (λ (d : Device). d.target ≤ 65535) c.partial.devices → AllByRecursion (λ (d : Device). d.target ≤ 65535) (pushed c r).partial.devices
more_targets c (row.Dev d) fits h = all_push (λ (x : Device). x.target ≤ 65535) c.partial.devices (device_of d) h fits
more_targets c (row.Weight w) fits h = h
more_targets c (row.Link k) fits h = h
more_targets c (row.Sim a) fits h = h
more_targets c (row.Lane a) fits h = h

held_row : (c : ConfigParser) (r : ConfigRow) → Held c.table c.partial → Held (pushed c r).table (pushed c r).partial
held_row c (row.Weight w) h = refl
held_row c (row.Link k) h = h
held_row c (row.Sim a) h = h
held_row c (row.Dev d) h = h
held_row c (row.Lane a) h = h

rank_pushed : (c : ConfigParser) (r : ConfigRow) → (pushed c r).rank ≡ row_rank r
rank_pushed c (row.Weight w) = refl
rank_pushed c (row.Link k) = refl
rank_pushed c (row.Sim a) = refl
rank_pushed c (row.Dev d) = refl
rank_pushed c (row.Lane a) = refl

pub reads_row : (n : ℕ) (start : Start) (c : ConfigParser) (t : RecordingParser) (r : ConfigRow) (rows : List Row) → Reads (parser.Config start c) rows → MayTake (parser.Config start c) r → FitsTarget r
    → add_row n (parser.Config start c) r ≡ Ok t → Reads t (rows ++ spelled_row r ∷ [])
unfolding IsSound
reads_row n start c t r rows h place fits e =
    on_ok (in_config n (with_row c r)) (λ d. Ok (parser.Config start d)) t e (λ d ed k.
    let took = row_taken c d r (config_ok n (with_row c r) d ed) in
    let ordered = h.sound.1 in
    let few = h.sound.2 in
    let next = row_ordered c r ordered place.0 took.0 in
    let rank = rank_pushed c r in
    let last = place.1 in
    let lanes = ordered.lanes (omega arith) in
    let more = next.lanes (omega arith) in
    let held = h.held in
    next_reads (pushed c r).table (parser.Config start (pushed c r)) t (spelled_row r) rows (ap (λ (x : ConfigParser). parser.Config start x) took.1 ∙ ok_is _ t k)
    (ap (λ (l : List Row). l ++ spelled_row r ∷ []) (h.spelled ∙ ap (λ (b : Bool). records_of b (begun start c.partial)) held.0) ∙ push_row start c r ordered place.0 place.1 took.0 lanes more)
    (refl, held_row c r (subst (λ (b : Bool). Held b c.partial) held.0 held.1)) (h.sound.0, next, omega arith)
    (record { unit = h.ranged.unit; targets = more_targets c r fits h.ranged.targets; fields = tt }))

-- ---- names, caps and requests

-- no adapter has come
abbrev pub lacks : RecordingParser → Bool
lacks (parser.Config start c) = lacks_adapters c
lacks (parser.Book r) = false
lacks _ = true

pub whole_ok : (n : ℕ) (s : RecordingParser) (r : Recorded) → whole n s ≡ Ok r → (lacks s ≡ false) × (recorded_of s ≡ r)
whole_ok n (parser.Config start c) r e = by (lacks_adapters c) refl e
  where
    by : (b : Bool) → lacks_adapters c ≡ b → cond b (Err (BadConfig n (lacking c))) (Ok (begun start c.partial)) ≡ Ok r → (lacks_adapters c ≡ false) × (begun start c.partial ≡ r)
    by true is k = absurd cc
    by false is k = (is, ok_is _ r k)
whole_ok n (parser.Book q) r e = (refl, ok_is q r e)
whole_ok n _ r e = absurd cc

-- a whole configuration was read
pub record ReadsWhole (s : RecordingParser) (rows : List Row) : Type 0 where
  pub table : Bool
  pub spelled : rows ≡ records_of table (recorded_of s)
  pub held : Held table (recorded_of s).config
  pub kept : IsKept (recorded_of s)
  pub ranged : IsRanged (recorded_of s)

pub reads_whole : (s : RecordingParser) (rows : List Row) → lacks s ≡ false → Reads s rows → ReadsWhole s rows
unfolding IsSound
reads_whole (parser.Config start c) rows e h = record { table = h.table; spelled = h.spelled; held = h.held.1; kept = kept_begun start c h.sound.0 h.sound.1 h.sound.2 e; ranged = h.ranged }
reads_whole (parser.Book r) rows e h = record { table = h.table; spelled = h.spelled; held = h.held; kept = h.sound; ranged = h.ranged }
reads_whole _ rows e h = absurd cc
