-- What the parsers of reading have read is spelled so.
use Rattle.std.proofs.Common.{◌≡◌, ◌≤◌, ℕ, List, [], ◌∷◌, ◌++◌, length, map, Bool, true, false, cond, refl, sym, ap, ◌∙◌, subst}
use Rattle.std.specs.Prelude.{Option, Some, None, Result, Ok, Err, ok_or, ◌==◌, ⊤, nat_le}
use Rattle.std.specs.List.{AllByRecursion, list_all}
use Rattle.std.proofs.lemmas.Bool.{and_parts, eqb-true}
use Rattle.std.proofs.lemmas.List.{map-append}
use Rattle.std.proofs.lemmas.List.Folds.{list_all-append}
use Rattle.std.proofs.lemmas.Option.{cond_some}
use Rattle.cam_types.specs.Weights.{are_standard}
use Rattle.cam_types.specs.declared.config.ConfigError.TheVariants as error
use Rattle.event_rules.specs.Legal.{history_rules}
use Rattle.event_rules.proofs.LegalLemmas.{legal-none}
use Rattle.record_text.specs.ConfigParsing.{lacks_adapters, next_rank, pushed, row_rank, rows_then, spelled_row, with_row}
use Rattle.record_text.specs.declared.config_parser.ConfigParser.{ConfigParser}
use Rattle.record_text.specs.declared.config_row.ConfigRow.{ConfigRow}
use Rattle.cam_types.specs.declared.config.ConfigError.{ConfigError}
use Rattle.record_text.specs.declared.config_row.ConfigRow.TheVariants as row
use Rattle.record_text.specs.ConfigRows.{device_at, device_of, one_number, weight_at, link_row, adapter_row, device_row, lane_row}
use Rattle.record_text.specs.Header.{is_header}
use Rattle.record_text.specs.Fields.{field_of}
use Rattle.record_text.specs.Steps.{◌>>=◌}
use Rattle.record_text.specs.Text.{Row}
use Rattle.record_text.proofs.ConfigLaws.{behind, ordered_empty, ordered_standard, row_ordered, row_spelled, row_taken}
use Rattle.record_text.proofs.ListLemmas.{all_push}
use Rattle.record_text.proofs.RowLaws.{weight_takes, one_takes, device_takes, named_header}
use Rattle.record_text.proofs.StepLemmas.{ok_or_ok, ok_is, on_ok}
use Rattle.trace_file.specs.Histories.{Adapter, Topology, Device, Event, Past, Refusal, refusal}
use Rattle.trace_file.specs.Rows.{adapter_in, event_at, TraceWord}
use Rattle.trace_file.specs.Reading.{add_event, add_row, configured, ended, first_config, in_config, in_record, past_of, placed, row_step, stands, step, take_word, unless_refused, version_of, TraceFault, BadHeader, BadRecord, TraceParser}
use Rattle.trace_file.specs.declared.trace_parser.TraceParser.TheVariants as parser
use Rattle.trace_file.specs.declared.word.TraceWord.TheVariants as word
use Rattle.trace_file.specs.Records.{event_row, has_no_links, header, holds, is_unlinked, records_of, weight_rows}
use Rattle.trace_file.specs.Versions.{has_links, has_table, has_word, name_of, Version}
use Rattle.trace_file.specs.declared.version.Version.TheVariants as version
use Rattle.trace_file.specs.Sound.{IsKept, IsSound}
use Rattle.trace_file.specs.Trace.{FitsEvent, IsHistory}
use Rattle.trace_file.specs.Words.{spelled, word_of, word_rank}
use Rattle.trace_file.proofs.FieldLaws.{word_spelled}
use Rattle.trace_file.proofs.HexLaws.{guard_some, on_some}
use Rattle.trace_file.proofs.ParserLemmas.{kept_empty, may_take, sound_event}
use Rattle.trace_file.proofs.RowLaws.{can_spell, adapter_in_takes, event_takes, row_is}

-- ---- what a parser has read

-- the records that a parser has read
abbrev pub rows_at : Version → TraceParser → List Row
rows_at v parser.Header = []
rows_at v s = records_of v (past_of s)

-- a parser comes about in this version
abbrev pub IsIn : TraceParser → Version → Type 0
IsIn parser.Header v = ⊤
IsIn (parser.Config w c) v = (v ≡ w) × (c.table ≡ has_table w) × (holds w c.partial ≡ true)
IsIn (parser.Events p) v = holds v p.config ≡ true

-- whether a version holds a configuration doesn't go by its devices and lanes
holds_same : (v : Version) (c : Topology) (ds : List Device) (ls : List ℕ) → holds v c ≡ true → holds v (record c { devices = ds; lanes = ls }) ≡ true
holds_same version.One c ds ls h = h
holds_same version.Two c ds ls h = h
holds_same version.Three c ds ls h = h

no_links_more : (c : Topology) (a : Adapter) → is_unlinked a ≡ true → has_no_links c ≡ true → has_no_links (record c { adapters = c.adapters ++ a ∷ [] }) ≡ true
no_links_more c a alone h = let k = and_parts (length c.links == 0) (list_all is_unlinked c.adapters) h in rw (k.0, list_all-append is_unlinked c.adapters (a ∷ []), k.1, alone) refl

-- a version holds a configuration with an adapter more that it can spell
holds_more : (v : Version) (c : Topology) (a : Adapter) → can_spell v a ≡ true → holds v c ≡ true → holds v (record c { adapters = c.adapters ++ a ∷ [] }) ≡ true
holds_more version.One c a alone h = let k = and_parts (are_standard c.weights) (has_no_links c) h in rw (k.0, no_links_more c a alone k.1) refl
holds_more version.Two c a alone h = no_links_more c a alone h
holds_more version.Three c a alone h = refl

pub record Reads (v : Version) (s : TraceParser) (rows : List Row) : Type 0 where
  pub spelled : rows ≡ rows_at v s
  pub held : IsIn s v
  pub sound : IsSound s
  pub targets : AllByRecursion (λ (d : Device). d.target ≤ 65535) (past_of s).config.devices
  pub events : AllByRecursion FitsEvent (past_of s).events

-- ---- one row of the configuration more

-- a version can say a row
abbrev pub CanSay : Version → ConfigRow → Type 0
CanSay v (row.Weight w) = has_table v ≡ true
CanSay v (row.Link k) = has_links v ≡ true
CanSay v (row.Sim a) = can_spell v a ≡ true
CanSay v (row.Dev d) = d.target ≤ 65535
CanSay v (row.Lane a) = ⊤

same_table : (v : Version) (c : ConfigParser) (r : ConfigRow) → CanSay v r → c.table ≡ has_table v → (pushed c r).table ≡ has_table v
same_table v c (row.Weight w) says h = sym says
same_table v c (row.Link k) says h = h
same_table v c (row.Sim a) says h = h
same_table v c (row.Dev d) says h = h
same_table v c (row.Lane a) says h = h

holds_row : (v : Version) (c : ConfigParser) (r : ConfigRow) → CanSay v r → holds v c.partial ≡ true → holds v (pushed c r).partial ≡ true
holds_row version.One c (row.Weight w) says h = absurd cc
holds_row version.Two c (row.Weight w) says h = h
holds_row version.Three c (row.Weight w) says h = refl
holds_row version.One c (row.Link k) says h = absurd cc
holds_row version.Two c (row.Link k) says h = absurd cc
holds_row version.Three c (row.Link k) says h = refl
holds_row v c (row.Sim a) says h = holds_more v c.partial a says h
holds_row v c (row.Dev d) says h = holds_same v c.partial (c.partial.devices ++ device_of d ∷ []) c.partial.lanes h
holds_row v c (row.Lane a) says h = holds_same v c.partial c.partial.devices (c.partial.lanes ++ a ∷ []) h

more_targets : (v : Version) (c : ConfigParser) (r : ConfigRow) → CanSay v r → AllByRecursion (λ (d : Device). d.target ≤ 65535) c.partial.devices → AllByRecursion (λ (d : Device). d.target ≤ 65535) (pushed c r).partial.devices
more_targets v c (row.Dev d) says h = all_push (λ (x : Device). x.target ≤ 65535) c.partial.devices (device_of d) h says
more_targets v c (row.Weight w) says h = h
more_targets v c (row.Link k) says h = h
more_targets v c (row.Sim a) says h = h
more_targets v c (row.Lane a) says h = h

config_ok : (n : ℕ) (r : Result ConfigParser ConfigError) (d : ConfigParser) → in_config n r ≡ Ok d → r ≡ Ok d
config_ok n (Ok c) d e = cc
config_ok n (Err (error.Fault f)) d e = absurd cc
config_ok n (Err error.OutOfMemory) d e = absurd cc

-- a parser with one record more
reads_next : (v : Version) (next t : TraceParser) (rows : List Row) → next ≡ t → Reads v next rows → Reads v t rows
reads_next v next t rows same h = subst (λ (x : TraceParser). Reads v x rows) same h

reads_config : (v w : Version) (n : ℕ) (c : ConfigParser) (t : TraceParser) (r : ConfigRow) (rows : List Row) → Reads v (parser.Config w c) rows → next_rank c ≤ row_rank r → CanSay w r → add_row n (parser.Config w c) r ≡ Ok t → Reads v t (rows ++ spelled_row r ∷ [])
unfolding IsSound records_of
reads_config v w n c t r rows h place says e =
    on_ok (in_config n (with_row c r)) (λ d. Ok (parser.Config w d)) t e (λ d ed k.
    let took = row_taken c d r (config_ok n (with_row c r) d ed) in
    let same : parser.Config w (pushed c r) ≡ t = ap (λ (x : ConfigParser). parser.Config w x) took.1 ∙ ok_is _ t k in
    let held = h.held in
    let table = same_table w c r says held.1 in
    let more = row_spelled c r h.sound place took.0 in
    let front : rows ≡ header w ∷ rows_then c.table c.partial [] = h.spelled ∙ rw (held.0, held.1) refl in
    reads_next v (parser.Config w (pushed c r)) t (rows ++ spelled_row r ∷ []) same (record {
      spelled = ap (λ (l : List Row). l ++ spelled_row r ∷ []) front ∙ ap (λ (l : List Row). header w ∷ l) more ∙ rw (held.0, table) refl;
      held = (held.0, table, holds_row w c r says held.2);
      sound = row_ordered c r h.sound place took.0;
      targets = more_targets w c r says h.targets;
      events = tt;
    }))

-- a row whose word stands in its place
reads_row : (v : Version) (n : ℕ) (s t : TraceParser) (w : TraceWord) (r : ConfigRow) (rows : List Row) → Reads v s rows → stands s w ≡ true → word_rank w ≡ row_rank r
    → ((u : Version) → version_of s ≡ u → has_word u w ≡ true → CanSay u r) → add_row n s r ≡ Ok t → Reads v t (rows ++ spelled_row r ∷ [])
unfolding stands
reads_row v n parser.Header t w r rows h place rank says e = absurd cc
reads_row v n (parser.Config u c) t w r rows h place rank says e =
    reads_config v u n c t r rows h (may_take (parser.Config u c) w r place rank) (says u refl (and_parts (nat_le (next_rank c) (word_rank w)) _ place).1) e
reads_row v n (parser.Events p) t w r rows h place rank says e = absurd cc

-- ---- one event more

pub guarded : {X : Type 0} (b : Bool) (d : TraceFault) (r : Result X TraceFault) (x : X) → cond b (Err d) r ≡ Ok x → (b ≡ false) × (r ≡ Ok x)
guarded true d r x e = absurd cc
guarded false d r x e = (refl, e)

pub no_refusal : (n : ℕ) (o : Option Refusal) (s t : TraceParser) → unless_refused n o s ≡ Ok t → (o ≡ None) × (s ≡ t)
no_refusal n None s t e = (refl, ok_is s t e)
no_refusal n (Some r) s t e = absurd cc

pub in_record_ok : {X : Type 0} (n : ℕ) (r : Result X ℕ) (x : X) → in_record n r ≡ Ok x → r ≡ Ok x
in_record_ok n (Ok y) x e = cc
in_record_ok n (Err k) x e = absurd cc

-- a configuration that lacks nothing
pub configured_ok : (n : ℕ) (c : ConfigParser) (t : Topology) → configured n c ≡ Ok t → (lacks_adapters c ≡ false) × (c.partial ≡ t)
configured_ok n c t e = let g = guarded (lacks_adapters c) _ (Ok c.partial) t e in (g.0, ok_is c.partial t g.1)

-- what was read of a whole configuration, and of the events after it
pub record ReadsWhole (v : Version) (p : Past) (rows : List Row) : Type 0 where
  pub spelled : rows ≡ records_of v p
  pub held : holds v p.config ≡ true
  pub kept : IsKept p
  pub targets : AllByRecursion (λ (d : Device). d.target ≤ 65535) p.config.devices
  pub events : AllByRecursion FitsEvent p.events

pub reads_whole : (v w : Version) (c : ConfigParser) (rows : List Row) → lacks_adapters c ≡ false → Reads v (parser.Config w c) rows → ReadsWhole v (record { config = c.partial; events = [] }) rows
unfolding IsSound
reads_whole v w c rows came h =
    record { spelled = h.spelled; held = rw h.held.0 h.held.2; kept = kept_empty c h.sound came; targets = h.targets; events = tt }

push_event : (v : Version) (p : Past) (e : Event) → records_of v p ++ event_row e ∷ [] ≡ records_of v (record p { events = p.events ++ e ∷ [] })
unfolding records_of
push_event v p e =
    let t = p.config in
    ap (λ (rs : List Row). header v ∷ rs)
    (behind (weight_rows v t.weights) _ _ (event_row e) (behind (map link_row t.links) _ _ (event_row e)
    (behind (map adapter_row t.adapters) _ _ (event_row e) (behind (map device_row t.devices) _ _ (event_row e)
    (behind (map lane_row t.lanes) _ _ (event_row e) (sym (map-append event_row p.events (e ∷ []))))))))

reads_after : (v : Version) (n : ℕ) (p : Past) (t : TraceParser) (x : Event) (rows : List Row) → ReadsWhole v p rows → FitsEvent x → unless_refused n (refusal p.config p.events x) (parser.Events (record p { events = p.events ++ x ∷ [] })) ≡ Ok t
    → Reads v t (rows ++ event_row x ∷ [])
reads_after v n p t x rows h fits e =
    let k = no_refusal n _ _ t e in
    reads_next v (parser.Events (record p { events = p.events ++ x ∷ [] })) t (rows ++ event_row x ∷ []) k.1 (record {
      spelled = ap (λ (l : List Row). l ++ event_row x ∷ []) h.spelled ∙ push_event v p x;
      held = h.held;
      sound = sound_event p _ x h.kept (legal-none history_rules p.config p.events x k.0) refl;
      targets = h.targets;
      events = all_push FitsEvent p.events x h.events fits;
    })

reads_event : (v : Version) (n : ℕ) (s t : TraceParser) (x : Event) (rows : List Row) → Reads v s rows → FitsEvent x → add_event n s x ≡ Ok t → Reads v t (rows ++ event_row x ∷ [])
unfolding IsSound
reads_event v n parser.Header t x rows h fits e = absurd cc
reads_event v n (parser.Config w c) t x rows h fits e =
    on_ok (configured n c) _ t e (λ u eu k.
    let whole = configured_ok n c u eu in
    reads_after v n (record { config = c.partial; events = [] }) t x rows (reads_whole v w c rows whole.0 h) fits (rw whole.1 k))
reads_event v n (parser.Events p) t x rows h fits e =
    reads_after v n p t x rows (record { spelled = h.spelled; held = h.held; kept = h.sound; targets = h.targets; events = h.events }) fits e

-- ---- a record

-- what a word that stands in its place says of the record
pub record IsPlaced (s : TraceParser) (row : Row) (w : TraceWord) : Type 0 where
  pub eight : length row ≡ 8
  pub word : field_of row 0 ≡ spelled w
  pub place : stands s w ≡ true

pub placed_some : (s : TraceParser) (row : Row) (w : TraceWord) → placed s row ≡ Some w → IsPlaced s row w
unfolding placed
placed_some s row w h =
    let g = guard_some (length row == 8) _ w h in
    on_some (word_of (field_of row 0)) _ w g.1 (λ v ev k.
    let m = cond_some (stands s v) v w k in
    record { eight = eqb-true _ _ g.0; word = word_spelled _ w (ev ∙ ap (λ (x : TraceWord). Some x) m.1); place = ap (stands s) (sym m.1) ∙ m.0 })

reads_other : (v : Version) (n : ℕ) (s t : TraceParser) (w : TraceWord) (fields : Row) (rows : List Row) → Reads v s rows → IsPlaced s fields w → (in_record n (event_at w fields) >>= add_event n s) ≡ Ok t → Reads v t (rows ++ fields ∷ [])
reads_other v n s t w fields rows h p e =
    on_ok (in_record n (event_at w fields)) (add_event n s) t e (λ x ex r.
    let k = event_takes fields w x p.eight p.word (in_record_ok n (event_at w fields) x ex) in
    subst (λ (l : Row). Reads v t (rows ++ l ∷ [])) (sym k.0) (reads_event v n s t x rows h k.1 r))

reads_word : (v : Version) (n : ℕ) (s t : TraceParser) (w : TraceWord) (fields : Row) (rows : List Row) → Reads v s rows → IsPlaced s fields w → take_word n s w fields ≡ Ok t → Reads v t (rows ++ fields ∷ [])
unfolding take_word
reads_word v n s t word.Weight fields rows h p e =
    on_ok (in_record n (weight_at fields)) _ t e (λ w ew r.
    let k = row_is fields word.Weight _ p.eight p.word (weight_takes fields w p.eight (in_record_ok n (weight_at fields) w ew)).0 in
    subst (λ (l : Row). Reads v t (rows ++ l ∷ [])) (sym k) (reads_row v n s t word.Weight (row.Weight w) rows h p.place refl (λ u is knows. knows) r))
reads_word v n s t word.Link fields rows h p e =
    on_ok (in_record n (one_number fields)) _ t e (λ o eo r.
    let k = row_is fields word.Link _ p.eight p.word (one_takes fields (spelled word.Link) o p.eight (in_record_ok n (one_number fields) o eo)).0 in
    subst (λ (l : Row). Reads v t (rows ++ l ∷ [])) (sym k) (reads_row v n s t word.Link (row.Link o) rows h p.place refl (λ u is knows. knows) r))
reads_word v n s t word.Sim fields rows h p e =
    on_ok (in_record n (adapter_in (version_of s) fields)) _ t e (λ a ea r.
    let k = adapter_in_takes (version_of s) fields a p.eight p.word (in_record_ok n (adapter_in (version_of s) fields) a ea) in
    subst (λ (l : Row). Reads v t (rows ++ l ∷ [])) (sym k.0) (reads_row v n s t word.Sim (row.Sim a) rows h p.place refl (λ u is knows. subst (λ (x : Version). can_spell x a ≡ true) is k.1) r))
reads_word v n s t word.Dev fields rows h p e =
    on_ok (in_record n (device_at fields)) _ t e (λ d ed r.
    let took = device_takes fields d p.eight (in_record_ok n (device_at fields) d ed) in
    let k = row_is fields word.Dev _ p.eight p.word took.0 in
    subst (λ (l : Row). Reads v t (rows ++ l ∷ [])) (sym k) (reads_row v n s t word.Dev (row.Dev d) rows h p.place refl (λ u is knows. took.1.1) r))
reads_word v n s t word.Lane fields rows h p e =
    on_ok (in_record n (one_number fields)) _ t e (λ a ea r.
    let k = row_is fields word.Lane _ p.eight p.word (one_takes fields (spelled word.Lane) a p.eight (in_record_ok n (one_number fields) a ea)).0 in
    subst (λ (l : Row). Reads v t (rows ++ l ∷ [])) (sym k) (reads_row v n s t word.Lane (row.Lane a) rows h p.place refl (λ u is knows. tt) r))
reads_word v n s t w fields rows h p e = reads_other v n s t w fields rows h p e

pub reads_behind : (v : Version) (n : ℕ) (s t : TraceParser) (fields : Row) (rows : List Row) → Reads v s rows → row_step n s fields ≡ Ok t → Reads v t (rows ++ fields ∷ [])
unfolding row_step
reads_behind v n s t fields rows h e =
    on_ok (ok_or (placed s fields) (BadRecord n)) (λ w. take_word n s w fields) t e (λ w ew r.
    reads_word v n s t w fields rows h (placed_some s fields w (ok_or_ok (placed s fields) (BadRecord n) w ew)) r)

-- a parser has read these records, in some version
pub record ReadsBy (s : TraceParser) (rows : List Row) : Type 0 where
  pub version : Version
  pub reads : Reads version s rows

-- nothing but the header was read
pub first_reads : (v : Version) → Reads v (parser.Config v (first_config v)) (header v ∷ [])
unfolding IsSound records_of
first_reads version.One = record { spelled = refl; held = (refl, refl, refl); sound = ordered_standard; targets = tt; events = tt }
first_reads version.Two = record { spelled = refl; held = (refl, refl, refl); sound = ordered_empty; targets = tt; events = tt }
first_reads version.Three = record { spelled = refl; held = (refl, refl, refl); sound = ordered_empty; targets = tt; events = tt }

header_reads : (v : Version) (t : TraceParser) (fields : Row) (rows : List Row) → rows ≡ [] → is_header (name_of v) fields ≡ true → parser.Config v (first_config v) ≡ t → ReadsBy t (rows ++ fields ∷ [])
header_reads v t fields rows none named same =
    let made : Reads v (parser.Config v (first_config v)) (rows ++ fields ∷ []) = rw (none, named_header (name_of v) fields named) (first_reads v) in
    subst (λ (x : TraceParser). ReadsBy x (rows ++ fields ∷ [])) same (record { version = v; reads = made })

-- a parser that took a record has read it
pub step_reads : (n : ℕ) (s t : TraceParser) (fields : Row) (rows : List Row) → ReadsBy s rows → step n s fields ≡ Ok t → ReadsBy t (rows ++ fields ∷ [])
unfolding step
step_reads n parser.Header t fields rows h e = by (is_header (name_of version.One) fields) (is_header (name_of version.Two) fields) (is_header (name_of version.Three) fields) refl refl refl e
  where
    by : (one two three : Bool) → is_header (name_of version.One) fields ≡ one → is_header (name_of version.Two) fields ≡ two → is_header (name_of version.Three) fields ≡ three
        → cond one (Ok (parser.Config version.One (first_config version.One))) (cond two (Ok (parser.Config version.Two (first_config version.Two))) (cond three (Ok (parser.Config version.Three (first_config version.Three))) (Err BadHeader))) ≡ Ok t
        → ReadsBy t (rows ++ fields ∷ [])
    by true two three is_one is_two is_three k = header_reads version.One t fields rows h.reads.spelled is_one (ok_is _ t k)
    by false true three is_one is_two is_three k = header_reads version.Two t fields rows h.reads.spelled is_two (ok_is _ t k)
    by false false true is_one is_two is_three k = header_reads version.Three t fields rows h.reads.spelled is_three (ok_is _ t k)
    by false false false is_one is_two is_three k = absurd cc
step_reads n s t fields rows h e = record { version = h.version; reads = reads_behind h.version n s t fields rows h.reads e }

-- what was read to the end of the records is spelled by them
pub ended_reads : (v : Version) (s : TraceParser) (past : Past) (rows : List Row) → Reads v s rows → ended s ≡ Ok past → (rows ≡ records_of v past) × (holds v past.config ≡ true) × IsHistory past
unfolding ended IsSound
ended_reads v parser.Header past rows h e = absurd cc
ended_reads v (parser.Config w c) past rows h e =
    on_ok (configured _ c) _ past e (λ u eu k.
    let whole = configured_ok _ c u eu in
    let r = reads_whole v w c rows whole.0 h in
    let same : (let p : Past = record { config = c.partial; events = [] } in p) ≡ past = rw whole.1 (ok_is _ past k) in
    subst (λ (p : Past). (rows ≡ records_of v p) × (holds v p.config ≡ true) × IsHistory p) same
    (r.spelled, r.held, record { config = r.kept.config; legal = r.kept.legal; targets = r.targets; events = r.events }))
ended_reads v (parser.Events p) past rows h e =
    subst (λ (q : Past). (rows ≡ records_of v q) × (holds v q.config ≡ true) × IsHistory q) (ok_is p past e)
    (h.spelled, h.held, record { config = h.sound.config; legal = h.sound.legal; targets = h.targets; events = h.events })
