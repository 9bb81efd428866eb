-- The records of a whole history are read as that history.
use Rattle.std.proofs.Common.{◌≡◌, ◌≤◌, ℕ, List, [], ◌∷◌, ◌++◌, length, map, Bool, true, false, cond, refl, sym, ap, ◌∙◌, arith, None, Result, Ok, not, ◌==◌, ◌&&◌, ◌||◌, if◌then◌else◌}
use Rattle.std.specs.Prelude.{⊤}
use Rattle.std.specs.List.{AllByRecursion, list_all}
use Rattle.std.proofs.lemmas.Bool.{and_parts, eqb-true}
use Rattle.std.proofs.lemmas.List.{nil_from_length}
use Rattle.csv.specs.Records.{field_at}
use Rattle.cam_types.specs.Topology.{IsConfig}
use Rattle.cam_types.specs.Weights.{are_standard}
use Rattle.event_rules.specs.Legal.{history_rules, is_legal as legal_by}
use Rattle.event_rules.proofs.LegalLemmas.{none-legal}
use Rattle.record_text.specs.ConfigParsing.{rows_then}
use Rattle.record_text.specs.Header.{has_letters, is_header, header_row}
use Rattle.record_text.specs.Steps.{taken}
use Rattle.record_text.specs.Text.{Row}
use Rattle.record_text.proofs.ConfigLaws.{config_came, first_table, next_few, parsed_config, rank_few, taken_rows, HaveAll}
use Rattle.record_text.proofs.ListLemmas.{Along, all_true, along_both, true_along}
use Rattle.record_text.proofs.StepLemmas.{run}
use Rattle.trace_file.specs.Histories.{Adapter, Topology, Device, Event, Past, config_fault, is_legal, is_legal_event}
use Rattle.trace_file.specs.Reading.{ended, first_config, reading, step, TraceFault, TraceParser}
use Rattle.trace_file.specs.declared.trace_parser.TraceParser.TheVariants as parser
use Rattle.trace_file.specs.Records.{event_row, has_no_links, header, holds, is_unlinked, least_version, records_of}
use Rattle.trace_file.specs.Versions.{has_links, has_table, name_of, Version}
use Rattle.trace_file.specs.declared.version.Version.TheVariants as version
use Rattle.trace_file.specs.Trace.{FitsEvent, IsHistory}
use Rattle.trace_file.proofs.AgainLaws.{event_step, takes_rows}
use Rattle.trace_file.proofs.ParserLaws.{CanSay}
use Rattle.trace_file.proofs.RowLaws.{can_spell}

-- ---- the rows of a configuration

all_same : {X : Type 0} (P : Type 0) (xs : List X) → P → AllByRecursion (λ (x : X). P) xs
all_same P [] p = tt
all_same P (x ∷ xs) p = (p, all_same P xs p)

all_free : {X : Type 0} (xs : List X) → AllByRecursion (λ (x : X). ⊤) xs
all_free xs = all_same ⊤ xs tt

targets_twice : (ds : List Device) → AllByRecursion (λ (d : Device). d.target ≤ 65535) ds → AllByRecursion (λ (d : Device). (d.target ≤ 65535) × (d.target ≤ 65535)) ds
targets_twice [] h = tt
targets_twice (d ∷ ds) h = ((h.0, h.0), targets_twice ds h.1)

-- a configuration without links has none and no adapter on one
pub no_links : (t : Topology) → has_no_links t ≡ true → t.links ≡ []
no_links t alone = nil_from_length t.links (eqb-true _ _ (and_parts (length t.links == 0) (list_all is_unlinked t.adapters) alone).0)

pub all_alone : (t : Topology) → has_no_links t ≡ true → list_all is_unlinked t.adapters ≡ true
all_alone t alone = (and_parts (length t.links == 0) (list_all is_unlinked t.adapters) alone).1

-- a version that holds a configuration can spell its adapters
pub spelled_all : (v : Version) (t : Topology) → holds v t ≡ true → list_all (can_spell v) t.adapters ≡ true
spelled_all version.One t h = all_alone t (and_parts (are_standard t.weights) (has_no_links t) h).1
spelled_all version.Two t h = all_alone t h
spelled_all version.Three t h = each t.adapters
  where
    each : (as' : List Adapter) → list_all (can_spell version.Three) as' ≡ true
    each [] = refl
    each (a ∷ as') = each as'

links_said : (v : Version) (t : Topology) → holds v t ≡ true → AllByRecursion (λ (k : ℕ). has_links v ≡ true) t.links
links_said version.One t h = rw (no_links t (and_parts (are_standard t.weights) (has_no_links t) h).1) tt
links_said version.Two t h = rw (no_links t h) tt
links_said version.Three t h = all_same _ t.links refl

-- a version says all rows of a configuration that it holds
said_all : (v : Version) (t : Topology) → holds v t ≡ true → AllByRecursion (λ (d : Device). d.target ≤ 65535) t.devices → HaveAll (CanSay v) (has_table v) t
said_all v t held targets =
    record {
      weights = λ table. all_same (has_table v ≡ true) t.weights table;
      links = links_said v t held;
      adapters = all_true (can_spell v) t.adapters (spelled_all v t held);
      devices = targets_twice t.devices targets;
      lanes = all_free t.lanes;
    }

held_so : (v : Version) (t : Topology) → holds v t ≡ true → (has_table v || (not (has_table v) && are_standard t.weights)) ≡ true
held_so version.One t h = (and_parts (are_standard t.weights) (has_no_links t) h).0
held_so version.Two t h = refl
held_so version.Three t h = refl

first_same : (v : Version) → first_table (not (has_table v)) ≡ first_config v
first_same version.One = refl
first_same version.Two = refl
first_same version.Three = refl

-- the parser after a whole configuration
abbrev pub at_config : Version → Topology → TraceParser
at_config v t = parser.Config v (parsed_config (has_table v) t)

-- the rows of a configuration are taken, and those after them
pub taken_config : (v : Version) (t : Topology) → config_fault t ≡ None → holds v t ≡ true → AllByRecursion (λ (d : Device). d.target ≤ 65535) t.devices → (rest : List Row) (u : TraceParser)
    → ((m : ℕ) → taken step m (at_config v t) rest ≡ Ok u) → (n : ℕ) → taken step n (parser.Config v (first_config v)) (rows_then (has_table v) t rest) ≡ Ok u
taken_config v t kept held targets rest u k n =
    let is : IsConfig t = record { kept = kept } in
    rw (← first_same v) (taken_rows step (parser.Config v) (CanSay v) (takes_rows v) (not (has_table v)) (has_table v) t is (held_so v t held) (said_all v t held targets) rest u k n)

-- ---- events

abbrev pub at_events : Version → Topology → List Event → TraceParser
at_events v t [] = at_config v t
at_events v t (e ∷ es) = parser.Events (record { config = t; events = e ∷ es })

abbrev GoodEvent : Topology → List Event → Event → Type 0
GoodEvent c before e = (is_legal_event c (before, e) ≡ true) × FitsEvent e

pub one_event : (v : Version) (t : Topology) → config_fault t ≡ None → (n : ℕ) (before : List Event) (e : Event) → GoodEvent t before e → step n (at_events v t before) (event_row e) ≡ Ok (at_events v t (before ++ e ∷ []))
one_event v t kept n [] e h =
    let came = config_came (has_table v) t (record { kept = kept }) in
    let few = next_few (parsed_config (has_table v) t) 5 (omega (arith, rank_few (has_table v) t)) in
    event_step n (at_config v t) e (λ k. cc) few h.1 ∙ rw (came, none-legal history_rules t [] e h.0) refl
one_event v t kept n (b ∷ bs) e h =
    event_step n (at_events v t (b ∷ bs)) e (λ k. cc) (omega arith) h.1 ∙ rw (none-legal history_rules t (b ∷ bs) e h.0) refl

legal_along : (c : Topology) (es : List Event) → is_legal c es ≡ true → Along (λ b x. is_legal_event c (b, x) ≡ true) [] es
unfolding legal_by
legal_along c es e = true_along (is_legal_event c) [] es e

taken_events : (v : Version) (past : Past) → IsHistory past → (n : ℕ) → taken step n (at_config v past.config) (map event_row past.events) ≡ Ok (at_events v past.config past.events)
taken_events v past h n =
    let c = past.config in
    run step event_row (at_events v c) (GoodEvent c) (one_event v c h.config) [] past.events n (along_both (λ b x. is_legal_event c (b, x) ≡ true) FitsEvent [] past.events (legal_along c past.events h.legal) h.events)

-- ---- a whole history

at_end : (v : Version) (t : Topology) → config_fault t ≡ None → (es : List Event) → ended (at_events v t es) ≡ Ok (record { config = t; events = es })
unfolding ended
at_end v t kept [] = rw (config_came (has_table v) t (record { kept = kept })) refl
at_end v t kept (e ∷ es) = refl

header_first : (v : Version) → step 1 parser.Header (header v) ≡ Ok (parser.Config v (first_config v))
unfolding step is_header has_letters header_row field_at
header_first version.One = refl
header_first version.Two = refl
header_first version.Three = refl

pub reading_again : (v : Version) (past : Past) → IsHistory past → holds v past.config ≡ true → reading (records_of v past) ≡ Ok past
unfolding reading records_of
reading_again v past h held =
    let t = past.config in
    let rows = taken_config v t h.config held h.targets (map event_row past.events) (at_events v t past.events) (taken_events v past h) 2 in
    rw (header_first v, rows) (at_end v t h.config past.events)

-- two histories have no list of records in common
pub one_past : (v w : Version) (one other : Past) → IsHistory one → IsHistory other → holds v one.config ≡ true → holds w other.config ≡ true → records_of v one ≡ records_of w other → one ≡ other
one_past v w one other h k in_v in_w e =
    let same : ◌≡◌ {A = Result Past TraceFault} (Ok one) (Ok other) = sym (reading_again v one h in_v) ∙ ap reading e ∙ reading_again w other k in_w in
    cc

-- and two versions have none: the header names the version
named : List Row → Version
named [] = version.One
named (row ∷ rows) = if is_header (name_of version.Three) row then version.Three else if is_header (name_of version.Two) row then version.Two else version.One

named_by : (v : Version) (past : Past) → named (records_of v past) ≡ v
unfolding named records_of header_row is_header has_letters field_at
named_by version.One past = refl
named_by version.Two past = refl
named_by version.Three past = refl

pub one_version : (v w : Version) (one other : Past) → records_of v one ≡ records_of w other → v ≡ w
one_version v w one other e = sym (named_by v one) ∙ ap named e ∙ named_by w other

-- the least version that holds a configuration is one that does
pub least_held : (c : Topology) → holds (least_version c) c ≡ true
least_held c = by (holds version.One c) (holds version.Two c) refl refl
  where
    by : (a b : Bool) → holds version.One c ≡ a → holds version.Two c ≡ b → holds (cond a version.One (cond b version.Two version.Three)) c ≡ true
    by true b e f = e
    by false true e f = f
    by false false e f = refl
