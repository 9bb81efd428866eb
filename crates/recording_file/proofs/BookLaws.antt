-- The records of names, caps and requests are read as those of the recording.
use Rattle.std.proofs.Common.{◌≡◌, ◌≢◌, ◌+◌, ◌<◌, ◌≤◌, ℕ, List, [], ◌∷◌, ◌++◌, length, map, Bool, true, false, cond, refl, sym, ap, ◌∙◌, arith, Option, Some, None, IfSome, Ok, ◌&&◌, not, nat_lt, nat_le}
use Rattle.std.specs.Option.{option_map_or}
use Rattle.std.proofs.lemmas.Bool.{and_parts, le-leb, leb-true, ltb-false, lt-ltb, not-false}
use Rattle.cam_types.specs.Topology.{Topology, IsConfig}
use Rattle.cam_types.specs.declared.limits.TheConstants.{MAX_PRIORITY}
use Rattle.cam_types.proofs.ConfigLemmas.{few_adapters, few_devices, few_links}
use Rattle.cam_types.proofs.ListLemmas.{or_left}
use Rattle.cam_types.specs.Questions.{names_device}
use Rattle.recording_file.specs.Recorded.{Recorded, Request, FitsFields, IsRecording, is_done_right, has_items, last_of, request_cause, plain_cause, window_cause, NoDevice, BadPriority, BadWindow, MAX_REQUESTS, MAX_RECORDED_ROUNDS}
use Rattle.recording_file.proofs.PlaceLemmas.{device_there}
use Rattle.recording_file.specs.Reading.{apply_parsed, add_name, add_cap, add_request, ended, recorded_of, stands, step, whole, RecordingParser}
use Rattle.recording_file.specs.declared.recording_parser.RecordingParser.TheVariants as parser
use Rattle.recording_file.specs.declared.parsed_row.ParsedRow.TheVariants as parsed
use Rattle.recording_file.specs.declared.word.RecordingWord.TheVariants as word
use Rattle.recording_file.specs.Caps.{Cap, is_cap}
use Rattle.recording_file.specs.Counts.{counts_of}
use Rattle.recording_file.specs.Names.{NameValue, is_name}
use Rattle.record_text.specs.Fields.{max_number}
use Rattle.recording_file.specs.Records.{cap_row, name_row, request_row, FitsParsed, FitsRequest}
use Rattle.record_text.specs.Steps.{taken}
use Rattle.recording_file.proofs.AgainLaws.{parsed_step}
use Rattle.record_text.proofs.ListLemmas.{Along, along_both, along_few, along_to, along_with, none_along, true_along}
use Rattle.record_text.proofs.StepLemmas.{then_taken, run}
use Rattle.recording_file.proofs.PlacingLemmas.{not_some, plain_none}
use Rattle.recording_file.proofs.ParsedAgain.{IsCounted}
use Rattle.recording_file.proofs.HeadLaws.{base_of}
use Rattle.record_text.specs.ConfigParsing.{next_rank}
use Rattle.record_text.proofs.ConfigLaws.{config_came, next_few, parsed_config, rank_few}

-- ---- names, caps and requests

-- a parser with a whole configuration, and these names, caps and requests
abbrev pub at_book : RecordingParser → List NameValue → List Cap → List Request → RecordingParser
at_book base [] [] [] = base
at_book base [] [] (q ∷ qs) = parser.Book (record (recorded_of base) { names = []; caps = []; requests = q ∷ qs })
at_book base [] (c ∷ cs) qs = parser.Book (record (recorded_of base) { names = []; caps = c ∷ cs; requests = qs })
at_book base (x ∷ xs) cs qs = parser.Book (record (recorded_of base) { names = x ∷ xs; caps = cs; requests = qs })

-- a parser after the devices
pub record IsBase (r : Recorded) (base : RecordingParser) : Type 0 where
  pub headed : base ≢ parser.Header
  pub whole : (n : ℕ) → whole n base ≡ Ok (record r { names = []; caps = []; requests = [] })
  pub ends : ended base ≡ Ok (record r { names = []; caps = []; requests = [] })
  pub is : recorded_of base ≡ record r { names = []; caps = []; requests = [] }
  pub named : stands base word.Name ≡ true
  pub capped : stands base word.Cap ≡ true
  pub asked : stands base word.Request ≡ true
  pub small : IsCounted (counts_of r.config) × (r.rounds ≤ max_number)

-- what is recorded with these names, caps and requests
abbrev pub with_items : Recorded → List NameValue → List Cap → List Request → Recorded
with_items r ns cs qs = record r { names = ns; caps = cs; requests = qs }

pub record BookAt (r : Recorded) (s : RecordingParser) : Type 0 where
  pub headed : s ≢ parser.Header
  pub whole : (n : ℕ) → whole n s ≡ Ok r
  pub ends : ended s ≡ Ok r
  pub is : recorded_of s ≡ r

book_is : (r : Recorded) (base : RecordingParser) → IsBase r base → (ns : List NameValue) (cs : List Cap) (qs : List Request) → recorded_of (parser.Book (record (recorded_of base) { names = ns; caps = cs; requests = qs })) ≡ with_items r ns cs qs
book_is r base h ns cs qs = ap (λ (q : Recorded). record q { names = ns; caps = cs; requests = qs }) h.is

book : (r : Recorded) (base : RecordingParser) → IsBase r base → (ns : List NameValue) (cs : List Cap) (qs : List Request) → BookAt (with_items r ns cs qs) (parser.Book (record (recorded_of base) { names = ns; caps = cs; requests = qs }))
unfolding ended
book r base h ns cs qs =
    let is = book_is r base h ns cs qs in
    record { headed = λ z. cc; whole = λ n. ap (λ (q : Recorded). Ok q) is; ends = ap (λ (q : Recorded). Ok q) is; is = is }

pub book_at : (r : Recorded) (base : RecordingParser) → IsBase r base → (ns : List NameValue) (cs : List Cap) (qs : List Request) → BookAt (with_items r ns cs qs) (at_book base ns cs qs)
book_at r base h [] [] [] = record { headed = h.headed; whole = h.whole; ends = h.ends; is = h.is }
book_at r base h [] [] (q ∷ qs) = book r base h [] [] (q ∷ qs)
book_at r base h [] (c ∷ cs) qs = book r base h [] (c ∷ cs) qs
book_at r base h (x ∷ xs) cs qs = book r base h (x ∷ xs) cs qs

-- with an item it is a book
book_name : (r : Recorded) (base : RecordingParser) → IsBase r base → (ns : List NameValue) (x : NameValue) → parser.Book (with_items r (ns ++ x ∷ []) [] []) ≡ at_book base (ns ++ x ∷ []) [] []
book_name r base h [] x = ap (λ (q : Recorded). parser.Book q) (sym (book_is r base h (x ∷ []) [] []))
book_name r base h (y ∷ ns) x = ap (λ (q : Recorded). parser.Book q) (sym (book_is r base h (y ∷ (ns ++ x ∷ [])) [] []))

book_cap : (r : Recorded) (base : RecordingParser) → IsBase r base → (ns : List NameValue) (cs : List Cap) (x : Cap) → parser.Book (with_items r ns (cs ++ x ∷ []) []) ≡ at_book base ns (cs ++ x ∷ []) []
book_cap r base h [] [] x = ap (λ (q : Recorded). parser.Book q) (sym (book_is r base h [] (x ∷ []) []))
book_cap r base h [] (c ∷ cs) x = ap (λ (q : Recorded). parser.Book q) (sym (book_is r base h [] (c ∷ (cs ++ x ∷ [])) []))
book_cap r base h (y ∷ ns) cs x = ap (λ (q : Recorded). parser.Book q) (sym (book_is r base h (y ∷ ns) (cs ++ x ∷ []) []))

book_request : (r : Recorded) (base : RecordingParser) → IsBase r base → (ns : List NameValue) (cs : List Cap) (qs : List Request) (q : Request) → parser.Book (with_items r ns cs (qs ++ q ∷ [])) ≡ at_book base ns cs (qs ++ q ∷ [])
book_request r base h [] [] [] q = ap (λ (q : Recorded). parser.Book q) (sym (book_is r base h [] [] (q ∷ [])))
book_request r base h [] [] (y ∷ qs) q = ap (λ (q : Recorded). parser.Book q) (sym (book_is r base h [] [] (y ∷ (qs ++ q ∷ []))))
book_request r base h [] (c ∷ cs) qs q = ap (λ (q : Recorded). parser.Book q) (sym (book_is r base h [] (c ∷ cs) (qs ++ q ∷ [])))
book_request r base h (x ∷ ns) cs qs q = ap (λ (q : Recorded). parser.Book q) (sym (book_is r base h (x ∷ ns) cs (qs ++ q ∷ [])))

-- ---- places

rank_seven : (b : Bool) → nat_le (cond b 7 6) 7 && true ≡ true
rank_seven true = refl
rank_seven false = refl

rank_eight : (a b : Bool) → nat_le (cond a 8 (cond b 7 6)) 8 ≡ true
rank_eight true b = refl
rank_eight false true = refl
rank_eight false false = refl

name_place : (r : Recorded) (base : RecordingParser) → IsBase r base → (ns : List NameValue) → stands (at_book base ns [] []) word.Name ≡ true
unfolding stands
name_place r base h [] = h.named
name_place r base h (x ∷ ns) = refl

cap_place : (r : Recorded) (base : RecordingParser) → IsBase r base → (ns : List NameValue) (cs : List Cap) → stands (at_book base ns cs []) word.Cap ≡ true
unfolding stands
cap_place r base h [] [] = h.capped
cap_place r base h [] (c ∷ cs) = rank_seven (has_items (c ∷ cs))
cap_place r base h (x ∷ ns) cs = rank_seven (has_items cs)

request_place : (r : Recorded) (base : RecordingParser) → IsBase r base → (ns : List NameValue) (cs : List Cap) (qs : List Request) → nat_lt (length qs) MAX_REQUESTS ≡ true → stands (at_book base ns cs qs) word.Request ≡ true
unfolding stands
request_place r base h [] [] [] few = h.asked
request_place r base h [] [] (q ∷ qs) few = rw (few, rank_eight (has_items (q ∷ qs)) false) refl
request_place r base h [] (c ∷ cs) qs few = rw (few, rank_eight (has_items qs) (has_items (c ∷ cs))) refl
request_place r base h (x ∷ ns) cs qs few = rw (few, rank_eight (has_items qs) (has_items cs)) refl

-- ---- one name, cap or request more

name_added : (n : ℕ) (s : RecordingParser) (q : Recorded) (x : NameValue) → ((m : ℕ) → whole m s ≡ Ok q) → add_name n s x ≡ Ok (parser.Book (record q { names = q.names ++ x ∷ [] }))
name_added n s q x is = rw (is n) refl

cap_added : (n : ℕ) (s : RecordingParser) (q : Recorded) (x : Cap) → ((m : ℕ) → whole m s ≡ Ok q) → add_cap n s x ≡ Ok (parser.Book (record q { caps = q.caps ++ x ∷ [] }))
cap_added n s q x is = rw (is n) refl

request_added : (n : ℕ) (s : RecordingParser) (q : Recorded) (x : Request) → ((m : ℕ) → whole m s ≡ Ok q) → request_cause q.rounds q.config q.caps (q.requests, x) ≡ None
    → add_request n s x ≡ Ok (parser.Book (record q { requests = q.requests ++ x ∷ [] }))
request_added n s q x is none = rw (is n, none) refl

one_name : (r : Recorded) (base : RecordingParser) → IsBase r base → (n : ℕ) (before : List NameValue) (x : NameValue) → is_name (counts_of r.config) (before, x) ≡ true
    → step n (at_book base before [] []) (name_row x) ≡ Ok (at_book base (before ++ x ∷ []) [] [])
unfolding apply_parsed
one_name r base h n before x e =
    let s = at_book base before [] [] in
    let at = book_at r base h before [] [] in
    parsed_step n s (parsed.Name x) at.headed (rw at.is h.small) (name_place r base h before) (rw at.is e)
    ∙ name_added n s (with_items r before [] []) x at.whole ∙ ap (λ (t : RecordingParser). Ok t) (book_name r base h before x)

one_cap : (r : Recorded) (base : RecordingParser) → IsBase r base → (ns : List NameValue) (n : ℕ) (before : List Cap) (x : Cap) → is_cap r.rounds (counts_of r.config) (before, x) ≡ true
    → step n (at_book base ns before []) (cap_row x) ≡ Ok (at_book base ns (before ++ x ∷ []) [])
unfolding apply_parsed
one_cap r base h ns n before x e =
    let s = at_book base ns before [] in
    let at = book_at r base h ns before [] in
    parsed_step n s (parsed.Cap x) at.headed (rw at.is h.small) (cap_place r base h ns before) (rw at.is e)
    ∙ cap_added n s (with_items r ns before []) x at.whole ∙ ap (λ (t : RecordingParser). Ok t) (book_cap r base h ns before x)

abbrev pub GoodRequest : Recorded → List Request → Request → Type 0
GoodRequest r before q = ((request_cause r.rounds r.config r.caps (before, q) ≡ None) × FitsParsed r (parsed.Request q)) × (length before < MAX_REQUESTS)

one_request : (r : Recorded) (base : RecordingParser) → IsBase r base → (n : ℕ) (before : List Request) (q : Request) → GoodRequest r before q
    → step n (at_book base r.names r.caps before) (request_row q) ≡ Ok (at_book base r.names r.caps (before ++ q ∷ []))
unfolding apply_parsed
one_request r base h n before q e =
    let s = at_book base r.names r.caps before in
    let at = book_at r base h r.names r.caps before in
    parsed_step n s (parsed.Request q) at.headed tt (request_place r base h r.names r.caps before (lt-ltb _ _ e.1)) (rw at.is e.0.1)
    ∙ request_added n s (with_items r r.names r.caps before) q at.whole e.0.0 ∙ ap (λ (t : RecordingParser). Ok t) (book_request r base h r.names r.caps before q)

-- a request without a cause against it fits its fields
request_fits : (rounds : ℕ) (c : Topology) (caps : List Cap) (before : List Request) (q : Request) → IsConfig c → rounds ≤ MAX_RECORDED_ROUNDS → request_cause rounds c caps (before, q) ≡ None → FitsFields q → FitsRequest q
unfolding request_cause plain_cause window_cause
request_fits rounds c caps before q is le e fields =
    let p = or_left (plain_cause rounds c q) _ e in
    let there = plain_none rounds c q p in
    let device = device_there c q.device is there.there in
    let sent = there.last in
    let a = not_some (not (names_device c q.device)) NoDevice _ p in
    let b = not_some (nat_lt MAX_PRIORITY q.priority) BadPriority _ a.1 in
    let w = not_some (not (nat_le 1 q.arrival && (nat_le q.arrival (last_of rounds q) && nat_le (last_of rounds q) rounds))) BadWindow _ b.1 in
    let window = and_parts (nat_le 1 q.arrival) _ (not-false _ w.0) in
    let inner = and_parts (nat_le q.arrival (last_of rounds q)) _ window.1 in
    let arrival = leb-true _ _ inner.0 in
    let last = leb-true _ _ inner.1 in
    let priority = ltb-false _ _ b.0 in
    record { driver = fields.0; device = omega arith; priority = omega arith; arrival = omega arith; last = by q.last last; sent = omega arith; done = fields.1 }
  where
    by : (o : Option ℕ) → option_map_or (λ n. n) o rounds ≤ rounds → IfSome o (λ n. n ≤ max_number)
    by None h = tt
    by (Some n) h = omega arith

pub good_requests : (r : Recorded) → IsRecording r → Along (GoodRequest r) [] r.requests
good_requests r h =
    let kept = h.kept in
    let config : IsConfig r.config = record { kept = kept.head.config } in
    let causes = none_along (request_cause r.rounds r.config r.caps) [] r.requests kept.requests in
    let some = along_both (λ b q. request_cause r.rounds r.config r.caps (b, q) ≡ None) FitsFields [] r.requests causes h.fields in
    let both = along_both (λ b (q : Request). (request_cause r.rounds r.config r.caps (b, q) ≡ None) × FitsFields q) (λ (q : Request). is_done_right r.completions q ≡ true) [] r.requests some kept.done in
    let fitting = along_to (λ b (q : Request). ((request_cause r.rounds r.config r.caps (b, q) ≡ None) × FitsFields q) × (is_done_right r.completions q ≡ true)) (λ b (q : Request). (request_cause r.rounds r.config r.caps (b, q) ≡ None) × FitsParsed r (parsed.Request q))
    (λ b q k. (k.0.0, (request_fits r.rounds r.config r.caps b q config kept.head.rounds k.0.0 k.0.1, k.1))) [] r.requests both in
    let few = kept.few in
    along_with (λ b (q : Request). (request_cause r.rounds r.config r.caps (b, q) ≡ None) × FitsParsed r (parsed.Request q)) (λ b q. length b < MAX_REQUESTS) [] r.requests fitting (along_few MAX_REQUESTS [] r.requests (omega arith))

-- the rows after the devices
pub taken_book : (r : Recorded) (base : RecordingParser) → IsBase r base → IsRecording r → (n : ℕ)
    → taken step n base (map name_row r.names ++ (map cap_row r.caps ++ map request_row r.requests)) ≡ Ok (at_book base r.names r.caps r.requests)
taken_book r base h is n =
    let head = is.kept.head in
    let names = true_along (is_name (counts_of r.config)) [] r.names head.names in
    let caps = true_along (is_cap r.rounds (counts_of r.config)) [] r.caps head.caps in
    let final = at_book base r.names r.caps r.requests in
    then_taken step n base (at_book base r.names [] []) final (map name_row r.names) _ (run step name_row (λ ns. at_book base ns [] []) (λ b x. is_name (counts_of r.config) (b, x) ≡ true) (one_name r base h) [] r.names n names) (λ m.
    then_taken step m (at_book base r.names [] []) (at_book base r.names r.caps []) final (map cap_row r.caps) _ (run step cap_row (λ cs. at_book base r.names cs []) (λ b x. is_cap r.rounds (counts_of r.config) (b, x) ≡ true) (one_cap r base h r.names) [] r.caps m caps) (λ k.
    run step request_row (λ qs. at_book base r.names r.caps qs) (GoodRequest r) (one_request r base h) [] r.requests k (good_requests r is)))

-- ---- the parser after the devices

pub counted_so : (c : Topology) → IsConfig c → IsCounted (counts_of c)
counted_so c h = record { devices = few_devices c h; adapters = few_adapters c h; links = few_links c h }

pub is_base : (table : Bool) (r : Recorded) → IsRecording r → IsBase r (base_of table r)
unfolding stands ended
is_base table r h =
    let t = r.config in
    let head = h.kept.head in
    let is : IsConfig t = record { kept = head.config } in
    let rounds = head.rounds in
    let came = config_came table t is in
    let c = parsed_config table t in
    let few : next_rank c ≤ 4 = next_few c 4 (rank_few table t) in
    record {
      headed = λ z. cc;
      whole = λ n. rw came refl;
      ends = rw came refl;
      is = refl;
      named = rw (le-leb (2 + next_rank c) 6 (omega arith)) refl;
      capped = rw (le-leb (2 + next_rank c) 7 (omega arith)) refl;
      asked = rw (le-leb (2 + next_rank c) 8 (omega arith)) refl;
      small = (counted_so t is, omega arith);
    }
