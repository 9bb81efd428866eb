-- A request's place among the others.
use Rattle.std.proofs.Common.{◌≡◌, ◌≢◌, ◌<◌, ◌≤◌, ℕ, List, [], ◌∷◌, ◌++◌, inl, inr, length, Bool, true, false, cond, refl, sym, ap, ◌∙◌, arith, length-append}
use Rattle.std.specs.Prelude.{◌&&◌, ◌==◌, not, nat_le, nat_lt, Option, Some, None, Result, Ok, Err, ⊤, OnOk, OnErr}
use Rattle.std.specs.List.{AllByRecursion, list_all}
use Rattle.std.proofs.lemmas.Bool.{and_parts, ltb-true, leb-true, not-false, ltb-false, eqb-true, eqb-false}
use Rattle.std.proofs.lemmas.List.Folds.{list_all-append}
use Rattle.cam_types.specs.Lists.{prefixed, prefixed_after}
use Rattle.cam_types.specs.Topology.{Topology, IsConfig}
use Rattle.cam_types.specs.Questions.{names_device}
use Rattle.cam_types.specs.declared.limits.TheConstants.{MAX_PRIORITY}
use Rattle.cam_types.proofs.ConfigLemmas.{few_devices, few_adapters, few_links}
use Rattle.cam_types.proofs.ListLemmas.{prefixed-push, first_answer-push}
use Rattle.record_text.proofs.ListLemmas.{all_push}
use Rattle.recording_file.specs.Recorded.{Recorded, Request, IsHead, IsKept, last_of, plain_cause, window_cause, crowd_cause, is_done_right, request_cause, MAX_REQUESTS, RequestFault, NoDevice, BadPriority, BadWindow, Early, Late}
use Rattle.recording_file.specs.Caps.{Cap, is_cap, part_count, PartKind}
use Rattle.recording_file.specs.declared.part.PartKind.TheVariants as kind
use Rattle.recording_file.specs.Requests.{unless_cause, RequestError}
use Rattle.recording_file.specs.Counts.{counts_of}
use Rattle.recording_file.specs.Names.{NameValue, is_name}
use Rattle.recording_file.specs.Room.{IsLaid, IsRecorder, IsRoom, IsSized, IsTable, rows_by}

-- ---- causes

pub not_some : {X : Type 0} (b : Bool) (x : X) (rest : Option X) → cond b (Some x) rest ≡ None → (b ≡ false) × (rest ≡ None)
not_some true x rest e = absurd cc
not_some false x rest e = (refl, e)

pub record IsPlain (rounds : ℕ) (c : Topology) (q : Request) : Type 0 where
  pub there : names_device c q.device ≡ true
  pub listed : q.priority ≤ MAX_PRIORITY
  pub some : 1 ≤ q.sent
  pub last : q.sent ≤ rounds
  pub arrival : 1 ≤ q.arrival
  pub arrived : q.arrival ≤ q.sent
  pub within : q.sent ≤ last_of rounds q
  pub end : last_of rounds q ≤ rounds

pub plain_none : (rounds : ℕ) (c : Topology) (q : Request) → plain_cause rounds c q ≡ None → IsPlain rounds c q
unfolding plain_cause window_cause
plain_none rounds c q e =
    let a = not_some (not (names_device c q.device)) NoDevice _ e in
    let b = not_some (nat_lt MAX_PRIORITY q.priority) BadPriority _ a.1 in
    let w = not_some (not (nat_le 1 q.arrival && (nat_le q.arrival (last_of rounds q) && nat_le (last_of rounds q) rounds))) BadWindow _ b.1 in
    let s = not_some (nat_lt q.sent q.arrival) Early _ w.1 in
    let l = not_some (nat_lt (last_of rounds q) q.sent) Late _ s.1 in
    let window = and_parts (nat_le 1 q.arrival) _ (not-false _ w.0) in
    let inner = and_parts (nat_le q.arrival (last_of rounds q)) _ window.1 in
    let one = leb-true _ _ window.0 in
    let end = leb-true _ _ inner.1 in
    let early = ltb-false _ _ s.0 in
    let late = ltb-false _ _ l.0 in
    record { there = not-false _ a.0; listed = ltb-false _ _ b.0; some = omega arith; last = omega arith; arrival = one; arrived = early; within = late; end = end }

pub cause_plain : (rounds : ℕ) (c : Topology) (caps : List Cap) (before : List Request) (q : Request) (cause : RequestFault) → plain_cause rounds c q ≡ Some cause → request_cause rounds c caps (before, q) ≡ Some cause
unfolding request_cause
cause_plain rounds c caps before q cause e = rw e refl

pub cause_crowd : (rounds : ℕ) (c : Topology) (caps : List Cap) (before : List Request) (q : Request) → plain_cause rounds c q ≡ None → request_cause rounds c caps (before, q) ≡ crowd_cause c caps before q
unfolding request_cause
cause_crowd rounds c caps before q e = rw e refl

-- ---- the table

pub room_table : (rounds : ℕ) (c : Topology) (caps : List Cap) (requests : List Request) (cells : List ℕ) → 1 ≤ rounds → IsRoom rounds c caps requests cells → IsTable rounds c caps requests cells
room_table rounds c caps requests cells some h = record { none = λ e. absurd (let size = h.size in omega arith); room = λ _. h }

pub table_sized : (rounds : ℕ) (c : Topology) (caps : List Cap) (requests : List Request) (cells : List ℕ) → IsTable rounds c caps requests cells → IsSized rounds cells
table_sized rounds c caps requests cells h = by (length cells == 0) refl
  where
    by : (b : Bool) → (length cells == 0) ≡ b → IsSized rounds cells
    by true e = inl (eqb-true _ _ e)
    by false e = let other = eqb-false _ _ e in inr (h.room (omega arith)).size

-- ---- caps can be laid over the table

counted : (c : Topology) (k : PartKind) → IsConfig c → part_count (counts_of c) k ≤ rows_by k
counted c kind.Device is = few_devices c is
counted c kind.Adapter is = few_adapters c is
counted c kind.Link is = few_links c is

cap_laid : (rounds : ℕ) (c : Topology) (before : List Cap) (cap : Cap) → IsConfig c → is_cap rounds (counts_of c) (before, cap) ≡ true → IsLaid rounds cap
unfolding is_cap
cap_laid rounds c before cap is e =
    let a = and_parts (nat_lt cap.part.number (part_count (counts_of c) cap.part.kind)) _ e in
    let b = and_parts _ _ a.1 in
    let d = and_parts (nat_le 1 cap.first) _ b.1 in
    let f = and_parts (nat_le cap.first cap.last) _ d.1 in
    let g = and_parts (nat_le cap.last rounds) _ f.1 in
    let few = counted c cap.part.kind is in
    let less = ltb-true _ _ a.0 in
    record { part = omega arith; some = leb-true _ _ d.0; order = leb-true _ _ f.0; last = leb-true _ _ g.0 }

laid_along : (rounds : ℕ) (c : Topology) (before caps : List Cap) → IsConfig c → list_all (is_cap rounds (counts_of c)) (prefixed_after before caps) ≡ true → AllByRecursion (IsLaid rounds) caps
laid_along rounds c before [] is e = tt
laid_along rounds c before (cap ∷ caps) is e =
    let p = and_parts (is_cap rounds (counts_of c) (before, cap)) _ e in
    (cap_laid rounds c before cap is p.0, laid_along rounds c (before ++ cap ∷ []) caps is p.1)

pub head_config : (r : Recorded) → IsHead r → IsConfig r.config
head_config r h = record { kept = h.config }

pub caps_laid : (r : Recorded) → IsHead r → AllByRecursion (IsLaid r.rounds) r.caps
caps_laid r h = laid_along r.rounds r.config [] r.caps (head_config r h) h.caps

-- ---- one item more

pub all_prefixed : {X : Type 0} (p : List X × X → Bool) (xs : List X) (x : X) → list_all p (prefixed xs) ≡ true → p (xs, x) ≡ true → list_all p (prefixed (xs ++ x ∷ [])) ≡ true
all_prefixed p xs x h e = ap (list_all p) (prefixed-push xs x) ∙ list_all-append p (prefixed xs) ((xs, x) ∷ []) ∙ rw (h, e) refl

pub name_kept : (r : Recorded) (cells : List ℕ) (name : NameValue) (after : List NameValue) (b : Bool) → IsRecorder r cells → is_name (counts_of r.config) (r.names, name) ≡ true
    → after ≡ cond b (r.names ++ name ∷ []) r.names → IsRecorder (record r { names = after }) cells
name_kept r cells name after b h e is =
    let head = h.kept.head in
    record {
      kept = record {
        head = record { unit = head.unit; some = head.some; rounds = head.rounds; config = head.config; lanes = head.lanes; names = by b is; caps = head.caps };
        requests = h.kept.requests;
        few = h.kept.few;
        done = h.kept.done;
      };
      table = record { none = h.table.none; room = h.table.room };
    }
  where
    by : (b : Bool) → after ≡ cond b (r.names ++ name ∷ []) r.names → list_all (is_name (counts_of r.config)) (prefixed after) ≡ true
    by true is = rw is (all_prefixed (is_name (counts_of r.config)) r.names name h.kept.head.names e)
    by false is = rw is h.kept.head.names

pub cap_kept : (r : Recorded) (cells none : List ℕ) (cap : Cap) (after : List Cap) (b : Bool) → IsRecorder r cells → is_cap r.rounds (counts_of r.config) (r.caps, cap) ≡ true → r.requests ≡ []
    → none ≡ [] → after ≡ cond b (r.caps ++ cap ∷ []) r.caps → IsRecorder (record r { caps = after }) none
cap_kept r cells none cap after b h e first cleared is =
    let head = h.kept.head in
    let few : length r.requests ≤ MAX_REQUESTS = h.kept.few in
    record {
      kept = record {
        head = record { unit = head.unit; some = head.some; rounds = head.rounds; config = head.config; lanes = head.lanes; names = head.names; caps = by b is };
        requests = rw first refl;
        few = few;
        done = h.kept.done;
      };
      table = rw cleared record { none = λ _. first; room = λ some. absurd (omega arith) };
    }
  where
    by : (b : Bool) → after ≡ cond b (r.caps ++ cap ∷ []) r.caps → list_all (is_cap r.rounds (counts_of r.config)) (prefixed after) ≡ true
    by true is = rw is (all_prefixed (is_cap r.rounds (counts_of r.config)) r.caps cap h.kept.head.caps e)
    by false is = rw is h.kept.head.caps

no_cause : (o : Option RequestFault) (t : ⊤) → unless_cause o ≡ Ok t → o ≡ None
no_cause None t e = refl
no_cause (Some cause) t e = absurd cc

pub request_kept : (r : Recorded) (cells : List ℕ) (q : Request) (after : List Request) → IsKept r → length r.requests < MAX_REQUESTS → request_cause r.rounds r.config r.caps (r.requests, q) ≡ None → is_done_right r.completions q ≡ true
    → after ≡ r.requests ++ q ∷ [] → IsTable r.rounds r.config r.caps after cells → IsRecorder (record r { requests = after }) cells
request_kept r cells q after h few none right is table =
    let head = h.head in
    let size = length-append r.requests (q ∷ []) in
    record {
      kept = record {
        head = record { unit = head.unit; some = head.some; rounds = head.rounds; config = head.config; lanes = head.lanes; names = head.names; caps = head.caps };
        requests = rw is (first_answer-push (request_cause r.rounds r.config r.caps) r.requests q h.requests none);
        few = rw is (omega arith);
        done = rw is (all_push (λ (x : Request). is_done_right r.completions x ≡ true) r.requests q h.done right);
      };
      table = table;
    }

pub placed_kept : (r : Recorded) (cells : List ℕ) (q : Request) (after : List Request) (memory : RequestError) (result : Result ⊤ RequestError) → IsKept r → length r.requests < MAX_REQUESTS → is_done_right r.completions q ≡ true
    → (result ≢ Err memory → result ≡ unless_cause (request_cause r.rounds r.config r.caps (r.requests, q))) → OnOk result (after ≡ r.requests ++ q ∷ []) → OnErr result (after ≡ r.requests)
    → IsTable r.rounds r.config r.caps after cells → IsRecorder (record r { requests = after }) cells
placed_kept r cells q after memory (Ok t) h few right answer ok err table = request_kept r cells q after h few (no_cause _ t (sym (answer (λ e. cc)))) right ok table
placed_kept r cells q after memory (Err e) h few right answer ok err table = rw err record { kept = record { head = record { unit = h.head.unit; some = h.head.some; rounds = h.head.rounds; config = h.head.config; lanes = h.head.lanes; names = h.head.names; caps = h.head.caps }; requests = h.requests; few = h.few; done = h.done }; table = rw err at table }

-- ---- the rules are kept with one item more

pub kept_name : (r : Recorded) (name : NameValue) → IsKept r → is_name (counts_of r.config) (r.names, name) ≡ true → IsKept (record r { names = r.names ++ name ∷ [] })
kept_name r name h e =
    record {
      head = record { unit = h.head.unit; some = h.head.some; rounds = h.head.rounds; config = h.head.config; lanes = h.head.lanes; names = all_prefixed (is_name (counts_of r.config)) r.names name h.head.names e; caps = h.head.caps };
      requests = h.requests;
      few = h.few;
      done = h.done;
    }

pub kept_cap : (r : Recorded) (cap : Cap) → IsKept r → is_cap r.rounds (counts_of r.config) (r.caps, cap) ≡ true → r.requests ≡ [] → IsKept (record r { caps = r.caps ++ cap ∷ [] })
kept_cap r cap h e first =
    record {
      head = record { unit = h.head.unit; some = h.head.some; rounds = h.head.rounds; config = h.head.config; lanes = h.head.lanes; names = h.head.names; caps = all_prefixed (is_cap r.rounds (counts_of r.config)) r.caps cap h.head.caps e };
      requests = rw first refl;
      few = h.few;
      done = h.done;
    }

pub kept_request : (r : Recorded) (q : Request) → IsKept r → length r.requests < MAX_REQUESTS → request_cause r.rounds r.config r.caps (r.requests, q) ≡ None → is_done_right r.completions q ≡ true → IsKept (record r { requests = r.requests ++ q ∷ [] })
kept_request r q h few none right =
    let size = length-append r.requests (q ∷ []) in
    record {
      head = record { unit = h.head.unit; some = h.head.some; rounds = h.head.rounds; config = h.head.config; lanes = h.head.lanes; names = h.head.names; caps = h.head.caps };
      requests = first_answer-push (request_cause r.rounds r.config r.caps) r.requests q h.requests none;
      few = omega arith;
      done = all_push (λ (x : Request). is_done_right r.completions x ≡ true) r.requests q h.done right;
    }

pub no_cause_where_ok : (o : Option RequestFault) (memory : RequestError) (result : Result ⊤ RequestError) (t : ⊤) → (result ≢ Err memory → result ≡ unless_cause o) → result ≡ Ok t → o ≡ None
no_cause_where_ok o memory result t answer e = no_cause o t (sym (answer (λ w. let wrong = sym e ∙ w in cc)) ∙ e)
