-- commands and completions are what the CCB's row says
use Rattle.std.proofs.Common.{◌≡◌, ℕ, Bool, true, false, cond, List, Option, Some, None, refl, sym, ap, ◌∙◌, slice_get, ◌<◌, get_or, ◌==◌, ◌&&◌, not, nat_lt, option_and_then, IfSome, IsTrue, option_map}
use Rattle.std.proofs.lemmas.Bool.{and_parts, eqb-true, ltb-true}
use Rattle.std.proofs.lemmas.Option.{slice_get-get_or}
use Rattle.xpt_state.specs.Words.{Topology, Command, Outcome, status_of, is_some_and, submission, submissions, commands, is_in_flight, is_recovering, next, Event, Send, Done, Passage, Submission, last_class, is_stay_of, Rules, names_ccb, is_legal, is_legal_event, lane_adapter, Ccb, is_alive, ccb_by, alive_ccb, cases}
use Rattle.event_rules.proofs.LawLemmas.{allowed-legal_event}
use Rattle.event_rules.proofs.NextLemmas.{next_stands}
use Rattle.event_rules.proofs.StandLemmas.{AreStates, states-legal, in_flight_held, recovering_held}
use Rattle.xpt_state.specs.declared.reply.Reply.TheVariants as replies
use Rattle.xpt_state.specs.Looks.{case_of, nth_case}
use Rattle.xpt_state.specs.Replies.{command_of, done_of, reply_of}
use Rattle.xpt_state.specs.Rows.{command_by, done_by}
use Rattle.xpt_state.proofs.AttemptLaws.{next_attempt, next_held}
use Rattle.xpt_state.proofs.SendLemmas.{legal_is_next}

-- a CCB that is alive has its submission
alive_cases : (es : List Event) (n : ℕ) (a : Bool) (o : Option Submission) (row : Ccb) → cond a (option_map (ccb_by es n) o) None ≡ Some row → (s : Submission) × (o ≡ Some s) × (row ≡ ccb_by es n s)
alive_cases es n true (Some s) row h = let same : ccb_by es n s ≡ row = cc in (s, refl, sym same)
alive_cases es n true None row h = absurd (cc)
alive_cases es n false o row h = absurd (cc)

alive_row : (es : List Event) (n : ℕ) (row : Ccb) → alive_ccb es n ≡ Some row → (s : Submission) × (submission es n ≡ Some s) × (row ≡ ccb_by es n s)
unfolding alive_ccb
alive_row es n row h = alive_cases es n (is_alive es n) (submission es n) row h

row_alive : (es : List Event) (n : ℕ) (s : Submission) → is_alive es n ≡ true → submission es n ≡ Some s → alive_ccb es n ≡ Some (ccb_by es n s)
unfolding alive_ccb
row_alive es n s lives is = rw (lives, is) refl

-- a completion
done_row : (es : List Event) (n : ℕ) (s : Submission) (outcome : Outcome) → submission es n ≡ Some s → done_of es n outcome ≡ done_by (ccb_by es n s) outcome
done_row es n s outcome is = rw is refl

pub done_is_by_row : (es : List Event) (n : ℕ) (row : Ccb) (outcome : Outcome) → alive_ccb es n ≡ Some row → done_of es n outcome ≡ done_by row outcome
done_is_by_row es n row outcome h =
    let r = alive_row es n row h in
    done_row es n r.0 outcome r.1 ∙ ap (λ (x : Ccb). done_by x outcome) (sym r.2)

-- a command
stay_parts : (p : Passage) (s : Submission) → is_stay_of p s ≡ true → (s.device ≡ p.device) × (s.priority ≡ p.priority)
stay_parts p s h = let parts = and_parts (s.device == p.device) (s.priority == p.priority) h in (eqb-true _ _ parts.0, eqb-true _ _ parts.1)

command_row : (es : List Event) (p : Passage) (s : Submission) → submission es p.ccb ≡ Some s → p.attempt ≡ (ccb_by es p.ccb s).attempt → s.device ≡ p.device → s.priority ≡ p.priority → command_of es p ≡ Some (command_by p.ccb (ccb_by es p.ccb s))
command_row es p s is attempt device priority = rw (is, attempt, ← device, ← priority) refl

its_submission : (es : List Event) (p : Passage) (o : Option Submission) → submission es p.ccb ≡ o → is_some_and (is_stay_of p) o ≡ true → (s : Submission) × (submission es p.ccb ≡ Some s) × (is_stay_of p s ≡ true)
its_submission es p None is h = absurd (cc)
its_submission es p (Some s) is h = (s, is, h)

pub command_is_by_row : (rules : Rules) (c : Topology) (es : List Event) (a : ℕ) (p : Passage) → is_legal rules c es ≡ true → next c es a ≡ Some p → (row : Ccb) × (alive_ccb es p.ccb ≡ Some row) × (command_of es p ≡ Some (command_by p.ccb row))
command_is_by_row rules c es a p legal is =
    let stands = next_stands c es a p is in
    let own = its_submission es p (submission es p.ccb) refl stands.of_its_ccb in
    let held = and_parts (nat_lt p.ccb (commands es)) (is_alive es p.ccb) (next_held rules c es a p legal is) in
    let parts = stay_parts p own.0 own.2 in
    (ccb_by es p.ccb own.0, row_alive es p.ccb own.0 held.1 own.1, command_row es p own.0 own.1 (next_attempt rules c es a p legal is) parts.0 parts.1)

-- what legal sends and completions answer
answer_cases : (c : Topology) (es : List Event) (lane ccb : ℕ) (o : Option Passage) → next c es (lane_adapter c lane) ≡ o → option_map (λ (p : Passage). p.ccb) o ≡ Some ccb → (p : Passage) × (next c es (lane_adapter c lane) ≡ Some p) × (p.ccb ≡ ccb)
answer_cases c es lane ccb None is h = absurd (cc)
answer_cases c es lane ccb (Some p) is h = let same : p.ccb ≡ ccb = cc in (p, is, same)

command_reply : (c : Topology) (es : List Event) (lane ccb : ℕ) (p : Passage) (command : Command) → next c es (lane_adapter c lane) ≡ Some p → command_of es p ≡ Some command → reply_of c es (Send lane ccb) ≡ replies.Command command
command_reply c es lane ccb p command is sends = rw (is, sends) refl

pub send_answers_by_row : (rules : Rules) (c : Topology) (es : List Event) (lane ccb : ℕ) → is_legal rules c es ≡ true → is_legal_event rules c (es, Send lane ccb) ≡ true →
    (row : Ccb) × (alive_ccb es ccb ≡ Some row) × (reply_of c es (Send lane ccb) ≡ replies.Command (command_by ccb row))
send_answers_by_row rules c es lane ccb legal here =
    let next_command = answer_cases c es lane ccb (next c es (lane_adapter c lane)) refl (legal_is_next rules c es lane ccb here) in
    let by = command_is_by_row rules c es (lane_adapter c lane) next_command.0 legal next_command.1 in (
      by.0,
      ap (alive_ccb es) (sym next_command.2) ∙ by.1,
      command_reply c es lane ccb next_command.0 (command_by next_command.0.ccb by.0) next_command.1 by.2 ∙ ap (λ n. replies.Command (command_by n by.0)) next_command.2,
    )

submitted : (es : List Event) (n : ℕ) → n < commands es → (s : Submission) × (submission es n ≡ Some s)
submitted es n lt =
    let blank : Submission = record { driver = 0; device = 0; priority = 0; retries = 0; flags = record { qfreeze = false; qfrzdis = false } } in
    (get_or (submissions es) n blank, slice_get-get_or (submissions es) n blank lt)

pub done_answers_by_row : (rules : Rules) (c : Topology) (es : List Event) (ccb : ℕ) (outcome : Outcome) → is_legal rules c es ≡ true → is_legal_event rules c (es, Done ccb outcome) ≡ true →
    (row : Ccb) × (alive_ccb es ccb ≡ Some row) × (done_of es ccb outcome ≡ done_by row outcome)
done_answers_by_row rules c es ccb outcome legal here =
    let asked = (allowed-legal_event rules c es (Done ccb outcome) here).1 in
    let flies = (and_parts (names_ccb es ccb && not (status_of outcome == 0)) (is_in_flight es ccb) asked).1 in
    let held = in_flight_held es ccb ((states-legal rules c es legal).placed ccb) flies in
    let own = submitted es ccb (ltb-true ccb (commands es) held.0) in
    let row = row_alive es ccb own.0 held.1 own.1 in
    (ccb_by es ccb own.0, row, done_is_by_row es ccb (ccb_by es ccb own.0) outcome row)

-- a case is alive, so that its class is known
case_cases : (es : List Event) (o : Option ℕ) → IfSome o (λ n. is_alive es n ≡ true) →
    option_and_then (λ n. case_of n (cond (is_alive es n) (last_class es n) None)) o ≡ option_and_then (λ n. case_of n (last_class es n)) o
case_cases es None h = refl
case_cases es (Some k) h = rw h refl

recovering_alive : (es : List Event) (o : Option ℕ) → AreStates es → IfSome o (λ n. IsTrue (is_recovering es n)) → IfSome o (λ n. is_alive es n ≡ true)
recovering_alive es None h r = r
recovering_alive es (Some n) h r = (recovering_held es n (h.placed n) r).1

pub nth_case_alive : (rules : Rules) (c : Topology) (es : List Event) (i : ℕ) → is_legal rules c es ≡ true → IfSome (slice_get (cases es) i) (λ n. IsTrue (is_recovering es n)) →
    option_and_then (λ n. case_of n (cond (is_alive es n) (last_class es n) None)) (slice_get (cases es) i) ≡ nth_case es i
nth_case_alive rules c es i legal recovers = case_cases es (slice_get (cases es) i) (recovering_alive es (slice_get (cases es) i) (states-legal rules c es legal) recovers)
