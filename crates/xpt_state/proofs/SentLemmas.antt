-- a send that isn't refused is what the lane's turn comes to
use Rattle.std.proofs.Common.{◌≡◌, ℕ, true, List, Option, Some, None, Result, Ok, Err, refl, sym, ap, subst, ◌∙◌, not, is_some, option_and_then}
use Rattle.std.specs.Option.{option_map, option_map_or}
use Rattle.xpt_state.specs.Words.{Command, submission, next, Event, Send, Passage, Submission, lane_adapter, Refusal, Transport, refused, IsTaken}
use Rattle.event_rules.proofs.LegalLemmas.{legal-none}
use Rattle.xpt_state.specs.Idle.{idle, Idle}
use Rattle.xpt_state.specs.declared.reply.Reply.TheVariants as replies
use Rattle.xpt_state.specs.Steps.{IsStep, IsLaneStep, Sent}
use Rattle.xpt_state.specs.declared.reply.Sent.TheVariants as sents
use Rattle.xpt_state.specs.Replies.{command_of}
use Rattle.xpt_state.proofs.IdleLemmas.{idle_is_no_next}
use Rattle.xpt_state.proofs.LaneLemmas.{lane_refused as refused_as_its_sends}
use Rattle.xpt_state.proofs.SendLemmas.{legal_is_next}

-- the next command is of the next stay's CCB
abbrev command_by_stay : Passage → Submission → Command
command_by_stay p s = record { ccb = p.ccb; attempt = p.attempt; driver = s.driver; device = p.device; priority = p.priority }

ccb_of_command : (es : List Event) (p : Passage) (s : Option Submission) (k : Command) → submission es p.ccb ≡ s → command_of es p ≡ Some k → k.ccb ≡ p.ccb
ccb_of_command es p None k is h = let none : ◌≡◌ {A = Option Command} None (Some k) = subst (λ (o : Option Submission). option_map (command_by_stay p) o ≡ Some k) is h in absurd (cc)
ccb_of_command es p (Some s) k is h =
    let some : ◌≡◌ {A = Option Command} (Some (command_by_stay p s)) (Some k) = subst (λ (o : Option Submission). option_map (command_by_stay p) o ≡ Some k) is h in
    let same : command_by_stay p s ≡ k = cc in
    ap (λ (x : Command). x.ccb) (sym same)

ccb_of_next : (es : List Event) (o : Option Passage) (k : Command) (ccb : ℕ) → option_and_then (command_of es) o ≡ Some k → option_map (λ (p : Passage). p.ccb) o ≡ Some ccb → k.ccb ≡ ccb
ccb_of_next es None k ccb h i = absurd (cc)
ccb_of_next es (Some p) k ccb h i =
    let same : p.ccb ≡ ccb = cc in
    ccb_of_command es p (submission es p.ccb) k refl h ∙ same

is_some-map : (o : Option Passage) (ccb : ℕ) → option_map (λ (p : Passage). p.ccb) o ≡ Some ccb → is_some o ≡ true
is_some-map None ccb h = absurd (cc)
is_some-map (Some p) ccb h = refl

next_sent : (old : Transport) (lane ccb : ℕ) → refused old (Send lane ccb) ≡ None → option_map (λ (p : Passage). p.ccb) (next old.config old.events (lane_adapter old.config lane)) ≡ Some ccb
next_sent old lane ccb free = legal_is_next old.rules old.config old.events lane ccb (legal-none old.rules old.config old.events (Send lane ccb) free)

-- a lane with a next stay isn't idle
not_idle : (old : Transport) (lane ccb : ℕ) (why : Idle) → refused old (Send lane ccb) ≡ None → idle old.config old.events (lane_adapter old.config lane) ≡ Some why → ⊥
not_idle old lane ccb why free is =
    let there = is_some-map (next old.config old.events (lane_adapter old.config lane)) ccb (next_sent old lane ccb free) in
    let none : true ≡ not true = sym (ap is_some is) ∙ idle_is_no_next old.config old.events (lane_adapter old.config lane) ∙ ap not there in
    absurd (cc)

pub legal_send_is_made : (old new : Transport) (lane ccb : ℕ) (result : Result Sent Refusal) → refused old (Send lane ccb) ≡ None → IsLaneStep old lane new result →
    (command : Command) × (result ≡ Ok (sents.Command command)) × (command.ccb ≡ ccb) × IsStep replies.Command old (Send lane ccb) new (Ok command)
legal_send_is_made old new lane ccb (Err why) free next_command =
    let refuses : ◌≡◌ {A = Option Refusal} None (Some why) = sym free ∙ refused_as_its_sends old.rules old.config old.events lane ccb why next_command.0 in
    absurd (cc)
legal_send_is_made old new lane ccb (Ok (sents.Idle why)) free next_command = absurd (not_idle old lane ccb why free next_command.1.0)
legal_send_is_made old new lane ccb (Ok (sents.Command command)) free next_command =
    let same = ccb_of_next old.events (next old.config old.events (lane_adapter old.config lane)) command ccb next_command.1.1 (next_sent old lane ccb free) in (
      command,
      refl,
      same,
      (subst (λ n. IsTaken old (Send lane n) new) same next_command.1.0, sym (ap (λ o. option_map_or replies.Command o replies.Nothing) next_command.1.1)),
    )
