-- what is known of each CCB of legal events, and where it stands: in a queue, in flight, after an error, or nowhere
use Rattle.std.proofs.Common.{◌≡◌, ℕ, ◌≤◌, true, List, [], ◌∷◌, ◌++◌, refl, ◌∙◌, arith}
use Rattle.xpt_core.specs.Words.{Topology, commands, submissions, is_in_flight, is_recovering, last_result, counted_requeues, Event, Submission, Rules, is_legal_event, is_legal}
use Rattle.event_rules.proofs.LimitLemmas.{legal-induction}
use Rattle.event_rules.proofs.StandLemmas.{AreStates, concerns-past, commands-grow, states_step, states_none}
use Rattle.xpt_core.specs.Ccbs.{ccb_by}
use Rattle.xpt_core.specs.Change.{fresh}
use Rattle.xpt_core.proofs.RowLaws.{ccb_by-push, next_ccb-other}

-- each CCB is in one state, and of one that wasn't submitted nothing is known
pub record IsSettled (es : List Event) : Type 0 where
  pub states : AreStates es
  pub row : (n : ℕ) (s : Submission) → commands es ≤ n → ccb_by es n s ≡ fresh s

settled_step : (rules : Rules) (c : Topology) (es : List Event) (e : Event) → is_legal_event rules c (es, e) ≡ true → IsSettled es → IsSettled (es ++ e ∷ [])
settled_step rules c es e legal h = record {
  states = states_step rules c es e legal h.states;
  row = λ n s le.
      let past : commands es ≤ n = omega (arith, commands-grow es e) in
      ccb_by-push es e n s ∙ next_ccb-other n e (ccb_by es n s) (concerns-past rules c es e n legal past) ∙ h.row n s past;
}

settled_none : IsSettled []
unfolding is_in_flight is_recovering last_result counted_requeues submissions
settled_none = record { states = states_none; row = λ n s le. refl }

pub settled-legal : (rules : Rules) (c : Topology) (es : List Event) → is_legal rules c es ≡ true → IsSettled es
unfolding is_legal
settled-legal rules c es legal = legal-induction rules c IsSettled (settled_step rules c) [] es legal settled_none
