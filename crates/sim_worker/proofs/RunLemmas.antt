-- a run on one thread when it is over
use Rattle.std.proofs.Common.{◌≡◌, ℕ, ◌+◌, true, List, [], ◌∷◌, ◌++◌, length, get_or, refl, sym, ap, ◌∙◌, subst, arith, Option, Some, None, append-nil, length-append}
use Rattle.std.specs.List.{range_with_len}
use Rattle.std.proofs.lemmas.List.{length-map}
use Rattle.std.proofs.lemmas.List.FromFn.{length-range_with_len}
use Rattle.sim_worker.specs.Words.{Outcome, Rules, is_legal, Past, Topology}
use Rattle.sim_worker.specs.Endings.{IsEnding, Ending}
use Rattle.sim_worker.specs.Ports.{answer_at, first_answers}
use Rattle.sim_worker.specs.Runs.{outcomes_by}
use Rattle.sim_worker.specs.SimRuns.{IsSimRun}
use Rattle.sim_worker.specs.Work.{Work, IsWork, outcome_in_hand, Hand}
use Rattle.sim_worker.proofs.KeepLemmas.{prefixes}
use Rattle.sim_worker.proofs.ListFacts.{heads, tails}
use Rattle.sim_worker.proofs.MadeLemmas.{by_rows}
use Rattle.sim_worker.proofs.RunListFacts.{get_there}
use Rattle.sim_worker.proofs.PortLemmas.{first_answers-push}

same_front : (xs ys : List Outcome) (a b : Outcome) → length xs ≡ length ys → xs ++ a ∷ [] ≡ ys ++ b ∷ [] → xs ≡ ys
same_front [] [] a b len h = refl
same_front [] (y ∷ ys) a b len h = absurd (omega arith)
same_front (x ∷ xs) [] a b len h = absurd (omega arith)
same_front (x ∷ xs) (y ∷ ys) a b len h = ap (λ z. z ∷ xs) (heads x y (xs ++ a ∷ []) (ys ++ b ∷ []) h) ∙ ap (λ zs. y ∷ zs) (same_front xs ys a b (omega arith) (tails x y (xs ++ a ∷ []) (ys ++ b ∷ []) h))

length-first : (answers : List Outcome) (n : ℕ) → length (first_answers answers n) ≡ n
length-first answers n = length-map (range_with_len 0 n) (answer_at answers) ∙ length-range_with_len 0 n

-- what completed are the first answers, with or without one in hand
in_order_of : (answers : List Outcome) (n : ℕ) (xs : List Outcome) (o : Option Hand) → first_answers answers n ≡ xs ++ outcome_in_hand o → xs ≡ first_answers answers (length xs)
in_order_of answers n xs None h =
    let all : first_answers answers n ≡ xs = h ∙ append-nil xs in
    let len : length xs ≡ n = sym (ap (λ (v : List Outcome). length v) all) ∙ length-first answers n in
    sym all ∙ ap (first_answers answers) (sym len)
in_order_of answers n xs (Some hand) h =
    let len : n ≡ length xs + 1 = sym (length-first answers n) ∙ ap (λ (v : List Outcome). length v) h ∙ length-append xs (hand.outcome ∷ []) in
    same_front xs (first_answers answers (length xs)) hand.outcome (answer_at answers (length xs)) (sym (length-first answers (length xs)))
    (sym h ∙ ap (first_answers answers) len ∙ first_answers-push answers (length xs))

pub run_is : (w : Work) (h : Past) (stated : Ending) → IsWork w → h ≡ record { config = w.transport.config; events = w.transport.events } → IsEnding w.script w.transport.events stated → IsSimRun w.script h stated
run_is w h stated is made ending = subst (λ (v : Past). IsSimRun w.script v stated) (sym made) (record {
  config = is.config;
  legal = subst (λ (r : Rules). is_legal r w.script.config w.transport.events ≡ true) is.rules (subst (λ (c : Topology). is_legal w.transport.rules c w.transport.events ≡ true) is.config is.legal);
  calls = by_rows w.script w.transport.events w.drivers is.eight is.made;
  submits = prefixes w is;
  outcomes = λ lane lt.
      let x = get_there w.lanes lane (omega (arith, lt, is.size, is.scenario.lanes)) in
      let at = is.lanes lane x.0 x.1 in
      in_order_of (get_or w.script.answers lane []) (length x.0.port.served) (outcomes_by lane w.transport.events) x.0.hand (ap (λ a. first_answers a (length x.0.port.served)) (sym at.answers) ∙ sym at.given ∙ at.served);
  ticks = is.ticks;
  over = ending;
})
