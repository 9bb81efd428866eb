-- a run on one thread before its first turn
use Rattle.std.proofs.Common.{◌≡◌, ℕ, zero, suc, ◌≤◌, true, false, List, [], ◌∷◌, ◌++◌, length, get_or, replicate, inl, inr, refl, sym, ap, ◌∙◌, subst, arith, Some, None, take, slice_get}
use Rattle.sim_worker.specs.Words.{is_in_flight, Topology, Rules, rules_of, is_legal, Scenario, IsScenario, Transport}
use Rattle.sim_worker.specs.Ports.{first_answers, outcomes}
use Rattle.sim_worker.specs.Logs.{acts}
use Rattle.sim_worker.specs.Runs.{outcomes_by}
use Rattle.sim_worker.specs.Work.{IsWork, AreFresh, HasDone, calls_done, steps_of, Driver, Lane}
use Rattle.sim_worker.proofs.CallLemmas.{none_done}
use Rattle.sim_worker.proofs.FullLemmas.{false_true}
use Rattle.sim_worker.proofs.RunListFacts.{get_pushed, some_is}

in_replicate : (n d : ℕ) (x w : Driver) → slice_get (replicate n x) d ≡ Some w → w ≡ x
in_replicate zero d x w h = absurd (cc)
in_replicate (suc n) zero x w h = sym (some_is x w h)
in_replicate (suc n) (suc d) x w h = in_replicate n d x w h

none_served : (lane : ℕ) → outcomes_by lane [] ≡ []
unfolding outcomes_by
none_served lane = refl

none_flies : (ccb : ℕ) → is_in_flight [] ccb ≡ false
unfolding is_in_flight
none_flies ccb = refl

no_events : (c : Topology) (r : Rules) → is_legal r c [] ≡ true
unfolding is_legal
no_events c r = refl

pub opened : (s : Scenario) (t : Transport) (ds : List Driver) (ls : List Lane) → IsScenario s → 1 ≤ s.limits.rounds → t ≡ record { config = s.config; rules = rules_of s.limits; events = [] } →
    ds ≡ replicate 8 (record { done = 0; refused = false }) → length ls ≡ length s.config.lanes → AreFresh s ls → IsWork (record { script = s; transport = t; drivers = ds; lanes = ls; refused = false })
opened s t ds ls scenario a_round is first size fresh =
    subst (λ v. IsWork (record { script = s; transport = v; drivers = ds; lanes = ls; refused = false })) (sym is) (record {
      scenario = scenario;
      a_round = a_round;
      legal = no_events s.config (rules_of s.limits);
      config = refl;
      rules = refl;
      eight = ap (λ (v : List Driver). length v) first;
      size = size;
      drivers = λ d w at.
          let one = in_replicate 8 d (record { done = 0; refused = false }) w (ap (λ (v : List Driver). slice_get v d) (sym first) ∙ at) in
          subst (λ (v : Driver). HasDone (steps_of s d) d [] v.done) (sym one) (record { within = omega arith; submits = refl; pauses = refl });
      made = record {
        makers = [];
        each = refl;
        known = refl;
        rows = λ d w at. sym (ap (λ (v : Driver). acts (take v.done (steps_of s d))) (in_replicate 8 d (record { done = 0; refused = false }) w (ap (λ (v : List Driver). slice_get v d) (sym first) ∙ at)));
      };
      calls = sym (ap (λ v. calls_done v s.drivers) first ∙ none_done 8 s.drivers);
      strangers = λ d le. refl;
      lanes = λ lane w at.
          let f = fresh lane w at in
          record {
            number = f.0;
            answers = f.1;
            given = subst (λ v. outcomes v ≡ first_answers w.port.answers (length v)) (sym f.2) refl;
            served = ap outcomes f.2 ∙ sym (rw (none_served lane, f.3) refl);
            hand = rw (f.3) tt;
            answer = rw (f.3) tt;
          };
      flights = λ ccb flies. absurd (false_true (sym (none_flies ccb) ∙ flies));
      ticks = refl;
    })

-- one lane more
pub fresh_more : (s : Scenario) (ls : List Lane) (w : Lane) → w.number ≡ length ls → w.port.answers ≡ get_or s.answers w.number [] → w.port.served ≡ [] → w.hand ≡ None → AreFresh s ls → AreFresh s (ls ++ w ∷ [])
fresh_more s ls w number answers served hand h = λ lane x at. elim (get_pushed ls w lane x at) [
  | inl before ↦ h lane x before
  | inr last ↦
      let is : x.number ≡ lane = ap (λ (v : Lane). v.number) last.1 ∙ number ∙ sym last.0 in
      (is, ap (λ (v : Lane). v.port.answers) last.1 ∙ answers ∙ ap (λ n. get_or s.answers n []) (number ∙ sym last.0), ap (λ (v : Lane). v.port.served) last.1 ∙ served, ap (λ (v : Lane). v.hand) last.1 ∙ hand)
]
