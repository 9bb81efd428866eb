-- what is written of a net with a best plan of it
use Rattle.std.proofs.Common.{◌≡◌, ℕ, ◌*◌, ◌-◌, ◌<◌, ◌≤◌, Bool, true, false, cond, nat_le, List, [], ◌++◌, length, refl, sym, ap, subst, ◌∙◌, arith, append-nil, Option, Some, None, is_some, slice_index, if◌then◌else◌, All}
use Rattle.std.proofs.lemmas.List.Elements.{All-from_get_or}
use Rattle.audit_report.specs.Words.{Topology, MAX_NET_STAYS, MAX_NET_ROUNDS, MAX_WEIGHT, unsent, live_cost, Event, Stay, NetRows, instance_of_rows, live_of_rows, Instance, IsSound, IsAdmissible, cost, ProvesBest, instance_of, live_of, pricing_of_rows, IsPriced, IsPricingFor, IsBest, report_text, summary_text, plan_text, live_cost_of, max_bytes, Claim, history_rules}
use Rattle.round_net.specs.declared.price_range.TheConstants.{MAX_PRICE}
use Rattle.report_text.specs.Limits.{max_number}
use Rattle.cost_plan.specs.InTurn.{TakesTurns}
use Rattle.cost_plan.specs.Ties.{KeepsLive}
use Rattle.event_rules.proofs.LiveLemmas.{live_cost_sent}
use Rattle.event_rules.proofs.LawLemmas.{sends_stand_free}
use Rattle.price_check.proofs.DualityLemmas.{best_where_proved}
use Rattle.audit_report.specs.Audit.{audit_text, IsAudit}
use Rattle.audit_report.specs.Inputs.{Input, IsLegal, IsLiveCost, StandsFree, net_of_input, unsent_of}
use Rattle.audit_report.specs.declared.input.Input.TheVariants as input
use Rattle.audit_report.proofs.CostLemmas.{cost-live}

pub nothing_more : (text : List ℕ) → text ≡ text ++ []
nothing_more text = sym (append-nil text)

-- where each stay was sent the live schedule has a cost, that of the net
pub live_known : (c : Topology) (es : List Event) → unsent es ≡ None → live_cost c es ≡ Some (cost (instance_of c es) (live_of c es))
live_known c es e =
    live_cost_sent c es (ap (λ (o : Option Stay). is_some o) e) ∙ ap (λ n. Some n) (sym (cost-live c es))

pub live_is_known : (c : Topology) (es : List Event) → unsent es ≡ None → live_cost c es ≡ None → ⊥
live_is_known c es e n = let known = live_known c es e in absurd (cc)

live_is : (i : Input) → unsent_of i ≡ None → IsLiveCost i (live_cost_of (net_of_input i))
live_is (input.Trace past) sent = (live_known past.config past.events sent, refl)
live_is (input.Recording r) sent = refl

stands_free_there : (i : Input) → IsLegal i → StandsFree i
stands_free_there (input.Trace past) legal = sends_stand_free history_rules past.config past.events legal
stands_free_there (input.Recording r) legal = tt

-- a best schedule costs no more than the live one
pub least_le_live : (n : NetRows) (live least : ℕ) (f : ℕ → ℕ) → IsSound (instance_of_rows n) (live_of_rows n) → IsBest (instance_of_rows n) f →
    live ≡ cost (instance_of_rows n) (live_of_rows n) → least ≡ cost (instance_of_rows n) f → least ≤ live
least_le_live n live least f sound best is cheap = omega (arith, best (live_of_rows n) sound.live_admissible, is, cheap)

-- a claim about a net, and the text that was made of it
pub record IsBestClaim (summary : Bool) (text : List ℕ) (n : NetRows) (live : ℕ) (claim : Claim) : Type 0 where
  pub sound : IsSound (instance_of_rows n) (live_of_rows n)
  pub stays : length claim.schedule ≡ (instance_of_rows n).stays
  pub cells : IsPricingFor (instance_of_rows n) claim.prices
  pub priced : IsPriced claim.prices
  pub proved : ProvesBest (instance_of_rows n) (slice_index claim.schedule) (pricing_of_rows claim.prices)
  pub keeps : KeepsLive (instance_of_rows n) (live_of_rows n) (slice_index claim.schedule)
  pub turns : TakesTurns (instance_of_rows n) (live_of_rows n) (slice_index claim.schedule)
  pub small : live ≤ MAX_NET_STAYS * (MAX_WEIGHT * MAX_NET_ROUNDS)
  pub lived : live ≡ cost (instance_of_rows n) (live_of_rows n)
  pub best : claim.best ≡ cost (instance_of_rows n) (slice_index claim.schedule)
  pub excess : claim.excess ≡ live - claim.best
  pub made : text ≡ summary_text n live claim.best claim.excess ++ (if summary then [] else plan_text n (slice_index claim.schedule) (pricing_of_rows claim.prices))

-- its rounds are few
max_number-rounds : (net : Instance) → MAX_NET_ROUNDS ≤ max_number net
max_number-rounds net = elim (nat_le net.max_price MAX_PRICE) as (λ b. MAX_NET_ROUNDS ≤ cond {A = ℕ} b 65535 1048576) [ true ↦ omega arith | false ↦ omega arith ]

rounds_few : (net : Instance) (live : ℕ → ℕ) (f : List ℕ) → IsSound net live → IsAdmissible net (slice_index f) → length f ≡ net.stays → All (λ r. r ≤ max_number net) f
rounds_few net live f sound fits long =
    All-from_get_or (λ r. r ≤ max_number net) f 0
    (λ s lt. let within : s < net.stays = omega (arith, lt, long) in omega (arith, fits.not_late s within, sound.to_last s within, sound.few_rounds, max_number-rounds net))

text_cases : (summary : Bool) (n : NetRows) (claim : Claim) →
    summary_text n (live_cost_of n) claim.best claim.excess
    ++ (if summary then [] else plan_text n (slice_index claim.schedule) (pricing_of_rows claim.prices))
    ≡ audit_text summary n claim
unfolding report_text
text_cases true n claim = append-nil (summary_text n (live_cost_of n) claim.best claim.excess)
text_cases false n claim = refl

audited : (summary : Bool) (i : Input) (text : List ℕ) (live : ℕ) (claim : Claim) → IsBestClaim summary text (net_of_input i) live claim →
    unsent_of i ≡ None → IsLegal i → length text ≤ max_bytes (instance_of_rows (net_of_input i)) → IsAudit summary i text
audited summary i text live claim b sent legal short =
    let n : NetRows = net_of_input i in
    let net : Instance = instance_of_rows n in
    let least : (other : ℕ → ℕ) → IsAdmissible net other → cost net (slice_index claim.schedule) ≤ cost net other =
    best_where_proved net (live_of_rows n) (slice_index claim.schedule) (pricing_of_rows claim.prices) b.sound b.proved in
    let best_few : claim.best ≤ live = omega (arith, least (live_of_rows n) b.sound.live_admissible, b.best, b.lived) in
    record {
      claim = claim;
      complete = sent;
      free = stands_free_there i legal;
      lived = live_is i sent;
      admissible = b.sound.live_admissible;
      claims = record {
        stays = b.stays;
        rounds = rounds_few net (live_of_rows n) claim.schedule b.sound b.proved.admissible b.stays;
        pricing = b.cells;
        priced = b.priced;
        best = omega (arith, best_few, b.small);
        excess = omega (arith, b.excess, b.small);
      };
      right = record {
        proved = b.proved;
        best = b.best;
        excess = b.excess ∙ ap (λ k. k - claim.best) b.lived ∙ ap (λ k. cost net (live_of_rows n) - k) b.best;
      };
      live = b.keeps;
      turns = b.turns;
      least = λ other fits. omega (arith, least other fits, b.best);
      short = short;
      lines = b.made ∙ ap (λ k. summary_text n k claim.best claim.excess ++ (if summary then [] else plan_text n (slice_index claim.schedule) (pricing_of_rows claim.prices))) b.lived ∙ text_cases summary n claim;
    }

pub is_audit : (summary : Bool) (i : Input) (text : List ℕ) (n : NetRows) (live : ℕ) (claim : Claim) → n ≡ net_of_input i → IsBestClaim summary text n live claim →
    unsent_of i ≡ None → IsLegal i → length text ≤ max_bytes (instance_of_rows n) → IsAudit summary i text
is_audit summary i text n live claim e b sent legal short =
    audited summary i text live claim (subst (λ k. IsBestClaim summary text k live claim) e b) sent legal (subst (λ k. length text ≤ max_bytes (instance_of_rows k)) e short)
