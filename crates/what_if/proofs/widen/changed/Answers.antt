use Rattle.std.proofs.Common.{◌≡◌, true, ◌<◌, ◌≤◌, ◌*◌, ◌∙◌, ℕ, List, length, ap, sym, subst, All, slice_index}
use Rattle.std.proofs.lemmas.Result.{IfOk-weaker}
use Rattle.round_net.specs.Instance.{rows}
use Rattle.round_net.specs.Pace.{with_caps}
use Rattle.round_net.specs.Rows.{cell, instance_of_rows, live_of_rows}
use Rattle.round_net.specs.Schedules.{IsAdmissible, load, cost}
use Rattle.round_net.specs.declared.limits.TheConstants.{MAX_CAP}
use Rattle.round_net.proofs.TableLemmas.{length-cells}
use Rattle.what_if.specs.Below.{never_limits}
use Rattle.what_if.specs.Caps.{changed_cap, changed_net}
use Rattle.what_if.proofs.WideLemmas.{by_caps, caps-small, caps-held, admissible-changed, cost-changed, never_limits-changed}
use Rattle.what_if.proofs.widen.changed.Goals as goal

pub with_caps-requires-clause-cells : goal.with_caps-requires-clause-cells
with_caps-requires-clause-cells c =
    let net = instance_of_rows c.args.net.now in
    ap length c.in_ok-changed_caps.ensures ∙ length-cells net.rounds (changed_cap net c.args.net.now.config c.args.changes.now) (rows net * net.rounds)

pub with_caps-requires-clause-small : goal.with_caps-requires-clause-small
with_caps-requires-clause-small c =
    subst (λ (caps : List ℕ). All (λ cap. cap ≤ MAX_CAP) caps) (sym c.in_ok-changed_caps.ensures) (caps-small c.args.net.now c.args.changes.now c.rounds-rounds.ensures.sound c.config-config.ensures.kept c.requires)

pub with_caps-requires-clause-held : goal.with_caps-requires-clause-held
with_caps-requires-clause-held c = λ row r within first last.
    let net = instance_of_rows c.args.net.now in
    subst (λ (caps : List ℕ). load net (live_of_rows c.args.net.now) row r ≤ slice_index caps (cell net.rounds row r)) (sym c.in_ok-changed_caps.ensures) (caps-held c.args.net.now c.args.changes.now row r c.rounds-rounds.ensures.sound within first last)

pub returns-clause-net : goal.returns-clause-net
returns-clause-net c =
    IfOk-weaker c.with_caps.result (λ wide. wide ≡ with_caps c.args.net.now c.in_ok-changed_caps.field-0.items) (λ wide. wide ≡ changed_net c.args.net.now c.args.changes.now)
    (λ wide is. is ∙ ap (with_caps c.args.net.now) c.in_ok-changed_caps.ensures ∙ by_caps c.args.net.now c.args.changes.now) c.with_caps.ensures

pub returns-clause-wider : goal.returns-clause-wider
returns-clause-wider c =
    IfOk-weaker c.with_caps.result (λ wide. wide ≡ changed_net c.args.net.now c.args.changes.now) (λ wide. (f : ℕ → ℕ) → IsAdmissible (instance_of_rows c.args.net.now) f → IsAdmissible (instance_of_rows wide) f)
    (λ wide is f fits. rw is (admissible-changed c.args.net.now c.args.changes.now f c.rounds-rounds.ensures.sound fits)) (returns-clause-net c)

pub returns-clause-cost : goal.returns-clause-cost
returns-clause-cost c =
    IfOk-weaker c.with_caps.result (λ wide. wide ≡ changed_net c.args.net.now c.args.changes.now) (λ wide. (f : ℕ → ℕ) → cost (instance_of_rows wide) f ≡ cost (instance_of_rows c.args.net.now) f)
    (λ wide is f. rw is (cost-changed c.args.net.now c.args.changes.now f)) (returns-clause-net c)

pub returns-clause-no_new_limit : goal.returns-clause-no_new_limit
returns-clause-no_new_limit c =
    IfOk-weaker c.with_caps.result (λ wide. wide ≡ changed_net c.args.net.now c.args.changes.now) (λ wide. (row : ℕ) → row < rows (instance_of_rows c.args.net.now) → never_limits (instance_of_rows c.args.net.now) row ≡ true → never_limits (instance_of_rows wide) row ≡ true)
    (λ wide is row within never. rw is (never_limits-changed c.args.net.now c.args.changes.now row c.rounds-rounds.ensures.sound within never)) (returns-clause-net c)
