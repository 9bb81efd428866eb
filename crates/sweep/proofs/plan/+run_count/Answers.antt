use Rattle.std.proofs.Common.{◌≡◌, ◌≤◌, ◌<◌, ◌*◌, ◌∷◌, length, rules, subst, ap, ◌∙◌}
use Rattle.std.specs.Option.{IfSome, IfNone}
use Rattle.sweep.specs.Settings.{settings}
use Rattle.sweep.specs.Plans.{MAX_RUNS}
use Rattle.sweep.proofs.ChoiceLemmas.{count_is, count_many, if_none}
use Rattle.sweep.proofs.plan.+run_count.Goals as goal

pub returns-in_err-run_count-clause-many : goal.returns-in_err-run_count-clause-many
returns-in_err-run_count-clause-many t c =
    let whole : c.args.choices.now ≡ c.in-Some.first.now ∷ c.in-Some.rest.now = search rules in
    if_none c.from_residual.result (count_many c.in-Some.first.now c.in-Some.rest.now c.args.choices.now c.args.seeds whole c.requires.some c.in_err-run_count.ensures.many)

pub returns-clause-few : goal.returns-clause-few
returns-clause-few t c =
    let whole : c.args.choices.now ≡ c.in-Some.first.now ∷ c.in-Some.rest.now = search rules in
    let long : c.len.result ≡ length c.in-Some.first.now.openings.items = search rules in
    let product : c.len.result * c.in_ok-run_count.field-0 ≡ length (settings c.args.choices.now) * c.args.seeds =
    ap (λ n. n * c.in_ok-run_count.field-0) long ∙ ap (λ n. length c.in-Some.first.now.openings.items * n) c.in_ok-run_count.ensures.few.0
    ∙ count_is c.in-Some.first.now c.in-Some.rest.now c.args.choices.now c.args.seeds whole in
    subst (λ m. IfSome c.few-2.result (λ n. (n ≡ m) × (n ≤ MAX_RUNS) × (1 ≤ n))) product c.few-2.ensures.few

pub returns-clause-many : goal.returns-clause-many
returns-clause-many t c =
    let whole : c.args.choices.now ≡ c.in-Some.first.now ∷ c.in-Some.rest.now = search rules in
    let long : c.len.result ≡ length c.in-Some.first.now.openings.items = search rules in
    let product : c.len.result * c.in_ok-run_count.field-0 ≡ length (settings c.args.choices.now) * c.args.seeds =
    ap (λ n. n * c.in_ok-run_count.field-0) long ∙ ap (λ n. length c.in-Some.first.now.openings.items * n) c.in_ok-run_count.ensures.few.0
    ∙ count_is c.in-Some.first.now c.in-Some.rest.now c.args.choices.now c.args.seeds whole in
    subst (λ m. IfNone c.few-2.result (MAX_RUNS < m)) product c.few-2.ensures.many
