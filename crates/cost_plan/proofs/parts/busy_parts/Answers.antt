use Rattle.std.proofs.Common.{◌≡◌, ℕ, ◌∙◌, sym, ap, subst, arith, nat_lt, Bool, List, filter, All, Contains}
use Rattle.std.specs.List.{range_with_len}
use Rattle.std.specs.List.Sorted.{IsStrictlyIncreasing}
use Rattle.round_net.specs.Instance.{Instance}
use Rattle.round_net.specs.Rows.{instance_of_rows}
use Rattle.cost_plan.specs.Parts.{before, part_of_stay, busy_parts, HasStay}
use Rattle.cost_plan.proofs.PartLemmas.{filter-range_yes, filter-range_no, busy-some, busy-rising, busy-all}
use Rattle.cost_plan.proofs.parts.busy_parts.Goals as goal
use Rattle.cost_plan.proofs.parts.busy_parts.Goals.{then-has_stay+in_ok-push, else-has_stay}

pub loop-adapter-preserved : goal.loop-adapter-preserved
loop-adapter-preserved c =
    let net = instance_of_rows c.args.net.now in
    let test : ℕ → Bool = λ a. nat_lt 0 (before net a net.stays) in
    let old = c.loop-adapter.busy.items in
    elim c.if-has_stay.branch [
      | then-has_stay+in_ok-push w ↦ rw w.busy-is (w.in_ok-push.ensures.items ∙ filter-range_yes test c.loop-adapter.adapter old c.loop-adapter.invariant (sym c.has_stay.ensures ∙ w.if-has_stay.true))
      | else-has_stay w ↦ rw w.busy-is (filter-range_no test c.loop-adapter.adapter old c.loop-adapter.invariant (sym c.has_stay.ensures ∙ w.if-has_stay.false))
    ]

-- what was found in all
all_found : (net : Instance) (busy : List ℕ) (n end : ℕ) → end ≡ net.adapters → n ≡ end → busy ≡ filter (λ a. nat_lt 0 (before net a net.stays)) (range_with_len 0 n) → busy ≡ busy_parts net
all_found net busy n end is last found = found ∙ ap (λ (k : ℕ). filter (λ a. nat_lt 0 (before net a net.stays)) (range_with_len 0 k)) (last ∙ is)

pub returns-clause-rising : goal.returns-clause-rising
returns-clause-rising c =
    let net = instance_of_rows c.args.net.now in
    subst (λ (xs : List ℕ). IsStrictlyIncreasing xs)
    (sym (all_found net c.loop-adapter.busy.items c.loop-adapter.adapter c.adapters-adapter-end.result c.adapters-adapter-end.ensures.same (omega (arith, c.loop-adapter-test.false, c.loop-adapter.auto.adapter-end)) c.loop-adapter.invariant)) (busy-rising net)

pub returns-clause-some : goal.returns-clause-some
returns-clause-some c =
    let net = instance_of_rows c.args.net.now in
    subst (λ (xs : List ℕ). All (HasStay net) xs)
    (sym (all_found net c.loop-adapter.busy.items c.loop-adapter.adapter c.adapters-adapter-end.result c.adapters-adapter-end.ensures.same (omega (arith, c.loop-adapter-test.false, c.loop-adapter.auto.adapter-end)) c.loop-adapter.invariant)) (busy-some net)

pub returns-clause-all : goal.returns-clause-all
returns-clause-all c = λ stay within.
    let net = instance_of_rows c.args.net.now in
    subst (λ (xs : List ℕ). Contains xs (part_of_stay net stay))
    (sym (all_found net c.loop-adapter.busy.items c.loop-adapter.adapter c.adapters-adapter-end.result c.adapters-adapter-end.ensures.same (omega (arith, c.loop-adapter-test.false, c.loop-adapter.auto.adapter-end)) c.loop-adapter.invariant))
    (busy-all net _ stay c.adapters-adapter-end.ensures.sound within)
