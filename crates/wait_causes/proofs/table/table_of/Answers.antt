use Rattle.std.proofs.Common.{◌≡◌, ◌+◌, ◌<◌, ◌++◌, ◌==◌, ◌∙◌, ap, sym, subst, arith, length, List, Vec}
use Rattle.std.specs.Global.{Global}
use Rattle.std.proofs.lemmas.List.Elements.{All-filter}
use Rattle.wait_causes.specs.Parts.{IsLight, AreLight}
use Rattle.wait_causes.specs.Words.{MAX_NET_STAYS}
use Rattle.wait_causes.specs.Stays.{ExplainedStay}
use Rattle.wait_causes.specs.Tables.{number, stays_of, row_of, row_for, greatest}
use Rattle.wait_causes.proofs.CountingLemmas.{list_at, lists_length}
use Rattle.wait_causes.proofs.PartLemmas.{rows_step}
use Rattle.wait_causes.proofs.RowLemmas.{all_reached}
use Rattle.wait_causes.proofs.TableLemmas.{few_of, table_end}
use Rattle.wait_causes.proofs.table.table_of.Goals as goal

pub overflow_cast-number : goal.overflow_cast-number
overflow_cast-number c =
    let long = lists_length (stays_of c.args.by c.args.stays.now) (c.greatest.result + 1) c.in_ok-groups.groups.items c.in_ok-groups.ensures in
    omega (arith, c.loop-number-test.true, c.len-number-end.ensures, long, c.greatest.type_inv)

pub groups_of-requires : goal.groups_of-requires
groups_of-requires c = rw c.greatest.ensures (all_reached c.args.by c.args.stays.now)

pub push_part-requires-clause-few : goal.push_part-requires-clause-few
push_part-requires-clause-few c =
    let long = lists_length (stays_of c.args.by c.args.stays.now) (greatest c.args.by c.args.stays.now + 1) c.in_ok-groups.groups.items (rw c.greatest.ensures at c.in_ok-groups.ensures) in
    let within : c.loop-number.number < greatest c.args.by c.args.stays.now + 1 = omega (arith, c.loop-number-test.true, c.len-number-end.ensures, long) in
    let part : c.deref.result.now ≡ stays_of c.args.by c.args.stays.now c.loop-number.number = c.deref.ensures.value ∙ ap (λ (v : Vec ExplainedStay Global). v.items) c.index.ensures
    ∙ list_at (stays_of c.args.by c.args.stays.now) (greatest c.args.by c.args.stays.now + 1) c.loop-number.number c.in_ok-groups.groups.items c.index.result.now (rw c.greatest.ensures at c.in_ok-groups.ensures) within in
    omega (arith, ap (λ (xs : List ExplainedStay). length xs) part, few_of c.args.by c.args.stays.now c.loop-number.number MAX_NET_STAYS c.requires.few)

pub push_part-requires-clause-light : goal.push_part-requires-clause-light
push_part-requires-clause-light c =
    let long = lists_length (stays_of c.args.by c.args.stays.now) (greatest c.args.by c.args.stays.now + 1) c.in_ok-groups.groups.items (rw c.greatest.ensures at c.in_ok-groups.ensures) in
    let within : c.loop-number.number < greatest c.args.by c.args.stays.now + 1 = omega (arith, c.loop-number-test.true, c.len-number-end.ensures, long) in
    let part : c.deref.result.now ≡ stays_of c.args.by c.args.stays.now c.loop-number.number = c.deref.ensures.value ∙ ap (λ (v : Vec ExplainedStay Global). v.items) c.index.ensures
    ∙ list_at (stays_of c.args.by c.args.stays.now) (greatest c.args.by c.args.stays.now + 1) c.loop-number.number c.in_ok-groups.groups.items c.index.result.now (rw c.greatest.ensures at c.in_ok-groups.ensures) within in
    subst AreLight (sym part) (All-filter (λ s. number c.args.by s == c.loop-number.number) IsLight c.args.stays.now c.requires.light)

pub loop-number-preserved : goal.loop-number-preserved
loop-number-preserved c =
    let long = lists_length (stays_of c.args.by c.args.stays.now) (greatest c.args.by c.args.stays.now + 1) c.in_ok-groups.groups.items (rw c.greatest.ensures at c.in_ok-groups.ensures) in
    let within : c.loop-number.number < greatest c.args.by c.args.stays.now + 1 = omega (arith, c.loop-number-test.true, c.len-number-end.ensures, long) in
    let part : c.deref.result.now ≡ stays_of c.args.by c.args.stays.now c.loop-number.number = c.deref.ensures.value ∙ ap (λ (v : Vec ExplainedStay Global). v.items) c.index.ensures
    ∙ list_at (stays_of c.args.by c.args.stays.now) (greatest c.args.by c.args.stays.now + 1) c.loop-number.number c.in_ok-groups.groups.items c.index.result.now (rw c.greatest.ensures at c.in_ok-groups.ensures) within in
    rows_step (row_of c.args.known c.args.by c.args.stays.now) c.loop-number.rows.items c.push_part.new.rows.items c.loop-number.number c.loop-number.invariant
    (c.in_ok-push_part.ensures ∙ ap (λ (xs : List ExplainedStay). c.loop-number.rows.items ++ row_for c.args.known c.loop-number.number xs) part)

pub returns : goal.returns
returns c =
    let long = lists_length (stays_of c.args.by c.args.stays.now) (greatest c.args.by c.args.stays.now + 1) c.in_ok-groups.groups.items (rw c.greatest.ensures at c.in_ok-groups.ensures) in
    table_end c.args.known c.args.by c.args.stays.now c.loop-number.rows.items c.loop-number.number c.loop-number.invariant (omega (arith, long, c.len-number-end.ensures, c.loop-number-test.false, c.loop-number.auto.number-end))
