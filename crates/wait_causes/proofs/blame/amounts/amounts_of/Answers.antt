use Rattle.std.proofs.Common.{◌≡◌, ◌+◌, ◌*◌, ◌<◌, ◌++◌, ◌∷◌, [], ◌∙◌, ap, sym, subst, arith, length, map, get_or, take, replicate, count_by, List, Vec, ℕ}
use Rattle.std.specs.Global.{Global}
use Rattle.std.specs.List.{range_with_len}
use Rattle.std.proofs.lemmas.List.{length-replicate, length-set, take_more, take_all}
use Rattle.wait_causes.specs.Counting.{IsWithin}
use Rattle.wait_causes.specs.Origins.{instance_in}
use Rattle.wait_causes.specs.Tables.{greatest}
use Rattle.wait_causes.specs.Totals.{totals_by}
use Rattle.wait_causes.specs.declared.explained_stay.ExplainedStay.{ExplainedStay}
use Rattle.wait_causes.proofs.CountingLemmas.{blank, list_at, lists_length}
use Rattle.wait_causes.proofs.RowLemmas.{all_reached}
use Rattle.wait_causes.proofs.TotalsLemmas.{totals_length}
use Rattle.wait_causes.specs.BlameAmounts.{is_who, with_stay, IsSmall, Amounts}
use Rattle.wait_causes.specs.BlameLists.{stays_in, who_in, totals_at}
use Rattle.wait_causes.proofs.BlameAmountLemmas.{none, amounts_at, amounts_none, amounts_more, small_none, small_more, weaker}
use Rattle.wait_causes.proofs.blame.amounts.amounts_of.Goals as goal

pub loop-stay-init : goal.loop-stay-init
loop-stay-init c =
    let items : c.in_ok-amounts.amounts.items ≡ replicate c.args.count none = c.in_ok-amounts.ensures.items_if_clones_equal (λ y is. is) in
    record {
      all = ap (λ (xs : List Amounts). length xs) items ∙ length-replicate c.args.count none;
      small = λ k d lt. subst (λ (xs : List Amounts). IsSmall 0 (get_or xs k d)) (sym items) (small_none c.args.count k d lt);
      are = λ m are. items ∙ amounts_none (who_in c.args.explanation.now c.args.by) m c.args.by c.args.count;
    }

pub index-requires : goal.index-requires
index-requires c =
    let stays = c.stays-stay-items.result.now in
    omega (arith, c.number-at.ensures, all_reached c.args.by stays c.loop-stay.stay-index blank c.loop-stay-test.true, ap (greatest c.args.by) c.stays-stay-items.ensures.stays, c.requires.count, c.loop-stay.invariant.all)

pub bounds-totals-stay : goal.bounds-totals-stay
bounds-totals-stay c =
    let e = c.args.explanation.now in
    let within : IsWithin (instance_in e.origin) (get_or c.stays-stay-items.result.now c.loop-stay.stay-index blank) = c.stays-stay-items.ensures.within c.loop-stay.stay-index blank c.loop-stay-test.true in
    omega (arith, within.device, lists_length (totals_at e c.args.by c.requires.totals.0) (instance_in e.origin).devices c.args.totals.now c.requires.totals.1)

pub with-requires-clause-last : goal.with-requires-clause-last
with-requires-clause-last c =
    let e = c.args.explanation.now in
    let s : ExplainedStay = get_or c.stays-stay-items.result.now c.loop-stay.stay-index blank in
    let within : IsWithin (instance_in e.origin) s = c.stays-stay-items.ensures.within c.loop-stay.stay-index blank c.loop-stay-test.true in
    let items : c.deref.result.now ≡ totals_at e c.args.by c.requires.totals.0 s.device = c.deref.ensures.value ∙ ap (λ (v : Vec ℕ Global). v.items) c.index-totals-stay.is
    ∙ list_at (totals_at e c.args.by c.requires.totals.0) (instance_in e.origin).devices s.device c.args.totals.now c.index-totals-stay.result c.requires.totals.1 within.device in
    omega (arith, within.last, ap (λ (xs : List ℕ). length xs) items, totals_length (count_by (is_who c.requires.totals.0)) (who_in e c.args.by s.device) (instance_in e.origin).rounds)

pub with-requires-clause-totals : goal.with-requires-clause-totals
with-requires-clause-totals c =
    let e = c.args.explanation.now in
    let s : ExplainedStay = get_or c.stays-stay-items.result.now c.loop-stay.stay-index blank in
    let within : IsWithin (instance_in e.origin) s = c.stays-stay-items.ensures.within c.loop-stay.stay-index blank c.loop-stay-test.true in
    let items : c.deref.result.now ≡ totals_at e c.args.by c.requires.totals.0 s.device = c.deref.ensures.value ∙ ap (λ (v : Vec ℕ Global). v.items) c.index-totals-stay.is
    ∙ list_at (totals_at e c.args.by c.requires.totals.0) (instance_in e.origin).devices s.device c.args.totals.now c.index-totals-stay.result c.requires.totals.1 within.device in
    let long : length c.deref.result.now ≡ (instance_in e.origin).rounds = ap (λ (xs : List ℕ). length xs) items ∙ totals_length (count_by (is_who c.requires.totals.0)) (who_in e c.args.by s.device) (instance_in e.origin).rounds in
    (who_in e c.args.by s.device, c.requires.totals.0, items ∙ ap (totals_by (count_by (is_who c.requires.totals.0)) (who_in e c.args.by s.device)) (sym long))

pub with-requires-clause-room : goal.with-requires-clause-room
with-requires-clause-room c =
    let stays = c.stays-stay-items.result.now in
    let at : c.number-at.result < c.args.count = omega (arith, c.number-at.ensures, all_reached c.args.by stays c.loop-stay.stay-index blank c.loop-stay-test.true, ap (greatest c.args.by) c.stays-stay-items.ensures.stays, c.requires.count) in
    let small : IsSmall (c.loop-stay.stay-index * 4398046511104) c.index.result.now = subst (IsSmall (c.loop-stay.stay-index * 4398046511104)) (sym c.index.ensures) (c.loop-stay.invariant.small c.number-at.result c.index.result.now at) in
    weaker (c.loop-stay.stay-index * 4398046511104) 4611686018427387904 c.index.result.now (omega (arith, c.stays-stay-items.ensures.few, c.loop-stay-test.true)) small

pub index_mut-requires : goal.index_mut-requires
index_mut-requires c =
    let stays = c.stays-stay-items.result.now in
    omega (arith, c.number-at.ensures, all_reached c.args.by stays c.loop-stay.stay-index blank c.loop-stay-test.true, ap (greatest c.args.by) c.stays-stay-items.ensures.stays, c.requires.count, c.loop-stay.invariant.all)

pub loop-stay-preserved : goal.loop-stay-preserved
loop-stay-preserved c =
    let e = c.args.explanation.now in
    let stays = c.stays-stay-items.result.now in
    let i = c.loop-stay.stay-index in
    let s : ExplainedStay = get_or stays i blank in
    let within : IsWithin (instance_in e.origin) s = c.stays-stay-items.ensures.within i blank c.loop-stay-test.true in
    let at : c.number-at.result < c.args.count = omega (arith, c.number-at.ensures, all_reached c.args.by stays i blank c.loop-stay-test.true, ap (greatest c.args.by) c.stays-stay-items.ensures.stays, c.requires.count) in
    let small : IsSmall (i * 4398046511104) c.index.result.now = subst (IsSmall (i * 4398046511104)) (sym c.index.ensures) (c.loop-stay.invariant.small c.number-at.result c.index.result.now at) in
    let whole : take (i + 1) (stays_in e) ≡ take i (stays_in e) ++ s ∷ [] =
    ap (λ (xs : List ExplainedStay). take (i + 1) xs) (sym c.stays-stay-items.ensures.stays) ∙ take_more stays i blank c.loop-stay-test.true ∙ ap (λ (xs : List ExplainedStay). take i xs ++ s ∷ []) c.stays-stay-items.ensures.stays in
    record {
      all = length-set c.loop-stay.amounts.items c.number-at.result c.with.result ∙ c.loop-stay.invariant.all;
      small = small_more i c.args.count c.number-at.result c.loop-stay.amounts.items c.with.result c.index.result.now c.loop-stay.invariant.all at c.loop-stay.invariant.small (c.with.ensures.small (i * 4398046511104) small);
      are = λ m are.
          let items : c.deref.result.now ≡ totals_at e c.args.by m s.device = c.deref.ensures.value ∙ ap (λ (v : Vec ℕ Global). v.items) c.index-totals-stay.is
          ∙ list_at (totals_at e c.args.by m) (instance_in e.origin).devices s.device c.args.totals.now c.index-totals-stay.result are within.device in
          let long : length c.deref.result.now ≡ (instance_in e.origin).rounds = ap (λ (xs : List ℕ). length xs) items ∙ totals_length (count_by (is_who m)) (who_in e c.args.by s.device) (instance_in e.origin).rounds in
          let found : c.with.result ≡ with_stay (who_in e c.args.by) m c.index.result.now s = c.with.ensures.found (who_in e c.args.by) m (items ∙ ap (totals_by (count_by (is_who m)) (who_in e c.args.by s.device)) (sym long)) in
          amounts_more (who_in e c.args.by) m c.args.by c.args.count (take i (stays_in e)) s c.loop-stay.amounts.items c.index.result.now c.with.result c.index.result.now c.number-at.result (c.loop-stay.invariant.are m are) c.number-at.ensures at c.index.ensures found
          ∙ ap (λ (xs : List ExplainedStay). map (amounts_at (who_in e c.args.by) m c.args.by xs) (range_with_len 0 c.args.count)) (sym whole);
    }

pub returns : goal.returns
returns c = λ m are.
    let e = c.args.explanation.now in
    let all : take c.loop-stay.stay-index (stays_in e) ≡ stays_in e = take_all c.loop-stay.stay-index (stays_in e) (omega (arith, ap (λ (xs : List ExplainedStay). length xs) c.stays-stay-items.ensures.stays, c.loop-stay-test.false)) in
    c.loop-stay.invariant.are m are ∙ ap (λ (xs : List ExplainedStay). map (amounts_at (who_in e c.args.by) m c.args.by xs) (range_with_len 0 c.args.count)) all
