use Rattle.std.proofs.Common.{◌<◌, ◌+◌, arith, ◌∙◌, sym, ap, subst, List, ℕ, length, ◌++◌, ◌∷◌, [], set}
use Rattle.std.proofs.lemmas.List.{with_items_is}
use Rattle.recorder.specs.Ids.{IsIndex}
use Rattle.recorder.proofs.KeepLemmas.{IsKept, kept_none, kept_one}
use Rattle.recorder.proofs.ids.Ids.keep_staying.Goals as goal
use Rattle.recorder.proofs.ids.Ids.keep_staying.Goals.{then-stays, else-stays}

pub loop-place-preserved : goal.loop-place-preserved
loop-place-preserved c =
    let h = c.loop-place.invariant in
    let now = c.loop-place.self-inside in
    let same = c.requires ∙ sym (ap (λ v. length v.ids) c.self.view_is) in
    let many = c.len-place-end.ensures in
    let test = c.loop-place-test.true in
    let lt : c.loop-place.place < length c.args.attempts.now = omega arith in
    elim c.if-stays.branch [
      | then-stays w ↦
          let id = w.index-id.result.now in
          let new = w.link.new in
          let linked = subst (λ (xs : List ℕ). (ids : List ℕ) → IsIndex ids xs now.earlier.items → IsIndex (ids ++ id ∷ []) new.heads new.earlier.items) w.deref_mut.ensures.value w.link.ensures.linked in
          let kept = kept_one c.args.span c.args.attempts.now c.self.inside.list.items now.list.items now.heads.items now.earlier.items c.loop-place.place c.loop-place.count id new.heads new.earlier.items lt same w.if-stays.ensures w.index-id.ensures linked h.kept in
          rw (w.count-is, w.self-inside-is) (record {
            kept = subst (λ (xs : List ℕ). IsKept c.args.span c.args.attempts.now c.self.inside.list.items (set now.list.items c.loop-place.count id) xs new.earlier.items (c.loop-place.place + 1) (c.loop-place.count + 1))
                (sym (with_items_is now.heads new.heads (w.link.auto.heads ∙ w.deref_mut.ensures.len))) kept;
            room = h.room;
            space = w.link.ensures.capacity ∙ h.space;
          })
      | else-stays w ↦
          rw (w.count-is, w.self-inside-is) (record {
            kept = kept_none c.args.span c.args.attempts.now c.self.inside.list.items now.list.items now.heads.items now.earlier.items c.loop-place.place c.loop-place.count lt same w.if-stays.ensures h.kept;
            room = h.room;
            space = h.space;
          })
    ]
