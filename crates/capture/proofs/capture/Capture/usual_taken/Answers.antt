use Rattle.std.proofs.Common.{ℕ, ◌≤◌, ◌∙◌, ◌∷◌, ◌++◌, [], map, sym, ap, arith, zero-add}
use Rattle.std.specs.List.{range_with_len}
use Rattle.std.proofs.lemmas.List.Elements.{All-append, All-cons}
use Rattle.std.proofs.lemmas.List.FromFn.{map-range_with_len_more}
use Rattle.cam_types.specs.declared.limits.TheConstants.{MAX_OPENINGS}
use Rattle.capture.specs.Usual.{usual_taken}
use Rattle.capture.proofs.capture.Capture.usual_taken.Goals as goal

pub loop-device-preserved : goal.loop-device-preserved
loop-device-preserved c =
    let h = c.loop-device.invariant in
    let d = c.loop-device.device in
    let n = c.in_ok-usual_in.field-0 in
    let new = c.in_ok-push.ensures.items in
    let P : ℕ → Type 0 = λ n. (1 ≤ n) × (n ≤ MAX_OPENINGS) in
    record {
      same = new ∙ ap (λ ns. ns ++ n ∷ []) h.same ∙ ap (λ m. map (usual_taken c.args.self.now) (range_with_len 0 d) ++ m ∷ []) c.in_ok-usual_in.ensures.same ∙ sym (map-range_with_len_more (usual_taken c.args.self.now) 0 d d (zero-add d));
      within = rw new (All-append P c.loop-device.numbers.items (n ∷ []) h.within (All-cons P n [] (c.in_ok-usual_in.ensures.some, c.in_ok-usual_in.ensures.most) (λ k e lt. absurd (omega arith))));
    }
