-- the window that is made next
use Rattle.std.proofs.Common.{◌≡◌, ◌∙◌, ap, sym, subst, inr, refl, Option, None, Some, MatchOption}
use Rattle.recorder.specs.Notes.{Noted}
use Rattle.recorder.specs.Recorder.{Recorded}
use Rattle.recorder.specs.Windows.{IsCutOff, IsKept, IsMaking, IsNextCut}
use Rattle.window_recordings.specs.declared.cut_window.Cut.{Cut}

-- where none waits to be taken, a cut becomes a window
one_more : (Lost : Type 0) (old new : Recorded) (cut : Cut) → old.window ≡ None → IsNextCut old cut new.noted → IsKept Lost cut new → new ≡ record old { noted = new.noted; cut = new.cut; window = new.window } → IsMaking Lost old new
one_more Lost old new cut none next kept rest = rw none (inr (record { cut = cut; next = next; kept = kept; rest = rest }))

-- one that is cut off
pub made_of_new : (Lost : Type 0) (old mid new : Recorded) (cut : Cut) → old.window ≡ None → old.cut ≡ None → mid.cut ≡ Some cut → MatchOption mid.cut (mid.noted ≡ old.noted) (λ it. IsCutOff old.noted it mid.noted) → mid ≡ record old { noted = mid.noted; cut = mid.cut } → IsKept Lost cut new → new ≡ record mid { cut = new.cut; window = new.window } → IsMaking Lost old new
made_of_new Lost old mid new cut no_window no_cut is cutting before kept rest =
    let off : IsCutOff old.noted cut mid.noted = subst (λ (it : Option Cut). MatchOption it (mid.noted ≡ old.noted) (λ it. IsCutOff old.noted it mid.noted)) is cutting in
    let noted : new.noted ≡ mid.noted = ap (λ (r : Recorded). r.noted) rest in
    let off_new : IsCutOff old.noted cut new.noted = subst (λ (n : Noted). IsCutOff old.noted cut n) (sym noted) off in
    let next : IsNextCut old cut new.noted = rw no_cut off_new in
    let mid_is = ap (λ (r : Recorded). record r { cut = new.cut; window = new.window }) before in
    let noted_is = ap (λ (n : Noted). record old { noted = n; cut = new.cut; window = new.window }) (sym noted) in
    one_more Lost old new cut no_window next kept (rest ∙ mid_is ∙ noted_is)

-- one that waited
pub made_of_waiting : (Lost : Type 0) (old new : Recorded) (cut : Cut) → old.window ≡ None → old.cut ≡ Some cut → IsKept Lost cut new → new ≡ record old { cut = new.cut; window = new.window } → IsMaking Lost old new
made_of_waiting Lost old new cut no_window is kept rest =
    let noted : new.noted ≡ old.noted = ap (λ (r : Recorded). r.noted) rest in
    let next : IsNextCut old cut new.noted = rw is (refl, noted) in
    one_more Lost old new cut no_window next kept (rest ∙ ap (λ (n : Noted). record old { noted = n; cut = new.cut; window = new.window }) (sym noted))
