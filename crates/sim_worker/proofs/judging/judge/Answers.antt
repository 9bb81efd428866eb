use Rattle.std.proofs.Common.{◌≡◌, ◌∙◌, ◌-◌, length, map, sym, ap, subst, refl, inl, inr, IfOk, IfErr}
use Rattle.sim_worker.specs.Faults.{IsStop, IsUnserved}
use Rattle.sim_worker.proofs.FaultLemmas.{no_run}
use Rattle.sim_worker.proofs.RightLemmas.{run_is_right}
use Rattle.sim_worker.specs.LiveRuns.{EachLog, IsLog}
use Rattle.sim_worker.specs.Walks.{ArePlaced, IsFollowed}
use Rattle.sim_worker.proofs.PassLemmas.{logs_rise, logs_placed}
use Rattle.sim_worker.proofs.judging.judge.Goals as goal

pub follow-requires-clause-rising : goal.follow-requires-clause-rising
follow-requires-clause-rising g c = logs_rise _ c.args.logs.now c.requires.together

pub follow-requires-clause-placed : goal.follow-requires-clause-placed
follow-requires-clause-placed g c = subst (ArePlaced c.args.logs.now) (sym c.events-events.ensures.same) (logs_placed c.args.history.now c.args.logs.now c.requires.together)

pub returns-then-not-branch-clause-fault : goal.returns-then-not-branch-clause-fault
returns-then-not-branch-clause-fault g c =
    let s = c.args.script.now in
    let logs = c.args.logs.now in
    let served = map (λ p. g.P.Port.list p) c.args.ports.now in
    let last : c.saturating_sub-last.result ≡ length c.args.history.now.events - 1 = c.saturating_sub-last.ensures ∙ ap (λ es. length es - 1) c.events-events.ensures.same in
    no_run s c.args.history.now logs served c.saturating_sub-last.result c.mismatch.result c.requires.together (inr (last, inl (c.in_ok-are_of_script.ensures.no c.if-not-branch.true))) c.mismatch.ensures

pub returns-then-not-branch-clause-right : goal.returns-then-not-branch-clause-right
returns-then-not-branch-clause-right g c =
    let s = c.args.script.now in
    let logs = c.args.logs.now in
    let served = map (λ p. g.P.Port.list p) c.args.ports.now in
    let last : c.saturating_sub-last.result ≡ length c.args.history.now.events - 1 = c.saturating_sub-last.ensures ∙ ap (λ es. length es - 1) c.events-events.ensures.same in
    run_is_right s c.args.history.now logs served c.mismatch.result (no_run s c.args.history.now logs served c.saturating_sub-last.result c.mismatch.result c.requires.together (inr (last, inl (c.in_ok-are_of_script.ensures.no c.if-not-branch.true))) c.mismatch.ensures)

pub returns-in-Err-clause-fault : goal.returns-in-Err-clause-fault
returns-in-Err-clause-fault g c =
    let s = c.args.script.now in
    let logs = c.args.logs.now in
    let served = map (λ p. g.P.Port.list p) c.args.ports.now in
    let stops : IsStop s c.args.history.now.events logs c.in-Err.place = subst (λ es. IsStop s es logs c.in-Err.place) c.events-events.ensures.same (subst (λ r. IfErr r (λ place. IsStop s c.events-events.result.now logs place)) c.in-Err.is c.in_ok-ending.ensures.failed) in
    no_run s c.args.history.now logs served c.in-Err.place c.mismatch-in-Err.result c.requires.together (inl stops) c.mismatch-in-Err.ensures

pub returns-in-Err-clause-right : goal.returns-in-Err-clause-right
returns-in-Err-clause-right g c =
    let s = c.args.script.now in
    let logs = c.args.logs.now in
    let served = map (λ p. g.P.Port.list p) c.args.ports.now in
    let stops : IsStop s c.args.history.now.events logs c.in-Err.place = subst (λ es. IsStop s es logs c.in-Err.place) c.events-events.ensures.same (subst (λ r. IfErr r (λ place. IsStop s c.events-events.result.now logs place)) c.in-Err.is c.in_ok-ending.ensures.failed) in
    run_is_right s c.args.history.now logs served c.mismatch-in-Err.result (no_run s c.args.history.now logs served c.in-Err.place c.mismatch-in-Err.result c.requires.together (inl stops) c.mismatch-in-Err.ensures)

pub returns-then-not-are_as_served-clause-fault : goal.returns-then-not-are_as_served-clause-fault
returns-then-not-are_as_served-clause-fault g c =
    let s = c.args.script.now in
    let logs = c.args.logs.now in
    let served = map (λ p. g.P.Port.list p) c.args.ports.now in
    let last : c.saturating_sub-last.result ≡ length c.args.history.now.events - 1 = c.saturating_sub-last.ensures ∙ ap (λ es. length es - 1) c.events-events.ensures.same in
    let run : IsFollowed s c.args.history.now.events logs c.in-Ok.ending = subst (λ es. IsFollowed s es logs c.in-Ok.ending) c.events-events.ensures.same (subst (λ r. IfOk r (IsFollowed s c.events-events.result.now logs)) c.in-Ok.is c.in_ok-ending.ensures.followed) in
    let apart : IsUnserved s c.args.history.now.events logs served = record {
      stated = c.in-Ok.ending;
      followed = run;
      not_served = λ all. c.if-not-are_as_served.ensures.no refl s c.args.history.now.events (subst (λ b. EachLog (λ h. IsLog s c.args.history.now.events served b h.name h) logs) (sym c.is_full.ensures) all);
    } in
    no_run s c.args.history.now logs served c.saturating_sub-last.result c.mismatch-then-not-are_as_served.result c.requires.together (inr (last, inr apart)) c.mismatch-then-not-are_as_served.ensures

pub returns-then-not-are_as_served-clause-right : goal.returns-then-not-are_as_served-clause-right
returns-then-not-are_as_served-clause-right g c =
    let s = c.args.script.now in
    let logs = c.args.logs.now in
    let served = map (λ p. g.P.Port.list p) c.args.ports.now in
    let last : c.saturating_sub-last.result ≡ length c.args.history.now.events - 1 = c.saturating_sub-last.ensures ∙ ap (λ es. length es - 1) c.events-events.ensures.same in
    let run : IsFollowed s c.args.history.now.events logs c.in-Ok.ending = subst (λ es. IsFollowed s es logs c.in-Ok.ending) c.events-events.ensures.same (subst (λ r. IfOk r (IsFollowed s c.events-events.result.now logs)) c.in-Ok.is c.in_ok-ending.ensures.followed) in
    let apart : IsUnserved s c.args.history.now.events logs served = record {
      stated = c.in-Ok.ending;
      followed = run;
      not_served = λ all. c.if-not-are_as_served.ensures.no refl s c.args.history.now.events (subst (λ b. EachLog (λ h. IsLog s c.args.history.now.events served b h.name h) logs) (sym c.is_full.ensures) all);
    } in
    run_is_right s c.args.history.now logs served c.mismatch-then-not-are_as_served.result (no_run s c.args.history.now logs served c.saturating_sub-last.result c.mismatch-then-not-are_as_served.result c.requires.together (inr (last, inr apart)) c.mismatch-then-not-are_as_served.ensures)

pub returns-clause-run : goal.returns-clause-run
returns-clause-run g c =
    let s = c.args.script.now in
    let events = c.args.history.now.events in
    let logs = c.args.logs.now in
    let run : IsFollowed s events logs c.in-Ok.ending = subst (λ es. IsFollowed s es logs c.in-Ok.ending) c.events-events.ensures.same (subst (λ r. IfOk r (IsFollowed s c.events-events.result.now logs)) c.in-Ok.is c.in_ok-ending.ensures.followed) in
    let own = c.in_ok-are_of_script.ensures.yes c.if-not-branch.false in
    record {
      config = own.0;
      legal = run.whole.legal;
      names = own.1;
      together = c.requires.together;
      each = subst (λ b. EachLog (λ h. IsLog s events (map (λ p. g.P.Port.list p) c.args.ports.now) b h.name h) logs) c.is_full.ensures (c.if-not-are_as_served.ensures.yes refl s events run.whole.drivers);
      ticks = run.whole.ticks;
      over = run.over;
    }
