use Rattle.std.proofs.Common.{◌+◌, ◌/◌, ◌∙◌, refl}
use Rattle.capture.specs.Timed.{started, start_of, most_of}
use Rattle.capture.specs.Rounds.{first_arrival}
use Rattle.capture.proofs.LengthLemmas.{fit_of, over_of}
use Rattle.capture.proofs.lengths.usual_round.Goals as goal

pub returns-clause-same : goal.returns-clause-same
returns-clause-same c = c.round_by.ensures.same ∙ rw (c.max-2.ensures, c.max.ensures, c.from.ensures, c.max_starts.ensures, c.in_ok-time.ensures, c.unwrap_or-half.ensures, c.longest_round.ensures) refl

pub returns-clause-fits : goal.returns-clause-fits
returns-clause-fits c =
    let qs = started c.args.requests.now in
    fit_of (first_arrival qs) (most_of start_of qs) (c.in_ok-time.time / c.from.result + 1) c.round_by.result (rw (c.from.ensures, c.in_ok-time.ensures) refl) c.round_by.ensures.long

pub returns-clause-none : goal.returns-clause-none
returns-clause-none c =
    let qs = started c.args.requests.now in
    rw (← c.longest_round.ensures, ← c.unwrap_or-half.ensures) (over_of (first_arrival qs) (most_of start_of qs) (c.in_ok-time.time / c.from.result + 1) c.unwrap_or-half.result c.round_by.result (rw (c.from.ensures, c.in_ok-time.ensures) refl) c.round_by.ensures.none)
