use Rattle.std.proofs.Common.{◌≤◌}
use Rattle.std.proofs.lemmas.List.Elements.{All-map}
use Rattle.recording_file.specs.declared.request.Request.{Request}
use Rattle.capture.proofs.RequestLemmas.{sent_within}
use Rattle.capture.proofs.round_starts.starts_row.Goals as goal

pub tally-requires-clause-within : goal.tally-requires-clause-within
tally-requires-clause-within c = rw (c.deref.ensures.value, c.in_ok-rounds.ensures) (All-map (λ n. n ≤ c.args.last) (λ (q : Request). q.sent) c.args.requests.now (sent_within c.args.last c.args.requests.now c.requires.within))
