use Rattle.std.proofs.Common.{◌≤◌, filter, arith, ◌∙◌}
use Rattle.std.proofs.lemmas.Result.{IfOk-weaker}
use Rattle.std.proofs.lemmas.List.Elements.{All-map, All-filter}
use Rattle.recording_file.specs.Recorded.{takes_of}
use Rattle.recording_file.specs.declared.request.Request.{Request}
use Rattle.capture.proofs.RequestLemmas.{sent_within, few_kept}
use Rattle.capture.proofs.TallyLemmas.{row_of_kept}
use Rattle.capture.proofs.part_loads.load_row.Goals as goal

pub tally-requires-clause-within : goal.tally-requires-clause-within
tally-requires-clause-within c =
    let taken = λ (q : Request). takes_of c.args.config.now c.args.part q.device in
    rw (c.deref.ensures.value, c.in_ok-rounds.ensures) (All-map (λ n. n ≤ c.args.last) (λ (q : Request). q.sent) (filter taken c.args.requests.now) (All-filter taken (λ (q : Request). q.sent ≤ c.args.last) c.args.requests.now (sent_within c.args.last c.args.requests.now c.requires.within)))

pub tally-requires-clause-few : goal.tally-requires-clause-few
tally-requires-clause-few c =
    let taken = λ (q : Request). takes_of c.args.config.now c.args.part q.device in
    rw (c.deref.ensures.value, c.in_ok-rounds.ensures) (omega (arith, few_kept taken (λ (q : Request). q.sent) c.args.requests.now, c.requires.few))

pub returns : goal.returns
returns c =
    let taken = λ (q : Request). takes_of c.args.config.now c.args.part q.device in
    IfOk-weaker c.tally.result _ _ (λ row h. row_of_kept c.args.last taken (λ (q : Request). q.sent) c.args.requests.now c.deref.result.now row.items (c.deref.ensures.value ∙ c.in_ok-rounds.ensures) h) c.tally.ensures
