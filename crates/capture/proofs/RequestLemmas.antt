-- requests in rounds
use Rattle.std.proofs.Common.{ℕ, ◌≤◌, Bool, List, length, map, filter, arith, All}
use Rattle.std.proofs.lemmas.List.{length-map}
use Rattle.std.proofs.lemmas.List.Sums.{length-filter, count_by-le-length}
use Rattle.recording_file.specs.declared.request.Request.{Request}
use Rattle.capture.specs.Faults.{IsInRounds}

pub sent_within : (last : ℕ) (qs : List Request) → All (IsInRounds last) qs → All (λ (q : Request). q.sent ≤ last) qs
sent_within last qs h = λ k d lt. let is = h k d lt in let a = is.within in let b = is.last in omega arith

pub arrived_within : (last : ℕ) (qs : List Request) → All (IsInRounds last) qs → All (λ (q : Request). q.arrival ≤ last) qs
arrived_within last qs h = λ k d lt. let is = h k d lt in let a = is.within in let b = is.last in let e = is.arrived in omega arith

-- no more are kept than there are
pub few_kept : {X Y : Type 0} (s : X → Bool) (f : X → Y) (qs : List X) → length (map f (filter s qs)) ≤ length qs
few_kept s f qs = omega (arith, length-map (filter s qs) f, length-filter s qs, count_by-le-length s qs)
