-- the first stay of the device whose turn it is
use Rattle.std.proofs.Common.{◌≡◌, ℕ, List, refl, ap, ◌∙◌, Option, Some, None, option_and_then, option_map}
use Rattle.xpt_core.specs.Words.{Topology, first, head, next, Event, Passage, Waiting}
use Rattle.event_rules.proofs.NextLemmas.{queued-first}
use Rattle.xpt_core.specs.Device.{entry}
use Rattle.xpt_core.specs.Next.{next_of, Next}

pub next-none : (c : Topology) (es : List Event) (a : ℕ) → head c es a ≡ None → option_map next_of (next c es a) ≡ None
unfolding next
next-none c es a e = ap (λ o. option_map next_of (option_and_then (first es) o)) e

no_stay : (o : Option Passage) → option_map entry o ≡ None → option_map next_of o ≡ None
no_stay None e = refl
no_stay (Some p) e = absurd (cc)

pub next-empty : (c : Topology) (es : List Event) (a d : ℕ) → head c es a ≡ Some d → option_map entry (first es d) ≡ None → option_map next_of (next c es a) ≡ None
unfolding next
next-empty c es a d e none = ap (λ o. option_map next_of (option_and_then (first es) o)) e ∙ no_stay (first es d) none

abbrev turn : ℕ → ℕ → ℕ → Next
turn c n p = record { ccb = c; device = n; priority = p }

stay_cases : (es : List Event) (d : ℕ) (w : Waiting) (o : Option Passage) → first es d ≡ o → option_map entry o ≡ Some w → option_map next_of o ≡ Some (record { ccb = w.ccb; device = d; priority = w.priority })
stay_cases es d w None is e = absurd (cc)
stay_cases es d w (Some p) is e =
    let same : entry p ≡ w = cc in
    let at : p.device ≡ d = (queued-first es d p is).at in
    ap (λ n. Some (turn (entry p).ccb n (entry p).priority)) at ∙ ap (λ (x : Waiting). Some (turn x.ccb d x.priority)) same

pub next-some : (c : Topology) (es : List Event) (a d : ℕ) (w : Waiting) → head c es a ≡ Some d → option_map entry (first es d) ≡ Some w →
    option_map next_of (next c es a) ≡ Some (record { ccb = w.ccb; device = d; priority = w.priority })
unfolding next
next-some c es a d w e some = ap (λ o. option_map next_of (option_and_then (first es) o)) e ∙ stay_cases es d w (first es d) refl some
