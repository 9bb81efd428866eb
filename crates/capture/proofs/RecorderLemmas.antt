-- recordings in the making
use Rattle.std.proofs.Common.{◌≡◌, ℕ, ◌+◌, ◌<◌, ◌≤◌, Bool, List, [], ◌∷◌, ◌++◌, length, take, get_or, sym, ap, ◌∙◌, refl, Some, Vec}
use Rattle.std.specs.Global.{Global}
use Rattle.std.specs.List.{flat_map}
use Rattle.std.proofs.lemmas.List.{take_more, take_all}
use Rattle.recording_file.specs.Names.{NameValue}
use Rattle.recording_file.specs.Recorded.{Recorded}
use Rattle.recording_file.specs.declared.cap.Cap.{Cap}
use Rattle.recording_file.specs.declared.part.Part.{Part}
use Rattle.recording_file.specs.declared.request.Request.{Request}
use Rattle.cam_types.specs.Topology.{Topology}
use Rattle.capture.specs.Captured.{has_completions, part_caps, recorded_of}
use Rattle.capture.specs.Parts.{all_parts}
use Rattle.capture.specs.Rounds.{Rounded}
use Rattle.capture.proofs.CapLemmas.{caps_more}

-- one that has names of its own, and otherwise is as it was
pub named_again : (first now new : Recorded) (names : List NameValue) → now ≡ record first { names = now.names } → new ≡ record now { names = names } → new ≡ record first { names = new.names }
named_again first now new names so_far more =
    more ∙ ap (λ (r : Recorded). record r { names = names }) so_far ∙ ap (λ ns. record first { names = ns }) (sym (ap (λ (r : Recorded). r.names) more))

-- one that has the first of these requests
pub requests_none : (r : Recorded) → r.requests ≡ [] → r ≡ record r { requests = [] }
requests_none r none = ap (λ qs. record r { requests = qs }) none

pub requests_more : (first now new : Recorded) (qs : List Request) (n : ℕ) (d : Request) → n < length qs → now ≡ record first { requests = take n qs } → new ≡ record now { requests = now.requests ++ get_or qs n d ∷ [] } → new ≡ record first { requests = take (n + 1) qs }
requests_more first now new qs n d lt so_far more =
    more ∙ ap (λ (r : Recorded). record r { requests = r.requests ++ get_or qs n d ∷ [] }) so_far ∙ ap (λ ps. record first { requests = ps }) (sym (take_more qs n d lt))

pub requests_all : (first now : Recorded) (qs : List Request) (n : ℕ) → length qs ≤ n → now ≡ record first { requests = take n qs } → now ≡ record first { requests = qs }
requests_all first now qs n le so_far = so_far ∙ ap (λ ps. record first { requests = ps }) (take_all n qs le)

-- one that has the caps of the first of these parts
pub caps_none : (r : Recorded) → r.caps ≡ [] → r ≡ record r { caps = [] }
caps_none r none = ap (λ caps. record r { caps = caps }) none

pub caps_part : (first now new : Recorded) (f : Part → List Cap) (ps : List Part) (n : ℕ) (d : Part) (made : List Cap) → n < length ps → now ≡ record first { caps = flat_map f (take n ps) } → made ≡ f (get_or ps n d) → new ≡ record now { caps = now.caps ++ made } → new ≡ record first { caps = flat_map f (take (n + 1) ps) }
caps_part first now new f ps n d made lt so_far is more =
    more ∙ ap (λ (r : Recorded). record r { caps = r.caps ++ made }) so_far ∙ ap (λ ks. record first { caps = flat_map f (take n ps) ++ ks }) is ∙ ap (λ ks. record first { caps = ks }) (sym (caps_more f ps n d lt))

pub caps_all : (first now : Recorded) (f : Part → List Cap) (ps : List Part) (n : ℕ) → length ps ≤ n → now ≡ record first { caps = flat_map f (take n ps) } → now ≡ record first { caps = flat_map f ps }
caps_all first now f ps n le so_far = so_far ∙ ap (λ qs. record first { caps = flat_map f qs }) (take_all n ps le)

-- the recording that is made of all this
pub recorded_made : (c copy : Topology) (rated opened : List Bool) (spare : List (Vec ℕ Global)) (names : List NameValue) (r : Rounded) (first named capped whole last : Recorded) → copy ≡ c → first ≡ record { unit = Some r.unit; rounds = r.rounds; config = copy; names = []; caps = []; requests = []; completions = has_completions r.requests } → named ≡ record first { names = names } → capped ≡ record named { caps = flat_map (part_caps c rated opened spare r.requests named.rounds) (all_parts c) } → whole ≡ record capped { requests = r.requests } → last ≡ whole → last ≡ recorded_of c rated opened spare names r
unfolding recorded_of
recorded_made c copy rated opened spare names r first named capped whole last same is by_names by_caps by_requests end =
    end ∙ by_requests ∙ rw (by_caps, by_names, is, same) refl
