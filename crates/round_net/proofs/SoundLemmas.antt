-- what a sound net gives
use Rattle.std.proofs.Common.{◌≡◌, ℕ, ◌+◌, ◌*◌, ◌<◌, ◌≤◌, refl, arith, Option, Some, None, IfSome}
use Rattle.std.proofs.lemmas.Nat.{mul-le}
use Rattle.cam_types.specs.declared.limits.TheConstants.{MAX_WEIGHT}
use Rattle.round_net.specs.Instance.{Instance, rows}
use Rattle.round_net.specs.Sound.{IsSound, longest_path}

-- no window is empty
pub window : (net : Instance) (live : ℕ → ℕ) → IsSound net live → (s : ℕ) → s < net.stays → net.arrival s ≤ net.last s
window net live sound s lt =
    let early = sound.live_admissible.not_early s lt in
    let late = sound.live_admissible.not_late s lt in
    omega arith

-- what is on a link, if it is on one, is on one of that many where each that it can be is
pub within_links : (link : Option ℕ) (links : ℕ) → ((l : ℕ) → link ≡ Some l → l < links) → IfSome link (λ l. l < links)
within_links None links h = tt
within_links (Some l) links h = h l refl

-- a price may be more than 0
pub some_price : (net : Instance) (live : ℕ → ℕ) → IsSound net live → 1 ≤ net.rounds → 1 ≤ net.max_price
unfolding longest_path
some_price net live sound some =
    let path : 1 * 1 ≤ MAX_WEIGHT * net.rounds * (rows net * (net.rounds + 1) + 1) = mul-le 1 1 (MAX_WEIGHT * net.rounds) (rows net * (net.rounds + 1) + 1) (omega arith) (omega arith) in
    omega (arith, path, sound.price_room)
