-- texts put after one another
use Rattle.std.proofs.Common.{◌≡◌, ℕ, suc, ◌+◌, ◌-◌, ◌<◌, ◌≤◌, ◌^◌, List, ◌++◌, length, refl, sym, ap, ◌∙◌, arith, append_assoc, append-nil, length-append, Some, None, codes, decimal, slice_get}
use Rattle.std.proofs.lemmas.Fmt.{length-decimal-le}
use Rattle.report_text.specs.Words.{Device, Fits, address_of, spelled, CamPath, Instance, IsSound, MAX_NET_ROUNDS}
use Rattle.report_text.specs.Report.{number_text, texts_below, shared_text, row_text}

pub no_text : (text : ℕ → List ℕ) (before : List ℕ) → before ≡ before ++ texts_below 0 text
no_text text before = sym (append-nil before)

pub next_text : (text : ℕ → List ℕ) (n : ℕ) (before so_far next : List ℕ) → so_far ≡ before ++ texts_below n text → next ≡ so_far ++ text n → next ≡ before ++ texts_below (n + 1) text
next_text text n before so_far next is more =
    let one : n + 1 ≡ suc n = omega arith in
    rw one (more ∙ ap (λ t. t ++ text n) is ∙ append_assoc before (texts_below n text) (text n))

-- a device's path has at most 15 bytes
length-spelled : (p : CamPath) → Fits p → length (spelled p) ≤ 15
unfolding spelled
length-spelled p fits =
    omega (
      arith,
      length-append (decimal p.bus) (codes ":" ++ (decimal p.target ++ (codes ":" ++ decimal p.lun))),
      length-append (decimal p.target) (codes ":" ++ decimal p.lun),
      length-decimal-le 3 p.bus (omega arith) (omega (arith, fits.bus)) (omega (arith, fits.bus)),
      length-decimal-le 5 p.target (omega arith) (omega (arith, fits.target)) (omega (arith, fits.target)),
      length-decimal-le 5 p.lun (omega arith) (omega (arith, fits.lun)) (omega (arith, fits.lun)),
    )

pub path_behind : (p : CamPath) (before text : List ℕ) → Fits p → text ≡ before ++ spelled p → length text ≤ length before + 15
path_behind p before text fits is = omega (arith, ap length is, length-append before (spelled p), length-spelled p fits)

-- a space and a number of at most that many digits
pub number_behind : (digits n : ℕ) (before text : List ℕ) → 0 < digits → n < 10 ^ digits → n < 2 ^ 64 → text ≡ before ++ number_text n → length text ≤ length before + (digits + 1)
number_behind digits n before text some few fits is =
    omega (arith, ap length is, length-append before (number_text n), length-append (codes " ") (decimal n), length-decimal-le digits n some few fits)

-- a stay arrives and is sent in rounds of the net, of which there are at most that many
pub early_rounds : (net : Instance) (live : ℕ → ℕ) (s : ℕ) → IsSound net live → s < net.stays → (net.arrival s ≤ MAX_NET_ROUNDS) × (live s ≤ MAX_NET_ROUNDS)
early_rounds net live s sound lt =
    let early = sound.live_admissible.not_early s lt in
    let late = sound.live_admissible.not_late s lt in
    let last = sound.to_last s lt in
    let few = sound.few_rounds in
    (omega arith, omega arith)

-- two pieces after a text
pub two_pieces : (before first second so_far : List ℕ) → so_far ≡ before ++ first → before ++ (first ++ second) ≡ so_far ++ second
two_pieces before first second so_far is = sym (append_assoc before first second) ∙ ap (λ t. t ++ second) (sym is)

-- whose opening a row's is
pub row_text-device : (devices : List Device) (adapters row : ℕ) (device : Device) → slice_get devices row ≡ Some device → row_text devices adapters row ≡ codes "price dev " ++ spelled (address_of device)
unfolding row_text
row_text-device devices adapters row device is = rw is refl
