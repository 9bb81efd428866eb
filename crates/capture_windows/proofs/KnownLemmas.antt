-- what is known of devices once a window has shown their slots
use Rattle.std.proofs.Common.{◌≡◌, ℕ, ◌+◌, ◌<◌, ◌≤◌, List, length, get_or, set, sym, ap, ◌∙◌, arith, inl, inr}
use Rattle.std.proofs.lemmas.Bool.{cases_eq}
use Rattle.std.proofs.lemmas.Grind.{get_or-set_at}
use Rattle.std.proofs.lemmas.List.{get_or_default, get_or-set_other, length-set}
use Rattle.capture_windows.specs.Devices.{KnownDevice, WindowRoom}
use Rattle.capture_windows.specs.Progress.{known_after}

-- of the first devices what their rooms show, of the others what was known
pub record Learnt (old now : List KnownDevice) (rooms : List WindowRoom) (n : ℕ) : Type 0 where
  pub size : length now ≡ length old
  pub behind : (device : ℕ) (k : KnownDevice) (room : WindowRoom) → device < n → get_or now device k ≡ known_after (get_or old device k) (get_or rooms device room)
  pub ahead : (device : ℕ) (k : KnownDevice) → n ≤ device → get_or now device k ≡ get_or old device k

pub learnt_more : (old now : List KnownDevice) (rooms : List WindowRoom) (n : ℕ) (new d : KnownDevice) (r : WindowRoom) → Learnt old now rooms n → n < length old → length rooms ≡ length old → new ≡ known_after (get_or now n d) (get_or rooms n r) → Learnt old (set now n new) rooms (n + 1)
learnt_more old now rooms n new d r h lt many is =
    let size = h.size in
    record {
      size = length-set now n new ∙ h.size;
      behind = λ device k room low. elim (cases_eq n device) [
        | inl same ↦ get_or-set_at now n device new k (sym same) (omega arith) ∙ is
            ∙ ap (λ x. known_after x (get_or rooms n r)) (get_or_default now n d k (omega arith) ∙ h.ahead n k (omega arith))
            ∙ ap (λ x. known_after (get_or old n k) x) (get_or_default rooms n r room (omega arith))
            ∙ ap (λ m. known_after (get_or old m k) (get_or rooms m room)) same
        | inr other ↦ get_or-set_other now n device new k (λ e. other (sym e)) ∙ h.behind device k room (let ne = other in omega arith)
      ];
      ahead = λ device k high. get_or-set_other now n device new k (λ e. absurd (omega arith)) ∙ h.ahead device k (omega arith);
    }
