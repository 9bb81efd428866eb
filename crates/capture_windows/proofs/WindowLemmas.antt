-- the windows of devices, one after the other
use Rattle.std.proofs.Common.{◌≡◌, ◌≢◌, ℕ, ◌+◌, ◌<◌, List, [], ◌∷◌, ◌++◌, length, get_or, Vec, ap, sym, ◌∙◌, subst, Err}
use Rattle.std.specs.Global.{Global}
use Rattle.std.proofs.lemmas.List.{get_or_default}
use Rattle.slots.specs.Windowed.{slots_in_window}
use Rattle.slots.specs.declared.slots_fault.SlotsFault.{SlotsFault}
use Rattle.slots.specs.declared.slots_fault.SlotsFault.TheVariants.{OutOfMemory, TooFew}
use Rattle.capture_windows.specs.Attempts.{Attempt, TimeSpan}
use Rattle.capture_windows.specs.Devices.{IsRoom, KnownDevice, Rounds, WindowRoom, attempts_of, earlier_flights, own_flights}
use Rattle.capture_windows.specs.Counted.{AreByDevice}
use Rattle.capture_windows.specs.Windows.{IsFault, fault_of}
use Rattle.capture_windows.proofs.GroupLemmas.{list_at}
use Rattle.capture_windows.proofs.ListLemmas.{each_more}

-- the room of one device more
pub rooms_more : (span : TimeSpan) (rounds : Rounds) (attempts : List Attempt) (devices : List KnownDevice) (rooms made : List WindowRoom) (n : ℕ) (room : WindowRoom) (d : KnownDevice) → n ≡ length rooms → n < length devices → made ≡ rooms ++ room ∷ [] → ((k : ℕ) (r : WindowRoom) → k < n → (known : KnownDevice) → IsRoom span rounds attempts k (get_or devices k known) (get_or rooms k r)) → IsRoom span rounds attempts n (get_or devices n d) room → (k : ℕ) (r : WindowRoom) → k < n + 1 → (known : KnownDevice) → IsRoom span rounds attempts k (get_or devices k known) (get_or made k r)
rooms_more span rounds attempts devices rooms made n room d size lt are before is =
    each_more (λ k r. (known : KnownDevice) → IsRoom span rounds attempts k (get_or devices k known) r) rooms made n room size are before
    (λ known. subst (λ (x : KnownDevice). IsRoom span rounds attempts n x room) (get_or_default devices n d known lt) is)

-- the attempts of a device that are read
pub own_read : (attempts : List Attempt) (count device : ℕ) (lists : List (Vec Attempt Global)) (v : Vec Attempt Global) (own : List Attempt) → AreByDevice count attempts lists → device < count → v ≡ get_or lists device v → own ≡ v.items → own ≡ attempts_of device attempts
own_read attempts count device lists v own are lt read is = is ∙ ap (λ (w : Vec Attempt Global). w.items) read ∙ list_at (λ d. attempts_of d attempts) count device lists v are lt

-- the fault of a device
pub fault_found : (span : TimeSpan) (attempts : List Attempt) (devices : List KnownDevice) (device : ℕ) (own : List Attempt) (d : KnownDevice) (fault : SlotsFault) → device < length devices → own ≡ attempts_of device attempts → (fault ≢ OutOfMemory → slots_in_window (earlier_flights span own) (own_flights span own) (get_or devices device d).known (get_or devices device d).depth ≡ Err fault) → IsFault span attempts devices (fault_of device fault)
fault_found span attempts devices device own d OutOfMemory lt same is = tt
fault_found span attempts devices device own d (TooFew number) lt same is = record {
  within = lt;
  few = λ known.
      let found : slots_in_window (earlier_flights span own) (own_flights span own) (get_or devices device d).known (get_or devices device d).depth ≡ Err (TooFew number) = is (λ e. cc) in
      let of_device = ap (λ bs. slots_in_window (earlier_flights span bs) (own_flights span bs) (get_or devices device d).known (get_or devices device d).depth) (sym same) ∙ found in
      subst (λ (x : KnownDevice). slots_in_window (earlier_flights span (attempts_of device attempts)) (own_flights span (attempts_of device attempts)) x.known x.depth ≡ Err (TooFew number)) (get_or_default devices device d known lt) of_device;
}
