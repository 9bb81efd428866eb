-- adapters and devices with other openings, one more at a time
use Rattle.std.proofs.Common.{◌≡◌, ℕ, suc, ◌+◌, ◌<◌, List, [], ◌∷◌, ◌++◌, length, get_or, take, refl, sym, ap, ◌∙◌, arith, rules}
use Rattle.std.proofs.lemmas.List.{take_more, places}
use Rattle.cam_types.specs.declared.adapter.Adapter.{Adapter}
use Rattle.cam_types.specs.declared.device.Device.{Device}
use Rattle.sweep.specs.Settings.{Change}
use Rattle.sweep.specs.Changes.{changed_adapters, changed_devices, is_of_adapter, is_of_device, openings_by}

abbrev pub adapter_at : List Change → ℕ → Adapter → Adapter
adapter_at changes n a = record a { openings = openings_by (is_of_adapter n) changes a.openings }

abbrev pub device_at : List Change → ℕ → Device → Device
device_at changes n d = record d { openings = openings_by (is_of_device n) changes d.openings }

plus-none : (n : ℕ) → n + 0 ≡ n
plus-none n = omega arith

plus-next : (n k : ℕ) → n + 1 + k ≡ n + suc k
plus-next n k = omega arith

adapters-push : (changes : List Change) (n : ℕ) (xs : List Adapter) (x : Adapter) →
    changed_adapters changes n (xs ++ x ∷ []) ≡ changed_adapters changes n xs ++ adapter_at changes (n + length xs) x ∷ []
unfolding changed_adapters
adapters-push changes n [] x = ap (λ k. adapter_at changes k x ∷ []) (sym (plus-none n))
adapters-push changes n (y ∷ ys) x =
    ap (λ r. adapter_at changes n y ∷ r)
    (adapters-push changes (n + 1) ys x ∙ ap (λ k. changed_adapters changes (n + 1) ys ++ adapter_at changes k x ∷ []) (plus-next n (length ys)))

devices-push : (changes : List Change) (n : ℕ) (xs : List Device) (x : Device) →
    changed_devices changes n (xs ++ x ∷ []) ≡ changed_devices changes n xs ++ device_at changes (n + length xs) x ∷ []
unfolding changed_devices
devices-push changes n [] x = ap (λ k. device_at changes k x ∷ []) (sym (plus-none n))
devices-push changes n (y ∷ ys) x =
    ap (λ r. device_at changes n y ∷ r)
    (devices-push changes (n + 1) ys x ∙ ap (λ k. changed_devices changes (n + 1) ys ++ device_at changes k x ∷ []) (plus-next n (length ys)))

none-plus : (n : ℕ) → 0 + n ≡ n
none-plus n = omega arith

length-took : {X : Type 0} (xs : List X) (i : ℕ) → i < length xs → length (take i xs) ≡ i
length-took xs i lt = search (rules, places)

pub adapters_more : (changes : List Change) (out xs : List Adapter) (i : ℕ) (d : Adapter) → i < length xs →
    out ≡ changed_adapters changes 0 (take i xs) → out ++ adapter_at changes i (get_or xs i d) ∷ [] ≡ changed_adapters changes 0 (take (i + 1) xs)
adapters_more changes out xs i d lt h =
    ap (λ o. o ++ adapter_at changes i (get_or xs i d) ∷ []) h
    ∙ ap (λ k. changed_adapters changes 0 (take i xs) ++ adapter_at changes k (get_or xs i d) ∷ []) (sym (none-plus (length (take i xs)) ∙ length-took xs i lt))
    ∙ sym (adapters-push changes 0 (take i xs) (get_or xs i d))
    ∙ ap (changed_adapters changes 0) (sym (take_more xs i d lt))

pub devices_more : (changes : List Change) (out xs : List Device) (i : ℕ) (d : Device) → i < length xs →
    out ≡ changed_devices changes 0 (take i xs) → out ++ device_at changes i (get_or xs i d) ∷ [] ≡ changed_devices changes 0 (take (i + 1) xs)
devices_more changes out xs i d lt h =
    ap (λ o. o ++ device_at changes i (get_or xs i d) ∷ []) h
    ∙ ap (λ k. changed_devices changes 0 (take i xs) ++ device_at changes k (get_or xs i d) ∷ []) (sym (none-plus (length (take i xs)) ∙ length-took xs i lt))
    ∙ sym (devices-push changes 0 (take i xs) (get_or xs i d))
    ∙ ap (changed_devices changes 0) (sym (take_more xs i d lt))

pub adapters_none : (changes : List Change) → changed_adapters changes 0 [] ≡ []
unfolding changed_adapters
adapters_none changes = refl

pub devices_none : (changes : List Change) → changed_devices changes 0 [] ≡ []
unfolding changed_devices
devices_none changes = refl

pub length_adapters : (changes : List Change) (n : ℕ) (xs : List Adapter) → length (changed_adapters changes n xs) ≡ length xs
unfolding changed_adapters
length_adapters changes n [] = refl
length_adapters changes n (x ∷ xs) = ap suc (length_adapters changes (n + 1) xs)

pub length_devices : (changes : List Change) (n : ℕ) (xs : List Device) → length (changed_devices changes n xs) ≡ length xs
unfolding changed_devices
length_devices changes n [] = refl
length_devices changes n (x ∷ xs) = ap suc (length_devices changes (n + 1) xs)
