-- the greatest caps, one by one
use Rattle.std.proofs.Common.{◌≡◌, ℕ, ◌+◌, ◌<◌, max, List, [], ◌∷◌, ◌++◌, length, take, map, fold, get_or, sym, ap, ◌∙◌, arith, zero-add, Option}
use Rattle.std.specs.List.{range_with_len}
use Rattle.std.specs.Option.{option_or}
use Rattle.std.proofs.lemmas.Grind.{fold-append}
use Rattle.std.proofs.lemmas.List.{length-map, length-take-le, map-append, take_more}
use Rattle.cam_types.specs.Lists.{first_answer, prefixed}
use Rattle.cam_types.specs.Topology.{Topology}
use Rattle.cam_types.specs.declared.adapter.Adapter.{Adapter}
use Rattle.cam_types.specs.declared.device.Device.{Device}
use Rattle.cam_types.specs.declared.weight_row.WeightRow.{WeightRow}
use Rattle.cam_types.proofs.ListLemmas.{prefixed-push}
use Rattle.event_rules.proofs.ListFacts.{length-prefixed_after, range_with_len-push}
use Rattle.recording_file.specs.Caps.{part_of}
use Rattle.recording_file.specs.Recorded.{Recorded}
use Rattle.recording_file.specs.declared.part.PartKind.TheVariants as kind
use Rattle.conversions.specs.Faults.{ScriptFault}
use Rattle.conversions.specs.RecordingScript.{greatest, greatest_to, link_at, adapter_at, device_at, config_of, openings_fault, device_fault, adapter_fault, link_fault}

-- one round more
pub greatest_more : (f : ℕ → ℕ) (n most next v : ℕ) → most ≡ greatest_to f n → v ≡ f (n + 1) → next ≡ max most v → next ≡ greatest_to f (n + 1)
greatest_more f n most next v so_far here is =
    let place : n + 1 ≡ 1 + n = omega arith in
    is ∙ ap (λ m. max m v) so_far ∙ ap (λ w. max (greatest_to f n) w) (here ∙ ap f place)
    ∙ sym (fold-append max 1 (map f (range_with_len 1 n)) (f (1 + n) ∷ []))
    ∙ ap (fold max 1) (sym (map-append f (range_with_len 1 n) ((1 + n) ∷ [])))
    ∙ ap (λ rs. fold max 1 (map f rs)) (sym (range_with_len-push 1 n))

-- one element more beside those before it
at_more : {X Y : Type 0} (f : List X × X → Y) (xs : List X) (i : ℕ) (d : X) (items next : List Y) → i < length xs → items ≡ map f (prefixed (take i xs)) → next ≡ items ++ f (take i xs, get_or xs i d) ∷ [] → next ≡ map f (prefixed (take (i + 1) xs))
at_more f xs i d items next lt so_far is =
    is ∙ ap (λ ys. ys ++ f (take i xs, get_or xs i d) ∷ []) so_far
    ∙ sym (map-append f (prefixed (take i xs)) ((take i xs, get_or xs i d) ∷ []))
    ∙ ap (map f) (sym (prefixed-push (take i xs) (get_or xs i d)))
    ∙ ap (λ ys. map f (prefixed ys)) (sym (take_more xs i d lt))

module _ (r : Recorded) where
  pub links_more : (xs : List ℕ) (i n : ℕ) (items next : List ℕ) → i < length xs → items ≡ map (link_at r) (prefixed (take i xs)) → n ≡ greatest r (part_of kind.Link i) → next ≡ items ++ n ∷ [] → next ≡ map (link_at r) (prefixed (take (i + 1) xs))
  links_more xs i n items next lt so_far here is =
      let len : i ≡ length (take i xs) = sym (length-take-le i xs (omega arith)) in
      at_more (link_at r) xs i 0 items next lt so_far (is ∙ ap (λ m. items ++ m ∷ []) (here ∙ ap (λ k. greatest r (part_of kind.Link k)) len))

  pub adapters_more : (xs : List Adapter) (i n : ℕ) (d : Adapter) (items next : List Adapter) → i < length xs → items ≡ map (adapter_at r) (prefixed (take i xs)) → n ≡ greatest r (part_of kind.Adapter i) → next ≡ items ++ record (get_or xs i d) { openings = n } ∷ [] →
      next ≡ map (adapter_at r) (prefixed (take (i + 1) xs))
  adapters_more xs i n d items next lt so_far here is =
      let len : i ≡ length (take i xs) = sym (length-take-le i xs (omega arith)) in
      at_more (adapter_at r) xs i d items next lt so_far (is ∙ ap (λ m. items ++ record (get_or xs i d) { openings = m } ∷ []) (here ∙ ap (λ k. greatest r (part_of kind.Adapter k)) len))

  pub devices_more : (xs : List Device) (i n : ℕ) (d : Device) (items next : List Device) → i < length xs → items ≡ map (device_at r) (prefixed (take i xs)) → n ≡ greatest r (part_of kind.Device i) → next ≡ items ++ record (get_or xs i d) { openings = n } ∷ [] →
      next ≡ map (device_at r) (prefixed (take (i + 1) xs))
  devices_more xs i n d items next lt so_far here is =
      let len : i ≡ length (take i xs) = sym (length-take-le i xs (omega arith)) in
      at_more (device_at r) xs i d items next lt so_far (is ∙ ap (λ m. items ++ record (get_or xs i d) { openings = m } ∷ []) (here ∙ ap (λ k. greatest r (part_of kind.Device k)) len))

  -- the lists of the configuration
  pub as_many : {X Y : Type 0} (f : List X × X → Y) (xs : List X) → length (map f (prefixed xs)) ≡ length xs
  as_many f xs = length-map (prefixed xs) f ∙ length-prefixed_after [] xs

  pub config_is : (ws : List WeightRow) (links : List ℕ) (adapters : List Adapter) (devices : List Device) (lanes : List ℕ) → ws ≡ r.config.weights → links ≡ map (link_at r) (prefixed r.config.links) → adapters ≡ map (adapter_at r) (prefixed r.config.adapters) →
      devices ≡ map (device_at r) (prefixed r.config.devices) → lanes ≡ range_with_len 0 (length adapters) → ◌≡◌ {A = Topology} (record { weights = ws; links = links; adapters = adapters; devices = devices; lanes = lanes }) (config_of r)
  unfolding config_of
  config_is ws links adapters devices lanes w l a d n =
      let many : lanes ≡ range_with_len 0 (length r.config.adapters) = n ∙ ap (λ xs. range_with_len 0 (length xs)) a ∙ ap (range_with_len 0) (as_many (adapter_at r) r.config.adapters) in
      λ i. record { weights = w i; links = l i; adapters = a i; devices = d i; lanes = many i }

  pub fault_is : (links : List ℕ) (adapters : List Adapter) (devices : List Device) (o : Option ScriptFault) → links ≡ map (link_at r) (prefixed r.config.links) → adapters ≡ map (adapter_at r) (prefixed r.config.adapters) →
      devices ≡ map (device_at r) (prefixed r.config.devices) → o ≡ option_or (first_answer device_fault (prefixed devices)) (option_or (first_answer adapter_fault (prefixed adapters)) (first_answer link_fault (prefixed links))) → o ≡ openings_fault (config_of r)
  unfolding config_of openings_fault
  fault_is links adapters devices o l a d is = is ∙ (λ i. option_or (first_answer device_fault (prefixed (d i))) (option_or (first_answer adapter_fault (prefixed (a i))) (first_answer link_fault (prefixed (l i)))))

-- the numbers of one lane more
pub numbers_more : (n : ℕ) (items next : List ℕ) → items ≡ range_with_len 0 n → next ≡ items ++ n ∷ [] → next ≡ range_with_len 0 (n + 1)
numbers_more n items next so_far is =
    is ∙ ap (λ xs. xs ++ n ∷ []) so_far ∙ ap (λ k. range_with_len 0 n ++ k ∷ []) (sym (zero-add n)) ∙ sym (range_with_len-push 0 n)
