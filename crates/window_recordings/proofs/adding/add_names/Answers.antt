use Rattle.std.proofs.Common.{◌≡◌, ◌<◌, ◌∙◌, List, length, get_or, ap, refl, arith}
use Rattle.recording_file.specs.Names.{NameValue, is_name}
use Rattle.recording_file.specs.Counts.{counts_of}
use Rattle.window_recordings.proofs.CapLemmas.{list_all-prefixed}
use Rattle.window_recordings.proofs.adding.add_names.Goals as goal

pub add_name-requires : goal.add_name-requires
add_name-requires c =
    let r = c.args.recording.now in
    let n = c.loop-name.name-index in
    let same = c.names-name-items.ensures.same in
    let less : n < length r.names = omega (arith, c.loop-name-test.true, ap (λ (xs : List NameValue). length xs) same) in
    let made = (rw c.in-Some.is at c.in_ok-copy.ensures).1 in
    let copied : c.in-Some.copy ≡ c.name-item.result = made ∙ rw (c.kind.ensures, c.number.ensures, c.as_bytes.ensures.value, c.text.ensures.same) refl in
    let item : c.in-Some.copy ≡ get_or r.names n c.name-item.result = copied ∙ c.name-item.is ∙ ap (λ (xs : List NameValue). get_or xs n c.name-item.result) same in
    rw (c.loop-name.invariant, c.requires.config, item) (list_all-prefixed (is_name (counts_of r.config)) r.names n c.name-item.result c.names-name-items.ensures.kept.head.names less)
