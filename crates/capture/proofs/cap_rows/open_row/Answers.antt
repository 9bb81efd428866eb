use Rattle.std.proofs.Common.{◌≡◌, ◌∙◌, ap, length, arith, nat_lt, true, false}
use Rattle.std.proofs.lemmas.Bool.{lt-ltb, le-ltb}
use Rattle.std.proofs.lemmas.List.{with_items_is}
use Rattle.std.proofs.lemmas.Result.{IfOk-weaker}
use Rattle.recording_file.specs.Caps.{openings}
use Rattle.capture.specs.Captured.{sum_on}
use Rattle.capture.proofs.CapRowLemmas.{full_row, shared_row}
use Rattle.capture.proofs.cap_rows.open_row.Goals as goal

pub returns-then-from-openings_on : goal.returns-then-from-openings_on
returns-then-from-openings_on c =
    let a = c.args in
    let more : nat_lt (openings a.config.now a.part) (sum_on a.config.now a.part.number (openings a.config.now)) ≡ true = lt-ltb _ _ (omega (arith, c.from.ensures, c.openings-usual.ensures, c.openings_on.ensures, c.if-from-openings_on.true)) in
    IfOk-weaker c.vec.result _ _ (λ row h. full_row a.config.now a.rated.now a.spare.now a.requests.now a.part a.last row.items more (h (λ y is. is))) c.vec.ensures.items_if_clones_equal

pub returns : goal.returns
returns c =
    let a = c.args in
    let fewer : nat_lt (openings a.config.now a.part) (sum_on a.config.now a.part.number (openings a.config.now)) ≡ false = le-ltb _ _ (omega (arith, c.from.ensures, c.openings-usual.ensures, c.openings_on.ensures, c.if-from-openings_on.false)) in
    let size = c.raise_to.auto.row in
    let many : length c.raise_to.new.row ≡ length c.in_ok-row.row.items = size ∙ ap length c.deref_mut.ensures.value in
    rw (with_items_is c.in_ok-row.row c.raise_to.new.row (omega (arith, many))) (shared_row a.config.now a.rated.now a.spare.now a.requests.now a.part a.last c.openings-usual.result c.in_ok-row.row.items c.in_ok-devices.devices.items c.raise_to.new.row fewer c.openings-usual.ensures c.in_ok-row.ensures c.in_ok-devices.ensures many (rw (c.deref_mut.ensures.value, c.deref.ensures.value) at c.raise_to.ensures))
