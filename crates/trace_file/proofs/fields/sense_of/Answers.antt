use Rattle.std.proofs.Common.{◌≡◌, ◌≤◌, ◌/◌, ◌∙◌, sym, ap, refl, arith, List, ℕ, take, length, Some, length-set, le-leb, take_all, length-take}
use Rattle.trace_file.specs.Fields.{bytes_of, sense_of}
use Rattle.trace_file.proofs.FieldLemmas.{bytes_of-odd, bytes_step, bytes_stop, bytes_end}
use Rattle.trace_file.proofs.fields.sense_of.Goals as goal

-- what is short enough is read
short : (field : List ℕ) → length field ≤ 36 → sense_of field ≡ bytes_of field
unfolding sense_of
short field h = rw (le-leb _ _ h) refl

pub returns-then-field-ne0 : goal.returns-then-field-ne0
returns-then-field-ne0 c =
    let field = c.args.field.now in
    sym (short field (omega arith) ∙ bytes_of-odd field c.if-field-ne0.true)

pub returns-in_err-bytes : goal.returns-in_err-bytes
returns-in_err-bytes c =
    let field = c.args.field.now in
    let i = c.loop-i.i in
    let stop = bytes_stop field c.loop-i.bytes i (omega arith) (sym c.hex_byte.ensures ∙ c.in_err-bytes.was) in
    let none = short field (omega arith) ∙ sym c.loop-i.invariant.1 ∙ stop in
    c.from_residual.ensures ∙ sym none

pub loop-i-preserved : goal.loop-i-preserved
loop-i-preserved c =
    let field = c.args.field.now in
    let i = c.loop-i.i in
    let more = bytes_step field c.loop-i.bytes i c.in_ok-bytes.field-0 (omega arith) (omega arith) (sym c.hex_byte.ensures ∙ c.in_ok-bytes.was) in
    (simp length-set c.loop-i.invariant.0, sym more ∙ c.loop-i.invariant.1)

pub returns : goal.returns
returns c =
    let field = c.args.field.now in
    let bytes = c.loop-i.bytes in
    let count : c.loop-i.i ≡ length field / 2 = omega arith in
    let end = bytes_end field bytes c.loop-i.i (omega arith) in
    let some = short field (omega arith) ∙ sym c.loop-i.invariant.1 ∙ end in
    let size = length-take c.loop-i.i bytes in
    let kept : c.first.result ≡ take c.loop-i.i bytes = rw (← count) at c.first.ensures ∙ take_all 18 (take c.loop-i.i bytes) (omega arith) in
    ap (λ (l : List ℕ). Some l) kept ∙ sym some
