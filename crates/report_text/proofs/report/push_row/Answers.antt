use Rattle.std.proofs.Common.{rules, ◌≡◌, ◌++◌, Some, sym, ap, ◌∙◌, codes, slice_get}
use Rattle.std.proofs.lemmas.Option.{slice_get-get_or}
use Rattle.report_text.specs.Words.{Device, address_of, spelled}
use Rattle.report_text.proofs.ReportLemmas.{two_pieces, row_text-device}
use Rattle.report_text.proofs.report.push_row.Goals as goal

pub returns-in_ok-extend_from_slice-in-Some-clause-text : goal.returns-in_ok-extend_from_slice-in-Some-clause-text
returns-in_ok-extend_from_slice-in-Some-clause-text c =
    let looked = c.in-Some.ensures.lookup in
    let found : slice_get c.args.devices.now c.args.row ≡ Some c.in-Some.device.now = slice_get-get_or c.args.devices.now c.args.row c.in-Some.device.now looked.3.0 ∙ ap (λ (d : Device). Some d) (sym looked.1) in
    let so_far : c.extend_from_slice.new.self.items ≡ c.args.text.now.items ++ codes "price dev " = search rules in
    rw (row_text-device c.args.devices.now c.args.adapters c.args.row c.in-Some.device.now found, two_pieces c.args.text.now.items (codes "price dev ") (spelled (address_of c.in-Some.device.now)) c.extend_from_slice.new.self.items so_far) c.push_path.ensures.text
