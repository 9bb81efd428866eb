use Rattle.std.proofs.Common.{◌≡◌, ℕ, List, ◌++◌, append_assoc, codes, decimal}
use Rattle.cam_path.specs.Paths.{spelled}
use Rattle.cam_path.proofs.path.CamPath.append.Goals as goal

regroup : (text bus one target other lun : List ℕ) → ((((text ++ bus) ++ one) ++ target) ++ other) ++ lun ≡ text ++ (bus ++ (one ++ (target ++ (other ++ lun))))
regroup text bus one target other lun = simp append_assoc

pub returns-clause-written : goal.returns-clause-written
unfolding spelled
returns-clause-written c =
    let path = c.args.self.now in
    rw (c.in_ok-push_number-3.ensures.written, c.in_ok-extend_from_slice-2.ensures.items, c.in_ok-push_number-2.ensures.written, c.in_ok-extend_from_slice.ensures.items, c.in_ok-push_number.ensures.written, c.from.ensures)
    (regroup c.args.text.now.items (decimal path.bus) (codes ":") (decimal path.target) (codes ":") (decimal path.lun))
