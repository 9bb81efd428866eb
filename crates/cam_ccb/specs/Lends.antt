-- What a `CcbTable` ends as, where a `&mut` to one of its values is returned.
use Rattle.std.specs.Prelude.{Option}
use Rattle.std.specs.Borrow.{LendsIf, Fml, RattleType, MutBor}
use Rattle.cam_ccb.specs.Table.{Table, with_value, Handle}
use Rattle.cam_ccb.specs.contracts.table.CcbTable.{the_row}

module _ (T : RattleType) (t : MutBor (Table T.Denot)) (handle : Handle) where
  -- once the borrow r ends, the handle has the last value written through r; at `None` the table stays as it is
  abbrev pub lends_get : Option (MutBor T.Denot) → Fml
  lends_get r = LendsIf (the_row T) T t r (with_value t.now handle) t.now
