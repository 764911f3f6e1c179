-- The order of keys, and that of the rows that have them.
use Rattle.std.specs.Prelude.{◌≡◌}
use Rattle.nqs_base.specs.declared.extent.Extent.{Extent}
use Rattle.nqs_types.specs.declared.request.Row.{Row}
use Rattle.nqs_rules.specs.Order.{comes_before}
use Rattle.nqs_index.specs.Keys.{key_of, is_before}

-- keys stand in the order in which their rows start
abbrev pub OrdersRows : Type 0
OrdersRows = (a b : Row Extent) → is_before (key_of a) (key_of b) ≡ comes_before a b
