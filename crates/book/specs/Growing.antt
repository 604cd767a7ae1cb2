-- How the register of a book's rows may change in a call.
--
--   Enlarged  rows are only put behind those in use, and what always holds of a book holds
use Rattle.std.specs.Prelude.{◌≡◌}
use Rattle.register.specs.declared.Register.{Register}
use Rattle.diagrams.specs.declared.Row.{Row}
use Rattle.diagrams.specs.Applying.{Extends}

pub record Enlarged (before after : Register Row) : Type 0 where
  pub rows : after.rows.ghost_name ≡ before.rows.ghost_name
  pub extends : Extends before.rows.now before.count after.rows.now after.count
