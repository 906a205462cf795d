use Rattle.std.specs.Prelude.{not}
use Rattle.std.specs.Ordering.{eq_by_cmp}
use Rattle.prima_base.specs.Order.{bytes_cmp}
use Rattle.schema_catalog.proofs.Removing.{still_tables, where_key_is_remove}
use Rattle.schema_catalog.proofs.schema.Schema.without.Goals as goal

pub invariant_of-result : goal.invariant_of-result
invariant_of-result c =
    rw (c.in_ok-copy_without.ensures, c.deref.ensures.value)
    (still_tables (λ m. not (eq_by_cmp bytes_cmp c.args.name.now m)) c.self.inside.tables.items
    c.self.invariant)

pub returns : goal.returns
returns c =
    rw (c.in_ok-copy_without.ensures, c.deref.ensures.value, ← c.self.view_is)
    (where_key_is_remove c.args.name.now c.self.inside.tables.items c.self.invariant.sorted)
