use Rattle.std.proofs.Common.{◌≡◌, ◌≤◌, List, length, false, sym, ap, ◌∙◌, arith}
use Rattle.std.specs.Prelude.{None, ◌==◌}
use Rattle.std.specs.Option.{option_copied}
use Rattle.prima_base.specs.Columns.{Column, names_of}
use Rattle.smo_ops_spec.specs.Preconditions.{first_again}
use Rattle.smo_ops_operators.proofs.AfterLaws.{many_tables, room_for_table, not_there}
use Rattle.smo_ops_operators.proofs.operator.create_table.check_new_table.Goals as goal

some_columns : (columns : List Column) → (length columns == 0) ≡ false → 1 ≤ length columns
some_columns columns e = grind (arith, e)

pub returns-then-len-ge-MAX_TABLES : goal.returns-then-len-ge-MAX_TABLES
returns-then-len-ge-MAX_TABLES c =
    let free = not_there c.table.result _ _ c.table.ensures.table
    (sym c.is_some.ensures ∙ c.if-is_some.false) in
    let some = some_columns c.args.columns.now (sym c.is_empty.ensures ∙ c.if-is_empty.false) in
    let once : first_again (names_of c.args.columns.now) ≡ None = sym c.in_ok-name.ensures
    ∙ ap option_copied c.in_default.is in
    many_tables c.args.schema.now c.args.table.now c.args.columns.now free some once
    c.if-columns-gt-MAX_COLUMNS.false (omega (arith, c.len.ensures.count))

pub returns : goal.returns
returns c =
    let free = not_there c.table.result _ _ c.table.ensures.table
    (sym c.is_some.ensures ∙ c.if-is_some.false) in
    let some = some_columns c.args.columns.now (sym c.is_empty.ensures ∙ c.if-is_empty.false) in
    let once : first_again (names_of c.args.columns.now) ≡ None = sym c.in_ok-name.ensures
    ∙ ap option_copied c.in_default.is in
    room_for_table c.args.schema.now c.args.table.now c.args.columns.now free some once
    c.if-columns-gt-MAX_COLUMNS.false (omega (arith, c.len.ensures.count))
