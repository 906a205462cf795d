use Rattle.std.proofs.Common.{◌≡◌, ◌<◌, ◌≤◌, ℕ, length, get_or, sym, subst, ◌∙◌, arith}
use Rattle.std.proofs.lemmas.Bool.Decides.{not_from_Decides}
use Rattle.std.specs.declared.cmp.Ordering.TheVariants.{Equal}
use Rattle.prima_base.specs.Order.{bytes_cmp}
use Rattle.schema_catalog.proofs.Differing.{others_run_out, tables_run_out, both_run_out}
use Rattle.schema_catalog.proofs.Differing.{table_before, other_before, columns_differ, both_same}
use Rattle.schema_catalog.proofs.Differing.{tables_go_on, others_go_on}
use Rattle.schema_catalog.proofs.difference.first_difference.Goals as goal

pub returns-in_default : goal.returns-in_default
returns-in_default c =
    rw c.name.ensures.value
    (others_run_out c.args.tables.now c.args.others.now c.loop-i.i c.loop-i.invariant.tables
    c.loop-i.invariant.others c.loop-i.invariant.rest
    c.index-tables-i.result c.loop-i-test.true c.index-tables-i.is c.in_default.ensures.lookup.3)

pub returns-in-Less : goal.returns-in-Less
returns-in-Less c =
    let found = c.in-Some.ensures.lookup.3 in
    rw c.name-in-Less.ensures.value
    (table_before c.args.tables.now c.args.others.now c.loop-i.i c.loop-i.invariant.tables
    c.loop-i.invariant.others c.loop-i.invariant.rest
    c.index-tables-i.result c.in-Some.other.now c.loop-i-test.true c.index-tables-i.is found.0
    (found.1 c.in-Some.other.now)
    (rw (← c.name-in-loop-i.ensures.value, ← c.name-in-loop-i-2.ensures.value)
    (sym c.cmp.ensures ∙ c.in-Less.is)))

pub returns-in-Greater : goal.returns-in-Greater
returns-in-Greater c =
    let found = c.in-Some.ensures.lookup.3 in
    rw c.name-in-Greater.ensures.value
    (other_before c.args.tables.now c.args.others.now c.loop-i.i c.loop-i.invariant.tables
    c.loop-i.invariant.others c.loop-i.invariant.rest
    c.index-tables-i.result c.in-Some.other.now c.loop-i-test.true c.index-tables-i.is found.0
    (found.1 c.in-Some.other.now)
    (rw (← c.name-in-loop-i.ensures.value, ← c.name-in-loop-i-2.ensures.value)
    (sym c.cmp.ensures ∙ c.in-Greater.is)))

pub returns-then-not-same_columns : goal.returns-then-not-same_columns
returns-then-not-same_columns c =
    let found = c.in-Some.ensures.lookup.3 in
    rw c.name-then-not-same_columns.ensures.value
    (columns_differ c.args.tables.now c.args.others.now c.loop-i.i c.loop-i.invariant.tables
    c.loop-i.invariant.others c.loop-i.invariant.rest
    c.index-tables-i.result c.in-Some.other.now c.loop-i-test.true c.index-tables-i.is found.0
    (found.1 c.in-Some.other.now)
    (rw (← c.name-in-loop-i.ensures.value, ← c.name-in-loop-i-2.ensures.value)
    (sym c.cmp.ensures ∙ c.in-Equal.is))
    (not_from_Decides c.same_columns.result (rw (← c.columns.ensures, ← c.columns-in-loop-i.ensures)
    c.same_columns.ensures) c.if-not-same_columns.true))

pub loop-i-preserved : goal.loop-i-preserved
loop-i-preserved c =
    let found = c.in-Some.ensures.lookup.3 in
    let is : bytes_cmp c.index-tables-i.result.0 c.in-Some.other.now.0 ≡ Equal =
    rw (← c.name-in-loop-i.ensures.value, ← c.name-in-loop-i-2.ensures.value)
    (sym c.cmp.ensures ∙ c.in-Equal.is) in
    let columns : c.index-tables-i.result.1 ≡ c.in-Some.other.now.1 =
    rw (← c.columns.ensures, ← c.columns-in-loop-i.ensures)
    (c.same_columns.ensures.0 c.if-not-same_columns.false) in
    record {
      tables = tables_go_on c.args.tables.now c.args.others.now c.loop-i.i c.loop-i.invariant.tables
          c.loop-i.invariant.others c.loop-i.invariant.rest
          c.index-tables-i.result c.in-Some.other.now c.loop-i-test.true c.index-tables-i.is found.0
          (found.1 c.in-Some.other.now);
      others = others_go_on c.args.tables.now c.args.others.now c.loop-i.i c.loop-i.invariant.tables
          c.loop-i.invariant.others c.loop-i.invariant.rest
          c.index-tables-i.result c.in-Some.other.now c.loop-i-test.true c.index-tables-i.is found.0
          (found.1 c.in-Some.other.now);
      rest = both_same c.args.tables.now c.args.others.now c.loop-i.i c.loop-i.invariant.tables
          c.loop-i.invariant.others c.loop-i.invariant.rest
          c.index-tables-i.result c.in-Some.other.now c.loop-i-test.true c.index-tables-i.is found.0
          (found.1 c.in-Some.other.now) is columns;
    }

pub returns-in-Some-get : goal.returns-in-Some-get
returns-in-Some-get c =
    let found = c.in-Some-get.ensures.lookup.3 in
    let is : length c.args.tables.now ≡ c.loop-i.i =
    omega (arith, c.loop-i-test.false, c.loop-i.auto.i-end) in
    rw c.name-in-Some-get.ensures.value
    (tables_run_out c.args.tables.now c.args.others.now c.loop-i.i c.loop-i.invariant.tables
    c.loop-i.invariant.others c.loop-i.invariant.rest
    c.in-Some-get.other.now c.loop-i-test.false
    (subst (λ (n : ℕ). n < length c.args.others.now) is found.0)
    (subst (λ (n : ℕ). c.in-Some-get.other.now ≡ get_or c.args.others.now n c.in-Some-get.other.now)
    is (found.1 c.in-Some-get.other.now)))

pub returns-in-None : goal.returns-in-None
returns-in-None c =
    let past : length c.args.others.now ≤ length c.args.tables.now = c.in-None.ensures.lookup.3 in
    both_run_out c.args.tables.now c.args.others.now c.loop-i.i c.loop-i.invariant.tables
    c.loop-i.invariant.others c.loop-i.invariant.rest
    c.loop-i-test.false (omega (arith, past, c.loop-i-test.false))
