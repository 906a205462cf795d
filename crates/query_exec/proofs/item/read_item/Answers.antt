use Rattle.std.proofs.Common.{◌≡◌, ◌+◌, ◌≤◌, List, refl, sym, subst}
use Rattle.relations_spec.specs.Sets.{In}
use Rattle.cond_expr.specs.References.{borrowed}
use Rattle.cond_expr.specs.Seen.{test}
use Rattle.smo_ops_spec.specs.Effects.{columns_of}
use Rattle.smo_ops_spec.specs.Making.{named}
use Rattle.smo_ops_spec.specs.Past.{tables_of}
use Rattle.join_exec_spec.specs.BorrowedOutputs.{RowsBorrow}
use Rattle.version_groups.specs.Groups.{versions_in}
use Rattle.plain_answers_spec.specs.Reading.{Read}
use Rattle.piece_ir_spec.specs.Books.{book_of}
use Rattle.query_exec.specs.Asked.{read_asked}
use Rattle.prima_base.specs.Columns.{Column}
use Rattle.cond_expr.specs.declared.expr.Column.{Column as AtomColumn}
use Rattle.cond_expr.specs.AtomColumns.{columns_at}
use Rattle.piece_ir.specs.ExplainedPieces.{PlainExplained}
use Rattle.query_exec.specs.Borrowed.{IsPlainIn}
use Rattle.query_exec.specs.Questions.{own_read}
use Rattle.query_exec.specs.QueryPieces.{table_pieces, IsAlive, alive_of}
use Rattle.query_exec.specs.Reads.{reads_of}
use Rattle.query_exec.specs.Routes.{MayBeRead}
use Rattle.query_exec.proofs.BorrowedRows.{item_plain}
use Rattle.query_exec.proofs.ItemAtoms.{columns_are, item_own, item_fit, item_rows_are, item_names}
use Rattle.query_exec.proofs.item.read_item.Goals as goal

pub read_table-requires-clause-read : goal.read_table-requires-clause-read
read_table-requires-clause-read g c =
    subst (λ (r : Read). MayBeRead (versions_in c.args.groups.now) c.args.route.now c.args.table.now
    r) (sym c.in_ok-question.ensures) c.requires.read

pub invariant_of-result : goal.invariant_of-result
invariant_of-result g c =
    let past = c.requires.represents.0 in
    let represents = c.requires.represents.1 in
    record {
      own = item_own c.args.groups.now past represents c.args.route.now c.args.schema.now
          c.requires.schema c.args.place c.args.table.now
          (own_read c.args.place (borrowed c.args.references.now) (test c.args.cond.now))
          (read_asked c.in_ok-question.question) c.deref.result.now c.in_ok-columns.columns.items
          c.in_ok-rows.rows.items c.in_ok-columns.ensures c.deref.ensures.value
          c.in_ok-question.ensures (c.in_ok-rows.ensures.rows past represents);
      fit = item_fit c.args.groups.now past represents c.args.route.now c.args.schema.now
          c.requires.schema c.args.place c.args.table.now
          (own_read c.args.place (borrowed c.args.references.now) (test c.args.cond.now))
          (read_asked c.in_ok-question.question) c.deref.result.now c.in_ok-columns.columns.items
          c.in_ok-rows.rows.items c.in_ok-columns.ensures c.deref.ensures.value
          c.in_ok-question.ensures (c.in_ok-rows.ensures.rows past represents);
    }

pub returns-in_err-rows-clause-cost : goal.returns-in_err-rows-clause-cost
returns-in_err-rows-clause-cost g c = λ branch atom.
    subst (λ (r : Read). c.read_table.new.steps ≤ c.args.steps.now
    + reads_of c.args.groups.now (alive_of
    (table_pieces (book_of g.R.Rule.handles g.R.Rule.answers c.args.book.now.rules.items)
    (versions_in c.args.groups.now) c.args.route.now.asked c.args.table.now r branch atom
    c.args.route.now.parts.items))) c.in_ok-question.ensures
    (c.read_table.ensures.cost branch atom)

pub returns-clause-atom : goal.returns-clause-atom
returns-clause-atom g c = λ past represents. record {
  number = refl;
  columns = columns_are c.args.groups.now past represents c.args.route.now c.args.schema.now
      c.requires.schema c.args.place c.args.table.now
      (own_read c.args.place (borrowed c.args.references.now) (test c.args.cond.now))
      (read_asked c.in_ok-question.question) c.deref.result.now c.in_ok-columns.columns.items
      c.in_ok-rows.rows.items c.in_ok-columns.ensures c.deref.ensures.value c.in_ok-question.ensures
      (c.in_ok-rows.ensures.rows past represents);
  rows = item_rows_are c.args.groups.now past represents c.args.route.now c.args.schema.now
      c.requires.schema c.args.place c.args.table.now
      (own_read c.args.place (borrowed c.args.references.now) (test c.args.cond.now))
      (read_asked c.in_ok-question.question) c.deref.result.now c.in_ok-columns.columns.items
      c.in_ok-rows.rows.items c.in_ok-columns.ensures c.deref.ensures.value c.in_ok-question.ensures
      (c.in_ok-rows.ensures.rows past represents);
}

pub returns-clause-cost : goal.returns-clause-cost
returns-clause-cost g c = λ branch atom.
    subst (λ (r : Read). c.read_table.new.steps ≤ c.args.steps.now
    + reads_of c.args.groups.now (alive_of
    (table_pieces (book_of g.R.Rule.handles g.R.Rule.answers c.args.book.now.rules.items)
    (versions_in c.args.groups.now) c.args.route.now.asked c.args.table.now r branch atom
    c.args.route.now.parts.items))) c.in_ok-question.ensures
    (c.read_table.ensures.cost branch atom)

pub returns-clause-borrowed : goal.returns-clause-borrowed
returns-clause-borrowed g c = λ branch by_branch spares.
    let past = c.requires.represents.0 in
    let represents = c.requires.represents.1 in
    let own : Read =
    own_read c.args.place (borrowed c.args.references.now) (test c.args.cond.now) in
    let book = book_of g.R.Rule.handles g.R.Rule.answers c.args.book.now.rules.items in
    let columns : List Column = named own.names (columns_of (tables_of past c.args.route.now.asked)
    c.args.table.now) in
    let are : c.in_ok-columns.columns.items ≡ columns_at c.args.place columns =
    columns_are c.args.groups.now past represents c.args.route.now c.args.schema.now
    c.requires.schema c.args.place c.args.table.now own
    (read_asked c.in_ok-question.question) c.deref.result.now c.in_ok-columns.columns.items
    c.in_ok-rows.rows.items c.in_ok-columns.ensures c.deref.ensures.value
    c.in_ok-question.ensures (c.in_ok-rows.ensures.rows past represents) in
    subst (λ (cs : List AtomColumn). RowsBorrow (by_branch branch) cs c.in_ok-rows.rows.items)
    (sym are)
    (c.in_ok-rows.ensures.borrowed branch (c.args.place + 1) (by_branch branch)
    (columns_at c.args.place columns)
    (subst (λ (r : Read). (e : PlainExplained) → IsAlive (versions_in c.args.groups.now)
    (table_pieces book (versions_in c.args.groups.now) c.args.route.now.asked c.args.table.now r
    branch (c.args.place + 1) c.args.route.now.parts.items) e
    → IsPlainIn c.args.groups.now (by_branch branch) (columns_at c.args.place columns) e)
    (sym c.in_ok-question.ensures)
    (λ e alive. item_plain (versions_in c.args.groups.now) book c.known.ensures c.args.route.now
    c.requires.route c.args.table.now own c.requires.read c.args.groups.now columns
    (item_names c.args.groups.now past represents c.args.route.now c.args.table.now own
    c.requires.read)
    branch c.args.place by_branch e alive (spares e alive))))

pub returns-clause-least : goal.returns-clause-least
returns-clause-least g c = λ branch atom e h. c.in_ok-rows.ensures.least branch atom e
    (subst (λ (r : Read). In e (alive_of
    (table_pieces (book_of g.R.Rule.handles g.R.Rule.answers c.args.book.now.rules.items)
    (versions_in c.args.groups.now) c.args.route.now.asked c.args.table.now r branch atom
    c.args.route.now.parts.items))) (sym c.in_ok-question.ensures) h)
