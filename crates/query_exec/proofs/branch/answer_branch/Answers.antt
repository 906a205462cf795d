use Rattle.std.proofs.Common.{◌≡◌, ◌≤◌, ◌+◌, ◌++◌, List, map, length, sym, ap, subst, ◌∙◌}
use Rattle.std.specs.Borrow.{Bor}
use Rattle.std.proofs.lemmas.Result.{IfOk-weaker}
use Rattle.relations_spec.specs.Sets.{In}
use Rattle.prima_base.specs.Timed.{rows_at}
use Rattle.cond_expr.specs.declared.expr.ColRef.{ColRef}
use Rattle.cond_expr.specs.declared.expr.Expr.{Expr}
use Rattle.cond_expr.specs.References.{borrowed}
use Rattle.cond_expr.specs.Seen.{tree, test}
use Rattle.smo_ops_spec.specs.Past.{tables_of}
use Rattle.version_groups.specs.Groups.{versions_in}
use Rattle.plain_answers_spec.specs.Branches.{Item, PlainBranch, item_columns}
use Rattle.plain_answers_spec.specs.Naming.{all_references}
use Rattle.plain_answers_spec.specs.Pushing.{pushed_reads}
use Rattle.plain_answers_spec.specs.Reading.{read_columns}
use Rattle.piece_ir_spec.specs.Books.{book_of}
use Rattle.join_exec.proofs.AtomSteps.{if_known}
use Rattle.temporal_lang_types.specs.Branches.{branch_of}
use Rattle.query_exec.specs.Accepted.{MayItems}
use Rattle.query_exec.specs.Borrowed.{AllSpare}
use Rattle.query_exec.specs.QueryPieces.{items_pieces, alive_of}
use Rattle.query_exec.specs.Reads.{reads_of}
use Rattle.query_exec.proofs.ItemAtoms.{are_numbered, branch_atoms, branch_rows}
use Rattle.query_exec.proofs.branch.answer_branch.Goals as goal

pub read_items-requires-clause-read : goal.read_items-requires-clause-read
read_items-requires-clause-read g c =
    let b : PlainBranch = branch_of c.args.branch.now in
    let same : borrowed c.deref-3.result.now ≡ all_references b.outs b.cond =
    ap borrowed c.deref-3.ensures.value ∙ c.in_ok-gather_references.ensures
    ∙ ap (λ (xs : List Expr). borrowed c.new-references.result.items
    ++ all_references (map tree xs) (test c.args.branch.now.cond)) c.deref.ensures.value
    ∙ ap (λ (rs : List (Bor ColRef)). borrowed rs ++ all_references b.outs b.cond)
    c.new-references.ensures.items in
    subst (λ (rs : List ColRef). MayItems (versions_in c.args.groups.now) c.args.route.now rs
    b.cond 0 c.deref-2.result.now) (sym same)
    (subst (λ (from : List Item). MayItems (versions_in c.args.groups.now) c.args.route.now
    (all_references b.outs b.cond) b.cond 0 from) (sym c.deref-2.ensures.value)
    c.requires.read.items)

pub read_items-requires-clause-few : goal.read_items-requires-clause-few
read_items-requires-clause-few g c =
    subst (λ (from : List Item). length from ≤ 8) (sym c.deref-2.ensures.value) c.requires.read.few

pub returns-in_err-atoms-clause-cost : goal.returns-in_err-atoms-clause-cost
returns-in_err-atoms-clause-cost g c =
    let b : PlainBranch = branch_of c.args.branch.now in
    let same : borrowed c.deref-3.result.now ≡ all_references b.outs b.cond =
    ap borrowed c.deref-3.ensures.value ∙ c.in_ok-gather_references.ensures
    ∙ ap (λ (xs : List Expr). borrowed c.new-references.result.items
    ++ all_references (map tree xs) (test c.args.branch.now.cond)) c.deref.ensures.value
    ∙ ap (λ (rs : List (Bor ColRef)). borrowed rs ++ all_references b.outs b.cond)
    c.new-references.ensures.items in
    λ number.
    subst (λ (rs : List ColRef). c.read_items.new.steps ≤ c.args.steps.now
    + reads_of c.args.groups.now (alive_of
    (items_pieces (book_of g.R.Rule.handles g.R.Rule.answers c.args.book.now.rules.items)
    (versions_in c.args.groups.now) c.args.route.now.asked c.args.route.now.parts.items rs
    b.cond number 0 b.from))) same
    (subst (λ (from : List Item). c.read_items.new.steps ≤ c.args.steps.now
    + reads_of c.args.groups.now (alive_of
    (items_pieces (book_of g.R.Rule.handles g.R.Rule.answers c.args.book.now.rules.items)
    (versions_in c.args.groups.now) c.args.route.now.asked c.args.route.now.parts.items
    (borrowed c.deref-3.result.now) b.cond number 0 from))) c.deref-2.ensures.value
    (c.read_items.ensures.cost number))

pub join_atoms-requires : goal.join_atoms-requires
join_atoms-requires g c =
    are_numbered c.requires.represents.0 c.args.route.now (borrowed c.deref-3.result.now)
    (test c.args.branch.now.cond) 0 c.deref-2.result.now c.in_ok-atoms.atoms.items
    (c.in_ok-atoms.ensures.atoms c.requires.represents.0 c.requires.represents.1)

pub returns-clause-rows : goal.returns-clause-rows
returns-clause-rows g c = λ past represents m inside.
    let b : PlainBranch = branch_of c.args.branch.now in
    let same : borrowed c.deref-3.result.now ≡ all_references b.outs b.cond =
    ap borrowed c.deref-3.ensures.value ∙ c.in_ok-gather_references.ensures
    ∙ ap (λ (xs : List Expr). borrowed c.new-references.result.items
    ++ all_references (map tree xs) (test c.args.branch.now.cond)) c.deref.ensures.value
    ∙ ap (λ (rs : List (Bor ColRef)). borrowed rs ++ all_references b.outs b.cond)
    c.new-references.ensures.items in
    let read = c.in_ok-atoms.ensures.atoms past represents in
    IfOk-weaker c.join_atoms.result _ _
    (λ rows q. branch_rows past c.args.route.now b (borrowed c.deref-3.result.now)
    c.deref-2.result.now c.in_ok-atoms.atoms.items same c.deref-2.ensures.value read m inside
    (rows_at rows.items m)
    q)
    (c.join_atoms.ensures.rows (read_columns (pushed_reads b)
    (item_columns (tables_of past c.args.route.now.asked) b.from))
    (branch_atoms past c.args.route.now b (borrowed c.deref-3.result.now) c.deref-2.result.now
    c.in_ok-atoms.atoms.items same c.deref-2.ensures.value read) m inside)

pub returns-clause-cost : goal.returns-clause-cost
returns-clause-cost g c =
    let b : PlainBranch = branch_of c.args.branch.now in
    let same : borrowed c.deref-3.result.now ≡ all_references b.outs b.cond =
    ap borrowed c.deref-3.ensures.value ∙ c.in_ok-gather_references.ensures
    ∙ ap (λ (xs : List Expr). borrowed c.new-references.result.items
    ++ all_references (map tree xs) (test c.args.branch.now.cond)) c.deref.ensures.value
    ∙ ap (λ (rs : List (Bor ColRef)). borrowed rs ++ all_references b.outs b.cond)
    c.new-references.ensures.items in
    λ number.
    subst (λ (rs : List ColRef). c.read_items.new.steps ≤ c.args.steps.now
    + reads_of c.args.groups.now (alive_of
    (items_pieces (book_of g.R.Rule.handles g.R.Rule.answers c.args.book.now.rules.items)
    (versions_in c.args.groups.now) c.args.route.now.asked c.args.route.now.parts.items rs
    b.cond number 0 b.from))) same
    (subst (λ (from : List Item). c.read_items.new.steps ≤ c.args.steps.now
    + reads_of c.args.groups.now (alive_of
    (items_pieces (book_of g.R.Rule.handles g.R.Rule.answers c.args.book.now.rules.items)
    (versions_in c.args.groups.now) c.args.route.now.asked c.args.route.now.parts.items
    (borrowed c.deref-3.result.now) b.cond number 0 from))) c.deref-2.ensures.value
    (c.read_items.ensures.cost number))

pub returns-clause-borrowed : goal.returns-clause-borrowed
returns-clause-borrowed g c =
    let b : PlainBranch = branch_of c.args.branch.now in
    let same : borrowed c.deref-3.result.now ≡ all_references b.outs b.cond =
    ap borrowed c.deref-3.ensures.value ∙ c.in_ok-gather_references.ensures
    ∙ ap (λ (xs : List Expr). borrowed c.new-references.result.items
    ++ all_references (map tree xs) (test c.args.branch.now.cond)) c.deref.ensures.value
    ∙ ap (λ (rs : List (Bor ColRef)). borrowed rs ++ all_references b.outs b.cond)
    c.new-references.ensures.items in
    λ number by_branch h.
    c.join_atoms.ensures.borrowed (by_branch number)
    (c.in_ok-atoms.ensures.borrowed number by_branch
    (subst (λ (from : List Item). AllSpare c.args.groups.now by_branch
    (items_pieces (book_of g.R.Rule.handles g.R.Rule.answers c.args.book.now.rules.items)
    (versions_in c.args.groups.now) c.args.route.now.asked c.args.route.now.parts.items
    (borrowed c.deref-3.result.now) b.cond number 0 from)) (sym c.deref-2.ensures.value)
    (subst (λ (rs : List ColRef). AllSpare c.args.groups.now by_branch
    (items_pieces (book_of g.R.Rule.handles g.R.Rule.answers c.args.book.now.rules.items)
    (versions_in c.args.groups.now) c.args.route.now.asked c.args.route.now.parts.items rs
    b.cond number 0 b.from)) (sym same) h)))

pub returns-clause-least : goal.returns-clause-least
returns-clause-least g c =
    let b : PlainBranch = branch_of c.args.branch.now in
    let same : borrowed c.deref-3.result.now ≡ all_references b.outs b.cond =
    ap borrowed c.deref-3.ensures.value ∙ c.in_ok-gather_references.ensures
    ∙ ap (λ (xs : List Expr). borrowed c.new-references.result.items
    ++ all_references (map tree xs) (test c.args.branch.now.cond)) c.deref.ensures.value
    ∙ ap (λ (rs : List (Bor ColRef)). borrowed rs ++ all_references b.outs b.cond)
    c.new-references.ensures.items in
    λ number e h.
    if_known c.join_atoms.result
    (c.in_ok-atoms.ensures.least number e
    (subst (λ (from : List Item). In e (alive_of
    (items_pieces (book_of g.R.Rule.handles g.R.Rule.answers c.args.book.now.rules.items)
    (versions_in c.args.groups.now) c.args.route.now.asked c.args.route.now.parts.items
    (borrowed c.deref-3.result.now) b.cond number 0 from))) (sym c.deref-2.ensures.value)
    (subst (λ (rs : List ColRef). In e (alive_of
    (items_pieces (book_of g.R.Rule.handles g.R.Rule.answers c.args.book.now.rules.items)
    (versions_in c.args.groups.now) c.args.route.now.asked c.args.route.now.parts.items rs
    b.cond number 0 b.from))) (sym same) h)))
