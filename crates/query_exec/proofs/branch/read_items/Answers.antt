use Rattle.std.proofs.Common.{◌≡◌, ◌<◌, ◌+◌, ◌≤◌, ℕ, List, [], length, get_or, drop, refl, sym, ap}
use Rattle.std.proofs.Common.{subst}
use Rattle.std.proofs.Common.{inl, arith}
use Rattle.std.proofs.lemmas.List.{drop_all}
use Rattle.relations_spec.specs.Sets.{In}
use Rattle.cond_expr.specs.declared.expr.ColRef.{ColRef}
use Rattle.cond_expr.specs.References.{borrowed}
use Rattle.cond_expr.specs.Seen.{test}
use Rattle.cond_expr.specs.Trees.{Test}
use Rattle.version_groups.specs.Groups.{versions_in}
use Rattle.plain_answers_spec.specs.Branches.{Item}
use Rattle.piece_ir_spec.specs.Books.{book_of}
use Rattle.join_exec_engine.specs.declared.atom.Atom.{Atom}
use Rattle.query_exec.specs.Accepted.{IsRead, AreRead}
use Rattle.query_exec.specs.Questions.{own_read}
use Rattle.query_exec.specs.QueryPieces.{table_pieces, items_pieces, alive_of}
use Rattle.join_exec_engine.specs.Atoms.{AtomsBorrow}
use Rattle.query_exec.specs.Borrowed.{AllSpare}
use Rattle.query_exec.specs.Reads.{reads_of}
use Rattle.query_exec.specs.Routes.{MayBeRead}
use Rattle.query_exec.proofs.AliveLaws.{owes_all, owes_within, IsLeftOrRead, all_read}
use Rattle.query_exec.proofs.ItemAtoms.{may_next, next_read, item_owes, item_left}
use Rattle.query_exec.proofs.BorrowedRows.{next_item, atom_more}
use Rattle.query_exec.proofs.TotalLaws.{from_first}
use Rattle.query_exec.proofs.branch.read_items.Goals as goal

pub loop-item-init : goal.loop-item-init
loop-item-init g c = record {
  place = refl;
  may = c.requires.read;
  read = λ past represents. subst (λ (xs : List Atom).
      AreRead past c.args.route.now (borrowed c.args.references.now) (test c.args.cond.now) 0 [] xs)
      (sym c.new-atoms.ensures.items) tt;
  all_borrowed = λ branch by_branch h. (
    subst (AtomsBorrow (by_branch branch)) (sym c.new-atoms.ensures.items) tt,
    h,
  );
  count = λ branch. owes_all c.args.groups.now
      (items_pieces (book_of g.R.Rule.handles g.R.Rule.answers c.args.book.now.rules.items)
      (versions_in c.args.groups.now) c.args.route.now.asked c.args.route.now.parts.items
      (borrowed c.args.references.now) (test c.args.cond.now) branch 0 c.args.from.now)
      c.args.steps.now;
  least = λ branch e h. inl h;
  rises = omega arith;
}

pub read_item-requires-clause-read : goal.read_item-requires-clause-read
read_item-requires-clause-read g c =
    let rs : List ColRef = borrowed c.args.references.now in
    let cd : Test = test c.args.cond.now in
    let from : List Item = c.args.from.now in
    let i : ℕ = c.loop-item.item-index in
    let x : Item = c.item-item.result in
    let below : i < length from = c.loop-item-test.true in
    let is : x ≡ get_or from i x = c.item-item.is in
    let next = may_next (versions_in c.args.groups.now) c.args.route.now rs cd from i x below is
    c.loop-item.invariant.may in
    subst (λ (j : ℕ). MayBeRead (versions_in c.args.groups.now) c.args.route.now x.0
    (own_read j rs cd)) (sym c.loop-item.invariant.place) next.0

pub loop-item-preserved : goal.loop-item-preserved
loop-item-preserved g c =
    let rs : List ColRef = borrowed c.args.references.now in
    let cd : Test = test c.args.cond.now in
    let from : List Item = c.args.from.now in
    let i : ℕ = c.loop-item.item-index in
    let x : Item = c.item-item.result in
    let below : i < length from = c.loop-item-test.true in
    let is : x ≡ get_or from i x = c.item-item.is in
    let next = may_next (versions_in c.args.groups.now) c.args.route.now rs cd from i x below is
    c.loop-item.invariant.may in
    record {
      place = ap (λ (j : ℕ). j + 1) c.loop-item.invariant.place;
      may = next.1;
      read = λ past represents.
          next_read past c.args.route.now rs cd from i x below is c.loop-item.atoms.items
          c.push.new.self.items c.in_ok-atom.atom c.in_ok-push.ensures.items
          (c.loop-item.invariant.read past represents)
          (subst (λ (j : ℕ). IsRead past c.args.route.now j x.0 (own_read j rs cd)
          c.in_ok-atom.atom) c.loop-item.invariant.place
          (c.in_ok-atom.ensures.atom past represents));
      all_borrowed = λ branch by_branch h.
          let before = c.loop-item.invariant.all_borrowed branch by_branch h in
          let both = next_item c.args.groups.now by_branch
          (book_of g.R.Rule.handles g.R.Rule.answers c.args.book.now.rules.items)
          c.args.route.now.asked c.args.route.now.parts.items rs cd
          branch from i x below is before.1 in (
            atom_more (by_branch branch) c.loop-item.atoms.items c.push.new.self.items
                c.in_ok-atom.atom c.in_ok-push.ensures.items before.0
                (c.in_ok-atom.ensures.borrowed branch by_branch
                (subst (λ (j : ℕ). AllSpare c.args.groups.now by_branch
                (table_pieces (book_of g.R.Rule.handles g.R.Rule.answers
                c.args.book.now.rules.items) (versions_in c.args.groups.now)
                c.args.route.now.asked x.0 (own_read j rs cd) branch (j + 1)
                c.args.route.now.parts.items)) (sym c.loop-item.invariant.place) both.0)),
            both.1,
          );
      count = λ branch. item_owes
          (book_of g.R.Rule.handles g.R.Rule.answers c.args.book.now.rules.items)
          (versions_in c.args.groups.now) c.args.route.now.asked c.args.route.now.parts.items rs cd
          branch c.args.groups.now from i x below is c.loop-item.steps
          (c.args.steps.now + reads_of c.args.groups.now (alive_of
          (items_pieces (book_of g.R.Rule.handles g.R.Rule.answers c.args.book.now.rules.items)
          (versions_in c.args.groups.now) c.args.route.now.asked c.args.route.now.parts.items rs cd
          branch 0 from))) c.read_item.new.steps
          (c.loop-item.invariant.count branch)
          (subst (λ (j : ℕ). c.read_item.new.steps ≤ c.loop-item.steps
          + reads_of c.args.groups.now (alive_of
          (table_pieces (book_of g.R.Rule.handles g.R.Rule.answers c.args.book.now.rules.items)
          (versions_in c.args.groups.now) c.args.route.now.asked
          x.0 (own_read j rs cd) branch (i + 1) c.args.route.now.parts.items)))
          c.loop-item.invariant.place (c.read_item.ensures.cost branch (i + 1)));
      least = λ branch e h. item_left (book_of g.R.Rule.handles g.R.Rule.answers
          c.args.book.now.rules.items)
          (versions_in c.args.groups.now) c.args.route.now.asked c.args.route.now.parts.items rs cd
          branch c.args.groups.now from i x below is c.args.steps.now c.loop-item.steps
          c.read_item.new.steps e
          c.loop-item.invariant.rises c.read_item.ensures.rises
          (c.loop-item.invariant.least branch e h)
          (λ k. c.in_ok-atom.ensures.least branch (i + 1) e
          (subst (λ (j : ℕ). In e (alive_of
          (table_pieces (book_of g.R.Rule.handles g.R.Rule.answers c.args.book.now.rules.items)
          (versions_in c.args.groups.now) c.args.route.now.asked
          x.0 (own_read j rs cd) branch (i + 1) c.args.route.now.parts.items)))
          (sym c.loop-item.invariant.place) k));
      rises = from_first c.args.steps.now c.loop-item.steps c.read_item.new.steps
          c.loop-item.invariant.rises c.read_item.ensures.rises;
    }

pub returns-in_err-atom-clause-cost : goal.returns-in_err-atom-clause-cost
returns-in_err-atom-clause-cost g c =
    let rs : List ColRef = borrowed c.args.references.now in
    let cd : Test = test c.args.cond.now in
    let from : List Item = c.args.from.now in
    let i : ℕ = c.loop-item.item-index in
    let x : Item = c.item-item.result in
    let below : i < length from = c.loop-item-test.true in
    let is : x ≡ get_or from i x = c.item-item.is in
    λ branch.
    owes_within c.args.groups.now
    (items_pieces (book_of g.R.Rule.handles g.R.Rule.answers c.args.book.now.rules.items)
    (versions_in c.args.groups.now) c.args.route.now.asked c.args.route.now.parts.items rs cd
    branch (i + 1) (drop (i + 1) from)) c.read_item.new.steps
    (c.args.steps.now + reads_of c.args.groups.now (alive_of
    (items_pieces (book_of g.R.Rule.handles g.R.Rule.answers c.args.book.now.rules.items)
    (versions_in c.args.groups.now) c.args.route.now.asked c.args.route.now.parts.items rs cd
    branch 0 from)))
    (item_owes (book_of g.R.Rule.handles g.R.Rule.answers c.args.book.now.rules.items)
    (versions_in c.args.groups.now) c.args.route.now.asked c.args.route.now.parts.items rs cd
    branch c.args.groups.now from i x below is c.loop-item.steps
    (c.args.steps.now + reads_of c.args.groups.now (alive_of
    (items_pieces (book_of g.R.Rule.handles g.R.Rule.answers c.args.book.now.rules.items)
    (versions_in c.args.groups.now) c.args.route.now.asked c.args.route.now.parts.items rs cd
    branch 0 from))) c.read_item.new.steps
    (c.loop-item.invariant.count branch)
    (subst (λ (j : ℕ). c.read_item.new.steps ≤ c.loop-item.steps
    + reads_of c.args.groups.now (alive_of
    (table_pieces (book_of g.R.Rule.handles g.R.Rule.answers c.args.book.now.rules.items)
    (versions_in c.args.groups.now) c.args.route.now.asked x.0 (own_read j rs cd) branch (i + 1)
    c.args.route.now.parts.items))) c.loop-item.invariant.place
    (c.read_item.ensures.cost branch (i + 1))))

pub returns-in_err-push-clause-cost : goal.returns-in_err-push-clause-cost
returns-in_err-push-clause-cost g c =
    let rs : List ColRef = borrowed c.args.references.now in
    let cd : Test = test c.args.cond.now in
    let from : List Item = c.args.from.now in
    let i : ℕ = c.loop-item.item-index in
    let x : Item = c.item-item.result in
    let below : i < length from = c.loop-item-test.true in
    let is : x ≡ get_or from i x = c.item-item.is in
    λ branch.
    owes_within c.args.groups.now
    (items_pieces (book_of g.R.Rule.handles g.R.Rule.answers c.args.book.now.rules.items)
    (versions_in c.args.groups.now) c.args.route.now.asked c.args.route.now.parts.items rs cd
    branch (i + 1) (drop (i + 1) from)) c.read_item.new.steps
    (c.args.steps.now + reads_of c.args.groups.now (alive_of
    (items_pieces (book_of g.R.Rule.handles g.R.Rule.answers c.args.book.now.rules.items)
    (versions_in c.args.groups.now) c.args.route.now.asked c.args.route.now.parts.items rs cd
    branch 0 from)))
    (item_owes (book_of g.R.Rule.handles g.R.Rule.answers c.args.book.now.rules.items)
    (versions_in c.args.groups.now) c.args.route.now.asked c.args.route.now.parts.items rs cd
    branch c.args.groups.now from i x below is c.loop-item.steps
    (c.args.steps.now + reads_of c.args.groups.now (alive_of
    (items_pieces (book_of g.R.Rule.handles g.R.Rule.answers c.args.book.now.rules.items)
    (versions_in c.args.groups.now) c.args.route.now.asked c.args.route.now.parts.items rs cd
    branch 0 from))) c.read_item.new.steps
    (c.loop-item.invariant.count branch)
    (subst (λ (j : ℕ). c.read_item.new.steps ≤ c.loop-item.steps
    + reads_of c.args.groups.now (alive_of
    (table_pieces (book_of g.R.Rule.handles g.R.Rule.answers c.args.book.now.rules.items)
    (versions_in c.args.groups.now) c.args.route.now.asked x.0 (own_read j rs cd) branch (i + 1)
    c.args.route.now.parts.items))) c.loop-item.invariant.place
    (c.read_item.ensures.cost branch (i + 1))))

pub returns-clause-cost : goal.returns-clause-cost
returns-clause-cost g c = λ branch.
    owes_within c.args.groups.now
    (items_pieces (book_of g.R.Rule.handles g.R.Rule.answers c.args.book.now.rules.items)
    (versions_in c.args.groups.now) c.args.route.now.asked c.args.route.now.parts.items
    (borrowed c.args.references.now) (test c.args.cond.now) branch c.loop-item.item-index
    (drop c.loop-item.item-index c.args.from.now)) c.loop-item.steps
    (c.args.steps.now + reads_of c.args.groups.now (alive_of
    (items_pieces (book_of g.R.Rule.handles g.R.Rule.answers c.args.book.now.rules.items)
    (versions_in c.args.groups.now) c.args.route.now.asked c.args.route.now.parts.items
    (borrowed c.args.references.now) (test c.args.cond.now) branch 0 c.args.from.now)))
    (c.loop-item.invariant.count branch)

pub returns-clause-borrowed : goal.returns-clause-borrowed
returns-clause-borrowed g c = λ branch by_branch h.
    (c.loop-item.invariant.all_borrowed branch by_branch h).0

pub returns-clause-least : goal.returns-clause-least
returns-clause-least g c = λ branch e h.
    let rs : List ColRef = borrowed c.args.references.now in
    let cd : Test = test c.args.cond.now in
    all_read c.args.groups.now c.args.steps.now c.loop-item.steps e
    (subst (λ (from : List Item). IsLeftOrRead c.args.groups.now
    (items_pieces (book_of g.R.Rule.handles g.R.Rule.answers c.args.book.now.rules.items)
    (versions_in c.args.groups.now) c.args.route.now.asked c.args.route.now.parts.items rs cd
    branch c.loop-item.item-index from) c.args.steps.now c.loop-item.steps e)
    (drop_all c.loop-item.item-index c.args.from.now c.loop-item-test.false)
    (c.loop-item.invariant.least branch e h))
