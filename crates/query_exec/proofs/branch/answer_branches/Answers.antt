use Rattle.std.proofs.Common.{◌≡◌, ◌<◌, ◌+◌, ℕ, List, length, get_or, drop, sym, ap, subst, ◌∙◌}
use Rattle.std.proofs.Common.{inl, arith}
use Rattle.std.proofs.lemmas.List.{take_all, drop_all}
use Rattle.relations_spec.specs.Sets.{In}
use Rattle.prima_base.specs.declared.timed_row.TimedRow.{TimedRow}
use Rattle.prima_base.specs.Timed.{rows_at}
use Rattle.smo_ops_spec.specs.Past.{tables_of}
use Rattle.smo_ops_versions_spec.specs.Migration.{migrated}
use Rattle.version_groups.specs.Groups.{versions_in}
use Rattle.plain_answers_spec.specs.Branches.{plain, branch_answers}
use Rattle.piece_ir_spec.specs.Books.{book_of}
use Rattle.temporal_lang_types.specs.Branches.{branch_of, branches_of}
use Rattle.temporal_lang_types.specs.declared.branch.Branch.{Branch}
use Rattle.query_exec.specs.QueryPieces.{branches_pieces, alive_of}
use Rattle.query_exec.specs.Borrowed.{AlwaysBorrowedBy, AllSpare}
use Rattle.query_exec.specs.Reads.{reads_of}
use Rattle.query_exec.proofs.AliveLaws.{Owes, owes_all, owes_within, IsLeftOrRead, all_read}
use Rattle.query_exec.proofs.BranchRows.{none_answered, next_branch, branch_owes, branch_left}
use Rattle.query_exec.proofs.BranchRows.{may_next_branch}
use Rattle.query_exec.proofs.BorrowedRows.{next_branch as next_branch_pieces, branch_more}
use Rattle.query_exec.proofs.BorrowedRows.{row_answered}
use Rattle.query_exec.proofs.TotalLaws.{from_first}
use Rattle.query_exec.proofs.branch.answer_branches.Goals as goal

pub loop-branch-init : goal.loop-branch-init
loop-branch-init g c = record {
  may = c.requires.read;
  rows = λ past represents m inside. ap (λ (rs : List TimedRow). rows_at rs m)
      c.new-rows.ensures
      ∙ none_answered (branch_answers (tables_of past c.args.route.now.asked)
      (migrated past m c.args.route.now.asked)) m;
  borrowed = λ past represents number by_branch h.
      let e : number ≡ number + 0 = omega arith in (
        subst (AlwaysBorrowedBy past c.args.route.now.asked by_branch number
            (branches_of c.args.branches.now)) (sym c.new-rows.ensures)
            (λ row m. absurd m),
        subst (λ (n : ℕ). AllSpare c.args.groups.now by_branch
            (branches_pieces (book_of g.R.Rule.handles g.R.Rule.answers c.args.book.now.rules.items)
            (versions_in c.args.groups.now) c.args.route.now.asked
            c.args.route.now.parts.items n (branches_of c.args.branches.now))) e h,
      );
  count = λ number.
      let e : number ≡ number + 0 = omega arith in
      subst (λ (n : ℕ). Owes c.args.groups.now
      (branches_pieces (book_of g.R.Rule.handles g.R.Rule.answers c.args.book.now.rules.items)
      (versions_in c.args.groups.now) c.args.route.now.asked c.args.route.now.parts.items n
      (branches_of c.args.branches.now)) c.args.steps.now
      (c.args.steps.now + reads_of c.args.groups.now (alive_of
      (branches_pieces (book_of g.R.Rule.handles g.R.Rule.answers c.args.book.now.rules.items)
      (versions_in c.args.groups.now) c.args.route.now.asked c.args.route.now.parts.items number
      (branches_of c.args.branches.now))))) e
      (owes_all c.args.groups.now
      (branches_pieces (book_of g.R.Rule.handles g.R.Rule.answers c.args.book.now.rules.items)
      (versions_in c.args.groups.now) c.args.route.now.asked c.args.route.now.parts.items number
      (branches_of c.args.branches.now)) c.args.steps.now);
  least = λ number e h.
      let s : number ≡ number + 0 = omega arith in
      inl (subst (λ (n : ℕ). In e (alive_of
      (branches_pieces (book_of g.R.Rule.handles g.R.Rule.answers c.args.book.now.rules.items)
      (versions_in c.args.groups.now) c.args.route.now.asked c.args.route.now.parts.items n
      (branches_of c.args.branches.now)))) s h);
  rises = omega arith;
}

pub answer_branch-requires-clause-read : goal.answer_branch-requires-clause-read
answer_branch-requires-clause-read g c =
    let bs : List Branch = c.args.branches.now in
    let i : ℕ = c.loop-branch.branch-index in
    let b : Branch = c.branch-item.result in
    let below : i < length bs = c.loop-branch-test.true in
    let is : b ≡ get_or bs i b = c.branch-item.is in
    (may_next_branch bs i b below is (versions_in c.args.groups.now) c.args.route.now
    c.loop-branch.invariant.may).0

pub loop-branch-preserved : goal.loop-branch-preserved
loop-branch-preserved g c =
    let bs : List Branch = c.args.branches.now in
    let i : ℕ = c.loop-branch.branch-index in
    let b : Branch = c.branch-item.result in
    let below : i < length bs = c.loop-branch-test.true in
    let is : b ≡ get_or bs i b = c.branch-item.is in
    record {
      may = (may_next_branch bs i b below is (versions_in c.args.groups.now) c.args.route.now
          c.loop-branch.invariant.may).1;
      rows = λ past represents m inside.
          next_branch bs i b below is (tables_of past c.args.route.now.asked)
          (migrated past m c.args.route.now.asked) c.loop-branch.rows.items
          c.in_ok-news.news.items c.put_rows.new.rows.items m c.in_ok-put_rows.ensures.items
          (c.loop-branch.invariant.rows past represents m inside)
          (c.in_ok-news.ensures.rows past represents m inside);
      borrowed = λ past represents number by_branch h.
          let before = c.loop-branch.invariant.borrowed past represents number by_branch h in
          let both = next_branch_pieces c.args.groups.now by_branch
          (book_of g.R.Rule.handles g.R.Rule.answers c.args.book.now.rules.items)
          c.args.route.now.asked c.args.route.now.parts.items bs i
          b below is number before.1 in (
            branch_more past c.args.route.now.asked by_branch number bs i b below is
                c.loop-branch.rows.items c.in_ok-news.news.items c.put_rows.new.rows.items
                c.in_ok-put_rows.ensures.items before.0
                (row_answered past c.args.route.now.asked c.args.route.now.slice (branch_of b)
                c.in_ok-news.news.items (c.in_ok-news.ensures.rows past represents)
                c.in_ok-news.ensures.inside)
                (c.in_ok-news.ensures.borrowed (number + i) by_branch both.0),
            both.1,
          );
      count = λ number. branch_owes bs i b below is c.args.groups.now
          (book_of g.R.Rule.handles g.R.Rule.answers c.args.book.now.rules.items)
          (versions_in c.args.groups.now) c.args.route.now.asked c.args.route.now.parts.items number
          c.loop-branch.steps (c.args.steps.now + reads_of c.args.groups.now (alive_of
          (branches_pieces (book_of g.R.Rule.handles g.R.Rule.answers c.args.book.now.rules.items)
          (versions_in c.args.groups.now) c.args.route.now.asked c.args.route.now.parts.items number
          (branches_of bs)))) c.answer_branch.new.steps
          (c.loop-branch.invariant.count number) (c.answer_branch.ensures.cost (number + i));
      least = λ number e h. branch_left bs i b below is c.args.groups.now
          (book_of g.R.Rule.handles g.R.Rule.answers c.args.book.now.rules.items)
          (versions_in c.args.groups.now) c.args.route.now.asked c.args.route.now.parts.items number
          c.args.steps.now c.loop-branch.steps c.answer_branch.new.steps e
          c.loop-branch.invariant.rises c.answer_branch.ensures.rises
          (c.loop-branch.invariant.least number e h)
          (λ k. c.in_ok-news.ensures.least (number + i) e k);
      rises = from_first c.args.steps.now c.loop-branch.steps c.answer_branch.new.steps
          c.loop-branch.invariant.rises c.answer_branch.ensures.rises;
    }

pub returns-in_err-news-clause-cost : goal.returns-in_err-news-clause-cost
returns-in_err-news-clause-cost g c =
    let bs : List Branch = c.args.branches.now in
    let i : ℕ = c.loop-branch.branch-index in
    let b : Branch = c.branch-item.result in
    let below : i < length bs = c.loop-branch-test.true in
    let is : b ≡ get_or bs i b = c.branch-item.is in
    λ number.
    owes_within c.args.groups.now
    (branches_pieces (book_of g.R.Rule.handles g.R.Rule.answers c.args.book.now.rules.items)
    (versions_in c.args.groups.now) c.args.route.now.asked c.args.route.now.parts.items
    (number + (i + 1)) (branches_of (drop (i + 1) bs))) c.answer_branch.new.steps
    (c.args.steps.now + reads_of c.args.groups.now (alive_of
    (branches_pieces (book_of g.R.Rule.handles g.R.Rule.answers c.args.book.now.rules.items)
    (versions_in c.args.groups.now) c.args.route.now.asked c.args.route.now.parts.items number
    (branches_of bs))))
    (branch_owes bs i b below is c.args.groups.now
    (book_of g.R.Rule.handles g.R.Rule.answers c.args.book.now.rules.items)
    (versions_in c.args.groups.now) c.args.route.now.asked c.args.route.now.parts.items number
    c.loop-branch.steps (c.args.steps.now + reads_of c.args.groups.now (alive_of
    (branches_pieces (book_of g.R.Rule.handles g.R.Rule.answers c.args.book.now.rules.items)
    (versions_in c.args.groups.now) c.args.route.now.asked c.args.route.now.parts.items number
    (branches_of bs)))) c.answer_branch.new.steps
    (c.loop-branch.invariant.count number) (c.answer_branch.ensures.cost (number + i)))

pub returns-in_err-put_rows-clause-cost : goal.returns-in_err-put_rows-clause-cost
returns-in_err-put_rows-clause-cost g c =
    let bs : List Branch = c.args.branches.now in
    let i : ℕ = c.loop-branch.branch-index in
    let b : Branch = c.branch-item.result in
    let below : i < length bs = c.loop-branch-test.true in
    let is : b ≡ get_or bs i b = c.branch-item.is in
    λ number.
    owes_within c.args.groups.now
    (branches_pieces (book_of g.R.Rule.handles g.R.Rule.answers c.args.book.now.rules.items)
    (versions_in c.args.groups.now) c.args.route.now.asked c.args.route.now.parts.items
    (number + (i + 1)) (branches_of (drop (i + 1) bs))) c.answer_branch.new.steps
    (c.args.steps.now + reads_of c.args.groups.now (alive_of
    (branches_pieces (book_of g.R.Rule.handles g.R.Rule.answers c.args.book.now.rules.items)
    (versions_in c.args.groups.now) c.args.route.now.asked c.args.route.now.parts.items number
    (branches_of bs))))
    (branch_owes bs i b below is c.args.groups.now
    (book_of g.R.Rule.handles g.R.Rule.answers c.args.book.now.rules.items)
    (versions_in c.args.groups.now) c.args.route.now.asked c.args.route.now.parts.items number
    c.loop-branch.steps (c.args.steps.now + reads_of c.args.groups.now (alive_of
    (branches_pieces (book_of g.R.Rule.handles g.R.Rule.answers c.args.book.now.rules.items)
    (versions_in c.args.groups.now) c.args.route.now.asked c.args.route.now.parts.items number
    (branches_of bs)))) c.answer_branch.new.steps
    (c.loop-branch.invariant.count number) (c.answer_branch.ensures.cost (number + i)))

pub returns-clause-rows : goal.returns-clause-rows
returns-clause-rows g c = λ past represents m inside.
    c.loop-branch.invariant.rows past represents m inside
    ∙ ap (λ (bs : List Branch). plain (tables_of past c.args.route.now.asked) (branches_of bs)
    (migrated past m c.args.route.now.asked))
    (take_all c.loop-branch.branch-index c.args.branches.now c.loop-branch-test.false)

pub returns-clause-cost : goal.returns-clause-cost
returns-clause-cost g c = λ number.
    owes_within c.args.groups.now
    (branches_pieces (book_of g.R.Rule.handles g.R.Rule.answers c.args.book.now.rules.items)
    (versions_in c.args.groups.now) c.args.route.now.asked c.args.route.now.parts.items
    (number + c.loop-branch.branch-index)
    (branches_of (drop c.loop-branch.branch-index c.args.branches.now))) c.loop-branch.steps
    (c.args.steps.now + reads_of c.args.groups.now (alive_of
    (branches_pieces (book_of g.R.Rule.handles g.R.Rule.answers c.args.book.now.rules.items)
    (versions_in c.args.groups.now) c.args.route.now.asked c.args.route.now.parts.items number
    (branches_of c.args.branches.now))))
    (c.loop-branch.invariant.count number)

pub returns-clause-borrowed : goal.returns-clause-borrowed
returns-clause-borrowed g c = λ past represents number by_branch h.
    (c.loop-branch.invariant.borrowed past represents number by_branch h).0

pub returns-clause-least : goal.returns-clause-least
returns-clause-least g c = λ number e h.
    all_read c.args.groups.now c.args.steps.now c.loop-branch.steps e
    (subst (λ (bs : List Branch). IsLeftOrRead c.args.groups.now
    (branches_pieces (book_of g.R.Rule.handles g.R.Rule.answers c.args.book.now.rules.items)
    (versions_in c.args.groups.now) c.args.route.now.asked c.args.route.now.parts.items
    (number + c.loop-branch.branch-index) (branches_of bs)) c.args.steps.now c.loop-branch.steps
    e) (drop_all c.loop-branch.branch-index c.args.branches.now c.loop-branch-test.false)
    (c.loop-branch.invariant.least number e h))
