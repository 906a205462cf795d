use Rattle.std.proofs.Common.{◌≡◌, ◌+◌, ◌∙◌, true, sym, subst, inl, arith}
use Rattle.std.proofs.lemmas.Result.{on_ok_weaker}
use Rattle.relations_spec.specs.Spans.{Span, covers}
use Rattle.prima_base.specs.Timed.{entries_of}
use Rattle.join_exec.specs.Walking.{all_left, AreAdded}
use Rattle.join_exec.proofs.Passing.{each_is_left, left_later}
use Rattle.join_exec.proofs.Adding.{common_some, common_none, nothing_added}
use Rattle.join_exec.proofs.key_rows.put_key.Goals as goal

pub returns-in-None-clause-left : goal.returns-in-None-clause-left
returns-in-None-clause-left g c = each_is_left (c.args.key.now.id + 1) 0
    (all_left c.args.cursors.now) c.requires.turn

pub returns-in-None-clause-rows : goal.returns-in-None-clause-rows
returns-in-None-clause-rows g c = nothing_added c.args.key.now.period c.args.slice
    (all_left c.args.cursors.now) c.args.key.now.id (entries_of c.args.rows.now.items)
    (common_none c.args.key.now.period c.args.slice (sym c.meet.ensures.common ∙ c.in-None.is))

pub put_rows-requires-clause-there : goal.put_rows-requires-clause-there
put_rows-requires-clause-there g c =
    let is = common_some c.args.key.now.period c.args.slice c.in-Some.period
    (sym c.meet.ensures.common ∙ c.in-Some.is) in
    λ m h. c.requires.there m (subst (λ (p : Span). covers p m ≡ true) is h)

pub returns-in-Some-clause-left : goal.returns-in-Some-clause-left
returns-in-Some-clause-left g c = on_ok_weaker c.put_rows.result
    (left_later c.args.key.now.id c.in-Some.period.end (c.args.key.now.id + 1) 0
    (all_left c.args.cursors.now) (all_left c.put_rows.new.cursors) (inl (omega arith)))
    c.put_rows.ensures.left

pub returns-in-Some-clause-rows : goal.returns-in-Some-clause-rows
returns-in-Some-clause-rows g c =
    let is = common_some c.args.key.now.period c.args.slice c.in-Some.period
    (sym c.meet.ensures.common ∙ c.in-Some.is) in
    on_ok_weaker c.put_rows.result
    (subst (λ (p : Span). AreAdded p (all_left c.args.cursors.now) c.args.key.now.id
    (entries_of c.args.rows.now.items) (entries_of c.put_rows.new.rows.items)) is)
    c.put_rows.ensures.rows
