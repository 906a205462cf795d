use Rattle.std.proofs.Common.{◌≡◌, ◌++◌, ◌∷◌, [], List, sym, ap, ◌∙◌, subst, refl, inr, arith}
use Rattle.relations_spec.specs.Spans.{Span, span}
use Rattle.relations_spec.specs.Timed.{Entry}
use Rattle.relations_spec.proofs.Held.{covers_is}
use Rattle.prima_base.specs.declared.value.Value.{Value}
use Rattle.prima_base.specs.Timed.{entries_of}
use Rattle.join_exec_spec.specs.BorrowedOutputs.{AllBorrowed}
use Rattle.prima_base_rows.specs.Rows.{row_of}
use Rattle.join_exec.specs.Walking.{all_left, AreAdded}
use Rattle.join_exec.proofs.Passing.{each_is_left, left_turn, row_left, each_left_of_left}
use Rattle.join_exec.proofs.Passing.{left_later}
use Rattle.join_exec.proofs.Adding.{added_none, added_more, held_of_left, entries_more}
use Rattle.join_exec.proofs.Adding.{all_borrowed_more}
use Rattle.join_exec.proofs.key_rows.put_rows.Goals as goal

pub moments-init : goal.moments-init
moments-init g c =
    let s = c.start-moment.ensures.start in
    let o = c.start-moment.ensures.ordered in
    record {
      from = omega (arith, s);
      to = omega (arith, s, o);
      none = c.requires.none;
      left = each_is_left c.args.id c.start-moment.result (all_left c.args.cursors.now)
          c.requires.turn;
      rows = subst (λ m. AreAdded (span c.args.period.start m) (all_left c.args.cursors.now)
          c.args.id (entries_of c.args.rows.now.items) (entries_of c.args.rows.now.items)) (sym s)
          (added_none c.args.period.start (all_left c.args.cursors.now) c.args.id
          (entries_of c.args.rows.now.items));
      borrowed = λ h. h;
      count = omega arith;
      rises = omega arith;
    }

pub put_values-requires-clause-turn : goal.put_values-requires-clause-turn
put_values-requires-clause-turn g c = left_turn c.args.id c.moments.moment
    (all_left c.args.cursors.now) (all_left c.moments.cursors) c.moments.invariant.left

pub put_values-requires-clause-there : goal.put_values-requires-clause-there
put_values-requires-clause-there g c =
    let m = c.moments.moment in
    let f = c.moments.invariant.from in
    let t = c.moments-test.true in
    let e = c.end.ensures.end in
    let r = c.requires.there m ((covers_is c.args.period m).1 (f, omega (arith, t, e))) in (
      r.0,
      row_left c.args.id m c.args.id m (all_left c.args.cursors.now)
          (all_left c.moments.cursors) r.0 (inr (refl, omega arith)) c.moments.invariant.left r.1,
    )

pub moments-preserved : goal.moments-preserved
moments-preserved g c =
    let i = c.moments.invariant in
    let before = all_left c.args.cursors.now in
    let m = c.moments.moment in
    let until = c.in_ok-until.until in
    let held_until = c.in_ok-until.ensures.values in
    let l = held_until.later in
    let f = i.from in
    let e = c.end-in-moments.ensures.end in
    let u = c.in_ok-until.ensures.until in
    let all = held_of_left c.args.id m before (all_left c.moments.cursors) until
    c.put_values.new.values.items i.left held_until in
    let p : c.between.result ≡ span m until = cc in
    let rows = c.in_ok-push_from.ensures.rows
    ∙ ap (λ (s : Span). c.moments.rows.items ++ row_of c.put_values.new.values s ∷ []) p in
    record {
      from = omega (arith, f, l);
      to = omega (arith, u, e);
      none = c.in_ok-push_from.ensures.moved;
      left = left_later c.args.id m c.args.id until before (all_left c.put_values.new.cursors)
          (inr (refl, omega (arith, l)))
          (each_left_of_left c.args.id m c.args.id m before (all_left c.moments.cursors)
          (all_left c.put_values.new.cursors) (inr (refl, omega arith)) i.left
          c.in_ok-until.ensures.left);
      rows = subst (λ (es : List (Entry (List Value))). AreAdded (span c.args.period.start until)
          before c.args.id (entries_of c.args.rows.now.items) es)
          (sym (ap entries_of rows
          ∙ entries_more c.moments.rows.items c.put_values.new.values m until))
          (added_more c.args.period.start m until before c.args.id
          (entries_of c.args.rows.now.items) (entries_of c.moments.rows.items)
          c.put_values.new.values.items f i.rows all);
      borrowed = λ h. subst AllBorrowed (sym rows)
          (all_borrowed_more c.moments.rows.items (row_of c.put_values.new.values (span m until))
          (i.borrowed h) held_until.borrowed);
      count = c.put_values.ensures.cost ∙ i.count;
      rises = omega (arith, i.rises, c.put_values.ensures.rises);
    }
