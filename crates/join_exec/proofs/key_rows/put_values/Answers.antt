use Rattle.std.proofs.Common.{◌≡◌, ◌<◌, ◌∙◌, length, get_or, sym, ap, subst, arith}
use Rattle.std.proofs.lemmas.List.{length-map, length-set}
use Rattle.prima_base.specs.declared.value.Value.{Value}
use Rattle.join_exec.specs.declared.cursor.Cursor.{Cursor}
use Rattle.join_exec.specs.Entries.{Has, InTurn}
use Rattle.join_exec.specs.Walking.{left, all_left}
use Rattle.join_exec.proofs.Steps.{turn_here, value_here, left_here, rest_here, held_here}
use Rattle.join_exec.proofs.Steps.{count_here}
use Rattle.join_exec.proofs.key_rows.put_values.Goals as goal

pub put_value-requires-clause-turn : goal.put_value-requires-clause-turn
put_value-requires-clause-turn g c =
    let long = c.loop-k.invariant.long ∙ sym (length-map c.args.cursors.now left) in
    let below : c.loop-k.k < length c.loop-k.cursors = omega (arith, c.loop-k.invariant.long) in
    subst (λ (x : Cursor). InTurn (left x)) c.index-cursors-k.is
    (turn_here (all_left c.args.cursors.now) c.loop-k.cursors c.loop-k.k
    c.index-cursors-k.result long below c.index-cursors-k.is c.loop-k.invariant.rest
    c.requires.turn)

pub put_value-requires-clause-there : goal.put_value-requires-clause-there
put_value-requires-clause-there g c =
    let long = c.loop-k.invariant.long ∙ sym (length-map c.args.cursors.now left) in
    let below : c.loop-k.k < length c.loop-k.cursors = omega (arith, c.loop-k.invariant.long) in
    subst (λ (x : Cursor). (v : Value) × Has (left x) c.args.id v c.args.moment)
    c.index-cursors-k.is
    (value_here (all_left c.args.cursors.now) c.loop-k.cursors c.loop-k.k
    c.index-cursors-k.result long below c.index-cursors-k.is c.loop-k.invariant.rest
    c.args.id c.args.moment c.requires.there.0 c.requires.there.1)

pub loop-k-preserved : goal.loop-k-preserved
loop-k-preserved g c =
    let i = c.loop-k.invariant in
    let before = all_left c.args.cursors.now in
    let cursors = c.loop-k.cursors in
    let k = c.loop-k.k in
    let x = get_or cursors k c.index-cursors-k.result in
    let is : x ≡ get_or cursors k x = ap (get_or cursors k) c.index-cursors-k.is in
    let y = c.put_value.new.cursor in
    let long = i.long ∙ sym (length-map c.args.cursors.now left) in
    let below : k < length cursors = omega (arith, i.long) in
    let r = c.in_ok-ends.ensures.value in
    let a = i.held_until.later in
    let b = r.2.later in
    let until = c.min-until.result in
    record {
      long = length-set cursors k y ∙ i.long;
      done = left_here before cursors k x long below is i.rest y c.args.id c.args.moment i.done
          c.put_value.ensures.left;
      rest = rest_here before cursors k x long below is i.rest y;
      held_until = held_here before cursors k x long below is i.rest c.args.id c.args.moment
          c.loop-k.until c.in_ok-ends.ends until c.loop-k.values.items
          c.put_value.new.values.items r.0 (omega (arith, c.min-until.ensures))
          (omega (arith, c.min-until.ensures)) (omega (arith, c.min-until.ensures)) i.held_until r.1
          r.2;
      until = omega (arith, c.min-until.ensures, i.until);
      count = count_here before cursors k x long below is i.rest y c.loop-k.steps
          c.put_value.new.steps _ c.put_value.ensures.cost i.count;
      rises = omega (arith, i.rises, c.put_value.ensures.rises);
    }
