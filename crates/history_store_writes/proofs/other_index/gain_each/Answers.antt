use Rattle.std.proofs.Common.{rules, get_or, ◌≡◌, ◌<◌, ◌∙◌, length, arith, sym, subst}
use Rattle.std.proofs.lemmas.Grind.{common_steps}
use Rattle.relations_spec.specs.Sets.{In}
use Rattle.history_store_writes.specs.ValueIndexes.{Indexed, IsIndexPrepared, IsGaining}
use Rattle.history_store_value_order.specs.ByValue.{ids_handed}
use Rattle.history_store_writes.proofs.Others.{one_more, others_rest}
use Rattle.history_store_writes.proofs.other_index.gain_each.Goals as goal

pub gain-requires-clause-new : goal.gain-requires-clause-new
gain-requires-clause-new c = λ q d i.
    let w = c.loop-k.invariant in
    let was : c.index_mut.result.now ≡ get_or c.loop-k.others.items c.loop-k.k
    c.index_mut.result.now = search rules in
    let h : c.loop-k.k < length c.loop-k.others.items = grind (arith, common_steps) in
    let is : c.index_mut.result.now ≡ get_or c.args.others.now.items c.loop-k.k
    c.index_mut.result.now = was ∙ w.rest c.loop-k.k c.index_mut.result.now (omega arith) in
    let b : c.loop-k.k < length c.args.others.now.items = grind (arith, common_steps) in
    let ready = subst (IsIndexPrepared c.args.columns.now) (sym is)
    (c.requires.ready c.loop-k.k c.index_mut.result.now b) in
    c.requires.new q c.index_mut.result.now.column d i ready.within

pub gain-requires-clause-fresh : goal.gain-requires-clause-fresh
gain-requires-clause-fresh c = λ q i j.
    let w = c.loop-k.invariant in
    let was : c.index_mut.result.now ≡ get_or c.loop-k.others.items c.loop-k.k
    c.index_mut.result.now = search rules in
    let h : c.loop-k.k < length c.loop-k.others.items = grind (arith, common_steps) in
    let is : c.index_mut.result.now ≡ get_or c.args.others.now.items c.loop-k.k
    c.index_mut.result.now = was ∙ w.rest c.loop-k.k c.index_mut.result.now (omega arith) in
    let b : c.loop-k.k < length c.args.others.now.items = grind (arith, common_steps) in
    c.requires.fresh c.loop-k.k c.index_mut.result.now b q i
    (subst (λ (x : Indexed). In q x.ids) is j)

pub loop-k-preserved : goal.loop-k-preserved
loop-k-preserved c =
    let w = c.loop-k.invariant in
    let was : c.index_mut.result.now ≡ get_or c.loop-k.others.items c.loop-k.k
    c.index_mut.result.now = search rules in
    let h : c.loop-k.k < length c.loop-k.others.items = grind (arith, common_steps) in
    record {
      long = w.long;
      done = one_more c.args.others.now.items c.loop-k.others.items c.loop-k.k
          c.index_mut.result.now c.gain.new.self h was
          (IsGaining c.args.columns.now (ids_handed c.args.lost.now c.args.next c.args.count))
          c.gain.ensures w.done w.rest;
      rest = others_rest c.args.others.now.items c.loop-k.others.items c.loop-k.k
          c.index_mut.result.now c.gain.new.self h was w.rest;
    }
