use Rattle.std.proofs.Common.{rules, get_or, ◌≡◌, ◌<◌, ◌∙◌, length, arith, sym, subst}
use Rattle.std.proofs.lemmas.Grind.{common_steps}
use Rattle.relations_spec.specs.Sets.{In}
use Rattle.history_store_writes.specs.ValueIndexes.{Indexed, IsLosing}
use Rattle.history_store_writes.proofs.Others.{one_more, others_rest}
use Rattle.history_store_writes.proofs.other_index.lose_all.Goals as goal

pub lose-requires-clause-there : goal.lose-requires-clause-there
lose-requires-clause-there c = λ q i.
    let w = c.loop-k.invariant in
    let was : c.index_mut.result.now ≡ get_or c.loop-k.others.items c.loop-k.k
    c.index_mut.result.now = search rules in
    let h : c.loop-k.k < length c.loop-k.others.items = grind (arith, common_steps) in
    let is : c.index_mut.result.now ≡ get_or c.args.others.now.items c.loop-k.k
    c.index_mut.result.now = was ∙ w.rest c.loop-k.k c.index_mut.result.now (omega arith) in
    let b : c.loop-k.k < length c.args.others.now.items = grind (arith, common_steps) in
    subst (λ (x : Indexed). In q x.ids) (sym is)
    (c.requires.there c.loop-k.k c.index_mut.result.now b q i)

pub loop-k-preserved : goal.loop-k-preserved
loop-k-preserved c =
    let w = c.loop-k.invariant in
    let was : c.index_mut.result.now ≡ get_or c.loop-k.others.items c.loop-k.k
    c.index_mut.result.now = search rules in
    let h : c.loop-k.k < length c.loop-k.others.items = grind (arith, common_steps) in
    record {
      long = w.long;
      done = one_more c.args.others.now.items c.loop-k.others.items c.loop-k.k
          c.index_mut.result.now c.lose.new.self h was (IsLosing c.args.columns.now c.args.lost.now)
          c.lose.ensures w.done w.rest;
      rest = others_rest c.args.others.now.items c.loop-k.others.items c.loop-k.k
          c.index_mut.result.now c.lose.new.self h was w.rest;
    }
