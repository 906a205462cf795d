use Rattle.std.proofs.lemmas.Result.{IfOk-weaker}
use Rattle.std.specs.BTreeSet.{contains}
use Rattle.prima_base.specs.Order.{bytes_cmp}
use Rattle.smo_ops_widths.proofs.NamesInserted.{another, not_three}
use Rattle.smo_ops_widths.proofs.names.insert_three.Goals as goal

pub returns : goal.returns
returns c = IfOk-weaker c.insert_copy.result _ _ (λ done h. λ n f.
    let later = another n c.args.third.now (contains bytes_cmp c.insert_two.new.names n)
    (contains bytes_cmp c.insert_copy.new.names n) (h n) f in
    let earlier = c.in_ok-insert_two.ensures n later.0 in
    (earlier.0, not_three n c.args.first.now c.args.second.now c.args.third.now earlier.1 later.1))
    c.insert_copy.ensures
