use Rattle.std.proofs.lemmas.Result.{IfOk-weaker}
use Rattle.std.specs.BTreeSet.{contains}
use Rattle.prima_base.specs.Order.{bytes_cmp}
use Rattle.smo_ops_widths.proofs.NamesInserted.{another, not_two}
use Rattle.smo_ops_widths.proofs.names.insert_two.Goals as goal

pub returns : goal.returns
returns c = IfOk-weaker c.insert_copy-2.result _ _ (λ done h. λ n f.
    let first = c.args.first.now in
    let second = c.args.second.now in
    let later = another n second (contains bytes_cmp c.insert_copy.new.names n)
    (contains bytes_cmp c.insert_copy-2.new.names n) (h n) f in
    let earlier = another n first (contains bytes_cmp c.args.names.now n)
    (contains bytes_cmp c.insert_copy.new.names n) (c.in_ok-insert_copy.ensures n) later.0 in
    (earlier.0, not_two n first second earlier.1 later.1)) c.insert_copy-2.ensures
