use Rattle.std.proofs.Common.{rules, ◌≡◌, ◌∷◌, [], get_or, sym, ap, ◌∙◌, arith}
use Rattle.std.proofs.lemmas.List.{get_or_default}
use Rattle.prima_base.specs.Order.{shown}
use Rattle.history_store_columns.specs.declared.column.StoredWrite.{StoredWrite}
use Rattle.history_store_columns.specs.Log.{Write}
use Rattle.history_store_columns.specs.StoredValues.{values_in}
use Rattle.history_store_columns.proofs.ColumnWrites.{write_of, length-writes_in, write_at}
use Rattle.history_store_columns.proofs.column.Column.newest.Goals as goal

pub lend-requires : goal.lend-requires
lend-requires c =
    let a = c.self.inside in
    let e : c.index.result.now ≡ get_or a.last.items c.args.id 0 = c.index.ensures
    ∙ get_or_default a.last.items c.args.id c.index.result.now 0 (search rules) in
    let w = c.self.invariant.index.within c.args.id (search rules) in
    let n = length-writes_in (values_in a.values) a.writes.items c.self.invariant.each in
    let m = c.self.invariant.each in
    rw e (omega (arith, w, n, m))

pub returns-clause-value : goal.returns-clause-value
returns-clause-value c =
    let a = c.self.inside in
    let v = shown c.lend.result in
    let none : StoredWrite = record { id = 0; next = 0; start = 0 } in
    let e : c.index.result.now ≡ get_or a.last.items c.args.id 0 = c.index.ensures
    ∙ get_or_default a.last.items c.args.id c.index.result.now 0 (search rules) in
    rw (← c.self.view_is)
    (c.self.invariant.index.found c.args.id (write_of v none) (search rules)
    ∙ ap (λ (w : Write). w.value ∷ []) (write_at (values_in a.values) a.writes.items
    (get_or a.last.items c.args.id 0) v none c.self.invariant.each)
    ∙ ap (λ k. get_or (values_in a.values) k v ∷ []) (sym e)
    ∙ ap (λ u. u ∷ []) (sym (c.lend.ensures.value v)))
