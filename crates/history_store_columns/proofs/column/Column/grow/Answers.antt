use Rattle.std.proofs.Common.{rules, ◌++◌, ◌∷◌, [], refl, ap, ◌∙◌}
use Rattle.prima_base.specs.Order.{shown}
use Rattle.history_store_columns.specs.declared.column.StoredWrite.{StoredWrite}
use Rattle.history_store_columns.specs.StoredValues.{values_in}
use Rattle.history_store_columns.specs.StoredWrites.{writes_in}
use Rattle.history_store_columns.proofs.MoreWrites.{AreFields, grown}
use Rattle.history_store_columns.proofs.column.Column.grow.Goals as goal

pub invariant_of-self : goal.invariant_of-self
invariant_of-self c =
    let a = c.self.inside in
    let i = c.self.invariant in
    let one : StoredWrite = record { id = c.len-id.result; next = 0; start = c.args.start } in
    let f : AreFields (values_in a.values) a.writes.items a.first.items a.last.items =
    record { each = i.each; few = i.few; index = i.index; linked = i.linked } in
    let g = grown (values_in a.values) (values_in c.push.new.self) a.writes.items
    c.push_reserved-3.new.self.items a.first.items a.last.items c.push_reserved-2.new.self.items
    c.push_reserved.new.self.items (shown c.args.value.now) one c.len-at.result f (search rules)
    refl (search rules) c.push.ensures.values c.push_reserved-3.ensures.items
    c.push_reserved-2.ensures.items c.push_reserved.ensures.items in
    record { each = g.0.each; few = g.0.few; index = g.0.index; linked = g.0.linked }

pub returns-clause-cells : goal.returns-clause-cells
returns-clause-cells c =
    let a = c.self.inside in
    let i = c.self.invariant in
    let one : StoredWrite = record { id = c.len-id.result; next = 0; start = c.args.start } in
    let f : AreFields (values_in a.values) a.writes.items a.first.items a.last.items =
    record { each = i.each; few = i.few; index = i.index; linked = i.linked } in
    let g = grown (values_in a.values) (values_in c.push.new.self) a.writes.items
    c.push_reserved-3.new.self.items a.first.items a.last.items c.push_reserved-2.new.self.items
    c.push_reserved.new.self.items (shown c.args.value.now) one c.len-at.result f (search rules)
    refl (search rules) c.push.ensures.values c.push_reserved-3.ensures.items
    c.push_reserved-2.ensures.items c.push_reserved.ensures.items in
    rw (← c.self.view_is) (g.1 ∙ ap (λ k. writes_in (values_in a.values) a.writes.items
    ++ record { id = k; value = shown c.args.value.now; start = c.args.start } ∷ [])
    c.len-id.ensures)
