use Rattle.std.proofs.Common.{rules, ◌≡◌, ◌<◌, length, get_or, set, refl, ap, ◌∙◌, arith}
use Rattle.std.proofs.lemmas.List.{get_or_default}
use Rattle.prima_base.specs.Order.{shown}
use Rattle.history_store_columns.specs.declared.column.StoredWrite.{StoredWrite}
use Rattle.history_store_columns.specs.StoredValues.{values_in}
use Rattle.history_store_columns.proofs.ColumnWrites.{length-writes_in}
use Rattle.history_store_columns.proofs.MoreWrites.{AreFields, changed}
use Rattle.history_store_columns.proofs.column.Column.change.Goals as goal

pub index_mut-requires : goal.index_mut-requires
index_mut-requires c =
    let a = c.self.inside in
    let i = c.self.invariant in
    let before : c.index.result.now ≡ get_or a.last.items c.args.id 0 = c.index.ensures
    ∙ get_or_default a.last.items c.args.id c.index.result.now 0 (search rules) in
    let w = i.index.within c.args.id (search rules) in
    let n = length-writes_in (values_in a.values) a.writes.items i.each in
    let b : c.index.result.now < length a.writes.items = rw before (omega (arith, w, n)) in
    search rules

pub invariant_of-self : goal.invariant_of-self
invariant_of-self c =
    let a = c.self.inside in
    let i = c.self.invariant in
    let before : c.index.result.now ≡ get_or a.last.items c.args.id 0 = c.index.ensures
    ∙ get_or_default a.last.items c.args.id c.index.result.now 0 (search rules) in
    let w = i.index.within c.args.id (search rules) in
    let n = length-writes_in (values_in a.values) a.writes.items i.each in
    let b : c.index.result.now < length a.writes.items = rw before (omega (arith, w, n)) in
    let one : StoredWrite = record { id = c.args.id; next = 0; start = c.args.start } in
    let was = c.index_mut.result.now in
    let linked : StoredWrite = record { id = was.id; next = c.len-at.result; start = was.start } in
    let is : was ≡ get_or a.writes.items c.index.result.now was = search rules in
    let there = is ∙ get_or_default a.writes.items c.index.result.now was linked b in
    let f : AreFields (values_in a.values) a.writes.items a.first.items a.last.items =
    record { each = i.each; few = i.few; index = i.index; linked = i.linked } in
    let g = changed (values_in a.values) (values_in c.push.new.self) a.writes.items
    c.push_reserved.new.self.items a.first.items a.last.items
    (set a.last.items c.args.id c.len-at.result) (shown c.args.value.now) one linked
    c.index.result.now c.len-at.result f (search rules) refl (search rules) before
    (ap (λ (x : StoredWrite). x.id) there) (ap (λ (x : StoredWrite). x.start) there) refl
    c.push.ensures.values c.push_reserved.ensures.items refl in
    record { each = g.0.each; few = g.0.few; index = g.0.index; linked = g.0.linked }

pub returns-clause-cells : goal.returns-clause-cells
returns-clause-cells c =
    let a = c.self.inside in
    let i = c.self.invariant in
    let before : c.index.result.now ≡ get_or a.last.items c.args.id 0 = c.index.ensures
    ∙ get_or_default a.last.items c.args.id c.index.result.now 0 (search rules) in
    let w = i.index.within c.args.id (search rules) in
    let n = length-writes_in (values_in a.values) a.writes.items i.each in
    let b : c.index.result.now < length a.writes.items = rw before (omega (arith, w, n)) in
    let one : StoredWrite = record { id = c.args.id; next = 0; start = c.args.start } in
    let was = c.index_mut.result.now in
    let linked : StoredWrite = record { id = was.id; next = c.len-at.result; start = was.start } in
    let is : was ≡ get_or a.writes.items c.index.result.now was = search rules in
    let there = is ∙ get_or_default a.writes.items c.index.result.now was linked b in
    let f : AreFields (values_in a.values) a.writes.items a.first.items a.last.items =
    record { each = i.each; few = i.few; index = i.index; linked = i.linked } in
    let g = changed (values_in a.values) (values_in c.push.new.self) a.writes.items
    c.push_reserved.new.self.items a.first.items a.last.items
    (set a.last.items c.args.id c.len-at.result) (shown c.args.value.now) one linked
    c.index.result.now c.len-at.result f (search rules) refl (search rules) before
    (ap (λ (x : StoredWrite). x.id) there) (ap (λ (x : StoredWrite). x.start) there) refl
    c.push.ensures.values c.push_reserved.ensures.items refl in
    rw (← c.self.view_is) g.1
