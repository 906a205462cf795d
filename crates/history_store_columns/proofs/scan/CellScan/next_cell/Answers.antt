use Rattle.std.proofs.Common.{rules, ◌≡◌, ◌<◌, length, arith, get_or, pos, subst, sym, ◌∙◌}
use Rattle.std.proofs.lemmas.Grind.{common_steps}
use Rattle.prima_base.specs.declared.value.Value.{Value}
use Rattle.prima_base.specs.declared.value.Value.TheVariants.{Int}
use Rattle.history_store_columns.specs.declared.column.StoredWrite.{StoredWrite}
use Rattle.history_store_columns.specs.Keys.{no_span}
use Rattle.history_store_columns.specs.ScanFields.{IsAt}
use Rattle.history_store_columns.specs.StoredValues.{values_in}
use Rattle.history_store_columns.specs.StoredWrites.{writes_in, nexts_of}
use Rattle.history_store_columns.proofs.ColumnWrites.{write_of, length-writes_in, next_at, write_at}
use Rattle.history_store_columns.proofs.Following.{cell_goes, scan_goes, at_goes, cell_ends}
use Rattle.history_store_columns.proofs.Following.{scan_ends}
use Rattle.history_store_columns.proofs.scan.CellScan.next_cell.Goals as goal

abbrev none : StoredWrite
none = record { id = 0; next = 0; start = 0 }

abbrev zero : Value
zero = Int (pos 0)

pub bounds-self-inside-self-inside : goal.bounds-self-inside-self-inside
bounds-self-inside-self-inside g c =
    let s = c.self.invariant.here in
    let a = c.self.inside in
    let h : a.id < length a.keys.now = grind (arith, common_steps, s.within) in
    let l = (s.here h).0 in
    let n = length-writes_in (values_in a.values.now) a.writes.now c.self.invariant.each in
    let b : a.at < length a.writes.now = omega (arith, l, n) in
    b

pub offset_bounds-self-inside-self-inside : goal.offset_bounds-self-inside-self-inside
offset_bounds-self-inside-self-inside g c =
    let b = bounds-self-inside-self-inside g c in
    search rules

pub bounds-self-inside-next : goal.bounds-self-inside-next
bounds-self-inside-next g c =
    let s = c.self.invariant.here in
    let a = c.self.inside in
    let h : a.id < length a.keys.now = grind (arith, common_steps, s.within) in
    let l = (s.here h).0 in
    let n = length-writes_in (values_in a.values.now) a.writes.now c.self.invariant.each in
    let b : a.at < length a.writes.now = omega (arith, l, n) in
    let next : get_or (nexts_of a.writes.now) a.at 0 ≡ (get_or a.writes.now a.at none).next =
    next_at a.writes.now a.at none b in
    let m = (s.chain.goes a.at l (λ z. c.if-next-ne0.true (sym next ∙ z))).0 in
    let q : (get_or a.writes.now a.at none).next < length
    (writes_in (values_in a.values.now) a.writes.now) =
    subst (λ k. k < length (writes_in (values_in a.values.now) a.writes.now)) next m in
    omega (arith, q, n)

pub offset_bounds-self-inside-next : goal.offset_bounds-self-inside-next
offset_bounds-self-inside-next g c =
    let b = bounds-self-inside-next g c in
    search rules

pub lend-value-requires : goal.lend-value-requires
lend-value-requires g c =
    let s = c.self.invariant.here in
    let a = c.self.inside in
    let h : a.id < length a.keys.now = grind (arith, common_steps, s.within) in
    let l = (s.here h).0 in
    let n = length-writes_in (values_in a.values.now) a.writes.now c.self.invariant.each in
    let b : a.at < length a.writes.now = omega (arith, l, n) in
    let m = c.self.invariant.each in
    omega (arith, b, m)

pub invariant_of-self : goal.invariant_of-self
invariant_of-self g c =
    let s = c.self.invariant.here in
    let a = c.self.inside in
    let h : a.id < length a.keys.now = grind (arith, common_steps, s.within) in
    let l = (s.here h).0 in
    let n = length-writes_in (values_in a.values.now) a.writes.now c.self.invariant.each in
    let b : a.at < length a.writes.now = omega (arith, l, n) in
    let next : get_or (nexts_of a.writes.now) a.at 0 ≡ (get_or a.writes.now a.at none).next =
    next_at a.writes.now a.at none b in
    let w = write_of zero none in
    record {
      each = c.self.invariant.each;
      here = subst (λ k. IsAt a.id k a.keys.now a.first.now (nexts_of a.writes.now)
          (writes_in (values_in a.values.now) a.writes.now)) next
          (at_goes a.id a.at a.keys.now a.first.now (nexts_of a.writes.now)
          (writes_in (values_in a.values.now) a.writes.now) w w s h
          (λ z. c.if-next-ne0.true (sym next ∙ z)));
    }

pub period_of-period-requires : goal.period_of-period-requires
period_of-period-requires g c =
    let s = c.self.invariant.here in
    let a = c.self.inside in
    let h : a.id < length a.keys.now = grind (arith, common_steps, s.within) in
    let l = (s.here h).0 in
    let n = length-writes_in (values_in a.values.now) a.writes.now c.self.invariant.each in
    let b : a.at < length a.writes.now = omega (arith, l, n) in
    let next : get_or (nexts_of a.writes.now) a.at 0 ≡ (get_or a.writes.now a.at none).next =
    next_at a.writes.now a.at none b in
    let w = write_of zero none in
    rw (
      write_at (values_in a.values.now) a.writes.now a.at zero none c.self.invariant.each,
      write_at (values_in a.values.now) a.writes.now (get_or (nexts_of a.writes.now) a.at 0) zero
          none c.self.invariant.each,
      next,
    ) at (cell_goes a.id a.at a.keys.now a.first.now
    (nexts_of a.writes.now) (writes_in (values_in a.values.now) a.writes.now) w w s h
    (λ z. c.if-next-ne0.true (sym next ∙ z)))

pub returns-then-next-ne0-clause-entries : goal.returns-then-next-ne0-clause-entries
returns-then-next-ne0-clause-entries g c =
    let s = c.self.invariant.here in
    let a = c.self.inside in
    let h : a.id < length a.keys.now = grind (arith, common_steps, s.within) in
    let l = (s.here h).0 in
    let n = length-writes_in (values_in a.values.now) a.writes.now c.self.invariant.each in
    let b : a.at < length a.writes.now = omega (arith, l, n) in
    let next : get_or (nexts_of a.writes.now) a.at 0 ≡ (get_or a.writes.now a.at none).next =
    next_at a.writes.now a.at none b in
    let w = write_of zero none in
    let all = rw (
      write_at (values_in a.values.now) a.writes.now a.at zero none
          c.self.invariant.each,
      write_at (values_in a.values.now) a.writes.now
          (get_or (nexts_of a.writes.now) a.at 0) zero none c.self.invariant.each,
      next,
    ) at
    (scan_goes a.id a.at a.keys.now a.first.now (nexts_of a.writes.now)
    (writes_in (values_in a.values.now) a.writes.now) w w s h
    (λ z. c.if-next-ne0.true (sym next ∙ z))) in
    rw (← c.self.view_is, c.lend-value.ensures.value zero, c.period_of-period.ensures) all

pub period_of-period-requires-2 : goal.period_of-period-requires-2
period_of-period-requires-2 g c =
    let s = c.self.invariant.here in
    let a = c.self.inside in
    let h : a.id < length a.keys.now = grind (arith, common_steps, s.within) in
    let l = (s.here h).0 in
    let n = length-writes_in (values_in a.values.now) a.writes.now c.self.invariant.each in
    let b : a.at < length a.writes.now = omega (arith, l, n) in
    let next : get_or (nexts_of a.writes.now) a.at 0 ≡ (get_or a.writes.now a.at none).next =
    next_at a.writes.now a.at none b in
    let w = write_of zero none in
    let e : (get_or a.keys.now a.id no_span).end ≡ c.end.result = grind (arith, common_steps) in
    subst (λ m. (get_or a.writes.now a.at none).start < m) e
    (rw (write_at (values_in a.values.now) a.writes.now a.at zero none c.self.invariant.each) at
    (cell_ends a.id a.at a.keys.now a.first.now (nexts_of a.writes.now)
    (writes_in (values_in a.values.now) a.writes.now) w w s h (next ∙ c.if-next-ne0.false)))

pub returns-clause-entries : goal.returns-clause-entries
returns-clause-entries g c =
    let s = c.self.invariant.here in
    let a = c.self.inside in
    let h : a.id < length a.keys.now = grind (arith, common_steps, s.within) in
    let l = (s.here h).0 in
    let n = length-writes_in (values_in a.values.now) a.writes.now c.self.invariant.each in
    let b : a.at < length a.writes.now = omega (arith, l, n) in
    let next : get_or (nexts_of a.writes.now) a.at 0 ≡ (get_or a.writes.now a.at none).next =
    next_at a.writes.now a.at none b in
    let w = write_of zero none in
    let e : c.end.result ≡ (get_or a.keys.now a.id no_span).end = grind (arith, common_steps) in
    let all = rw (write_at (values_in a.values.now) a.writes.now a.at zero none
    c.self.invariant.each) at (scan_ends a.id a.at a.keys.now a.first.now
    (nexts_of a.writes.now) (writes_in (values_in a.values.now) a.writes.now) w w s h
    (next ∙ c.if-next-ne0.false)) in
    rw (
      ← c.self.view_is,
      c.lend-value.ensures.value zero,
      c.period_of-period-2.ensures,
      e,
      c.first_of-self-inside.ensures,
    ) all
