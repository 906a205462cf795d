-- What tallies tell of rows, and how counts change.
use Rattle.std.specs.Prelude.{◌≡◌, ℕ, ◌<◌, ℤ, pos, ◌+ℤ◌, Bool, true, false, cond, List, length}
use Rattle.std.specs.Prelude.{Option, Some}
use Rattle.std.proofs.Common.{refl, sym, ap, subst, ◌∙◌, arith}
use Rattle.std.proofs.lemmas.Int.{ints}
use Rattle.std.specs.Option.{unwrap_or}
use Rattle.std.specs.Ordering.{is_eq}
use Rattle.std.specs.declared.cmp.Ordering.{Ordering}
use Rattle.std.specs.declared.cmp.Ordering.TheVariants.{Less, Equal, Greater}
use Rattle.std.specs.BTreeMap as tree
use Rattle.relations_spec.proofs.SetLaws.{cmp_itself}
use Rattle.prima_base.specs.declared.value.Value.{Value}
use Rattle.prima_base.specs.Order.{value_cmp}
use Rattle.time_aggregate.specs.KeyLaws.{value_exact}
use Rattle.temporal_lang_types.specs.declared.agg_item.AggItem.{AggItem}
use Rattle.temporal_lang_types.specs.declared.agg_item.AggItem.TheVariants.{Min, Max, Sum}
use Rattle.time_aggregate.specs.declared.tally.Tally.{Tally}
use Rattle.prima_base.specs.Groups.{one, sum}
use Rattle.time_aggregate.specs.Aggregates.{Row, amount_of, total_by}
use Rattle.time_aggregate.specs.Turns.{signed}
use Rattle.time_aggregate.specs.Tallies.{TellsOf, weight, has_value, is_value, counted}
use Rattle.time_aggregate.proofs.ValueLaws.{total_cells, least_is, greatest_is, some_counted}

module _ (t : Tally) (place : ℕ) (rows : List Row) (p : TellsOf rows t) where
  pub sum_told : t.item ≡ Sum place → sum t.sum ≡ amount_of t.item rows
  sum_told e =
      let s = subst (λ (w : AggItem). t.sum ≡ total_by (weight w) rows) e p.sum in
      subst (λ (w : AggItem). sum t.sum ≡ amount_of w rows) (sym e)
      (ap sum (s ∙ sym (total_cells place rows)))

  counts_of : (i : AggItem) → t.item ≡ i → (v : Value)
      → counted t.counts v ≡ total_by (has_value i v) rows
  counts_of i e v = subst (λ (w : AggItem). counted t.counts v ≡ total_by (has_value w v) rows) e
      (p.counts v)

  pub min_told : t.item ≡ Min place → (v : Value) (n : ℤ)
      → tree.get value_cmp t.counts v ≡ Some n → tree.IsLowerBound value_cmp t.counts v
      → one v ≡ amount_of t.item rows
  min_told e v n g b = subst (λ (w : AggItem). one v ≡ amount_of w rows) (sym e)
      (ap one (least_is t.counts place rows (counts_of (Min place) e) p.zero v n g b))

  pub max_told : t.item ≡ Max place → (v : Value) (n : ℤ)
      → tree.get value_cmp t.counts v ≡ Some n → tree.IsUpperBound value_cmp t.counts v
      → one v ≡ amount_of t.item rows
  max_told e v n g b = subst (λ (w : AggItem). one v ≡ amount_of w rows) (sym e)
      (ap one (greatest_is t.counts place rows (counts_of (Max place) e) p.zero v n g b))

  pub min_there : t.item ≡ Min place → 0 < length rows → 0 < tree.btree_map_len t.counts
  min_there e h = some_counted t.counts place rows (counts_of (Min place) e) p.zero h

  pub max_there : t.item ≡ Max place → 0 < length rows → 0 < tree.btree_map_len t.counts
  max_there e h = some_counted t.counts place rows (counts_of (Max place) e) p.zero h

-- a count after the value of a key has turned
pub count_turned : (key v : Value) (opens : Bool) (before : Value → Option ℤ) (after w : Option ℤ)
    (count : ℤ) → after ≡ cond (is_eq (value_cmp key v)) w (before v)
    → unwrap_or w (pos 0) ≡ count
    → count ≡ unwrap_or (before key) (pos 0) +ℤ signed opens (pos 1)
    → unwrap_or after (pos 0) ≡ unwrap_or (before v) (pos 0) +ℤ signed opens (is_value v key)
count_turned key v opens before after w count a b c = step (value_cmp key v) refl a
  where
    apart : is_eq (value_cmp v key) ≡ false → after ≡ before v
        → unwrap_or after (pos 0) ≡ unwrap_or (before v) (pos 0) +ℤ signed opens (is_value v key)
    apart e g = rw (g, e) (elim opens as (λ (o : Bool). unwrap_or (before v) (pos 0)
        ≡ unwrap_or (before v) (pos 0) +ℤ signed o (pos 0)) [
          | true ↦ omega (arith, ints)
          | false ↦ omega (arith, ints)
        ])

    not_back : (o : Ordering) → value_cmp v key ≡ o → (key ≡ v → ⊥) → is_eq o ≡ false
    not_back Less q d = refl
    not_back Equal q d = absurd (d (sym (value_exact.same v key q)))
    not_back Greater q d = refl

    step : (o : Ordering) → value_cmp key v ≡ o → after ≡ cond (is_eq o) w (before v)
        → unwrap_or after (pos 0) ≡ unwrap_or (before v) (pos 0) +ℤ signed opens (is_value v key)
    step Less q g = apart (not_back (value_cmp v key) refl (λ e. value_exact.apart key
        (subst (λ (x : Value). value_cmp key x ≡ Less) (sym e) q))) g
    step Equal q g =
        let e = value_exact.same key v q in
        let k : is_eq (value_cmp v key) ≡ true = subst (λ (x : Value).
        is_eq (value_cmp x key) ≡ true) e (rw (cmp_itself value_cmp value_exact key) refl) in
        rw (g, b, c, k) (ap (λ (x : Value). unwrap_or (before x) (pos 0) +ℤ signed opens (pos 1)) e)
    step Greater q g = apart (not_back (value_cmp v key) refl (λ e. value_exact.apart key
        (value_exact.turn key key (subst (λ (x : Value). value_cmp key x ≡ Greater) (sym e) q)))) g
