-- The values of each row of the list are those of a row that was there before.
use Rattle.std.proofs.Common.{◌≡◌, ◌<◌, ℕ, Bool, true, false, List, [], ◌∷◌, refl, sym, ap, subst}
use Rattle.std.proofs.Common.{◌∙◌, inl, inr, arith}
use Rattle.std.specs.Prelude.{◌&&◌, cond, Option, Some, None, IfSome}
use Rattle.std.specs.List.{filter_map, cons_option}
use Rattle.std.specs.List.Sorted.{IsPermutation}
use Rattle.std.proofs.lemmas.List.Sorted.{IsPermutation-sym}
use Rattle.std.proofs.lemmas.Option.{same_Some}
use Rattle.relations_spec.specs.Sets.{In}
use Rattle.relations_spec.specs.Spans.{Span, common, covers}
use Rattle.relations_spec.proofs.CommonMoments.{in_common, common_lasts}
use Rattle.relations_spec.proofs.Held.{covers_is}
use Rattle.prima_base.specs.declared.timed_row.TimedRow.{TimedRow}
use Rattle.coalesce.specs.Cutting.{with_period, cut_row}
use Rattle.coalesce.specs.Joining.{touch_rows, join_rows, into, merged, HaveValuesOf}
use Rattle.coalesce.specs.Listed.{is_listing}
use Rattle.coalesce.proofs.Sorted.{in_moved}
use Rattle.coalesce.proofs.Unmoved.{lasts_each}

-- ---- the first moment of a period

first_moment : (p : Span) → p.start < p.end → covers p p.start ≡ true
first_moment p lasts = (covers_is p p.start).1 (omega arith, lasts)

of_both : (a b : Bool) → (a && b) ≡ true → a ≡ true
of_both true b e = refl
of_both false b e = absurd (cc)

-- that of the common moments of two periods is one of the first
common_start : (p q r : Span) → common p q ≡ Some r → covers p r.start ≡ true
common_start p q r e =
    let lasts : r.start < r.end = subst (λ (o : Option Span). IfSome o (λ s. s.start < s.end)) e
    (common_lasts p q) in
    let same : covers r r.start ≡ (covers p r.start && covers q r.start) =
    subst (λ (o : Option Span). IfSome o (λ s. covers s r.start
    ≡ (covers p r.start && covers q r.start))) e (in_common p q r.start) in
    of_both (covers p r.start) (covers q r.start) (sym same ∙ first_moment r lasts)

-- ---- rows with the values of another

-- one of the rows has its values, and holds at its first moment
abbrev Has : List TimedRow → TimedRow → Type 0
Has rows row = (old : TimedRow) × In old rows × (old.values.items ≡ row.values.items)
    × (covers old.period row.period.start ≡ true)

-- one of the rows has its values and its first moment
abbrev Begins : List TimedRow → TimedRow → Type 0
Begins rows row = (old : TimedRow) × In old rows × (old.values.items ≡ row.values.items)
    × (old.period.start ≡ row.period.start)

-- ---- cut to the slice

cut_has : (row cut : TimedRow) (slice : Span) → cut_row slice row ≡ Some cut
    → (row.values.items ≡ cut.values.items) × (covers row.period cut.period.start ≡ true)
cut_has row cut slice e = step (common row.period slice) refl e
  where
    step : (o : Option Span) → common row.period slice ≡ o → with_period row o ≡ Some cut
        → (row.values.items ≡ cut.values.items) × (covers row.period cut.period.start ≡ true)
    step None q k = absurd (cc)
    step (Some p) q k =
        let same = same_Some (record row { period = p }) cut k in (
          ap (λ (r : TimedRow). r.values.items) same,
          subst (λ (r : TimedRow). covers row.period r.period.start ≡ true) same
              (common_start row.period slice p q),
        )

of_cut : (slice : Span) (rows : List TimedRow) (row : TimedRow)
    → In row (filter_map (cut_row slice) rows) → Has rows row
of_cut slice [] row m = absurd m
of_cut slice (r ∷ rows) row m = step (cut_row slice r) refl (of_cut slice rows row) m
  where
    more : Has rows row → Has (r ∷ rows) row
    more h = (h.0, inr h.1, h.2, h.3)

    step : (o : Option TimedRow) → cut_row slice r ≡ o
        → (In row (filter_map (cut_row slice) rows) → Has rows row)
        → In row (cons_option o (filter_map (cut_row slice) rows)) → Has (r ∷ rows) row
    step None e rest i = more (rest i)
    step (Some y) e rest (inl s) =
        let h = cut_has r row slice (e ∙ ap Some s) in (r, inl refl, h.0, h.1)
    step (Some y) e rest (inr i) = more (rest i)

-- ---- joined

of_into : (rest : List TimedRow) (e row : TimedRow) → In row (into touch_rows join_rows e rest)
    → Begins (e ∷ rest) row
of_into [] e row m = elim m [
  | inl s ↦ (
    e,
    inl refl,
    ap (λ (x : TimedRow). x.values.items) s,
    ap (λ (x : TimedRow). x.period.start) s,
  )
  | inr i ↦ absurd i
]
of_into (f ∷ rest) e row m = step (touch_rows e f) (of_into rest (join_rows e f) row)
    (of_into rest f row) m
  where
    step : (b : Bool) → (In row (into touch_rows join_rows (join_rows e f) rest)
        → Begins (join_rows e f ∷ rest) row)
        → (In row (into touch_rows join_rows f rest) → Begins (f ∷ rest) row)
        → In row (cond b (into touch_rows join_rows (join_rows e f) rest)
        (e ∷ into touch_rows join_rows f rest)) → Begins (e ∷ f ∷ rest) row
    step true joined apart i = first (joined i)
      where
        first : Begins (join_rows e f ∷ rest) row → Begins (e ∷ f ∷ rest) row
        first h = from h.0 h.1 h.2 h.3
          where
            from : (old : TimedRow) → In old (join_rows e f ∷ rest)
                → old.values.items ≡ row.values.items → old.period.start ≡ row.period.start
                → Begins (e ∷ f ∷ rest) row
            from old (inl s) k t = (
              e,
              inl refl,
              ap (λ (x : TimedRow). x.values.items) s ∙ k,
              ap (λ (x : TimedRow). x.period.start) s ∙ t,
            )
            from old (inr j) k t = (old, inr (inr j), k, t)
    step false joined apart (inl s) = (
      e,
      inl refl,
      ap (λ (x : TimedRow). x.values.items) s,
      ap (λ (x : TimedRow). x.period.start) s,
    )
    step false joined apart (inr i) =
        let h = apart i in (h.0, inr h.1, h.2, h.3)

of_merged : (rows : List TimedRow) (row : TimedRow) → In row (merged touch_rows join_rows rows)
    → Begins rows row
of_merged [] row m = absurd m
of_merged (e ∷ rest) row m = of_into rest e row m

-- ---- all three

with_start : (before : List TimedRow) (mid row : TimedRow) → Has before mid
    → mid.values.items ≡ row.values.items → mid.period.start ≡ row.period.start → Has before row
with_start before mid row h v s =
    (h.0, h.1, h.2 ∙ v, subst (λ (m : ℕ). covers h.0.period m ≡ true) s h.3)

pub have_values : (before cut sorted after : List TimedRow) (slice : Span)
    → cut ≡ filter_map (cut_row slice) before → IsPermutation cut sorted
    → after ≡ merged touch_rows join_rows sorted → HaveValuesOf before after
have_values before cut sorted after slice c p j = λ row m.
    let a = of_merged sorted row (subst (λ (l : List TimedRow). In row l) j m) in
    let b = in_moved sorted cut (IsPermutation-sym cut sorted p) a.0 a.1 in
    let d = of_cut slice before a.0 (subst (λ (l : List TimedRow). In a.0 l) c b) in
    with_start before a.0 row d a.2 a.3

pub cut_have_values : (before cut : List TimedRow) (slice : Span)
    → cut ≡ filter_map (cut_row slice) before → HaveValuesOf before cut
cut_have_values before cut slice c = λ row m.
    of_cut slice before row (subst (λ (l : List TimedRow). In row l) c m)

pub moved_have_values : (before cut sorted : List TimedRow) (slice : Span)
    → cut ≡ filter_map (cut_row slice) before → IsPermutation cut sorted
    → HaveValuesOf before sorted
moved_have_values before cut sorted slice c p = λ row m.
    cut_have_values before cut slice c row
    (in_moved sorted cut (IsPermutation-sym cut sorted p) row m)

-- rows that are the list stay as they are
pub listed_have_values : (slice : Span) (rows : List TimedRow) → is_listing slice rows ≡ true
    → HaveValuesOf rows rows
listed_have_values slice rows h = λ row m.
    (row, m, refl, first_moment row.period (lasts_each slice rows h row m))
