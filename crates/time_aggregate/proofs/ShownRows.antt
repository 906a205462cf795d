-- Values are compared by what they show.
use Rattle.std.proofs.Common.{◌≡◌, ◌∙◌, ℕ, ◌<◌, List, [], ◌∷◌, length, map, refl, sym, ap, get_or}
use Rattle.std.proofs.lemmas.List.{get_or-map, get_or-take, get_or-drop}
use Rattle.std.specs.Prelude.{slice_range, ◌-◌, ◌+◌, ◌≤◌, drop}
use Rattle.std.proofs.Common.{arith}
use Rattle.time_aggregate.proofs.TurnSteps.{slice_length}
use Rattle.std.proofs.Common.{subst, true, false}
use Rattle.std.specs.Ordering.{is_eq}
use Rattle.std.specs.declared.cmp.Ordering.{Ordering}
use Rattle.std.specs.declared.cmp.Ordering.TheVariants.{Less, Equal, Greater}
use Rattle.relations_spec.proofs.SetLaws.{cmp_itself}
use Rattle.prima_base.specs.declared.value.Value.{Value}
use Rattle.prima_base.specs.OrderLaws.{row_exact}
use Rattle.prima_base.specs.declared.timed_row.TimedRow.{TimedRow}
use Rattle.prima_base.specs.declared.value.Val.{Val}
use Rattle.prima_base.specs.Order.{row_cmp, shown}
use Rattle.prima_base.specs.Timed.{vals_cmp}
use Rattle.time_aggregate.specs.Turns.{rows_shown, row_at}

pub by_shown : (a b : List Val) → vals_cmp a b ≡ row_cmp (map shown a) (map shown b)
by_shown [] [] = refl
by_shown [] (y ∷ b) = refl
by_shown (x ∷ a) [] = refl
by_shown (x ∷ a) (y ∷ b) = rw (by_shown a b) refl

pub shown_at : (rows : List TimedRow) (k : ℕ) (d : TimedRow) → k < length rows
    → row_at (rows_shown rows) k ≡ map shown (get_or rows k d).values.items
shown_at rows k d h = get_or-map (λ (r : TimedRow). map shown r.values.items) rows k d [] h

-- rows that begin alike, and rows that do not
pub alike : (a b : List Value) → is_eq (row_cmp a b) ≡ true → a ≡ b
alike a b e = step (row_cmp a b) refl e
  where
    step : (o : Ordering) → row_cmp a b ≡ o → is_eq o ≡ true → a ≡ b
    step Less q h = absurd (cc)
    step Equal q h = row_exact.same a b q
    step Greater q h = absurd (cc)

pub unlike : (a b : List Value) → is_eq (row_cmp a b) ≡ false → a ≡ b → ⊥
unlike a b e h =
    let q : row_cmp a b ≡ Equal = subst (λ (w : List Value). row_cmp a w ≡ Equal) h
    (cmp_itself row_cmp row_exact a) in
    let f : is_eq (row_cmp a b) ≡ true = rw q refl in
    absurd (cc)

-- the rows of a part, by their places in the whole
pub part_at : (rows : List TimedRow) (start end k : ℕ) (d : TimedRow) → start ≤ end
    → end ≤ length rows → k < length (slice_range rows start end)
    → row_at (rows_shown rows) (start + k)
    ≡ map shown (get_or (slice_range rows start end) k d).values.items
part_at rows start end k d h l m =
    let n = slice_length rows start end h l in
    let t : get_or (slice_range rows start end) k d ≡ get_or (drop start rows) k d =
    get_or-take (end - start) (drop start rows) k d (omega arith) in
    shown_at rows (start + k) d (omega arith)
    ∙ ap (λ (r : TimedRow). map shown r.values.items) (sym (t ∙ get_or-drop start rows k d))
