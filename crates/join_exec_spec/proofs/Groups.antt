-- Rows put into groups.
use Rattle.std.proofs.Common.{◌≡◌, Bool, true, false, List, [], ◌∷◌, ◌++◌, refl, sym, ap, ◌∙◌}
use Rattle.std.specs.Prelude.{cond, Option, Some, None}
use Rattle.std.specs.Ordering.{is_eq}
use Rattle.std.specs.List.{filter}
use Rattle.std.specs.declared.cmp.Ordering.{Ordering}
use Rattle.std.specs.declared.cmp.Ordering.TheVariants.{Less, Equal, Greater}
use Rattle.std.proofs.lemmas.List.{append-nil}
use Rattle.std.proofs.lemmas.List.Elements.{filter-append}
use Rattle.relations_spec.specs.Timed.{Entry}
use Rattle.prima_base.specs.declared.value.Value.{Value}
use Rattle.prima_base.specs.declared.timed_row.TimedRow.{TimedRow}
use Rattle.prima_base.specs.Order.{row_cmp}
use Rattle.prima_base.specs.OrderLaws.{row_exact}
use Rattle.prima_base.specs.Timed.{entry_of, entries_of}
use Rattle.join_exec_spec.specs.Keeping.{in_group}

pub row_same : (a b : List Value) → is_eq (row_cmp a b) ≡ true → a ≡ b
row_same a b e = step (row_cmp a b) refl e
  where
    step : (o : Ordering) → row_cmp a b ≡ o → is_eq o ≡ true → a ≡ b
    step Less q h = absurd (cc)
    step Equal q h = row_exact.same a b q
    step Greater q h = absurd (cc)

-- taken out and put in again with the row
pub put_in_group : (b : Bool) (old taken back : Option (List TimedRow)) (group more : List TimedRow)
    (row : TimedRow) → (b ≡ true → in_group old ≡ group)
    → taken ≡ cond b None old → more ≡ group ++ row ∷ [] → back ≡ cond b (Some more) taken
    → in_group back ≡ in_group old ++ cond b (row ∷ []) []
put_in_group true old taken back group more row h e p f = ap in_group f ∙ p
    ∙ ap (λ (g : List TimedRow). g ++ row ∷ []) (sym (h refl))
put_in_group false old taken back group more row h e p f = ap in_group (f ∙ e)
    ∙ sym (append-nil (in_group old))

-- one more that passes, or not
pub kept_more : {X : Type 0} (p : X → Bool) (rows : List X) (row : X) (b : Bool)
    (kept more : List X) → b ≡ p row
    → kept ≡ filter p rows → more ≡ kept ++ cond b (row ∷ []) []
    → more ≡ filter p (rows ++ row ∷ [])
kept_more {X} p rows row b kept more h k m =
    m ∙ ap (λ (ys : List X). ys ++ cond b (row ∷ []) []) k
    ∙ ap (λ t. filter p rows ++ cond t (row ∷ []) []) h
    ∙ sym (filter-append p rows (row ∷ []))

-- what is kept of rows by what they show
pub shown_kept : (p : Entry (List Value) → Bool) (rows : List TimedRow)
    → entries_of (filter (λ (t : TimedRow). p (entry_of t)) rows) ≡ filter p (entries_of rows)
shown_kept p [] = refl
shown_kept p (t ∷ rows) = step (p (entry_of t)) (shown_kept p rows)
  where
    step : (b : Bool) → entries_of (filter (λ (r : TimedRow). p (entry_of r)) rows)
        ≡ filter p (entries_of rows)
        → entries_of (cond b (t ∷ filter (λ (r : TimedRow). p (entry_of r)) rows)
        (filter (λ (r : TimedRow). p (entry_of r)) rows))
        ≡ cond b (entry_of t ∷ filter p (entries_of rows)) (filter p (entries_of rows))
    step true h = ap (λ (es : List (Entry (List Value))). entry_of t ∷ es) h
    step false h = h
