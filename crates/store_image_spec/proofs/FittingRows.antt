-- Rows fit the columns just where each column's entries have its type.
use Rattle.std.proofs.Common.{◌≡◌, ℕ, true, List, [], ◌∷◌, ◌++◌, length, get_or, refl, sym, ap, ◌∙◌}
use Rattle.std.proofs.Common.{subst, arith, inl, inr}
use Rattle.std.specs.Prelude.{⊤}
use Rattle.relations_spec.specs.Sets.{In}
use Rattle.relations_spec.specs.Spans.{Span, span, covers}
use Rattle.prima_base.specs.Columns.{Column, has_type, IsRow}
use Rattle.prima_base.specs.declared.value.Value.{Value}
use Rattle.history_store_spec.specs.Store.{Cell, shown_at, row_at, IsFilled, Holds}
use Rattle.store_image_spec.proofs.Filling.{covers_so, in_shown, from_shown, fills_one, in_key}

-- each column's entries have its type
abbrev pub Typed : List Column → List (List Cell) → Type 0
Typed [] [] = ⊤
Typed [] (cells ∷ more) = ⊥
Typed (c ∷ columns) [] = ⊥
Typed (c ∷ columns) (cells ∷ more) = ((d : Cell) → In d cells → has_type c.1 d.value ≡ true)
    × Typed columns more

abbrev pub AllFilled : List Span → List (List Cell) → Type 0
AllFilled keys columns = (cells : List Cell) → In cells columns → IsFilled keys cells

pub only_one : {X : Type 0} (x y : X) → In x (y ∷ []) → y ≡ x
only_one x y (inl e) = e
only_one x y (inr i) = absurd i

pub rows_fit : (keys : List Span) (columns : List Column) (cells : List (List Cell))
    → Typed columns cells → AllFilled keys cells → (m id : ℕ) → Holds keys id m
    → IsRow columns (row_at id m cells)
rows_fit keys [] [] t f m id h = tt
rows_fit keys [] (cells ∷ more) t f m id h = absurd t
rows_fit keys (c ∷ columns) [] t f m id h = absurd t
rows_fit keys (c ∷ columns) (cells ∷ more) t f m id h =
    let v = fills_one (get_or keys id (span 0 0)) id cells ((f cells (inl refl)).filled id h.0) m
    h.1 in
    let d = from_shown id m cells v.0 (subst (In v.0) (sym v.1) (inl refl)) in
    let typed : has_type c.1 v.0 ≡ true = sym (ap (has_type c.1) d.4) ∙ t.0 d.0 d.1 in
    subst (λ l. IsRow (c ∷ columns) (l ++ row_at id m more)) (sym v.1)
    (typed, rows_fit keys columns more t.1 (λ x i. f x (inr i)) m id h)

pub entries_typed : (keys : List Span) (columns : List Column) (cells : List (List Cell))
    → length cells ≡ length columns → AllFilled keys cells
    → ((m id : ℕ) → Holds keys id m → IsRow columns (row_at id m cells)) → Typed columns cells
entries_typed keys [] [] e f r = tt
entries_typed keys [] (cells ∷ more) e f r = absurd (omega (arith, e))
entries_typed keys (c ∷ columns) [] e f r = absurd (omega (arith, e))
entries_typed keys (c ∷ columns) (cells ∷ more) e f r = (
  typed,
  entries_typed keys columns more (omega (arith, e)) (λ x i. f x (inr i))
      (λ m id h. (first m id h).1),
)
  where
    shown : (m id : ℕ) → Holds keys id m → (v : Value) × (shown_at id m cells ≡ v ∷ [])
    shown m id h = fills_one (get_or keys id (span 0 0)) id cells
        ((f cells (inl refl)).filled id h.0) m h.1

    first : (m id : ℕ) (h : Holds keys id m) → (has_type c.1 (shown m id h).0 ≡ true)
        × IsRow columns (row_at id m more)
    first m id h = subst (λ l. IsRow (c ∷ columns) (l ++ row_at id m more)) (shown m id h).1
        (r m id h)

    typed : (d : Cell) → In d cells → has_type c.1 d.value ≡ true
    typed d i =
        let filled = f cells (inl refl) in
        let known = filled.known d i in
        let m = d.period.start in
        let own : covers d.period m ≡ true = covers_so d.period m (omega arith)
        (filled.lasting d i).0 in
        let h : Holds keys d.id m = (
          known,
          in_key (get_or keys d.id (span 0 0)) d.id cells
              (filled.filled d.id known) d i refl m own,
        ) in
        let v = shown m d.id h in
        ap (has_type c.1) (sym (only_one d.value v.0
        (subst (In d.value) v.1 (in_shown d.id m cells d i refl own)))) ∙ (first m d.id h).0
