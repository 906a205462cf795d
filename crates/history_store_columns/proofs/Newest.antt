-- What one more cell does to the newest values.
use Rattle.std.proofs.Common.{◌≡◌, ◌≢◌, ℕ, ◌<◌, ◌≤◌, ◌&&◌, List, [], ◌∷◌, ◌++◌, length, get_or, set}
use Rattle.std.proofs.Common.{refl, sym, ap, ◌∙◌, inl, inr, arith, if◌then◌else◌, nat_le, ◌==◌}
use Rattle.std.proofs.lemmas.Bool.Decides.{nat_tests, eqb_tells}
use Rattle.std.proofs.lemmas.Grind.{common_steps, get_or-set_at}
use Rattle.std.proofs.Math.Seq.{get_or-append_seam}
use Rattle.prima_base.specs.declared.value.Value.{Value}
use Rattle.history_store_columns.specs.Log.{Write, over, newest, value_at}
use Rattle.history_store_columns.specs.ColumnFields.{IsIndex}

over_assoc : (x y z : List Value) → over (over x y) z ≡ over x (over y z)
over_assoc [] y z = refl
over_assoc (v ∷ x) y z = refl

pub over_nil : (x : List Value) → over x [] ≡ x
over_nil [] = refl
over_nil (v ∷ x) = refl

pub newest-append : (id : ℕ) (cells : List Write) (c : Write)
    → newest id (cells ++ c ∷ []) ≡ over (if c.id == id then c.value ∷ [] else []) (newest id cells)
newest-append id [] c = sym (over_nil _)
newest-append id (d ∷ cells) c =
    ap (λ l. over l (if d.id == id then d.value ∷ [] else [])) (newest-append id cells c)
    ∙ over_assoc (if c.id == id then c.value ∷ [] else []) (newest id cells)
    (if d.id == id then d.value ∷ [] else [])

pub newest-same : (id : ℕ) (cells : List Write) (c : Write) → c.id ≡ id
    → newest id (cells ++ c ∷ []) ≡ c.value ∷ []
newest-same id cells c is = newest-append id cells c ∙ grind (arith, nat_tests)

pub newest-other : (id : ℕ) (cells : List Write) (c : Write) → c.id ≢ id
    → newest id (cells ++ c ∷ []) ≡ newest id cells
newest-other id cells c is = newest-append id cells c ∙ grind (arith, nat_tests)

pub value_at-append : (id m : ℕ) (cells : List Write) (c : Write) →
    value_at id m (cells ++ c ∷ []) ≡ over (if (c.id == id) && nat_le c.start m then c.value ∷ []
    else []) (value_at id m cells)
value_at-append id m [] c = sym (over_nil _)
value_at-append id m (d ∷ cells) c =
    ap (λ l. over l (if (d.id == id) && nat_le d.start m then d.value ∷ [] else []))
    (value_at-append id m cells c)
    ∙ over_assoc (if (c.id == id) && nat_le c.start m then c.value ∷ [] else [])
    (value_at id m cells) (if (d.id == id) && nat_le d.start m then d.value ∷ [] else [])

-- a cell from a later moment on changes nothing before
pub value_at-before : (id m : ℕ) (cells : List Write) (c : Write) → m < c.start
    → value_at id m (cells ++ c ∷ []) ≡ value_at id m cells
value_at-before id m cells c later = value_at-append id m cells c ∙ grind (arith, nat_tests)

pub changed_index : (last : List ℕ) (cells : List Write) (c : Write) → c.id < length last
    → IsIndex last cells → IsIndex (set last c.id (length cells)) (cells ++ c ∷ [])
changed_index last cells c h index = record { within = within; found = found; none = none }
  where
    within : (id : ℕ) → id < length (set last c.id (length cells))
        → get_or (set last c.id (length cells)) id 0 < length (cells ++ c ∷ [])
    within id i = elim (eqb_tells id c.id) [
      | inl e ↦ grind (arith, common_steps, get_or-set_at)
      | inr n ↦ grind (arith, common_steps, index.within id)
    ]

    found : (id : ℕ) (d : Write) → id < length (set last c.id (length cells))
        → newest id (cells ++ c ∷ []) ≡ (get_or (cells ++ c ∷ [])
        (get_or (set last c.id (length cells)) id 0) d).value ∷ []
    found id d i = elim (eqb_tells id c.id) [
      | inl e ↦ newest-same id cells c (sym e.1)
          ∙ grind (arith, common_steps, get_or-append_seam cells c [] d)
      | inr n ↦ newest-other id cells c (λ e. n.1 (sym e))
          ∙ grind (arith, common_steps, index.found id d, index.within id)
    ]

    none : (id : ℕ) → length (set last c.id (length cells)) ≤ id → newest id (cells ++ c ∷ []) ≡ []
    none id i = newest-other id cells c (grind (arith, common_steps))
        ∙ index.none id (grind (arith, common_steps))

pub grown_index : (last : List ℕ) (cells : List Write) (c : Write) → c.id ≡ length last
    → IsIndex last cells → IsIndex (last ++ length cells ∷ []) (cells ++ c ∷ [])
grown_index last cells c h index = record { within = within; found = found; none = none }
  where
    within : (id : ℕ) → id < length (last ++ length cells ∷ [])
        → get_or (last ++ length cells ∷ []) id 0 < length (cells ++ c ∷ [])
    within id i = elim (eqb_tells id c.id) [
      | inl e ↦ grind (arith, common_steps)
      | inr n ↦ grind (arith, common_steps, index.within id)
    ]

    found : (id : ℕ) (d : Write) → id < length (last ++ length cells ∷ [])
        → newest id (cells ++ c ∷ []) ≡ (get_or (cells ++ c ∷ [])
        (get_or (last ++ length cells ∷ []) id 0) d).value ∷ []
    found id d i = elim (eqb_tells id c.id) [
      | inl e ↦ newest-same id cells c (sym e.1)
          ∙ grind (
            arith,
            common_steps,
            get_or-append_seam cells c [] d,
            get_or-append_seam last (length cells) [] 0,
          )
      | inr n ↦ newest-other id cells c (λ e. n.1 (sym e))
          ∙ grind (arith, common_steps, index.found id d, index.within id)
    ]

    none : (id : ℕ) → length (last ++ length cells ∷ []) ≤ id → newest id (cells ++ c ∷ []) ≡ []
    none id i = newest-other id cells c (grind (arith, common_steps))
        ∙ index.none id (grind (arith, common_steps))
