-- INSERTs, one after the other, are the union with the rows that they give.
use Rattle.std.proofs.Common.{◌≡◌, List, [], ◌∷◌, ◌++◌, append_assoc, Option, Some, None, refl, sym}
use Rattle.std.proofs.Common.{ap, ◌∙◌, inl, inr}
use Rattle.std.specs.Option.{option_map}
use Rattle.std.proofs.lemmas.List.{append-nil}
use Rattle.std.proofs.lemmas.Option.{same_Some}
use Rattle.std.specs.declared.cmp.Ordering.{Ordering}
use Rattle.relations_spec.specs.Sets.{put_in, set_of, IsExact}
use Rattle.relations_spec.proofs.SetLaws.{set_same, in_left, in_right, in_append}
use Rattle.prima_base.specs.Order.{row_cmp}
use Rattle.prima_base.specs.OrderLaws.{row_exact}
use Rattle.prima_base.specs.Columns.{Column}
use Rattle.smo_ops_spec.specs.OneRow.{Row, given, row_of}
use Rattle.smo_ops_types.specs.Changes.{PlainChange, insertion, deletion, update}
use Rattle.smo_ops_spec.specs.Inserting.{relation_after_each, insertions}

module _ {X : Type 0} (cmp : X → X → Ordering) (exact : IsExact cmp) where
  -- the relation of a list with one row more
  pub set_pushed : (xs : List X) (x : X) → set_of cmp (xs ++ x ∷ []) ≡ put_in cmp x (set_of cmp xs)
  unfolding set_of
  set_pushed xs x = set_same cmp exact (xs ++ x ∷ []) (x ∷ xs) (record {
    there = λ z m. elim (in_append z xs (x ∷ []) m) [
      | inl a ↦ inr a
      | inr b ↦ elim b [ inl e ↦ inl e | inr n ↦ absurd n ]
    ];
    back = λ z m. elim m [
      | inl e ↦ in_right z xs (x ∷ []) (inl e)
      | inr n ↦ in_left z xs (x ∷ []) n
    ];
  })

some_rest : (row : Row) (given : List Row) (o : Option (List Row))
    → option_map (λ rows. row ∷ rows) o ≡ Some given → (rest : List Row) × (o ≡ Some rest)
    × (given ≡ row ∷ rest)
some_rest row given None e = absurd (cc)
some_rest row given (Some rest) e = (rest, refl, sym (same_Some (row ∷ rest) given e))

pub union_of_insertions : (columns : List Column) (changes : List PlainChange)
    (given rows : List Row) → insertions columns changes ≡ Some given
    → relation_after_each columns changes (set_of row_cmp rows) ≡ set_of row_cmp (rows ++ given)
union_of_insertions columns [] given rows e =
    ap (set_of row_cmp) (sym (append-nil rows) ∙ ap (λ more. rows ++ more) (same_Some [] given e))
union_of_insertions columns (deletion t c ∷ changes) given rows e = absurd (cc)
union_of_insertions columns (update t sets c ∷ changes) given rows e = absurd (cc)
union_of_insertions columns (insertion t cells ∷ changes) given rows e =
    let row = row_of columns cells in
    let h = some_rest row given (insertions columns changes) e in
    ap (relation_after_each columns changes) (sym (set_pushed row_cmp row_exact rows row))
    ∙ union_of_insertions columns changes h.0 (rows ++ row ∷ []) h.1
    ∙ ap (set_of row_cmp) (append_assoc rows (row ∷ []) h.0 ∙ ap (λ more. rows ++ more) (sym h.2))
