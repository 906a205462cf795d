-- What an operator makes depends on its inputs alone.
use Rattle.std.proofs.Common.{◌≡◌, [], ◌∷◌, refl, sym, ap, subst, ◌∙◌, inl, inr}
use Rattle.std.specs.Prelude.{Option, Some, None}
use Rattle.std.specs.FinMap.{get}
use Rattle.relations_spec.specs.Sets.{In}
use Rattle.schema_catalog.specs.Tables.{Tables}
use Rattle.schema_catalog.specs.Databases.{DatabaseEntry, Database}
use Rattle.smo_ops_types.specs.Operators.{Operator, nop, create_table, drop_table, rename_table}
use Rattle.smo_ops_types.specs.Operators.{copy_table, merge_table, partition_table, decompose_table}
use Rattle.smo_ops_types.specs.Operators.{join_table, add_column, drop_column, rename_column}
use Rattle.smo_ops_spec.specs.OneRow.{Relation}
use Rattle.smo_ops_spec.specs.Making.{from_one, from_two}
use Rattle.smo_ops_spec.specs.OperatorTable.{Made, line}
use Rattle.smo_ops_spec.specs.Touching.{made_of}
use Rattle.smo_ops_spec.specs.After.{op_fault, migrate}
use Rattle.smo_ops_spec.proofs.TouchedTables.{made_is_migrated}
use Rattle.smo_ops_spec.specs.Agreeing.{AgreeOn}

one_alike : (f : Relation → Relation) (x y : Option DatabaseEntry) → x ≡ y
    → from_one f x ≡ from_one f y
one_alike f x y e = ap (from_one f) e

two_alike : (f : Relation → Relation → Relation) (x y w z : Option DatabaseEntry) → x ≡ y → w ≡ z
    → from_two f x w ≡ from_two f y z
two_alike f x y w z e h = ap (λ o. from_two f o w) e ∙ ap (from_two f y) h

module _ (tables : Tables) (a b : Database) where
  abbrev Alike : Made → Type 0
  Alike m = m.entry a ≡ m.entry b

  only : (m x : Made) → Alike x → In m (x ∷ []) → Alike m
  only m x h (inl e) = subst Alike e h
  only m x h (inr i) = absurd i

  either : (m x y : Made) → Alike x → Alike y → In m (x ∷ y ∷ []) → Alike m
  either m x y h g (inl e) = subst Alike e h
  either m x y h g (inr i) = only m y g i

  pub made_alike : (op : Operator) → AgreeOn (made_of op) a b → (m : Made)
      → In m (line tables op).made → m.entry a ≡ m.entry b
  made_alike nop h m i = absurd i
  made_alike (create_table r cs) h m i = only m _ refl i
  made_alike (drop_table r) h m i = absurd i
  made_alike (rename_table r t) h m i = only m _ (one_alike _ _ _ (h r (inl refl))) i
  made_alike (copy_table r t) h m i = only m _ (one_alike _ _ _ (h r (inl refl))) i
  made_alike (merge_table r s t) h m i = only m _
      (two_alike _ _ _ _ _ (h r (inl refl)) (h s (inr (inl refl)))) i
  made_alike (partition_table r s c t) h m i =
      either m _ _ (one_alike _ _ _ (h r (inl refl))) (one_alike _ _ _ (h r (inl refl))) i
  made_alike (decompose_table r s xs t ys) h m i =
      either m _ _ (one_alike _ _ _ (h r (inl refl))) (one_alike _ _ _ (h r (inl refl))) i
  made_alike (join_table r s t c) h m i = only m _
      (two_alike _ _ _ _ _ (h r (inl refl)) (h s (inr (inl refl)))) i
  made_alike (add_column c e r) h m i = only m _ (one_alike _ _ _ (h r (inl refl))) i
  made_alike (drop_column c r) h m i = only m _ (one_alike _ _ _ (h r (inl refl))) i
  made_alike (rename_column x r y) h m i = only m _ (one_alike _ _ _ (h r (inl refl))) i

  -- so two databases that agree on the inputs agree on what is made
  pub migrated_alike : (op : Operator) → op_fault tables op ≡ None → AgreeOn (made_of op) a b
      → (m : Made) → In m (line tables op).made
      → get (migrate tables op a) m.name ≡ get (migrate tables op b) m.name
  migrated_alike op e h m i = made_is_migrated tables op a m e i ∙ ap Some (made_alike op h m i)
      ∙ sym (made_is_migrated tables op b m e i)
