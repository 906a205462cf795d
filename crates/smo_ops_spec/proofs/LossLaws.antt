-- A made table is lost by the loss of the first input that is lost.
use Rattle.std.proofs.Common.{◌≡◌, ℕ, List, [], ◌∷◌, refl, ap, subst, ◌∙◌, inl, inr}
use Rattle.std.specs.Prelude.{Option, Some, None, ⊤}
use Rattle.std.specs.Option.{option_or}
use Rattle.std.specs.FinMap.{get}
use Rattle.relations_spec.specs.Sets.{In}
use Rattle.prima_base.specs.Columns.{Column}
use Rattle.schema_catalog.specs.Tables.{Tables}
use Rattle.schema_catalog.specs.Databases.{DatabaseEntry, Rows, Lost, Database}
use Rattle.smo_ops_types.specs.Operators.{Operator, nop, create_table, drop_table, rename_table}
use Rattle.smo_ops_types.specs.Operators.{copy_table, merge_table, partition_table, decompose_table}
use Rattle.smo_ops_types.specs.Operators.{join_table, add_column, drop_column, rename_column}
use Rattle.smo_ops_spec.specs.OneRow.{Relation}
use Rattle.smo_ops_spec.specs.Making.{from_one, from_two}
use Rattle.smo_ops_spec.specs.OperatorTable.{Made, line}
use Rattle.smo_ops_spec.specs.Touching.{made_of}
use Rattle.smo_ops_spec.specs.Losses.{Loss, loss_of, loss_in, first_loss}
use Rattle.smo_ops_spec.specs.After.{op_fault, migrate}
use Rattle.smo_ops_spec.proofs.TouchedTables.{made_is_migrated}

one_loss : (f : Relation → Relation) (x : Option DatabaseEntry)
    → loss_of (Some (from_one f x)) ≡ option_or (loss_of x) None
one_loss f None = refl
one_loss f (Some (Rows rows)) = refl
one_loss f (Some (Lost k i)) = refl

two_losses : (f : Relation → Relation → Relation) (x y : Option DatabaseEntry)
    → loss_of (Some (from_two f x y)) ≡ option_or (loss_of x) (option_or (loss_of y) None)
two_losses f None y = one_loss (λ rows. []) y
two_losses f (Some (Rows rows)) y = one_loss (f rows) y
two_losses f (Some (Lost k i)) y = refl

module _ (tables : Tables) (db : Database) where
  abbrev Hands : Operator → Made → Type 0
  Hands op m = loss_of (Some (m.entry db)) ≡ first_loss (loss_in db) (made_of op)

  only : (op : Operator) (m x : Made) → Hands op x → In m (x ∷ []) → Hands op m
  only op m x h (inl e) = subst (Hands op) e h
  only op m x h (inr i) = absurd i

  either : (op : Operator) (m x y : Made) → Hands op x → Hands op y → In m (x ∷ y ∷ []) → Hands op m
  either op m x y h g (inl e) = subst (Hands op) e h
  either op m x y h g (inr i) = only op m y g i

  pub hands_on : (op : Operator) (m : Made) → In m (line tables op).made
      → loss_of (Some (m.entry db)) ≡ first_loss (loss_in db) (made_of op)
  hands_on nop m i = absurd i
  hands_on (create_table r cs) m (inl e) = subst (Hands (create_table r cs)) e refl
  hands_on (create_table r cs) m (inr i) = absurd i
  hands_on (drop_table r) m i = absurd i
  hands_on (rename_table r t) m i = only (rename_table r t) m _ (one_loss _ (get db r)) i
  hands_on (copy_table r t) m i = only (copy_table r t) m _ (one_loss _ (get db r)) i
  hands_on (merge_table r s t) m i = only (merge_table r s t) m _
      (two_losses _ (get db r) (get db s)) i
  hands_on (partition_table r s c t) m i = either (partition_table r s c t) m _ _
      (one_loss _ (get db r)) (one_loss _ (get db r)) i
  hands_on (decompose_table r s xs t ys) m i =
      either (decompose_table r s xs t ys) m _ _ (one_loss _ (get db r)) (one_loss _ (get db r)) i
  hands_on (join_table r s t c) m i = only (join_table r s t c) m _
      (two_losses _ (get db r) (get db s)) i
  hands_on (add_column c e r) m i = only (add_column c e r) m _ (one_loss _ (get db r)) i
  hands_on (drop_column c r) m i = only (drop_column c r) m _ (one_loss _ (get db r)) i
  hands_on (rename_column b r c) m i = only (rename_column b r c) m _ (one_loss _ (get db r)) i

-- each made table has this loss, or none
abbrev pub AllLose : Option Loss → Database → List Made → Type 0
AllLose o db [] = ⊤
AllLose o db (m ∷ made) = (loss_of (Some (m.entry db)) ≡ o) × AllLose o db made

all_lose : (o : Option Loss) (db : Database) (made : List Made)
    → ((m : Made) → In m made → loss_of (Some (m.entry db)) ≡ o) → AllLose o db made
all_lose o db [] h = tt
all_lose o db (m ∷ made) h = (h m (inl refl), all_lose o db made (λ n i. h n (inr i)))

pub each_hands_on : (tables : Tables) (db : Database) (op : Operator)
    → AllLose (first_loss (loss_in db) (made_of op)) db (line tables op).made
each_hands_on tables db op = all_lose (first_loss (loss_in db) (made_of op)) db
    (line tables op).made (hands_on tables db op)

pub losses_handed_on : (tables : Tables) (op : Operator) (db : Database) (m : Made)
    → op_fault tables op ≡ None → In m (line tables op).made
    → loss_of (get (migrate tables op db) m.name) ≡ first_loss (loss_in db) (made_of op)
losses_handed_on tables op db m e i = ap loss_of (made_is_migrated tables op db m e i)
    ∙ hands_on tables db op m i

pub created_empty : (tables : Tables) (r : List ℕ) (cs : List Column) (db : Database)
    → op_fault tables (create_table r cs) ≡ None
    → get (migrate tables (create_table r cs) db) r ≡ Some (Rows [])
created_empty tables r cs db e = made_is_migrated tables (create_table r cs) db _ e (inl refl)
