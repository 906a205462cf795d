-- Valid values stay valid on the way.
use Rattle.std.proofs.Common.{◌++◌, ◌+◌, ℕ, zero, suc, true, false, List, [], ◌∷◌, refl, sym}
use Rattle.std.proofs.Common.{subst, arith}
use Rattle.std.specs.Prelude.{cond, Option, Some, None, slice_get, ⊤}
use Rattle.std.specs.FinMap.{get}
use Rattle.schema_catalog.specs.Tables.{Tables}
use Rattle.schema_catalog.specs.Databases.{Lost, Database}
use Rattle.smo_ops_types.specs.Operators.{Operator, nop, create_table, drop_table, rename_table}
use Rattle.smo_ops_types.specs.Operators.{copy_table, merge_table, partition_table, decompose_table}
use Rattle.smo_ops_types.specs.Operators.{join_table, add_column, drop_column, rename_column}
use Rattle.prima_base.specs.declared.value.ColType.{ColType}
use Rattle.prima_base.specs.declared.value.ColType.TheVariants.{Int as INT, Text as TEXT}
use Rattle.prima_base.specs.Columns.{IsValid}
use Rattle.smo_ops_spec.specs.WaysBack.{blank, filled_with}
use Rattle.smo_ops_types.specs.Commands.{PlainVersion}
use Rattle.smo_ops_spec.specs.ValidValues.{EntryHolds, HoldsValues, OperatorsHold}
use Rattle.smo_ops_spec.specs.ValidValues.{VersionsHold, AllOperatorsHold}
use Rattle.smo_ops_spec.specs.Evolutions.{members_of_all}
use Rattle.smo_ops_spec.specs.Preconditions.{among}
use Rattle.smo_ops_spec.specs.OperatorTable.{line, made_names}
use Rattle.smo_ops_spec.specs.After.{schema_after, lose_all}
use Rattle.smo_ops_spec.specs.Losses.{Loss}
use Rattle.smo_ops_spec.specs.Past.{no_tables, tables_from}
use Rattle.smo_ops_versions_spec.specs.Steps.{Step, carrying, filling, undoing, carrying_each}
use Rattle.smo_ops_versions_spec.specs.Steps.{AllSteps, StepHolds}
use Rattle.smo_ops_versions_spec.specs.Ways.{step_back, back_over_members, back_over, over_version}
use Rattle.smo_ops_versions_spec.specs.Ways.{back_over_version, to_next, from_next}
use Rattle.smo_ops_versions_spec.specs.Ways.{way}
use Rattle.smo_ops_versions_spec.specs.Migration.{lost_by, stepped, migrate_along, back}
use Rattle.smo_ops_versions_spec.specs.Migration.{migrated_from}
use Rattle.smo_ops_spec.proofs.ValueLaws.{less_valid, migrated_values}
use Rattle.cond_expr.proofs.ConstantLaws.{small_number}
use Rattle.smo_ops_versions_spec.proofs.StepLaws.{taken_kept, all_both}
use Rattle.smo_ops_versions_spec.proofs.WaySteps.{way_all}
use Rattle.smo_ops_versions_spec.proofs.WayDatabases.{lost_by_at}

lost_values : (loss : Loss) (names : List (List ℕ)) (db : Database) → HoldsValues db
    → HoldsValues (lost_by loss names db)
lost_values loss names db h n =
    subst EntryHolds (sym (lost_by_at loss names db n))
    (elim (among n names) as (λ b. EntryHolds (cond b (Some (Lost loss.0 loss.1)) (get db n))) [
      | true ↦ tt
      | false ↦ h n
    ])

pub blank_is_valid : (k : ColType) → IsValid (blank k)
blank_is_valid INT = small_number 0 (omega arith)
blank_is_valid TEXT = (omega arith, refl)

pub step_values : (s : Step) (db : Database) → StepHolds s → HoldsValues db
    → HoldsValues (stepped s db)
step_values (carrying tables op) db g h = migrated_values tables op db g h
step_values (filling loss tables f) db g h =
    migrated_values tables (filled_with blank f) db (blank_is_valid f.kind) h
step_values (undoing loss before op) db g h =
    lost_values loss (line before op).consumed (lose_all (made_names (line before op).made) db)
    (less_valid (made_names (line before op).made) db h)

-- ---- the constants on the way

pub each_hold : (tables : Tables) (ops : List Operator) → OperatorsHold ops
    → AllSteps StepHolds (carrying_each tables ops)
each_hold tables [] h = tt
each_hold tables (op ∷ ops) h = (h.0, each_hold (schema_after tables op) ops h.1)

step_holds : (loss : Loss) (before : Tables) (op : Operator) → StepHolds (step_back loss before op)
step_holds loss before nop = tt
step_holds loss before (create_table r cs) = tt
step_holds loss before (drop_table r) = tt
step_holds loss before (rename_table r t) = tt
step_holds loss before (copy_table r t) = tt
step_holds loss before (merge_table r s t) = tt
step_holds loss before (partition_table r s c t) = tt
step_holds loss before (decompose_table r s xs t ys) = tt
step_holds loss before (join_table r s t c) = tt
step_holds loss before (add_column c e r) = tt
step_holds loss before (drop_column c r) = tt
step_holds loss before (rename_column b r c) = tt

members_hold : (k i : ℕ) (before : Tables) (ops : List Operator)
    → AllSteps StepHolds (back_over_members k i before ops)
members_hold k i before [] = tt
members_hold k i before (op ∷ ops) =
    all_both StepHolds (back_over_members k (i + 1) (schema_after before op) ops)
    (step_back (k, i) before op ∷ []) (members_hold k (i + 1) (schema_after before op) ops)
    (step_holds (k, i) before op, tt)

both_hold : (a b : List Operator) → OperatorsHold a → OperatorsHold b → OperatorsHold (a ++ b)
both_hold [] b h k = k
both_hold (op ∷ a) b h k = (h.0, both_hold a b h.1 k)

all_hold : (ops : List (List Operator)) → AllOperatorsHold ops → OperatorsHold (members_of_all ops)
all_hold [] h = tt
all_hold (op ∷ ops) h = both_hold op (members_of_all ops) h.0 (all_hold ops h.1)

back_hold : (k : ℕ) (before : Tables) (op : List Operator) (after : Tables)
    (inverse : List (List Operator)) → AllOperatorsHold inverse
    → AllSteps StepHolds (back_over k before op after inverse)
back_hold k before op after [] h = members_hold k 1 before op
back_hold k before op after (i ∷ inverse) h = each_hold after (members_of_all (i ∷ inverse))
    (all_hold (i ∷ inverse) h)

-- the constants of a version, where there is one
abbrev VersionHolds : Option PlainVersion → Type 0
VersionHolds None = ⊤
VersionHolds (Some v) = OperatorsHold v.op × AllOperatorsHold v.inverse

version_holds : (versions : List PlainVersion) (k : ℕ) → VersionsHold versions
    → VersionHolds (slice_get versions k)
version_holds [] k h = tt
version_holds (v ∷ versions) zero h = h.0
version_holds (v ∷ versions) (suc k) h = version_holds versions k h.1

over_hold : (tables : Tables) (o : Option PlainVersion) → VersionHolds o
    → AllSteps StepHolds (over_version tables o)
over_hold tables None h = tt
over_hold tables (Some v) h = each_hold tables v.op h.0

back_over_hold : (k : ℕ) (tables : Tables) (o : Option PlainVersion) → VersionHolds o
    → AllSteps StepHolds (back_over_version k tables o)
back_over_hold k tables None h = tt
back_over_hold k tables (Some v) h = back_hold k tables v.op v.tables v.inverse h.1

module _ (versions : List PlainVersion) (hold : VersionsHold versions) where
  pub next_hold : (k : ℕ) → AllSteps StepHolds (to_next versions k)
  next_hold k = over_hold (tables_from no_tables versions k) (slice_get versions k)
      (version_holds versions k hold)

  pub from_next_hold : (k : ℕ) → AllSteps StepHolds (from_next versions k)
  from_next_hold k = back_over_hold (k + 1) (tables_from no_tables versions k)
      (slice_get versions k) (version_holds versions k hold)

  pub way_holds : (v q : ℕ) → AllSteps StepHolds (way versions v q)
  way_holds v q = way_all versions StepHolds v q next_hold (λ k low high. from_next_hold k)

  pub migrate_values : (k : ℕ) (db : Database) → HoldsValues db
      → HoldsValues (migrate_along versions k db)
  migrate_values k db h = taken_kept HoldsValues StepHolds stepped (λ s x g l. step_values s x g l)
      (to_next versions k) db (next_hold k) h

  pub step_back_values : (k : ℕ) (db : Database) → HoldsValues db → HoldsValues (back versions k db)
  step_back_values k db h = taken_kept HoldsValues StepHolds stepped
      (λ s x g l. step_values s x g l) (from_next versions k) db (from_next_hold k) h

  pub way_values : (v q : ℕ) (db : Database) → HoldsValues db
      → HoldsValues (migrated_from versions v q db)
  way_values v q db h = taken_kept HoldsValues StepHolds stepped (λ s x g l. step_values s x g l)
      (way versions v q) db (way_holds v q) h
