-- Valid values along the versions, and the databases with losses that hold them.
use Rattle.std.proofs.Common.{◌≡◌, ◌+◌, ℕ, zero, suc, Bool, true, false, List, [], ◌∷◌, ◌++◌, sym}
use Rattle.std.proofs.Common.{subst}
use Rattle.std.specs.Prelude.{cond, Option, Some, None, slice_get, ⊤}
use Rattle.std.specs.Option.{option_map}
use Rattle.std.specs.FinMap.{get}
use Rattle.schema_catalog.specs.Tables.{Tables}
use Rattle.schema_catalog.specs.Databases.{DatabaseEntry, Rows, Lost, Database}
use Rattle.smo_ops_types.specs.Operators.{Operator, nop, create_table, drop_table, rename_table}
use Rattle.smo_ops_types.specs.Operators.{copy_table, merge_table, partition_table, decompose_table}
use Rattle.smo_ops_types.specs.Operators.{join_table, add_column, drop_column, rename_column}
use Rattle.smo_ops_types.specs.Commands.{PlainVersion, PlainBody, changing, evolving, PlainCommand}
use Rattle.smo_ops_spec.specs.Touching.{makes, consumes}
use Rattle.smo_ops_spec.specs.Losses.{IsDatabaseWithLosses, Loss}
use Rattle.smo_ops_spec.specs.After.{op_fault, schema_after}
use Rattle.smo_ops_spec.specs.Evolutions.{members_of_all}
use Rattle.smo_ops_spec.specs.Past.{Past, no_tables, tables_from, past_with, next_past}
use Rattle.smo_ops_spec.specs.Past.{next_version}
use Rattle.smo_ops_spec.specs.History.{past_after}
use Rattle.smo_ops_spec.specs.ValidValues.{EntryHolds, HoldsValues, BodyHolds, CommandsHold}
use Rattle.smo_ops_versions_spec.specs.LostAsEmpty.{entry_emptied, whole}
use Rattle.smo_ops_versions_spec.specs.Steps.{Step, carrying, filling, undoing, carrying_each}
use Rattle.smo_ops_versions_spec.specs.Steps.{AllSteps}
use Rattle.smo_ops_versions_spec.specs.Ways.{step_back, back_over_members, back_over, over_version}
use Rattle.smo_ops_versions_spec.specs.Ways.{back_over_version, way}
use Rattle.smo_ops_versions_spec.specs.Migration.{undone}
use Rattle.smo_ops_versions_spec.proofs.StepLaws.{all_both}
use Rattle.smo_ops_versions_spec.proofs.WaySteps.{way_all}
use Rattle.smo_ops_versions_spec.proofs.WayDatabases.{unnamed_at}
use Rattle.smo_ops_versions_spec.proofs.WholeDatabases.{whole_at, whole_database}
use Rattle.piece_ir_spec.specs.Constants.{ValidInOperator, ValidInOperators, ValidInVersions}
use Rattle.piece_ir_spec.specs.Constants.{AllValidInOperators, ValidInEvolution, ValidInEvolutions}
use Rattle.piece_ir_spec.specs.Rules.{IsValidDatabase}
use Rattle.smo_ops_spec.specs.ValidValues.{VersionsHold}

whole_holds : (x : Option DatabaseEntry) → EntryHolds x → EntryHolds (option_map entry_emptied x)
whole_holds None h = tt
whole_holds (Some (Rows rows)) h = h
whole_holds (Some (Lost k i)) h = λ row m. absurd m

pub whole_valid : (tables : Tables) (db : Database) → IsDatabaseWithLosses tables db
    → HoldsValues db → IsValidDatabase tables (whole db)
whole_valid tables db h w = record {
  database = whole_database tables db h;
  values = λ n. subst EntryHolds (sym (whole_at db n)) (whole_holds (get db n) (w n));
}

pub undone_holds : (loss : Loss) (before : Tables) (op : Operator) (db : Database)
    → op_fault before op ≡ None → HoldsValues db → HoldsValues (undone loss before op db)
undone_holds loss before op db accepted h = λ n.
    subst EntryHolds (sym (unnamed_at loss before op accepted db n))
    (step (consumes before op n) (makes before op n) (get db n) (h n))
  where
    step : (a b : Bool) (x : Option DatabaseEntry) → EntryHolds x
        → EntryHolds (cond a (Some (Lost loss.0 loss.1)) (cond b None x))
    step true b x h = tt
    step false true x h = tt
    step false false x h = h

-- ---- versions

-- the constants of what is carried over are valid, all of them
abbrev pub StepIsValid : Step → Type 0
StepIsValid (carrying tables op) = ValidInOperator op
StepIsValid (filling loss tables f) = ⊤
StepIsValid (undoing loss tables op) = ⊤

step_valid : (loss : Loss) (before : Tables) (op : Operator)
    → StepIsValid (step_back loss before op)
step_valid loss before nop = tt
step_valid loss before (create_table r cs) = tt
step_valid loss before (drop_table r) = tt
step_valid loss before (rename_table r t) = tt
step_valid loss before (copy_table r t) = tt
step_valid loss before (merge_table r s t) = tt
step_valid loss before (partition_table r s c t) = tt
step_valid loss before (decompose_table r s xs t ys) = tt
step_valid loss before (join_table r s t c) = tt
step_valid loss before (add_column c e r) = tt
step_valid loss before (drop_column c r) = tt
step_valid loss before (rename_column b r c) = tt

each_valid : (tables : Tables) (ops : List Operator) → ValidInOperators ops
    → AllSteps StepIsValid (carrying_each tables ops)
each_valid tables [] h = tt
each_valid tables (op ∷ ops) h = (h.0, each_valid (schema_after tables op) ops h.1)

members_valid : (k i : ℕ) (before : Tables) (ops : List Operator)
    → AllSteps StepIsValid (back_over_members k i before ops)
members_valid k i before [] = tt
members_valid k i before (op ∷ ops) =
    all_both StepIsValid (back_over_members k (i + 1) (schema_after before op) ops)
    (step_back (k, i) before op ∷ []) (members_valid k (i + 1) (schema_after before op) ops)
    (step_valid (k, i) before op, tt)

both_valid : (a b : List Operator) → ValidInOperators a → ValidInOperators b
    → ValidInOperators (a ++ b)
both_valid [] b h k = k
both_valid (op ∷ a) b h k = (h.0, both_valid a b h.1 k)

all_valid : (ops : List (List Operator)) → AllValidInOperators ops
    → ValidInOperators (members_of_all ops)
all_valid [] h = tt
all_valid (op ∷ ops) h = both_valid op (members_of_all ops) h.0 (all_valid ops h.1)

back_valid : (k : ℕ) (before : Tables) (op : List Operator) (after : Tables)
    (inverse : List (List Operator)) → AllValidInOperators inverse
    → AllSteps StepIsValid (back_over k before op after inverse)
back_valid k before op after [] h = members_valid k 1 before op
back_valid k before op after (i ∷ inverse) h = each_valid after (members_of_all (i ∷ inverse))
    (all_valid (i ∷ inverse) h)

-- of a version, where there is one
abbrev VersionIsValid : Option PlainVersion → Type 0
VersionIsValid None = ⊤
VersionIsValid (Some v) = ValidInOperators v.op × AllValidInOperators v.inverse

version_valid : (versions : List PlainVersion) (k : ℕ) → ValidInVersions versions
    → VersionIsValid (slice_get versions k)
version_valid [] k h = tt
version_valid (w ∷ versions) zero h = h.0
version_valid (w ∷ versions) (suc k) h = version_valid versions k h.1

over_valid : (tables : Tables) (o : Option PlainVersion) → VersionIsValid o
    → AllSteps StepIsValid (over_version tables o)
over_valid tables None h = tt
over_valid tables (Some v) h = each_valid tables v.op h.0

back_over_valid : (k : ℕ) (tables : Tables) (o : Option PlainVersion) → VersionIsValid o
    → AllSteps StepIsValid (back_over_version k tables o)
back_over_valid k tables None h = tt
back_over_valid k tables (Some v) h = back_valid k tables v.op v.tables v.inverse h.1

pub way_valid : (versions : List PlainVersion) → ValidInVersions versions → (v q : ℕ)
    → AllSteps StepIsValid (way versions v q)
way_valid versions h v q = way_all versions StepIsValid v q
    (λ k. over_valid (tables_from no_tables versions k) (slice_get versions k)
    (version_valid versions k h))
    (λ k low high. back_over_valid (k + 1) (tables_from no_tables versions k) (slice_get versions k)
    (version_valid versions k h))

one_more : (versions : List PlainVersion) (v : PlainVersion) → VersionsHold versions
    → BodyHolds (evolving v.op v.inverse) → VersionsHold (versions ++ v ∷ [])
one_more [] v h g = (g, tt)
one_more (w ∷ versions) v h g = (h.0, one_more versions v h.1 g)

pub held_next : (past : Past) (stamp : ℕ) (body : PlainBody) → VersionsHold past.versions
    → BodyHolds body → VersionsHold (next_past stamp body past).versions
held_next past stamp (changing changes) h g = h
held_next past stamp (evolving op inverse) h g =
    one_more past.versions (next_version stamp op inverse past) h g

pub held_after : (past : Past) (commands : List PlainCommand) → VersionsHold past.versions
    → CommandsHold commands → VersionsHold (past_after past commands).versions
held_after past [] h g = h
held_after past (c ∷ commands) h g = held_after (past_with past c) commands
    (held_next past c.stamp c.body h g.0) g.1

one_more_valid : (versions : List PlainVersion) (v : PlainVersion) → ValidInVersions versions
    → ValidInEvolution (evolving v.op v.inverse) → ValidInVersions (versions ++ v ∷ [])
one_more_valid [] v h g = (g, tt)
one_more_valid (w ∷ versions) v h g = (h.0, one_more_valid versions v h.1 g)

pub valid_next : (past : Past) (stamp : ℕ) (body : PlainBody) → ValidInVersions past.versions
    → ValidInEvolution body → ValidInVersions (next_past stamp body past).versions
valid_next past stamp (changing changes) h g = h
valid_next past stamp (evolving op inverse) h g =
    one_more_valid past.versions (next_version stamp op inverse past) h g

pub valid_after : (past : Past) (commands : List PlainCommand) → ValidInVersions past.versions
    → ValidInEvolutions commands → ValidInVersions (past_after past commands).versions
valid_after past [] h g = h
valid_after past (c ∷ commands) h g = valid_after (past_with past c) commands
    (valid_next past c.stamp c.body h g.0) g.1
