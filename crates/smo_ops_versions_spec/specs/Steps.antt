-- The steps of a way from one version to another.
use Rattle.std.specs.Prelude.{◌≡◌, List, [], ◌∷◌, None, ⊤}
use Rattle.schema_catalog.specs.Tables.{Tables}
use Rattle.smo_ops_types.specs.Operators.{Operator}
use Rattle.smo_ops_spec.specs.After.{op_fault, schema_after, IsValid}
use Rattle.smo_ops_spec.specs.Losses.{Loss}
use Rattle.smo_ops_spec.specs.ValidValues.{OperatorHolds}
use Rattle.smo_ops_spec.specs.WaysBack.{FilledColumn, blank, filled_with}

pub data Step : Type 0 where
  -- over an operator that stands after these tables
  carrying : Tables → Operator → Step
  -- over the filling of a column that was dropped from a table of these; the column has this loss
  filling : Loss → Tables → FilledColumn → Step
  -- back over an operator that stands after these tables, where nothing leads back: what it
  -- consumed has this loss
  undoing : Loss → Tables → Operator → Step

-- the tables on the two sides of a step
abbrev pub tables_before : Step → Tables
tables_before (carrying tables op) = tables
tables_before (filling loss tables f) = tables
tables_before (undoing loss tables op) = schema_after tables op

abbrev pub tables_behind : Step → Tables
tables_behind (carrying tables op) = schema_after tables op
tables_behind (filling loss tables f) = schema_after tables (filled_with blank f)
tables_behind (undoing loss tables op) = tables

-- over operators, first to last
abbrev pub carrying_each : Tables → List Operator → List Step
carrying_each tables [] = []
carrying_each tables (op ∷ ops) = carrying tables op ∷ carrying_each (schema_after tables op) ops

-- something is taken over steps, first to last
abbrev pub taken : {X : Type 0} → (Step → X → X) → List Step → X → X
taken by [] x = x
taken by (s ∷ steps) x = taken by steps (by s x)

-- and from where they lead to where they begin, last to first
abbrev pub taken_back : {X : Type 0} → (Step → X → X) → List Step → X → X
taken_back by [] x = x
taken_back by (s ∷ steps) x = by s (taken_back by steps x)

-- the operator that a step goes over, or goes back over, and the tables that it stands after
abbrev pub step_operator : Step → Operator
step_operator (carrying tables op) = op
step_operator (filling loss tables f) = filled_with blank f
step_operator (undoing loss tables op) = op

abbrev pub step_tables : Step → Tables
step_tables (carrying tables op) = tables
step_tables (filling loss tables f) = tables
step_tables (undoing loss tables op) = tables

-- the operator of a step is accepted, after valid tables
pub record IsLawful (s : Step) : Type 0 where
  pub valid : IsValid (step_tables s)
  pub accepted : op_fault (step_tables s) (step_operator s) ≡ None

-- lawful steps lead from tables to tables
abbrev pub Lead : Tables → List Step → Tables → Type 0
Lead before [] after = before ≡ after
Lead before (s ∷ steps) after = IsLawful s
    × (before ≡ tables_before s) × Lead (tables_behind s) steps after

-- something holds of each step
abbrev pub AllSteps : (Step → Type 0) → List Step → Type 0
AllSteps P [] = ⊤
AllSteps P (s ∷ steps) = P s × AllSteps P steps

-- the constants of what is carried over are valid
abbrev pub StepHolds : Step → Type 0
StepHolds (carrying tables op) = OperatorHolds op
StepHolds (filling loss tables f) = ⊤
StepHolds (undoing loss tables op) = ⊤
