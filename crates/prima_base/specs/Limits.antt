-- The limits of the statement language and of what its statements make, for definitions. Those of
-- the code, which the contracts hold to these, are in `src/limits.rt`.
use Rattle.std.specs.Prelude.{ℕ}

-- the most bytes of a name
abbrev pub max_name : ℕ
max_name = 63

-- the most bytes of a text
abbrev pub max_text : ℕ
max_text = 4096

-- the most bytes of a statement, without its `;`: 2 ^ 20
abbrev pub max_statement : ℕ
max_statement = 1048576

-- the most nodes of an expression or a condition
abbrev pub max_nodes : ℕ
max_nodes = 256

-- the most levels of an expression or a condition
abbrev pub max_depth : ℕ
max_depth = 32

-- the most parts of a CONCAT
abbrev pub max_parts : ℕ
max_parts = 8

-- the most tables of a branch of a query
abbrev pub max_branch_tables : ℕ
max_branch_tables = 8

-- the most outputs of a branch of a query
abbrev pub max_outputs : ℕ
max_outputs = 32

-- the most branches of a query
abbrev pub max_branches : ℕ
max_branches = 16

-- the most conditions of KEEP
abbrev pub max_keeps : ℕ
max_keeps = 8

-- the most changes of a command
abbrev pub max_changes : ℕ
max_changes = 65536

-- the most operators of an inverse
abbrev pub max_inverse : ℕ
max_inverse = 8

-- the most columns of a table
abbrev pub max_columns : ℕ
max_columns = 32

-- the most tables of a version
abbrev pub max_tables : ℕ
max_tables = 64

-- the most versions of the schema, version 0 not counted
abbrev pub max_versions : ℕ
max_versions = 512
