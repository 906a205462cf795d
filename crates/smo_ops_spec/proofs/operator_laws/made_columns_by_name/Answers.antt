use Rattle.smo_ops_spec.proofs.ColumnsByName.{created_types, merged_columns, parted_columns}
use Rattle.smo_ops_spec.proofs.ColumnsByName.{decomposed_types, joined_types, added_types}
use Rattle.smo_ops_spec.proofs.ColumnsByName.{dropped_types, renamed_types}
use Rattle.smo_ops_spec.proofs.operator_laws.made_columns_by_name.Goals as goal

pub returns-clause-create : goal.returns-clause-create
returns-clause-create c = created_types

pub returns-clause-merge : goal.returns-clause-merge
returns-clause-merge c = merged_columns

pub returns-clause-partition : goal.returns-clause-partition
returns-clause-partition c = parted_columns

pub returns-clause-decompose : goal.returns-clause-decompose
returns-clause-decompose c = decomposed_types

pub returns-clause-join : goal.returns-clause-join
returns-clause-join c = joined_types

pub returns-clause-add : goal.returns-clause-add
returns-clause-add c = added_types

pub returns-clause-drop : goal.returns-clause-drop
returns-clause-drop c = dropped_types

pub returns-clause-rename : goal.returns-clause-rename
returns-clause-rename c = renamed_types
