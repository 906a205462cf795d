use Rattle.smo_ops_spec.proofs.WholeTables.{merged_members, union_turned, merge_turned}
use Rattle.smo_ops_spec.proofs.WholeTables.{merged_turned, merged_rows_turned}
use Rattle.smo_ops_spec.proofs.operator_laws.merge_is_the_union.Goals as goal

pub returns-clause-members : goal.returns-clause-members
returns-clause-members c tables r s t database first second made row e is also now =
    merged_members tables r s t e database first second made row is also now

pub returns-clause-turned : goal.returns-clause-turned
returns-clause-turned c = union_turned

pub returns-clause-fault : goal.returns-clause-fault
returns-clause-fault c = merge_turned

pub returns-clause-schema : goal.returns-clause-schema
returns-clause-schema c = merged_turned

pub returns-clause-database : goal.returns-clause-database
returns-clause-database c tables r s t database e h = merged_rows_turned tables r s t e database h
