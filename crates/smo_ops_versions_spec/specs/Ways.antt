-- The way from one version to another: forward over the operators; and back over their inverses,
-- named or derived, over the fillings of dropped columns, and over operators that have no way back.
-- It is a list of steps. What can be taken along it, as a database, or by names alone the losses
-- that it would have, is taken over its steps.
use Rattle.std.specs.Prelude.{ℕ, zero, suc, ◌+◌, ◌-◌, List, [], ◌∷◌, ◌++◌, nat_le, Option, Some}
use Rattle.std.specs.Prelude.{None}
use Rattle.std.specs.Prelude.{slice_get, if◌then◌else◌}
use Rattle.schema_catalog.specs.Tables.{Tables}
use Rattle.smo_ops_types.specs.Operators.{Operator}
use Rattle.smo_ops_types.specs.Commands.{PlainVersion}
use Rattle.smo_ops_spec.specs.After.{schema_after}
use Rattle.smo_ops_spec.specs.Evolutions.{members_of_all}
use Rattle.smo_ops_spec.specs.Losses.{Loss}
use Rattle.smo_ops_spec.specs.Past.{no_tables, tables_from}
use Rattle.smo_ops_spec.specs.WaysBack.{WayBack, by_inverse, by_filling, no_way, way_back_over}
use Rattle.smo_ops_versions_spec.specs.Steps.{Step, carrying, filling, undoing, carrying_each}

-- back over one operator, which stands after the tables `before`, where no inverse is named
abbrev pub step_by : Loss → Tables → Operator → WayBack → Step
step_by loss before op (by_inverse inverse) = carrying (schema_after before op) inverse
step_by loss before op (by_filling f) = filling loss (schema_after before op) f
step_by loss before op no_way = undoing loss before op

abbrev pub step_back : Loss → Tables → Operator → Step
step_back loss before op = step_by loss before op (way_back_over before op)

-- back over the members of the operator of version k, from the last to the first; the first of these
-- has place i in it, and stands after the tables `before`
abbrev pub back_over_members : ℕ → ℕ → Tables → List Operator → List Step
back_over_members k i before [] = []
back_over_members k i before (op ∷ ops) = back_over_members k (i + 1) (schema_after before op) ops
    ++ step_back (k, i) before op ∷ []

-- Back over the operator of version k: over the operators of its inverse, first to last, where one
-- is named, and else over its members. `before` and `after` are the tables on its two sides.
abbrev pub back_over : ℕ → Tables → List Operator → Tables → List (List Operator) → List Step
back_over k before op after [] = back_over_members k 1 before op
back_over k before op after (i ∷ inverse) = carrying_each after (members_of_all (i ∷ inverse))

-- over the members of a version's operator, the first of which stands after the tables, and back over
-- it; where there is no such version nothing is done
abbrev pub over_version : Tables → Option PlainVersion → List Step
over_version before None = []
over_version before (Some v) = carrying_each before v.op

abbrev pub back_over_version : ℕ → Tables → Option PlainVersion → List Step
back_over_version k before None = []
back_over_version k before (Some v) = back_over k before v.op v.tables v.inverse

-- from version k to the next, and from the next back to version k
abbrev pub to_next : List PlainVersion → ℕ → List Step
to_next versions k = over_version (tables_from no_tables versions k) (slice_get versions k)

abbrev pub from_next : List PlainVersion → ℕ → List Step
from_next versions k =
    back_over_version (k + 1) (tables_from no_tables versions k) (slice_get versions k)

-- so many versions from version v on, and so many back to version q
abbrev pub forward : (ℕ → List Step) → ℕ → ℕ → List Step
forward step v zero = []
forward step v (suc n) = forward step v n ++ step (v + n)

abbrev pub backward : (ℕ → List Step) → ℕ → ℕ → List Step
backward step q zero = []
backward step q (suc n) = backward step (q + 1) n ++ step q

-- from version v to version q: forward where q is not before v, and else back
abbrev pub way : List PlainVersion → ℕ → ℕ → List Step
way versions v q = if nat_le v q then forward (to_next versions) v (q - v)
    else backward (from_next versions) q (v - q)
