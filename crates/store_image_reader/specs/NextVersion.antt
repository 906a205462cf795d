-- When a version that was read is the next one, after those that stand before it.
use Rattle.std.specs.Prelude.{◌≡◌, ℕ, ◌&&◌, Bool, true, false, List, [], ◌∷◌, Option, Some, None}
use Rattle.std.specs.Prelude.{is_none, nat_lt}
use Rattle.schema_catalog.specs.Tables.{Tables}
use Rattle.smo_ops_types.specs.Commands.{evolving, PlainVersion, version_of}
use Rattle.smo_ops_types.specs.Operators.{Operator, operator_of, operators_of}
use Rattle.smo_ops_types.specs.declared.op.Op.{Op}
use Rattle.smo_ops_types.specs.declared.version.Version.{Version}
use Rattle.std.specs.declared.vec.Vec.{Vec}
use Rattle.std.specs.declared.alloc.Global.{Global}
use Rattle.prima_base.specs.Limits.{max_versions}
use Rattle.smo_ops_spec.specs.Evolutions.{schema_after_each, evolution_fault}
use Rattle.smo_ops_spec.specs.Counts.{first_excess}
use Rattle.smo_ops_spec.specs.Inverses.{inverse_fault}
use Rattle.store_image_spec.specs.ItemChecks.{is_stamp, is_later, is_version}
use Rattle.store_image_spec.specs.Reader.{version_after}

-- the stamp of the newest version
abbrev pub newest_stamp : List PlainVersion → Option ℕ
newest_stamp [] = None
newest_stamp (v ∷ []) = Some v.stamp
newest_stamp (v ∷ (w ∷ versions)) = newest_stamp (w ∷ versions)

-- there can be a version more, and its stamp is later than that of the newest and not later than
-- the last
abbrev pub is_in_turn : Option ℕ → ℕ → Option ℕ → ℕ → Bool
is_in_turn last number before stamp = is_stamp last stamp
    && (nat_lt number max_versions && is_later before stamp)

-- the operator is accepted and its inverse leads back
abbrev pub is_valid : Tables → List Operator → List (List Operator) → Bool
is_valid tables op inverse = is_none (first_excess (evolving op inverse))
    && (is_none (evolution_fault tables op) && is_none (inverse_fault tables op inverse))

-- the schema after it is told just where it is
abbrev pub IsOperatorAccepted : Tables → List Operator → List (List Operator) → Option Tables
    → Type 0
IsOperatorAccepted tables op inverse None = is_valid tables op inverse ≡ false
IsOperatorAccepted tables op inverse (Some next) = (is_valid tables op inverse ≡ true)
    × (next ≡ schema_after_each tables op)

abbrev pub version_read : Tables → ℕ × Op × Vec Op Global → PlainVersion
version_read tables read = version_after tables
    (read.0, (operator_of read.1, operators_of read.2.items))

-- the version is told just where it is accepted
abbrev pub IsAcceptedAfter : Option ℕ → ℕ → Option ℕ → Tables → ℕ × Op × Vec Op Global
    → Option Version → Type 0
IsAcceptedAfter last number before tables read None =
    is_version last number before tables (version_read tables read) ≡ false
IsAcceptedAfter last number before tables read (Some v) =
    (is_version last number before tables (version_read tables read) ≡ true)
    × (version_of v ≡ version_read tables read)
