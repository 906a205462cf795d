-- What holds of each past that accepted commands make.
use Rattle.std.specs.Prelude.{◌≡◌, ◌≤◌, ◌<◌, ◌⊎◌, ℕ, List, [], ◌∷◌, length, Option, Some, None, ⊤}
use Rattle.prima_base.specs.Limits.{max_versions}
use Rattle.schema_catalog.specs.Databases.{Database, IsDatabase}
use Rattle.smo_ops_types.specs.Commands.{evolving, PlainVersion}
use Rattle.schema_catalog.specs.Tables.{Tables}
use Rattle.smo_ops_spec.specs.After.{IsValid}
use Rattle.smo_ops_spec.specs.Evolutions.{schema_after_each, evolution_fault}
use Rattle.smo_ops_spec.specs.Counts.{first_excess}
use Rattle.smo_ops_spec.specs.Inverses.{inverse_fault}
use Rattle.smo_ops_spec.specs.Past.{State, Past, no_tables, tables_of, newest_tables, version_at}
use Rattle.smo_ops_spec.specs.Past.{database_at, newest_database}

-- each state begins above the one before
abbrev pub Rise : ℕ → List State → Type 0
Rise low [] = ⊤
Rise low (s ∷ states) = (low < s.stamp) × Rise s.stamp states

-- the first state is that of moment 0
abbrev pub AreStates : List State → Type 0
AreStates [] = ⊥
AreStates (s ∷ states) = (s.stamp ≡ 0) × Rise 0 states

-- no state begins later
abbrev pub AllUpTo : ℕ → List State → Type 0
AllUpTo moment [] = ⊤
AllUpTo moment (s ∷ states) = (s.stamp ≤ moment) × AllUpTo moment states

-- each version is in force at the moment
abbrev pub AllInForce : ℕ → List PlainVersion → Type 0
AllInForce moment [] = ⊤
AllInForce moment (v ∷ versions) = (v.stamp ≤ moment) × AllInForce moment versions

-- one of the versions begins at the moment
abbrev pub Begins : ℕ → List PlainVersion → Type 0
Begins moment [] = ⊥
Begins moment (v ∷ versions) = (v.stamp ≡ moment) ⊎ Begins moment versions

-- one of the states begins at the moment
abbrev pub Starts : ℕ → List State → Type 0
Starts moment [] = ⊥
Starts moment (s ∷ states) = (s.stamp ≡ moment) ⊎ Starts moment states

-- each state has another database than the one before, or begins with a version
abbrev pub EachDiffers : List PlainVersion → Database → List State → Type 0
EachDiffers versions before [] = ⊤
EachDiffers versions before (s ∷ states) = ((s.database ≡ before → ⊥) ⊎ Begins s.stamp versions)
    × EachDiffers versions s.database states

-- the same of those after the first, which is that of moment 0
abbrev pub AreDistinct : List PlainVersion → List State → Type 0
AreDistinct versions [] = ⊤
AreDistinct versions (s ∷ states) = EachDiffers versions s.database states

-- with each version a state begins
abbrev pub EachStarts : List State → List PlainVersion → Type 0
EachStarts states [] = ⊤
EachStarts states (v ∷ versions) = Starts v.stamp states × EachStarts states versions

-- the last stamp; 0 where there is none
abbrev pub last_or_nought : Option ℕ → ℕ
last_or_nought None = 0
last_or_nought (Some last) = last

-- the moment is later than the last stamp
abbrev pub IsLater : Option ℕ → ℕ → Type 0
IsLater None moment = ⊤
IsLater (Some last) moment = last < moment

-- a version that is accepted after the tables `before`: its stamp is later than the last version's,
-- its counts are within their limits, its operator and its inverse are not refused, and its tables
-- are those after the operator
pub record IsVersion (last : Option ℕ) (before : Tables) (v : PlainVersion) : Type 0 where
  pub later : IsLater last v.stamp
  pub counted : first_excess (evolving v.op v.inverse) ≡ None
  pub accepted : evolution_fault before v.op ≡ None
  pub inverse : inverse_fault before v.op v.inverse ≡ None
  pub tables : v.tables ≡ schema_after_each before v.op

-- each version is accepted after the one before
abbrev pub AreVersions : Option ℕ → Tables → List PlainVersion → Type 0
AreVersions last before [] = ⊤
AreVersions last before (v ∷ versions) = IsVersion last before v
    × AreVersions (Some v.stamp) v.tables versions

-- a past that accepted commands can have made: its newest database is one of its newest tables, and
-- at each moment its database is one of the version then in force; each version, of which there are
-- not too many, is accepted after the one before; and the states are as the versions and the
-- changes made them
pub record IsPast (past : Past) : Type 0 where
  pub tables : IsValid (newest_tables past)
  pub database : IsDatabase (newest_tables past) (newest_database past)
  pub each : (moment : ℕ) → IsDatabase (tables_of past (version_at past moment))
      (database_at past moment)
  pub versions : AllInForce (last_or_nought past.last) past.versions
  pub evolved : AreVersions None no_tables past.versions
  pub few : length past.versions ≤ max_versions
  pub without : past.last ≡ None → past.versions ≡ []
  pub states : AreStates past.states
  pub distinct : AreDistinct past.versions past.states
  pub begun : EachStarts past.states past.versions
  pub ended : AllUpTo (last_or_nought past.last) past.states
