-- A past that is rebuilt from what tables show.
use Rattle.std.specs.Prelude.{◌≡◌, ◌≤◌, ◌<◌, ℕ, List, [], ◌∷◌, length, ⊤}
use Rattle.prima_base.specs.Limits.{max_changes}
use Rattle.schema_catalog.specs.Databases.{Database}
use Rattle.smo_ops_types.specs.Commands.{PlainBody, changing, evolving, PlainCommand}
use Rattle.smo_ops_spec.specs.Past.{Past, database_at}
use Rattle.smo_ops_spec.specs.History.{past_after, AllAccepted}
use Rattle.smo_ops_spec.specs.ValidPast.{IsPast}

-- what is shown changes at these moments alone, which rise above the first one
abbrev pub IsSteady : (ℕ → Database) → ℕ → List ℕ → Type 0
IsSteady shown low [] = (m : ℕ) → low ≤ m → shown m ≡ shown low
IsSteady shown low (s ∷ moments) = (low < s)
    × ((m : ℕ) → low ≤ m → m < s → shown m ≡ shown low) × IsSteady shown s moments

-- no command has too many changes
abbrev pub FewChanges : PlainBody → Type 0
FewChanges (changing changes) = length changes ≤ max_changes
FewChanges (evolving op inverse) = ⊤

abbrev pub AllFew : List PlainCommand → Type 0
AllFew [] = ⊤
AllFew (c ∷ commands) = FewChanges c.body × AllFew commands

-- the commands are accepted after the past, one after the other, and make one that has at each
-- moment before this what the past had, and from it on what is shown
pub record IsRebuilt (past : Past) (commands : List PlainCommand) (from : ℕ) (shown : ℕ → Database)
    : Type 0 where
  pub accepted : AllAccepted past commands
  pub valid : IsPast (past_after past commands)
  pub versions : (past_after past commands).versions ≡ past.versions
  pub before : (m : ℕ) → m < from
      → database_at (past_after past commands) m ≡ database_at past m
  pub after : (m : ℕ) → from ≤ m → database_at (past_after past commands) m ≡ shown m
