-- What sessions share.
use Rattle.std.specs.Prelude.{ℕ, ◌+◌, ◌-◌, length}
use Rattle.smo_ops_types.specs.Commands.{PlainCommand}
use Rattle.smo_ops_spec.specs.Past.{Past, past_with}

-- the past, the place at which the next record is put, and the limit that all records keep to
pub record Shared : Type 0 where
  pub past : Past
  pub place : ℕ
  pub limit : ℕ

-- the newest version
abbrev pub newest : Shared → ℕ
newest shared = length shared.past.versions

-- the same with one command more, whose record has so many bytes
abbrev pub shared_with : ℕ → PlainCommand → Shared → Shared
shared_with need command shared = record {
  past = past_with shared.past command;
  place = shared.place + need - 1;
  limit = shared.limit;
}
