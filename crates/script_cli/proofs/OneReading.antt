-- A file opens as one list of records, or is damaged at one place, and never both.
use Rattle.std.proofs.Common.{◌≡◌, ℕ, List}
use Rattle.archive_core_file_spec.specs.LogRecords.{LogRecord}
use Rattle.archive_core_file_spec.specs.Opening.{Opens, Damages}

abbrev pub OpensOnce : Type 0
OpensOnce = (file : List ℕ) (a b : List LogRecord) → Opens file a → Opens file b → a ≡ b

abbrev pub DamagedOnce : Type 0
DamagedOnce = (file : List ℕ) (p q : ℕ) → Damages file p → Damages file q → p ≡ q

abbrev pub NeverBoth : Type 0
NeverBoth = (file : List ℕ) (log : List LogRecord) (place : ℕ) → Opens file log → Damages file place
    → ⊥
