-- Records of what is due, one part after the other.
use Rattle.std.proofs.Common.{◌≡◌, ◌⊎◌, inl, inr, ⊎_elim, ℕ, zero, suc, List, [], ◌∷◌, ◌++◌, take}
use Rattle.std.proofs.Common.{refl, ap}
use Rattle.archive_core_file_spec.specs.LogRecords.{LogRecord, AreEncoded}
use Rattle.script_cli_statement.specs.Due.{Due, command_due, image_due, commands_due, AreRecordsOf}
use Rattle.script_cli_statement.specs.Due.{AreFirstOf}

-- the records of two parts, apart
pub record Parts (xs ys : List Due) (log : List LogRecord) : Type 0 where
  pub prefix : List LogRecord
  pub rest : List LogRecord
  pub both : log ≡ prefix ++ rest
  pub prefix_are : AreRecordsOf xs prefix
  pub rest_are : AreRecordsOf ys rest

pub records_apart : (xs ys : List Due) (log : List LogRecord) → AreRecordsOf (xs ++ ys) log
    → Parts xs ys log
records_apart [] ys log are = record {
  prefix = [];
  rest = log;
  both = refl;
  prefix_are = tt;
  rest_are = are;
}
records_apart (x ∷ xs) ys [] are = absurd are
records_apart (x ∷ xs) ys (r ∷ log) are =
    let parts = records_apart xs ys log are.1 in
    record {
      prefix = r ∷ parts.prefix;
      rest = parts.rest;
      both = ap (λ l. r ∷ l) parts.both;
      prefix_are = (are.0, parts.prefix_are);
      rest_are = parts.rest_are;
    }

pub records_together : (xs ys : List Due) (a b : List LogRecord) → AreRecordsOf xs a
    → AreRecordsOf ys b → AreRecordsOf (xs ++ ys) (a ++ b)
records_together [] ys [] b first then = then
records_together [] ys (r ∷ a) b first then = absurd first
records_together (x ∷ xs) ys [] b first then = absurd first
records_together (x ∷ xs) ys (r ∷ a) b first then =
    (first.0, records_together xs ys a b first.1 then)

-- all of the records are the first of more
pub all_first : (xs more : List Due) (log : List LogRecord) → AreRecordsOf xs log
    → AreFirstOf (xs ++ more) log
all_first xs more [] are = tt
all_first [] more (r ∷ log) are = absurd are
all_first (x ∷ xs) more (r ∷ log) are = (are.0, all_first xs more log are.1)

pub are_first : (xs : List Due) (log : List LogRecord) → AreRecordsOf xs log → AreFirstOf xs log
are_first xs [] are = tt
are_first [] (r ∷ log) are = absurd are
are_first (x ∷ xs) (r ∷ log) are = (are.0, are_first xs log are.1)

-- records of the first part, of which the second has none yet; or of all of the first part, and of
-- the first of the second
pub record FirstParts (xs ys : List Due) (log : List LogRecord) : Type 0 where
  pub prefix : List LogRecord
  pub rest : List LogRecord
  pub both : log ≡ prefix ++ rest
  pub prefix_are : AreRecordsOf xs prefix
  pub rest_are : AreFirstOf ys rest

pub first_apart : (xs ys : List Due) (log : List LogRecord) → AreFirstOf (xs ++ ys) log
    → AreFirstOf xs log ⊎ FirstParts xs ys log
first_apart xs ys [] are = inl tt
first_apart [] ys (r ∷ log) are = inr (record
    { prefix = []; rest = r ∷ log; both = refl; prefix_are = tt; rest_are = are })
first_apart (x ∷ xs) ys (r ∷ log) are = ⊎_elim
    (λ first. inl (are.0, first))
    (λ parts. inr (record {
      prefix = r ∷ parts.prefix;
      rest = parts.rest;
      both =
          ap (λ l. r ∷ l) parts.both;
      prefix_are = (are.0, parts.prefix_are);
      rest_are =
          parts.rest_are;
    }))
    (first_apart xs ys log are.1)

-- the commands of two parts
pub commands_append : (xs ys : List Due) → commands_due (xs ++ ys) ≡ commands_due xs
    ++ commands_due ys
commands_append [] ys = refl
commands_append (command_due command ∷ xs) ys = ap (λ l. command ∷ l) (commands_append xs ys)
commands_append (image_due past ∷ xs) ys = commands_append xs ys

-- ---- spelled records

pub encoded_append : (xs ys : List LogRecord) → AreEncoded xs → AreEncoded ys
    → AreEncoded (xs ++ ys)
encoded_append [] ys a b = b
encoded_append (x ∷ xs) ys a b = (a.0, encoded_append xs ys a.1 b)

pub encoded_prefix : (n : ℕ) (xs : List LogRecord) → AreEncoded xs → AreEncoded (take n xs)
encoded_prefix zero xs a = tt
encoded_prefix (suc n) [] a = tt
encoded_prefix (suc n) (x ∷ xs) a = (a.0, encoded_prefix n xs a.1)
