-- Where an export is not refused, no table is lost and no statement is too long.
use Rattle.std.specs.Prelude.{◌≡◌, ◌≤◌, ◌++◌, ℕ, Bool, true, false, List, [], ◌∷◌, length, map}
use Rattle.std.specs.Prelude.{nat_le, Option, None, codes, decimal}
use Rattle.std.proofs.Common.{refl, sym, ap, subst, ◌∙◌, inl, inr, arith}
use Rattle.std.proofs.lemmas.Bool.Decides.{nat_tests}
use Rattle.relations_spec.specs.Sets.{In}
use Rattle.prima_base.specs.Limits.{max_statement}
use Rattle.schema_catalog.specs.Places.{NamedColumns}
use Rattle.smo_ops_types.specs.Commands.{PlainBody, PlainCommand}
use Rattle.smo_ops_spec.specs.First.{where_so, first_refusal}
use Rattle.smo_ops_spec.specs.Past.{Past}
use Rattle.smo_ops_spec.proofs.Firsts.{met, none_of_first, none_of_both, none_mapped}
use Rattle.temporal_lang_spec.specs.Losing.{first_lost}
use Rattle.version_export_past_spec.specs.Showing.{first_stamp, tables_in}
use Rattle.version_export_lines_spec.specs.Lines.{body_text, command_text}
use Rattle.version_export_lines_spec.specs.Read.{IsShort, AllShort}
use Rattle.version_export.specs.Exported.{exported, after_creation, rows_exported, whole_query}
use Rattle.version_export.specs.Exported.{NoTableLost}
use Rattle.version_export.specs.Statements.{Statement, statement_of, creation_text, statements}
use Rattle.version_export.specs.Statements.{after_creates}
use Rattle.version_export.specs.Refused.{Fault, no_version, too_long, by_loss, version_test}
use Rattle.version_export.specs.Refused.{table_test}
use Rattle.version_export.specs.Refused.{length_test, export_fault}

each_none : {X : Type 0} (f : X → Option Fault) (xs : List X) → first_refusal (map f xs) ≡ None
    → (x : X) → In x xs → f x ≡ None
each_none f [] e x m = absurd m
each_none f (y ∷ xs) e x (inl q) = ap f (sym q) ∙ (none_of_first (f y) (map f xs) e).0
each_none f (y ∷ xs) e x (inr m) = each_none f xs (none_of_first (f y) (map f xs) e).1 x m

not_so : (b : Bool) (r : Fault) → where_so b r ≡ None → b ≡ false
not_so true r e = absurd (cc)
not_so false r e = refl

short : (c : PlainCommand) → length_test (statement_of c) ≡ None → IsShort c
short c e = (let b : nat_le max_statement (length (command_text c)) ≡ false
    = not_so (nat_le max_statement (length (command_text c)))
    (too_long c.stamp (length (command_text c))) e in grind (arith, nat_tests, b))

all_short : (commands : List PlainCommand)
    → first_refusal (map length_test (map statement_of commands)) ≡ None → AllShort commands
all_short [] e = tt
all_short (c ∷ commands) e = (let h = none_of_first (length_test (statement_of c))
    (map length_test (map statement_of commands)) e in
    (short c h.0, all_short commands h.1))

-- the statements are those of the commands, where the EVOLVE is of that text
pub statements_are : (creating : List NamedColumns → PlainBody) (past : Past) (version : ℕ)
    → body_text (creating (tables_in past version)) ≡ creation_text (tables_in past version)
    → statements past version ≡ map statement_of (exported creating past version)
statements_are creating past version e = by_tables (tables_in past version) e
  where
    by_tables : (ts : List NamedColumns) → body_text (creating ts) ≡ creation_text ts
        → after_creates (first_stamp past) ts (map statement_of (rows_exported past version))
        ≡ map statement_of (after_creation creating (first_stamp past) ts
        (rows_exported past version))
    by_tables [] q = refl
    by_tables (t ∷ ts) q = ap (λ (text : List ℕ). (
      first_stamp past,
      codes "AT "
          ++ decimal (first_stamp past) ++ codes " " ++ text,
    )
        ∷ map statement_of (rows_exported past version)) (sym q)

module _ (past : Past) (version : ℕ) (e : export_fault past version ≡ None) where
  rest : first_refusal (map (table_test past version) (tables_in past version)
      ++ map length_test (statements past version)) ≡ None
  rest = (none_of_first (version_test past version) _ e).1

  parts : (first_refusal (map (table_test past version) (tables_in past version)) ≡ None)
      × (first_refusal (map length_test (statements past version)) ≡ None)
  parts = none_of_both (map (table_test past version) (tables_in past version))
      (map length_test (statements past version)) rest

  pub is_version : version ≤ length past.versions
  is_version = (let b = met (nat_le version (length past.versions))
      (no_version version (length past.versions))
      (none_of_first (version_test past version) _ e).0 in grind (arith, nat_tests, b))

  pub no_table_lost : NoTableLost past version
  no_table_lost t m = none_mapped (by_loss past.versions) (first_lost past (whole_query version t))
      (each_none (table_test past version) (tables_in past version) parts.0 t m)

  pub lines_short : (creating : List NamedColumns → PlainBody)
      → body_text (creating (tables_in past version)) ≡ creation_text (tables_in past version)
      → AllShort (exported creating past version)
  lines_short creating q = all_short (exported creating past version)
      (subst (λ (ss : List Statement). first_refusal (map length_test ss) ≡ None)
      (statements_are creating past version q) parts.1)
