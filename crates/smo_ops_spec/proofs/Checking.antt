-- Whether a command is accepted depends on the newest schema, the number of versions and the last
-- stamp alone.
use Rattle.std.proofs.Common.{◌≡◌, ℕ, List, ◌∷◌, length, ap, ◌∙◌}
use Rattle.std.specs.Prelude.{nat_lt, Option}
use Rattle.std.specs.Option.{option_map}
use Rattle.prima_base.specs.declared.refusal.What.TheVariants.{Versions}
use Rattle.prima_base.specs.declared.refusal.Refusal.TheVariants.{TooMany}
use Rattle.prima_base.specs.Limits.{max_versions}
use Rattle.schema_catalog.specs.Tables.{Tables}
use Rattle.smo_ops_types.specs.Commands.{PlainBody, changing, evolving, PlainCommand}
use Rattle.smo_ops_spec.specs.First.{unless, first_refusal}
use Rattle.smo_ops_spec.specs.Evolutions.{evolution_fault}
use Rattle.smo_ops_spec.specs.Counts.{first_excess}
use Rattle.smo_ops_spec.specs.Checks.{Fault, changes_tests}
use Rattle.smo_ops_spec.specs.Inverses.{inverse_tests}
use Rattle.smo_ops_spec.specs.Past.{Past, newest_tables}
use Rattle.smo_ops_spec.specs.Accepts.{operator_refusal, count_fault, stamp_fault}
use Rattle.smo_ops_spec.specs.Accepts.{body_tests, command_fault}

-- the tests of a body over tables, with so many versions before it
abbrev tests_over : Tables → ℕ → PlainBody → List Fault
tests_over tables n (changing changes) = changes_tests tables changes 0
tests_over tables n (evolving op inverse) =
    unless (nat_lt n max_versions) (TooMany Versions max_versions)
    ∷ option_map operator_refusal (evolution_fault tables op) ∷ inverse_tests tables op inverse

same_tests : (p q : Past) → newest_tables p ≡ newest_tables q
    → length p.versions ≡ length q.versions → (body : PlainBody)
    → body_tests p body ≡ body_tests q body
same_tests p q t n (changing changes) = ap (λ (tables : Tables).
    tests_over tables 0 (changing changes)) t
same_tests p q t n (evolving op inverse) =
    ap (λ (tables : Tables). tests_over tables (length p.versions) (evolving op inverse)) t
    ∙ ap (λ (k : ℕ). tests_over (newest_tables q) k (evolving op inverse)) n

pub same_fault : (p q : Past) → newest_tables p ≡ newest_tables q
    → length p.versions ≡ length q.versions → p.last ≡ q.last → (command : PlainCommand)
    → command_fault p command ≡ command_fault q command
same_fault p q t n l command =
    ap (λ (tests : List Fault). first_refusal
    (count_fault (first_excess command.body) ∷ stamp_fault p.last command.stamp ∷ tests))
    (same_tests p q t n command.body)
    ∙ ap (λ (last : Option ℕ). first_refusal (count_fault (first_excess command.body)
    ∷ stamp_fault last command.stamp ∷ body_tests q command.body)) l
