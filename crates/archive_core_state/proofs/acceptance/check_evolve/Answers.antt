use Rattle.std.proofs.Common.{◌≡◌, ◌∙◌, ℕ, length, sym, ap, subst}
use Rattle.std.proofs.lemmas.List.{length-map}
use Rattle.std.specs.Prelude.{None, Err, nat_lt}
use Rattle.std.specs.Option.{option_map}
use Rattle.prima_base.specs.Faults.{IsTested}
use Rattle.prima_base.specs.Limits.{max_versions}
use Rattle.prima_base.specs.declared.refusal.Refusal.TheVariants.{TooMany}
use Rattle.prima_base.specs.declared.refusal.What.TheVariants.{Versions}
use Rattle.schema_catalog.specs.Tables.{Tables}
use Rattle.smo_ops_types.specs.Commands.{version_of}
use Rattle.smo_ops_types.specs.Operators.{evolution_of, evolutions_of}
use Rattle.smo_ops_spec.specs.Accepts.{operator_refusal}
use Rattle.smo_ops_spec.specs.Evolutions.{evolution_fault}
use Rattle.smo_ops_spec.specs.First.{unless, first_refusal}
use Rattle.smo_ops_spec.specs.Inverses.{inverse_tests}
use Rattle.smo_ops_spec.specs.Past.{newest_tables}
use Rattle.archive_core_state.proofs.Checking.{few_operators, checked_after}
use Rattle.archive_core_state.proofs.acceptance.check_evolve.Goals as goal

-- src/acceptance.rt:132:5
pub check_its_inverse-requires-clause-few : goal.check_its_inverse-requires-clause-few
check_its_inverse-requires-clause-few c = few_operators (evolution_of c.args.op.now)
    c.args.inverse.now
    c.requires.counted

pub check_its_inverse-requires-clause-inverse : goal.check_its_inverse-requires-clause-inverse
check_its_inverse-requires-clause-inverse c =
    (c.counted_operators_are_few.ensures (evolution_of c.args.op.now)
    (evolutions_of c.args.inverse.now) c.requires.counted).1

pub returns-in-Err-clause-tested : goal.returns-in-Err-clause-tested
returns-in-Err-clause-tested c past represents =
    let op = evolution_of c.args.op.now in
    let inverse = evolutions_of c.args.inverse.now in
    let schema : c.newest_schema-before.result.now ≡ newest_tables past =
    c.newest_schema-before.ensures past represents in
    let number : c.newest.result ≡ length past.versions = c.newest.ensures
    ∙ sym (length-map c.args.groups.now.versions version_of) ∙ ap length represents.versions in
    checked_after {A = Tables} (unless (nat_lt (length past.versions) max_versions)
    (TooMany Versions max_versions))
    (option_map operator_refusal (evolution_fault (newest_tables past) op))
    (inverse_tests (newest_tables past) op inverse) (Err c.in-Err.fault)
    (ap (λ (n : ℕ). unless (nat_lt n max_versions) (TooMany Versions max_versions)) (sym number)
    ∙ c.in_ok-check_versions.ensures)
    (ap (λ (t : Tables). option_map operator_refusal (evolution_fault t op)) (sym schema)
    ∙ c.in_ok-next.ensures.tested)
    (subst (λ (t : Tables). IsTested {A = Tables} (first_refusal (inverse_tests t op inverse))
    (Err c.in-Err.fault)) schema (c.in-Err.ensures op c.in_ok-next.ensures.next))
