use Rattle.std.proofs.Common.{◌≡◌, ℕ, List, [], true, map, length, refl, sym, ap, subst, ◌∙◌, arith}
use Rattle.std.specs.FinMap.{contains_key}
use Rattle.schema_catalog.specs.Tables.{Tables}
use Rattle.cond_expr.specs.Seen.{test}
use Rattle.cond_expr.specs.Trees.{Test, always}
use Rattle.smo_ops_types.specs.Commands.{PlainVersion, version_of, versions_of}
use Rattle.smo_ops_spec.specs.Past.{no_tables, tables_from}
use Rattle.version_groups.specs.Groups.{Kept, versions_in}
use Rattle.piece_ir_spec.specs.Beginnings.{IsQuestion, asking}
use Rattle.tests_archive.proofs.version.may_be_asked.Goals as goal

pub schema_of-schema-requires : goal.schema_of-schema-requires
schema_of-schema-requires c =
    let groups = ap (λ (k : Kept). length k.versions) c.groups.ensures.groups in
    let same = ap length c.requires.same in
    omega (arith, groups, same, c.requires.there)

pub returns : goal.returns
returns c = λ found.
    let versions = versions_of c.args.versions.now in
    let table = c.args.table.now in
    let same : versions_in c.groups.result.now ≡ versions =
    ap (λ (k : Kept). versions_in k) c.groups.ensures.groups
    ∙ ap (map version_of) (sym c.requires.same) in
    let schema : c.schema_of-schema.result.now ≡ tables_from no_tables versions c.args.asked =
    c.schema_of-schema.ensures
    ∙ ap (λ (vs : List PlainVersion). tables_from no_tables vs c.args.asked) same in
    let there : contains_key (tables_from no_tables versions c.args.asked) table ≡ true =
    ap (λ (tables : Tables). contains_key tables table) (sym schema)
    ∙ sym c.is_there.ensures ∙ found in
    let question : IsQuestion (tables_from no_tables versions c.args.asked) table
    (asking always []) = record {
      there = there;
      cond = refl;
      columns = λ n m. absurd m;
      ascending = tt;
    } in
    record {
      valid = c.requires.valid;
      question = subst (λ (names : List (List ℕ)). IsQuestion
          (tables_from no_tables versions c.args.asked) table (asking (test c.args.cond.now) names))
          (sym c.requires.columns)
          (subst (λ (t : Test). IsQuestion (tables_from no_tables versions c.args.asked) table
          (asking t [])) (sym c.requires.cond) question);
    }
