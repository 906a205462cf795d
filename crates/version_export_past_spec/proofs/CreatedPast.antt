-- Of one table, the EVOLVE that creates it is accepted after the beginning and makes a past that
-- has just this table, with no row.
use Rattle.std.specs.Prelude.{◌≡◌, ◌+◌, ◌≤◌, ◌||◌, ◌++◌, ℕ, true, not, List, [], ◌∷◌}
use Rattle.std.specs.Prelude.{cond}
use Rattle.std.specs.Prelude.{length, nat_le, is_some, Option, Some, None}
use Rattle.std.proofs.Common.{refl, sym, ap, subst, ◌∙◌, inl, inr, arith}
use Rattle.std.specs.Option.{option_map}
use Rattle.std.specs.Ordering.{eq_by_cmp}
use Rattle.std.specs.declared.cmp.Ordering.TheVariants.{Less}
use Rattle.std.specs.Cmp.Lexicographic.{nat_list_cmp_total}
use Rattle.std.specs.FinMap.{get, insert, entries, find, len, get-empty, get-insert, get-entries}
use Rattle.std.specs.FinMap.{len-insert, len-empty, same_map, slice_cmp-IsAntisymmetric}
use Rattle.std.specs.FinMap.{nat_cmp-IsAntisymmetric}
use Rattle.relations_spec.specs.Sets.{In, BeforeAll, Ascends, placed, put_in, set_of}
use Rattle.prima_base.specs.declared.refusal.What.TheVariants.{Tables as TABLES, Columns as COLUMNS}
use Rattle.prima_base.specs.declared.refusal.OpRefusal.{OpRefusal}
use Rattle.prima_base.specs.declared.refusal.OpRefusal.TheVariants.{Exists, ColumnExists}
use Rattle.prima_base.specs.declared.refusal.OpRefusal.TheVariants.{LastColumn}
use Rattle.prima_base.specs.declared.refusal.OpRefusal.TheVariants.{TooMany}
use Rattle.prima_base.specs.Limits.{max_columns, max_tables}
use Rattle.prima_base.specs.Order.{bytes_cmp}
use Rattle.prima_base.specs.Columns.{Column, names_of, AreColumns}
use Rattle.schema_catalog.specs.Places.{NamedColumns}
use Rattle.schema_catalog.specs.Tables.{Tables}
use Rattle.smo_ops_types.specs.Operators.{create_table}
use Rattle.smo_ops_types.specs.Commands.{PlainBody, evolving}
use Rattle.smo_ops_spec.specs.First.{unless, first_refusal}
use Rattle.smo_ops_spec.specs.Preconditions.{among, again_after, is_some_column}
use Rattle.smo_ops_spec.specs.Preconditions.{each_once, few_columns, few_tables}
use Rattle.smo_ops_spec.specs.Making.{column_cmp, in_order}
use Rattle.smo_ops_spec.specs.After.{op_fault, schema_after}
use Rattle.smo_ops_spec.specs.Past.{Past, no_tables, beginning, past_with}
use Rattle.smo_ops_spec.specs.Past.{next_version, newest_database}
use Rattle.smo_ops_spec.specs.Accepts.{command_fault, operator_refusal}
use Rattle.smo_ops_spec.proofs.OneMembers.{one_member_fault}
use Rattle.smo_ops_spec.proofs.PastMoments.{before_or_not}
use Rattle.smo_ops_spec.proofs.PastSteps.{beginning_is_past, before_command, from_command}
use Rattle.version_export_past_spec.specs.Commands.{a_command}
use Rattle.version_export_past_spec.specs.Blank.{IsBlank, IsCreated}
use Rattle.version_export_past_spec.proofs.NewNames.{is_new, are_new_after}
use Rattle.version_export_past_spec.proofs.BlankDatabases.{blank_carried}
use Rattle.version_export_past_spec.proofs.EarlyMoments.{IsAccepted, accepted_so, next_is_past}
use Rattle.version_export_past_spec.proofs.EarlyMoments.{blank_without}
use Rattle.version_export_past_spec.proofs.EarlyMoments.{blank_newest}

-- columns in the order of their names stay as they are
pub already_in_order : (columns : List Column) → AreColumns columns → in_order columns ≡ columns
unfolding set_of
already_in_order [] a = refl
already_in_order (c ∷ columns) a = ap (put_in column_cmp c) (already_in_order columns a.1)
    ∙ first columns a.0
  where
    use_less : (d : Column) (ds : List Column) → bytes_cmp c.0 d.0 ≡ Less
        → put_in column_cmp c (d ∷ ds) ≡ c ∷ d ∷ ds
    use_less d ds e = ap (λ o. placed o c d ds (put_in column_cmp c ds)) e

    first : (cs : List Column) → BeforeAll bytes_cmp c.0 (names_of cs)
        → put_in column_cmp c cs ≡ c ∷ cs
    first [] b = refl
    first (d ∷ ds) b = use_less d ds b.0

-- no name stands twice
pub none_again : (before names : List (List ℕ)) → ((n : List ℕ) → In n names → ¬ In n before)
    → Ascends bytes_cmp names → again_after before names ≡ None
none_again before [] h a = refl
none_again before (n ∷ names) h a =
    ap (λ b. cond b (Some n) (again_after (before ++ n ∷ []) names)) (is_new n before names h a)
    ∙ none_again (before ++ n ∷ []) names (are_new_after n before names h a) a.1

fits : (m n : ℕ) → m ≤ n → nat_le m n ≡ true
fits m n l = grind (arith, l)

module _ (t : NamedColumns) (are : AreColumns t.1) (some : 1 ≤ length t.1)
    (narrow : length t.1 ≤ max_columns) (stamp : ℕ) where
  abbrev body : PlainBody
  body = evolving (create_table t.0 t.1 ∷ []) []

  one_table : len (insert no_tables t.0 (in_order t.1)) ≡ 1
  one_table =
      len-insert nat_list_cmp_total no_tables t.0 (in_order t.1)
      ∙ ap (λ (o : Option (List Column)). cond (is_some o) (len no_tables) (len no_tables + 1))
      (get-empty bytes_cmp t.0)
      ∙ ap (λ k. k + 1) (len-empty bytes_cmp (List Column))

  accepted_operator : op_fault no_tables (create_table t.0 t.1) ≡ None
  accepted_operator =
      ap (λ (o : Option (List Column)). first_refusal
      (unless (not (is_some o) || among t.0 []) (Exists t.0) ∷ is_some_column t.0 t.1
      ∷ each_once t.0 (names_of t.1) ∷ few_columns t.1
      ∷ few_tables (insert no_tables t.0 (in_order t.1)) ∷ [])) (get-empty bytes_cmp t.0)
      ∙ ap (λ b. first_refusal (unless b (LastColumn t.0) ∷ each_once t.0 (names_of t.1)
      ∷ few_columns t.1 ∷ few_tables (insert no_tables t.0 (in_order t.1)) ∷ []))
      (fits 1 (length t.1) some)
      ∙ ap (λ o. first_refusal (option_map (ColumnExists t.0) o ∷ few_columns t.1
      ∷ few_tables (insert no_tables t.0 (in_order t.1)) ∷ []))
      (none_again [] (names_of t.1) (λ n i j. j) are)
      ∙ ap (λ b. first_refusal (unless b (TooMany COLUMNS max_columns)
      ∷ few_tables (insert no_tables t.0 (in_order t.1)) ∷ []))
      (fits (length t.1) max_columns narrow)
      ∙ ap (λ n. first_refusal (unless (nat_le n max_tables) (TooMany TABLES max_tables) ∷ []))
      one_table

  pub creation_accepted : command_fault beginning (a_command stamp body) ≡ None
  creation_accepted = ap (λ (o : Option OpRefusal).
      first_refusal (option_map operator_refusal o ∷ []))
      (one_member_fault no_tables (create_table t.0 t.1) ∙ accepted_operator)

  ok : IsAccepted beginning (a_command stamp body)
  ok = accepted_so beginning (a_command stamp body) creation_accepted

  abbrev created : Past
  created = past_with beginning (a_command stamp body)

  -- the tables that have just this one
  pub same_tables : (tables : Tables) → entries tables ≡ t ∷ []
      → schema_after no_tables (create_table t.0 t.1) ≡ tables
  same_tables tables e = same_map nat_list_cmp_total
      (slice_cmp-IsAntisymmetric nat_cmp-IsAntisymmetric)
      (schema_after no_tables (create_table t.0 t.1)) tables
      (λ n. get-insert nat_list_cmp_total no_tables t.0 (in_order t.1) n
      ∙ ap (λ (cs : List Column). cond (eq_by_cmp bytes_cmp n t.0) (Some cs) (get no_tables n))
      (already_in_order t.1 are)
      ∙ ap (λ (o : Option (List Column)). cond (eq_by_cmp bytes_cmp n t.0) (Some t.1) o)
      (get-empty bytes_cmp n)
      ∙ sym (get-entries tables n ∙ ap (find bytes_cmp n) e))

  pub is_created : (tables : Tables) → entries tables ≡ t ∷ [] → IsCreated tables stamp created
  is_created tables e = record {
    valid = next_is_past beginning (a_command stamp body) beginning_is_past ok;
    version = next_version stamp (create_table t.0 t.1 ∷ []) [] beginning;
    versions = refl;
    begins = refl;
    has = same_tables tables e;
    last = omega arith;
    blank = λ m. elim (before_or_not m stamp) [
      | inl b ↦ subst IsBlank (sym (before_command beginning stamp body m b))
          (blank_without beginning beginning_is_past refl m)
      | inr b ↦ subst IsBlank (sym (from_command beginning stamp body beginning_is_past
          (omega arith)
          ok.tests m b))
          (blank_carried no_tables (create_table t.0 t.1) (newest_database beginning)
          (blank_newest beginning beginning_is_past refl))
    ];
  }
