-- Versions begin at most two lifelines for each member of their operators.
use Rattle.std.proofs.Common.{◌≡◌, ◌≤◌, ◌+◌, ◌*◌, ℕ, suc, Bool, true, false, cond, List, [], ◌∷◌}
use Rattle.std.proofs.Common.{map}
use Rattle.std.proofs.Common.{length, refl, sym, ap, subst, ◌∙◌, arith, inl, inr, length-append}
use Rattle.std.specs.Prelude.{⊤, ◌||◌}
use Rattle.std.specs.List.{filter}
use Rattle.std.specs.FinMap.{entries, entries_sorted}
use Rattle.std.proofs.lemmas.List.{length-map}
use Rattle.relations_spec.specs.Sets.{In, Ascends, BeforeAll}
use Rattle.relations_spec.proofs.SetLaws.{before_in, from_filter, from_map, below_each, in_map}
use Rattle.prima_base.specs.Columns.{Column}
use Rattle.prima_base.specs.Order.{bytes_cmp}
use Rattle.schema_catalog.specs.Tables.{Tables}
use Rattle.smo_ops_types.specs.Commands.{PlainVersion, version_of}
use Rattle.smo_ops_types.specs.declared.version.Version.{Version}
use Rattle.smo_ops_types.specs.Operators.{Operator, nop, create_table, drop_table, rename_table}
use Rattle.smo_ops_types.specs.Operators.{copy_table, merge_table, partition_table, decompose_table}
use Rattle.smo_ops_types.specs.Operators.{join_table, add_column, drop_column, rename_column}
use Rattle.smo_ops_spec.specs.OperatorTable.{line, made_names}
use Rattle.smo_ops_spec.specs.Past.{Past, no_tables}
use Rattle.smo_ops_spec.specs.After.{schema_after}
use Rattle.smo_ops_spec.specs.Touching.{makes}
use Rattle.smo_ops_spec.specs.Evolutions.{one_makes, one_consumes, members_of_all}
use Rattle.smo_ops_spec.proofs.NameLaws.{among_in}
use Rattle.version_groups_tables.proofs.BegunTables.{names_rise}
use Rattle.version_groups_tables.proofs.Places.{not_before_itself}
use Rattle.version_groups.specs.Covering.{line_of}
use Rattle.version_groups.specs.Groups.{Kept, versions_in}
use Rattle.version_groups.specs.Lifelines.{Lifeline, line_after, line_begun, made_tables}
use Rattle.version_groups.specs.Lifelines.{lifelines_after, lifelines_from, lifelines_of}
use Rattle.version_groups.specs.Representation.{Represents}

-- ---- names that ascend, each of which is one of two

two_alike : (a b x y : List ℕ) → In x (a ∷ b ∷ []) → In y (a ∷ b ∷ []) → (z : List ℕ)
    → In z (a ∷ b ∷ []) → (x ≡ y → ⊥) → (x ≡ z → ⊥) → (y ≡ z → ⊥) → ⊥
two_alike a b x y (inl e) (inl f) z k p q r = p (sym e ∙ f)
two_alike a b x y (inl e) (inr (inl f)) z (inl g) p q r = q (sym e ∙ g)
two_alike a b x y (inl e) (inr (inl f)) z (inr (inl g)) p q r = r (sym f ∙ g)
two_alike a b x y (inr (inl e)) (inl f) z (inl g) p q r = r (sym f ∙ g)
two_alike a b x y (inr (inl e)) (inl f) z (inr (inl g)) p q r = q (sym e ∙ g)
two_alike a b x y (inr (inl e)) (inr (inl f)) z k p q r = p (sym e ∙ f)
two_alike a b x y (inl e) (inr (inl f)) z (inr (inr g)) p q r = g
two_alike a b x y (inr (inl e)) (inl f) z (inr (inr g)) p q r = g
two_alike a b x y (inl e) (inr (inr f)) z k p q r = f
two_alike a b x y (inr (inl e)) (inr (inr f)) z k p q r = f
two_alike a b x y (inr (inr e)) j z k p q r = e

not_same : (x : List ℕ) (ys : List (List ℕ)) (y : List ℕ) → BeforeAll bytes_cmp x ys → In y ys
    → x ≡ y → ⊥
not_same x ys y b i e = not_before_itself x (before_in bytes_cmp x x ys b
    (subst (λ n. In n ys) (sym e) i))

at_most_two : (a b : List ℕ) (names : List (List ℕ)) → Ascends bytes_cmp names
    → ((n : List ℕ) → In n names → In n (a ∷ b ∷ [])) → length names ≤ 2
at_most_two a b [] o h = omega arith
at_most_two a b (x ∷ []) o h = omega arith
at_most_two a b (x ∷ y ∷ []) o h = omega arith
at_most_two a b (x ∷ y ∷ z ∷ names) o h =
    absurd (two_alike a b x y (h x (inl refl)) (h y (inr (inl refl))) z (h z (inr (inr (inl refl))))
    (not_same x (y ∷ z ∷ names) y o.0 (inl refl))
    (not_same x (y ∷ z ∷ names) z o.0 (inr (inl refl)))
    (not_same y (z ∷ names) z o.1.0 (inl refl)))

-- ---- what an operator makes

-- one of at most two names
made_one : (before : Tables) (op : Operator) → (a : List ℕ) × (b : List ℕ)
    × ((n : List ℕ) → In n (made_names (line before op).made) → In n (a ∷ b ∷ []))
made_one before nop = ([], [], λ n i. absurd i)
made_one before (create_table r cs) = (r, r, λ n i. elim i [ inl e ↦ inl e | inr f ↦ absurd f ])
made_one before (drop_table r) = ([], [], λ n i. absurd i)
made_one before (rename_table r t) = (t, t, λ n i. elim i [ inl e ↦ inl e | inr f ↦ absurd f ])
made_one before (copy_table r t) = (t, t, λ n i. elim i [ inl e ↦ inl e | inr f ↦ absurd f ])
made_one before (merge_table r s t) = (t, t, λ n i. elim i [ inl e ↦ inl e | inr f ↦ absurd f ])
made_one before (partition_table r s c t) = (s, t, λ n i. i)
made_one before (decompose_table r s xs t ys) = (s, t, λ n i. i)
made_one before (join_table r s t c) = (t, t, λ n i. elim i [ inl e ↦ inl e | inr f ↦ absurd f ])
made_one before (add_column c e r) = (r, r, λ n i. elim i [ inl e ↦ inl e | inr f ↦ absurd f ])
made_one before (drop_column c r) = (r, r, λ n i. elim i [ inl e ↦ inl e | inr f ↦ absurd f ])
made_one before (rename_column b r c) = (r, r, λ n i. elim i [ inl e ↦ inl e | inr f ↦ absurd f ])

abbrev Listed : Type 0
Listed = List ℕ × List Column

-- some of names that ascend ascend
some_ascend : (p : Listed → Bool) (es : List Listed)
    → Ascends bytes_cmp (map (λ (e : Listed). e.0) es)
    → Ascends bytes_cmp (map (λ (e : Listed). e.0) (filter p es))
some_ascend p [] o = tt
some_ascend p (e ∷ es) o = step (p e) (some_ascend p es o.1)
  where
    step : (b : Bool) → Ascends bytes_cmp (map (λ (e : Listed). e.0) (filter p es))
        → Ascends bytes_cmp (map (λ (e : Listed). e.0) (cond b (e ∷ filter p es) (filter p es)))
    step true h = (
      below_each bytes_cmp e.0 (map (λ (e : Listed). e.0) (filter p es)) (λ y i.
          let d = from_map (λ (e : Listed). e.0) y (filter p es) i in
          before_in bytes_cmp e.0 y (map (λ (e : Listed). e.0) es) o.0
          (subst (λ n. In n (map (λ (e : Listed). e.0) es)) d.2
          (in_map (λ (e : Listed). e.0) d.0 es (from_filter p d.0 es d.1).0))),
      h,
    )
    step false h = h

few_made_by : (before : Tables) (op : Operator) (after : Tables)
    → length (filter (λ (e : Listed). makes before op e.0) (entries after)) ≤ 2
few_made_by before op after =
    let made : Listed → Bool = λ e. makes before op e.0 in
    let two = made_one before op in
    let long = length-map (filter made (entries after)) (λ (e : Listed). e.0) in
    let few = at_most_two two.0 two.1 (map (λ (e : Listed). e.0) (filter made (entries after)))
    (some_ascend made (entries after) (names_rise (λ name columns store. ⊤) (entries after)
    (entries_sorted after)))
    (λ n i.
    let d = from_map (λ (e : Listed). e.0) n (filter made (entries after)) i in
    two.2 n (subst (λ x. In x (made_names (line before op).made)) d.2
    (among_in d.0.0 (made_names (line before op).made)
    (from_filter made d.0 (entries after) d.1).1))) in
    omega (arith, long, few)

-- what meets one of two tests is no more than what meets the first and what meets the second
of_either : (p q : Listed → Bool) (es : List Listed)
    → length (filter (λ (e : Listed). p e || q e) es) ≤ length (filter p es) + length (filter q es)
of_either p q [] = omega arith
of_either p q (e ∷ es) = step (p e) (q e) (of_either p q es)
  where
    step : (x y : Bool) → length (filter (λ (e : Listed). p e || q e) es)
        ≤ length (filter p es) + length (filter q es)
        → length (cond (x || y) (e ∷ filter (λ (e : Listed). p e || q e) es)
        (filter (λ (e : Listed). p e || q e) es))
        ≤ length (cond x (e ∷ filter p es) (filter p es))
        + length (cond y (e ∷ filter q es) (filter q es))
    step true true h = omega (arith, h)
    step true false h = omega (arith, h)
    step false true h = omega (arith, h)
    step false false h = h

no_entries : (es : List Listed) → length (filter (λ (e : Listed). false) es) ≤ 0
no_entries [] = omega arith
no_entries (e ∷ es) = no_entries es

-- so members make at most two each
few_made : (before : Tables) (ops : List Operator) (after : Tables)
    → length (made_tables before ops after) ≤ 2 * length ops
few_made before [] after = (let none = no_entries (entries after) in omega (arith, none))
few_made before (op ∷ ops) after =
    let either = of_either (λ e. makes before op e.0)
    (λ e. one_makes (schema_after before op) ops e.0) (entries after) in
    let one = few_made_by before op after in
    let others = few_made (schema_after before op) ops after in
    omega (arith, either, one, others)

-- ---- versions

abbrev members : List PlainVersion → List Operator
members versions = members_of_all (map (λ (v : PlainVersion). v.op) versions)

few_from : (before : Tables) (k : ℕ) (lines : List Lifeline) (versions : List PlainVersion)
    → length (lifelines_from before k lines versions) ≤ length lines + 2 * length (members versions)
few_from before k lines [] = omega arith
few_from before k lines (v ∷ versions) =
    let rest = few_from v.tables (k + 1) (lifelines_after before k lines v) versions in
    let both = length-append (map (line_after (one_consumes before v.op) k) lines)
    (map (line_begun (k + 1)) (made_tables before v.op v.tables)) in
    let old = length-map lines (line_after (one_consumes before v.op) k) in
    let new = length-map (made_tables before v.op v.tables) (line_begun (k + 1)) in
    let few = few_made before v.op v.tables in
    let all = length-append v.op (members versions) in
    omega (arith, rest, both, old, new, few, all)

pub few_lifelines : (versions : List PlainVersion)
    → length (lifelines_of versions) ≤ 2 * length (members versions)
few_lifelines versions = (let few = few_from no_tables 0 [] versions in omega (arith, few))

-- versions of the code have one member each
one_each : (versions : List Version) → length (members (map version_of versions)) ≡ length versions
one_each [] = refl
one_each (v ∷ versions) = ap suc (one_each versions)

pub few_sizes : (kept : Kept) (past : Past) → Represents kept past
    → length past.sizes ≤ 2 * length past.versions
few_sizes kept past h =
    let few = few_lifelines (versions_in kept) in
    let lines = ap length h.lifelines.lines in
    let stored = length-map kept.stored line_of in
    let sizes = h.sizes.count in
    let same = ap length h.versions in
    let plain = length-map kept.versions version_of in
    let one = one_each kept.versions in
    omega (arith, few, lines, stored, sizes, same, plain, one)
