-- What is so of each lifeline that the operators of versions give: its name and its numbers can be
-- spelled, and its columns are those of a table, in order, and some. There are few of them.
use Rattle.std.proofs.Common.{◌≡◌, ℕ, suc, ◌+◌, ◌*◌, ◌≤◌, Bool, true, false, cond, List, [], ◌∷◌}
use Rattle.std.proofs.Common.{map, length, length-append, refl, sym, subst, arith, inl, inr}
use Rattle.std.specs.Prelude.{Option, Some, None, ⊤, ◌⊎◌, ◌||◌}
use Rattle.std.specs.List.{filter}
use Rattle.std.specs.FinMap.{entries, len-entries}
use Rattle.std.proofs.lemmas.List.{length-map}
use Rattle.relations_spec.specs.Sets.{In}
use Rattle.relations_spec.proofs.SetLaws.{in_append, from_map, from_filter, has_in}
use Rattle.prima_base.specs.Bytes.{IsName}
use Rattle.prima_base.specs.Order.{bytes_cmp}
use Rattle.prima_base.specs.OrderLaws.{bytes_exact}
use Rattle.prima_base.specs.Columns.{Column, AreColumns}
use Rattle.schema_catalog.specs.Tables.{Tables}
use Rattle.smo_ops_types.specs.Commands.{PlainVersion}
use Rattle.smo_ops_types.specs.Operators.{Operator, nop, create_table, drop_table, rename_table}
use Rattle.smo_ops_types.specs.Operators.{copy_table, merge_table, partition_table, decompose_table}
use Rattle.smo_ops_types.specs.Operators.{join_table, add_column, drop_column, rename_column}
use Rattle.smo_ops_spec.specs.After.{schema_after, IsValid}
use Rattle.smo_ops_spec.specs.Touching.{makes}
use Rattle.smo_ops_spec.specs.Evolutions.{one_makes, one_consumes}
use Rattle.smo_ops_spec.specs.OperatorTable.{line, made_names}
use Rattle.smo_ops_spec.specs.ValidPast.{AreVersions}
use Rattle.smo_ops_spec.specs.Past.{no_tables}
use Rattle.smo_ops_spec.proofs.NextSchemas.{Each}
use Rattle.smo_ops_spec.proofs.MemberLaws.{all_accepted, each_is_valid}
use Rattle.smo_ops_spec.proofs.PastSteps.{beginning_is_past}
use Rattle.command_codec_spec.specs.Valid.{OperatorNamed, EvolutionNamed}
use Rattle.smo_ops_versions_spec.specs.Lifelines.{Lifeline, last_after, line_after, line_begun}
use Rattle.smo_ops_versions_spec.specs.Lifelines.{made_tables}
use Rattle.smo_ops_versions_spec.specs.Lifelines.{lifelines_after, lifelines_from, lifelines_of}
use Rattle.smo_ops_versions_spec.proofs.NamedEntries.{found_under}
use Rattle.store_image_spec.specs.Images.{VersionsNamed}
use Rattle.store_image_spec.proofs.SomeColumns.{HasColumn, no_table_has_none, each_has_columns}

-- ---- the names of made tables

made_named : (tables : Tables) (op : Operator) → OperatorNamed op → (n : List ℕ)
    → In n (made_names (line tables op).made) → IsName n
made_named tables nop h n i = absurd i
made_named tables (create_table r cs) h n (inl e) = subst IsName e h.0
made_named tables (create_table r cs) h n (inr i) = absurd i
made_named tables (drop_table r) h n i = absurd i
made_named tables (rename_table r t) h n (inl e) = subst IsName e h.1
made_named tables (rename_table r t) h n (inr i) = absurd i
made_named tables (copy_table r t) h n (inl e) = subst IsName e h.1
made_named tables (copy_table r t) h n (inr i) = absurd i
made_named tables (merge_table r s t) h n (inl e) = subst IsName e h.2
made_named tables (merge_table r s t) h n (inr i) = absurd i
made_named tables (partition_table r s c t) h n (inl e) = subst IsName e h.1
made_named tables (partition_table r s c t) h n (inr (inl e)) = subst IsName e h.3
made_named tables (partition_table r s c t) h n (inr (inr i)) = absurd i
made_named tables (decompose_table r s xs t ys) h n (inl e) = subst IsName e h.1
made_named tables (decompose_table r s xs t ys) h n (inr (inl e)) = subst IsName e h.3
made_named tables (decompose_table r s xs t ys) h n (inr (inr i)) = absurd i
made_named tables (join_table r s t c) h n (inl e) = subst IsName e h.2
made_named tables (join_table r s t c) h n (inr i) = absurd i
made_named tables (add_column c e r) h n (inl q) = subst IsName q h.0
made_named tables (add_column c e r) h n (inr i) = absurd i
made_named tables (drop_column c r) h n (inl q) = subst IsName q h.0
made_named tables (drop_column c r) h n (inr i) = absurd i
made_named tables (rename_column b r c) h n (inl q) = subst IsName q h.0
made_named tables (rename_column b r c) h n (inr i) = absurd i

-- and of what members make
members_named : (tables : Tables) (ops : List Operator) → EvolutionNamed ops → (n : List ℕ)
    → one_makes tables ops n ≡ true → IsName n
members_named tables [] h n e = absurd (cc)
members_named tables (op ∷ ops) h n e =
    step (members_named (schema_after tables op) ops h.1 n) (makes tables op n) refl e
  where
    step : (one_makes (schema_after tables op) ops n ≡ true → IsName n) → (b : Bool)
        → makes tables op n ≡ b → (b || one_makes (schema_after tables op) ops n) ≡ true → IsName n
    step more true q e = made_named tables op h.0 n
        (has_in bytes_cmp bytes_exact n (made_names (line tables op).made) q)
    step more false q e = more e

-- ---- lifelines

abbrev Listed : Type 0
Listed = List ℕ × List Column

abbrev pub EndsBy : ℕ → Option ℕ → Type 0
EndsBy n None = ⊤
EndsBy n (Some k) = k ≤ n

-- among the first versions, so many
pub record IsLifeline (n : ℕ) (l : Lifeline) : Type 0 where
  pub named : IsName l.table
  pub columns : AreColumns l.columns
  pub some : HasColumn l.columns
  pub first : l.first ≤ n
  pub last : EndsBy n l.last

abbrev pub AreLifelines : ℕ → List Lifeline → Type 0
AreLifelines n lines = (l : Lifeline) → In l lines → IsLifeline n l

kept_few : {X : Type 0} (p : X → Bool) (xs : List X) → length (filter p xs) ≤ length xs
kept_few p [] = omega arith
kept_few p (x ∷ xs) = (let h = kept_few p xs in
    elim (p x) as (λ b. length (cond b (x ∷ filter p xs) (filter p xs)) ≤ length (x ∷ xs))
    [ true ↦ omega (arith, h) | false ↦ omega (arith, h) ])

still_ends : (b : Bool) (n : ℕ) (last : Option ℕ) → EndsBy n last
    → EndsBy (n + 1) (last_after b n last)
still_ends true n None h = omega arith
still_ends false n None h = tt
still_ends b n (Some k) h = omega (arith, h)

module _ (before : Tables) (n : ℕ) (v : PlainVersion) (valid : IsValid v.tables)
    (some : Each HasColumn v.tables) (named : EvolutionNamed v.op) where
  ended : (l : Lifeline) → IsLifeline n l → IsLifeline (n + 1)
      (line_after (one_consumes before v.op) n l)
  ended l h = record {
    named = h.named;
    columns = h.columns;
    some = h.some;
    first =
        (let f = h.first in omega (arith, f));
    last =
        still_ends (one_consumes before v.op l.table) n l.last h.last;
  }

  begun : (t : Listed) → In t (made_tables before v.op v.tables)
      → IsLifeline (n + 1) (line_begun (n + 1) t)
  begun t i =
      let r = from_filter (λ (u : Listed). one_makes before v.op u.0) t (entries v.tables) i in
      let there = found_under v.tables t r.0 in
      record {
        named = members_named before v.op named t.0 r.1;
        columns = valid.schema t.0 t.1 there;
        some = some t.0 t.1 there;
        first = omega arith;
        last = tt;
      }

  lines_after : (lines : List Lifeline) → AreLifelines n lines
      → AreLifelines (n + 1) (lifelines_after before n lines v)
  lines_after lines h l i = step (in_append l (map (line_after (one_consumes before v.op) n) lines)
      (map (line_begun (n + 1)) (made_tables before v.op v.tables)) i)
    where
      step : In l (map (line_after (one_consumes before v.op) n) lines)
          ⊎ In l (map (line_begun (n + 1)) (made_tables before v.op v.tables))
          → IsLifeline (n + 1) l
      step (inl j) = let r = from_map (line_after (one_consumes before v.op) n) l lines j in
          subst (IsLifeline (n + 1)) r.2 (ended r.0 (h r.0 r.1))
      step (inr j) = let r = from_map (line_begun (n + 1)) l (made_tables before v.op v.tables) j in
          subst (IsLifeline (n + 1)) r.2 (begun r.0 r.1)

  few_after : (lines : List Lifeline) → length (lifelines_after before n lines v) ≤ length
      lines + 64
  few_after lines =
      let a = length-append (map (line_after (one_consumes before v.op) n) lines)
      (map (line_begun (n + 1)) (made_tables before v.op v.tables)) in
      let b = length-map lines (line_after (one_consumes before v.op) n) in
      let c = length-map (made_tables before v.op v.tables) (line_begun (n + 1)) in
      let d = kept_few (λ (u : Listed). one_makes before v.op u.0) (entries v.tables) in
      let e = len-entries v.tables in
      let f = valid.few in
      omega (arith, a, b, c, d, e, f)

lines_from : (last : Option ℕ) (before : Tables) (n : ℕ) (lines : List Lifeline)
    (versions : List PlainVersion) → IsValid before → Each HasColumn before
    → AreVersions last before versions → VersionsNamed versions
    → AreLifelines n lines → AreLifelines (n + length versions)
    (lifelines_from before n lines versions)
    × (length (lifelines_from before n lines versions) ≤ length lines + 64 * length versions)
lines_from last before n lines [] l s are named h =
    (let e : n ≡ n + 0 = omega arith in subst (λ k. AreLifelines k lines) e h, omega arith)
lines_from last before n lines (v ∷ versions) l s are named h =
    let accepted = all_accepted before v.op are.0.accepted in
    let valid : IsValid v.tables = subst IsValid (sym are.0.tables)
    (each_is_valid before v.op l accepted) in
    let some : Each HasColumn v.tables = subst (Each HasColumn) (sym are.0.tables)
    (each_has_columns before v.op l s accepted) in
    let r = lines_from (Some v.stamp) v.tables (n + 1) (lifelines_after before n lines v) versions
    valid some are.1 named.1 (lines_after before n v valid some named.0.0 lines h) in
    let few = few_after before n v valid some named.0.0 lines in
    let more = r.1 in
    let e : (n + 1) + length versions ≡ n + suc (length versions) = omega arith in (
      subst (λ k. AreLifelines k (lifelines_from v.tables (n + 1) (lifelines_after before n lines v)
          versions)) e r.0,
      omega (arith, few, more),
    )

pub due_lifelines : (versions : List PlainVersion) → AreVersions None no_tables versions
    → VersionsNamed versions
    → AreLifelines (length versions) (lifelines_of versions)
    × (length (lifelines_of versions) ≤ 64 * length versions)
due_lifelines versions are named =
    let r = lines_from None no_tables 0 [] versions beginning_is_past.tables no_table_has_none are
    named (λ l i. absurd i) in
    let e : 0 + length versions ≡ length versions = omega arith in
    let few = r.1 in
    (subst (λ k. AreLifelines k (lifelines_of versions)) e r.0, omega (arith, few))
