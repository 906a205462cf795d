-- Versions that need not be read from, by their places in the code.
use Rattle.std.proofs.Common.{◌≡◌, ◌+◌, ◌<◌, ◌≤◌, ℕ, suc, Bool, false, List, [], ◌∷◌, map, length}
use Rattle.std.proofs.Common.{◌⊎◌, inl, inr, get_or, max, refl, sym, ap, subst, ◌∙◌, arith}
use Rattle.std.specs.Prelude.{not, None}
use Rattle.prima_base.specs.Columns.{Column}
use Rattle.schema_catalog.specs.Tables.{Tables}
use Rattle.smo_ops_types.specs.declared.version.Version.{Version}
use Rattle.smo_ops_types.specs.Operators.{Operator, operator_of, evolution_of, nop}
use Rattle.smo_ops_types.specs.Operators.{create_table, drop_table}
use Rattle.smo_ops_types.specs.Operators.{rename_table, copy_table, merge_table, partition_table}
use Rattle.smo_ops_types.specs.Operators.{decompose_table, join_table, add_column, drop_column}
use Rattle.smo_ops_types.specs.Operators.{rename_column}
use Rattle.smo_ops_types.specs.Commands.{PlainVersion, version_of}
use Rattle.smo_ops_spec.specs.After.{op_fault, schema_after}
use Rattle.smo_ops_spec.specs.Evolutions.{schema_after_each, evolution_fault}
use Rattle.smo_ops_spec.proofs.OneMembers.{one_member_fault}
use Rattle.smo_ops_spec.specs.Past.{no_tables, tables_from}
use Rattle.smo_ops_spec.specs.ValidPast.{AreVersions}
use Rattle.smo_ops_widths.specs.Widths.{greatest_of, widest_with, with_version}
use Rattle.smo_ops_widths.specs.Creating.{creates, creates_one, NameAll}
use Rattle.smo_ops_widths.proofs.VersionLaws.{tables_before, version_here, version_leads}
use Rattle.smo_ops_widths.proofs.VersionLaws.{tables_last, newest_here, new, new_here}
use Rattle.smo_ops_widths.proofs.ReadFrom.{read_before}
use Rattle.smo_ops_widths.specs.Dead.{AreDead}
use Rattle.smo_ops_widths.proofs.CreatedBeside.{read_beside}
use Rattle.smo_ops_widths.proofs.DeadRead.{read_dead, affirmed}

module _ (vs : List Version) (stamp : ℕ) (op : List Operator) (inverse : List (List Operator))
    (are : AreVersions None no_tables (map version_of vs)) (k : ℕ) (v : Version)
    (l : k < length vs) (e : v ≡ get_or vs k v) where
  abbrev all : List PlainVersion
  all = with_version (map version_of vs) stamp op inverse

  abbrev at : ℕ → Tables
  at j = tables_from no_tables (with_version (map version_of vs) stamp op inverse) j

  here : at k ≡ tables_from no_tables (map version_of vs) k
  here = tables_before vs stamp op inverse k (omega (arith, l))

  accepted : op_fault (at k) (operator_of v.op) ≡ None
  accepted = sym (one_member_fault (at k) (operator_of v.op))
      ∙ subst (λ (t : Tables). evolution_fault t (evolution_of v.op) ≡ None) (sym here)
      (version_leads vs are k v l e).accepted

  next : at (k + 1) ≡ schema_after (at k) (operator_of v.op)
  next = tables_before vs stamp op inverse (k + 1) (omega (arith, l))
      ∙ (version_leads vs are k v l e).next ∙ (version_leads vs are k v l e).tables
      ∙ ap (λ (t : Tables). schema_after t (operator_of v.op)) (sym here)

  abbrev last : ℕ
  last = length vs + 1

  other_read : creates (operator_of v.op) ≡ false
      → greatest_of all (k + 1) last
      ≤ max (widest_with all last (suc k)) (greatest_of all (length vs) last)
  other_read none =
      let less = read_before all k (version_of v) (version_here vs stamp op inverse k v l e)
      (operator_of v.op) refl none accepted next last (omega (arith, l)) in
      omega (arith, less)

  module _ (these : List ℕ → Bool) (named : NameAll these (with_version (map version_of vs) stamp
      op inverse) (k + 1)) where
    created_read : (r : List ℕ) (cs : List Column) → operator_of v.op ≡ create_table r cs
        → these r ≡ false → greatest_of all (k + 1) last
        ≤ max (widest_with all last (suc k)) (greatest_of all (length vs) last)
    created_read r cs is free =
        let less = read_beside all k (version_of v) r cs
        (version_here vs stamp op inverse k v l e) (ap (λ (o : Operator). o ∷ []) is)
        (next ∙ ap (λ (o : Operator). schema_after (at k) o) is) (named r free) (length vs)
        (omega (arith, l)) (new vs stamp op inverse) (new_here vs stamp op inverse)
        (tables_last vs stamp op inverse
        ∙ ap (λ (t : Tables). schema_after_each t op) (sym (newest_here vs stamp op inverse))) in
        omega (arith, less)

    read_by : (o : Operator) → operator_of v.op ≡ o → creates_one these o ≡ false
        → greatest_of all (k + 1) last
        ≤ max (widest_with all last (suc k)) (greatest_of all (length vs) last)
    read_by nop is c = other_read (ap creates is)
    read_by (create_table r cs) is c = created_read r cs is c
    read_by (drop_table r) is c = other_read (ap creates is)
    read_by (rename_table r t) is c = other_read (ap creates is)
    read_by (copy_table r t) is c = other_read (ap creates is)
    read_by (merge_table r s t) is c = other_read (ap creates is)
    read_by (partition_table r s x t) is c = other_read (ap creates is)
    read_by (decompose_table r s xs t ys) is c = other_read (ap creates is)
    read_by (join_table r s t x) is c = other_read (ap creates is)
    read_by (add_column x y r) is c = other_read (ap creates is)
    read_by (drop_column x r) is c = other_read (ap creates is)
    read_by (rename_column b r x) is c = other_read (ap creates is)

  module _ (these : List ℕ → Bool) (dead : AreDead these (with_version (map version_of vs) stamp op
      inverse) (k + 1) (length vs + 1)) where
    dead_read : (r : List ℕ) (cs : List Column) → operator_of v.op ≡ create_table r cs
        → not (these r) ≡ false → greatest_of all (k + 1) last
        ≤ max (widest_with all last (suc k)) (greatest_of all (length vs) last)
    dead_read r cs is t =
        let same_read = read_dead all k last (version_of v) (omega (arith, l))
        (version_here vs stamp op inverse k v l e) these dead r cs
        (ap (λ (o : Operator). o ∷ []) is)
        (next ∙ ap (λ (o : Operator). schema_after (at k) o) is) (affirmed (these r) t) in
        omega (arith, same_read)

    dead_by : (o : Operator) → operator_of v.op ≡ o → creates_one (λ n. not (these n)) o ≡ false
        → greatest_of all (k + 1) last
        ≤ max (widest_with all last (suc k)) (greatest_of all (length vs) last)
    dead_by nop is c = other_read (ap creates is)
    dead_by (create_table r cs) is c = dead_read r cs is c
    dead_by (drop_table r) is c = other_read (ap creates is)
    dead_by (rename_table r t) is c = other_read (ap creates is)
    dead_by (copy_table r t) is c = other_read (ap creates is)
    dead_by (merge_table r s t) is c = other_read (ap creates is)
    dead_by (partition_table r s x t) is c = other_read (ap creates is)
    dead_by (decompose_table r s xs t ys) is c = other_read (ap creates is)
    dead_by (join_table r s t x) is c = other_read (ap creates is)
    dead_by (add_column x y r) is c = other_read (ap creates is)
    dead_by (drop_column x r) is c = other_read (ap creates is)
    dead_by (rename_column b r x) is c = other_read (ap creates is)

-- what is read from version j is no greater than what is read from one before, or from the newest
read_less : (vs : List Version) (stamp : ℕ) (op : List Operator) (inverse : List (List Operator))
    → AreVersions None no_tables (map version_of vs) → (k j : ℕ) (v : Version) → k < length vs
    → v ≡ get_or vs k v → k + 1 ≡ j → (these : List ℕ → Bool)
    → NameAll these (with_version (map version_of vs) stamp op inverse) j
    → creates_one these (operator_of v.op) ≡ false
    → greatest_of (with_version (map version_of vs) stamp op inverse) j (length vs + 1)
    ≤ max (widest_with (with_version (map version_of vs) stamp op inverse) (length vs + 1) j)
    (greatest_of (with_version (map version_of vs) stamp op inverse) (length vs) (length vs + 1))
read_less vs stamp op inverse are k j v l e q these named c =
    let all = with_version (map version_of vs) stamp op inverse in
    let last = length vs + 1 in
    let further : suc k ≡ j = omega (arith, q) in
    let less = read_by vs stamp op inverse are k v l e these
    (subst (λ (n : ℕ). NameAll these all n) (sym q) named) (operator_of v.op) refl c in
    subst (λ (n : ℕ). greatest_of all n last
    ≤ max (widest_with all last j) (greatest_of all (length vs) last)) q
    (subst (λ (n : ℕ). greatest_of all (k + 1) last
    ≤ max (widest_with all last n) (greatest_of all (length vs) last)) further less)

-- nor is it where the table that it creates is dead
read_no_more : (vs : List Version) (stamp : ℕ) (op : List Operator)
    (inverse : List (List Operator))
    → AreVersions None no_tables (map version_of vs) → (k j : ℕ) (v : Version) → k < length vs
    → v ≡ get_or vs k v → k + 1 ≡ j → (these : List ℕ → Bool)
    → AreDead these (with_version (map version_of vs) stamp op inverse) j (length vs + 1)
    → creates_one (λ n. not (these n)) (operator_of v.op) ≡ false
    → greatest_of (with_version (map version_of vs) stamp op inverse) j (length vs + 1)
    ≤ max (widest_with (with_version (map version_of vs) stamp op inverse) (length vs + 1) j)
    (greatest_of (with_version (map version_of vs) stamp op inverse) (length vs) (length vs + 1))
read_no_more vs stamp op inverse are k j v l e q these dead c =
    let all = with_version (map version_of vs) stamp op inverse in
    let last = length vs + 1 in
    let further : suc k ≡ j = omega (arith, q) in
    let less = dead_by vs stamp op inverse are k v l e these
    (subst (λ (n : ℕ). AreDead these all n last) (sym q) dead) (operator_of v.op) refl c in
    subst (λ (n : ℕ). greatest_of all n last
    ≤ max (widest_with all last j) (greatest_of all (length vs) last)) q
    (subst (λ (n : ℕ). greatest_of all (k + 1) last
    ≤ max (widest_with all last n) (greatest_of all (length vs) last)) further less)

pub read_covered : (vs : List Version) (stamp : ℕ) (op : List Operator)
    (inverse : List (List Operator))
    → AreVersions None no_tables (map version_of vs) → (k j : ℕ) (v : Version) → k < length vs
    → v ≡ get_or vs k v → k + 1 ≡ j → (named dead : List ℕ → Bool)
    → NameAll named (with_version (map version_of vs) stamp op inverse) j
    → AreDead dead (with_version (map version_of vs) stamp op inverse) j (length vs + 1)
    → (creates_one named (operator_of v.op) ≡ false)
    ⊎ (creates_one (λ n. not (dead n)) (operator_of v.op) ≡ false)
    → greatest_of (with_version (map version_of vs) stamp op inverse) j (length vs + 1)
    ≤ max (widest_with (with_version (map version_of vs) stamp op inverse) (length vs + 1) j)
    (greatest_of (with_version (map version_of vs) stamp op inverse) (length vs) (length vs + 1))
read_covered vs stamp op inverse are k j v l e q named dead m d (inl c) =
    read_less vs stamp op inverse are k j v l e q named m c
read_covered vs stamp op inverse are k j v l e q named dead m d (inr c) =
    read_no_more vs stamp op inverse are k j v l e q dead d c
