-- What is read from where no table was has no pieces.
use Rattle.std.proofs.Common.{◌≡◌, ◌*◌, ℕ, Bool, true, false, List, [], ◌∷◌, refl, ap}
use Rattle.std.proofs.Common.{sym, subst, ◌∙◌, arith}
use Rattle.std.specs.Prelude.{cond, Option, Some, None, ⊤}
use Rattle.std.specs.Option.{option_map}
use Rattle.std.specs.BTreeMap.{is_at}
use Rattle.std.specs.FinMap.{get, remove, entries, get-remove, get-empty}
use Rattle.std.specs.Cmp.Lexicographic.{nat_list_cmp_total}
use Rattle.prima_base.specs.Order.{bytes_cmp}
use Rattle.prima_base.specs.Columns.{Column}
use Rattle.schema_catalog.specs.Tables.{Tables, columns_of}
use Rattle.smo_ops_types.specs.Operators.{Operator, nop, create_table, drop_table, rename_table}
use Rattle.smo_ops_types.specs.Operators.{copy_table, merge_table, partition_table, decompose_table}
use Rattle.smo_ops_types.specs.Operators.{join_table, add_column, drop_column, rename_column}
use Rattle.smo_ops_types.specs.Commands.{PlainVersion}
use Rattle.smo_ops_spec.specs.OperatorTable.{line, made_names}
use Rattle.smo_ops_spec.specs.Past.{no_tables, tables_from}
use Rattle.smo_ops_spec.specs.WaysBack.{blank, filled_with}
use Rattle.smo_ops_versions_spec.specs.Steps.{Step, carrying, filling, undoing, taken}
use Rattle.smo_ops_versions_spec.specs.Ways.{way}
use Rattle.smo_ops_versions_spec.proofs.StepLaws.{taken_so}
use Rattle.smo_ops_widths.specs.Widths.{Width, Widths, own_widths, own_width, made_widths, of_both}
use Rattle.smo_ops_widths.specs.Widths.{merged_width, joined_width, part_width, with_size, sized_as}
use Rattle.smo_ops_widths.specs.Widths.{sized, no_width, put_width, put_widths, widths_over}
use Rattle.smo_ops_widths.specs.Widths.{widths_stepped, measure_of, greatest, greatest_of}
use Rattle.smo_ops_widths.proofs.ShownLaws.{put_at}
use Rattle.smo_ops_widths.proofs.OwnWithin.{own_by}

abbrev HasNone : Option Width → Type 0
HasNone None = ⊤
HasNone (Some a) = a.pieces ≡ 0

abbrev HaveNone : Widths → Type 0
HaveNone widths = (n : List ℕ) → HasNone (get widths n)

-- ---- over a step

none_less : (names : List (List ℕ)) (xs : Widths) → HaveNone xs → HaveNone (no_width names xs)
none_less [] xs h = h
none_less (m ∷ names) xs h = none_less names (remove xs m) (λ n.
    subst HasNone (sym (get-remove nat_list_cmp_total xs m n))
    (step (get xs n) (h n) (is_at (bytes_cmp n) m)))
  where
    step : (o : Option Width) → HasNone o → (b : Bool) → HasNone (cond b None o)
    step o k true = tt
    step o k false = k

abbrev EachNone : List (Option Width) → Type 0
EachNone [] = ⊤
EachNone (o ∷ os) = HasNone o × EachNone os

none_put : (names : List (List ℕ)) (ms : List (Option Width)) (xs : Widths) → EachNone ms
    → HaveNone xs → HaveNone (put_widths names ms xs)
none_put [] ms xs e h = h
none_put (m ∷ names) [] xs e h = h
none_put (m ∷ names) (w ∷ ms) xs e h = none_put names ms (put_width m w xs) e.1 (λ n.
    subst HasNone (sym (put_at xs m w n)) (step (get xs n) (h n) (is_at (bytes_cmp n) m)))
  where
    step : (o : Option Width) → HasNone o → (b : Bool) → HasNone (cond b w o)
    step o k true = e.0
    step o k false = k

none_of_one : (F : Width → Width) → ((a : Width) → (F a).pieces ≡ a.pieces) → (o : Option Width)
    → HasNone o → HasNone (option_map F o)
none_of_one F same None h = tt
none_of_one F same (Some a) h = same a ∙ h

none_merged : (o p : Option Width) → HasNone o → HasNone p → HasNone (of_both merged_width o p)
none_merged None p h k = tt
none_merged (Some a) None h k = tt
none_merged (Some a) (Some b) h k = omega (arith, h, k)

none_joined : (F : Width → Width → Width)
    → ((a b : Width) → (F a b).pieces ≡ a.pieces * b.pieces) → (o p : Option Width) → HasNone o
    → HasNone p → HasNone (of_both F o p)
none_joined F product None p h k = tt
none_joined F product (Some a) None h k = tt
none_joined F product (Some a) (Some b) h k =
    let none : 0 * b.pieces ≡ 0 = omega arith in
    product a b ∙ ap (λ (n : ℕ). n * b.pieces) h ∙ none

module _ (tables : Tables) (of : List ℕ → Option Width) (h : (n : List ℕ) → HasNone (of n)) where
  none_made : (op : Operator) → EachNone (made_widths tables op of)
  none_made nop = tt
  none_made (create_table r cs) = (refl, tt)
  none_made (drop_table r) = tt
  none_made (rename_table r t) = (h r, tt)
  none_made (copy_table r t) = (h r, tt)
  none_made (merge_table r s t) = (none_merged (of r) (of s) (h r) (h s), tt)
  none_made (partition_table r s c t) = (
    none_of_one (part_width 1 c) (λ a. refl) (of r) (h r),
    (none_of_one (part_width 2 c) (λ a. refl) (of r) (h r), tt),
  )
  none_made (decompose_table r s xs t ys) = (h r, (h r, tt))
  none_made (join_table r s t c) = (
    none_joined (joined_width (columns_of tables r) (columns_of tables s) c) (λ a b. refl) (of r)
        (of s) (h r) (h s),
    tt,
  )
  none_made (add_column c e r) = (
    none_of_one (λ (a : Width).
        with_size (sized_as c (sized a.size e) a.size) a) (λ a. refl) (of r) (h r),
    tt,
  )
  none_made (drop_column c r) = (h r, tt)
  none_made (rename_column b r c) = (
    none_of_one (λ (a : Width).
        with_size (sized_as c (a.size b) a.size) a) (λ a. refl) (of r) (h r),
    tt,
  )

none_over : (tables : Tables) (op : Operator) (xs : Widths) → HaveNone xs
    → HaveNone (widths_over tables op xs)
none_over tables op xs h = none_put (made_names (line tables op).made)
    (made_widths tables op (get xs)) (no_width (line tables op).consumed xs)
    (none_made tables (get xs) h op) (none_less (line tables op).consumed xs h)

none_step : (s : Step) (xs ys : Widths) → HaveNone xs → HaveNone (widths_stepped s xs)
none_step (carrying tables op) xs ys h = none_over tables op xs h
none_step (filling loss tables f) xs ys h = none_over tables (filled_with blank f) xs h
none_step (undoing loss tables op) xs ys h = none_less (line tables op).consumed
    (no_width (made_names (line tables op).made) xs)
    (none_less (made_names (line tables op).made) xs h)

-- ---- the measure

none_own : HaveNone (own_widths no_tables)
none_own n = subst HasNone (sym (own_by no_tables n
    ∙ ap (option_map (λ (cs : List Column). own_width)) (get-empty bytes_cmp n))) tt

at_none : (versions : List PlainVersion) → tables_from no_tables versions 0 ≡ no_tables
at_none [] = refl
at_none (v ∷ versions) = refl

none_measured : (ts : List (List ℕ × List Column)) (xs : Widths) → HaveNone xs
    → greatest ts xs ≡ 0
none_measured [] xs h = refl
none_measured (t ∷ ts) xs h =
    let rest = none_measured ts xs h in
    let first = step (get xs t.0) (h t.0) in
    omega (arith, rest, first)
  where
    step : (o : Option Width) → HasNone o → measure_of t.1 o ≡ 0
    step None k = refl
    step (Some a) k =
        let none = λ (n : ℕ). (let zero : 0 * n ≡ 0 = omega arith in zero) in
        ap (λ (n : ℕ). measure_of t.1 (Some (record {
          pieces = n;
          atoms = a.atoms;
          cond = a.cond;
          size = a.size;
        }))) k ∙ none _

pub read_none : (versions : List PlainVersion) (q : ℕ) → greatest_of versions 0 q ≡ 0
read_none versions q =
    let own = own_widths (tables_from no_tables versions 0) in
    none_measured (entries (tables_from no_tables versions q))
    (taken widths_stepped (way versions 0 q) own)
    (taken_so (λ (xs : Widths) (ys : Widths). HaveNone xs) widths_stepped widths_stepped none_step
    (way versions 0 q) own own
    (subst (λ (t : Tables). HaveNone (own_widths t)) (sym (at_none versions)) none_own))
