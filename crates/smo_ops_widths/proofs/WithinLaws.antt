-- A version that creates no table need not be read from: read from the version before, each table
-- is at least as wide.
use Rattle.std.proofs.Common.{◌≡◌, ◌≤◌, ℕ, Bool, true, false, List, [], ◌∷◌}
use Rattle.std.proofs.Common.{length, refl}
use Rattle.std.proofs.Common.{sym, subst, arith}
use Rattle.std.proofs.lemmas.Nat.{mul-le}
use Rattle.std.specs.Prelude.{cond, Option, Some, None, ⊤}
use Rattle.std.specs.Option.{option_map}
use Rattle.std.specs.BTreeMap.{is_at}
use Rattle.std.specs.FinMap.{get, remove, get-remove}
use Rattle.std.specs.Cmp.Lexicographic.{nat_list_cmp_total}
use Rattle.prima_base.specs.Order.{bytes_cmp}
use Rattle.prima_base.specs.Columns.{Column}
use Rattle.schema_catalog.specs.Tables.{Tables}
use Rattle.smo_ops_types.specs.Operators.{Operator, nop, create_table, drop_table, rename_table}
use Rattle.smo_ops_types.specs.Operators.{copy_table, merge_table, partition_table, decompose_table}
use Rattle.smo_ops_types.specs.Operators.{join_table, add_column, drop_column, rename_column}
use Rattle.smo_ops_spec.specs.Effects.{columns_of}
use Rattle.smo_ops_spec.specs.OperatorTable.{line, made_names}
use Rattle.smo_ops_spec.specs.WaysBack.{blank, filled_with}
use Rattle.smo_ops_versions_spec.specs.Steps.{Step, carrying, filling, undoing}
use Rattle.smo_ops_widths.specs.Widths.{Width, Widths, made_widths, of_both}
use Rattle.smo_ops_widths.specs.Widths.{part_width, merged_width, joined_width, with_size, sized_as}
use Rattle.smo_ops_widths.specs.Widths.{sized, no_width, put_width, put_widths, widths_over}
use Rattle.smo_ops_widths.specs.Widths.{widths_stepped, measure_of, greatest}
use Rattle.smo_ops_widths.specs.Counted.{AreBy}
use Rattle.smo_ops_widths.proofs.AlikeLaws.{IsKept, sized_so, part_so, with_size_so, measure_so}
use Rattle.smo_ops_widths.proofs.AlikeLaws.{merged_so, joined_so}
use Rattle.smo_ops_widths.proofs.ShownLaws.{put_at}

abbrev pub Within : ℕ → ℕ → Type 0
Within a b = a ≤ b

within : IsKept Within
within = record {
  same = λ a. omega arith;
  add = λ a b x y p q. omega (arith, p, q);
  mul = λ a b x y p q. mul-le a b x y p q;
  greater = λ a b x y p q. omega (arith, p, q);
}

abbrev pub MayBeWithin : Option Width → Option Width → Type 0
MayBeWithin None b = ⊤
MayBeWithin (Some a) None = ⊥
MayBeWithin (Some a) (Some b) = AreBy Within a b

abbrev pub AllWithin : Widths → Widths → Type 0
AllWithin xs ys = (n : List ℕ) → MayBeWithin (get xs n) (get ys n)

-- ---- over a step

abbrev EachWithin : List (Option Width) → List (Option Width) → Type 0
EachWithin [] ys = ⊤
EachWithin (x ∷ xs) [] = ⊤
EachWithin (x ∷ xs) (y ∷ ys) = MayBeWithin x y × EachWithin xs ys

mapped_within : (F : Width → Width)
    → ((a b : Width) → AreBy Within a b → AreBy Within (F a) (F b))
    → (a b : Option Width) → MayBeWithin a b → MayBeWithin (option_map F a) (option_map F b)
mapped_within F each None b h = tt
mapped_within F each (Some a) None h = h
mapped_within F each (Some a) (Some b) h = each a b h

both_within : (F : Width → Width → Width)
    → ((a b x y : Width) → AreBy Within a x → AreBy Within b y → AreBy Within (F a b) (F x y))
    → (a b x y : Option Width) → MayBeWithin a x → MayBeWithin b y
    → MayBeWithin (of_both F a b) (of_both F x y)
both_within F each None b x y p q = tt
both_within F each (Some a) None x y p q = tt
both_within F each (Some a) (Some b) None y p q = absurd p
both_within F each (Some a) (Some b) (Some x) None p q = absurd q
both_within F each (Some a) (Some b) (Some x) (Some y) p q = each a b x y p q

module _ (tables : Tables) (f g : List ℕ → Option Width)
    (h : (n : List ℕ) → MayBeWithin (f n) (g n)) where
  made_within : (op : Operator) → EachWithin (made_widths tables op f) (made_widths tables op g)
  made_within nop = tt
  made_within (create_table r cs) = (
    record {
      pieces = omega arith;
      atoms = omega arith;
      cond = omega arith;
      size = λ n.
          omega arith;
    },
    tt,
  )
  made_within (drop_table r) = tt
  made_within (rename_table r t) = (h r, tt)
  made_within (copy_table r t) = (h r, tt)
  made_within (merge_table r s t) = (
    both_within merged_width
        (λ a b x y p q. merged_so Within within a b x y p q) (f r) (f s) (g r) (g s) (h r) (h s),
    tt,
  )
  made_within (partition_table r s c t) = (
    mapped_within (part_width 1 c) (λ a b p. part_so Within within a b p 1 c) (f r) (g r) (h r),
    (
      mapped_within (part_width 2 c) (λ a b p. part_so Within within a b p 2 c) (f r) (g r) (h r),
      tt,
    ),
  )
  made_within (decompose_table r s xs t ys) = (h r, (h r, tt))
  made_within (join_table r s t c) = (
    both_within
        (joined_width (columns_of tables r) (columns_of tables s) c)
        (λ a b x y p q. joined_so Within within a b x y p q (columns_of tables r)
        (columns_of tables s) c) (f r) (f s) (g r) (g s) (h r) (h s),
    tt,
  )
  made_within (add_column c e r) = (
    mapped_within (λ (a : Width).
        with_size (sized_as c (sized a.size e) a.size) a) (λ a b p.
        with_size_so Within within a b p c (sized a.size e) (sized b.size e)
        (sized_so Within within a.size b.size p.size e)) (f r) (g r) (h r),
    tt,
  )
  made_within (drop_column c r) = (h r, tt)
  made_within (rename_column b r c) = (
    mapped_within (λ (a : Width).
        with_size (sized_as c (a.size b) a.size) a) (λ a x p.
        with_size_so Within within a x p c (a.size b) (x.size b) (p.size b)) (f r) (g r) (h r),
    tt,
  )

less_within : (xs ys : Widths) (m : List ℕ) → AllWithin xs ys
    → AllWithin (remove xs m) (remove ys m)
less_within xs ys m h n =
    subst (λ (o : Option Width). MayBeWithin o (get (remove ys m) n))
    (sym (get-remove nat_list_cmp_total xs m n))
    (subst (λ (o : Option Width). MayBeWithin (cond (is_at (bytes_cmp n) m) None (get xs n)) o)
    (sym (get-remove nat_list_cmp_total ys m n)) (step (is_at (bytes_cmp n) m)))
  where
    step : (b : Bool) → MayBeWithin (cond b None (get xs n)) (cond b None (get ys n))
    step true = tt
    step false = h n

fewer_within : (names : List (List ℕ)) (xs ys : Widths) → AllWithin xs ys
    → AllWithin (no_width names xs) (no_width names ys)
fewer_within [] xs ys h = h
fewer_within (n ∷ names) xs ys h = fewer_within names (remove xs n) (remove ys n)
    (less_within xs ys n h)

more_within : (m : List ℕ) (x y : Option Width) (xs ys : Widths) → MayBeWithin x y
    → AllWithin xs ys → AllWithin (put_width m x xs) (put_width m y ys)
more_within m x y xs ys p h n =
    subst (λ (o : Option Width). MayBeWithin o (get (put_width m y ys) n))
    (sym (put_at xs m x n))
    (subst (λ (o : Option Width). MayBeWithin (cond (is_at (bytes_cmp n) m) x (get xs n)) o)
    (sym (put_at ys m y n)) (step (is_at (bytes_cmp n) m)))
  where
    step : (b : Bool) → MayBeWithin (cond b x (get xs n)) (cond b y (get ys n))
    step true = p
    step false = h n

put_within : (names : List (List ℕ)) (ms ks : List (Option Width)) (xs ys : Widths)
    → EachWithin ms ks → AllWithin xs ys → length ms ≡ length ks
    → AllWithin (put_widths names ms xs) (put_widths names ks ys)
put_within [] ms ks xs ys p h l = h
put_within (n ∷ names) [] [] xs ys p h l = h
put_within (n ∷ names) [] (k ∷ ks) xs ys p h l = absurd (omega (arith, l))
put_within (n ∷ names) (m ∷ ms) [] xs ys p h l = absurd (omega (arith, l))
put_within (n ∷ names) (m ∷ ms) (k ∷ ks) xs ys p h l = put_within names ms ks
    (put_width n m xs) (put_width n k ys) p.1 (more_within n m k xs ys p.0 h) (omega (arith, l))

as_many : (tables : Tables) (op : Operator) (f g : List ℕ → Option Width)
    → length (made_widths tables op f) ≡ length (made_widths tables op g)
as_many tables nop f g = refl
as_many tables (create_table r cs) f g = refl
as_many tables (drop_table r) f g = refl
as_many tables (rename_table r t) f g = refl
as_many tables (copy_table r t) f g = refl
as_many tables (merge_table r s t) f g = refl
as_many tables (partition_table r s c t) f g = refl
as_many tables (decompose_table r s xs t ys) f g = refl
as_many tables (join_table r s t c) f g = refl
as_many tables (add_column c e r) f g = refl
as_many tables (drop_column c r) f g = refl
as_many tables (rename_column b r c) f g = refl

pub over_within : (tables : Tables) (op : Operator) (xs ys : Widths) → AllWithin xs ys
    → AllWithin (widths_over tables op xs) (widths_over tables op ys)
over_within tables op xs ys h = put_within (made_names (line tables op).made)
    (made_widths tables op (get xs)) (made_widths tables op (get ys))
    (no_width (line tables op).consumed xs) (no_width (line tables op).consumed ys)
    (made_within tables (get xs) (get ys) h op) (fewer_within (line tables op).consumed xs ys h)
    (as_many tables op (get xs) (get ys))

pub step_within : (s : Step) (xs ys : Widths) → AllWithin xs ys
    → AllWithin (widths_stepped s xs) (widths_stepped s ys)
step_within (carrying tables op) xs ys h = over_within tables op xs ys h
step_within (filling loss tables f) xs ys h = over_within tables (filled_with blank f) xs ys h
step_within (undoing loss tables op) xs ys h = fewer_within (line tables op).consumed
    (no_width (made_names (line tables op).made) xs)
    (no_width (made_names (line tables op).made) ys)
    (fewer_within (made_names (line tables op).made) xs ys h)

-- ---- the measures

pub measured_within : (columns : List Column) (a b : Option Width) → MayBeWithin a b
    → measure_of columns a ≤ measure_of columns b
measured_within columns None b h = omega arith
measured_within columns (Some a) None h = absurd h
measured_within columns (Some a) (Some b) h = measure_so Within within a b h columns

pub greatest_within : (tables : List (List ℕ × List Column)) (xs ys : Widths) → AllWithin xs ys
    → greatest tables xs ≤ greatest tables ys
greatest_within [] xs ys h = omega arith
greatest_within (t ∷ tables) xs ys h =
    let first = measured_within t.1 (get xs t.0) (get ys t.0) (h t.0) in
    let rest = greatest_within tables xs ys h in
    omega (arith, first, rest)
