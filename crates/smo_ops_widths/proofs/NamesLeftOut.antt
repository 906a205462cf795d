-- An operator that leaves a table out does to the widths of the others what it does without it.
use Rattle.std.proofs.Common.{◌≡◌, ℕ, Bool, true, false, List, [], ◌∷◌, refl, sym, ap, subst, ◌∙◌}
use Rattle.std.specs.Prelude.{cond, Option, Some, None}
use Rattle.std.specs.Option.{option_map}
use Rattle.std.specs.FinMap.{get, remove, get-remove}
use Rattle.std.specs.Cmp.Lexicographic.{nat_list_cmp_total}
use Rattle.schema_catalog.specs.Tables.{Tables, columns_of}
use Rattle.smo_ops_types.specs.Operators.{Operator, nop, create_table, drop_table, rename_table}
use Rattle.smo_ops_types.specs.Operators.{copy_table, merge_table, partition_table, decompose_table}
use Rattle.smo_ops_types.specs.Operators.{join_table, add_column, drop_column, rename_column}
use Rattle.smo_ops_spec.specs.OneRow.{same}
use Rattle.smo_ops_spec.specs.Preconditions.{among}
use Rattle.smo_ops_spec.specs.OperatorTable.{line, made_names}
use Rattle.smo_ops_spec.specs.Touching.{made_of}
use Rattle.smo_ops_spec.specs.After.{schema_after}
use Rattle.smo_ops_spec.specs.Evolutions.{schema_after_each}
use Rattle.smo_ops_spec.proofs.TouchedTables.{neither, table_stays}
use Rattle.smo_ops_spec.proofs.NameLaws.{same_turned}
use Rattle.smo_ops_versions_spec.specs.Steps.{carrying_each, taken}
use Rattle.smo_ops_widths.specs.Widths.{Width, Widths, own_width, made_widths, of_both}
use Rattle.smo_ops_widths.specs.Widths.{part_width, merged_width, joined_width, with_size, sized_as}
use Rattle.smo_ops_widths.specs.Widths.{sized, no_width, put_width, put_widths, widths_over}
use Rattle.smo_ops_widths.specs.Widths.{widths_stepped}
use Rattle.smo_ops_widths.specs.Creating.{LeavesOut, AllLeaveOut}
use Rattle.smo_ops_widths.proofs.ShownLaws.{put_at}
use Rattle.smo_ops_widths.proofs.WithinLaws.{MayBeWithin, AllWithin, over_within}

-- ---- at one name

pub put_alike : (names : List (List ℕ)) (ms : List (Option Width)) (xs ys : Widths) (n : List ℕ)
    → get xs n ≡ get ys n → get (put_widths names ms xs) n ≡ get (put_widths names ms ys) n
put_alike [] ms xs ys n e = e
put_alike (m ∷ names) [] xs ys n e = e
put_alike (m ∷ names) (w ∷ ms) xs ys n e =
    put_alike names ms (put_width m w xs) (put_width m w ys) n
    (put_at xs m w n ∙ ap (λ (o : Option Width). cond (same n m) w o) e ∙ sym (put_at ys m w n))

less_alike : (names : List (List ℕ)) (xs ys : Widths) (n : List ℕ) → get xs n ≡ get ys n
    → get (no_width names xs) n ≡ get (no_width names ys) n
less_alike [] xs ys n e = e
less_alike (m ∷ names) xs ys n e = less_alike names (remove xs m) (remove ys m) n
    (get-remove nat_list_cmp_total xs m n
    ∙ ap (λ (o : Option Width). cond (same n m) None o) e
    ∙ sym (get-remove nat_list_cmp_total ys m n))

pub put_others : (names : List (List ℕ)) (ms : List (Option Width)) (xs : Widths) (n : List ℕ)
    → among n names ≡ false → get (put_widths names ms xs) n ≡ get xs n
put_others [] ms xs n e = refl
put_others (m ∷ names) [] xs n e = refl
put_others (m ∷ names) (w ∷ ms) xs n e =
    let h = neither (same n m) (among n names) e in
    put_others names ms (put_width m w xs) n h.1 ∙ put_at xs m w n
    ∙ ap (λ (b : Bool). cond b w (get xs n)) h.0

pub less_others : (names : List (List ℕ)) (xs : Widths) (n : List ℕ) → among n names ≡ false
    → get (no_width names xs) n ≡ get xs n
less_others [] xs n e = refl
less_others (m ∷ names) xs n e =
    let h = neither (same n m) (among n names) e in
    less_others names (remove xs m) n h.1 ∙ get-remove nat_list_cmp_total xs m n
    ∙ ap (λ (b : Bool). cond b None (get xs n)) h.0

-- ---- what an operator makes

module _ (tables : Tables) (r : List ℕ) (f g : List ℕ → Option Width)
    (h : (n : List ℕ) → same r n ≡ false → f n ≡ g n) where
  one_alike : (a : List ℕ) → among r (a ∷ []) ≡ false → f a ≡ g a
  one_alike a e = h a (neither (same r a) false e).0

  two_alike : (a b : List ℕ) (F : Width → Width → Width) → among r (a ∷ b ∷ []) ≡ false
      → ◌≡◌ {A = List (Option Width)} (of_both F (f a) (f b) ∷ []) (of_both F (g a) (g b) ∷ [])
  two_alike a b F e =
      let first = neither (same r a) (among r (b ∷ [])) e in
      ap (λ (o : Option Width). of_both F o (f b) ∷ []) (h a first.0)
      ∙ ap (λ (o : Option Width). of_both F (g a) o ∷ []) (one_alike b first.1)

  made_alike : (op : Operator) → among r (made_of op) ≡ false
      → made_widths tables op f ≡ made_widths tables op g
  made_alike nop e = refl
  made_alike (create_table n cs) e = refl
  made_alike (drop_table n) e = refl
  made_alike (rename_table n t) e = ap (λ (o : Option Width). o ∷ []) (one_alike n e)
  made_alike (copy_table n t) e = ap (λ (o : Option Width). o ∷ []) (one_alike n e)
  made_alike (merge_table n s t) e = two_alike n s merged_width e
  made_alike (partition_table n s c t) e = ap (λ (o : Option Width).
      option_map (part_width 1 c) o ∷ option_map (part_width 2 c) o ∷ []) (one_alike n e)
  made_alike (decompose_table n s xs t ys) e = ap (λ (o : Option Width). o ∷ o ∷ [])
      (one_alike n e)
  made_alike (join_table n s t c) e = two_alike n s
      (joined_width (columns_of tables n) (columns_of tables s) c) e
  made_alike (add_column c x n) e = ap (λ (o : Option Width). option_map (λ (a : Width).
      with_size (sized_as c (sized a.size x) a.size) a) o ∷ []) (one_alike n e)
  made_alike (drop_column c n) e = ap (λ (o : Option Width). o ∷ []) (one_alike n e)
  made_alike (rename_column b n c) e = ap (λ (o : Option Width). option_map (λ (a : Width).
      with_size (sized_as c (a.size b) a.size) a) o ∷ []) (one_alike n e)

module _ (tables : Tables) (op : Operator) (r : List ℕ) (left : LeavesOut op r) where
  -- the table's own width stays
  pub own_stays : (xs : Widths) → get (widths_over tables op xs) r ≡ get xs r
  own_stays xs =
      put_others (made_names (line tables op).made) (made_widths tables op (get xs))
      (no_width (line tables op).consumed xs) r (left.makes tables)
      ∙ less_others (line tables op).consumed xs r (left.consumes tables)

  -- and another one's is as without it
  other_alike : (xs : Widths) (n : List ℕ) → same n r ≡ false
      → get (widths_over tables op (remove xs r)) n ≡ get (widths_over tables op xs) n
  other_alike xs n e =
      let without : (m : List ℕ) → same r m ≡ false → get (remove xs r) m ≡ get xs m =
      λ m d. get-remove nat_list_cmp_total xs r m
      ∙ ap (λ (b : Bool). cond b None (get xs m)) (same_turned m r ∙ d) in
      ap (λ (ms : List (Option Width)). get (put_widths (made_names (line tables op).made) ms
      (no_width (line tables op).consumed (remove xs r))) n)
      (made_alike tables r (get (remove xs r)) (get xs) without op left.reads)
      ∙ put_alike (made_names (line tables op).made) (made_widths tables op (get xs))
      (no_width (line tables op).consumed (remove xs r)) (no_width (line tables op).consumed xs) n
      (less_alike (line tables op).consumed (remove xs r) xs n (without n (same_turned r n ∙ e)))

-- all but one table are within others, and that one has its own width
pub record Beside (r : List ℕ) (xs ys : Widths) : Type 0 where
  pub others : AllWithin (remove xs r) ys
  pub own : get xs r ≡ Some own_width

pub over_beside : (tables : Tables) (op : Operator) (r : List ℕ) → LeavesOut op r
    → (xs ys : Widths) → Beside r xs ys
    → Beside r (widths_over tables op xs) (widths_over tables op ys)
over_beside tables op r left xs ys h = record {
  others = λ n. subst (λ (o : Option Width). MayBeWithin o (get (widths_over tables op ys) n))
      (sym (get-remove nat_list_cmp_total (widths_over tables op xs) r n))
      (step n (same n r) refl);
  own = own_stays tables op r left xs ∙ h.own;
}
  where
    step : (n : List ℕ) (b : Bool) → same n r ≡ b
        → MayBeWithin (cond b None (get (widths_over tables op xs) n))
        (get (widths_over tables op ys) n)
    step n true e = tt
    step n false e = subst (λ (o : Option Width). MayBeWithin o (get (widths_over tables op ys) n))
        (other_alike tables op r left xs n e)
        (over_within tables op (remove xs r) ys h.others n)

-- ---- operators one after the other

pub each_own_stays : (tables : Tables) (ops : List Operator) (r : List ℕ) → AllLeaveOut ops r
    → (xs : Widths) → get (taken widths_stepped (carrying_each tables ops) xs) r ≡ get xs r
each_own_stays tables [] r l xs = refl
each_own_stays tables (op ∷ ops) r l xs =
    each_own_stays (schema_after tables op) ops r l.1 (widths_over tables op xs)
    ∙ own_stays tables op r l.0 xs

pub each_beside : (tables : Tables) (ops : List Operator) (r : List ℕ) → AllLeaveOut ops r
    → (xs ys : Widths) → Beside r xs ys
    → Beside r (taken widths_stepped (carrying_each tables ops) xs)
    (taken widths_stepped (carrying_each tables ops) ys)
each_beside tables [] r l xs ys h = h
each_beside tables (op ∷ ops) r l xs ys h =
    each_beside (schema_after tables op) ops r l.1 (widths_over tables op xs)
    (widths_over tables op ys) (over_beside tables op r l.0 xs ys h)

pub each_left : (tables : Tables) (ops : List Operator) (r : List ℕ) → AllLeaveOut ops r
    → get (schema_after_each tables ops) r ≡ get tables r
each_left tables [] r l = refl
each_left tables (op ∷ ops) r l =
    each_left (schema_after tables op) ops r l.1
    ∙ table_stays tables op r (l.0.makes tables) (l.0.consumes tables)
