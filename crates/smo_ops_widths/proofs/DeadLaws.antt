-- Dead tables, over the operators.
use Rattle.std.proofs.Common.{◌≡◌, ◌+◌, ◌≤◌, ℕ, Bool, true, false, List, [], ◌∷◌, length, max}
use Rattle.std.proofs.Common.{refl, ap, sym, ◌∙◌, inl, inr, arith}
use Rattle.std.specs.Prelude.{cond, ◌||◌, Option, Some, None, slice_get}
use Rattle.std.specs.Option.{option_map}
use Rattle.std.specs.FinMap.{get, remove, entries, get-remove}
use Rattle.std.specs.Cmp.Lexicographic.{nat_list_cmp_total}
use Rattle.prima_base.specs.Columns.{Column}
use Rattle.schema_catalog.specs.Tables.{Tables, columns_of}
use Rattle.smo_ops_types.specs.Operators.{Operator, nop, create_table, drop_table, rename_table}
use Rattle.smo_ops_types.specs.Operators.{copy_table, merge_table, partition_table, decompose_table}
use Rattle.smo_ops_types.specs.Operators.{join_table, add_column, drop_column, rename_column}
use Rattle.smo_ops_types.specs.Commands.{PlainVersion}
use Rattle.smo_ops_spec.specs.OneRow.{same}
use Rattle.smo_ops_spec.specs.Preconditions.{among}
use Rattle.smo_ops_spec.specs.OperatorTable.{line, made_names}
use Rattle.smo_ops_spec.specs.Past.{no_tables, tables_from}
use Rattle.smo_ops_spec.specs.Touching.{makes, consumes, made_of}
use Rattle.smo_ops_spec.proofs.NameLaws.{in_among}
use Rattle.smo_ops_versions_spec.specs.Steps.{carrying_each, taken}
use Rattle.smo_ops_versions_spec.specs.Ways.{over_version, way}
use Rattle.smo_ops_versions_spec.proofs.WaySteps.{taken_stays, taken_forward, taken_forward_by}
use Rattle.smo_ops_widths.specs.Widths.{Width, Widths, made_widths, of_both, part_width}
use Rattle.smo_ops_widths.specs.Widths.{merged_width, joined_width, with_size, sized_as, sized}
use Rattle.smo_ops_widths.specs.Widths.{no_width, put_width, put_widths, widths_over}
use Rattle.smo_ops_widths.specs.Widths.{widths_stepped, greatest, measure_of}
use Rattle.smo_ops_widths.specs.Dead.{AgreeBeside, AreDead, AreDeadBefore}
use Rattle.smo_ops_widths.proofs.ShownLaws.{put_at}
use Rattle.smo_ops_widths.proofs.NamesLeftOut.{put_alike, put_others, less_others}

-- ---- without the consumed tables

none_still : (b : Bool) → ◌≡◌ {A = Option Width} (cond b None None) None
none_still true = refl
none_still false = refl

less_none : (names : List (List ℕ)) (xs : Widths) (n : List ℕ) → get xs n ≡ None
    → get (no_width names xs) n ≡ None
less_none [] xs n e = e
less_none (m ∷ names) xs n e = less_none names (remove xs m) n
    (get-remove nat_list_cmp_total xs m n
    ∙ ap (λ (o : Option Width). cond (same n m) None o) e ∙ none_still (same n m))

less_gone : (names : List (List ℕ)) (xs : Widths) (n : List ℕ) → among n names ≡ true
    → get (no_width names xs) n ≡ None
less_gone [] xs n t = absurd (cc)
less_gone (m ∷ names) xs n t =
    step (λ u. less_gone names (remove xs m) n u) (same n m) refl t
  where
    step : (among n names ≡ true → get (no_width names (remove xs m)) n ≡ None) → (b : Bool)
        → same n m ≡ b → (b || among n names) ≡ true
        → get (no_width names (remove xs m)) n ≡ None
    step more true e u = less_none names (remove xs m) n
        (get-remove nat_list_cmp_total xs m n ∙ ap (λ (b : Bool). cond b None (get xs n)) e)
    step more false e u = more u

-- ---- with those that are made

put_same : (names : List (List ℕ)) (ms : List (Option Width)) (xs ys : Widths) (n : List ℕ)
    → length ms ≡ length names → among n names ≡ true
    → get (put_widths names ms xs) n ≡ get (put_widths names ms ys) n
put_same [] ms xs ys n l t = absurd (cc)
put_same (m ∷ names) [] xs ys n l t = absurd (omega (arith, l))
put_same (m ∷ names) (w ∷ ms) xs ys n l t =
    step (λ u. put_same names ms (put_width m w xs) (put_width m w ys) n (omega (arith, l)) u)
    (same n m) refl t
  where
    step : (among n names ≡ true → get (put_widths names ms (put_width m w xs)) n
        ≡ get (put_widths names ms (put_width m w ys)) n) → (b : Bool) → same n m ≡ b
        → (b || among n names) ≡ true → get (put_widths names ms (put_width m w xs)) n
        ≡ get (put_widths names ms (put_width m w ys)) n
    step more true e u = put_alike names ms (put_width m w xs) (put_width m w ys) n
        (put_at xs m w n ∙ ap (λ (b : Bool). cond b w (get xs n)) e
        ∙ sym (put_at ys m w n ∙ ap (λ (b : Bool). cond b w (get ys n)) e))
    step more false e u = more u

made_count : (tables : Tables) (of : List ℕ → Option Width) (op : Operator)
    → length (made_widths tables op of) ≡ length (made_names (line tables op).made)
made_count tables of nop = refl
made_count tables of (create_table r cs) = refl
made_count tables of (drop_table r) = refl
made_count tables of (rename_table r t) = refl
made_count tables of (copy_table r t) = refl
made_count tables of (merge_table r s t) = refl
made_count tables of (partition_table r s c t) = refl
made_count tables of (decompose_table r s xs t ys) = refl
made_count tables of (join_table r s t c) = refl
made_count tables of (add_column c e r) = refl
made_count tables of (drop_column c r) = refl
made_count tables of (rename_column b r c) = refl

module _ (tables : Tables) (f g : List ℕ → Option Width) where
  abbrev Same : List (List ℕ) → Type 0
  Same names = (n : List ℕ) → among n names ≡ true → f n ≡ g n

  one_same : (a : List ℕ) → Same (a ∷ []) → f a ≡ g a
  one_same a h = h a (in_among a (a ∷ []) (inl refl))

  two_same : (a b : List ℕ) (F : Width → Width → Width) → Same (a ∷ b ∷ [])
      → ◌≡◌ {A = List (Option Width)} (of_both F (f a) (f b) ∷ []) (of_both F (g a) (g b) ∷ [])
  two_same a b F h = ap (λ (o : Option Width). of_both F o (f b) ∷ [])
      (h a (in_among a (a ∷ b ∷ []) (inl refl)))
      ∙ ap (λ (o : Option Width). of_both F (g a) o ∷ [])
      (h b (in_among b (a ∷ b ∷ []) (inr (inl refl))))

  made_same : (op : Operator) → Same (made_of op)
      → made_widths tables op f ≡ made_widths tables op g
  made_same nop h = refl
  made_same (create_table n cs) h = refl
  made_same (drop_table n) h = refl
  made_same (rename_table n t) h = ap (λ (o : Option Width). o ∷ []) (one_same n h)
  made_same (copy_table n t) h = ap (λ (o : Option Width). o ∷ []) (one_same n h)
  made_same (merge_table n s t) h = two_same n s merged_width h
  made_same (partition_table n s c t) h = ap (λ (o : Option Width).
      option_map (part_width 1 c) o ∷ option_map (part_width 2 c) o ∷ []) (one_same n h)
  made_same (decompose_table n s xs t ys) h = ap (λ (o : Option Width). o ∷ o ∷ [])
      (one_same n h)
  made_same (join_table n s t c) h = two_same n s
      (joined_width (columns_of tables n) (columns_of tables s) c) h
  made_same (add_column c x n) h = ap (λ (o : Option Width). option_map (λ (a : Width).
      with_size (sized_as c (sized a.size x) a.size) a) o ∷ []) (one_same n h)
  made_same (drop_column c n) h = ap (λ (o : Option Width). o ∷ []) (one_same n h)
  made_same (rename_column b n c) h = ap (λ (o : Option Width). option_map (λ (a : Width).
      with_size (sized_as c (a.size b) a.size) a) o ∷ []) (one_same n h)

-- ---- widths that agree beside dead tables do so after the operator

pub over_agree : (tables : Tables) (op : Operator) (after before : List ℕ → Bool)
    → AreDeadBefore op after before → (xs ys : Widths) → AgreeBeside before xs ys
    → AgreeBeside after (widths_over tables op xs) (widths_over tables op ys)
over_agree tables op after before d xs ys h n a =
    step (makes tables op n) refl (consumes tables op n) refl
  where
    beside : makes tables op n ≡ false → (ws : Widths)
        → get (widths_over tables op ws) n ≡ get (no_width (line tables op).consumed ws) n
    beside p ws = put_others (made_names (line tables op).made) (made_widths tables op (get ws))
        (no_width (line tables op).consumed ws) n p

    step : (b : Bool) → makes tables op n ≡ b → (c : Bool) → consumes tables op n ≡ c
        → get (widths_over tables op xs) n ≡ get (widths_over tables op ys) n
    step false p false q = beside p xs ∙ less_others (line tables op).consumed xs n q
        ∙ h n (d.untouched tables n p q a)
        ∙ sym (beside p ys ∙ less_others (line tables op).consumed ys n q)
    step false p true q = beside p xs ∙ less_gone (line tables op).consumed xs n q
        ∙ sym (beside p ys ∙ less_gone (line tables op).consumed ys n q)
    step true p c q =
        ap (λ (ms : List (Option Width)). get (put_widths (made_names (line tables op).made) ms
        (no_width (line tables op).consumed xs)) n)
        (made_same tables (get xs) (get ys) op (λ m t. h m (d.read tables n m p a t)))
        ∙ put_same (made_names (line tables op).made) (made_widths tables op (get ys))
        (no_width (line tables op).consumed xs) (no_width (line tables op).consumed ys) n
        (made_count tables (get ys) op) p

-- ---- along the versions

greatest_same : (ts : List (List ℕ × List Column)) (xs ys : Widths)
    → ((n : List ℕ) → get xs n ≡ get ys n) → greatest ts xs ≡ greatest ts ys
greatest_same [] xs ys h = refl
greatest_same (t ∷ ts) xs ys h =
    ap (λ (o : Option Width). max (measure_of t.1 o) (greatest ts xs)) (h t.0)
    ∙ ap (λ (k : ℕ). max (measure_of t.1 (get ys t.0)) k) (greatest_same ts xs ys h)

module _ (versions : List PlainVersion) where
  -- none is dead where nothing follows
  pub none_dead : (these : List ℕ → Bool) → ((n : List ℕ) → these n ≡ false) → (q : ℕ)
      → AreDead these versions q q
  none_dead these none q xs ys h =
      greatest_same (entries (tables_from no_tables versions q))
      (taken widths_stepped (way versions q q) xs) (taken widths_stepped (way versions q q) ys)
      (λ n. ap (λ (w : Widths). get w n) (taken_stays versions widths_stepped q xs)
      ∙ h n (none n) ∙ sym (ap (λ (w : Widths). get w n) (taken_stays versions widths_stepped q ys)))

  module _ (k q : ℕ) (v : PlainVersion) (l : k + 1 ≤ q) (here : slice_get versions k ≡ Some v)
      (op : Operator) (one : v.op ≡ op ∷ []) where
    one_on : (xs : Widths) → taken widths_stepped (way versions k (k + 1)) xs
        ≡ widths_over (tables_from no_tables versions k) op xs
    one_on xs = taken_forward versions widths_stepped k k xs (omega arith)
        ∙ ap (λ (w : Widths). taken widths_stepped
        (over_version (tables_from no_tables versions k) (slice_get versions k)) w)
        (taken_stays versions widths_stepped k xs)
        ∙ ap (λ o. taken widths_stepped (over_version (tables_from no_tables versions k) o) xs) here
        ∙ ap (λ (ops : List Operator). taken widths_stepped
        (carrying_each (tables_from no_tables versions k) ops) xs) one

    pub first_on : (xs : Widths) → taken widths_stepped (way versions k q) xs
        ≡ taken widths_stepped (way versions (k + 1) q)
        (widths_over (tables_from no_tables versions k) op xs)
    first_on xs = taken_forward_by versions widths_stepped k (k + 1) q xs (omega arith) l
        ∙ ap (λ (w : Widths). taken widths_stepped (way versions (k + 1) q) w) (one_on xs)

    -- one version back
    pub dead_before : (after before : List ℕ → Bool) → AreDeadBefore op after before
        → AreDead after versions (k + 1) q → AreDead before versions k q
    dead_before after before d dead xs ys h =
        ap (λ (w : Widths). greatest (entries (tables_from no_tables versions q)) w) (first_on xs)
        ∙ dead (widths_over (tables_from no_tables versions k) op xs)
        (widths_over (tables_from no_tables versions k) op ys)
        (over_agree (tables_from no_tables versions k) op after before d xs ys h)
        ∙ sym (ap (λ (w : Widths). greatest (entries (tables_from no_tables versions q)) w)
        (first_on ys))
