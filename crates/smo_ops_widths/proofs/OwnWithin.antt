-- What an operator that creates no table makes of tables that are read from their own version is at
-- least as wide as the next version's own tables.
use Rattle.std.proofs.Common.{◌≡◌, ◌≤◌, ℕ, Bool, true, false, List, [], ◌∷◌}
use Rattle.std.proofs.Common.{refl}
use Rattle.std.proofs.Common.{ap, sym, subst, ◌∙◌, map, arith}
use Rattle.std.specs.Prelude.{cond, is_some, if◌then◌else◌, Option, Some, None, ⊤}
use Rattle.std.specs.Option.{option_map}
use Rattle.std.specs.BTreeMap.{is_at}
use Rattle.std.specs.FinMap.{get, find, insert, remove, entries, get-insert}
use Rattle.std.specs.FinMap.{get-remove, get-entries}
use Rattle.std.specs.FinMap.{get-from_entries}
use Rattle.std.specs.Cmp.Lexicographic.{nat_list_cmp_total}
use Rattle.prima_base.specs.Order.{bytes_cmp}
use Rattle.prima_base.specs.Columns.{Column, names_of}
use Rattle.schema_catalog.specs.Tables.{Tables}
use Rattle.cond_expr.specs.Trees.{Tree, Test, column, constant, length_of, joined, choose}
use Rattle.smo_ops_types.specs.Operators.{Operator, nop, create_table, drop_table, rename_table}
use Rattle.smo_ops_types.specs.Operators.{copy_table, merge_table, partition_table, decompose_table}
use Rattle.smo_ops_types.specs.Operators.{join_table, add_column, drop_column, rename_column}
use Rattle.smo_ops_spec.specs.OneRow.{same}
use Rattle.smo_ops_spec.specs.Effects.{columns_of}
use Rattle.smo_ops_spec.specs.Preconditions.{among, is_there}
use Rattle.smo_ops_spec.specs.OperatorTable.{Made, line, made_names, without_all, with_all}
use Rattle.smo_ops_spec.specs.After.{op_fault, schema_after}
use Rattle.smo_ops_spec.proofs.StepLaws.{AllMet}
use Rattle.smo_ops_spec.proofs.NextSchemas.{all_preconditions, is_table}
use Rattle.smo_ops_widths.specs.Widths.{Width, Widths, own_width, own_widths, made_widths, of_both}
use Rattle.smo_ops_widths.specs.Widths.{part_width, merged_width, joined_width, with_size, sized_as}
use Rattle.smo_ops_widths.specs.Widths.{sized, no_width, put_width, put_widths}
use Rattle.smo_ops_widths.specs.Widths.{widths_over}
use Rattle.smo_ops_widths.specs.Creating.{creates}
use Rattle.smo_ops_widths.specs.Counted.{AreBy}
use Rattle.smo_ops_widths.proofs.ShownLaws.{put_at}
use Rattle.smo_ops_widths.proofs.WithinLaws.{Within, MayBeWithin, AllWithin}

-- each table has its own width
found_own : (ts : List (List ℕ × List Column)) (n : List ℕ)
    → find bytes_cmp n (map (λ (t : List ℕ × List Column). (t.0, own_width)) ts)
    ≡ option_map (λ (cs : List Column). own_width) (find bytes_cmp n ts)
found_own [] n = refl
found_own (t ∷ ts) n = step (found_own ts n) (is_at (bytes_cmp n) t.0)
  where
    step : find bytes_cmp n (map (λ (u : List ℕ × List Column). (u.0, own_width)) ts)
        ≡ option_map (λ (cs : List Column). own_width) (find bytes_cmp n ts)
        → (b : Bool) → cond b (Some own_width)
        (find bytes_cmp n (map (λ (u : List ℕ × List Column). (u.0, own_width)) ts))
        ≡ option_map (λ (cs : List Column). own_width) (cond b (Some t.1) (find bytes_cmp n ts))
    step more true = refl
    step more false = more

pub own_by : (tables : Tables) (n : List ℕ) → get (own_widths tables) n
    ≡ option_map (λ (cs : List Column). own_width) (get tables n)
own_by tables n = get-from_entries nat_list_cmp_total
    (map (λ (t : List ℕ × List Column). (t.0, own_width)) (entries tables)) n
    ∙ found_own (entries tables) n
    ∙ ap (λ (o : Option (List Column)). option_map (λ (cs : List Column). own_width) o)
    (sym (get-entries tables n))

pub own_there : (tables : Tables) (n : List ℕ) → is_some (get tables n) ≡ true
    → get (own_widths tables) n ≡ Some own_width
own_there tables n e = own_by tables n ∙ step (get tables n) e
  where
    step : (o : Option (List Column)) → is_some o ≡ true
        → option_map (λ (cs : List Column). own_width) o ≡ Some own_width
    step None t = absurd (cc)
    step (Some cs) t = refl

-- ---- the tables and their widths, one by one

abbrev Owned : Tables → Widths → Type 0
Owned tables widths = (n : List ℕ)
    → MayBeWithin (option_map (λ (cs : List Column). own_width) (get tables n)) (get widths n)

pub maybe_itself : (o : Option Width) → MayBeWithin o o
maybe_itself None = tt
maybe_itself (Some a) = record {
  pieces = omega arith;
  atoms = omega arith;
  cond = omega arith;
  size = λ n. omega arith;
}

owned_first : (tables : Tables) → Owned tables (own_widths tables)
owned_first tables n = subst (λ (o : Option Width).
    MayBeWithin (option_map (λ (cs : List Column). own_width) (get tables n)) o)
    (sym (own_by tables n))
    (maybe_itself (option_map (λ (cs : List Column). own_width) (get tables n)))

owned_less : (tables : Tables) (widths : Widths) (m : List ℕ) → Owned tables widths
    → Owned (remove tables m) (remove widths m)
owned_less tables widths m h n =
    subst (λ (o : Option (List Column)). MayBeWithin
    (option_map (λ (cs : List Column). own_width) o) (get (remove widths m) n))
    (sym (get-remove nat_list_cmp_total tables m n))
    (subst (λ (o : Option Width). MayBeWithin (option_map (λ (cs : List Column). own_width)
    (cond (is_at (bytes_cmp n) m) None (get tables n))) o)
    (sym (get-remove nat_list_cmp_total widths m n)) (step (is_at (bytes_cmp n) m)))
  where
    step : (b : Bool) → MayBeWithin (option_map (λ (cs : List Column). own_width)
        (cond b None (get tables n))) (cond b None (get widths n))
    step true = tt
    step false = h n

owned_more : (tables : Tables) (widths : Widths) (m : List ℕ) (columns : List Column)
    (w : Option Width) → MayBeWithin (Some own_width) w → Owned tables widths
    → Owned (insert tables m columns) (put_width m w widths)
owned_more tables widths m columns w p h n =
    subst (λ (o : Option (List Column)). MayBeWithin
    (option_map (λ (cs : List Column). own_width) o) (get (put_width m w widths) n))
    (sym (get-insert nat_list_cmp_total tables m columns n))
    (subst (λ (o : Option Width). MayBeWithin (option_map (λ (cs : List Column). own_width)
    (cond (is_at (bytes_cmp n) m) (Some columns) (get tables n))) o)
    (sym (put_at widths m w n)) (step (is_at (bytes_cmp n) m)))
  where
    step : (b : Bool) → MayBeWithin (option_map (λ (cs : List Column). own_width)
        (cond b (Some columns) (get tables n))) (cond b w (get widths n))
    step true = p
    step false = h n

owned_without : (names : List (List ℕ)) (tables : Tables) (widths : Widths)
    → Owned tables widths → Owned (without_all names tables) (no_width names widths)
owned_without [] tables widths h = h
owned_without (n ∷ names) tables widths h = owned_without names (remove tables n)
    (remove widths n) (owned_less tables widths n h)

-- each made table has a width
abbrev EachWide : List Made → List (Option Width) → Type 0
EachWide [] ws = ⊤
EachWide (m ∷ made) [] = ⊥
EachWide (m ∷ made) (w ∷ ws) = MayBeWithin (Some own_width) w × EachWide made ws

owned_with : (made : List Made) (ws : List (Option Width)) (tables : Tables) (widths : Widths)
    → EachWide made ws → Owned tables widths
    → Owned (with_all made tables) (put_widths (made_names made) ws widths)
owned_with [] ws tables widths e h = h
owned_with (m ∷ made) [] tables widths e h = absurd e
owned_with (m ∷ made) (w ∷ ws) tables widths e h = owned_with made ws
    (insert tables m.name m.columns) (put_width m.name w widths) e.1
    (owned_more tables widths m.name m.columns w e.0 h)

-- ---- what an operator makes

some_nodes : (e : Tree) → 1 ≤ sized (λ n. 1) e
some_nodes (column w n) = omega arith
some_nodes (constant v) = omega arith
some_nodes (length_of t) = omega arith
some_nodes (joined ts) = omega arith
some_nodes (choose c a b) = omega arith

module _ (tables : Tables) where
  abbrev of : List ℕ → Option Width
  of = get (own_widths tables)

  there : (r : List ℕ) → is_there tables r ≡ None → of r ≡ Some own_width
  there r e = own_there tables r (is_table tables r e)

  as_own : (r : List ℕ) → is_there tables r ≡ None → MayBeWithin (Some own_width) (of r)
  as_own r e = subst (λ (o : Option Width). MayBeWithin (Some own_width) o) (sym (there r e))
      (maybe_itself (Some own_width))

  of_one : (F : Width → Width) → AreBy Within own_width (F own_width) → (r : List ℕ)
      → is_there tables r ≡ None → MayBeWithin (Some own_width) (option_map F (of r))
  of_one F w r e = subst (λ (o : Option Width). MayBeWithin (Some own_width) (option_map F o))
      (sym (there r e)) w

  of_two : (F : Width → Width → Width) → AreBy Within own_width (F own_width own_width)
      → (r s : List ℕ) → is_there tables r ≡ None → is_there tables s ≡ None
      → MayBeWithin (Some own_width) (of_both F (of r) (of s))
  of_two F w r s e f = subst (λ (o : Option Width). MayBeWithin (Some own_width)
      (of_both F o (of s))) (sym (there r e))
      (subst (λ (o : Option Width). MayBeWithin (Some own_width)
      (of_both F (Some own_width) o)) (sym (there s f)) w)

  part_wide : (more : ℕ) (c : Test) → AreBy Within own_width (part_width more c own_width)
  part_wide more c = record {
    pieces = omega arith;
    atoms = omega arith;
    cond = omega arith;
    size = λ n. omega arith;
  }

  sized_wide : (c : List ℕ) (k : ℕ) → 1 ≤ k
      → AreBy Within own_width (with_size (sized_as c k (λ n. 1)) own_width)
  sized_wide c k l = record {
    pieces = omega arith;
    atoms = omega arith;
    cond = omega arith;
    size = λ n. step (same n c);
  }
    where
      step : (b : Bool) → 1 ≤ (if b then k else 1)
      step true = l
      step false = omega arith

  joined_wide : (cs ds : List Column) (c : Test)
      → AreBy Within own_width (joined_width cs ds c own_width own_width)
  joined_wide cs ds c = record {
    pieces = omega arith;
    atoms = omega arith;
    cond = omega arith;
    size = λ n. step (among n (names_of cs));
  }
    where
      step : (b : Bool) → 1 ≤ (if b then 1 else 1)
      step true = omega arith
      step false = omega arith

  merged_wide : AreBy Within own_width (merged_width own_width own_width)
  merged_wide = record {
    pieces = omega arith;
    atoms = omega arith;
    cond = omega arith;
    size = λ n. omega arith;
  }

  made_wide : (op : Operator) → creates op ≡ false → AllMet (line tables op).preconditions
      → EachWide (line tables op).made (made_widths tables op (get (own_widths tables)))
  made_wide nop f m = tt
  made_wide (create_table r cs) f m = absurd (cc)
  made_wide (drop_table r) f m = tt
  made_wide (rename_table r t) f m = (as_own r m.0, tt)
  made_wide (copy_table r t) f m = (as_own r m.0, tt)
  made_wide (merge_table r s t) f m = (of_two merged_width merged_wide r s m.0 m.1.0, tt)
  made_wide (partition_table r s c t) f m = (
    of_one (part_width 1 c) (part_wide 1 c) r m.0,
    (of_one (part_width 2 c) (part_wide 2 c) r m.0, tt),
  )
  made_wide (decompose_table r s xs t ys) f m = (as_own r m.0, (as_own r m.0, tt))
  made_wide (join_table r s t c) f m = (
    of_two
        (joined_width (columns_of tables r) (columns_of tables s) c)
        (joined_wide (columns_of tables r) (columns_of tables s) c) r s m.0 m.1.0,
    tt,
  )
  made_wide (add_column c e r) f m = (
    of_one (λ (a : Width).
        with_size (sized_as c (sized a.size e) a.size) a)
        (sized_wide c (sized (λ n. 1) e) (some_nodes e)) r m.0,
    tt,
  )
  made_wide (drop_column c r) f m = (as_own r m.0, tt)
  made_wide (rename_column b r c) f m = (
    of_one (λ (a : Width).
        with_size (sized_as c (a.size b) a.size) a) (sized_wide c 1 (omega arith)) r m.0,
    tt,
  )

pub own_within : (tables : Tables) (op : Operator) → creates op ≡ false
    → op_fault tables op ≡ None
    → AllWithin (own_widths (schema_after tables op)) (widths_over tables op (own_widths tables))
own_within tables op f e n =
    subst (λ (o : Option Width). MayBeWithin o
    (get (widths_over tables op (own_widths tables)) n))
    (sym (own_by (schema_after tables op) n))
    (owned_with (line tables op).made (made_widths tables op (get (own_widths tables)))
    (without_all (line tables op).consumed tables)
    (no_width (line tables op).consumed (own_widths tables))
    (made_wide tables op f (all_preconditions tables op e))
    (owned_without (line tables op).consumed tables (own_widths tables) (owned_first tables)) n)
