-- The first name under which tables in the order of their names differ from others.
use Rattle.std.proofs.Common.{◌≡◌, ◌<◌, ◌≤◌, ◌+◌, ℕ, suc, Bool, true, false, List, [], ◌∷◌, length}
use Rattle.std.proofs.Common.{refl, sym, ap, subst, ◌∙◌, get_or, drop, drop-cons, add-one}
use Rattle.std.specs.Prelude.{◌&&◌, T, cond, Option, Some, None}
use Rattle.std.specs.Bool.{Decides}
use Rattle.std.specs.Ordering.{is_eq, is_lt, eq_by_cmp}
use Rattle.std.specs.declared.cmp.Ordering.{Ordering}
use Rattle.std.specs.declared.cmp.Ordering.TheVariants.{Less, Equal, Greater}
use Rattle.std.specs.FinMap.{is_sorted, find, get, get-from_sorted, same_map}
use Rattle.std.specs.FinMap.{slice_cmp-IsAntisymmetric, nat_cmp-IsAntisymmetric}
use Rattle.std.specs.FinMap.Entries.{below_all}
use Rattle.std.specs.Cmp.Lexicographic.{nat_list_cmp_total}
use Rattle.std.proofs.lemmas.Cmp.{tied_itself}
use Rattle.std.proofs.lemmas.List.{drop_all}
use Rattle.prima_base.specs.declared.value.ColType.{ColType}
use Rattle.prima_base.specs.declared.value.ColType.TheVariants.{Int, Text}
use Rattle.prima_base.specs.Order.{bytes_cmp, same}
use Rattle.prima_base.specs.OrderLaws.{bytes_exact, same_is}
use Rattle.prima_base.specs.Columns.{Column}
use Rattle.schema_catalog.specs.Tables.{Tables}
use Rattle.schema_catalog.specs.Places.{NamedColumns, AreTablesOf}
use Rattle.schema_catalog.specs.Differences.{IsFirstDifference, IsDifference}
use Rattle.schema_catalog.proofs.Sorting.{first, second}

less : (o : Ordering) → T (is_lt o) → o ≡ Less
less Less p = refl
less Equal p = absurd p
less Greater p = absurd p

equal : (o : Ordering) → is_eq o ≡ true → o ≡ Equal
equal Less p = absurd (cc)
equal Equal p = refl
equal Greater p = absurd (cc)

some_apart : (x y : List Column) → ◌≡◌ {A = Option (List Column)} (Some x) (Some y) → x ≡ y
some_apart x y e = cc

not_none : (x : List Column) → ◌≡◌ {A = Option (List Column)} (Some x) None → ⊥
not_none x e = absurd (cc)

-- no table has the name where all names are after it
none_below : (n : List ℕ) (es : List NamedColumns) → T (below_all bytes_cmp n es)
    → find bytes_cmp n es ≡ None
none_below n [] b = refl
none_below n (e ∷ es) b =
    ap (λ o. cond (is_eq o) (Some e.1) (find bytes_cmp n es)) (less (bytes_cmp n e.0) (first _ _ b))
    ∙ none_below n es (second (is_lt (bytes_cmp n e.0)) _ b)

below_lesser : (n m : List ℕ) (es : List NamedColumns) → bytes_cmp n m ≡ Less
    → T (below_all bytes_cmp m es) → T (below_all bytes_cmp n es)
below_lesser n m [] l b = tt
below_lesser n m (e ∷ es) l b =
    subst (λ o. T (is_lt o && below_all bytes_cmp n es))
    (sym (bytes_exact.trans n m e.0 l (less (bytes_cmp m e.0) (first _ _ b))))
    (below_lesser n m es l (second (is_lt (bytes_cmp m e.0)) _ b))

none_before : (n : List ℕ) (x : NamedColumns) (es : List NamedColumns)
    → T (is_sorted bytes_cmp (x ∷ es)) → bytes_cmp n x.0 ≡ Less → find bytes_cmp n (x ∷ es) ≡ None
none_before n x es s l =
    ap (λ o. cond (is_eq o) (Some x.1) (find bytes_cmp n es)) l
    ∙ none_below n es (below_lesser n x.0 es l (first _ _ s))

found_first : (n : List ℕ) (x : NamedColumns) (es : List NamedColumns) → bytes_cmp n x.0 ≡ Equal
    → find bytes_cmp n (x ∷ es) ≡ Some x.1
found_first n x es e = ap (λ o. cond (is_eq o) (Some x.1) (find bytes_cmp n es)) e

pub turned_over : (es fs : List NamedColumns) (o : Option (List ℕ)) → IsDifference es fs o
    → IsDifference fs es o
turned_over es fs None d = λ n. sym (d n)
turned_over es fs (Some n) d = record {
  differs = λ e. d.differs (sym e);
  before = λ m l.
      sym (d.before m l);
}

-- a table is there whose name is before those of all others
one_more : (x : NamedColumns) (es : List NamedColumns) → T (is_sorted bytes_cmp (x ∷ es))
    → IsDifference (x ∷ es) [] (Some x.0)
one_more x es s = record {
  differs = λ e. not_none x.1 (sym (found_first x.0 x es (tied_itself nat_list_cmp_total x.0)) ∙ e);
  before = λ m l. none_before m x es s l;
}

one_before : (x y : NamedColumns) (es fs : List NamedColumns) → T (is_sorted bytes_cmp (x ∷ es))
    → T (is_sorted bytes_cmp (y ∷ fs)) → bytes_cmp x.0 y.0 ≡ Less
    → IsDifference (x ∷ es) (y ∷ fs) (Some x.0)
one_before x y es fs s t l = record {
  differs = λ e. not_none x.1 (sym (found_first x.0 x es (tied_itself nat_list_cmp_total x.0)) ∙ e
      ∙ none_before x.0 y fs t l);
  before = λ m k. none_before m x es s k ∙ sym
      (none_before m y fs t (bytes_exact.trans m x.0 y.0 k l));
}

-- the two first tables have one name, and other columns
other_columns : (x y : NamedColumns) (es fs : List NamedColumns) → T (is_sorted bytes_cmp (x ∷ es))
    → T (is_sorted bytes_cmp (y ∷ fs)) → bytes_cmp x.0 y.0 ≡ Equal → ¬ (x.1 ≡ y.1)
    → IsDifference (x ∷ es) (y ∷ fs) (Some x.0)
other_columns x y es fs s t l a = record {
  differs = λ e. a (some_apart x.1 y.1 (sym (found_first x.0 x es
      (tied_itself nat_list_cmp_total x.0)) ∙ e ∙ found_first x.0 y fs l));
  before = λ m k. none_before m x es s k ∙ sym
      (none_before m y fs t (subst (λ n. bytes_cmp m n ≡ Less) (bytes_exact.same x.0 y.0 l) k));
}

-- the two first tables are one: what differs is after them
same_first : (x : NamedColumns) (es fs : List NamedColumns) → T (below_all bytes_cmp x.0 es)
    → T (below_all bytes_cmp x.0 fs) → (o : Option (List ℕ))
    → IsDifference es fs o → IsDifference (x ∷ es) (x ∷ fs) o
same_first x es fs s t None d = λ m. ap (λ g. cond (eq_by_cmp bytes_cmp m x.0) (Some x.1) g) (d m)
same_first x es fs s t (Some n) d = record {
  differs = λ e. step (eq_by_cmp bytes_cmp n x.0) refl e;
  before = λ m l. ap (λ g. cond (eq_by_cmp bytes_cmp m x.0) (Some x.1) g) (d.before m l);
}
  where
    step : (b : Bool) → eq_by_cmp bytes_cmp n x.0 ≡ b
        → cond b (Some x.1) (find bytes_cmp n es) ≡ cond b (Some x.1) (find bytes_cmp n fs) → ⊥
    step true q e =
        let is : n ≡ x.0 = bytes_exact.same n x.0 (equal (bytes_cmp n x.0) q) in
        d.differs (none_below n es (subst (λ k. T (below_all bytes_cmp k es)) (sym is) s)
        ∙ sym (none_below n fs (subst (λ k. T (below_all bytes_cmp k fs)) (sym is) t)))
    step false q e = d.differs e

drop_at : (xs : List NamedColumns) (i : ℕ) (x : NamedColumns) → i < length xs → x ≡ get_or xs i x
    → drop i xs ≡ x ∷ drop (i + 1) xs
drop_at xs i x l e = drop-cons xs i x l ∙ ap (λ y. y ∷ drop (suc i) xs) (sym e)
    ∙ ap (λ j. x ∷ drop j xs) (sym (add-one i))

moved : (es fs es' fs' : List NamedColumns) (o : Option (List ℕ)) → es ≡ es' → fs ≡ fs'
    → IsDifference es' fs' o → IsDifference es fs o
moved es fs es' fs' o p q d = subst (λ l. IsDifference l fs o) (sym p)
    (subst (λ l. IsDifference es' l o) (sym q) d)

pub one_of : (x y : NamedColumns) → x.0 ≡ y.0 → x.1 ≡ y.1 → x ≡ y
one_of x y p q = ap (λ (n : List ℕ). (n, x.1)) p ∙ ap (λ (c : List Column). (y.0, c)) q

-- the walk over both, at table i
module _ (ts os : List NamedColumns) (i : ℕ) (st : T (is_sorted bytes_cmp (drop i ts)))
    (so : T (is_sorted bytes_cmp (drop i os)))
    (rest : (o : Option (List ℕ)) → IsDifference (drop i ts) (drop i os) o
    → IsDifference ts os o) where
  at : (xs : List NamedColumns) (x : NamedColumns) → T (is_sorted bytes_cmp (drop i xs))
      → i < length xs → x ≡ get_or xs i x → T (is_sorted bytes_cmp (x ∷ drop (i + 1) xs))
  at xs x s l e = subst (λ (es : List NamedColumns). T (is_sorted bytes_cmp es))
      (drop_at xs i x l e) s

  pub others_run_out : (x : NamedColumns) → i < length ts → x ≡ get_or ts i x → length os ≤ i
      → IsDifference ts os (Some x.0)
  others_run_out x l e p = rest (Some x.0) (moved _ _ _ _ (Some x.0) (drop_at ts i x l e)
      (drop_all i os p) (one_more x (drop (i + 1) ts) (at ts x st l e)))

  pub tables_run_out : (y : NamedColumns) → length ts ≤ i → i < length os → y ≡ get_or os i y
      → IsDifference ts os (Some y.0)
  tables_run_out y p l e =
      rest (Some y.0) (moved _ _ _ _ (Some y.0) (drop_all i ts p) (drop_at os i y l e)
      (turned_over (y ∷ drop (i + 1) os) [] (Some y.0)
      (one_more y (drop (i + 1) os) (at os y so l e))))

  pub both_run_out : length ts ≤ i → length os ≤ i → IsDifference ts os None
  both_run_out p q = rest None (moved _ _ _ _ None (drop_all i ts p) (drop_all i os q) (λ n. refl))

  module _ (x y : NamedColumns) (l : i < length ts) (e : x ≡ get_or ts i x) (k : i < length os)
      (f : y ≡ get_or os i y) where
    pub table_before : bytes_cmp x.0 y.0 ≡ Less → IsDifference ts os (Some x.0)
    table_before c = rest (Some x.0) (moved _ _ _ _ (Some x.0) (drop_at ts i x l e)
        (drop_at os i y k f) (one_before x y _ _ (at ts x st l e) (at os y so k f) c))

    pub other_before : bytes_cmp x.0 y.0 ≡ Greater → IsDifference ts os (Some y.0)
    other_before c =
        rest (Some y.0) (moved _ _ _ _ (Some y.0) (drop_at ts i x l e) (drop_at os i y k f)
        (turned_over (y ∷ drop (i + 1) os) (x ∷ drop (i + 1) ts) (Some y.0)
        (one_before y x _ _ (at os y so k f) (at ts x st l e) (bytes_exact.turn x.0 y.0 c))))

    pub columns_differ : bytes_cmp x.0 y.0 ≡ Equal → ¬ (x.1 ≡ y.1) → IsDifference ts os (Some x.0)
    columns_differ c a = rest (Some x.0) (moved _ _ _ _ (Some x.0) (drop_at ts i x l e)
        (drop_at os i y k f) (other_columns x y _ _ (at ts x st l e) (at os y so k f) c a))

    pub both_same : bytes_cmp x.0 y.0 ≡ Equal → x.1 ≡ y.1 → (o : Option (List ℕ))
        → IsDifference (drop (i + 1) ts) (drop (i + 1) os) o → IsDifference ts os o
    both_same c a o d =
        let s = at ts x st l e in
        let t = at os y so k f in
        let is : x ≡ y = one_of x y (bytes_exact.same x.0 y.0 c) a in
        rest o (moved _ _ _ _ o (drop_at ts i x l e) (drop_at os i y k f)
        (subst (λ (z : NamedColumns). IsDifference (x ∷ drop (i + 1) ts) (z ∷ drop (i + 1) os) o) is
        (same_first x _ _ (first _ _ s) (subst
        (λ (n : List ℕ). T (below_all bytes_cmp n (drop (i + 1) os)))
        (sym (bytes_exact.same x.0 y.0 c)) (first _ _ t)) o d)))

    pub tables_go_on : T (is_sorted bytes_cmp (drop (i + 1) ts))
    tables_go_on = second (below_all bytes_cmp x.0 (drop (i + 1) ts)) _ (at ts x st l e)

    pub others_go_on : T (is_sorted bytes_cmp (drop (i + 1) os))
    others_go_on = second (below_all bytes_cmp y.0 (drop (i + 1) os)) _ (at os y so k f)

-- columns are compared one by one
pub names_decided : (a b : List ℕ) → Decides (same a b) (a ≡ b)
names_decided a b = (
  same_is a b,
  λ e. sym (ap (same a) e) ∙ ap is_eq (tied_itself nat_list_cmp_total a),
)

pub types_decided : (E : ColType → ColType → Bool) → E Int Int ≡ true → E Int Text ≡ false
    → E Text Int ≡ false → E Text Text ≡ true → (x y : ColType) → Decides (E x y) (x ≡ y)
types_decided E a b c d Int Int = (λ _. refl, λ _. a)
types_decided E a b c d Int Text = (λ e. absurd (cc), λ e. absurd (cc))
types_decided E a b c d Text Int = (λ e. absurd (cc), λ e. absurd (cc))
types_decided E a b c d Text Text = (λ _. refl, λ _. d)

pub pairs_decided : (x y : Column) (p q : Bool) → Decides p (x.0 ≡ y.0) → Decides q (x.1 ≡ y.1)
    → Decides (p && q) (x ≡ y)
pairs_decided x y true true h g = (
  λ e. ap (λ (n : List ℕ). (n, x.1)) (h.0 refl)
      ∙ ap (λ (t : ColType). (y.0, t)) (g.0 refl),
  λ e. refl,
)
pairs_decided x y true false h g = (λ e. absurd (cc), λ e. g.1 (ap (λ (z : Column). z.1) e))
pairs_decided x y false q h g = (λ e. absurd (cc), λ e. h.1 (ap (λ (z : Column). z.0) e))

-- schemas by their lists of tables
pub differs_so : (a b : Tables) (es fs : List NamedColumns) (n : List ℕ) → AreTablesOf es a
    → AreTablesOf fs b → IsDifference es fs (Some n)
    → IsFirstDifference (λ m. get a m) (λ m. get b m) n
differs_so a b es fs n p q d = record {
  differs = λ e. d.differs (sym (gets a es n p) ∙ e ∙ gets b fs n q);
  before = λ m l. gets a es m p ∙ d.before m l ∙ sym (gets b fs m q);
}
  where
    gets : (t : Tables) (l : List NamedColumns) (m : List ℕ) → AreTablesOf l t
        → get t m ≡ find bytes_cmp m l
    gets t l m h = ap (λ (s : Tables). get s m) h.is ∙ get-from_sorted bytes_cmp l m h.sorted

pub same_so : (a b : Tables) (es fs : List NamedColumns) → AreTablesOf es a → AreTablesOf fs b
    → IsDifference es fs None → a ≡ b
same_so a b es fs p q d = same_map nat_list_cmp_total
    (slice_cmp-IsAntisymmetric nat_cmp-IsAntisymmetric) a b
    (λ m. ap (λ (s : Tables). get s m) p.is ∙ get-from_sorted bytes_cmp es m p.sorted ∙ d m
    ∙ sym (ap (λ (s : Tables). get s m) q.is ∙ get-from_sorted bytes_cmp fs m q.sorted))
