-- The first name under which two schemas differ, and inverses by the schemas that they lead over.
use Rattle.std.proofs.Common.{◌≡◌, ℕ, Bool, true, false, List, [], ◌∷◌, ◌++◌, ◌+◌, ◌⊎◌, length}
use Rattle.std.proofs.Common.{refl, sym, ap, subst, ◌∙◌, inl, inr, arith}
use Rattle.std.specs.Prelude.{◌&&◌, ◌||◌, not, cond, Option, Some, None, is_some}
use Rattle.std.specs.List.{find, list_any}
use Rattle.std.specs.Option.{option_map}
use Rattle.std.specs.Ordering.{is_eq, eq_by_cmp}
use Rattle.std.specs.declared.cmp.Ordering.{Ordering}
use Rattle.std.specs.declared.cmp.Ordering.TheVariants.{Less, Equal, Greater}
use Rattle.std.specs.FinMap.{get, keys, contains_key, contains_key-keys, same_map}
use Rattle.std.specs.FinMap.{slice_cmp-IsAntisymmetric, nat_cmp-IsAntisymmetric}
use Rattle.std.specs.Cmp.Lexicographic.{nat_list_cmp_total}
use Rattle.relations_spec.specs.Sets.{In, Ascends, set_of, has, IsExact}
use Rattle.relations_spec.proofs.SetLaws.{in_left, in_right, before_in, has_in, in_set, set_ascends}
use Rattle.prima_base.specs.declared.value.ColType.{ColType}
use Rattle.prima_base.specs.declared.value.ColType.TheVariants.{Int, Text}
use Rattle.prima_base.specs.declared.refusal.OpRefusal.{OpRefusal}
use Rattle.prima_base.specs.declared.refusal.Refusal.TheVariants.{InverseMisses, InverseOp}
use Rattle.prima_base.specs.Order.{bytes_cmp}
use Rattle.prima_base.specs.OrderLaws.{bytes_exact, same_is}
use Rattle.prima_base.specs.Columns.{Column}
use Rattle.schema_catalog.specs.Tables.{Tables}
use Rattle.schema_catalog.specs.Differences.{IsFirstDifference}
use Rattle.cond_expr.specs.Kinds.{same_type}
use Rattle.smo_ops_types.specs.Operators.{Operator}
use Rattle.smo_ops_spec.specs.First.{first_refusal}
use Rattle.smo_ops_spec.specs.OneRow.{same}
use Rattle.smo_ops_spec.specs.Preconditions.{same_columns}
use Rattle.smo_ops_spec.specs.Evolutions.{schema_after_each, evolution_fault}
use Rattle.smo_ops_spec.specs.Inverses.{same_table, first_difference, way_back, inverse_fault}
use Rattle.smo_ops_spec.specs.Inverses.{schema_after_all, AllAcceptedInTurn, IsFirstRefused}
use Rattle.smo_ops_spec.specs.Inverses.{IsMissed}
use Rattle.smo_ops_spec.proofs.Firsts.{first_at, first_later, first_alone}
use Rattle.smo_ops_spec.proofs.NameLaws.{same_itself}

-- columns are compared one by one
type_is : (x y : ColType) → same_type x y ≡ true → x ≡ y
type_is Int Int e = refl
type_is Int Text e = absurd (cc)
type_is Text Int e = absurd (cc)
type_is Text Text e = refl

type_itself : (x : ColType) → same_type x x ≡ true
type_itself Int = refl
type_itself Text = refl

one_column : (c d : Column) → c.0 ≡ d.0 → c.1 ≡ d.1 → c ≡ d
one_column c d p q = ap (λ (n : List ℕ). (n, c.1)) p ∙ ap (λ (t : ColType). (d.0, t)) q

pub alike_is : (cs ds : List Column) → same_columns cs ds ≡ true → cs ≡ ds
alike_is [] [] e = refl
alike_is [] (d ∷ ds) e = absurd (cc)
alike_is (c ∷ cs) [] e = absurd (cc)
alike_is (c ∷ cs) (d ∷ ds) e = step (alike_is cs ds) (same c.0 d.0) (same_type c.1 d.1) refl refl e
  where
    step : (same_columns cs ds ≡ true → cs ≡ ds) → (p q : Bool) → same c.0 d.0 ≡ p
        → same_type c.1 d.1 ≡ q → (p && (q && same_columns cs ds)) ≡ true → c ∷ cs ≡ d ∷ ds
    step more true true n t h =
        ap (λ (x : Column). x ∷ cs) (one_column c d (same_is c.0 d.0 n) (type_is c.1 d.1 t))
        ∙ ap (λ (xs : List Column). d ∷ xs) (more h)
    step more true false n t h = absurd (cc)
    step more false q n t h = absurd (cc)

pub alike_itself : (cs : List Column) → same_columns cs cs ≡ true
alike_itself [] = refl
alike_itself (c ∷ cs) = rw (same_itself c.0, type_itself c.1) (alike_itself cs)

table_is : (x y : Option (List Column)) → same_table x y ≡ true → x ≡ y
table_is None None e = refl
table_is None (Some ds) e = absurd (cc)
table_is (Some cs) None e = absurd (cc)
table_is (Some cs) (Some ds) e = ap Some (alike_is cs ds e)

table_itself : (x : Option (List Column)) → same_table x x ≡ true
table_itself None = refl
table_itself (Some cs) = alike_itself cs

-- the first element that passes a test
find_none : {X : Type 0} (p : X → Bool) (xs : List X) (z : X) → find p xs ≡ None → In z xs
    → p z ≡ false
find_none p [] z e m = absurd m
find_none {X} p (x ∷ xs) z e m = step (find_none p xs z) (p x) refl e m
  where
    step : (find p xs ≡ None → In z xs → p z ≡ false) → (b : Bool) → p x ≡ b
        → cond b (Some x) (find p xs) ≡ None → In z (x ∷ xs) → p z ≡ false
    step more true q h m = absurd (cc)
    step more false q h (inl i) = subst (λ (w : X). p w ≡ false) i q
    step more false q h (inr m) = more h m

find_passes : {X : Type 0} (p : X → Bool) (xs : List X) (z : X) → find p xs ≡ Some z → p z ≡ true
find_passes p [] z e = absurd (cc)
find_passes {X} p (x ∷ xs) z e = step (find_passes p xs z) (p x) refl e
  where
    step : (find p xs ≡ Some z → p z ≡ true) → (b : Bool) → p x ≡ b
        → cond b (Some x) (find p xs) ≡ Some z → p z ≡ true
    step more true q h = cc
    step more false q h = more h

find_first : {X : Type 0} (p : X → Bool) (cmp : X → X → Ordering) → IsExact cmp
    → (xs : List X) (z w : X) → Ascends cmp xs → find p xs ≡ Some z → In w xs → cmp w z ≡ Less
    → p w ≡ false
find_first p cmp o [] z w a e m l = absurd m
find_first {X} p cmp o (x ∷ xs) z w a e m l =
    step (λ h n. find_first p cmp o xs z w a.1 h n l) (p x) refl e m
  where
    step : (find p xs ≡ Some z → In w xs → p w ≡ false) → (b : Bool) → p x ≡ b
        → cond b (Some x) (find p xs) ≡ Some z → In w (x ∷ xs) → p w ≡ false
    step more true q h (inl i) = absurd (let s : x ≡ z = cc in
        o.apart x (subst (λ (v : X). cmp x v ≡ Less) (sym s)
        (subst (λ (v : X). cmp v z ≡ Less) (sym i) l)))
    step more true q h (inr n) =
        absurd (let s : x ≡ z = cc in o.apart z
        (o.trans z w z (subst (λ (v : X). cmp v w ≡ Less) s (before_in cmp x w xs a.0 n)) l))
    step more false q h (inl i) = subst (λ (v : X). p v ≡ false) i q
    step more false q h (inr n) = more h n

-- a name under which one of the schemas has a table is looked at
any_has : (n : List ℕ) (names : List (List ℕ))
    → list_any (eq_by_cmp bytes_cmp n) names ≡ has bytes_cmp n names
any_has n [] = refl
any_has n (m ∷ names) = ap (λ b. is_eq (bytes_cmp n m) || b) (any_has n names)

key_of : (a : Tables) (n : List ℕ) → contains_key a n ≡ true → In n (keys a)
key_of a n e = has_in bytes_cmp bytes_exact n (keys a)
    (sym (any_has n (keys a)) ∙ sym (contains_key-keys a n) ∙ e)

module _ (a b : Tables) where
  all_names : List (List ℕ)
  all_names = set_of bytes_cmp (keys a ++ keys b)

  differs : List ℕ → Bool
  differs n = not (same_table (get a n) (get b n))

  looked_at : (n : List ℕ) → (get a n ≡ get b n) ⊎ In n (set_of bytes_cmp (keys a ++ keys b))
  looked_at n = step (get a n) (get b n) refl refl
    where
      step : (x y : Option (List Column)) → get a n ≡ x → get b n ≡ y → (get a n ≡ get b n)
          ⊎ In n (set_of bytes_cmp (keys a ++ keys b))
      step None None p q = inl (p ∙ sym q)
      step (Some cs) y p q = inr (in_set bytes_cmp bytes_exact n (keys a ++ keys b)
          (in_left n (keys a) (keys b) (key_of a n (ap is_some p))))
      step None (Some ds) p q = inr (in_set bytes_cmp bytes_exact n (keys a ++ keys b)
          (in_right n (keys a) (keys b) (key_of b n (ap is_some q))))

  same_there : (n : List ℕ) → not (same_table (get a n) (get b n)) ≡ false → get a n ≡ get b n
  same_there n e = step (same_table (get a n) (get b n)) refl e
    where
      step : (s : Bool) → same_table (get a n) (get b n) ≡ s → not s ≡ false → get a n ≡ get b n
      step true q h = table_is (get a n) (get b n) q
      step false q h = absurd (cc)

  pub differs_nowhere : first_difference a b ≡ None → a ≡ b
  differs_nowhere e = same_map nat_list_cmp_total
      (slice_cmp-IsAntisymmetric nat_cmp-IsAntisymmetric) a b
      (λ n. elim (looked_at n) [
        | inl h ↦ h
        | inr m ↦
            same_there n (find_none (λ k. not (same_table (get a k) (get b k)))
            (set_of bytes_cmp (keys a ++ keys b)) n e m)
      ])

  pub differs_first : (n : List ℕ) → first_difference a b ≡ Some n
      → IsFirstDifference (get a) (get b) n
  differs_first n e = record {
    differs = λ i.
        let h : not (same_table (get a n) (get b n)) ≡ true =
        find_passes (λ k. not (same_table (get a k) (get b k)))
        (set_of bytes_cmp (keys a ++ keys b)) n e in
        let k : same_table (get a n) (get b n) ≡ true =
        ap (λ (x : Option (List Column)). same_table x (get b n)) i ∙ table_itself (get b n) in
        absurd (cc);
    before = λ m l. elim (looked_at m) [
      | inl h ↦ h
      | inr k ↦ same_there m (find_first (λ k. not (same_table (get a k) (get b k))) bytes_cmp
          bytes_exact (set_of bytes_cmp (keys a ++ keys b)) n m
          (set_ascends bytes_cmp bytes_exact (keys a ++ keys b)) e k l)
    ];
  }

  -- there is one first difference
  one_first : (m n : List ℕ) → IsFirstDifference (get a) (get b) m
      → IsFirstDifference (get a) (get b) n → m ≡ n
  one_first m n p q = step (bytes_cmp m n) refl
    where
      step : (o : Ordering) → bytes_cmp m n ≡ o → m ≡ n
      step Less e = absurd (p.differs (q.before m e))
      step Equal e = bytes_exact.same m n e
      step Greater e = absurd (q.differs (p.before n (bytes_exact.turn m n e)))

  pub first_is : (n : List ℕ) → IsFirstDifference (get a) (get b) n → first_difference a b ≡ Some n
  first_is n h = step (first_difference a b) refl
    where
      step : (o : Option (List ℕ)) → first_difference a b ≡ o → first_difference a b ≡ Some n
      step None e = absurd (h.differs (ap (λ (t : Tables). get t n) (differs_nowhere e)))
      step (Some m) e = e ∙ ap Some (one_first m n (differs_first m e) h)

  pub no_first : a ≡ b → first_difference a b ≡ None
  no_first i = step (first_difference a b) refl
    where
      step : (o : Option (List ℕ)) → first_difference a b ≡ o → first_difference a b ≡ None
      step None e = e
      step (Some m) e = absurd ((differs_first m e).differs (ap (λ (t : Tables). get t m) i))

-- the operators are checked one after the other
pub turn_refused : (goal now : Tables) (i : ℕ) (earlier : List (List Operator)) (op : List Operator)
    (later : List (List Operator)) (refusal : OpRefusal)
    → AllAcceptedInTurn now earlier → evolution_fault (schema_after_all now earlier) op ≡ Some refusal
    → first_refusal (way_back goal now i (earlier ++ op ∷ later))
    ≡ Some (InverseOp (i + length earlier) refusal)
turn_refused goal now i [] op later refusal a e =
    first_at (option_map (InverseOp i) (evolution_fault now op))
    (way_back goal (schema_after_each now op) (i + 1) later) (InverseOp i refusal)
    (ap (option_map (InverseOp i)) e)
    ∙ ap (λ k. Some (InverseOp k refusal)) (omega arith)
turn_refused goal now i (x ∷ earlier) op later refusal a e =
    first_later (option_map (InverseOp i) (evolution_fault now x))
    (way_back goal (schema_after_each now x) (i + 1) (earlier ++ op ∷ later))
    (ap (option_map (InverseOp i)) a.0)
    ∙ turn_refused goal (schema_after_each now x) (i + 1) earlier op later refusal a.1 e
    ∙ ap (λ k. Some (InverseOp k refusal)) (omega arith)

pub turn_ends : (goal now : Tables) (i : ℕ) (ops : List (List Operator)) → AllAcceptedInTurn now ops
    → first_refusal (way_back goal now i ops)
    ≡ option_map InverseMisses (first_difference goal (schema_after_all now ops))
turn_ends goal now i [] a = first_alone (option_map InverseMisses (first_difference goal now))
turn_ends goal now i (op ∷ ops) a =
    first_later (option_map (InverseOp i) (evolution_fault now op))
    (way_back goal (schema_after_each now op) (i + 1) ops) (ap (option_map (InverseOp i)) a.0)
    ∙ turn_ends goal (schema_after_each now op) (i + 1) ops a.1

pub refused_so : (before : Tables) (op : List Operator) (earlier : List (List Operator)) (x : List Operator)
    (later : List (List Operator)) (refusal : OpRefusal)
    → IsFirstRefused (schema_after_each before op) earlier x refusal
    → inverse_fault before op (earlier ++ x ∷ later)
    ≡ Some (InverseOp (length earlier + 1) refusal)
refused_so before op [] x later refusal h = turn_refused before (schema_after_each before op) 1 [] x
    later refusal h.accepted h.refused
refused_so before op (y ∷ earlier) x later refusal h =
    turn_refused before (schema_after_each before op) 1 (y ∷ earlier) x later refusal h.accepted
    h.refused ∙ ap (λ k. Some (InverseOp k refusal)) (omega arith)

pub missed_so : (before : Tables) (op x : List Operator) (inverse : List (List Operator)) (name : List ℕ)
    → IsMissed before (schema_after_each before op) (x ∷ inverse) name
    → inverse_fault before op (x ∷ inverse) ≡ Some (InverseMisses name)
missed_so before op x inverse name h =
    turn_ends before (schema_after_each before op) 1 (x ∷ inverse) h.accepted
    ∙ ap (option_map InverseMisses) (first_is before
    (schema_after_all (schema_after_each before op) (x ∷ inverse)) name h.differs)

pub accepted_so : (before : Tables) (op : List Operator) (inverse : List (List Operator))
    → AllAcceptedInTurn (schema_after_each before op) inverse
    → schema_after_all (schema_after_each before op) inverse ≡ before
    → inverse_fault before op inverse ≡ None
accepted_so before op [] a e = refl
accepted_so before op (x ∷ inverse) a e =
    turn_ends before (schema_after_each before op) 1 (x ∷ inverse) a
    ∙ ap (option_map InverseMisses) (no_first before
    (schema_after_all (schema_after_each before op) (x ∷ inverse)) (sym e))
