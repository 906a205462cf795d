-- A condition is dead just where one of its parts is FALSE or leaves its column none of the values
-- that are tried; and a dead condition holds of no valid values.
use Rattle.std.proofs.Common.{◌≡◌, ℕ, Bool, true, false, List, [], ◌∷◌, refl, sym, ap, subst, ◌∙◌}
use Rattle.std.proofs.Common.{inl, inr}
use Rattle.std.specs.Prelude.{◌==◌, not, Option, Some, None}
use Rattle.std.specs.List.{list_any, list_all}
use Rattle.std.specs.Ordering.{is_gt, is_eq}
use Rattle.std.specs.Cmp.Lexicographic.{nat_list_cmp_total}
use Rattle.std.proofs.lemmas.Cmp.{tied_itself}
use Rattle.std.proofs.lemmas.Bool.{cond-true, cond-false, eq-eqb, not-true, cases_Bool, and_parts}
use Rattle.std.proofs.lemmas.Bool.{and_from, or_cases, or_left, or_right, false_from_ne_true}
use Rattle.relations_spec.specs.Sets.{In}
use Rattle.relations_spec.proofs.SetLaws.{in_append}
use Rattle.prima_base.specs.declared.value.Value.{Value}
use Rattle.prima_base.specs.declared.value.ColType.{ColType}
use Rattle.prima_base.specs.Columns.{IsValid}
use Rattle.prima_base.specs.Order.{value_cmp, same}
use Rattle.prima_base.specs.OrderLaws.{value_total}
use Rattle.cond_expr.specs.declared.expr.Whose.{Whose}
use Rattle.cond_expr.specs.declared.expr.Whose.TheVariants.{Atom}
use Rattle.cond_expr.specs.declared.expr.CmpOp.{CmpOp}
use Rattle.cond_expr.specs.declared.expr.CmpOp.TheVariants.{Eq, Ne, Lt, Le, Gt, Ge}
use Rattle.cond_expr.specs.Trees.{Test, never, always, compared, all_of, some_of, fails, Tests}
use Rattle.cond_expr.specs.Trees.{no_tests, a_test}
use Rattle.cond_expr.specs.Values.{Cells, truth, all_true, agrees}
use Rattle.cond_expr.specs.Kinds.{Kinds, Fits, value_kind, is_typed, all_typed}
use Rattle.cond_expr.specs.Parts.{parts, all_parts, Bound, bound_of, is_on, compares_just, lets}
use Rattle.cond_expr.specs.Parts.{all_let, IsOf, HasEmpty, IsDead}
use Rattle.cond_expr_dead.specs.Steps.{least, next, has_next, following}
use Rattle.cond_expr_dead.specs.Tried.{HaveValidLimits, beginning, is_let, offers, one_is_let}
use Rattle.cond_expr_dead.specs.Tried.{is_never, empties, kills}
use Rattle.cond_expr_dead.proofs.NextValue.{next_of, least_of}
use Rattle.cond_expr_dead.proofs.BoundLaws.{bound_is, bound_truth, bound_kind, on_column}
use Rattle.cond_expr_dead.proofs.BoundLaws.{lets_bound, lets_other}
use Rattle.cond_expr_dead.proofs.Thresholds.{thresholds, Thresholds, IsTriedOf}

-- ---- lists of parts

pub any_from : {X : Type 0} (p : X → Bool) (x : X) (xs : List X) → In x xs → p x ≡ true
    → list_any p xs ≡ true
any_from p x [] m h = absurd m
any_from p x (y ∷ ys) (inl e) h = or_left (p y) (list_any p ys) (ap p e ∙ h)
any_from p x (y ∷ ys) (inr m) h = or_right (p y) (list_any p ys) (any_from p x ys m h)

pub any_of : {X : Type 0} (p : X → Bool) (xs : List X) → list_any p xs ≡ true → (x : X) × In x xs
    × (p x ≡ true)
any_of p [] h = absurd (cc)
any_of p (y ∷ ys) h = elim (or_cases (p y) (list_any p ys) h) [
  | inl e ↦ (y, inl refl, e)
  | inr r ↦ let k = any_of p ys r in (k.0, inr k.1, k.2)
]

pub all_at : {X : Type 0} (p : X → Bool) (x : X) (xs : List X) → In x xs → list_all p xs ≡ true
    → p x ≡ true
all_at p x [] m h = absurd m
all_at p x (y ∷ ys) (inl e) h = ap p (sym e) ∙ (and_parts (p y) (list_all p ys) h).0
all_at p x (y ∷ ys) (inr m) h = all_at p x ys m (and_parts (p y) (list_all p ys) h).1

all_from : {X : Type 0} (p : X → Bool) (xs : List X) → ((x : X) → In x xs → p x ≡ true)
    → list_all p xs ≡ true
all_from p [] h = refl
all_from p (y ∷ ys) h = and_from (p y) (list_all p ys) (h y (inl refl))
    (all_from p ys (λ x m. h x (inr m)))

-- ---- the values that are tried are enough

-- those of the parts of one column are of its type
abbrev pub HaveKind : ℕ → List ℕ → ColType → List Test → Type 0
HaveKind i n k ts = (t : Test) (b : Bound) → In t ts → bound_of t ≡ Some b
    → is_on i n (Some b) ≡ true → value_kind b.limit ≡ k

next_begins : (k : ColType) (c v : Value) → IsOf k c → following c ≡ Some v → IsOf k v
next_begins k c v i e = elim (cases_Bool (has_next c)) [
  | inl h ↦ (let q : next c ≡ v = (let z : Some (next c) ≡ Some v =
      sym (cond-true (has_next c) (Some (next c)) None h) ∙ e in cc) in
      subst (IsOf k) q (next_of k c i h))
  | inr h ↦ absurd (let z : None ≡ Some v = sym (cond-false (has_next c) (Some (next c)) None h)
      ∙ e in cc)
]

-- a value at which a comparison with a value of the type begins to hold is one of the type
pub begins_of : (k : ColType) (o : CmpOp) (c v : Value) → IsOf k c → beginning o c ≡ Some v
    → IsOf k v
begins_of k Eq c v i e = (let q : c ≡ v = cc in subst (IsOf k) q i)
begins_of k Ne c v i e = next_begins k c v i e
begins_of k Lt c v i e = absurd (cc)
begins_of k Le c v i e = absurd (cc)
begins_of k Gt c v i e = next_begins k c v i e
begins_of k Ge c v i e = (let q : c ≡ v = cc in subst (IsOf k) q i)

module _ (i : ℕ) (n : List ℕ) (k : ColType) (ts : List Test) (kinds : HaveKind i n k ts) where
  offered : (t : Test) (b : Bound) → In t ts → bound_of t ≡ Some b → offers i n ts (Some b) ≡ true
      → one_is_let i n k ts ≡ true
  offered t b m e h =
      or_right (all_let i n ts (least k)) (list_any (λ t. offers i n ts (bound_of t)) ts)
      (any_from (λ t. offers i n ts (bound_of t)) t ts m (ap (offers i n ts) e ∙ h))

  -- where a value of the type is let, one of those that are tried is
  pub some_is_let : (v : Value) → IsOf k v → all_let i n ts v ≡ true → one_is_let i n k ts ≡ true
  some_is_let v of h = found (thresholds i n k ts v of kinds ts (λ t m. m) h)
    where
      found : Thresholds i n k ts ts v → one_is_let i n k ts ≡ true
      found r = by_case r.tried (r.on r.at (itself r.at) r.up)
        where
          itself : (a : Value) → is_gt (value_cmp a a) ≡ false
          itself a = ap is_gt (tied_itself value_total a)

          by_case : IsTriedOf i n k ts r.at → all_let i n ts r.at ≡ true
              → one_is_let i n k ts ≡ true
          by_case (inl e) a = or_left (all_let i n ts (least k))
              (list_any (λ t. offers i n ts (bound_of t)) ts) (ap (all_let i n ts) (sym e) ∙ a)
          by_case (inr (t, b, m, e, o, l)) a = offered t b m e
              (and_from (is_on i n (Some b)) (is_let i n ts (beginning b.op b.limit)) o
              (ap (is_let i n ts) l ∙ a))

  -- each that is tried and let is a value of the type
  pub let_is_some : HaveValidLimits ts → one_is_let i n k ts ≡ true → (v : Value) × IsOf k v
      × (all_let i n ts v ≡ true)
  let_is_some valid h = elim (or_cases (all_let i n ts (least k))
      (list_any (λ t. offers i n ts (bound_of t)) ts) h) [
        | inl e ↦ (least k, least_of k, e)
        | inr a ↦ let r = any_of (λ t. offers i n ts (bound_of t)) ts a in
            at_part r.0 r.1 (bound_of r.0) refl r.2
      ]
    where
      begun : (b : Bound) → IsOf k b.limit → (x : Option Value) → beginning b.op b.limit ≡ x
          → is_let i n ts (beginning b.op b.limit) ≡ true
          → (v : Value) × IsOf k v × (all_let i n ts v ≡ true)
      begun b own None e l = absurd (let q : false ≡ true = sym (ap (is_let i n ts) e) ∙ l in cc)
      begun b own (Some v) e l = (
        v,
        begins_of k b.op b.limit v own e,
        sym (ap (is_let i n ts) e)
            ∙ l,
      )

      at_bound : (t : Test) → In t ts → (b : Bound) → bound_of t ≡ Some b
          → offers i n ts (Some b) ≡ true → (v : Value) × IsOf k v × (all_let i n ts v ≡ true)
      at_bound t m b e o =
          let p = and_parts (is_on i n (Some b)) (is_let i n ts (beginning b.op b.limit)) o in
          begun b (kinds t b m e p.0, valid t b m e) (beginning b.op b.limit) refl p.1

      at_part : (t : Test) → In t ts → (x : Option Bound) → bound_of t ≡ x
          → offers i n ts (bound_of t) ≡ true → (v : Value) × IsOf k v × (all_let i n ts v ≡ true)
      at_part t m None e o = absurd (let q : false ≡ true = sym (ap (offers i n ts) e) ∙ o in cc)
      at_part t m (Some b) e o = at_bound t m b e (sym (ap (offers i n ts) e) ∙ o)

-- ---- a part that kills

-- each part of a typed condition is typed
mutual
  pub part_typed : (of : Kinds) (c t : Test) → is_typed of c ≡ true → In t (parts c)
      → is_typed of t ≡ true
  part_typed of never t h (inl e) = subst (λ (x : Test). is_typed of x ≡ true) e h
  part_typed of never t h (inr m) = absurd m
  part_typed of always t h (inl e) = subst (λ (x : Test). is_typed of x ≡ true) e h
  part_typed of always t h (inr m) = absurd m
  part_typed of (compared o a b) t h (inl e) = subst (λ (x : Test). is_typed of x ≡ true) e h
  part_typed of (compared o a b) t h (inr m) = absurd m
  part_typed of (all_of cs) t h m = parts_typed of cs t h m
  part_typed of (some_of cs) t h (inl e) = subst (λ (x : Test). is_typed of x ≡ true) e h
  part_typed of (some_of cs) t h (inr m) = absurd m
  part_typed of (fails c) t h (inl e) = subst (λ (x : Test). is_typed of x ≡ true) e h
  part_typed of (fails c) t h (inr m) = absurd m

  parts_typed : (of : Kinds) (cs : Tests) (t : Test) → all_typed of cs ≡ true → In t (all_parts cs)
      → is_typed of t ≡ true
  parts_typed of no_tests t h m = absurd m
  parts_typed of (a_test c cs) t h m =
      let b = and_parts (is_typed of c) (all_typed of cs) h in
      elim (in_append t (parts c) (all_parts cs) m) [
        | inl x ↦ part_typed of c t b.0 x
        | inr x ↦ parts_typed of cs t b.1 x
      ]

-- each part of a condition that holds, holds
mutual
  pub part_holds : (at : Cells) (c t : Test) → truth at c ≡ true → In t (parts c)
      → truth at t ≡ true
  part_holds at never t h (inl e) = subst (λ (x : Test). truth at x ≡ true) e h
  part_holds at never t h (inr m) = absurd m
  part_holds at always t h (inl e) = subst (λ (x : Test). truth at x ≡ true) e h
  part_holds at always t h (inr m) = absurd m
  part_holds at (compared o a b) t h (inl e) = subst (λ (x : Test). truth at x ≡ true) e h
  part_holds at (compared o a b) t h (inr m) = absurd m
  part_holds at (all_of cs) t h m = parts_hold at cs t h m
  part_holds at (some_of cs) t h (inl e) = subst (λ (x : Test). truth at x ≡ true) e h
  part_holds at (some_of cs) t h (inr m) = absurd m
  part_holds at (fails c) t h (inl e) = subst (λ (x : Test). truth at x ≡ true) e h
  part_holds at (fails c) t h (inr m) = absurd m

  parts_hold : (at : Cells) (cs : Tests) (t : Test) → all_true at cs ≡ true → In t (all_parts cs)
      → truth at t ≡ true
  parts_hold at no_tests t h m = absurd m
  parts_hold at (a_test c cs) t h m =
      let b = and_parts (truth at c) (all_true at cs) h in
      elim (in_append t (parts c) (all_parts cs) m) [
        | inl x ↦ part_holds at c t b.0 x
        | inr x ↦ parts_hold at cs t b.1 x
      ]

never_is : (t : Test) → is_never t ≡ true → t ≡ never
never_is never h = refl
never_is always h = absurd (cc)
never_is (compared o a b) h = absurd (cc)
never_is (all_of cs) h = absurd (cc)
never_is (some_of cs) h = absurd (cc)
never_is (fails c) h = absurd (cc)

module _ (of : Kinds) (c : Test) (typed : is_typed of c ≡ true) where
  -- the parts of a column are of its type
  kinds_at : (i : ℕ) (n : List ℕ) (k : ColType) → of (Atom i) n ≡ Some k → HaveKind i n k (parts c)
  kinds_at i n k there t b m e o =
      let on = on_column i n b o in
      let own = bound_kind of t b (bound_is t b e) (part_typed of c t typed m) in
      let here : of (Atom b.atom) b.name ≡ Some k = ap (λ (j : ℕ). of (Atom j) b.name) on.0
      ∙ ap (of (Atom i)) on.1 ∙ there in cc

  own_column : (b : Bound) → is_on b.atom b.name (Some b) ≡ true
  own_column b = and_from (b.atom == b.atom) (same b.name b.name) (eq-eqb b.atom b.atom refl)
      (ap is_eq (tied_itself nat_list_cmp_total b.name))

  emptied : (t : Test) (b : Bound) → In t (parts c) → bound_of t ≡ Some b
      → one_is_let b.atom b.name (value_kind b.limit) (parts c) ≡ false → HasEmpty of (parts c)
  emptied t b m e h =
      let there = bound_kind of t b (bound_is t b e) (part_typed of c t typed m) in record {
        atom = b.atom;
        name = b.name;
        kind = value_kind b.limit;
        there = there;
        none = λ v i. false_from_ne_true (all_let b.atom b.name (parts c) v)
            (λ a. let k : true ≡ false = sym (some_is_let b.atom b.name (value_kind b.limit)
            (parts c) (kinds_at b.atom b.name (value_kind b.limit) there) v i a) ∙ h in cc);
      }

  killed : (t : Test) → In t (parts c) → kills (parts c) t ≡ true → IsDead of c
  killed t m h = elim (or_cases (is_never t) (empties (parts c) (bound_of t)) h) [
    | inl e ↦ inl (subst (λ (x : Test). In x (parts c)) (never_is t e) m)
    | inr e ↦ inr (step (bound_of t) refl e)
  ]
    where
      step : (x : Option Bound) → bound_of t ≡ x → empties (parts c) (bound_of t) ≡ true
          → HasEmpty of (parts c)
      step None q k = absurd (let z : false ≡ true = sym (ap (empties (parts c)) q) ∙ k in cc)
      step (Some b) q k = emptied t b m q (not-true
          (one_is_let b.atom b.name (value_kind b.limit) (parts c))
          (sym (ap (empties (parts c)) q) ∙ k))

  -- a condition of which some part kills is dead
  pub killed_is_dead : list_any (kills (parts c)) (parts c) ≡ true → IsDead of c
  killed_is_dead h = let r = any_of (kills (parts c)) (parts c) h in killed r.0 r.1 r.2

  -- where no part is of the column, it is left each value
  no_part : (i : ℕ) (n : List ℕ) (v : Value) → list_any (compares_just i n) (parts c) ≡ false
      → all_let i n (parts c) v ≡ true
  no_part i n v h = all_from (lets i n v) (parts c)
      (λ t m. lets_other i n v t (false_from_ne_true (compares_just i n t)
      (λ e. let z : true ≡ false = sym (any_from (compares_just i n) t (parts c) m e) ∙ h in cc)))

  -- and a dead one has such a part
  pub dead_is_killed : HaveValidLimits (parts c) → IsDead of c
      → list_any (kills (parts c)) (parts c) ≡ true
  dead_is_killed valid (inl m) = any_from (kills (parts c)) never (parts c) m refl
  dead_is_killed valid (inr e) = elim (cases_Bool
      (list_any (compares_just e.atom e.name) (parts c))) [
        | inl s ↦ let r = any_of (compares_just e.atom e.name) (parts c) s in
            at_part r.0 r.1 (bound_of r.0) refl r.2
        | inr s ↦ absurd (let z : true ≡ false = sym (no_part e.atom e.name (least e.kind) s)
            ∙ e.none (least e.kind) (least_of e.kind) in cc)
      ]
    where
      kinds : HaveKind e.atom e.name e.kind (parts c)
      kinds = kinds_at e.atom e.name e.kind e.there

      none_let : one_is_let e.atom e.name e.kind (parts c) ≡ false
      none_let = false_from_ne_true (one_is_let e.atom e.name e.kind (parts c)) (λ h.
          let r = let_is_some e.atom e.name e.kind (parts c) kinds valid h in
          let z : true ≡ false = sym r.2 ∙ e.none r.0 r.1 in cc)

      at_bound : (t : Test) → In t (parts c) → (b : Bound) → bound_of t ≡ Some b
          → is_on e.atom e.name (Some b) ≡ true → list_any (kills (parts c)) (parts c) ≡ true
      at_bound t m b q o =
          let on = on_column e.atom e.name b o in
          let same : one_is_let b.atom b.name (value_kind b.limit) (parts c) ≡ false
          = ap (λ (j : ℕ). one_is_let j b.name (value_kind b.limit) (parts c)) on.0
          ∙ ap (λ (x : List ℕ). one_is_let e.atom x (value_kind b.limit) (parts c)) on.1
          ∙ ap (λ (k : ColType). one_is_let e.atom e.name k (parts c)) (kinds t b m q o)
          ∙ none_let in
          any_from (kills (parts c)) t (parts c) m
          (or_right (is_never t) (empties (parts c) (bound_of t))
          (ap (empties (parts c)) q ∙ ap not same))

      at_part : (t : Test) → In t (parts c) → (x : Option Bound) → bound_of t ≡ x
          → compares_just e.atom e.name t ≡ true → list_any (kills (parts c)) (parts c) ≡ true
      at_part t m None q h = absurd (let z : false ≡ true = sym (ap (is_on e.atom e.name) q) ∙ h in
          cc)
      at_part t m (Some b) q h = at_bound t m b q (sym (ap (is_on e.atom e.name) q) ∙ h)

-- ---- it holds of nothing

module _ (of : Kinds) (at : Cells) (c : Test) (fits : Fits of at) (valid : (w : Whose) (n : List ℕ)
    → IsValid (at w n)) where
  -- where the condition holds, each of its parts lets what a column has
  let_where_holds : truth at c ≡ true → (i : ℕ) (n : List ℕ) (t : Test) → In t (parts c)
      → lets i n (at (Atom i) n) t ≡ true
  let_where_holds h i n t m = step (bound_of t) refl
    where
      step : (x : Option Bound) → bound_of t ≡ x → lets i n (at (Atom i) n) t ≡ true
      step None q = lets_other i n (at (Atom i) n) t (ap (is_on i n) q)
      step (Some b) q = elim (cases_Bool (is_on i n (Some b))) [
        | inr o ↦ lets_other i n (at (Atom i) n) t (ap (is_on i n) q ∙ o)
        | inl o ↦
            let on = on_column i n b o in
            let here : at (Atom b.atom) b.name ≡ at (Atom i) n =
            ap (λ (j : ℕ). at (Atom j) b.name) on.0 ∙ ap (at (Atom i)) on.1 in
            lets_bound i n (at (Atom i) n) t b q o
            ∙ ap (λ (v : Value). agrees b.op (value_cmp v b.limit)) (sym here)
            ∙ sym (bound_truth at t b (bound_is t b q)) ∙ part_holds at c t h m
      ]

  pub dead_holds_of_nothing : IsDead of c → truth at c ≡ false
  dead_holds_of_nothing d = false_from_ne_true (truth at c) (λ h. both h d)
    where
      both : truth at c ≡ true → IsDead of c → ⊥
      both h (inl m) = let z : false ≡ true = part_holds at c never h m in cc
      both h (inr e) =
          let v = at (Atom e.atom) e.name in
          let z : true ≡ false = sym (all_from (lets e.atom e.name v) (parts c)
          (let_where_holds h e.atom e.name))
          ∙ e.none v (fits (Atom e.atom) e.name e.kind e.there, valid (Atom e.atom) e.name) in cc
