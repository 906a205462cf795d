-- Of the values at which the parts of a column begin to hold, two kinds are enough: the greatest of
-- the least values of its lower bounds, and those after a value that is excluded.
use Rattle.std.proofs.Common.{◌≡◌, ℕ, Bool, true, false, List, [], ◌∷◌, refl, sym, ap, subst, ◌∙◌}
use Rattle.std.proofs.Common.{inl, inr}
use Rattle.std.specs.Prelude.{◌⊎◌, ◌||◌, ◌&&◌, not, Option, Some, None}
use Rattle.std.specs.List.{list_any}
use Rattle.std.proofs.lemmas.Bool.{cases_Bool, and_parts, and_from, cond-true, cond-false, or_cases}
use Rattle.std.proofs.lemmas.Bool.{or_left, or_right}
use Rattle.std.proofs.lemmas.Cmp.{tied_back}
use Rattle.std.specs.declared.cmp.Ordering.{Ordering}
use Rattle.std.specs.declared.cmp.Ordering.TheVariants.{Less, Equal, Greater}
use Rattle.std.specs.Ordering.{is_gt, is_lt, is_eq, ordering_reverse, ordering_then}
use Rattle.relations_spec.specs.Sets.{In}
use Rattle.prima_base.specs.declared.value.Value.{Value}
use Rattle.prima_base.specs.declared.value.Value.TheVariants.{Int, Text}
use Rattle.prima_base.specs.Columns.{IsValid}
use Rattle.prima_base.specs.Order.{value_cmp}
use Rattle.prima_base.specs.OrderLaws.{value_total, row_exact}
use Rattle.cond_expr.specs.declared.expr.CmpOp.{CmpOp}
use Rattle.cond_expr.specs.declared.expr.CmpOp.TheVariants.{Eq, Ne, Lt, Le, Gt, Ge}
use Rattle.cond_expr.specs.Trees.{Test}
use Rattle.cond_expr.specs.Values.{agrees}
use Rattle.cond_expr.specs.Kinds.{value_kind}
use Rattle.cond_expr.specs.Parts.{Bound, bound_of, is_on, lets, all_let}
use Rattle.cond_expr_dead.specs.Steps.{next, has_next, following}
use Rattle.cond_expr_dead.specs.Tried.{HaveValidLimits, beginning, is_let, offers}
use Rattle.cond_expr_dead.specs.LowerBounds.{bottom, is_reached, higher, raised, highest, is_ne}
use Rattle.cond_expr_dead.specs.LowerBounds.{excludes}
use Rattle.cond_expr_dead.proofs.NextValue.{next_above, next_least}
use Rattle.cond_expr_dead.proofs.BoundLaws.{lets_bound, some_same}
use Rattle.cond_expr_dead.proofs.Thresholds.{UpTo, up_along, up_itself, reversed}
use Rattle.cond_expr_dead.proofs.DeadLaws.{any_from, any_of, all_at, begins_of}

-- ---- the order of values

turned_less : (a b : Value) → value_cmp a b ≡ Greater → value_cmp b a ≡ Less
turned_less a b e = reversed b a ∙ ap ordering_reverse e

not_lt_up : (m c : Value) → not (is_lt (value_cmp m c)) ≡ true → UpTo c m
not_lt_up m c h = step (value_cmp m c) refl
  where
    step : (r : Ordering) → value_cmp m c ≡ r → UpTo c m
    step Less e = absurd (let z : false ≡ true = sym (ap (λ r. not (is_lt r)) e) ∙ h in cc)
    step Equal e = ap is_gt (tied_back value_total m c e)
    step Greater e = ap is_gt (turned_less m c e)

is_greater : (r : Ordering) → is_gt r ≡ true → r ≡ Greater
is_greater Less h = absurd (cc)
is_greater Equal h = absurd (cc)
is_greater Greater h = refl

is_less : (r : Ordering) → not (is_lt r) ≡ false → r ≡ Less
is_less Less h = refl
is_less Equal h = absurd (cc)
is_less Greater h = absurd (cc)

-- of two values that are each up to the other there is one
one_value : (a b : Value) → UpTo a b → UpTo b a → a ≡ b
one_value a b p q = step (value_cmp a b) refl
  where
    first : List Value → Value
    first [] = a
    first (x ∷ xs) = x

    step : (r : Ordering) → value_cmp a b ≡ r → a ≡ b
    step Less e = absurd (let z : true ≡ false =
        sym (ap is_gt (reversed b a ∙ ap ordering_reverse e)) ∙ q in cc)
    step Equal e = ap first (row_exact.same (a ∷ []) (b ∷ [])
        (ap (λ r. ordering_then r Equal) e))
    step Greater e = absurd (let z : true ≡ false = sym (ap is_gt e) ∙ p in cc)

-- ---- the next value

following_is : (c v : Value) → following c ≡ Some v → (has_next c ≡ true) × (next c ≡ v)
following_is c v e = elim (cases_Bool (has_next c)) [
  | inl h ↦ (h, some_same (next c) v (sym (cond-true (has_next c) (Some (next c)) None h) ∙ e))
  | inr h ↦ absurd (let z : None ≡ Some v = sym (cond-false (has_next c) (Some (next c)) None h)
      ∙ e in cc)
]

following_above : (c v : Value) → following c ≡ Some v → value_cmp c v ≡ Less
following_above c v e = let k = following_is c v e in
    subst (λ (x : Value). value_cmp c x ≡ Less) k.1 (next_above c k.0)

-- it is up to each value above, of whichever type
next_up : (c m v : Value) → following c ≡ Some v → IsValid m → value_cmp c m ≡ Less → UpTo v m
next_up c m v e i l =
    subst (λ (x : Value). UpTo x m) (following_is c v e).1 (step c m i l)
  where
    step : (c m : Value) → IsValid m → value_cmp c m ≡ Less → UpTo (next c) m
    step (Int n) (Int k) i l = (next_least (Int n) (Int k) refl i l).1
    step (Int n) (Text t) i l = refl
    step (Text t) (Int k) i l = absurd (cc)
    step (Text t) (Text d) i l = (next_least (Text t) (Text d) refl i l).1

-- ---- one lower bound

bottom_begins : (o : CmpOp) (c v : Value) → bottom o c ≡ Some v → beginning o c ≡ Some v
bottom_begins Eq c v e = e
bottom_begins Ne c v e = absurd (cc)
bottom_begins Lt c v e = absurd (cc)
bottom_begins Le c v e = absurd (cc)
bottom_begins Gt c v e = e
bottom_begins Ge c v e = e

bottom_or_ne : (o : CmpOp) (c v : Value) → beginning o c ≡ Some v → (bottom o c ≡ Some v)
    ⊎ (is_ne o ≡ true)
bottom_or_ne Eq c v e = inl e
bottom_or_ne Ne c v e = inr refl
bottom_or_ne Lt c v e = absurd (cc)
bottom_or_ne Le c v e = absurd (cc)
bottom_or_ne Gt c v e = inl e
bottom_or_ne Ge c v e = inl e

ne_begins : (o : CmpOp) (c : Value) → is_ne o ≡ true → beginning o c ≡ following c
ne_begins Eq c h = absurd (cc)
ne_begins Ne c h = refl
ne_begins Lt c h = absurd (cc)
ne_begins Le c h = absurd (cc)
ne_begins Gt c h = absurd (cc)
ne_begins Ge c h = absurd (cc)

from_limit : (c v m : Value) → Some c ≡ Some v → not (is_lt (value_cmp m c)) ≡ true → UpTo v m
from_limit c v m e h = subst (λ (x : Value). UpTo x m) (some_same c v e) (not_lt_up m c h)

reached_up : (o : CmpOp) (c v m : Value) → bottom o c ≡ Some v → IsValid m
    → is_reached o (value_cmp m c) ≡ true → UpTo v m
reached_up Eq c v m e i h = from_limit c v m e h
reached_up Ne c v m e i h = absurd (cc)
reached_up Lt c v m e i h = absurd (cc)
reached_up Le c v m e i h = absurd (cc)
reached_up Gt c v m e i h = next_up c m v e i (turned_less m c (is_greater (value_cmp m c) h))
reached_up Ge c v m e i h = from_limit c v m e h

to_limit : (c v m : Value) → Some c ≡ Some v → not (is_lt (value_cmp m c)) ≡ false → UpTo m v
to_limit c v m e h = subst (λ (x : Value). UpTo m x) (some_same c v e)
    (ap is_gt (is_less (value_cmp m c) h))

not_reached_up : (o : CmpOp) (c v m : Value) → bottom o c ≡ Some v
    → is_reached o (value_cmp m c) ≡ false → UpTo m v
not_reached_up Eq c v m e h = to_limit c v m e h
not_reached_up Ne c v m e h = absurd (cc)
not_reached_up Lt c v m e h = absurd (cc)
not_reached_up Le c v m e h = absurd (cc)
not_reached_up Gt c v m e h = up_along m c v h (ap is_gt (following_above c v e))
not_reached_up Ge c v m e h = to_limit c v m e h

eq_not_lt : (r : Ordering) → is_eq r ≡ true → not (is_lt r) ≡ true
eq_not_lt Less h = absurd (cc)
eq_not_lt Equal h = refl
eq_not_lt Greater h = absurd (cc)

agrees_reached : (o : CmpOp) (r : Ordering) → agrees o r ≡ true → is_reached o r ≡ true
agrees_reached Eq r h = eq_not_lt r h
agrees_reached Ne r h = refl
agrees_reached Lt r h = refl
agrees_reached Le r h = refl
agrees_reached Gt r h = h
agrees_reached Ge r h = h

-- ---- all of them

-- a value that is up to the other, where there is one
abbrev IsUpTo : Value → Option Value → Type 0
IsUpTo v r = (w : Value) × (r ≡ Some w) × UpTo v w

further : (v : Value) (r s : Option Value) → IsUpTo v r
    → ((w : Value) → r ≡ Some w → IsUpTo w s) → IsUpTo v s
further v r s (a, p, u) k = let z = k a p in (z.0, z.1, up_along v a z.0 u z.2)

module _ (i : ℕ) (n : List ℕ) (all : List Test) (valid : HaveValidLimits all) where
  -- the least value of a part that is a lower bound of the column
  abbrev IsBottom : Value → Type 0
  IsBottom w = (t : Test) × (b : Bound) × In t all × (bound_of t ≡ Some b)
      × (is_on i n (Some b) ≡ true) × (bottom b.op b.limit ≡ Some w)

  abbrev Good : Option Value → Type 0
  Good m = (w : Value) → m ≡ Some w → IsBottom w

  begun_valid : (t : Test) (b : Bound) (w : Value) → In t all → bound_of t ≡ Some b
      → beginning b.op b.limit ≡ Some w → IsValid w
  begun_valid t b w m e q =
      (begins_of (value_kind b.limit) b.op b.limit w (refl, valid t b m e) q).1

  bottom_valid : (w : Value) → IsBottom w → IsValid w
  bottom_valid w (t, b, m, e, o, q) = begun_valid t b w m e (bottom_begins b.op b.limit w q)

  record One (t : Test) (m r : Option Value) : Type 0 where
    pub good : Good r
    pub keeps : (w : Value) → m ≡ Some w → IsUpTo w r
    pub covers : (b : Bound) (v : Value) → bound_of t ≡ Some b → is_on i n (Some b) ≡ true
        → bottom b.op b.limit ≡ Some v → IsUpTo v r

  kept_good : (t : Test) (m : Option Value) → Good m
      → ((b : Bound) (v : Value) → bound_of t ≡ Some b → is_on i n (Some b) ≡ true
      → bottom b.op b.limit ≡ Some v → IsUpTo v m) → One t m m
  kept_good t m g c = record { good = g; keeps = λ w e. (w, e, up_itself w); covers = c }

  module _ (t : Test) (mem : In t all) (b : Bound) (e : bound_of t ≡ Some b)
      (on : is_on i n (Some b) ≡ true) where
    own : (c : Bound) (v : Value) → bound_of t ≡ Some c → bottom c.op c.limit ≡ Some v
        → bottom b.op b.limit ≡ Some v
    own c v f q = ap (λ (x : Bound). bottom x.op x.limit) (some_same b c (sym e ∙ f)) ∙ q

    begun : (v : Value) (m : Option Value) → bottom b.op b.limit ≡ Some v
        → ((w : Value) → m ≡ Some w → UpTo w v) → One t m (Some v)
    begun v m q up = record {
      good = λ w k. (t, b, mem, e, on, q ∙ k);
      keeps = λ w k. (v, refl, up w k);
      covers = λ c w f o k. (
        v,
        refl,
        subst (λ (x : Value). UpTo w x)
            (some_same w v (sym (own c w f k) ∙ q)) (up_itself w),
      );
    }

    above : (y m : Option Value) → bottom b.op b.limit ≡ y → Good m
        → One t m (higher b.op b.limit y m)
    above None m q g = kept_good t m g (λ c v f o k.
        absurd (let z : None ≡ Some v = sym q ∙ own c v f k in cc))
    above (Some v) None q g = begun v None q (λ w k. absurd (cc))
    above (Some v) (Some m) q g = elim (cases_Bool (is_reached b.op (value_cmp m b.limit))) [
      | inl h ↦ subst (One t (Some m))
          (sym (cond-true (is_reached b.op (value_cmp m b.limit)) (Some m) (Some v) h))
          (kept_good t (Some m) g (λ c w f o k. (
            m,
            refl,
            reached_up b.op b.limit w m (own c w f k) (bottom_valid m (g m refl)) h,
          )))
      | inr h ↦ subst (One t (Some m))
          (sym (cond-false (is_reached b.op (value_cmp m b.limit)) (Some m) (Some v) h))
          (begun v (Some m) q (λ w k. subst (λ (x : Value). UpTo x v) (some_same m w k)
          (not_reached_up b.op b.limit v m q h)))
    ]

  one : (t : Test) → In t all → (x : Option Bound) → bound_of t ≡ x → (m : Option Value) → Good m
      → One t m (raised i n x m)
  one t mem None e m g = kept_good t m g (λ c v f o k.
      absurd (let z : None ≡ Some c = sym e ∙ f in cc))
  one t mem (Some b) e m g = elim (cases_Bool (is_on i n (Some b))) [
    | inl on ↦ subst (One t m) (sym (cond-true (is_on i n (Some b))
        (higher b.op b.limit (bottom b.op b.limit) m) m on))
        (above t mem b e on (bottom b.op b.limit) m refl g)
    | inr off ↦ subst (One t m) (sym (cond-false (is_on i n (Some b))
        (higher b.op b.limit (bottom b.op b.limit) m) m off))
        (kept_good t m g (λ c v f o k. absurd (let z : false ≡ true = sym off
        ∙ ap (is_on i n) (sym e ∙ f) ∙ o in cc)))
  ]

  record Highest (ts : List Test) (m r : Option Value) : Type 0 where
    pub good : Good r
    pub keeps : (w : Value) → m ≡ Some w → IsUpTo w r
    pub covers : (t : Test) (b : Bound) (v : Value) → In t ts → bound_of t ≡ Some b
        → is_on i n (Some b) ≡ true → bottom b.op b.limit ≡ Some v → IsUpTo v r

  tops : (ts : List Test) → ((t : Test) → In t ts → In t all) → (m : Option Value) → Good m
      → Highest ts m (highest i n ts m)
  tops [] sub m g = record {
    good = g;
    keeps = λ w e. (w, e, up_itself w);
    covers = λ t b v x e o q. absurd x;
  }
  tops (t ∷ ts) sub m g =
      let a = one t (sub t (inl refl)) (bound_of t) refl m g in
      let r = raised i n (bound_of t) m in
      let h = tops ts (λ s x. sub s (inr x)) r a.good in record {
        good = h.good;
        keeps = λ w e. further w r (highest i n ts r) (a.keeps w e) h.keeps;
        covers = λ s b v x e o q. elim x [
          | inl y ↦ further v r (highest i n ts r)
              (a.covers b v (ap bound_of y ∙ e) o q) h.keeps
          | inr y ↦ h.covers s b v y e o q
        ];
      }

  -- ---- these are enough

  abbrev top : Option Value
  top = highest i n all None

  highest_is : Highest all None top
  highest_is = tops all (λ t m. m) None (λ w e. absurd (cc))

  offered_by : (t : Test) (b : Bound) (v : Value) → In t all → bound_of t ≡ Some b
      → is_on i n (Some b) ≡ true → beginning b.op b.limit ≡ Some v → all_let i n all v ≡ true
      → list_any (λ t. offers i n all (bound_of t)) all ≡ true
  offered_by t b v m e o q a = any_from (λ t. offers i n all (bound_of t)) t all m
      (ap (offers i n all) e ∙ and_from (is_on i n (Some b))
      (is_let i n all (beginning b.op b.limit)) o (ap (is_let i n all) q ∙ a))

  top_offered : (r : Option Value) → top ≡ r → is_let i n all r ≡ true
      → list_any (λ t. offers i n all (bound_of t)) all ≡ true
  top_offered None e h = absurd (cc)
  top_offered (Some w) e h = given (highest_is.good w e)
    where
      given : IsBottom w → list_any (λ t. offers i n all (bound_of t)) all ≡ true
      given (t, b, m, f, o, q) = offered_by t b w m f o (bottom_begins b.op b.limit w q) h

  excluded_offered : list_any (λ t. excludes i n all (bound_of t)) all ≡ true
      → list_any (λ t. offers i n all (bound_of t)) all ≡ true
  excluded_offered h = let r = any_of (λ t. excludes i n all (bound_of t)) all h in
      at_part r.0 r.1 (bound_of r.0) refl r.2
    where
      at_part : (t : Test) → In t all → (x : Option Bound) → bound_of t ≡ x
          → excludes i n all (bound_of t) ≡ true
          → list_any (λ t. offers i n all (bound_of t)) all ≡ true
      at_part t m None e k = absurd (let z : false ≡ true = sym (ap (excludes i n all) e) ∙ k in cc)
      at_part t m (Some b) e k =
          let p = and_parts (is_on i n (Some b)) (is_ne b.op && is_let i n all (following b.limit))
          (sym (ap (excludes i n all) e) ∙ k) in
          let l = and_parts (is_ne b.op) (is_let i n all (following b.limit)) p.1 in
          any_from (λ t. offers i n all (bound_of t)) t all m
          (ap (offers i n all) e ∙ and_from (is_on i n (Some b))
          (is_let i n all (beginning b.op b.limit)) p.0
          (ap (is_let i n all) (ne_begins b.op b.limit l.0) ∙ l.1))

  -- where the least value of a lower bound is let, it is the greatest of these
  bottom_is_top : (t : Test) (b : Bound) (v : Value) → In t all → bound_of t ≡ Some b
      → is_on i n (Some b) ≡ true → bottom b.op b.limit ≡ Some v → all_let i n all v ≡ true
      → is_let i n all top ≡ true
  bottom_is_top t b v m e o q a = given (highest_is.covers t b v m e o q)
    where
      fits : IsValid v
      fits = begun_valid t b v m e (bottom_begins b.op b.limit v q)

      back : (w : Value) → IsBottom w → UpTo w v
      back w (s, c, mem, f, on, k) = reached_up c.op c.limit w v k fits
          (agrees_reached c.op (value_cmp v c.limit)
          (sym (lets_bound i n v s c f on) ∙ all_at (lets i n v) s all mem a))

      given : IsUpTo v top → is_let i n all top ≡ true
      given (w, f, u) = ap (is_let i n all) f
          ∙ ap (all_let i n all) (sym (one_value v w u (back w (highest_is.good w f)))) ∙ a

  abbrev tried : Bool
  tried = is_let i n all top || list_any (λ t. excludes i n all (bound_of t)) all

  offered_tried : list_any (λ t. offers i n all (bound_of t)) all ≡ true → tried ≡ true
  offered_tried h = let r = any_of (λ t. offers i n all (bound_of t)) all h in
      at_part r.0 r.1 (bound_of r.0) refl r.2
    where
      begun : (t : Test) (b : Bound) → In t all → bound_of t ≡ Some b → is_on i n (Some b) ≡ true
          → (y : Option Value) → beginning b.op b.limit ≡ y → is_let i n all y ≡ true
          → tried ≡ true
      begun t b m e o None q l = absurd (cc)
      begun t b m e o (Some v) q l = elim (bottom_or_ne b.op b.limit v q) [
        | inl k ↦ or_left (is_let i n all top) (list_any (λ t. excludes i n all (bound_of t)) all)
            (bottom_is_top t b v m e o k l)
        | inr k ↦ or_right (is_let i n all top) (list_any (λ t. excludes i n all (bound_of t)) all)
            (any_from (λ t. excludes i n all (bound_of t)) t all m
            (ap (excludes i n all) e ∙ and_from (is_on i n (Some b))
            (is_ne b.op && is_let i n all (following b.limit)) o
            (and_from (is_ne b.op) (is_let i n all (following b.limit)) k
            (ap (is_let i n all) (sym (ne_begins b.op b.limit k) ∙ q) ∙ l))))
      ]

      at_part : (t : Test) → In t all → (x : Option Bound) → bound_of t ≡ x
          → offers i n all (bound_of t) ≡ true → tried ≡ true
      at_part t m None e k = absurd (let z : false ≡ true = sym (ap (offers i n all) e) ∙ k in cc)
      at_part t m (Some b) e k =
          let p = and_parts (is_on i n (Some b)) (is_let i n all (beginning b.op b.limit))
          (sym (ap (offers i n all) e) ∙ k) in
          begun t b m e p.0 (beginning b.op b.limit) refl p.1

  tried_offered : tried ≡ true → list_any (λ t. offers i n all (bound_of t)) all ≡ true
  tried_offered h = elim (or_cases (is_let i n all top)
      (list_any (λ t. excludes i n all (bound_of t)) all) h) [
        | inl l ↦ top_offered top refl l
        | inr l ↦ excluded_offered l
      ]

  pub enough : tried ≡ list_any (λ t. offers i n all (bound_of t)) all
  enough = same_truth tried (list_any (λ t. offers i n all (bound_of t)) all) tried_offered
      offered_tried
    where
      same_truth : (a b : Bool) → (a ≡ true → b ≡ true) → (b ≡ true → a ≡ true) → a ≡ b
      same_truth true b f g = sym (f refl)
      same_truth false true f g = g refl
      same_truth false false f g = refl

module _ (i : ℕ) (n : List ℕ) (all : List Test) (valid : HaveValidLimits all) where
  pub by_top : is_let i n all (highest i n all None) ≡ true
      → list_any (λ t. offers i n all (bound_of t)) all ≡ true
  by_top h = sym (enough i n all valid)
      ∙ or_left (is_let i n all (highest i n all None))
      (list_any (λ t. excludes i n all (bound_of t)) all) h

  pub by_excluded : is_let i n all (highest i n all None) ≡ false
      → list_any (λ t. excludes i n all (bound_of t)) all
      ≡ list_any (λ t. offers i n all (bound_of t)) all
  by_excluded h = sym (ap (λ b. b || list_any (λ t. excludes i n all (bound_of t)) all) h)
      ∙ enough i n all valid
