-- Where a value is let by parts, one of a few values is: the least of the type, and those at which
-- a part begins to hold.
use Rattle.std.proofs.Common.{◌≡◌, ℕ, true, false, List, [], ◌∷◌, refl, sym, ap, ◌∙◌, inl, inr}
use Rattle.std.specs.Prelude.{◌⊎◌, not, Option, Some, None}
use Rattle.std.proofs.lemmas.Bool.{cases_Bool, and_parts, and_from, cond-true}
use Rattle.std.proofs.lemmas.Cmp.{upto, tied_itself, tied_back, alike_right}
use Rattle.std.specs.declared.cmp.Ordering.{Ordering}
use Rattle.std.specs.declared.cmp.Ordering.TheVariants.{Less, Equal, Greater}
use Rattle.std.specs.Ordering.{is_gt, is_lt, is_eq, is_le, ordering_reverse}
use Rattle.relations_spec.specs.Sets.{In}
use Rattle.prima_base.specs.declared.value.Value.{Value}
use Rattle.prima_base.specs.declared.value.ColType.{ColType}
use Rattle.prima_base.specs.Order.{value_cmp}
use Rattle.prima_base.specs.OrderLaws.{value_total}
use Rattle.cond_expr.specs.declared.expr.CmpOp.{CmpOp}
use Rattle.cond_expr.specs.declared.expr.CmpOp.TheVariants.{Eq, Ne, Lt, Le, Gt, Ge}
use Rattle.cond_expr.specs.Trees.{Test}
use Rattle.cond_expr.specs.Values.{agrees}
use Rattle.cond_expr.specs.Kinds.{value_kind}
use Rattle.cond_expr.specs.Parts.{Bound, bound_of, is_on, compares_just, lets, all_let, IsOf}
use Rattle.cond_expr_dead.specs.Steps.{least, next, has_next}
use Rattle.cond_expr_dead.specs.Tried.{beginning}
use Rattle.cond_expr_dead.proofs.NextValue.{next_above, next_least, least_below}
use Rattle.cond_expr_dead.proofs.BoundLaws.{lets_bound, lets_other}

-- ---- the order of values

abbrev pub UpTo : Value → Value → Type 0
UpTo a b = is_gt (value_cmp a b) ≡ false

pub up_along : (a b c : Value) → UpTo a b → UpTo b c → UpTo a c
up_along a b c p q = upto value_total a b c p q

pub up_itself : (a : Value) → UpTo a a
up_itself a = ap is_gt (tied_itself value_total a)

pub reversed : (a b : Value) → value_cmp a b ≡ ordering_reverse (value_cmp b a)
reversed a b = value_total.antisymm a b

-- of two values, one is up to the other
up_or : (a b : Value) → UpTo a b ⊎ UpTo b a
up_or a b = step (value_cmp a b) refl
  where
    step : (r : Ordering) → value_cmp a b ≡ r → UpTo a b ⊎ UpTo b a
    step Less e = inl (ap is_gt e)
    step Equal e = inl (ap is_gt e)
    step Greater e = inr (ap is_gt (reversed b a ∙ ap ordering_reverse e))

pub not_back : (a b : Value) → UpTo a b → value_cmp b a ≡ Less → ⊥
not_back a b u l = let k : true ≡ false = sym (ap is_gt (reversed a b ∙ ap ordering_reverse l))
    ∙ u in cc

up_then_less : (a b c : Value) → UpTo a b → value_cmp b c ≡ Less → value_cmp a c ≡ Less
up_then_less a b c u l = step (value_cmp a c) refl
  where
    step : (r : Ordering) → value_cmp a c ≡ r → value_cmp a c ≡ Less
    step Less e = e
    step Equal e = absurd (not_back a b u (sym
        (let k : value_cmp b c ≡ value_cmp b a =
        alike_right value_total c a b (tied_back value_total a c e) in k) ∙ l))
    step Greater e = absurd (not_back a b u (value_total.trans b c a l
        (reversed c a ∙ ap ordering_reverse e)))

less_then_up : (a b c : Value) → value_cmp a b ≡ Less → UpTo b c → value_cmp a c ≡ Less
less_then_up a b c l u = step (value_cmp a c) refl
  where
    step : (r : Ordering) → value_cmp a c ≡ r → value_cmp a c ≡ Less
    step Less e = e
    step Equal e = absurd (not_back b c u (sym (value_total.congr a c b e) ∙ l))
    step Greater e = absurd (not_back b c u (value_total.trans c a b
        (reversed c a ∙ ap ordering_reverse e) l))

less_turned : (a b : Value) → value_cmp a b ≡ Less → value_cmp b a ≡ Greater
less_turned a b l = reversed b a ∙ ap ordering_reverse l

not_less : (a b : Value) → UpTo a b → not (is_lt (value_cmp b a)) ≡ true
not_less a b u = step (value_cmp b a) refl
  where
    step : (r : Ordering) → value_cmp b a ≡ r → not (is_lt (value_cmp b a)) ≡ true
    step Less e = absurd (not_back a b u e)
    step Equal e = ap (λ r. not (is_lt r)) e
    step Greater e = ap (λ r. not (is_lt r)) e

no_gt_is_le : (r : Ordering) → is_gt r ≡ false → is_le r ≡ true
no_gt_is_le Less h = refl
no_gt_is_le Equal h = refl
no_gt_is_le Greater h = absurd (cc)

le_is_no_gt : (r : Ordering) → is_le r ≡ true → is_gt r ≡ false
le_is_no_gt Less h = refl
le_is_no_gt Equal h = refl
le_is_no_gt Greater h = absurd (cc)

-- between two values that tie with a third, each does
tied_between : (c u v : Value) → UpTo c u → UpTo u v → value_cmp v c ≡ Equal → value_cmp u c ≡ Equal
tied_between c u v p q e = step (value_cmp u c) refl
  where
    step : (r : Ordering) → value_cmp u c ≡ r → value_cmp u c ≡ Equal
    step Less h = absurd (not_back c u p h)
    step Equal h = h
    step Greater h = absurd (not_back u v q (sym
        (value_total.congr c v u (tied_back value_total v c e))
        ∙ (reversed c u ∙ ap ordering_reverse h)))

-- ---- one part

-- the value is tried for the comparison with the constant
abbrev pub IsTried : ColType → CmpOp → Value → Value → Type 0
IsTried k o c m = (m ≡ least k) ⊎ (beginning o c ≡ Some m)

-- a value that is tried, up to this one, from which on up to this one all agree
pub record Threshold (k : ColType) (o : CmpOp) (c v : Value) : Type 0 where
  pub at : Value
  pub tried : IsTried k o c at
  pub up : UpTo at v
  pub on : (u : Value) → UpTo at u → UpTo u v → agrees o (value_cmp u c) ≡ true

module _ (k : ColType) (c v : Value) (of : IsOf k v) (kind : value_kind c ≡ k) where
  from_least : (o : CmpOp) → ((u : Value) → UpTo u v → agrees o (value_cmp u c) ≡ true)
      → Threshold k o c v
  from_least o h = record {
    at = least k;
    tried = inl refl;
    up = least_below k v of;
    on = λ u p q.
        h u q;
  }

  from_limit : (o : CmpOp) → beginning o c ≡ Some c → UpTo c v
      → ((u : Value) → UpTo c u → UpTo u v → agrees o (value_cmp u c) ≡ true) → Threshold k o c v
  from_limit o b l h = record { at = c; tried = inr b; up = l; on = h }

  from_next : (o : CmpOp) → (has_next c ≡ true → beginning o c ≡ Some (next c))
      → value_cmp c v ≡ Less → ((u : Value) → value_cmp u c ≡ Greater
      → agrees o (value_cmp u c) ≡ true) → Threshold k o c v
  from_next o b l h =
      let n = next_least c v (kind ∙ sym of.0) of.1 l in record {
        at = next c;
        tried = inr (b n.0);
        up = n.1;
        on = λ u p q. h u (less_turned c u (less_then_up c (next c) u (next_above c n.0) p));
      }

  above : (o : CmpOp) → value_cmp v c ≡ Greater → value_cmp c v ≡ Less
  above o e = reversed c v ∙ ap ordering_reverse e

  pub threshold : (o : CmpOp) → agrees o (value_cmp v c) ≡ true → Threshold k o c v
  threshold o h = step o (value_cmp v c) refl (h)
    where
      step : (o : CmpOp) (r : Ordering) → value_cmp v c ≡ r → agrees o (value_cmp v c) ≡ true
          → Threshold k o c v
      step Eq Less e a = absurd (let x : false ≡ true = sym (ap is_eq e) ∙ a in cc)
      step Eq Equal e a = from_limit Eq refl (ap is_gt (tied_back value_total v c e))
          (λ u p q. ap is_eq (tied_between c u v p q e))
      step Eq Greater e a = absurd (let x : false ≡ true = sym (ap is_eq e) ∙ a in cc)
      step Ne Less e a = from_least Ne (λ u q. ap (λ r. not (is_eq r)) (up_then_less u v c q e))
      step Ne Equal e a = absurd (let x : false ≡ true = sym (ap (λ r. not (is_eq r)) e) ∙ a in cc)
      step Ne Greater e a = from_next Ne (cond-true (has_next c) (Some (next c)) None) (above Ne e)
          (λ u g. ap (λ r. not (is_eq r)) g)
      step Lt Less e a = from_least Lt (λ u q. ap is_lt (up_then_less u v c q e))
      step Lt Equal e a = absurd (let x : false ≡ true = sym (ap is_lt e) ∙ a in cc)
      step Lt Greater e a = absurd (let x : false ≡ true = sym (ap is_lt e) ∙ a in cc)
      step Le r e a = from_least Le (λ u q. no_gt_is_le (value_cmp u c)
          (up_along u v c q (le_is_no_gt (value_cmp v c) a)))
      step Gt Less e a = absurd (let x : false ≡ true = sym (ap is_gt e) ∙ a in cc)
      step Gt Equal e a = absurd (let x : false ≡ true = sym (ap is_gt e) ∙ a in cc)
      step Gt Greater e a = from_next Gt (cond-true (has_next c) (Some (next c)) None) (above Gt e)
          (λ u g. ap is_gt g)
      step Ge Less e a = absurd (let x : false ≡ true = sym (ap (λ r. not (is_lt r)) e) ∙ a in cc)
      step Ge Equal e a = from_limit Ge refl (ap is_gt (tied_back value_total v c e))
          (λ u p q. not_less c u p)
      step Ge Greater e a = from_limit Ge refl (ap is_gt (above Ge e)) (λ u p q. not_less c u p)

-- ---- all parts

-- the value is tried for some part
abbrev pub IsTriedOf : ℕ → List ℕ → ColType → List Test → Value → Type 0
IsTriedOf i n k ts m =
    (m ≡ least k)
    ⊎ ((t : Test) × (b : Bound) × In t ts × (bound_of t ≡ Some b) × (is_on i n (Some b) ≡ true)
    × (beginning b.op b.limit ≡ Some m))

pub record Thresholds (i : ℕ) (n : List ℕ) (k : ColType) (all ts : List Test) (v : Value) :
    Type 0 where
  pub at : Value
  pub tried : IsTriedOf i n k all at
  pub up : UpTo at v
  pub on : (u : Value) → UpTo at u → UpTo u v → all_let i n ts u ≡ true

module _ (i : ℕ) (n : List ℕ) (k : ColType) (all : List Test) (v : Value) (of : IsOf k v)
    (kinds : (t : Test) (b : Bound) → In t all → bound_of t ≡ Some b → is_on i n (Some b) ≡ true
    → value_kind b.limit ≡ k) where
  with_other : (t : Test) (ts : List Test) → compares_just i n t ≡ false → Thresholds i n k all ts v
      → Thresholds i n k all (t ∷ ts) v
  with_other t ts e h = record {
    at = h.at;
    tried = h.tried;
    up = h.up;
    on = λ u p q. and_from (lets i n u t) (all_let i n ts u) (lets_other i n u t e) (h.on u p q);
  }

  of_part : (t : Test) (b : Bound) → In t all → bound_of t ≡ Some b → is_on i n (Some b) ≡ true
      → (m : Value) → IsTried k b.op b.limit m → IsTriedOf i n k all m
  of_part t b m e o x (inl l) = inl l
  of_part t b m e o x (inr r) = inr (t, b, m, e, o, r)

  with_bound : (t : Test) (ts : List Test) (b : Bound) → In t all → bound_of t ≡ Some b
      → is_on i n (Some b) ≡ true → Threshold k b.op b.limit v
      → Thresholds i n k all ts v → Thresholds i n k all (t ∷ ts) v
  with_bound t ts b m e o one h = elim (up_or one.at h.at) [
    | inl l ↦ record {
      at = h.at;
      tried = h.tried;
      up = h.up;
      on = λ u p q. and_from (lets i n u t) (all_let i n ts u)
          (lets_bound i n u t b e o ∙ one.on u (up_along one.at h.at u l p) q) (h.on u p q);
    }
    | inr g ↦ record {
      at = one.at;
      tried = of_part t b m e o one.at one.tried;
      up = one.up;
      on = λ u p q. and_from (lets i n u t) (all_let i n ts u)
          (lets_bound i n u t b e o ∙ one.on u p q) (h.on u (up_along h.at one.at u g p) q);
    }
  ]

  one_more : (t : Test) (ts : List Test) → In t all → lets i n v t ≡ true
      → Thresholds i n k all ts v → Thresholds i n k all (t ∷ ts) v
  one_more t ts m h rest = step (bound_of t) refl
    where
      on_it : (b : Bound) → bound_of t ≡ Some b → is_on i n (Some b) ≡ true
          → Thresholds i n k all (t ∷ ts) v
      on_it b e o = with_bound t ts b m e o (threshold k b.limit v of (kinds t b m e o) b.op
          (sym (lets_bound i n v t b e o) ∙ h)) rest

      step : (x : Option Bound) → bound_of t ≡ x → Thresholds i n k all (t ∷ ts) v
      step None e = with_other t ts (ap (is_on i n) e) rest
      step (Some b) e = elim (cases_Bool (is_on i n (Some b))) [
        | inl o ↦ on_it b e o
        | inr o ↦ with_other t ts (ap (is_on i n) e ∙ o) rest
      ]

  pub thresholds : (ts : List Test) → ((t : Test) → In t ts → In t all) → all_let i n ts v ≡ true
      → Thresholds i n k all ts v
  thresholds [] sub h = record {
    at = least k;
    tried = inl refl;
    up = least_below k v of;
    on =
        λ u p q. refl;
  }
  thresholds (t ∷ ts) sub h =
      let met = and_parts (lets i n v t) (all_let i n ts v) h in
      one_more t ts (sub t (inl refl)) met.0 (thresholds ts (λ s m. sub s (inr m)) met.1)
