-- The parts of a list of conditions, one after the other; and what the tests of parts find.
use Rattle.std.proofs.Common.{◌≡◌, ℕ, ◌+◌, ◌<◌, ◌≤◌, suc, Bool, true, false, List, [], ◌∷◌, ◌++◌}
use Rattle.std.proofs.Common.{map, length, drop, get_or, drop-cons, add-one, refl, sym, ap, subst}
use Rattle.std.proofs.Common.{◌∙◌, inl, inr}
use Rattle.std.specs.Prelude.{◌⊎◌, ◌||◌, ◌&&◌, not, Option, Some, None, IfSome, IsTrue, ◌↔◌}
use Rattle.std.specs.List.{list_any, list_all}
use Rattle.std.proofs.lemmas.List.{drop_all}
use Rattle.std.proofs.lemmas.List.Folds.{list_any-append}
use Rattle.std.proofs.lemmas.Bool.{cases_Bool}
use Rattle.relations_spec.proofs.SetLaws.{in_append}
use Rattle.prima_base.specs.Columns.{IsValid}
use Rattle.prima_base.specs.declared.value.Value.{Value}
use Rattle.prima_base.specs.Order.{value_cmp}
use Rattle.cond_expr.specs.declared.expr.Cond.{Cond}
use Rattle.cond_expr.specs.Trees.{Test}
use Rattle.cond_expr.specs.Seen.{test, tests_of}
use Rattle.cond_expr.specs.Values.{agrees}
use Rattle.cond_expr.specs.Kinds.{Kinds, is_typed}
use Rattle.cond_expr.specs.Parts.{parts, all_parts, Bound, bound_of, is_on, lets, IsDead}
use Rattle.cond_expr_dead.specs.Shown.{bounds_shown}
use Rattle.cond_expr_dead.specs.declared.bound.ColumnBound.{ColumnBound}
use Rattle.cond_expr_dead.specs.Tried.{HaveValidLimits, kills}
use Rattle.cond_expr_dead.proofs.BoundLaws.{lets_bound, lets_other}
use Rattle.cond_expr_dead.proofs.DeadLaws.{killed_is_dead, dead_is_killed}

-- ---- member by member

abbrev pub from : ℕ → List Cond → List Test
from i cs = all_parts (tests_of (map test (drop i cs)))

pub one_more : (cs : List Cond) (i : ℕ) (c : Cond) → i < length cs → c ≡ get_or cs i c
    → from i cs ≡ parts (test c) ++ from (i + 1) cs
one_more cs i c h is =
    ap (λ (l : List Cond). all_parts (tests_of (map test l)))
    (drop-cons cs i c h ∙ ap (λ (x : Cond). x ∷ drop (suc i) cs) (sym is)
    ∙ ap (λ n. c ∷ drop n cs) (sym (add-one i)))

pub none_left : (cs : List Cond) (i : ℕ) → length cs ≤ i → from i cs ≡ []
none_left cs i h = ap (λ (l : List Cond). all_parts (tests_of (map test l))) (drop_all i cs h)

pub any_more : (p : Test → Bool) (cs : List Cond) (i : ℕ) (c : Cond) → i < length cs
    → c ≡ get_or cs i c
    → list_any p (from i cs) ≡ (list_any p (parts (test c)) || list_any p (from (i + 1) cs))
any_more p cs i c h is = ap (list_any p) (one_more cs i c h is)
    ∙ list_any-append p (parts (test c)) (from (i + 1) cs)

pub any_none : (p : Test → Bool) (cs : List Cond) (i : ℕ) → length cs ≤ i
    → list_any p (from i cs) ≡ false
any_none p cs i h = ap (list_any p) (none_left cs i h)

both_valid : (ss ts : List Test) → HaveValidLimits ss → HaveValidLimits ts
    → HaveValidLimits (ss ++ ts)
both_valid ss ts f g t b m e = elim (in_append t ss ts m) [ inl x ↦ f t b x e | inr x ↦ g t b x e ]

pub valid_more : (cs : List Cond) (i : ℕ) (c : Cond) → i < length cs → c ≡ get_or cs i c
    → HaveValidLimits (parts (test c)) → HaveValidLimits (from (i + 1) cs)
    → HaveValidLimits (from i cs)
valid_more cs i c h is f g = subst HaveValidLimits (sym (one_more cs i c h is))
    (both_valid (parts (test c)) (from (i + 1) cs) f g)

pub valid_none : (cs : List Cond) (i : ℕ) → length cs ≤ i → HaveValidLimits (from i cs)
valid_none cs i h = subst HaveValidLimits (sym (none_left cs i h)) (λ t b m e. absurd m)

-- ---- one part

pub any_one : (p : Test → Bool) (t : Test) → list_any p (t ∷ []) ≡ p t
any_one p t = elim (cases_Bool (p t)) [
  | inl e ↦ ap (λ b. b || false) e ∙ sym e
  | inr e ↦ ap (λ b. b || false) e ∙ sym e
]

pub valid_one : (t : Test) → ((b : Bound) → bound_of t ≡ Some b → IsValid b.limit)
    → HaveValidLimits (t ∷ [])
valid_one t h s b (inl m) e = h b (ap bound_of m ∙ e)
valid_one t h s b (inr m) e = absurd m

-- the constant of a comparison is valid
pub valid_limit : (x : Option ColumnBound) (o : Option Bound) → bounds_shown x ≡ o
    → IfSome x (λ b. IsValid b.limit.now) → (b : Bound) → o ≡ Some b → IsValid b.limit
valid_limit None o e i b q = absurd (let z : None ≡ Some b = e ∙ q in cc)
valid_limit (Some x) o e i b q =
    let z : Some (record { atom = x.atom; name = x.name.now; op = x.op; limit = x.limit.now })
    ≡ Some b = e ∙ q in
    let w : x.limit.now ≡ b.limit = (let y : record
    { atom = x.atom; name = x.name.now; op = x.op; limit = x.limit.now } ≡ b = cc in
    ap (λ (d : Bound). d.limit) y) in
    subst IsValid w i

pub refused : (i : ℕ) (n : List ℕ) (v : Value) (t : Test) (b : Bound) → bound_of t ≡ Some b
    → not (lets i n v t) ≡ (is_on i n (Some b) && not (agrees b.op (value_cmp v b.limit)))
refused i n v t b e = elim (cases_Bool (is_on i n (Some b))) [
  | inl o ↦ ap not (lets_bound i n v t b e o)
      ∙ sym (ap (λ x. x && not (agrees b.op (value_cmp v b.limit))) o)
  | inr o ↦ ap not (lets_other i n v t (ap (is_on i n) e ∙ o))
      ∙ sym (ap (λ x. x && not (agrees b.op (value_cmp v b.limit))) o)
]

pub not_refused : (i : ℕ) (n : List ℕ) (v : Value) (t : Test) → bound_of t ≡ None
    → not (lets i n v t) ≡ false
not_refused i n v t e = ap not (lets_other i n v t (ap (is_on i n) e))

pub none_refuses : (p : Test → Bool) (ts : List Test)
    → not (list_any (λ t. not (p t)) ts) ≡ list_all p ts
none_refuses p [] = refl
none_refuses p (t ∷ ts) = elim (cases_Bool (p t)) [
  | inl e ↦ ap (λ b. not (not b || list_any (λ t. not (p t)) ts)) e ∙ none_refuses p ts
      ∙ sym (ap (λ b. b && list_all p ts) e)
  | inr e ↦ ap (λ b. not (not b || list_any (λ t. not (p t)) ts)) e
      ∙ sym (ap (λ b. b && list_all p ts) e)
]

-- ---- all parts

pub dead_just : (of : Kinds) (c : Test) (r : Bool) → is_typed of c ≡ true
    → r ≡ list_any (kills (parts c)) (parts c) → (r ≡ false → HaveValidLimits (parts c))
    → IsTrue r ↔ IsDead of c
dead_just of c r typed e valid = (
  (λ h. killed_is_dead of c typed (sym e ∙ h)),
  (λ d. by_answer (cases_Bool r) d),
)
  where
    by_answer : (r ≡ true) ⊎ (r ≡ false) → IsDead of c → r ≡ true
    by_answer (inl h) d = h
    by_answer (inr h) d = e ∙ dead_is_killed of c typed (valid h) d
