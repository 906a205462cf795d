-- A column is named in joined lists of references just where it is in one of them.
use Rattle.std.specs.Prelude.{◌≡◌, ℕ, List, [], ◌∷◌, ◌++◌, Bool, true, false, ◌||◌, ◌&&◌, ◌==◌, ◌↔◌}
use Rattle.std.specs.Prelude.{IsTrue}
use Rattle.std.proofs.Common.{refl, ap, sym, ◌∙◌, inl, inr, arith}
use Rattle.prima_base.specs.OrderLaws.{same_is}
use Rattle.cond_expr.specs.declared.expr.ColRef.{ColRef}
use Rattle.cond_expr.specs.declared.expr.Whose.{Whose}
use Rattle.cond_expr.specs.declared.expr.Whose.TheVariants.{Free, Alias, Atom}
use Rattle.smo_ops_spec.specs.OneRow.{same}
use Rattle.smo_ops_spec.proofs.NameLaws.{same_itself}
use Rattle.plain_answers_spec.specs.Naming.{is_atom, is_to, IsNamed}
use Rattle.piece_ir.specs.Substituting.{is_column, names_column}

or_assoc : (a b c : Bool) → (a || (b || c)) ≡ ((a || b) || c)
or_assoc true b c = refl
or_assoc false b c = refl

pub names_append : (i : ℕ) (c : List ℕ) (xs ys : List ColRef)
    → names_column i c (xs ++ ys) ≡ (names_column i c xs || names_column i c ys)
names_append i c [] ys = refl
names_append i c (x ∷ xs) ys = ap (λ b. is_column i c x || b) (names_append i c xs ys)
    ∙ or_assoc (is_column i c x) (names_column i c xs) (names_column i c ys)

is_number : (a b : ℕ) → (a == b) ≡ true → a ≡ b
is_number a b e = grind (arith, e)

number_is : (a b : ℕ) → a ≡ b → (a == b) ≡ true
number_is a b e = grind (arith, e)

both : (a b : Bool) → (a && b) ≡ true → (a ≡ true) × (b ≡ true)
both true b e = (refl, e)
both false b e = absurd (cc)

and_true : (a b : Bool) → a ≡ true → b ≡ true → (a && b) ≡ true
and_true true b e f = f
and_true false b e f = absurd (cc)

whose_is : (i : ℕ) (w : Whose) → is_atom i w ≡ true → w ≡ Atom i
whose_is i Free e = absurd (cc)
whose_is i (Alias a) e = absurd (cc)
whose_is i (Atom j) e = ap Atom (sym (is_number i j e))

same_reference : (r s : ColRef) → r.whose ≡ s.whose → r.name ≡ s.name → r ≡ s
same_reference r s e f = λ k. record { whose = e k; name = f k }

column_is : (i : ℕ) (c : List ℕ) (r : ColRef) → is_column i c r ≡ true
    → r ≡ record { whose = Atom i; name = c }
column_is i c r e =
    let b = both (is_to i r) (same r.name c) e in
    same_reference r (record { whose = Atom i; name = c }) (whose_is i r.whose b.0)
    (same_is r.name c b.1)

is_itself : (i : ℕ) (c : List ℕ) → is_column i c (record { whose = Atom i; name = c }) ≡ true
is_itself i c = and_true (i == i) (same c c) (number_is i i refl) (same_itself c)

-- a column is named just where a reference is to it
pub named_there : (i : ℕ) (c : List ℕ) (rs : List ColRef) → names_column i c rs ≡ true
    → IsNamed i rs c
named_there i c [] e = absurd (cc)
named_there i c (r ∷ rs) e = step (is_column i c r) refl e (named_there i c rs)
  where
    step : (b : Bool) → is_column i c r ≡ b → (b || names_column i c rs) ≡ true
        → (names_column i c rs ≡ true → IsNamed i rs c) → IsNamed i (r ∷ rs) c
    step true q f more = inl (column_is i c r q)
    step false q f more = inr (more f)

pub named_back : (i : ℕ) (c : List ℕ) (rs : List ColRef) → IsNamed i rs c
    → names_column i c rs ≡ true
named_back i c [] m = absurd m
named_back i c (r ∷ rs) (inl e) = ap (λ b. b || names_column i c rs)
    (ap (is_column i c) e ∙ is_itself i c)
named_back i c (r ∷ rs) (inr m) = or_later (is_column i c r) (names_column i c rs)
    (named_back i c rs m)
  where
    or_later : (a b : Bool) → b ≡ true → (a || b) ≡ true
    or_later true b e = refl
    or_later false b e = e

pub named_just : (b : Bool) (i : ℕ) (c : List ℕ) (rs : List ColRef) → b ≡ names_column i c rs
    → IsTrue b ↔ IsNamed i rs c
named_just b i c rs e = (λ h. named_there i c rs (sym e ∙ h), λ m. e ∙ named_back i c rs m)
