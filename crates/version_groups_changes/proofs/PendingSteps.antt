-- Steps of the walks that find the rows that meet a condition.
use Rattle.std.proofs.Common.{◌≡◌, ℕ, zero, suc, ◌+◌, ◌<◌, Bool, true, false, cond, List, [], ◌∷◌}
use Rattle.std.proofs.Common.{◌++◌, length, take, get_or, refl, sym, ap, ◌∙◌, subst, arith}
use Rattle.std.proofs.Common.{append-nil, inl, inr}
use Rattle.std.proofs.lemmas.List.Elements.{filter-append}
use Rattle.std.specs.Prelude.{All, ◌&&◌, if◌then◌else◌}
use Rattle.std.specs.List.{filter}
use Rattle.std.proofs.lemmas.List.{take_more}
use Rattle.relations_spec.specs.Sets.{In}
use Rattle.prima_base.specs.declared.value.Val.{Val}
use Rattle.prima_base.specs.Order.{shown}
use Rattle.cond_expr.specs.Rows.{IsValid, AreValid}
use Rattle.smo_ops_spec.specs.OneRow.{Row, Relation}

-- valid one by one
pub all_valid : (vs : List Val) → All (λ v. IsValid (shown v)) vs → AreValid vs
all_valid [] a = tt
all_valid (v ∷ vs) a = (a 0 v (omega arith), all_valid vs (λ k d h. a (suc k) d (omega arith)))

-- one row more
pub passed_more : (p : Row → Bool) (rows : Relation) (i : ℕ) (row : Row) → i < length rows
    → row ≡ get_or rows i [] → filter p (take (i + 1) rows) ≡ filter p (take i rows)
    ++ (if p row then row ∷ [] else [])
passed_more p rows i row h is =
    ap (filter p) (take_more rows i [] h ∙ ap (λ (r : Row). take i rows ++ r ∷ []) (sym is))
    ∙ filter-append p (take i rows) (row ∷ [])
    ∙ elim (p row) as (λ b. filter p (take i rows) ++ cond b (row ∷ []) [] ≡ filter p (take i rows)
    ++ (if b then row ∷ [] else [])) [ true ↦ refl | false ↦ refl ]

pub in_get : (rows : Relation) (i : ℕ) (d : Row) → i < length rows → In (get_or rows i d) rows
in_get [] i d h = absurd (omega arith)
in_get (row ∷ rows) zero d h = inl refl
in_get (row ∷ rows) (suc i) d h = inr (in_get rows i d (omega arith))

pub valid_at : (vs : List Val) (i : ℕ) (v : Val) → AreValid vs → i < length vs → v ≡ get_or vs i v
    → IsValid (shown v)
valid_at [] i v a h e = absurd (omega arith)
valid_at (w ∷ vs) zero v a h e = subst (λ (x : Val). IsValid (shown x)) (sym e) a.0
valid_at (w ∷ vs) (suc i) v a h e = valid_at vs i v a.1 (omega arith) e

-- a row that is put after the others, or left out
pub left_out : (b : Bool) (rows : Relation) (row : Row) → b ≡ false
    → rows ≡ rows ++ (if b then row ∷ [] else [])
left_out true rows row e = absurd (cc)
left_out false rows row e = sym (append-nil rows)

pub put_after : (b : Bool) (rows : Relation) (row : Row) → b ≡ true
    → rows ++ row ∷ [] ≡ rows ++ (if b then row ∷ [] else [])
put_after true rows row e = refl
put_after false rows row e = absurd (cc)

pub no_first : (a b : Bool) → a ≡ false → (a && b) ≡ false
no_first true b e = absurd (cc)
no_first false b e = refl

pub no_second : (a b : Bool) → b ≡ false → (a && b) ≡ false
no_second true b e = e
no_second false b e = refl

-- what fails where that fails which it leads to
pub fails_too : (b c : Bool) → (b ≡ true → c ≡ true) → c ≡ false → b ≡ false
fails_too true c f e = absurd (let g = f refl in cc)
fails_too false c f e = refl

-- a row that does not pass adds nothing
pub passed_over : (p : Row → Bool) (rows : Relation) (i : ℕ) (row : Row) → i < length rows
    → row ≡ get_or rows i [] → p row ≡ false → filter p (take (i + 1) rows) ≡ filter p (take i rows)
passed_over p rows i row h is e = passed_more p rows i row h is
    ∙ sym (left_out (p row) (filter p (take i rows)) row e)
