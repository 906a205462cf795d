-- Joined texts: what of them fits, and that they hold no control byte.
use Rattle.std.specs.Prelude.{◌≡◌, ℕ, ◌+◌, ◌-◌, ◌≤◌, List, [], ◌∷◌, ◌++◌, Bool, true, false, Option}
use Rattle.std.specs.Prelude.{Some, None, length, take, min, if◌then◌else◌}
use Rattle.std.proofs.Common.{zero, suc, ◌<◌, map, drop, get_or, drop-cons, add-one, refl, sym, ap}
use Rattle.std.proofs.Common.{◌∙◌, arith, append_assoc}
use Rattle.std.proofs.lemmas.List.{take_min, take_all, drop_all, length-take, append-nil}
use Rattle.std.proofs.Math.Seq.{take-append-add}
use Rattle.prima_base.specs.Bytes.{first_from, first_control, is_control, IsTxt}
use Rattle.prima_base.specs.Order.{bytes_of}
use Rattle.prima_base.specs.declared.value.Value.{Value}
use Rattle.prima_base.specs.declared.value.Value.TheVariants.{Int, Text}
use Rattle.cond_expr.specs.Rows.{IsValid}
use Rattle.cond_expr.specs.declared.expr.Expr.{Expr}
use Rattle.cond_expr.specs.Seen.{tree, trees_of}
use Rattle.cond_expr.specs.Values.{Cells, value, texts}

pub what_fits : (n : ℕ) (a b : List ℕ) → length a ≤ n
    → a ++ take (min (n - length a) (length b)) b ≡ take n (a ++ b)
what_fits n a b h =
    let m : length a + (n - length a) ≡ n = omega arith in
    ap (λ (l : List ℕ). a ++ l) (take_min (n - length a) b)
    ∙ sym (take-append-add a b (n - length a)) ∙ ap (λ (k : ℕ). take k (a ++ b)) m

fits_again : (n : ℕ) (a c : List ℕ) → take n (take n a ++ c) ≡ take n (a ++ c)
fits_again zero a c = refl
fits_again (suc n) [] c = refl
fits_again (suc n) (x ∷ a) c = ap (λ (l : List ℕ). x ∷ l) (fits_again n a c)

pub fits_in_turn : (n : ℕ) (a b c : List ℕ) → take n (take n (a ++ b) ++ c) ≡ take n (a ++ (b ++ c))
fits_in_turn n a b c = fits_again n (a ++ b) c ∙ ap (take n) (append_assoc a b c)

none_step : (b : Bool) (i : ℕ) (o : Option ℕ) → (if b then Some i else o) ≡ None → (b ≡ false)
    × (o ≡ None)
none_step true i o h = absurd (cc)
none_step false i o h = (refl, h)

none_anywhere : (p : ℕ → Bool) (i k : ℕ) (a : List ℕ) → first_from p i a ≡ None
    → first_from p k a ≡ None
none_anywhere p i k [] f = refl
none_anywhere p i k (x ∷ a) f =
    let s = none_step (p x) i (first_from p (i + 1) a) f in
    rw s.0 (none_anywhere p (i + 1) (k + 1) a s.1)

pub none_in_both : (p : ℕ → Bool) (i j k : ℕ) (a b : List ℕ) → first_from p i a ≡ None
    → first_from p j b ≡ None → first_from p k (a ++ b) ≡ None
none_in_both p i j k [] b f g = none_anywhere p j k b g
none_in_both p i j k (x ∷ a) b f g =
    let s = none_step (p x) i (first_from p (i + 1) a) f in
    rw s.0 (none_in_both p (i + 1) j (k + 1) a b s.1 g)

pub none_in_prefix : (p : ℕ → Bool) (i n : ℕ) (a : List ℕ) → first_from p i a ≡ None
    → first_from p i (take n a) ≡ None
none_in_prefix p i zero a f = refl
none_in_prefix p i (suc n) [] f = refl
none_in_prefix p i (suc n) (x ∷ a) f =
    let s = none_step (p x) i (first_from p (i + 1) a) f in
    rw s.0 (none_in_prefix p (i + 1) n a s.1)

pub none_in_value : (v : Value) → IsValid v → first_control (bytes_of v) ≡ None
none_in_value (Int n) l = refl
none_in_value (Text t) l = l.1

pub prefix_is_short : (n : ℕ) (a : List ℕ) → length (take n a) ≤ n
prefix_is_short n a = omega (arith, length-take n a)

pub joined_is_text : (a : List ℕ) (v : Value) → IsTxt a → IsValid v
    → IsTxt (take 4096 (a ++ bytes_of v))
joined_is_text a v h l = (
  prefix_is_short 4096 (a ++ bytes_of v),
  none_in_prefix is_control 0 4096 (a ++ bytes_of v)
      (none_in_both is_control 0 0 0 a (bytes_of v) h.1 (none_in_value v l)),
)

-- one part more of a list of parts
pub joined_more : (at : Cells) (n : ℕ) (es : List Expr) (i : ℕ) (e : Expr) (a b : List ℕ)
    → i < length es → e ≡ get_or es i e
    → b ≡ take n (a ++ bytes_of (value at (tree e)))
    → take n (a ++ texts at (trees_of (map tree (drop i es))))
    ≡ take n (b ++ texts at (trees_of (map tree (drop (i + 1) es))))
joined_more at n es i e a b h is new =
    let d : drop i es ≡ e ∷ drop (i + 1) es = drop-cons es i e h
    ∙ ap (λ (x : Expr). x ∷ drop (suc i) es) (sym is)
    ∙ ap (λ (k : ℕ). e ∷ drop k es) (sym (add-one i)) in
    let turn = fits_in_turn n a (bytes_of (value at (tree e)))
    (texts at (trees_of (map tree (drop (i + 1) es)))) in
    ap (λ (l : List Expr). take n (a ++ texts at (trees_of (map tree l)))) d ∙ sym turn
    ∙ ap (λ (l : List ℕ). take n (l ++ texts at (trees_of (map tree (drop (i + 1) es))))) (sym new)

pub joined_whole : (at : Cells) (n : ℕ) (es : List Expr) (i : ℕ) (a : List ℕ) → length es ≤ i
    → length a ≤ n
    → take n (a ++ texts at (trees_of (map tree (drop i es)))) ≡ a
joined_whole at n es i a h short =
    ap (λ (l : List Expr). take n (a ++ texts at (trees_of (map tree l)))) (drop_all i es h)
    ∙ ap (take n) (append-nil a) ∙ take_all n a short
