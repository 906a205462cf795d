-- Valid and borrowed values, one after the other.
use Rattle.std.proofs.Common.{◌≡◌, ℕ, ◌+◌, ◌<◌, List, [], ◌∷◌, ◌++◌, map, take, length, get_or, sym}
use Rattle.std.proofs.Common.{ap, ◌∙◌, subst}
use Rattle.std.proofs.lemmas.List.{map-append, take_more}
use Rattle.prima_base.specs.declared.value.Value.{Value}
use Rattle.prima_base.specs.declared.value.Val.{Val}
use Rattle.prima_base.specs.Order.{shown, IsBorrowed}
use Rattle.cond_expr.specs.Rows.{IsValid, AreValid, AreBorrowed}

pub valid_with : (vs : List Val) (v : Val) → AreValid vs → IsValid (shown v)
    → AreValid (vs ++ v ∷ [])
valid_with [] v a l = (l, tt)
valid_with (x ∷ vs) v a l = (a.0, valid_with vs v a.1 l)

pub shown_more : (row : List Value) (i : ℕ) (x : Value) (vs : List Val) (v : Val) (new : List Val)
    → i < length row → x ≡ get_or row i x
    → map shown vs ≡ take i row → shown v ≡ x → new ≡ vs ++ v ∷ []
    → map shown new ≡ take (i + 1) row
shown_more row i x vs v new below is before same made =
    ap (map shown) made ∙ map-append shown vs (v ∷ [])
    ∙ ap (λ (l : List Value). l ++ shown v ∷ []) before
    ∙ ap (λ (y : Value). take i row ++ y ∷ []) (same ∙ is) ∙ sym (take_more row i x below)

pub valid_more : (vs : List Val) (v : Val) (new : List Val) → AreValid vs → IsValid (shown v)
    → new ≡ vs ++ v ∷ [] → AreValid new
valid_more vs v new a l made = subst AreValid (sym made) (valid_with vs v a l)

pub borrowed_with : (vs : List Val) (v : Val) → AreBorrowed vs → IsBorrowed v
    → AreBorrowed (vs ++ v ∷ [])
borrowed_with [] v a l = (l, tt)
borrowed_with (x ∷ vs) v a l = (a.0, borrowed_with vs v a.1 l)

pub borrowed_more : (vs : List Val) (v : Val) (new : List Val) → AreBorrowed vs → IsBorrowed v
    → new ≡ vs ++ v ∷ [] → AreBorrowed new
borrowed_more vs v new a l made = subst AreBorrowed (sym made) (borrowed_with vs v a l)
