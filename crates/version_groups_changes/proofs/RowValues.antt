-- The values of a row that are put one by one, borrowed or to keep.
use Rattle.std.proofs.Common.{◌≡◌, ℕ, ◌+◌, ◌<◌, ◌≤◌, List, [], ◌∷◌, ◌++◌, length, map, take, drop}
use Rattle.std.proofs.Common.{get_or, sym, ap, ◌∙◌, arith, append_assoc}
use Rattle.std.proofs.lemmas.List.{map-append, take_more, take_all, drop_all, drop_more}
use Rattle.std.proofs.lemmas.List.{drop-append-le, length-take, length-take-le}
use Rattle.prima_base.specs.declared.value.Value.{Value}
use Rattle.prima_base.specs.declared.value.Val.{Val}
use Rattle.prima_base.specs.Order.{shown}
use Rattle.history_store.specs.Handing.{at_column}
use Rattle.smo_ops_spec.specs.OneRow.{Row}

-- one value more
pub values_more : (row : Row) (skip at : ℕ) (old vs new : List Val) (v : Val) → skip ≤ at
    → at < length row → shown v ≡ get_or row at (shown v) → new ≡ vs ++ v ∷ []
    → map shown vs ≡ map shown old ++ drop skip (take at row)
    → map shown new ≡ map shown old ++ drop skip (take (at + 1) row)
values_more row skip at old vs new v from below is made before =
    let long : length (take at row) ≡ at = length-take-le at row (omega (arith, below)) in
    let past : skip ≤ length (take at row) = omega (arith, long, from) in
    ap (map shown) made ∙ map-append shown vs (v ∷ []) ∙ ap (λ (l : Row). l ++ shown v ∷ []) before
    ∙ append_assoc (map shown old) (drop skip (take at row)) (shown v ∷ [])
    ∙ ap (λ (l : Row). map shown old ++ l)
    (sym (drop-append-le skip (take at row) (shown v ∷ []) past)
    ∙ ap (λ (x : Value). drop skip (take at row ++ x ∷ [])) is
    ∙ ap (drop skip) (sym (take_more row at (shown v) below)))

-- before the first, and after the last
pub no_values : (row : Row) (skip : ℕ) → drop skip (take skip row) ≡ []
no_values row skip = drop_all skip (take skip row)
    (let long : length (take skip row) ≡ _ = length-take skip row in omega (arith, long))

pub all_values : (row : Row) (skip at : ℕ) → length row ≤ at
    → drop skip (take at row) ≡ drop skip row
all_values row skip at past = ap (drop skip) (take_all at row past)

-- the one value in a column
pub one_at : (column : ℕ) (row : Row) (v : Value) → column < length row → v ≡ get_or row column v
    → at_column column row ≡ v ∷ []
one_at column row v below is = ap (take 1) (drop_more row column v below)
    ∙ ap (λ (x : Value). x ∷ []) (sym is)
