-- The column with a name.
use Rattle.std.proofs.Common.{◌≡◌, ℕ, ◌+◌, ◌<◌, false, List, [], ◌∷◌, length, get_or, drop, refl}
use Rattle.std.proofs.Common.{sym, ap, ◌∙◌, arith}
use Rattle.std.specs.Ordering.{is_eq}
use Rattle.std.proofs.lemmas.List.{drop_more}
use Rattle.prima_base.specs.Order.{bytes_cmp}
use Rattle.history_store.specs.Store.{Cell, Column, named}

pub look_step : (name : List ℕ) (columns : List Column) (cells : List (List Cell)) (k : ℕ)
    (c : Column) → k < length columns → length cells ≡ length columns → c ≡ get_or columns k c
    → is_eq (bytes_cmp c.0 name) ≡ false
    → named name (drop k columns) (drop k cells)
    ≡ named name (drop (k + 1) columns) (drop (k + 1) cells)
look_step name columns cells k c h e is n =
    let a : drop k columns ≡ c ∷ drop (k + 1) columns = drop_more columns k c h
    ∙ ap (λ (x : Column). x ∷ drop (k + 1) columns) (sym is) in
    let b : drop k cells ≡ get_or cells k [] ∷ drop (k + 1) cells =
    drop_more cells k [] (omega (arith, e)) in
    rw (a, b, n) refl
