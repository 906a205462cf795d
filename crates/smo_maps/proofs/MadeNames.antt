-- The names of columns, and of columns with one more.
use Rattle.std.proofs.Common.{◌≡◌, ◌<◌, ◌+◌, ℕ, List, [], ◌∷◌, ◌++◌, length, take, get_or, refl}
use Rattle.std.proofs.Common.{sym, ap, ◌∙◌}
use Rattle.std.specs.declared.cmp.Ordering.{Ordering}
use Rattle.std.specs.declared.cmp.Ordering.TheVariants.{Less, Equal, Greater}
use Rattle.std.proofs.lemmas.List.{take_more}
use Rattle.relations_spec.specs.Sets.{put_in, placed, set_of}
use Rattle.relations_spec.proofs.SetLaws.{set_itself}
use Rattle.prima_base.specs.declared.value.ColType.{ColType}
use Rattle.prima_base.specs.Order.{bytes_cmp}
use Rattle.prima_base.specs.OrderLaws.{bytes_exact}
use Rattle.prima_base.specs.Columns.{Column, names_of, AreColumns}
use Rattle.smo_ops_spec.specs.Making.{column_cmp, with_column}
use Rattle.smo_ops_spec.proofs.Insertions.{set_pushed}

names_both : (a b : List Column) → names_of (a ++ b) ≡ names_of a ++ names_of b
names_both [] b = refl
names_both (c ∷ a) b = ap (λ (names : List (List ℕ)). c.0 ∷ names) (names_both a b)

one_more : (xs : List Column) (i : ℕ) (x : Column) → i < length xs → x ≡ get_or xs i x
    → names_of (take (i + 1) xs) ≡ names_of (take i xs) ++ x.0 ∷ []
one_more xs i x l e = ap names_of (take_more xs i x l ∙ ap (λ d. take i xs ++ d ∷ []) (sym e))
    ∙ names_both (take i xs) (x ∷ [])

pub names_more : (names more : List (List ℕ)) (xs : List Column) (i : ℕ) (x : Column)
    → i < length xs → x ≡ get_or xs i x
    → names ≡ names_of (take i xs) → more ≡ names ++ x.0 ∷ [] → more ≡ names_of (take (i + 1) xs)
names_more names more xs i x l e n m = m ∙ ap (λ (ns : List (List ℕ)). ns ++ x.0 ∷ []) n
    ∙ sym (one_more xs i x l e)

names_placed : (o : Ordering) (c d : Column) (ds more : List Column)
    → names_of (placed o c d ds more) ≡ placed o c.0 d.0 (names_of ds) (names_of more)
names_placed Less c d ds more = refl
names_placed Equal c d ds more = refl
names_placed Greater c d ds more = refl

names_put : (c : Column) (ds : List Column) → names_of (put_in column_cmp c ds)
    ≡ put_in bytes_cmp c.0 (names_of ds)
names_put c [] = refl
names_put c (d ∷ ds) =
    names_placed (bytes_cmp c.0 d.0) c d ds (put_in column_cmp c ds)
    ∙ ap (placed (bytes_cmp c.0 d.0) c.0 d.0 (names_of ds)) (names_put c ds)

pub with_names : (columns : List Column) (c : List ℕ) (k : ColType) → AreColumns columns
    → set_of bytes_cmp (names_of columns ++ c ∷ []) ≡ names_of (with_column c k columns)
with_names columns c k a =
    set_pushed bytes_cmp bytes_exact (names_of columns) c
    ∙ ap (put_in bytes_cmp c) (set_itself bytes_cmp bytes_exact (names_of columns) a)
    ∙ sym (names_put (c, k) columns)
