-- Columns of two tables, and of two parts of one.
use Rattle.std.proofs.Common.{◌≡◌, ◌<◌, ◌≤◌, ◌+◌, ◌-◌, ℕ, Bool, true, false, List, [], ◌∷◌, ◌++◌}
use Rattle.std.proofs.Common.{length, take, drop, get_or, refl, sym, ap, ◌∙◌, arith}
use Rattle.std.specs.Prelude.{◌&&◌, if◌then◌else◌}
use Rattle.std.specs.Bool.{Decides}
use Rattle.std.proofs.lemmas.List.{take_all}
use Rattle.relations_spec.specs.Sets.{put_in, set_of}
use Rattle.prima_base.specs.declared.value.ColType.{ColType}
use Rattle.prima_base.specs.declared.value.ColType.TheVariants.{Int as INT, Text as TEXT}
use Rattle.prima_base.specs.Columns.{Column}
use Rattle.prima_base.specs.OrderLaws.{same_is}
use Rattle.cond_expr.specs.Kinds.{same_type}
use Rattle.smo_ops_spec.specs.OneRow.{same}
use Rattle.smo_ops_spec.specs.Preconditions.{among, same_columns}
use Rattle.smo_ops_spec.specs.Making.{column_cmp, named, joined_columns, in_order}
use Rattle.smo_ops_spec.proofs.NameLaws.{same_itself, same_types}
use Rattle.smo_ops_columns.proofs.LeftColumns.{kept_one}

-- columns are the same where the lists are one
one_type : (k : ColType) → same_type k k ≡ true
one_type INT = refl
one_type TEXT = refl

columns_themselves : (cs : List Column) → same_columns cs cs ≡ true
columns_themselves [] = refl
columns_themselves (c ∷ cs) =
    ap (λ b. b && (same_type c.1 c.1 && same_columns cs cs)) (same_itself c.0)
    ∙ ap (λ b. b && same_columns cs cs) (one_type c.1) ∙ columns_themselves cs

both_hold : (a b : Bool) → (a && b) ≡ true → (a ≡ true) × (b ≡ true)
both_hold true b e = (refl, e)
both_hold false b e = absurd (cc)

one_column : (c d : Column) → c.0 ≡ d.0 → c.1 ≡ d.1 → c ≡ d
one_column c d e f = ap (λ (n : List ℕ). (n, c.1)) e ∙ ap (λ (k : ColType). (d.0, k)) f

one_list : (c d : Column) (cs ds : List Column) → c ≡ d → cs ≡ ds → c ∷ cs ≡ d ∷ ds
one_list c d cs ds e f = ap (λ (x : Column). x ∷ cs) e ∙ ap (λ (xs : List Column). d ∷ xs) f

columns_are : (cs ds : List Column) → same_columns cs ds ≡ true → cs ≡ ds
columns_are [] [] e = refl
columns_are [] (d ∷ ds) e = absurd (cc)
columns_are (c ∷ cs) [] e = absurd (cc)
columns_are (c ∷ cs) (d ∷ ds) e =
    let p = both_hold (same c.0 d.0) (same_type c.1 d.1 && same_columns cs ds) e in
    let q = both_hold (same_type c.1 d.1) (same_columns cs ds) p.1 in
    one_list c d cs ds (one_column c d (same_is c.0 d.0 p.0) (same_types c.1 d.1 q.0))
    (columns_are cs ds q.1)

pub columns_decided : (cs ds : List Column) → Decides (same_columns cs ds) (cs ≡ ds)
columns_decided cs ds = (
  columns_are cs ds,
  λ e. sym (ap (same_columns cs) e)
      ∙ columns_themselves cs,
)

-- one named column more
pub kept_named : (names : List (List ℕ)) (items xs : List Column) (i : ℕ) (x : Column)
    → i < length xs → x ≡ get_or xs i x → items ≡ named names (take i xs)
    → items ++ (if among x.0 names then x ∷ [] else []) ≡ named names (take (i + 1) xs)
kept_named names items xs i x l e h =
    ap (λ (l : List Column). l ++ (if among x.0 names then x ∷ [] else [])) h
    ∙ kept_one (λ c. among c.0 names) xs i x l e

-- the columns of both, one by one
pub none_joined : (cs ds : List Column) → length cs < 1 → joined_columns cs ds ≡ in_order ds
none_joined [] ds l = refl
none_joined (c ∷ cs) ds l = absurd (omega arith)

pub one_joined : (cs ds : List Column) (c : Column) → 1 ≤ length cs → c ≡ get_or cs 0 c
    → put_in column_cmp c (joined_columns (take (length cs - 1) (drop 1 cs)) ds)
    ≡ joined_columns cs ds
unfolding set_of
one_joined [] ds c l e = absurd (omega arith)
one_joined (d ∷ cs) ds c l e =
    ap (λ rest. put_in column_cmp c (joined_columns rest ds))
    (take_all (length (d ∷ cs) - 1) cs (omega arith))
    ∙ ap (λ (x : Column). put_in column_cmp x (joined_columns cs ds)) e
