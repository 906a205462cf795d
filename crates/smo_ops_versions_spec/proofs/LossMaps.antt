-- What is looked up in the losses of columns that are gathered, and the first of several losses.
use Rattle.std.proofs.Common.{◌≡◌, ℕ, Bool, true, false, List, [], ◌∷◌, refl, sym, ap, ◌∙◌}
use Rattle.std.proofs.Common.{inl, inr}
use Rattle.std.specs.Prelude.{Option, Some, None, cond}
use Rattle.std.specs.Option.{option_or}
use Rattle.std.specs.FinMap.{FinMap, get, get-insert}
use Rattle.std.specs.Cmp.Lexicographic.{nat_list_cmp_total}
use Rattle.relations_spec.specs.Sets.{In}
use Rattle.prima_base.specs.Order.{bytes_cmp, same}
use Rattle.prima_base.specs.OrderLaws.{same_is}
use Rattle.prima_base.specs.Columns.{Column, names_of}
use Rattle.smo_ops_spec.specs.Losses.{Loss, first_loss}
use Rattle.smo_ops_spec.proofs.NameLaws.{same_itself}
use Rattle.smo_ops_versions_spec.specs.ColumnLosses.{put_loss, gathered}

pub or_none : (o p : Option Loss) → option_or o p ≡ None → (o ≡ None) × (p ≡ None)
or_none None p e = (refl, e)
or_none (Some l) p e = absurd (cc)

pub none_or : (o p : Option Loss) → o ≡ None → p ≡ None → option_or o p ≡ None
none_or None p e h = h
none_or (Some l) p e h = absurd (cc)

pub none_first : (loss : List ℕ → Option Loss) (names : List (List ℕ)) → first_loss loss names ≡ None
    → (n : List ℕ) → In n names → loss n ≡ None
none_first loss [] e n m = absurd m
none_first loss (x ∷ names) e n (inl q) = ap loss (sym q)
    ∙ (or_none (loss x) (first_loss loss names) e).0
none_first loss (x ∷ names) e n (inr m) = none_first loss names
    (or_none (loss x) (first_loss loss names) e).1 n m

-- the first of losses that are none is none
pub first_none : (loss : List ℕ → Option Loss) (names : List (List ℕ))
    → ((n : List ℕ) → In n names → loss n ≡ None) → first_loss loss names ≡ None
first_none loss [] h = refl
first_none loss (n ∷ names) h = none_or (loss n) (first_loss loss names) (h n (inl refl))
    (first_none loss names (λ x m. h x (inr m)))

-- what is put is there, and under another name all is as it was
put_at : (o : Option Loss) (c n : List ℕ) (lost : FinMap bytes_cmp Loss) → same n c ≡ false
    → get (put_loss o c lost) n ≡ get lost n
put_at None c n lost e = refl
put_at (Some l) c n lost e = get-insert nat_list_cmp_total lost c l n
    ∙ ap (λ b. cond b (Some l) (get lost n)) e

put_there : (o : Option Loss) (c n : List ℕ) (lost : FinMap bytes_cmp Loss) → same n c ≡ true
    → get (put_loss o c lost) n ≡ None → o ≡ None
put_there None c n lost e h = refl
put_there (Some l) c n lost e h = absurd (let q = sym (get-insert nat_list_cmp_total lost c l n
    ∙ ap (λ b. cond b (Some l) (get lost n)) e) ∙ h in cc)

-- a column that is gathered as not lost is not lost
pub gathered_none : (columns : List Column) (loss : List ℕ → Option Loss) (n : List ℕ)
    → In n (names_of columns) → get (gathered columns loss) n ≡ None → loss n ≡ None
gathered_none [] loss n m e = absurd m
gathered_none (c ∷ columns) loss n m e =
    step (gathered_none columns loss n) (same n c.0) refl m
  where
    step : (In n (names_of columns) → get (gathered columns loss) n ≡ None → loss n ≡ None)
        → (b : Bool) → same n c.0 ≡ b → In n (c.0 ∷ names_of columns) → loss n ≡ None
    step more true q i = ap loss (same_is n c.0 q)
        ∙ put_there (loss c.0) c.0 n (gathered columns loss) q e
    step more false q (inl h) = absurd (let k = ap (λ (x : List ℕ). same x c.0) (sym h)
        ∙ same_itself c.0 in cc)
    step more false q (inr i) = more i
        (sym (put_at (loss c.0) c.0 n (gathered columns loss) q) ∙ e)
