-- A row put into its group.
use Rattle.std.proofs.Common.{◌≡◌, Bool, true, false, [], ◌∷◌, ◌++◌, refl, sym, ap, ◌∙◌}
use Rattle.std.specs.Prelude.{cond, Option, Some, None}
use Rattle.std.specs.Option.{unwrap_or}
use Rattle.std.specs.Ordering.{is_eq}
use Rattle.std.specs.declared.cmp.Ordering.{Ordering}
use Rattle.std.specs.declared.cmp.Ordering.TheVariants.{Less, Equal, Greater}
use Rattle.std.proofs.lemmas.List.{append-nil}
use Rattle.prima_base.specs.Order.{row_cmp}
use Rattle.prima_base.specs.OrderLaws.{row_exact}
use Rattle.smo_ops_spec.specs.OneRow.{Row, Relation}

pub row_same : (a b : Row) → is_eq (row_cmp a b) ≡ true → a ≡ b
row_same a b e = step (row_cmp a b) refl e
  where
    step : (o : Ordering) → row_cmp a b ≡ o → is_eq o ≡ true → a ≡ b
    step Less q h = absurd (cc)
    step Equal q h = row_exact.same a b q
    step Greater q h = absurd (cc)

-- taken out and put in again with the row
pub put_in_group : (b : Bool) (old taken back : Option Relation) (group : Relation) (row : Row)
    → (b ≡ true → unwrap_or old [] ≡ group)
    → taken ≡ cond b None old → back ≡ cond b (Some (group ++ row ∷ [])) taken
    → unwrap_or back [] ≡ unwrap_or old [] ++ cond b (row ∷ []) []
put_in_group true old taken back group row h e f = ap (λ (o : Option Relation). unwrap_or o []) f
    ∙ ap (λ (g : Relation). g ++ row ∷ []) (sym (h refl))
put_in_group false old taken back group row h e f =
    ap (λ (o : Option Relation). unwrap_or o []) (f ∙ e) ∙ sym (append-nil (unwrap_or old []))
