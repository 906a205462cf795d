-- The first lost column that two tables have in common, one column of the first after another.
use Rattle.std.proofs.Common.{◌≡◌, ◌<◌, ◌+◌, ℕ, Bool, true, false, List, [], ◌∷◌, length, get_or}
use Rattle.std.proofs.Common.{drop, refl, sym, ap, ◌∙◌}
use Rattle.std.specs.Prelude.{Option, cond}
use Rattle.std.specs.Option.{option_or}
use Rattle.prima_base.specs.Columns.{Column, names_of}
use Rattle.smo_ops_spec.specs.Checks.{pair_names}
use Rattle.smo_ops_spec.specs.Preconditions.{among}
use Rattle.smo_ops_spec.specs.Losses.{Loss, first_loss}
use Rattle.smo_ops_spec.proofs.Firsts.{drop_at}
use Rattle.smo_ops_spec.specs.Making.{common_names}
use Rattle.rewrite_losses.proofs.NamedColumns.{or_either}

pair_names_are : (cs : List Column) → pair_names cs ≡ names_of cs
pair_names_are [] = refl
pair_names_are (c ∷ cs) = ap (λ (ns : List (List ℕ)). c.0 ∷ ns) (pair_names_are cs)

module _ (f : List ℕ → Option Loss) (cs ds : List Column) (i : ℕ) (c : Column)
    (below : i < length cs) (is : c ≡ get_or cs i c) (x w : Option Loss)
    (so : option_or x (first_loss f (common_names (drop i cs) ds)) ≡ w) where
  here : (b : Bool) → b ≡ among c.0 (pair_names ds)
      → common_names (drop i cs) ds
      ≡ cond b (c.0 ∷ common_names (drop (i + 1) cs) ds) (common_names (drop (i + 1) cs) ds)
  here b e = ap (λ (es : List Column). common_names es ds) (drop_at cs i c below is)
      ∙ ap (λ (d : Bool). cond d (c.0 ∷ common_names (drop (i + 1) cs) ds)
      (common_names (drop (i + 1) cs) ds))
      (ap (among c.0) (sym (pair_names_are ds)) ∙ sym e)

  pub one_common : (b : Bool) → b ≡ among c.0 (pair_names ds) → b ≡ true → (y z : Option Loss)
      → y ≡ f c.0 → z ≡ option_or x y
      → option_or z (first_loss f (common_names (drop (i + 1) cs) ds)) ≡ w
  one_common b e t y z p r =
      let rest : Option Loss = first_loss f (common_names (drop (i + 1) cs) ds) in
      ap (λ (o : Option Loss). option_or o (first_loss f (common_names (drop (i + 1) cs) ds))) r
      ∙ sym (or_either x y (first_loss f (common_names (drop (i + 1) cs) ds)))
      ∙ ap (λ (o : Option Loss). option_or x (option_or o
      (first_loss f (common_names (drop (i + 1) cs) ds)))) p
      ∙ sym (ap (λ (ns : List (List ℕ)). option_or x (first_loss f ns)) (here true (sym t ∙ e)))
      ∙ so

  pub none_common : (b : Bool) → b ≡ among c.0 (pair_names ds) → b ≡ false
      → option_or x (first_loss f (common_names (drop (i + 1) cs) ds)) ≡ w
  none_common b e t =
      sym (ap (λ (ns : List (List ℕ)). option_or x (first_loss f ns)) (here false (sym t ∙ e)))
      ∙ so
