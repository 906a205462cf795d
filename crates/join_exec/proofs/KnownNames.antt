-- What is known of references, none of which is unknown.
use Rattle.std.proofs.Common.{◌≡◌, Bool, true, false, cond, List, [], ◌∷◌, refl, subst, inl, inr}
use Rattle.std.specs.Prelude.{Some, None, is_none}
use Rattle.relations_spec.specs.Sets.{In}
use Rattle.cond_expr.specs.declared.expr.ColRef.{ColRef}
use Rattle.cond_expr.specs.Kinds.{Kinds}
use Rattle.cond_expr.specs.Faults.{first_unknown}

pub each_some : (of : Kinds) (rs : List ColRef) → first_unknown of rs ≡ None → (r : ColRef)
    → In r rs → is_none (of r.whose r.name) ≡ false
each_some of [] e r h = absurd h
each_some of (x ∷ rs) e r h = step (each_some of rs) (is_none (of x.whose x.name)) refl e h
  where
    step : (first_unknown of rs ≡ None → (q : ColRef) → In q rs
        → is_none (of q.whose q.name) ≡ false) → (b : Bool) → is_none (of x.whose x.name) ≡ b
        → cond b (Some x.name) (first_unknown of rs) ≡ None → In r (x ∷ rs)
        → is_none (of r.whose r.name) ≡ false
    step f true q k i = absurd (cc)
    step f false q k (inl i) = subst (λ (y : ColRef). is_none (of y.whose y.name) ≡ false) i q
    step f false q k (inr i) = f k r i
