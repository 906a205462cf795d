-- What pairs hold at a moment.
use Rattle.std.proofs.Common.{◌≡◌, ℕ, Bool, true, false, cond, List, [], ◌∷◌, ◌++◌, refl, sym, ap}
use Rattle.std.proofs.Common.{◌∙◌}
use Rattle.std.specs.Prelude.{◌&&◌, Option, Some, None, IfSome}
use Rattle.std.specs.List.{flat_map, filter}
use Rattle.std.proofs.lemmas.List.{append-nil}
use Rattle.relations_spec.specs.Spans.{Span, covers, common}
use Rattle.relations_spec.specs.Timed.{Entry, held_at}
use Rattle.relations_spec.proofs.CommonMoments.{in_common, none_in_common}
use Rattle.join_exec_spec.specs.Choosing.{with_each, extended_where, in_period, pair, paired, pairs}

pub held_append : {X : Type 0} (xs ys : List (Entry X)) (m : ℕ)
    → held_at (xs ++ ys) m ≡ held_at xs m ++ held_at ys m
held_append [] ys m = refl
held_append {X} (x ∷ xs) ys m =
    elim (covers x.period m) as (λ b. cond b (x.item ∷ held_at (xs ++ ys) m) (held_at (xs ++ ys) m)
    ≡ cond b (x.item ∷ held_at xs m) (held_at xs m) ++ held_at ys m) [
      | true ↦ ap (λ (l : List X). x.item ∷ l) (held_append xs ys m)
      | false ↦ held_append xs ys m
    ]

module _ {V : Type 0} (keep : List V → List V → Bool) (m : ℕ) where
  -- a row after a choice that holds
  held_in : (x : List V) (p q : Span) → held_at (in_period x (common p q)) m
      ≡ cond (covers p m && covers q m) (x ∷ []) []
  held_in x p q = step (common p q) refl (in_common p q m)
    where
      step : (o : Option Span) → common p q ≡ o
          → IfSome o (λ r. covers r m ≡ (covers p m && covers q m))
          → held_at (in_period x o) m ≡ cond (covers p m && covers q m) (x ∷ []) []
      step None e h = ap (λ b. cond b (x ∷ []) []) (sym (none_in_common p q e m))
      step (Some r) e h = ap (λ b. cond b (x ∷ []) []) h

  held_row : (p : Entry (List V)) (ys : List (Entry (List V))) → covers p.period m ≡ true
      → held_at (flat_map (paired keep p) ys) m
      ≡ with_each p.item (filter (keep p.item) (held_at ys m))
  held_row p [] c = refl
  held_row p (y ∷ ys) c =
      held_append (paired keep p y) (flat_map (paired keep p) ys) m
      ∙ ap (λ (l : List (List V)). held_at (paired keep p y) m ++ l) (held_row p ys c)
      ∙ first (keep p.item y.item) (covers y.period m) refl refl
    where
      both : (b : Bool) → covers p.period m ≡ true → covers y.period m ≡ b
          → cond (covers p.period m && covers y.period m) ((p.item ++ y.item) ∷ []) []
          ≡ cond b ((p.item ++ y.item) ∷ []) []
      both b c f = rw (c, f) refl

      first : (a b : Bool) → keep p.item y.item ≡ a → covers y.period m ≡ b
          → held_at (cond a (pair p y) []) m ++ with_each p.item
          (filter (keep p.item) (held_at ys m))
          ≡ with_each p.item (filter (keep p.item) (cond b (y.item ∷ held_at ys m) (held_at ys m)))
      first true true e f = ap (λ (l : List (List V)).
          l ++ with_each p.item (filter (keep p.item) (held_at ys m)))
          (held_in (p.item ++ y.item) p.period y.period ∙ both true c f) ∙ (rw e refl)
      first true false e f = ap (λ (l : List (List V)).
          l ++ with_each p.item (filter (keep p.item) (held_at ys m)))
          (held_in (p.item ++ y.item) p.period y.period ∙ both false c f)
      first false true e f = rw e refl
      first false false e f = refl

  held_none : (p : Entry (List V)) (ys : List (Entry (List V))) → covers p.period m ≡ false
      → held_at (flat_map (paired keep p) ys) m ≡ []
  held_none p [] c = refl
  held_none p (y ∷ ys) c = held_append (paired keep p y) (flat_map (paired keep p) ys) m
      ∙ ap (λ (l : List (List V)). held_at (paired keep p y) m ++ l) (held_none p ys c)
      ∙ append-nil (held_at (paired keep p y) m) ∙ first (keep p.item y.item)
    where
      first : (a : Bool) → held_at (cond a (pair p y) []) m ≡ []
      first true = held_in (p.item ++ y.item) p.period y.period ∙ rw c refl
      first false = refl

  -- pairs hold the choices that hold, with the rows that hold and are kept
  pub held_pairs : (ps ys : List (Entry (List V)))
      → held_at (pairs keep ps ys) m ≡ extended_where keep (held_at ps m) (held_at ys m)
  held_pairs [] ys = refl
  held_pairs (p ∷ ps) ys = held_append (flat_map (paired keep p) ys) (pairs keep ps ys) m
      ∙ ap (λ (l : List (List V)). held_at (flat_map (paired keep p) ys) m ++ l) (held_pairs ps ys)
      ∙ first (covers p.period m) refl
    where
      first : (b : Bool) → covers p.period m ≡ b
          → held_at (flat_map (paired keep p) ys) m
          ++ extended_where keep (held_at ps m) (held_at ys m)
          ≡ extended_where keep (cond b (p.item ∷ held_at ps m) (held_at ps m)) (held_at ys m)
      first true e = ap (λ (l : List (List V)).
          l ++ extended_where keep (held_at ps m) (held_at ys m)) (held_row p ys e)
      first false e = ap (λ (l : List (List V)).
          l ++ extended_where keep (held_at ps m) (held_at ys m)) (held_none p ys e)
