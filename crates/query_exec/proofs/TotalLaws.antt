-- Numbers that are added up.
use Rattle.std.proofs.Common.{◌≡◌, ◌+◌, ◌≤◌, ℕ, inl, inr, List, [], ◌∷◌, ◌++◌, ap, arith}
use Rattle.relations_spec.specs.Sets.{In}
use Rattle.query_exec.specs.Totals.{total}

module _ {X : Type 0} (f : X → ℕ) where
  pub total_joined : (xs ys : List X) → total f (xs ++ ys) ≡ total f xs + total f ys
  total_joined [] ys = omega arith
  total_joined (x ∷ xs) ys = (let h = total_joined xs ys in omega arith)

  -- each of the numbers is at most their sum
  pub total_member : (xs : List X) (x : X) → In x xs → f x ≤ total f xs
  total_member [] x m = absurd m
  total_member (y ∷ xs) x (inl e) = (let h : f y ≡ f x = ap f e in omega (arith, h))
  total_member (y ∷ xs) x (inr m) = (let h = total_member xs x m in omega (arith, h))

-- ---- what was counted

pub from_first : (first now new : ℕ) → first ≤ now → now ≤ new → first ≤ new
from_first first now new a b = omega arith

-- what there is for one is at most what there is for the part
pub from_part : (n part old new : ℕ) → n ≤ part → old + part ≤ new → old + n ≤ new
from_part n part old new a b = omega arith
