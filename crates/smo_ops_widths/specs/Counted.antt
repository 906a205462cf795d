-- Numbers of the code, which stop at the greatest u64, and the sizes that a list of names says.
use Rattle.std.specs.Prelude.{◌≡◌, ℕ, List, [], ◌∷◌, min, if◌then◌else◌, Option, Some, None, ⊤}
use Rattle.smo_ops_spec.specs.OneRow.{same}
use Rattle.smo_ops_widths.specs.Widths.{Width, Sizes}

-- a number of the code
abbrev pub stopped : ℕ → ℕ
stopped n = min n 18446744073709551615

-- the size that stands beside the name; 1 where the name is not there
abbrev pub size_in : List (List ℕ × ℕ) → Sizes
size_in [] n = 1
size_in (e ∷ es) n = if same n e.0 then e.1 else size_in es n

-- the numbers of two widths are, one by one, in a relation
pub record AreBy (R : ℕ → ℕ → Type 0) (a b : Width) : Type 0 where
  pub pieces : R a.pieces b.pieces
  pub atoms : R a.atoms b.atoms
  pub cond : R a.cond b.cond
  pub size : (n : List ℕ) → R (a.size n) (b.size n)

-- they are one where they stop
abbrev pub SameStopped : ℕ → ℕ → Type 0
SameStopped a b = stopped a ≡ stopped b

abbrev pub AreAlike : Width → Width → Type 0
AreAlike a b = AreBy SameStopped a b

-- the same of what may be there
abbrev pub MayBeAlike : Option Width → Option Width → Type 0
MayBeAlike None None = ⊤
MayBeAlike None (Some b) = ⊥
MayBeAlike (Some a) None = ⊥
MayBeAlike (Some a) (Some b) = AreAlike a b
