-- A relation is the strictly ascending list of its members.
use Rattle.std.specs.Prelude.{◌≡◌, List, [], ◌∷◌, ◌⊎◌, ◌||◌, Bool, false, ⊤}
use Rattle.std.specs.Ordering.{is_eq}
use Rattle.std.specs.declared.cmp.Ordering.{Ordering}
use Rattle.std.specs.declared.cmp.Ordering.TheVariants.{Less, Equal, Greater}

-- the list has the member
abbrev pub In : {X : Type 0} → X → List X → Type 0
In z [] = ⊥
In z (x ∷ xs) = (x ≡ z) ⊎ In z xs

-- two lists with the same members
pub record Same {X : Type 0} (xs ys : List X) : Type 0 where
  pub there : (z : X) → In z xs → In z ys
  pub back : (z : X) → In z ys → In z xs

-- it is before each of these
abbrev pub BeforeAll : {X : Type 0} → (X → X → Ordering) → X → List X → Type 0
BeforeAll cmp x [] = ⊤
BeforeAll cmp x (y ∷ ys) = (cmp x y ≡ Less) × BeforeAll cmp x ys

-- each member is before those after it
abbrev pub Ascends : {X : Type 0} → (X → X → Ordering) → List X → Type 0
Ascends cmp [] = ⊤
Ascends cmp (x ∷ xs) = BeforeAll cmp x xs × Ascends cmp xs

abbrev pub placed : {X : Type 0} → Ordering → X → X → List X → List X → List X
placed Less x y ys more = x ∷ y ∷ ys
placed Equal x y ys more = y ∷ ys
placed Greater x y ys more = y ∷ more

-- the relation with one more member
abbrev pub put_in : {X : Type 0} → (X → X → Ordering) → X → List X → List X
put_in cmp x [] = x ∷ []
put_in cmp x (y ∷ ys) = placed (cmp x y) x y ys (put_in cmp x ys)

-- the one relation with these members
unfoldable pub set_of : {X : Type 0} → (X → X → Ordering) → List X → List X
set_of cmp [] = []
set_of cmp (x ∷ xs) = put_in cmp x (set_of cmp xs)

-- whether the list has the member, by the order
abbrev pub has : {X : Type 0} → (X → X → Ordering) → X → List X → Bool
has cmp x [] = false
has cmp x (y ∷ ys) = is_eq (cmp x y) || has cmp x ys

-- an order that tells apart what differs
pub record IsExact {X : Type 0} (cmp : X → X → Ordering) : Type 0 where
  pub turn : (x y : X) → cmp x y ≡ Greater → cmp y x ≡ Less
  pub trans : (x y z : X) → cmp x y ≡ Less → cmp y z ≡ Less → cmp x z ≡ Less
  pub same : (x y : X) → cmp x y ≡ Equal → x ≡ y
  pub apart : (x : X) → cmp x x ≡ Less → ⊥
