-- Laws of sets as ascending lists.
use Rattle.std.specs.Prelude.{◌≡◌, ◌↔◌, List, [], ◌∷◌, ◌++◌, ◌⊎◌, ◌||◌, Bool, true, false, cond}
use Rattle.std.specs.Prelude.{map}
use Rattle.std.specs.Ordering.{is_eq}
use Rattle.std.proofs.Common.{refl, sym, ap, subst, ◌∙◌, inl, inr}
use Rattle.std.specs.List.{filter, flat_map}
use Rattle.std.specs.declared.cmp.Ordering.{Ordering}
use Rattle.std.specs.declared.cmp.Ordering.TheVariants.{Less, Equal, Greater}
use Rattle.relations_spec.specs.Sets.{In, Same, BeforeAll, Ascends, placed, put_in, set_of, has}
use Rattle.relations_spec.specs.Sets.{IsExact}

-- membership in a join of lists, a map and a filter
pub in_left : {X : Type 0} (z : X) (xs ys : List X) → In z xs → In z (xs ++ ys)
in_left z [] ys m = absurd m
in_left z (x ∷ xs) ys (inl e) = inl e
in_left z (x ∷ xs) ys (inr m) = inr (in_left z xs ys m)

pub in_right : {X : Type 0} (z : X) (xs ys : List X) → In z ys → In z (xs ++ ys)
in_right z [] ys m = m
in_right z (x ∷ xs) ys m = inr (in_right z xs ys m)

pub in_append : {X : Type 0} (z : X) (xs ys : List X) → In z (xs ++ ys) → In z xs ⊎ In z ys
in_append z [] ys m = inr m
in_append z (x ∷ xs) ys (inl e) = inl (inl e)
in_append z (x ∷ xs) ys (inr m) = elim (in_append z xs ys m) [ inl a ↦ inl (inr a) | inr b ↦ inr b ]

pub in_map : {X Y : Type 0} (f : X → Y) (x : X) (xs : List X) → In x xs → In (f x) (map f xs)
in_map f x [] m = m
in_map f x (y ∷ xs) (inl e) = inl (ap f e)
in_map f x (y ∷ xs) (inr m) = inr (in_map f x xs m)

pub from_map : {X Y : Type 0} (f : X → Y) (z : Y) (xs : List X) → In z (map f xs) → (x : X)
    × In x xs × (f x ≡ z)
from_map f z [] m = absurd m
from_map f z (y ∷ xs) (inl e) = (y, inl refl, e)
from_map f z (y ∷ xs) (inr m) = let h = from_map f z xs m in (h.0, inr h.1, h.2)

pub in_filter : {X : Type 0} (p : X → Bool) (x : X) (xs : List X) → In x xs → p x ≡ true
    → In x (filter p xs)
in_filter p x [] m e = m
in_filter {X} p x (y ∷ xs) (inl q) e = rw (ap p q ∙ e) (inl q)
in_filter {X} p x (y ∷ xs) (inr m) e = elim (p y) as (λ b.
    In x (cond b (y ∷ filter p xs) (filter p xs))) [
      | true ↦ inr (in_filter p x xs m e)
      | false ↦ in_filter p x xs m e
    ]

pub from_filter : {X : Type 0} (p : X → Bool) (x : X) (xs : List X) → In x (filter p xs) → In x xs
    × (p x ≡ true)
from_filter p x [] m = absurd m
from_filter {X} p x (y ∷ xs) m = from_step (from_filter p x xs) (p y) refl m
  where
    from_step : (In x (filter p xs) → In x xs × (p x ≡ true)) → (b : Bool) → p y ≡ b
        → In x (cond b (y ∷ filter p xs) (filter p xs)) → In x (y ∷ xs) × (p x ≡ true)
    from_step more true q (inl e) = (inl e, ap p (sym e) ∙ q)
    from_step more true q (inr m) = let h = more m in (inr h.0, h.1)
    from_step more false q m = let h = more m in (inr h.0, h.1)

pub in_flat_map : {X Y : Type 0} (f : X → List Y) (x : X) (z : Y) (xs : List X) → In x xs
    → In z (f x) → In z (flat_map f xs)
in_flat_map f x z [] m n = absurd m
in_flat_map {X} {Y} f x z (y ∷ xs) (inl e) n =
    in_left z (f y) (flat_map f xs) (subst (λ (w : X). In z (f w)) (sym e) n)
in_flat_map f x z (y ∷ xs) (inr m) n = in_right z (f y) (flat_map f xs) (in_flat_map f x z xs m n)

pub from_flat_map : {X Y : Type 0} (f : X → List Y) (z : Y) (xs : List X) → In z (flat_map f xs)
    → (x : X) × In x xs × In z (f x)
from_flat_map f z [] m = absurd m
from_flat_map f z (y ∷ xs) m = elim (in_append z (f y) (flat_map f xs) m) [
  | inl a ↦ (y, inl refl, a)
  | inr b ↦ (let h = from_flat_map f z xs b in (h.0, inr h.1, h.2))
]

-- ascending lists with the same elements are one list
module _ {X : Type 0} (cmp : X → X → Ordering) (trans : (x y z : X) → cmp x y ≡ Less
    → cmp y z ≡ Less → cmp x z ≡ Less) (apart : (x : X) → cmp x x ≡ Less → ⊥) where
  pub below_less : (x z : X) (ys : List X) → BeforeAll cmp x ys → In z ys → cmp x z ≡ Less
  below_less x z [] b m = absurd m
  below_less x z (y ∷ ys) b (inl e) = subst (λ (w : X). cmp x w ≡ Less) e b.0
  below_less x z (y ∷ ys) b (inr m) = below_less x z ys b.1 m

  no_cycle : (x y : X) → cmp x y ≡ Less → cmp y x ≡ Less → ⊥
  no_cycle x y p q = apart x (trans x y x p q)

  not_itself : (x z : X) (ys : List X) → BeforeAll cmp x ys → x ≡ z → In z ys → ⊥
  not_itself x z ys b e m = apart x (subst (λ (w : X). cmp x w ≡ Less) (sym e)
      (below_less x z ys b m))

  heads : (x y : X) (xs ys : List X) → BeforeAll cmp x xs → BeforeAll cmp y ys → In x (y ∷ ys)
      → In y (x ∷ xs) → x ≡ y
  heads x y xs ys p q (inl e) n = sym e
  heads x y xs ys p q (inr m) (inl e) = e
  heads x y xs ys p q (inr m) (inr n) = absurd
      (no_cycle x y (below_less x y xs p n) (below_less y x ys q m))

  tail_of : (x y z : X) (xs ys : List X) → BeforeAll cmp x xs → x ≡ y → In z xs → In z (y ∷ ys)
      → In z ys
  tail_of x y z xs ys p e m (inl q) = absurd (not_itself x z xs p (e ∙ q) m)
  tail_of x y z xs ys p e m (inr n) = n

  pub one_list_of : (xs ys : List X) → Ascends cmp xs → Ascends cmp ys → Same xs ys → xs ≡ ys
  one_list_of [] [] a b s = refl
  one_list_of [] (y ∷ ys) a b s = absurd (s.back y (inl refl))
  one_list_of (x ∷ xs) [] a b s = absurd (s.there x (inl refl))
  one_list_of (x ∷ xs) (y ∷ ys) a b s =
      let e : x ≡ y = heads x y xs ys a.0 b.0 (s.there x (inl refl)) (s.back y (inl refl)) in
      let t : xs ≡ ys = one_list_of xs ys a.1 b.1 (record {
        there = λ z m. tail_of x y z xs ys a.0 e m (s.there z (inr m));
        back = λ z m. tail_of y x z ys xs b.0 (sym e) m (s.back z (inr m));
      }) in
      cc

-- two members of an ascending list are one, or one is before the other
pub before_in : {X : Type 0} (cmp : X → X → Ordering) (x z : X) (ys : List X) → BeforeAll cmp x ys
    → In z ys → cmp x z ≡ Less
before_in cmp x z [] b m = absurd m
before_in {X} cmp x z (y ∷ ys) b (inl e) = subst (λ (w : X). cmp x w ≡ Less) e b.0
before_in cmp x z (y ∷ ys) b (inr m) = before_in cmp x z ys b.1 m

pub told_apart : {X : Type 0} (cmp : X → X → Ordering) (xs : List X) → Ascends cmp xs → (x y : X)
    → In x xs → In y xs → (x ≡ y) ⊎ ((cmp x y ≡ Less) ⊎ (cmp y x ≡ Less))
told_apart cmp [] a x y m n = absurd m
told_apart cmp (z ∷ xs) a x y (inl p) (inl q) = inl (sym p ∙ q)
told_apart {X} cmp (z ∷ xs) a x y (inl p) (inr n) =
    inr (inl (subst (λ (w : X). cmp w y ≡ Less) p (before_in cmp z y xs a.0 n)))
told_apart {X} cmp (z ∷ xs) a x y (inr m) (inl q) =
    inr (inr (subst (λ (w : X). cmp w x ≡ Less) q (before_in cmp z x xs a.0 m)))
told_apart cmp (z ∷ xs) a x y (inr m) (inr n) = told_apart cmp xs a.1 x y m n

-- an order of each member before those after it, by membership
pub below_each : {X : Type 0} (cmp : X → X → Ordering) (x : X) (ys : List X)
    → ((y : X) → In y ys → cmp x y ≡ Less) → BeforeAll cmp x ys
below_each cmp x [] f = tt
below_each cmp x (y ∷ ys) f = (f y (inl refl), below_each cmp x ys (λ z m. f z (inr m)))

below_append : {X : Type 0} (cmp : X → X → Ordering) (x : X) (xs ys : List X) → BeforeAll cmp x xs
    → BeforeAll cmp x ys → BeforeAll cmp x (xs ++ ys)
below_append cmp x [] ys a b = b
below_append cmp x (z ∷ xs) ys a b = (a.0, below_append cmp x xs ys a.1 b)

pub ascends_append : {X : Type 0} (cmp : X → X → Ordering) (xs ys : List X) → Ascends cmp xs
    → Ascends cmp ys → ((x y : X) → In x xs → In y ys → cmp x y ≡ Less) → Ascends cmp (xs ++ ys)
ascends_append cmp [] ys a b f = b
ascends_append cmp (x ∷ xs) ys a b f = (
  below_append cmp x xs ys a.0 (below_each cmp x ys (λ y m. f x y (inl refl) m)),
  ascends_append cmp xs ys a.1 b (λ z y n m. f z y (inr n) m),
)

module _ {X : Type 0} (cmp : X → X → Ordering) (o : IsExact cmp) where
  pub one_list : (xs ys : List X) → Ascends cmp xs → Ascends cmp ys → Same xs ys → xs ≡ ys
  one_list = one_list_of cmp o.trans o.apart

  -- a member by the order is a member
  pub cmp_itself : (x : X) → cmp x x ≡ Equal
  cmp_itself x = step (cmp x x) refl
    where
      step : (r : Ordering) → cmp x x ≡ r → cmp x x ≡ Equal
      step Less e = absurd (o.apart x e)
      step Equal e = e
      step Greater e = absurd (o.apart x (o.turn x x e))

  pub in_has : (x : X) (ys : List X) → In x ys → has cmp x ys ≡ true
  in_has x [] m = absurd m
  in_has x (y ∷ ys) (inl e) = rw (subst (λ (w : X). cmp x w ≡ Equal) (sym e) (cmp_itself x)) refl
  in_has x (y ∷ ys) (inr m) = step (cmp x y) (in_has x ys m)
    where
      step : (r : Ordering) → has cmp x ys ≡ true → (is_eq r || has cmp x ys) ≡ true
      step Less e = e
      step Equal e = refl
      step Greater e = e

  pub has_in : (x : X) (ys : List X) → has cmp x ys ≡ true → In x ys
  has_in x [] e = absurd (cc)
  has_in x (y ∷ ys) e = step (has_in x ys) (cmp x y) refl e
    where
      step : (has cmp x ys ≡ true → In x ys) → (r : Ordering) → cmp x y ≡ r
          → (is_eq r || has cmp x ys) ≡ true → In x (y ∷ ys)
      step more Less q h = inr (more h)
      step more Equal q h = inl (sym (o.same x y q))
      step more Greater q h = inr (more h)

  pub has_is_in : (x : X) (ys : List X) → has cmp x ys ≡ true ↔ In x ys
  has_is_in x ys = (has_in x ys, in_has x ys)

  pub has_not : (x : X) (ys : List X) → has cmp x ys ≡ false → ¬ In x ys
  has_not x ys e m = (let h = in_has x ys m in absurd (cc))

  -- what stands in `set_of`
  put_there : (x z : X) (ys : List X) → In z (x ∷ ys) → In z (put_in cmp x ys)
  put_there x z [] m = m
  put_there x z (y ∷ ys) m = step (put_there x z ys) (cmp x y) refl
    where
      step : (In z (x ∷ ys) → In z (put_in cmp x ys)) → (r : Ordering) → cmp x y ≡ r
          → In z (placed r x y ys (put_in cmp x ys))
      step more Less e = m
      step more Equal e = elim m [ inl q ↦ inl (sym (o.same x y e) ∙ q) | inr n ↦ n ]
      step more Greater e = elim m [
        | inl q ↦ inr (more (inl q))
        | inr n ↦ elim n [ inl q ↦ inl q | inr k ↦ inr (more (inr k)) ]
      ]

  pub put_back : (x z : X) (ys : List X) → In z (put_in cmp x ys) → In z (x ∷ ys)
  put_back x z [] m = m
  put_back x z (y ∷ ys) m = step (put_back x z ys) (cmp x y) m
    where
      step : (In z (put_in cmp x ys) → In z (x ∷ ys)) → (r : Ordering)
          → In z (placed r x y ys (put_in cmp x ys)) → In z (x ∷ (y ∷ ys))
      step more Less m = m
      step more Equal m = inr m
      step more Greater (inl q) = inr (inl q)
      step more Greater (inr n) = elim (more n) [ inl q ↦ inl q | inr k ↦ inr (inr k) ]

  below_put : (w x : X) (ys : List X) → cmp w x ≡ Less → BeforeAll cmp w ys
      → BeforeAll cmp w (put_in cmp x ys)
  below_put w x [] e b = (e, tt)
  below_put w x (y ∷ ys) e b = step (below_put w x ys e b.1) (cmp x y)
    where
      step : BeforeAll cmp w (put_in cmp x ys) → (r : Ordering)
          → BeforeAll cmp w (placed r x y ys (put_in cmp x ys))
      step more Less = (e, b)
      step more Equal = b
      step more Greater = (b.0, more)

  below_trans : (w x : X) (ys : List X) → cmp w x ≡ Less → BeforeAll cmp x ys → BeforeAll cmp w ys
  below_trans w x [] e b = tt
  below_trans w x (y ∷ ys) e b = (o.trans w x y e b.0, below_trans w x ys e b.1)

  ascends_put : (x : X) (ys : List X) → Ascends cmp ys → Ascends cmp (put_in cmp x ys)
  ascends_put x [] r = (tt, tt)
  ascends_put x (y ∷ ys) r = step (ascends_put x ys r.1) (cmp x y) refl
    where
      step : Ascends cmp (put_in cmp x ys) → (q : Ordering) → cmp x y ≡ q
          → Ascends cmp (placed q x y ys (put_in cmp x ys))
      step more Less e = ((e, below_trans x y ys e r.0), r)
      step more Equal e = r
      step more Greater e = (below_put y x ys (o.turn x y e) r.0, more)

  pub set_ascends : (xs : List X) → Ascends cmp (set_of cmp xs)
  unfolding set_of
  set_ascends [] = tt
  set_ascends (x ∷ xs) = ascends_put x (set_of cmp xs) (set_ascends xs)

  pub in_set : (z : X) (xs : List X) → In z xs → In z (set_of cmp xs)
  unfolding set_of
  in_set z [] m = m
  in_set z (x ∷ xs) (inl e) = put_there x z (set_of cmp xs) (inl e)
  in_set z (x ∷ xs) (inr m) = put_there x z (set_of cmp xs) (inr (in_set z xs m))

  pub from_set : (z : X) (xs : List X) → In z (set_of cmp xs) → In z xs
  unfolding set_of
  from_set z [] m = m
  from_set z (x ∷ xs) m = elim (put_back x z (set_of cmp xs) m) [
    | inl e ↦ inl e
    | inr n ↦ inr (from_set z xs n)
  ]

  -- lists with the same elements have the same set
  pub set_same : (xs ys : List X) → Same xs ys → set_of cmp xs ≡ set_of cmp ys
  set_same xs ys s = one_list (set_of cmp xs) (set_of cmp ys) (set_ascends xs) (set_ascends ys)
      (record {
        there = λ z m. in_set z ys (s.there z (from_set z xs m));
        back = λ z m. in_set z xs (s.back z (from_set z ys m));
      })

  -- a relation is the set of its rows
  pub set_itself : (xs : List X) → Ascends cmp xs → set_of cmp xs ≡ xs
  set_itself xs r = one_list (set_of cmp xs) xs (set_ascends xs) r (record {
    there = λ z m. from_set z xs m;
    back = λ z m. in_set z xs m;
  })
