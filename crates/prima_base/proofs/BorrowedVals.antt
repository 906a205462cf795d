-- A `Val` that shows the same, and lies elsewhere where the other does, is borrowed where the other
-- is.
use Rattle.std.proofs.Common.{◌≡◌, List, [], ◌∷◌, map}
use Rattle.prima_base.specs.declared.value.Val.{Val}
use Rattle.prima_base.specs.declared.value.Val.TheVariants.{Int, Slice, Own}
use Rattle.prima_base.specs.Order.{shown, is_borrowed, IsBorrowed, AreBorrowed}

pub stays_borrowed : (v w : Val) → shown w ≡ shown v → is_borrowed w ≡ is_borrowed v → IsBorrowed v
    → IsBorrowed w
stays_borrowed v (Int n) s b l = tt
stays_borrowed v (Slice t) s b l = tt
stays_borrowed (Int n) (Own t) s b l = cc
stays_borrowed (Slice u) (Own t) s b l = cc
stays_borrowed (Own u) (Own t) s b l = l

pub all_stay_borrowed : (vs ws : List Val) → map shown ws ≡ map shown vs
    → map is_borrowed ws ≡ map is_borrowed vs → AreBorrowed vs → AreBorrowed ws
all_stay_borrowed vs [] s b l = tt
all_stay_borrowed [] (w ∷ ws) s b l = cc
all_stay_borrowed (v ∷ vs) (w ∷ ws) s b l =
    let first : shown w ≡ shown v = cc in
    let lies : is_borrowed w ≡ is_borrowed v = cc in
    let more : map shown ws ≡ map shown vs = cc in
    let all : map is_borrowed ws ≡ map is_borrowed vs = cc in (
      stays_borrowed v w first lies l.0,
      all_stay_borrowed vs ws more all l.1,
    )
