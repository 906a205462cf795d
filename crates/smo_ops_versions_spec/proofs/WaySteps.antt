-- The way from one version to another, version by version.
use Rattle.std.proofs.Common.{◌≡◌, ◌+◌, ◌-◌, ◌≤◌, ◌<◌, ℕ, zero, suc, Bool, true, false, List, []}
use Rattle.std.proofs.Common.{◌++◌, refl, sym, ap, ◌∙◌, append_assoc, append-nil, arith}
use Rattle.std.specs.Prelude.{nat_le, if◌then◌else◌}
use Rattle.smo_ops_types.specs.Commands.{PlainVersion}
use Rattle.smo_ops_spec.proofs.PastLaws.{at_least}
use Rattle.smo_ops_versions_spec.specs.Steps.{Step, taken, taken_back, AllSteps}
use Rattle.smo_ops_versions_spec.specs.Ways.{to_next, from_next, forward, backward, way}
use Rattle.smo_ops_versions_spec.proofs.StepLaws.{taken_both, taken_back_both, all_both}

module _ (versions : List PlainVersion) where
  abbrev on : ℕ → List Step
  on k = to_next versions k

  abbrev back : ℕ → List Step
  back k = from_next versions k

  goes_forward : (v q : ℕ) → v ≤ q → way versions v q ≡ forward on v (q - v)
  goes_forward v q l = ap (λ b. if b then forward on v (q - v) else backward back q (v - q))
      (at_least v q l)

  goes_back : (v q : ℕ) → q ≤ v → way versions v q ≡ backward back q (v - q)
  goes_back v q l = step (nat_le v q) refl
    where
      step : (b : Bool) → nat_le v q ≡ b → (if b then forward on v (q - v)
          else backward back q (v - q)) ≡ backward back q (v - q)
      step true e =
          let same : v ≤ q = grind (arith, e) in
          let none : q - v ≡ 0 = omega arith in
          let none_back : v - q ≡ 0 = omega arith in
          ap (λ n. forward on v n) none ∙ sym (ap (λ n. backward back q n) none_back)
      step false e = refl

  pub stays : (v : ℕ) → way versions v v ≡ []
  stays v = (let none : v - v ≡ 0 = omega arith in let l : v ≤ v = omega arith in
      goes_forward v v l ∙ ap (λ n. forward on v n) none)

  pub one_forward : (v q : ℕ) → v ≤ q
      → way versions v (q + 1) ≡ way versions v q ++ to_next versions q
  one_forward v q l =
      let further : q + 1 - v ≡ suc (q - v) = omega arith in
      let at : v + (q - v) ≡ q = omega arith in
      let m : v ≤ q + 1 = omega arith in
      goes_forward v (q + 1) m ∙ ap (λ n. forward on v n) further
      ∙ ap (λ k. forward on v (q - v) ++ on k) at
      ∙ sym (ap (λ (steps : List Step). steps ++ on q) (goes_forward v q l))

  pub one_back : (v q : ℕ) → q < v
      → way versions v q ≡ way versions v (q + 1) ++ from_next versions q
  one_back v q l =
      let further : v - q ≡ suc (v - (q + 1)) = omega arith in
      let low : q ≤ v = omega arith in
      let m : q + 1 ≤ v = omega arith in
      goes_back v q low ∙ ap (λ n. backward back q n) further
      ∙ sym (ap (λ (steps : List Step). steps ++ back q) (goes_back v (q + 1) m))

  forward_both : (v a b : ℕ) → forward on v (a + b) ≡ forward on v a ++ forward on (v + a) b
  forward_both v a zero = (let e : a + 0 ≡ a = omega arith in ap (λ n. forward on v n) e
      ∙ sym (append-nil (forward on v a)))
  forward_both v a (suc b) =
      let e : a + suc b ≡ suc (a + b) = omega arith in
      let at : v + (a + b) ≡ v + a + b = omega arith in
      ap (λ n. forward on v n) e ∙ ap (λ k. forward on v (a + b) ++ on k) at
      ∙ ap (λ (steps : List Step). steps ++ on (v + a + b)) (forward_both v a b)
      ∙ append_assoc (forward on v a) (forward on (v + a) b) (on (v + a + b))

  backward_both : (q a b : ℕ) → backward back q (a + b)
      ≡ backward back (q + a) b ++ backward back q a
  backward_both q zero b =
      let e : 0 + b ≡ b = omega arith in
      let at : q ≡ q + 0 = omega arith in
      ap (λ n. backward back q n) e ∙ ap (λ k. backward back k b) at
      ∙ sym (append-nil (backward back (q + 0) b))
  backward_both q (suc a) b =
      let e : suc a + b ≡ suc (a + b) = omega arith in
      let at : q + 1 + a ≡ q + suc a = omega arith in
      ap (λ n. backward back q n) e ∙ ap (λ (steps : List Step). steps ++ back q)
      (backward_both (q + 1) a b ∙ ap (λ k. backward back k b ++ backward back (q + 1) a) at)
      ∙ append_assoc (backward back (q + suc a) b) (backward back (q + 1) a) (back q)

  -- by way of a version between
  pub forward_by : (v m q : ℕ) → v ≤ m → m ≤ q
      → way versions v q ≡ way versions v m ++ way versions m q
  forward_by v m q l r =
      let s : v ≤ q = omega arith in
      let parts : q - v ≡ (m - v) + (q - m) = omega arith in
      let at : v + (m - v) ≡ m = omega arith in
      goes_forward v q s ∙ ap (λ n. forward on v n) parts ∙ forward_both v (m - v) (q - m)
      ∙ ap (λ k. forward on v (m - v) ++ forward on k (q - m)) at
      ∙ sym (ap (λ (steps : List Step). steps ++ way versions m q) (goes_forward v m l)
      ∙ ap (λ (steps : List Step). forward on v (m - v) ++ steps) (goes_forward m q r))

  pub back_by : (v m q : ℕ) → q ≤ m → m ≤ v
      → way versions v q ≡ way versions v m ++ way versions m q
  back_by v m q l r =
      let s : q ≤ v = omega arith in
      let parts : v - q ≡ (m - q) + (v - m) = omega arith in
      let at : q + (m - q) ≡ m = omega arith in
      goes_back v q s ∙ ap (λ n. backward back q n) parts ∙ backward_both q (m - q) (v - m)
      ∙ ap (λ k. backward back k (v - m) ++ backward back q (m - q)) at
      ∙ sym (ap (λ (steps : List Step). steps ++ way versions m q) (goes_back v m r)
      ∙ ap (λ (steps : List Step). backward back m (v - m) ++ steps) (goes_back m q l))

  -- the first version of a way
  pub first_forward : (v q : ℕ) → v < q
      → way versions v q ≡ to_next versions v ++ way versions (v + 1) q
  first_forward v q l =
      let low : v ≤ v + 1 = omega arith in
      let one : v + 1 ≤ q = omega arith in
      let here : v ≤ v = omega arith in
      forward_by v (v + 1) q low one
      ∙ ap (λ (steps : List Step). steps ++ way versions (v + 1) q)
      (one_forward v v here ∙ ap (λ (steps : List Step). steps ++ on v) (stays v))

  pub first_back : (v q : ℕ) → q ≤ v
      → way versions (v + 1) q ≡ from_next versions v ++ way versions v q
  first_back v q l =
      let low : v ≤ v + 1 = omega arith in
      let one : v < v + 1 = omega arith in
      back_by (v + 1) v q l low
      ∙ ap (λ (steps : List Step). steps ++ way versions v q)
      (one_back (v + 1) v one ∙ ap (λ (steps : List Step). steps ++ back v) (stays (v + 1)))

  -- ---- what is taken along it

  module _ {X : Type 0} (by : Step → X → X) where
    pub taken_stays : (v : ℕ) (x : X) → taken by (way versions v v) x ≡ x
    taken_stays v x = ap (λ (steps : List Step). taken by steps x) (stays v)

    pub taken_forward : (v q : ℕ) (x : X) → v ≤ q → taken by (way versions v (q + 1)) x
        ≡ taken by (to_next versions q) (taken by (way versions v q) x)
    taken_forward v q x l = ap (λ (steps : List Step). taken by steps x) (one_forward v q l)
        ∙ taken_both by (way versions v q) (on q) x

    pub taken_backward : (v q : ℕ) (x : X) → q < v → taken by (way versions v q) x
        ≡ taken by (from_next versions q) (taken by (way versions v (q + 1)) x)
    taken_backward v q x l = ap (λ (steps : List Step). taken by steps x) (one_back v q l)
        ∙ taken_both by (way versions v (q + 1)) (back q) x

    pub taken_forward_by : (v m q : ℕ) (x : X) → v ≤ m → m ≤ q → taken by (way versions v q) x
        ≡ taken by (way versions m q) (taken by (way versions v m) x)
    taken_forward_by v m q x l r =
        ap (λ (steps : List Step). taken by steps x) (forward_by v m q l r)
        ∙ taken_both by (way versions v m) (way versions m q) x

    pub taken_back_by : (v m q : ℕ) (x : X) → q ≤ m → m ≤ v → taken by (way versions v q) x
        ≡ taken by (way versions m q) (taken by (way versions v m) x)
    taken_back_by v m q x l r = ap (λ (steps : List Step). taken by steps x) (back_by v m q l r)
        ∙ taken_both by (way versions v m) (way versions m q) x

    -- and what is taken back along it
    pub brought_stays : (v : ℕ) (x : X) → taken_back by (way versions v v) x ≡ x
    brought_stays v x = ap (λ (steps : List Step). taken_back by steps x) (stays v)

    pub brought_forward : (v q : ℕ) (x : X) → v < q → taken_back by (way versions v q) x
        ≡ taken_back by (to_next versions v) (taken_back by (way versions (v + 1) q) x)
    brought_forward v q x l =
        ap (λ (steps : List Step). taken_back by steps x) (first_forward v q l)
        ∙ taken_back_both by (on v) (way versions (v + 1) q) x

    pub brought_back : (v q : ℕ) (x : X) → q ≤ v → taken_back by (way versions (v + 1) q) x
        ≡ taken_back by (from_next versions v) (taken_back by (way versions v q) x)
    brought_back v q x l =
        ap (λ (steps : List Step). taken_back by steps x) (first_back v q l)
        ∙ taken_back_both by (back v) (way versions v q) x

  -- ---- what holds of each step

  forward_all : (P : Step → Type 0) → ((k : ℕ) → AllSteps P (to_next versions k)) → (v n : ℕ)
      → AllSteps P (forward on v n)
  forward_all P each v zero = tt
  forward_all P each v (suc n) = all_both P (forward on v n) (on (v + n)) (forward_all P each v n)
      (each (v + n))

  backward_all : (P : Step → Type 0) (low high : ℕ)
      → ((k : ℕ) → low ≤ k → k < high → AllSteps P (from_next versions k)) → (q n : ℕ) → low ≤ q
      → q + n ≤ high → AllSteps P (backward back q n)
  backward_all P low high each q zero l r = tt
  backward_all P low high each q (suc n) l r =
      all_both P (backward back (q + 1) n) (back q)
      (backward_all P low high each (q + 1) n (omega (arith, l)) (omega (arith, r)))
      (each q l (omega (arith, r)))

  pub way_all : (P : Step → Type 0) (v q : ℕ) → ((k : ℕ) → AllSteps P (to_next versions k))
      → ((k : ℕ) → q ≤ k → k < v → AllSteps P (from_next versions k))
      → AllSteps P (way versions v q)
  way_all P v q on_each back_each = step (nat_le v q) refl
    where
      step : (b : Bool) → nat_le v q ≡ b → AllSteps P (if b then forward on v (q - v)
          else backward back q (v - q))
      step true e = forward_all P on_each v (q - v)
      step false e = backward_all P q v back_each q (v - q) (omega arith)
          (let l : q ≤ v = grind (arith, e) in omega (arith, l))
