-- What stays the same from step to step, listed.
use Rattle.std.specs.Prelude.{◌≡◌, ◌↔◌, ℕ, ◌-◌, ◌<◌, ◌≤◌, ◌⊎◌, ◌++◌, Bool, true, false, cond}
use Rattle.std.specs.Prelude.{nat_le, List, [], ◌∷◌, Option, Some, None, ⊤}
use Rattle.std.proofs.Common.{refl, sym, ap, subst, ◌∙◌, inl, inr, arith}
use Rattle.std.specs.declared.cmp.Ordering.{Ordering}
use Rattle.std.specs.declared.cmp.Ordering.TheVariants.{Less}
use Rattle.std.proofs.lemmas.Bool.Decides.{nat_tests}
use Rattle.relations_spec.specs.Sets.{In, Ascends}
use Rattle.relations_spec.specs.Spans.{forever}
use Rattle.relations_spec.specs.Timed.{Entry}
use Rattle.relations_spec.specs.Listing.{Covered}
use Rattle.relations_spec.proofs.SetLaws.{in_left, in_right, in_append, ascends_append}
use Rattle.relations_spec.proofs.ListingLaws.{at_or_below, made}
use Rattle.time_aggregate.specs.Lasting.{Step, there_at, is_there, end_of, begun, lasting}

le_true : (m n : ℕ) → m ≤ n → nat_le m n ≡ true
le_true m n h = grind (arith, nat_tests)

le_false : (m n : ℕ) → n < m → nat_le m n ≡ false
le_false m n h = grind (arith, nat_tests)

-- the steps come one after the other, each above `low`, and none at the end of time
abbrev pub Follow : {A : Type 0} → ℕ → List (Step A) → Type 0
Follow low [] = ⊤
Follow low (s ∷ steps) = (low < s.moment) × (s.moment < forever) × Follow s.moment steps

pub at_before : {A : Type 0} (now : Option A) (s : Step A) (steps : List (Step A)) (m : ℕ)
    → m < s.moment → there_at now (s ∷ steps) m ≡ now
at_before now s steps m h = rw (le_false s.moment m h) refl

pub at_after : {A : Type 0} (now : Option A) (s : Step A) (steps : List (Step A)) (m : ℕ)
    → s.moment ≤ m → there_at now (s ∷ steps) m ≡ there_at s.there steps m
at_after now s steps m h = rw (le_true s.moment m h) refl

pub at_now : {A : Type 0} (low : ℕ) (now : Option A) (steps : List (Step A)) → Follow low steps
    → there_at now steps low ≡ now
at_now low now [] f = refl
at_now low now (s ∷ steps) f = at_before now s steps low f.0

module _ {A : Type 0} (same : A → A → Bool) (is : (a b : A) → (same a b ≡ true) ↔ (a ≡ b)) where
  there_is : (a : A) (b : Option A) → is_there same a b ≡ true → b ≡ Some a
  there_is a None e = absurd (cc)
  there_is a (Some b) e = ap Some (sym ((is a b).0 e))

  is_itself : (a : A) (b : Option A) → b ≡ Some a → is_there same a b ≡ true
  is_itself a b e = subst (λ (w : Option A). is_there same a w ≡ true) (sym e) ((is a a).1 refl)

  there_not : (a : A) (b : Option A) → is_there same a b ≡ false → b ≡ Some a → ⊥
  there_not a b e h = let k = is_itself a b h in absurd (cc)

  -- what is there from `low` on stays up to this moment
  record Stays (a : A) (low : ℕ) (steps : List (Step A)) (end : ℕ) : Type 0 where
    later : low < end
    most : end ≤ forever
    stays : (m : ℕ) → low ≤ m → m < end → there_at (Some a) steps m ≡ Some a
    ends : (end ≡ forever) ⊎ (there_at (Some a) steps end ≡ Some a → ⊥)

  same_after : (a : A) (s : Step A) (steps : List (Step A)) (m : ℕ) → s.there ≡ Some a
      → s.moment ≤ m → (now : Option A) → there_at now (s ∷ steps) m ≡ there_at (Some a) steps m
  same_after a s steps m e h now = at_after now s steps m h
      ∙ ap (λ (w : Option A). there_at w steps m) e

  stays_of : (a : A) (low : ℕ) (steps : List (Step A)) → low < forever → Follow low steps
      → Stays a low steps (end_of same a steps)
  stays_of a low [] l f = record {
    later = l;
    most = omega arith;
    stays = λ m x y. refl;
    ends = inl refl;
  }
  stays_of a low (s ∷ steps) l f = step (stays_of a s.moment steps f.1 f.2)
      (is_there same a s.there) refl
    where
      over : low < s.moment
      over = f.0

      top : s.moment < forever
      top = f.1

      goes : Stays a s.moment steps (end_of same a steps) → s.there ≡ Some a → (m : ℕ)
          → m < end_of same a steps → (m < s.moment) ⊎ (s.moment ≤ m)
          → there_at (Some a) (s ∷ steps) m ≡ Some a
      goes r e m y (inl h) = at_before (Some a) s steps m h
      goes r e m y (inr h) = same_after a s steps m e h (Some a) ∙ r.stays m h y

      ending : (r : Stays a s.moment steps (end_of same a steps)) → s.there ≡ Some a
          → (end_of same a steps ≡ forever)
          ⊎ (there_at (Some a) steps (end_of same a steps) ≡ Some a → ⊥)
          → (end_of same a steps ≡ forever)
          ⊎ (there_at (Some a) (s ∷ steps) (end_of same a steps) ≡ Some a → ⊥)
      ending r e (inl h) = inl h
      ending r e (inr h) = inr (λ k.
          let n = r.later in
          h (sym (same_after a s steps (end_of same a steps) e (omega (arith, n)) (Some a)) ∙ k))

      step : Stays a s.moment steps (end_of same a steps) → (b : Bool)
          → is_there same a s.there ≡ b
          → Stays a low (s ∷ steps) (cond b (end_of same a steps) s.moment)
      step r true e = record {
        later = (let x = over in let y = r.later in omega (arith, x, y));
        most = r.most;
        stays = λ m x y. goes r (there_is a s.there e) m y (at_or_below m s.moment);
        ends = ending r (there_is a s.there e) r.ends;
      }
      step r false e = record {
        later = over;
        most = (let x = top in omega (arith, x));
        stays = λ m x y. at_before (Some a) s steps m y;
        ends = inr (λ k. there_not a s.there e (sym (at_now s.moment s.there steps f.2)
            ∙ sym (at_after (Some a) s steps s.moment (omega arith)) ∙ k));
      }

  -- an entry of what begins at a step above `low`
  record IsRun (low : ℕ) (now : Option A) (steps : List (Step A)) (e : Entry A) : Type 0 where
    from : low < e.period.start
    later : e.period.start < e.period.end
    most : e.period.end ≤ forever
    stays : (m : ℕ) → e.period.start ≤ m → m < e.period.end → there_at now steps m ≡ Some e.item
    begins : there_at now steps (e.period.start - 1) ≡ Some e.item → ⊥
    ends : (e.period.end ≡ forever) ⊎ (there_at now steps e.period.end ≡ Some e.item → ⊥)

  begun_at : (now there : Option A) (moment : ℕ) (steps : List (Step A)) (e : Entry A)
      → In e (begun same now there moment steps)
      → (a : A) × (there ≡ Some a) × (is_there same a now ≡ false)
      × (made a moment (end_of same a steps) ≡ e)
  begun_at now None moment steps e m = absurd m
  begun_at now (Some a) moment steps e m = step (is_there same a now) refl m
    where
      step : (b : Bool) → is_there same a now ≡ b
          → In e (cond b [] (made a moment (end_of same a steps) ∷ []))
          → (c : A) × (Some a ≡ Some c) × (is_there same c now ≡ false)
          × (made c moment (end_of same c steps) ≡ e)
      step true q k = absurd k
      step false q (inl k) = (a, refl, q, k)
      step false q (inr k) = absurd k

  in_begun : (now : Option A) (a : A) (there : Option A) (moment : ℕ) (steps : List (Step A))
      → there ≡ Some a → is_there same a now ≡ false
      → In (made a moment (end_of same a steps))
      (begun same now there moment steps)
  in_begun now a there moment steps e q = subst (λ (o : Option A).
      In (made a moment (end_of same a steps))
      (begun same now o moment steps)) (sym e) (rw q (inl refl))

  later_run : (low : ℕ) (now : Option A) (s : Step A) (steps : List (Step A)) → low < s.moment
      → (e : Entry A) → IsRun s.moment s.there steps e → IsRun low now (s ∷ steps) e
  later_run low now s steps over e r =
      let x = r.from in
      let y = r.later in
      record {
        from = omega (arith, over, x);
        later = y;
        most = r.most;
        stays = λ m k l. at_after now s steps m (omega (arith, x, k)) ∙ r.stays m k l;
        begins = λ k. r.begins (sym (at_after now s steps (e.period.start - 1)
            (omega (arith, x))) ∙ k);
        ends = elim r.ends [
          | inl h ↦ inl h
          | inr h ↦ inr (λ k. h (sym (at_after now s steps e.period.end
              (omega (arith, x, y))) ∙ k))
        ];
      }

  first_run : (low : ℕ) (now : Option A) (s : Step A) (steps : List (Step A))
      → Follow low (s ∷ steps) → (e : Entry A) → In e (begun same now s.there s.moment steps)
      → IsRun low now (s ∷ steps) e
  first_run low now s steps f e m =
      let b = begun_at now s.there s.moment steps e m in
      let a = b.0 in
      let r = stays_of a s.moment steps f.1 f.2 in
      let over = f.0 in
      let n = r.later in
      subst (IsRun low now (s ∷ steps)) b.3 (record {
        from = over;
        later = n;
        most = r.most;
        stays = λ k x y. same_after a s steps k b.1 x now ∙ r.stays k x y;
        begins = λ h. there_not a now b.2 (sym (at_before now s steps (s.moment - 1)
            (omega (arith, over))) ∙ h);
        ends = elim r.ends [
          | inl h ↦ inl h
          | inr h ↦ inr (λ w. h (sym (same_after a s steps (end_of same a steps) b.1
              (omega (arith, n)) now) ∙ w))
        ];
      })

  each_run : (low : ℕ) (now : Option A) (steps : List (Step A)) → Follow low steps → (e : Entry A)
      → In e (lasting same now steps) → IsRun low now steps e
  each_run low now [] f e m = absurd m
  each_run low now (s ∷ steps) f e m =
      elim (in_append e (begun same now s.there s.moment steps) (lasting same s.there steps) m) [
        | inl k ↦ first_run low now s steps f e k
        | inr k ↦ later_run low now s steps f.0 e (each_run s.moment s.there steps f.2 e k)
      ]

  before_end : (a : A) (low : ℕ) (s : Step A) (steps : List (Step A)) → Follow low (s ∷ steps)
      → (m : ℕ) → m < s.moment → m < end_of same a (s ∷ steps)
  before_end a low s steps f m h = step (is_there same a s.there)
    where
      step : (b : Bool) → m < cond b (end_of same a steps) s.moment
      step true = (let n = (stays_of a s.moment steps f.1 f.2).later in omega (arith, n, h))
      step false = h

  -- it was there before the steps and stays, or it began at one of them
  abbrev WasOrBegan : ℕ → Option A → List (Step A) → A → ℕ → Type 0
  WasOrBegan low now steps a m = ((now ≡ Some a) × (m < end_of same a steps))
      ⊎ Covered (lasting same now steps) a m

  at_step : (low : ℕ) (now : Option A) (s : Step A) (steps : List (Step A)) (a : A) (m : ℕ)
      → s.moment ≤ m → WasOrBegan s.moment s.there steps a m → WasOrBegan low now (s ∷ steps) a m
  at_step low now s steps a m k (inr c) = inr (
    c.0,
    in_right c.0 (begun same now s.there s.moment steps) (lasting same s.there steps) c.1,
    c.2,
    c.3,
    c.4,
  )
  at_step low now s steps a m k (inl p) = step (is_there same a now) refl
    where
      goes_on : end_of same a (s ∷ steps) ≡ end_of same a steps
      goes_on = rw (is_itself a s.there p.0) refl

      step : (b : Bool) → is_there same a now ≡ b → WasOrBegan low now (s ∷ steps) a m
      step true q = inl (there_is a now q, subst (λ n. m < n) (sym goes_on) p.1)
      step false q = inr (
        made a s.moment (end_of same a steps),
        in_left (made a s.moment (end_of same a steps))
            (begun same now s.there s.moment steps) (lasting same s.there steps)
            (in_begun now a s.there s.moment steps p.0 q),
        refl,
        k,
        p.1,
      )

  all_runs : (low : ℕ) (now : Option A) (steps : List (Step A)) → Follow low steps → (a : A)
      (m : ℕ) → m < forever → there_at now steps m ≡ Some a → WasOrBegan low now steps a m
  all_runs low now [] f a m y h = inl (h, y)
  all_runs low now (s ∷ steps) f a m y h = elim (at_or_below m s.moment) [
    | inl k ↦ inl (sym (at_before now s steps m k) ∙ h, before_end a low s steps f m k)
    | inr k ↦ at_step low now s steps a m k (all_runs s.moment s.there steps f.2 a m y
        (sym (at_after now s steps m k) ∙ h))
  ]

  -- ---- all that lasts, from the first moment on

  -- an entry of it
  pub record IsWhole (now : Option A) (steps : List (Step A)) (e : Entry A) : Type 0 where
    pub later : e.period.start < e.period.end
    pub most : e.period.end ≤ forever
    pub stays : (m : ℕ) → e.period.start ≤ m → m < e.period.end
        → there_at now steps m ≡ Some e.item
    pub begins : (e.period.start ≡ 0)
        ⊎ ((0 < e.period.start)
        × (there_at now steps (e.period.start - 1) ≡ Some e.item → ⊥))
    pub ends : (e.period.end ≡ forever)
        ⊎ (there_at now steps e.period.end ≡ Some e.item → ⊥)

  abbrev pub whole : Option A → List (Step A) → List (Entry A)
  whole now steps = begun same None now 0 steps ++ lasting same now steps

  from_start : (now : Option A) (steps : List (Step A)) → Follow 0 steps → (e : Entry A)
      → In e (begun same None now 0 steps) → IsWhole now steps e
  from_start now steps f e m =
      let b = begun_at None now 0 steps e m in
      let a = b.0 in
      let r = stays_of a 0 steps (omega arith) f in
      subst (IsWhole now steps) b.3 (record {
        later = r.later;
        most = r.most;
        stays = λ k x y. ap (λ (w : Option A). there_at w steps k) b.1 ∙ r.stays k x y;
        begins = inl refl;
        ends = elim r.ends [
          | inl h ↦ inl h
          | inr h ↦ inr (λ w. h (sym (ap (λ (w : Option A).
              there_at w steps (end_of same a steps)) b.1) ∙ w))
        ];
      })

  pub each_whole : (now : Option A) (steps : List (Step A)) → Follow 0 steps → (e : Entry A)
      → In e (whole now steps) → IsWhole now steps e
  each_whole now steps f e m =
      elim (in_append e (begun same None now 0 steps) (lasting same now steps) m) [
        | inl k ↦ from_start now steps f e k
        | inr k ↦ (let r = each_run 0 now steps f e k in
            record {
              later = r.later;
              most = r.most;
              stays = r.stays;
              begins = inr (r.from, r.begins);
              ends = r.ends;
            })
      ]

  pub all_whole : (now : Option A) (steps : List (Step A)) → Follow 0 steps → (a : A) (m : ℕ)
      → m < forever → there_at now steps m ≡ Some a → Covered (whole now steps) a m
  all_whole now steps f a m y h = elim (all_runs 0 now steps f a m y h) [
    | inl p ↦ (
      made a 0 (end_of same a steps),
      in_left (made a 0 (end_of same a steps))
          (begun same None now 0 steps) (lasting same now steps)
          (in_begun None a now 0 steps p.0 refl),
      refl,
      omega arith,
      p.1,
    )
    | inr c ↦ (
      c.0,
      in_right c.0 (begun same None now 0 steps) (lasting same now steps) c.1,
      c.2,
      c.3,
      c.4,
    )
  ]

  -- it ascends by start
  module _ (cmp : Entry A → Entry A → Ordering) (less : (e f : Entry A)
      → e.period.start < f.period.start → cmp e f ≡ Less) where
    begun_ascends : (now there : Option A) (moment : ℕ) (steps : List (Step A))
        → Ascends cmp (begun same now there moment steps)
    begun_ascends now None moment steps = tt
    begun_ascends now (Some a) moment steps = elim (is_there same a now) as (λ (b : Bool).
        Ascends cmp (cond b [] (made a moment (end_of same a steps)
        ∷ []))) [ true ↦ tt | false ↦ (tt, tt) ]

    begun_start : (now there : Option A) (moment : ℕ) (steps : List (Step A)) (e : Entry A)
        → In e (begun same now there moment steps) → moment ≡ e.period.start
    begun_start now there moment steps e m =
        ap (λ (w : Entry A). w.period.start) (begun_at now there moment steps e m).3

    joined : (low : ℕ) (now there : Option A) (steps : List (Step A)) → Follow low steps
        → Ascends cmp (lasting same there steps)
        → Ascends cmp (begun same now there low steps ++ lasting same there steps)
    joined low now there steps f a = ascends_append cmp (begun same now there low steps)
        (lasting same there steps) (begun_ascends now there low steps) a (λ x y m n.
        let p = begun_start now there low steps x m in
        let q = (each_run low there steps f y n).from in
        less x y (omega (arith, p, q)))

    lasting_ascends : (low : ℕ) (now : Option A) (steps : List (Step A)) → Follow low steps
        → Ascends cmp (lasting same now steps)
    lasting_ascends low now [] f = tt
    lasting_ascends low now (s ∷ steps) f = joined s.moment now s.there steps f.2
        (lasting_ascends s.moment s.there steps f.2)

    pub whole_ascends : (now : Option A) (steps : List (Step A)) → Follow 0 steps
        → Ascends cmp (whole now steps)
    whole_ascends now steps f = joined 0 None now steps f (lasting_ascends 0 now steps f)
