-- The list of what holds, made stage by stage.
use Rattle.std.specs.Prelude.{◌≡◌, ℕ, ◌+◌, ◌-◌, ◌<◌, ◌≤◌, ◌⊎◌, ◌++◌, Bool, true, false, cond}
use Rattle.std.specs.Prelude.{nat_le, List, [], ◌∷◌, Option, Some, None, ⊤}
use Rattle.std.proofs.Common.{refl, sym, ap, subst, ◌∙◌, inl, inr, arith}
use Rattle.std.specs.declared.cmp.Ordering.{Ordering}
use Rattle.std.specs.declared.cmp.Ordering.TheVariants.{Less}
use Rattle.std.proofs.lemmas.Bool.Decides.{nat_tests}
use Rattle.relations_spec.specs.Sets.{In, Ascends, set_of, has, IsExact}
use Rattle.relations_spec.specs.Spans.{Span, span, forever, always}
use Rattle.relations_spec.specs.Timed.{Entry}
use Rattle.relations_spec.specs.Listing.{IsEntry, IsListing, entry_cmp}
use Rattle.relations_spec.specs.Timeline.{Stage, relation_from, relation_at, StagesFollow}
use Rattle.relations_spec.specs.Timeline.{IsTimeline}
use Rattle.relations_spec.specs.Timeline.{runs, all_items, with_item, listed, listing_of}
use Rattle.relations_spec.proofs.SetLaws.{in_left, in_right, in_append, below_less, below_each}
use Rattle.relations_spec.proofs.SetLaws.{ascends_append, has_in, has_not, in_set, set_ascends}
use Rattle.relations_spec.proofs.ListingLaws.{at_or_below, entry_less}

le_true : (m n : ℕ) → m ≤ n → nat_le m n ≡ true
le_true m n h = grind (arith, nat_tests)

le_false : (m n : ℕ) → n < m → nat_le m n ≡ false
le_false m n h = grind (arith, nat_tests)

-- the relation of stages: before the next stage, from it on, and at the start of the one that goes
-- on
pub relation_before : {X : Type 0} (before : List X) (s : Stage X) (stages : List (Stage X)) (m : ℕ)
    → m < s.start → relation_from before (s ∷ stages) m ≡ before
relation_before before s stages m h = rw (le_false s.start m h) refl

pub relation_after : {X : Type 0} (before : List X) (s : Stage X) (stages : List (Stage X)) (m : ℕ)
    → s.start ≤ m → relation_from before (s ∷ stages) m ≡ relation_from s.items stages m
relation_after before s stages m h = rw (le_true s.start m h) refl

pub relation_now : {X : Type 0} (low : ℕ) (before : List X) (stages : List (Stage X))
    → StagesFollow low stages → relation_from before stages low ≡ before
relation_now low before [] f = refl
relation_now low before (s ∷ stages) f = relation_before before s stages low f.0

-- what the relation has is an item of a stage
pub in_all_items : {X : Type 0} (x : X) (before : List X) (stages : List (Stage X)) (m : ℕ)
    → In x (relation_from before stages m) → In x before ⊎ In x (all_items stages)
in_all_items x before [] m h = inl h
in_all_items {X} x before (s ∷ stages) m h = step (in_all_items x s.items stages m)
    (nat_le s.start m) h
  where
    later : In x s.items ⊎ In x (all_items stages) → In x before
        ⊎ In x (s.items ++ all_items stages)
    later (inl k) = inr (in_left x s.items (all_items stages) k)
    later (inr k) = inr (in_right x s.items (all_items stages) k)

    step : (In x (relation_from s.items stages m) → In x s.items ⊎ In x (all_items stages))
        → (b : Bool) → In x (cond b (relation_from s.items stages m) before) → In x before
        ⊎ In x (s.items ++ all_items stages)
    step more true k = later (more k)
    step more false k = inl k

-- one item, in a relation that is known from a stage on
module _ {X : Type 0} (cmp : X → X → Ordering) (o : IsExact cmp) (x : X) (relation : ℕ
    → List X) where
  abbrev IsRun : Span → Type 0
  IsRun p = IsEntry relation always (record { item = x; period = p })

  -- from the stage's start on the relation is that of the stages
  abbrev IsFrom : ℕ → List X → List (Stage X) → Type 0
  IsFrom low before stages = (m : ℕ) → low ≤ m → relation m ≡ relation_from before stages m

  next_from : (low : ℕ) (before : List X) (s : Stage X) (stages : List (Stage X)) → low < s.start
      → IsFrom low before (s ∷ stages) → IsFrom s.start s.items stages
  next_from low before s stages l is m h = is m (omega arith) ∙ relation_after before s stages m h

  until_next : (low : ℕ) (before : List X) (s : Stage X) (stages : List (Stage X))
      → IsFrom low before (s ∷ stages) → (m : ℕ) → low ≤ m → m < s.start → relation m ≡ before
  until_next low before s stages is m a b = is m a ∙ relation_before before s stages m b

  -- what is known at the stage that goes on: the item has no period, or one that began and still
  -- goes on
  pub record IsOpen (low : ℕ) (before : List X) (since : ℕ) : Type 0 where
    pub has : In x before
    pub began : since ≤ low
    pub lasts : low < forever
    pub holds : (m : ℕ) → since ≤ m → m < low → In x (relation m)
    pub begins : (since ≡ 0) ⊎ (¬ In x (relation (since - 1)))

  abbrev State : ℕ → List X → Option ℕ → Type 0
  State low before None = ¬ In x before
  State low before (Some since) = IsOpen low before since

  opened : (low : ℕ) (before : List X) (s : Stage X) (stages : List (Stage X)) → low < s.start
      → s.start < forever → IsFrom low before (s ∷ stages)
      → ¬ In x before → In x s.items → IsOpen s.start s.items s.start
  opened low before s stages l f is out here = record {
    has = here;
    began = omega arith;
    lasts = f;
    holds = λ m a b. absurd (omega arith);
    begins = inr (λ k. out (subst (λ (w : List X). In x w)
        (until_next low before s stages is (s.start - 1) (omega arith) (omega arith)) k));
  }

  holds_on : (low : ℕ) (before : List X) (since : ℕ) (end : ℕ) → IsOpen low before since
      → ((m : ℕ) → low ≤ m → m < end → relation m ≡ before) → (m : ℕ) → since ≤ m → m < end
      → In x (relation m)
  holds_on low before since end p is m a b =
      elim (at_or_below m low) [
        | inl h ↦ p.holds m a h
        | inr h ↦ subst (λ (w : List X). In x w) (sym (is m h b)) p.has
      ]

  goes_on : (low : ℕ) (before : List X) (since : ℕ) (s : Stage X) (stages : List (Stage X))
      → low < s.start → s.start < forever → IsFrom low before (s ∷ stages)
      → IsOpen low before since → In x s.items → IsOpen s.start s.items since
  goes_on low before since s stages l f is p here =
      let b = p.began in
      record {
        has = here;
        began = omega arith;
        lasts = f;
        holds = holds_on low before since s.start p (until_next low before s stages is);
        begins = p.begins;
      }

  closed : (low : ℕ) (before : List X) (since : ℕ) (s : Stage X) (stages : List (Stage X))
      → low < s.start → s.start < forever → StagesFollow s.start stages
      → IsFrom low before (s ∷ stages)
      → IsOpen low before since → ¬ In x s.items → IsRun (span since s.start)
  closed low before since s stages l f follow is p gone =
      let b = p.began in
      record {
        lasting = omega arith;
        from = omega arith;
        to = omega arith;
        holds = holds_on low before since s.start p (until_next low before s stages is);
        begins = p.begins;
        ends = inr (λ k. gone (subst (λ (w : List X). In x w)
            (next_from low before s stages l is s.start (omega arith)
            ∙ relation_now s.start s.items stages follow) k));
      }

  never_closed : (low : ℕ) (before : List X) (since : ℕ) → IsFrom low before []
      → IsOpen low before since → IsRun (span since forever)
  never_closed low before since is p =
      let b = p.began in
      let l = p.lasts in
      record {
        lasting = omega arith;
        from = omega arith;
        to = omega arith;
        holds = holds_on low before since forever p (λ m a b. is m a);
        begins = p.begins;
        ends = inl refl;
      }

  -- each period is a longest one
  each_run : (stages : List (Stage X)) (low : ℕ) (before : List X) (state : Option ℕ)
      → StagesFollow low stages → IsFrom low before stages → State low before state
      → (p : Span) → In p (runs cmp x state stages) → IsRun p
  each_run [] low before None f is k p m = absurd m
  each_run [] low before (Some since) f is k p (inl e) =
      subst (λ (w : Span). IsRun w) e (never_closed low before since is k)
  each_run [] low before (Some since) f is k p (inr m) = absurd m
  each_run (s ∷ stages) low before None f is k p m =
      elim (has cmp x s.items) as (λ b. has cmp x s.items ≡ b
      → In p (cond b (runs cmp x (Some s.start) stages) (runs cmp x None stages)) → IsRun p) [
        | true ↦ λ q. each_run stages s.start s.items (Some s.start) f.2
            (next_from low before s stages f.0 is)
            (opened low before s stages f.0 f.1 is k (has_in cmp o x s.items q)) p
        | false ↦ λ q. each_run stages s.start s.items None f.2
            (next_from low before s stages f.0 is) (has_not cmp o x s.items q) p
      ] refl m
  each_run (s ∷ stages) low before (Some since) f is k p m =
      elim (has cmp x s.items) as (λ b. has cmp x s.items ≡ b
      → In p (cond b (runs cmp x (Some since) stages)
      (span since s.start ∷ runs cmp x None stages)) → IsRun p) [
        | true ↦ λ q. each_run stages s.start s.items (Some since) f.2
            (next_from low before s stages f.0 is)
            (goes_on low before since s stages f.0 f.1 is k (has_in cmp o x s.items q)) p
        | false ↦ λ q l. elim l [
          | inl e ↦ subst (λ (w : Span). IsRun w) e
              (closed low before since s stages f.0 f.1 f.2 is k (has_not cmp o x s.items q))
          | inr n ↦ each_run stages s.start s.items None f.2 (next_from low before s stages f.0 is)
              (has_not cmp o x s.items q) p n
        ]
      ] refl m

  -- a period has each moment at which the relation has the item
  abbrev InRun : List Span → ℕ → Type 0
  InRun periods m = (p : Span) × In p periods × (p.start ≤ m) × (m < p.end)

  later_run : (q : Span) (periods : List Span) (m : ℕ) → InRun periods m → InRun (q ∷ periods) m
  later_run q periods m r = (r.0, inr r.1, r.2, r.3)

  abbrev Reached : ℕ → Option ℕ → ℕ → Type 0
  Reached low None m = low ≤ m
  Reached low (Some since) m = since ≤ m

  all_runs : (stages : List (Stage X)) (low : ℕ) (before : List X) (state : Option ℕ)
      → StagesFollow low stages → IsFrom low before stages → State low before state
      → (m : ℕ) → m < forever → Reached low state m → In x (relation m)
      → InRun (runs cmp x state stages) m
  all_runs [] low before None f is k m l r h =
      absurd (k (subst (λ (w : List X). In x w) (is m r) h))
  all_runs [] low before (Some since) f is k m l r h = (span since forever, inl refl, r, l)
  all_runs (s ∷ stages) low before None f is k m l r h = elim (at_or_below m s.start) [
    | inl u ↦ absurd (k (subst (λ (w : List X). In x w) (until_next low before s stages is m r u)
        h))
    | inr v ↦ elim (has cmp x s.items) as (λ b. has cmp x s.items ≡ b
        → InRun (cond b (runs cmp x (Some s.start) stages) (runs cmp x None stages)) m) [
          | true ↦ λ q. all_runs stages s.start s.items (Some s.start) f.2
              (next_from low before s stages f.0 is)
              (opened low before s stages f.0 f.1 is k (has_in cmp o x s.items q)) m l v h
          | false ↦ λ q. all_runs stages s.start s.items None f.2
              (next_from low before s stages f.0 is)
              (has_not cmp o x s.items q) m l v h
        ] refl
  ]
  all_runs (s ∷ stages) low before (Some since) f is k m l r h =
      elim (has cmp x s.items) as (λ b. has cmp x s.items ≡ b
      → InRun (cond b (runs cmp x (Some since) stages)
      (span since s.start ∷ runs cmp x None stages)) m) [
        | true ↦ λ q. all_runs stages s.start s.items (Some since) f.2
            (next_from low before s stages f.0 is)
            (goes_on low before since s stages f.0 f.1 is k (has_in cmp o x s.items q)) m l r h
        | false ↦ λ q. elim (at_or_below m s.start) [
          | inl u ↦ (span since s.start, inl refl, r, u)
          | inr v ↦ later_run (span since s.start) (runs cmp x None stages) m
              (all_runs stages s.start s.items None f.2 (next_from low before s stages f.0 is)
              (has_not cmp o x s.items q) m l v h)
        ]
      ] refl

-- the periods of one item stand one after the other
abbrev Above : ℕ → List Span → Type 0
Above n [] = ⊤
Above n (p ∷ periods) = (n ≤ p.start) × Above (p.start + 1) periods

abbrev IsBelow : ℕ → Option ℕ → ℕ → Type 0
IsBelow low None n = n ≤ low + 1
IsBelow low (Some since) n = (n ≤ since) × (since ≤ low)

module _ {X : Type 0} (cmp : X → X → Ordering) (x : X) where
  pub runs_above : (stages : List (Stage X)) (low : ℕ) (state : Option ℕ) (n : ℕ)
      → StagesFollow low stages → IsBelow low state n → Above n (runs cmp x state stages)
  runs_above [] low None n f h = tt
  runs_above [] low (Some since) n f h = (h.0, tt)
  runs_above (s ∷ stages) low None n f h = let l = f.0 in
      elim (has cmp x s.items) as (λ b. Above n
      (cond b (runs cmp x (Some s.start) stages) (runs cmp x None stages))) [
        | true ↦ runs_above stages s.start (Some s.start) n f.2 (omega arith, omega arith)
        | false ↦ runs_above stages s.start None n f.2 (omega arith)
      ]
  runs_above (s ∷ stages) low (Some since) n f h = let l = f.0 in let a = h.0 in let k = h.1 in
      elim (has cmp x s.items) as (λ b. Above n
      (cond b (runs cmp x (Some since) stages) (span since s.start ∷ runs cmp x None stages))) [
        | true ↦ runs_above stages s.start (Some since) n f.2 (a, omega arith)
        | false ↦ (a, runs_above stages s.start None (since + 1) f.2 (omega arith))
      ]

-- a whole timeline: its first stage may begin at the first moment
module _ {X : Type 0} (cmp : X → X → Ordering) (o : IsExact cmp) (x : X) where
  first_state : (s : Stage X) (stages : List (Stage X)) → s.start < forever → In x s.items
      → IsOpen cmp o x (relation_at (s ∷ stages)) s.start s.items s.start
  first_state s stages l here = record {
    has = here;
    began = omega arith;
    lasts = l;
    holds = λ m a b. absurd (omega arith);
    begins = elim (at_or_below 0 s.start) [
      | inl h ↦ inr (λ k. subst (λ (w : List X). In x w)
          (relation_before [] s stages (s.start - 1) (omega arith)) k)
      | inr h ↦ inl (omega arith)
    ];
  }

  first_from : (s : Stage X) (stages : List (Stage X))
      → IsFrom cmp o x (relation_at (s ∷ stages)) s.start s.items stages
  first_from s stages m h = relation_after [] s stages m h

  pub each_of_timeline : (stages : List (Stage X)) → IsTimeline stages → (p : Span)
      → In p (runs cmp x None stages) → IsEntry (relation_at stages) always
      (record { item = x; period = p })
  each_of_timeline [] t p m = absurd m
  each_of_timeline (s ∷ stages) t p m =
      elim (has cmp x s.items) as (λ b. has cmp x s.items ≡ b
      → In p (cond b (runs cmp x (Some s.start) stages) (runs cmp x None stages))
      → IsRun cmp o x (relation_at (s ∷ stages)) p) [
        | true ↦ λ q. each_run cmp o x (relation_at (s ∷ stages)) stages s.start s.items
            (Some s.start) t.1 (first_from s stages)
            (first_state s stages t.0 (has_in cmp o x s.items q)) p
        | false ↦ λ q. each_run cmp o x (relation_at (s ∷ stages)) stages s.start s.items None t.1
            (first_from s stages) (has_not cmp o x s.items q) p
      ] refl m

  pub all_of_timeline : (stages : List (Stage X)) → IsTimeline stages → (m : ℕ) → m < forever
      → In x (relation_at stages m) → InRun cmp o x (relation_at stages) (runs cmp x None stages) m
  all_of_timeline [] t m l h = absurd h
  all_of_timeline (s ∷ stages) t m l h = elim (at_or_below m s.start) [
    | inl u ↦ absurd (subst (λ (w : List X). In x w) (relation_before [] s stages m u) h)
    | inr v ↦ elim (has cmp x s.items) as (λ b. has cmp x s.items ≡ b
        → InRun cmp o x (relation_at (s ∷ stages))
        (cond b (runs cmp x (Some s.start) stages) (runs cmp x None stages)) m) [
          | true ↦ λ q. all_runs cmp o x (relation_at (s ∷ stages)) stages s.start s.items
              (Some s.start) t.1 (first_from s stages)
              (first_state s stages t.0 (has_in cmp o x s.items q)) m l v h
          | false ↦ λ q. all_runs cmp o x (relation_at (s ∷ stages)) stages s.start s.items None t.1
              (first_from s stages) (has_not cmp o x s.items q) m l v h
        ] refl
  ]

  pub timeline_above : (stages : List (Stage X)) → IsTimeline stages
      → Above 0 (runs cmp x None stages)
  timeline_above [] t = tt
  timeline_above (s ∷ stages) t = elim (has cmp x s.items) as (λ b.
      Above 0 (cond b (runs cmp x (Some s.start) stages) (runs cmp x None stages))) [
        | true ↦ runs_above cmp x stages s.start (Some s.start) 0 t.1 (omega arith, omega arith)
        | false ↦ runs_above cmp x stages s.start None 0 t.1 (omega arith)
      ]

-- the entries of one item
pub in_with : {X : Type 0} (x : X) (p : Span) (periods : List Span) → In p periods
    → In (record { item = x; period = p }) (with_item x periods)
in_with x p [] m = absurd m
in_with {X} x p (q ∷ periods) (inl e) = inl (ap
    (λ (w : Span). let r : Entry X = record { item = x; period = w } in r) e)
in_with x p (q ∷ periods) (inr m) = inr (in_with x p periods m)

pub from_with : {X : Type 0} (x : X) (e : Entry X) (periods : List Span)
    → In e (with_item x periods) → (x ≡ e.item) × In e.period periods
from_with x e [] m = absurd m
from_with {X} x e (q ∷ periods) (inl h) = (
  ap (λ (w : Entry X). w.item) h,
  inl (ap (λ (w : Entry X). w.period) h),
)
from_with x e (q ∷ periods) (inr m) = let r = from_with x e periods m in (r.0, inr r.1)

-- and of all
pub in_listed : {X : Type 0} (cmp : X → X → Ordering) (stages : List (Stage X)) (items : List X)
    (x : X) (p : Span) → In x items → In p (runs cmp x None stages)
    → In (record { item = x; period = p }) (listed cmp stages items)
in_listed cmp stages [] x p m n = absurd m
in_listed {X} cmp stages (y ∷ items) x p (inl e) n =
    in_left (record { item = x; period = p }) (with_item y (runs cmp y None stages))
    (listed cmp stages items)
    (subst (λ (w : X). In (record { item = x; period = p }) (with_item w (runs cmp w None stages)))
    (sym e) (in_with x p (runs cmp x None stages) n))
in_listed cmp stages (y ∷ items) x p (inr m) n =
    in_right (record { item = x; period = p }) (with_item y (runs cmp y None stages))
    (listed cmp stages items) (in_listed cmp stages items x p m n)

pub from_listed : {X : Type 0} (cmp : X → X → Ordering) (stages : List (Stage X)) (items : List X)
    (e : Entry X) → In e (listed cmp stages items)
    → In e.item items × In e.period (runs cmp e.item None stages)
from_listed cmp stages [] e m = absurd m
from_listed {X} cmp stages (y ∷ items) e m = elim (in_append e
    (with_item y (runs cmp y None stages)) (listed cmp stages items) m) [
      | inl a ↦ (let r = from_with y e (runs cmp y None stages) a in
          (inl r.0, subst (λ (w : X). In e.period (runs cmp w None stages)) r.0 r.1))
      | inr b ↦ (let r = from_listed cmp stages items e b in (inr r.0, r.1))
    ]

module _ {X : Type 0} (cmp : X → X → Ordering) (o : IsExact cmp) (stages : List (Stage X))
    (t : IsTimeline stages) where
  above_from : (n : ℕ) (p : Span) (periods : List Span) → Above n periods → In p periods
      → n ≤ p.start
  above_from n p [] a m = absurd m
  above_from n p (q ∷ periods) a (inl e) = subst (λ (w : Span). n ≤ w.start) e a.0
  above_from n p (q ∷ periods) a (inr m) = let h = a.0 in let r =
      above_from (q.start + 1) p periods a.1 m in omega arith

  item_ascends : (x : X) (n : ℕ) (periods : List Span) → Above n periods
      → Ascends (entry_cmp cmp) (with_item x periods)
  item_ascends x n [] a = tt
  item_ascends x n (p ∷ periods) a = (
    below_each (entry_cmp cmp) (record { item = x; period = p }) (with_item x periods) (λ e m.
        let r = from_with x e periods m in
        let h = above_from (p.start + 1) e.period periods a.1 r.1 in
        entry_less cmp o (record { item = x; period = p }) e (inr (r.0, omega arith))),
    item_ascends x (p.start + 1) periods a.1,
  )

  listed_ascends : (items : List X) → Ascends cmp items
      → Ascends (entry_cmp cmp) (listed cmp stages items)
  listed_ascends [] a = tt
  listed_ascends (x ∷ items) a = ascends_append (entry_cmp cmp)
      (with_item x (runs cmp x None stages)) (listed cmp stages items)
      (item_ascends x 0 (runs cmp x None stages) (timeline_above cmp o x stages t))
      (listed_ascends items a.1)
      (λ e f m n.
      let i : x ≡ e.item = (from_with x e (runs cmp x None stages) m).0 in
      let j : cmp x f.item ≡ Less = below_less cmp o.trans o.apart x f.item items a.0
      (from_listed cmp stages items f n).0 in
      entry_less cmp o e f (inl (subst (λ (w : X). cmp w f.item ≡ Less) i j)))

  pub timeline_listing : IsListing cmp (relation_at stages) always (listing_of cmp stages)
  unfolding listing_of
  timeline_listing = record {
    each = λ e m. each_of_timeline cmp o e.item stages t e.period
        (from_listed cmp stages (set_of cmp (all_items stages)) e m).1;
    complete = λ x m a b h.
        let r = all_of_timeline cmp o x stages t m b h in
        let k : In x (all_items stages) = elim (in_all_items x [] stages m h) [
          | inl n ↦ absurd n
          | inr i ↦ i
        ] in (
          record { item = x; period = r.0 },
          in_listed cmp stages (set_of cmp (all_items stages)) x
              r.0 (in_set cmp o x (all_items stages) k) r.1,
          refl,
          r.2,
          r.3,
        );
    ascending = listed_ascends (set_of cmp (all_items stages))
        (set_ascends cmp o (all_items stages));
  }
