-- The states of a past are determined by its versions and by its database at each moment.
use Rattle.std.proofs.Common.{◌≡◌, ◌≤◌, ◌<◌, ℕ, Bool, true, false, List, [], ◌∷◌, ◌++◌, refl, sym}
use Rattle.std.proofs.Common.{ap, subst, ◌∙◌, inl, inr, arith}
use Rattle.std.specs.Prelude.{◌⊎◌, nat_lt, nat_le, Option, Some, None, if◌then◌else◌}
use Rattle.prima_base.specs.declared.refusal.Refusal.TheVariants.{StampNotLater}
use Rattle.schema_catalog.specs.Databases.{Database}
use Rattle.smo_ops_types.specs.Commands.{PlainVersion}
use Rattle.smo_ops_spec.specs.Past.{State, a_state, no_database, database_from, latest_from}
use Rattle.smo_ops_spec.specs.Past.{from_stamp}
use Rattle.smo_ops_spec.specs.ValidPast.{Rise, AreStates, AllUpTo, last_or_nought, Begins, Starts}
use Rattle.smo_ops_spec.specs.ValidPast.{EachDiffers, AreDistinct, EachStarts}
use Rattle.smo_ops_spec.specs.Accepts.{stamp_fault}
use Rattle.smo_ops_spec.proofs.Firsts.{met}
use Rattle.smo_ops_spec.proofs.PastLaws.{not_at, at_least}

is_less : (m n : ℕ) → m < n → nat_lt m n ≡ true
is_less m n l = grind (arith, l)

less_is : (m n : ℕ) → nat_lt m n ≡ true → m < n
less_is m n e = grind (arith, e)

not_less : (m n : ℕ) → nat_lt m n ≡ false → n ≤ m
not_less m n e = grind (arith, e)

stamp_rises : (last stamp : ℕ) → stamp_fault (Some last) stamp ≡ None → last < stamp
stamp_rises last stamp e = less_is last stamp (met (nat_lt last stamp) (StampNotLater stamp last) e)

-- an accepted stamp adds a state, or stands for that of moment 0
appended : (low stamp : ℕ) (new : Database) (states : List State) → AllUpTo low states → low < stamp
    → from_stamp stamp new states ≡ states ++ a_state stamp new ∷ []
appended low stamp new [] u l = refl
appended low stamp new (s ∷ states) u l =
    let below = u.0 in
    ap (λ b. if b then s ∷ from_stamp stamp new states else a_state stamp new ∷ [])
    (is_less s.stamp stamp (omega arith))
    ∙ ap (λ (rest : List State). s ∷ rest) (appended low stamp new states u.1 l)

alone : (states : List State) → Rise 0 states → AllUpTo 0 states → states ≡ []
alone [] r u = refl
alone (s ∷ states) r u = absurd (let a = r.0 in let b = u.0 in omega arith)

pub with_state : (P : List State → Type 0) (last : Option ℕ) (stamp : ℕ) (new : Database)
    (states : List State)
    → AreStates states → AllUpTo (last_or_nought last) states → stamp_fault last stamp ≡ None
    → P (states ++ a_state stamp new ∷ []) → ((s : State) → states ≡ s ∷ [] → s.stamp ≡ stamp
    → P (a_state stamp new ∷ [])) → P (from_stamp stamp new states)
with_state P (Some last) stamp new states a u e more one =
    subst P (sym (appended last stamp new states u (stamp_rises last stamp e))) more
with_state P None stamp new [] a u e more one = absurd a
with_state P None stamp new (s ∷ states) a u e more one = step (nat_lt s.stamp stamp) refl
  where
    step : (b : Bool) → nat_lt s.stamp stamp ≡ b
        → P (if b then s ∷ from_stamp stamp new states else a_state stamp new ∷ [])
    step true q =
        let later : 0 < stamp = (let h = less_is s.stamp stamp q in omega arith) in
        subst P (sym (ap (λ (rest : List State). s ∷ rest) (appended 0 stamp new states u.1 later)))
        more
    step false q =
        let low = not_less s.stamp stamp q in
        let nought = a.0 in
        one s (ap (λ (rest : List State). s ∷ rest) (alone states a.1 u.1)) (omega arith)

-- versions and states that are added
pub begins_before : (m : ℕ) (versions : List PlainVersion) (v : PlainVersion) → Begins m versions
    → Begins m (versions ++ v ∷ [])
begins_before m [] v b = absurd b
begins_before m (w ∷ versions) v (inl e) = inl e
begins_before m (w ∷ versions) v (inr b) = inr (begins_before m versions v b)

pub begins_last : (versions : List PlainVersion) (v : PlainVersion)
    → Begins v.stamp (versions ++ v ∷ [])
begins_last [] v = inl refl
begins_last (w ∷ versions) v = inr (begins_last versions v)

starts_before : (m : ℕ) (states : List State) (s : State) → Starts m states
    → Starts m (states ++ s ∷ [])
starts_before m [] s h = absurd h
starts_before m (t ∷ states) s (inl e) = inl e
starts_before m (t ∷ states) s (inr h) = inr (starts_before m states s h)

starts_last : (states : List State) (s : State) → Starts s.stamp (states ++ s ∷ [])
starts_last [] s = inl refl
starts_last (t ∷ states) s = inr (starts_last states s)

each_differs_still : (versions : List PlainVersion) (v : PlainVersion) (d : Database)
    (states : List State) → EachDiffers versions d states
    → EachDiffers (versions ++ v ∷ []) d states
each_differs_still versions v d [] h = tt
each_differs_still versions v d (s ∷ states) (inl n, h) =
    (inl n, each_differs_still versions v s.database states h)
each_differs_still versions v d (s ∷ states) (inr b, h) =
    (inr (begins_before s.stamp versions v b), each_differs_still versions v s.database states h)

pub distinct_still : (versions : List PlainVersion) (v : PlainVersion) (states : List State)
    → AreDistinct versions states → AreDistinct (versions ++ v ∷ []) states
distinct_still versions v [] h = tt
distinct_still versions v (s ∷ states) h = each_differs_still versions v s.database states h

differs_added : (versions : List PlainVersion) (s : State) (d : Database) (states : List State)
    → EachDiffers versions d states
    → (s.database ≡ latest_from d states → ⊥) ⊎ Begins s.stamp versions
    → EachDiffers versions d (states ++ s ∷ [])
differs_added versions s d [] h n = (n, tt)
differs_added versions s d (t ∷ states) h n =
    (h.0, differs_added versions s t.database states h.1 n)

distinct_added : (versions : List PlainVersion) (s : State) (states : List State)
    → AreDistinct versions states
    → (s.database ≡ latest_from no_database states → ⊥) ⊎ Begins s.stamp versions
    → AreDistinct versions (states ++ s ∷ [])
distinct_added versions s [] h n = tt
distinct_added versions s (t ∷ states) h n = differs_added versions s t.database states h n

each_starts : (states more : List State) (versions : List PlainVersion)
    → ((m : ℕ) → Starts m states → Starts m more) → EachStarts states versions
    → EachStarts more versions
each_starts states more [] f h = tt
each_starts states more (v ∷ versions) f h = (f v.stamp h.0, each_starts states more versions f h.1)

each_starts_and : (states : List State) (versions : List PlainVersion) (v : PlainVersion)
    → EachStarts states versions → Starts v.stamp states → EachStarts states (versions ++ v ∷ [])
each_starts_and states [] v h s = (s, tt)
each_starts_and states (w ∷ versions) v h s = (h.0, each_starts_and states versions v h.1 s)

-- with an accepted stamp
module _ (last : Option ℕ) (stamp : ℕ) (new : Database) (states : List State) (a : AreStates states)
    (u : AllUpTo (last_or_nought last) states) (e : stamp_fault last stamp ≡ None) where
  pub still_distinct : (versions : List PlainVersion) → AreDistinct versions states
      → (new ≡ latest_from no_database states → ⊥) ⊎ Begins stamp versions
      → AreDistinct versions (from_stamp stamp new states)
  still_distinct versions h n = with_state (AreDistinct versions) last stamp new states a u e
      (distinct_added versions (a_state stamp new) states h n) (λ s one same. tt)

  pub still_starts : (m : ℕ) → Starts m states → Starts m (from_stamp stamp new states)
  still_starts m h = with_state (Starts m) last stamp new states a u e
      (starts_before m states (a_state stamp new) h)
      (λ s one same. turned s same (subst (Starts m) one h))
    where
      turned : (s : State) → s.stamp ≡ stamp → Starts m (s ∷ []) → Starts m (a_state stamp new ∷ [])
      turned s same (inl q) = inl (sym same ∙ q)
      turned s same (inr f) = absurd f

  pub now_starts : Starts stamp (from_stamp stamp new states)
  now_starts = with_state (Starts stamp) last stamp new states a u e
      (starts_last states (a_state stamp new)) (λ s one same. inl refl)

  pub each_still_starts : (versions : List PlainVersion) → EachStarts states versions
      → EachStarts (from_stamp stamp new states) versions
  each_still_starts versions h = each_starts states (from_stamp stamp new states) versions
      still_starts h

  pub each_starts_with : (versions : List PlainVersion) (v : PlainVersion) → v.stamp ≡ stamp
      → EachStarts states versions → EachStarts (from_stamp stamp new states) (versions ++ v ∷ [])
  each_starts_with versions v same h =
      each_starts_and (from_stamp stamp new states) versions v (each_still_starts versions h)
      (subst (λ m. Starts m (from_stamp stamp new states)) (sym same) now_starts)

-- where two lists of states have the same databases
begun_starts : (states : List State) (versions : List PlainVersion) (m : ℕ)
    → EachStarts states versions → Begins m versions → Starts m states
begun_starts states [] m h b = absurd b
begun_starts states (v ∷ versions) m h (inl e) = subst (λ n. Starts n states) e h.0
begun_starts states (v ∷ versions) m h (inr b) = begun_starts states versions m h.1 b

no_start : (low m : ℕ) (states : List State) → Rise low states → m ≤ low → Starts m states → ⊥
no_start low m [] r l h = h
no_start low m (s ∷ states) r l (inl e) = (let k = r.0 in absurd (omega arith))
no_start low m (s ∷ states) r l (inr h) = no_start s.stamp m states r.1 (let k = r.0 in omega arith)
    h

starts_after : (s : State) (states : List State) (m : ℕ) → s.stamp < m → Starts m (s ∷ states)
    → Starts m states
starts_after s states m l (inl e) = absurd (omega arith)
starts_after s states m l (inr h) = h

before_all : (d : Database) (states : List State) (low m : ℕ) → Rise low states → m ≤ low
    → database_from d states m ≡ d
before_all d [] low m r l = refl
before_all d (s ∷ states) low m r l = (let k = r.0 in
    ap (λ b. if b then database_from s.database states m else d) (not_at m s.stamp (omega arith)))

after_first : (d : Database) (s : State) (states : List State) (m : ℕ) → s.stamp ≤ m
    → database_from d (s ∷ states) m ≡ database_from s.database states m
after_first d s states m l = ap (λ b. if b then database_from s.database states m else d)
    (at_least s.stamp m l)

at_first : (d : Database) (s : State) (states : List State) → Rise s.stamp states
    → database_from d (s ∷ states) s.stamp ≡ s.database
at_first d s states r = after_first d s states s.stamp (omega arith)
    ∙ before_all s.database states s.stamp s.stamp r (omega arith)

record Agree (versions : List PlainVersion) (low : ℕ) (d : Database) (ss ts : List State) :
    Type 0 where
  rise : Rise low ss × Rise low ts
  differ : EachDiffers versions d ss × EachDiffers versions d ts
  starts : (m : ℕ) → low < m → Begins m versions → Starts m ss × Starts m ts
  same : (m : ℕ) → database_from d ss m ≡ database_from d ts m

same_state : (s t : State) → s.stamp ≡ t.stamp → s.database ≡ t.database → s ≡ t
same_state s t p q = λ i. a_state (p i) (q i)

-- a state that only one of them has
only_here : (versions : List PlainVersion) (d : Database) (s : State) (ss ts : List State)
    → Rise s.stamp ss → Rise s.stamp ts
    → (s.database ≡ d → ⊥) ⊎ Begins s.stamp versions → (Begins s.stamp versions → Starts s.stamp ts)
    → database_from d (s ∷ ss) s.stamp ≡ database_from d ts s.stamp → ⊥
only_here versions d s ss ts r k (inl n) f e =
    n (sym (at_first d s ss r) ∙ e ∙ before_all d ts s.stamp s.stamp k (omega arith))
only_here versions d s ss ts r k (inr b) f e = no_start s.stamp s.stamp ts k (omega arith) (f b)

-- the first states
heads_same : (d : Database) (s t : State) (ss ts : List State) → Rise s.stamp ss → Rise t.stamp ts
    → s.stamp ≡ t.stamp
    → ((m : ℕ) → database_from d (s ∷ ss) m ≡ database_from d (t ∷ ts) m) → s ≡ t
heads_same d s t ss ts r k p e = same_state s t p
    (sym (at_first d s ss r) ∙ e s.stamp ∙ ap (database_from d (t ∷ ts)) p ∙ at_first d t ts k)

first_same : (versions : List PlainVersion) (low : ℕ) (d : Database) (s t : State)
    (ss ts : List State) → Agree versions low d (s ∷ ss) (t ∷ ts) → s ≡ t
first_same versions low d s t ss ts a = step (nat_lt s.stamp t.stamp) (nat_lt t.stamp s.stamp) refl
    refl
  where
    step : (b c : Bool) → nat_lt s.stamp t.stamp ≡ b → nat_lt t.stamp s.stamp ≡ c → s ≡ t
    step true c q z = absurd (only_here versions d s ss (t ∷ ts) a.rise.0.1
        (less_is s.stamp t.stamp q, a.rise.1.1) a.differ.0.0
        (λ b. (a.starts s.stamp a.rise.0.0 b).1) (a.same s.stamp))
    step false true q z = absurd (only_here versions d t ts (s ∷ ss) a.rise.1.1
        (less_is t.stamp s.stamp z, a.rise.0.1) a.differ.1.0
        (λ b. (a.starts t.stamp a.rise.1.0 b).0) (sym (a.same t.stamp)))
    step false false q z =
        let x = not_less s.stamp t.stamp q in
        let y = not_less t.stamp s.stamp z in
        heads_same d s t ss ts a.rise.0.1 a.rise.1.1 (omega arith) a.same

-- and those after them
tail_same : (d : Database) (s t : State) (ss ts : List State) → s ≡ t → Rise s.stamp ss
    → Rise s.stamp ts
    → ((m : ℕ) → database_from d (s ∷ ss) m ≡ database_from d (t ∷ ts) m) → (m : ℕ)
    → database_from s.database ss m ≡ database_from s.database ts m
tail_same d s t ss ts q r k e m = step (nat_le s.stamp m) refl
  where
    low : nat_le s.stamp m ≡ true → s.stamp ≤ m
    low h = grind (arith, h)

    high : nat_le s.stamp m ≡ false → m ≤ s.stamp
    high h = grind (arith, h)

    step : (b : Bool) → nat_le s.stamp m ≡ b → database_from s.database ss m
        ≡ database_from s.database ts m
    step true h =
        sym (after_first d s ss m (low h)) ∙ e m
        ∙ after_first d t ts m (subst (λ (x : State). x.stamp ≤ m) q (low h))
        ∙ ap (λ (x : State). database_from x.database ts m) (sym q)
    step false h = before_all s.database ss s.stamp m r (high h)
        ∙ sym (before_all s.database ts s.stamp m k (high h))

tail_agrees : (versions : List PlainVersion) (d : Database) (s t : State) (ss ts : List State)
    → s ≡ t → Rise s.stamp ss → Rise t.stamp ts
    → EachDiffers versions s.database ss → EachDiffers versions t.database ts
    → ((m : ℕ) → s.stamp < m → Begins m versions → Starts m (s ∷ ss) × Starts m (t ∷ ts))
    → ((m : ℕ) → database_from d (s ∷ ss) m ≡ database_from d (t ∷ ts) m)
    → Agree versions s.stamp s.database ss ts
tail_agrees versions d s t ss ts q rs rt ds dt f e =
    let other : Rise s.stamp ts = subst (λ (x : State). Rise x.stamp ts) (sym q) rt in
    record {
      rise = (rs, other);
      differ = (ds, subst (λ (x : State). EachDiffers versions x.database ts) (sym q) dt);
      starts = λ m l b. (let h = f m l b in (
        starts_after s ss m l h.0,
        starts_after t ts m (subst (λ (x : State). x.stamp < m) q l) h.1,
      ));
      same = tail_same d s t ss ts q rs other e;
    }

same_tail : (versions : List PlainVersion) (low : ℕ) (d : Database) (ss ts : List State)
    → Agree versions low d ss ts → ss ≡ ts
same_tail versions low d [] [] a = refl
same_tail versions low d (s ∷ ss) [] a = absurd
    (only_here versions d s ss [] a.rise.0.1 tt a.differ.0.0
    (λ b. (a.starts s.stamp a.rise.0.0 b).1) (a.same s.stamp))
same_tail versions low d [] (t ∷ ts) a = absurd
    (only_here versions d t ts [] a.rise.1.1 tt a.differ.1.0
    (λ b. (a.starts t.stamp a.rise.1.0 b).0) (sym (a.same t.stamp)))
same_tail versions low d (s ∷ ss) (t ∷ ts) a =
    let q : s ≡ t = first_same versions low d s t ss ts a in
    let above = a.rise.0.0 in
    let next : Agree versions s.stamp s.database ss ts
    = tail_agrees versions d s t ss ts q a.rise.0.1 a.rise.1.1 a.differ.0.1 a.differ.1.1
    (λ m l b. a.starts m (omega arith) b) a.same in
    ap (λ (x : State). x ∷ ss) q ∙ ap (λ (rest : List State). t ∷ rest)
    (same_tail versions s.stamp s.database ss ts next)

pub same_states : (versions : List PlainVersion) (ss ts : List State) → AreStates ss → AreStates ts
    → AreDistinct versions ss → AreDistinct versions ts
    → EachStarts ss versions → EachStarts ts versions
    → ((m : ℕ) → database_from no_database ss m ≡ database_from no_database ts m) → ss ≡ ts
same_states versions [] ts a b x y z w e = absurd a
same_states versions (s ∷ ss) [] a b x y z w e = absurd b
same_states versions (s ∷ ss) (t ∷ ts) a b x y z w e =
    let rs : Rise s.stamp ss = subst (λ n. Rise n ss) (sym a.0) a.1 in
    let rt : Rise t.stamp ts = subst (λ n. Rise n ts) (sym b.0) b.1 in
    let q : s ≡ t = heads_same no_database s t ss ts rs rt (a.0 ∙ sym b.0) e in
    let next : Agree versions s.stamp s.database ss ts
    = tail_agrees versions no_database s t ss ts q rs rt x y
    (λ m l h. (begun_starts (s ∷ ss) versions m z h, begun_starts (t ∷ ts) versions m w h)) e in
    ap (λ (r : State). r ∷ ss) q ∙ ap (λ (rest : List State). t ∷ rest)
    (same_tail versions s.stamp s.database ss ts next)
