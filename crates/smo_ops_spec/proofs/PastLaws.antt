-- The past with one command more: at each earlier moment as before, and from the stamp on the new
-- database.
use Rattle.std.proofs.Common.{◌≡◌, ◌≤◌, ◌<◌, ℕ, Bool, true, false, List, [], ◌∷◌, ◌++◌, refl, sym}
use Rattle.std.proofs.Common.{ap, ◌∙◌, arith}
use Rattle.std.specs.Prelude.{nat_lt, nat_le, cond, if◌then◌else◌}
use Rattle.schema_catalog.specs.Tables.{Tables}
use Rattle.schema_catalog.specs.Databases.{Database}
use Rattle.smo_ops_types.specs.Commands.{PlainVersion}
use Rattle.smo_ops_spec.specs.Past.{State, a_state, newest_from, database_from, latest_from}
use Rattle.smo_ops_spec.specs.Past.{from_stamp}
use Rattle.smo_ops_spec.specs.ValidPast.{Rise, AreStates, AllUpTo, AllInForce}

pub not_at : (m n : ℕ) → m < n → nat_le n m ≡ false
not_at m n l = grind (arith, l)

pub at_least : (m n : ℕ) → m ≤ n → nat_le m n ≡ true
at_least m n l = grind (arith, l)

is_before : (m n : ℕ) → nat_lt m n ≡ true → m < n
is_before m n e = grind (arith, e)

is_after : (m n : ℕ) → nat_lt m n ≡ false → n ≤ m
is_after m n e = grind (arith, e)

-- earlier moments
pub earlier_states : (stamp : ℕ) (new before : Database) (states : List State) (m : ℕ) → m < stamp
    → database_from before (from_stamp stamp new states) m ≡ database_from before states m
earlier_states stamp new before [] m l = ap (λ b. cond b (database_from new [] m) before)
    (not_at m stamp l)
earlier_states stamp new before (s ∷ states) m l =
    step (nat_lt s.stamp stamp) refl (earlier_states stamp new s.database states m l)
  where
    step : (b : Bool) → nat_lt s.stamp stamp ≡ b
        → database_from s.database (from_stamp stamp new states) m
        ≡ database_from s.database states m
        → database_from before (if b then s ∷ from_stamp stamp new states
        else a_state stamp new ∷ []) m ≡ database_from before (s ∷ states) m
    step true e more = ap (λ d. if nat_le s.stamp m then d else before) more
    step false e more =
        let later : m < s.stamp = (let h = is_after s.stamp stamp e in omega arith) in
        ap (λ b. if b then database_from new [] m else before) (not_at m stamp l)
        ∙ sym (ap (λ b. if b then database_from s.database states m else before)
        (not_at m s.stamp later))

-- moments from the stamp on
pub later_states : (stamp : ℕ) (new before : Database) (states : List State) (m : ℕ) → stamp ≤ m
    → database_from before (from_stamp stamp new states) m ≡ new
later_states stamp new before [] m l = ap (λ b. if b then new else before) (at_least stamp m l)
later_states stamp new before (s ∷ states) m l =
    step (nat_lt s.stamp stamp) refl (later_states stamp new s.database states m l)
  where
    step : (b : Bool) → nat_lt s.stamp stamp ≡ b
        → database_from s.database (from_stamp stamp new states) m ≡ new
        → database_from before (if b then s ∷ from_stamp stamp new states
        else a_state stamp new ∷ []) m ≡ new
    step true e more =
        let now : s.stamp ≤ m = (let h = is_before s.stamp stamp e in omega arith) in
        ap (λ b. if b then database_from s.database (from_stamp stamp new states) m else before)
        (at_least s.stamp m now) ∙ more
    step false e more = ap (λ b. if b then new else before) (at_least stamp m l)

-- after all states the newest one holds
pub newest_holds : (before : Database) (states : List State) (m : ℕ) → AllUpTo m states
    → database_from before states m ≡ latest_from before states
newest_holds before [] m h = refl
newest_holds before (s ∷ states) m h =
    ap (λ b. if b then database_from s.database states m else before) (at_least s.stamp m h.0)
    ∙ newest_holds s.database states m h.1

pub latest_is : (stamp : ℕ) (new before : Database) (states : List State)
    → latest_from before (from_stamp stamp new states) ≡ new
latest_is stamp new before [] = refl
latest_is stamp new before (s ∷ states) =
    elim (nat_lt s.stamp stamp) as (λ b. latest_from before
    (if b then s ∷ from_stamp stamp new states else a_state stamp new ∷ []) ≡ new) [
      | true ↦ latest_is stamp new s.database states
      | false ↦ refl
    ]

-- the states stay in order
pub rises : (low stamp : ℕ) (new : Database) (states : List State) → Rise low states → low < stamp
    → Rise low (from_stamp stamp new states)
rises low stamp new [] r l = (l, tt)
rises low stamp new (s ∷ states) r l = step (nat_lt s.stamp stamp) refl
    (rises s.stamp stamp new states r.1)
  where
    step : (b : Bool) → nat_lt s.stamp stamp ≡ b
        → (s.stamp < stamp → Rise s.stamp (from_stamp stamp new states))
        → Rise low (if b then s ∷ from_stamp stamp new states else a_state stamp new ∷ [])
    step true e more = (r.0, more (is_before s.stamp stamp e))
    step false e more = (l, tt)

pub still_states : (stamp : ℕ) (new : Database) (states : List State) → AreStates states
    → AreStates (from_stamp stamp new states)
still_states stamp new [] a = absurd a
still_states stamp new (s ∷ states) a = step (nat_lt s.stamp stamp) refl
  where
    step : (b : Bool) → nat_lt s.stamp stamp ≡ b
        → AreStates (if b then s ∷ from_stamp stamp new states else a_state stamp new ∷ [])
    step true e = (
      a.0,
      rises 0 stamp new states a.1
          (let h = is_before s.stamp stamp e in omega arith),
    )
    step false e = (let h = is_after s.stamp stamp e in let z = a.0 in (omega arith, tt))

pub ends_at : (stamp : ℕ) (new : Database) (states : List State)
    → AllUpTo stamp (from_stamp stamp new states)
ends_at stamp new [] = (omega arith, tt)
ends_at stamp new (s ∷ states) = step (nat_lt s.stamp stamp) refl (ends_at stamp new states)
  where
    step : (b : Bool) → nat_lt s.stamp stamp ≡ b → AllUpTo stamp (from_stamp stamp new states)
        → AllUpTo stamp (if b then s ∷ from_stamp stamp new states else a_state stamp new ∷ [])
    step true e more = (let h = is_before s.stamp stamp e in omega arith, more)
    step false e more = (omega arith, tt)

pub up_to_later : (m n : ℕ) (states : List State) → m ≤ n → AllUpTo m states → AllUpTo n states
up_to_later m n [] l h = tt
up_to_later m n (s ∷ states) l h = (let k = h.0 in omega arith, up_to_later m n states l h.1)

pub newest_added : (before : Tables) (versions : List PlainVersion) (v : PlainVersion)
    → newest_from before (versions ++ v ∷ []) ≡ v.tables
newest_added before [] v = refl
newest_added before (w ∷ versions) v = newest_added w.tables versions v

pub in_force_later : (m n : ℕ) (versions : List PlainVersion) → m ≤ n → AllInForce m versions
    → AllInForce n versions
in_force_later m n [] l h = tt
in_force_later m n (v ∷ versions) l h = (
  let k = h.0 in omega arith,
  in_force_later m n versions l h.1,
)

pub in_force_added : (m : ℕ) (versions : List PlainVersion) (v : PlainVersion)
    → AllInForce m versions → v.stamp ≤ m → AllInForce m (versions ++ v ∷ [])
in_force_added m [] v h l = (l, tt)
in_force_added m (w ∷ versions) v h l = (h.0, in_force_added m versions v h.1 l)
