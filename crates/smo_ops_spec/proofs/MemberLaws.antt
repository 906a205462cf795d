-- Operators one after the other: where none is refused each is accepted, and what an operator keeps
-- they keep.
use Rattle.std.proofs.Common.{◌≡◌, ◌+◌, ℕ, Bool, true, false, List, [], ◌∷◌, ◌++◌, refl, ap, ◌∙◌, arith}
use Rattle.std.specs.Prelude.{◌||◌, is_some, Option, Some, None}
use Rattle.std.specs.FinMap.{get}
use Rattle.std.specs.Option.{option_map, option_or}
use Rattle.prima_base.specs.declared.refusal.OpRefusal.{OpRefusal}
use Rattle.schema_catalog.specs.Tables.{Tables}
use Rattle.schema_catalog.specs.Databases.{Database, IsDatabase}
use Rattle.smo_ops_types.specs.Operators.{Operator}
use Rattle.smo_ops_spec.specs.After.{op_fault, schema_after, migrate, IsValid}
use Rattle.smo_ops_spec.specs.Touching.{makes, consumes}
use Rattle.smo_ops_spec.specs.Evolutions.{one_makes, one_consumes}
use Rattle.smo_ops_spec.specs.Evolutions.{schema_after_each, carried_each, AllOperatorsAccepted}
use Rattle.smo_ops_spec.specs.Evolutions.{operator_nodes, members_nodes, counted_from}
use Rattle.smo_ops_spec.specs.Evolutions.{members_fault}
use Rattle.smo_ops_spec.specs.Evolutions.{evolution_fault}
use Rattle.smo_ops_spec.proofs.Firsts.{none_mapped}
use Rattle.smo_ops_spec.proofs.NextSchemas.{next_is_valid}
use Rattle.smo_ops_spec.proofs.MigratedDatabases.{migrated_database}
use Rattle.smo_ops_spec.proofs.TouchedTables.{neither, table_stays, entry_stays, table_gone}
use Rattle.smo_ops_spec.proofs.TouchedTables.{made_is_free}

none_of_or : {X : Type 0} (a b : Option X) → option_or a b ≡ None → (a ≡ None) × (b ≡ None)
none_of_or None b e = (refl, e)
none_of_or (Some x) b e = absurd (cc)

members_accepted : (now : Tables) (at : ℕ) (ops : List Operator) → members_fault now at ops ≡ None
    → AllOperatorsAccepted now ops
members_accepted now at [] e = tt
members_accepted now at (op ∷ ops) e =
    let h = none_of_or (option_map (counted_from at) (op_fault now op))
    (members_fault (schema_after now op) (at + operator_nodes op) ops) e in (
      none_mapped (counted_from at) (op_fault now op) h.0,
      members_accepted (schema_after now op) (at + operator_nodes op) ops h.1,
    )

pub all_accepted : (now : Tables) (ops : List Operator) → evolution_fault now ops ≡ None
    → AllOperatorsAccepted now ops
all_accepted now ops e = members_accepted now 0 ops e

none_refused : (now : Tables) (at : ℕ) (ops : List Operator) → AllOperatorsAccepted now ops
    → members_fault now at ops ≡ None
none_refused now at [] a = refl
none_refused now at (op ∷ ops) a =
    ap (λ (o : Option OpRefusal). option_or (option_map (counted_from at) o)
    (members_fault (schema_after now op) (at + operator_nodes op) ops)) a.0
    ∙ none_refused (schema_after now op) (at + operator_nodes op) ops a.1

pub accepted_all : (now : Tables) (ops : List Operator) → AllOperatorsAccepted now ops
    → evolution_fault now ops ≡ None
accepted_all now ops a = none_refused now 0 ops a

-- the first that is refused, behind others that are not
refused_from : (now : Tables) (at : ℕ) (earlier : List Operator) (op : Operator)
    (later : List Operator) (refusal : OpRefusal) → AllOperatorsAccepted now earlier
    → op_fault (schema_after_each now earlier) op ≡ Some refusal
    → members_fault now at (earlier ++ op ∷ later)
    ≡ Some (counted_from (at + members_nodes earlier) refusal)
refused_from now at [] op later refusal a e =
    ap (λ (o : Option OpRefusal). option_or (option_map (counted_from at) o)
    (members_fault (schema_after now op) (at + operator_nodes op) later)) e
    ∙ ap (λ (k : ℕ). Some (counted_from k refusal)) (omega arith)
refused_from now at (x ∷ earlier) op later refusal a e =
    ap (λ (o : Option OpRefusal). option_or (option_map (counted_from at) o)
    (members_fault (schema_after now x) (at + operator_nodes x) (earlier ++ op ∷ later))) a.0
    ∙ refused_from (schema_after now x) (at + operator_nodes x) earlier op later refusal a.1 e
    ∙ ap (λ (k : ℕ). Some (counted_from k refusal)) (omega arith)

pub refused_first : (now : Tables) (earlier : List Operator) (op : Operator)
    (later : List Operator) (refusal : OpRefusal) → AllOperatorsAccepted now earlier
    → op_fault (schema_after_each now earlier) op ≡ Some refusal
    → evolution_fault now (earlier ++ op ∷ later)
    ≡ Some (counted_from (members_nodes earlier) refusal)
refused_first now earlier op later refusal a e =
    let all : 0 + members_nodes earlier ≡ members_nodes earlier = omega arith in
    refused_from now 0 earlier op later refusal a e
    ∙ ap (λ (k : ℕ). Some (counted_from k refusal)) all

pub each_is_valid : (now : Tables) (ops : List Operator) → IsValid now
    → AllOperatorsAccepted now ops → IsValid (schema_after_each now ops)
each_is_valid now [] good a = good
each_is_valid now (op ∷ ops) good a = each_is_valid (schema_after now op) ops
    (next_is_valid now op good a.0) a.1

pub each_database : (now : Tables) (ops : List Operator) (db : Database) → IsValid now
    → AllOperatorsAccepted now ops → IsDatabase now db
    → IsDatabase (schema_after_each now ops) (carried_each now ops db)
each_database now [] db good a h = h
each_database now (op ∷ ops) db good a h = each_database (schema_after now op) ops
    (migrate now op db) (next_is_valid now op good a.0) a.1
    (migrated_database now op db good.schema a.0 h)

-- ---- operators, and then others

pub schema_after_both : (now : Tables) (a b : List Operator)
    → schema_after_each now (a ++ b) ≡ schema_after_each (schema_after_each now a) b
schema_after_both now [] b = refl
schema_after_both now (op ∷ a) b = schema_after_both (schema_after now op) a b

pub accepted_both : (now : Tables) (a b : List Operator) → AllOperatorsAccepted now a
    → AllOperatorsAccepted (schema_after_each now a) b → AllOperatorsAccepted now (a ++ b)
accepted_both now [] b h k = k
accepted_both now (op ∷ a) b h k = (h.0, accepted_both (schema_after now op) a b h.1 k)

-- ---- the tables that members make and consume

-- what none of them makes and none consumes stays
pub each_table_stays : (now : Tables) (ops : List Operator) (n : List ℕ)
    → one_makes now ops n ≡ false → one_consumes now ops n ≡ false
    → get (schema_after_each now ops) n ≡ get now n
each_table_stays now [] n m c = refl
each_table_stays now (op ∷ ops) n m c =
    let p = neither (makes now op n) (one_makes (schema_after now op) ops n) m in
    let q = neither (consumes now op n) (one_consumes (schema_after now op) ops n) c in
    each_table_stays (schema_after now op) ops n p.1 q.1 ∙ table_stays now op n p.0 q.0

pub each_entry_stays : (now : Tables) (ops : List Operator) (n : List ℕ) (db : Database)
    → one_makes now ops n ≡ false → one_consumes now ops n ≡ false
    → get (carried_each now ops db) n ≡ get db n
each_entry_stays now [] n db m c = refl
each_entry_stays now (op ∷ ops) n db m c =
    let p = neither (makes now op n) (one_makes (schema_after now op) ops n) m in
    let q = neither (consumes now op n) (one_consumes (schema_after now op) ops n) c in
    each_entry_stays (schema_after now op) ops n (migrate now op db) p.1 q.1
    ∙ entry_stays now op n p.0 db q.0

-- what none of them makes, and is not there, does not come
not_there : (now : Tables) (ops : List Operator) (n : List ℕ) → one_makes now ops n ≡ false
    → get now n ≡ None → get (schema_after_each now ops) n ≡ None
not_there now [] n m e = e
not_there now (op ∷ ops) n m e =
    let p = neither (makes now op n) (one_makes (schema_after now op) ops n) m in
    not_there (schema_after now op) ops n p.1 (step (consumes now op n) refl p.0)
  where
    step : (b : Bool) → consumes now op n ≡ b → makes now op n ≡ false
        → get (schema_after now op) n ≡ None
    step true q p = table_gone now op n p q
    step false q p = table_stays now op n p q ∙ e

-- and what one of them consumes is gone
pub each_table_gone : (now : Tables) (ops : List Operator) (n : List ℕ)
    → one_makes now ops n ≡ false → one_consumes now ops n ≡ true
    → get (schema_after_each now ops) n ≡ None
each_table_gone now [] n m c = absurd (cc)
each_table_gone now (op ∷ ops) n m c =
    let p = neither (makes now op n) (one_makes (schema_after now op) ops n) m in
    step (each_table_gone (schema_after now op) ops n p.1) p.0 p.1 (consumes now op n) refl c
  where
    step : (one_consumes (schema_after now op) ops n ≡ true
        → get (schema_after_each (schema_after now op) ops) n ≡ None) → makes now op n ≡ false
        → one_makes (schema_after now op) ops n ≡ false → (b : Bool) → consumes now op n ≡ b
        → (b || one_consumes (schema_after now op) ops n) ≡ true
        → get (schema_after_each (schema_after now op) ops) n ≡ None
    step more p r true q h = not_there (schema_after now op) ops n r (table_gone now op n p q)
    step more p r false q h = more h

-- what one of them makes is free, or one of them consumes it
pub each_made_is_free : (now : Tables) (ops : List Operator) (n : List ℕ)
    → AllOperatorsAccepted now ops → one_makes now ops n ≡ true → is_some (get now n) ≡ true
    → one_consumes now ops n ≡ true
each_made_is_free now [] n a m t = absurd (cc)
each_made_is_free now (op ∷ ops) n a m t =
    step (each_made_is_free (schema_after now op) ops n a.1) (makes now op n) refl
    (consumes now op n) refl m
  where
    step : (one_makes (schema_after now op) ops n ≡ true
        → is_some (get (schema_after now op) n) ≡ true
        → one_consumes (schema_after now op) ops n ≡ true) → (x : Bool) → makes now op n ≡ x
        → (y : Bool) → consumes now op n ≡ y
        → (x || one_makes (schema_after now op) ops n) ≡ true
        → (y || one_consumes (schema_after now op) ops n) ≡ true
    step more x p true q h = refl
    step more true p false q h = absurd (let f = made_is_free now op n a.0 p t in cc)
    step more false p false q h = more h (ap is_some (table_stays now op n p q) ∙ t)
