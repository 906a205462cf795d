-- The tests of an operator one after the other: all are met, or one is the first that is not.
use Rattle.std.proofs.Common.{◌≡◌, ℕ, zero, suc, List, [], ◌∷◌, ◌++◌, refl, ap, ◌∙◌, Bool, true}
use Rattle.std.proofs.Common.{false}
use Rattle.std.specs.Prelude.{if◌then◌else◌, Option, Some, None, Ok, Err, ◌||◌, not}
use Rattle.std.specs.FinMap.{insert, contains_key}
use Rattle.prima_base.specs.declared.refusal.OpRefusal.{OpRefusal}
use Rattle.prima_base.specs.declared.refusal.OpRefusal.TheVariants.{Exists}
use Rattle.prima_base.specs.Columns.{Column}
use Rattle.schema_catalog.specs.Tables.{Tables}
use Rattle.prima_base.specs.declared.fault.CallFault.{CallFault}
use Rattle.prima_base.specs.declared.fault.CallFault.TheVariants.{Refused, NoMemory}
use Rattle.smo_ops_types.specs.Operators.{Operator}
use Rattle.smo_ops_spec.specs.First.{unless, first_refusal}
use Rattle.smo_ops_spec.specs.OneRow.{same}
use Rattle.smo_ops_spec.specs.Preconditions.{is_free}
use Rattle.smo_ops_spec.specs.OperatorTable.{line}
use Rattle.prima_base.specs.Faults.{IsTested}
use Rattle.smo_ops_spec.specs.After.{IsAfter, op_fault, schema_after}
use Rattle.smo_ops_spec.proofs.Firsts.{first_at, first_later, first_before, first_after}
use Rattle.smo_ops_spec.proofs.StepLaws.{AllMet, all_met}

-- the one of this number, from 0, answers a fault, and those before it are met
abbrev pub Stops : List (Option OpRefusal) → ℕ → (CallFault OpRefusal) → Type 0
Stops [] i e = ⊥
Stops (p ∷ ps) zero e = IsTested {A = Unit {0}} p (Err e)
Stops (p ∷ ps) (suc i) e = (p ≡ None) × Stops ps i e

pub stops_at : (ps : List (Option OpRefusal)) (i : ℕ) (r : OpRefusal) → Stops ps i (Refused r)
    → first_refusal ps ≡ Some r
stops_at [] i r h = absurd h
stops_at (p ∷ ps) zero r h = first_at p ps r h
stops_at (p ∷ ps) (suc i) r h = first_later p ps h.0 ∙ stops_at ps i r h.1

pub stopped : (tables : Tables) (op : Operator) (i : ℕ) (e : CallFault OpRefusal)
    → Stops (line tables op).preconditions i e → IsAfter tables op (Err e)
stopped tables op i (Refused r) h = stops_at (line tables op).preconditions i r h
stopped tables op i NoMemory h = tt

pub goes_on : (tables : Tables) (op : Operator) (next : Tables)
    → AllMet (line tables op).preconditions → next ≡ schema_after tables op
    → IsAfter tables op (Ok next)
goes_on tables op next h e = (all_met (line tables op).preconditions h, e)

-- tests in groups: one group answers a fault, and those before it are met
pub group_stops : (before group schema_after : List (Option OpRefusal)) (e : CallFault OpRefusal)
    → first_refusal before ≡ None → IsTested {A = Unit {0}} (first_refusal group) (Err e)
    → IsTested {A = Unit {0}} (first_refusal (before ++ (group ++ schema_after))) (Err e)
group_stops before group schema_after (Refused r) h t = first_after before (group ++ schema_after) h
    ∙ first_before group schema_after r t
group_stops before group schema_after NoMemory h t = tt

pub groups_met : (a b : List (Option OpRefusal)) → first_refusal a ≡ None → first_refusal b ≡ None
    → first_refusal (a ++ b) ≡ None
groups_met a b f g = first_after a b f ∙ g

-- the operator's fault is that of its tests
pub refused_so : (tables : Tables) (op : Operator) (e : CallFault OpRefusal)
    → IsTested {A = Unit {0}} (op_fault tables op) (Err e) → IsAfter tables op (Err e)
refused_so tables op (Refused r) t = t
refused_so tables op NoMemory t = tt

-- a table put, where the others are these
pub put_like : (tables rest next : Tables) (name : List ℕ) (columns given : List Column)
    → rest ≡ tables → next ≡ insert rest name given → given ≡ columns
    → next ≡ insert tables name columns
put_like tables rest next name columns given a e g =
    e ∙ ap (λ (cs : List Column). insert rest name cs) g
    ∙ ap (λ (ts : Tables). insert ts name columns) a

-- a name is free, where the operator consumes the table of one name
pub free_one : (tables : Tables) (t r : List ℕ) (consumed : Bool) → consumed ≡ same t r
    → (if consumed then None else is_free tables [] t) ≡ is_free tables (r ∷ []) t
free_one tables t r consumed e =
    either (contains_key tables t) consumed ∙ ap
    (λ b. unless (not (contains_key tables t) || b) (Exists t)) (e ∙ alone (same t r))
  where
    either : (c b : Bool) → (if b then None else unless (not c || false) (Exists t))
        ≡ unless (not c || b) (Exists t)
    either true true = refl
    either true false = refl
    either false true = refl
    either false false = refl

    alone : (b : Bool) → b ≡ (b || false)
    alone true = refl
    alone false = refl
