-- What is taken over steps, whatever it is.
use Rattle.std.proofs.Common.{◌≡◌, List, [], ◌∷◌, ◌++◌, refl, sym, ap, subst}
use Rattle.schema_catalog.specs.Tables.{Tables}
use Rattle.smo_ops_versions_spec.specs.Steps.{Step, tables_before, tables_behind, taken, taken_back}
use Rattle.smo_ops_versions_spec.specs.Steps.{IsLawful}
use Rattle.smo_ops_versions_spec.specs.Steps.{Lead, AllSteps}

-- over steps, and then over others
pub taken_both : {X : Type 0} (by : Step → X → X) (a b : List Step) (x : X)
    → taken by (a ++ b) x ≡ taken by b (taken by a x)
taken_both by [] b x = refl
taken_both by (s ∷ a) b x = taken_both by a b (by s x)

pub taken_back_both : {X : Type 0} (by : Step → X → X) (a b : List Step) (x : X)
    → taken_back by (a ++ b) x ≡ taken_back by a (taken_back by b x)
taken_back_both by [] b x = refl
taken_back_both by (s ∷ a) b x = ap (by s) (taken_back_both by a b x)

-- what is so on both sides of each step is so on both sides of all
pub taken_so : {X Y : Type 0} (R : X → Y → Type 0) (a : Step → X → X) (b : Step → Y → Y)
    → ((s : Step) (x : X) (y : Y) → R x y → R (a s x) (b s y))
    → (steps : List Step) (x : X) (y : Y) → R x y → R (taken a steps x) (taken b steps y)
taken_so R a b each [] x y h = h
taken_so R a b each (s ∷ steps) x y h = taken_so R a b each steps (a s x) (b s y) (each s x y h)

-- what a step keeps, where something holds of it, steps keep
pub taken_kept : {X : Type 0} (P : X → Type 0) (Q : Step → Type 0) (by : Step → X → X)
    → ((s : Step) (x : X) → Q s → P x → P (by s x))
    → (steps : List Step) (x : X) → AllSteps Q steps → P x → P (taken by steps x)
taken_kept P Q by each [] x q h = h
taken_kept P Q by each (s ∷ steps) x q h = taken_kept P Q by each steps (by s x) q.1
    (each s x q.0 h)

-- what is so of the tables on both sides of a lawful step is so where lawful steps lead
pub led : {X : Type 0} (P : Tables → X → Type 0) (by : Step → X → X)
    → ((s : Step) (x : X) → IsLawful s → P (tables_before s) x → P (tables_behind s) (by s x))
    → (before after : Tables) (steps : List Step) (x : X) → Lead before steps after → P before x
    → P after (taken by steps x)
led P by each before after [] x l h = subst (λ t. P t x) l h
led P by each before after (s ∷ steps) x l h =
    led P by each (tables_behind s) after steps (by s x) l.2
    (each s x l.0 (subst (λ t. P t x) l.1 h))

-- ---- steps, and then others

pub lead_both : (before between after : Tables) (a b : List Step) → Lead before a between
    → Lead between b after → Lead before (a ++ b) after
lead_both before between after [] b l r = subst (λ t. Lead t b after) (sym l) r
lead_both before between after (s ∷ a) b l r =
    (l.0, l.1, lead_both (tables_behind s) between after a b l.2 r)

pub all_both : (P : Step → Type 0) (a b : List Step) → AllSteps P a → AllSteps P b
    → AllSteps P (a ++ b)
all_both P [] b l r = r
all_both P (s ∷ a) b l r = (l.0, all_both P a b l.1 r)
