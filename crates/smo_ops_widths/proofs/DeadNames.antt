-- Dead tables before an operator, kind by kind.
use Rattle.std.proofs.Common.{◌≡◌, ℕ, Bool, true, false, List, [], ◌∷◌, refl, ap, sym, ◌∙◌}
use Rattle.std.specs.Prelude.{cond, ◌||◌}
use Rattle.prima_base.specs.OrderLaws.{same_is}
use Rattle.schema_catalog.specs.Tables.{Tables}
use Rattle.smo_ops_types.specs.Operators.{Operator, drop_table}
use Rattle.smo_ops_spec.specs.OneRow.{same}
use Rattle.smo_ops_spec.specs.Preconditions.{among}
use Rattle.smo_ops_spec.specs.Touching.{makes, made_of}
use Rattle.smo_ops_spec.proofs.NameLaws.{same_turned}
use Rattle.smo_ops_spec.proofs.TouchedTables.{neither}
use Rattle.smo_ops_widths.specs.Dead.{AreDeadBefore}

-- the one name of a list
only : (n r : List ℕ) → among n (r ∷ []) ≡ true → n ≡ r
only n r t = step (same n r) refl t
  where
    step : (b : Bool) → same n r ≡ b → (b || false) ≡ true → n ≡ r
    step true e u = same_is n r e
    step false e u = absurd (cc)

-- one that is dropped is dead
pub dead_dropped : (r : List ℕ) (after before : List ℕ → Bool)
    → ((n : List ℕ) → before n ≡ cond (same r n) true (after n))
    → AreDeadBefore (drop_table r) after before
dead_dropped r after before h = record {
  untouched = λ tables n p q a. h n
      ∙ ap (λ (b : Bool). cond b true (after n)) (same_turned r n ∙ (neither (same n r) false q).0)
      ∙ a;
  read = λ tables m n p a t. absurd (cc);
}

-- where nothing is made of a table, the same are dead
pub dead_alike : (op : Operator) (dead : List ℕ → Bool) → made_of op ≡ []
    → AreDeadBefore op dead dead
dead_alike op dead e = record {
  untouched = λ tables n p q a. a;
  read = λ tables m n p a t. absurd (none n (sym (ap (among n) e) ∙ t));
}
  where
    none : (n : List ℕ) → among n [] ≡ true → ⊥
    none n t = cc

-- and where one is made of itself
pub dead_altered : (op : Operator) (r : List ℕ) (dead : List ℕ → Bool) → made_of op ≡ r ∷ []
    → ((tables : Tables) (n : List ℕ) → makes tables op n ≡ among n (r ∷ []))
    → AreDeadBefore op dead dead
dead_altered op r dead e made = record {
  untouched = λ tables n p q a. a;
  read = λ tables m n p a t.
      ap dead (only n r (sym (ap (among n) e) ∙ t) ∙ sym (only m r (sym (made tables m) ∙ p))) ∙ a;
}

-- one is not where another is made of it
gone : (r : List ℕ) (after before : List ℕ → Bool)
    → ((n : List ℕ) → before n ≡ cond (same r n) false (after n)) → (n : List ℕ)
    → after n ≡ false → before n ≡ false
gone r after before h n a = h n ∙ ap (λ (b : Bool). cond (same r n) false b) a
    ∙ step (same r n)
  where
    step : (b : Bool) → cond b false false ≡ false
    step true = refl
    step false = refl

lives : (r : List ℕ) (after before : List ℕ → Bool)
    → ((n : List ℕ) → before n ≡ cond (same r n) false (after n)) → (n : List ℕ)
    → same n r ≡ true → before n ≡ false
lives r after before h n t = h n
    ∙ ap (λ (b : Bool). cond b false (after n)) (same_turned r n ∙ t)

pub dead_without : (op : Operator) (r : List ℕ) (after before : List ℕ → Bool)
    → made_of op ≡ r ∷ [] → ((n : List ℕ) → before n ≡ cond (same r n) false (after n))
    → AreDeadBefore op after before
dead_without op r after before e h = record {
  untouched = λ tables n p q a. gone r after before h n a;
  read = λ tables m n p a t. step n (same n r) refl (sym (ap (among n) e) ∙ t);
}
  where
    step : (n : List ℕ) (b : Bool) → same n r ≡ b → (b || false) ≡ true → before n ≡ false
    step n true f u = lives r after before h n f
    step n false f u = absurd (cc)

pub dead_without_both : (op : Operator) (r s : List ℕ) (after middle before : List ℕ → Bool)
    → made_of op ≡ r ∷ s ∷ [] → ((n : List ℕ) → middle n ≡ cond (same r n) false (after n))
    → ((n : List ℕ) → before n ≡ cond (same s n) false (middle n))
    → AreDeadBefore op after before
dead_without_both op r s after middle before e h k = record {
  untouched = λ tables n p q a. gone s middle before k n (gone r after middle h n a);
  read = λ tables m n p a t. step n (same n r) refl (same n s) refl (sym (ap (among n) e) ∙ t);
}
  where
    step : (n : List ℕ) (b : Bool) → same n r ≡ b → (c : Bool) → same n s ≡ c
        → (b || (c || false)) ≡ true → before n ≡ false
    step n b f true g u = lives s middle before k n g
    step n true f false g u = gone s middle before k n (lives r after middle h n f)
    step n false f false g u = absurd (cc)
