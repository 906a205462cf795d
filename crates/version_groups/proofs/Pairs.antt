-- Stored tables of the same names, one by one.
use Rattle.std.proofs.Common.{◌≡◌, ◌<◌, ℕ, suc, Bool, true, false, cond, List, [], ◌∷◌, length}
use Rattle.std.proofs.Common.{get_or, refl, ap, ◌∙◌, arith, inl, inr}
use Rattle.std.specs.Prelude.{Some, None, ◌⊎◌}
use Rattle.prima_base.specs.OrderLaws.{same_is}
use Rattle.smo_ops_spec.specs.OneRow.{same}
use Rattle.version_groups_tables.specs.declared.made_table.MadeTable.{MadeTable}
use Rattle.version_groups_tables.specs.Stored.{stored_as}

-- what is stored under the name before and after
pub record Found (R : MadeTable → MadeTable → Type 0) (name : List ℕ) (old new : List MadeTable) :
    Type 0 where
  pub before : MadeTable
  pub after : MadeTable
  pub related : R before after
  pub named : before.name ≡ name
  pub was : stored_as name old ≡ Some before.store
  pub now : stored_as name new ≡ Some after.store

abbrev pub Paired : (MadeTable → MadeTable → Type 0) → List ℕ → List MadeTable → List MadeTable
    → Type 0
Paired R name old new = ((stored_as name old ≡ None) × (stored_as name new ≡ None))
    ⊎ Found R name old new

abbrev pub AreRelated : (MadeTable → MadeTable → Type 0) → List MadeTable → List MadeTable → Type 0
AreRelated R old new = (k : ℕ) (d : MadeTable) → k < length old
    → R (get_or old k d) (get_or new k d)

module _ (R : MadeTable → MadeTable → Type 0) (keeps : (t u : MadeTable) → R t u → u.name ≡ t.name)
    (name : List ℕ) where
  after_others : (t u : MadeTable) (old new : List MadeTable) → R t u → same t.name name ≡ false
      → Paired R name old new → Paired R name (t ∷ old) (u ∷ new)
  after_others t u old new r e (inl none) =
      inl (
        ap (λ b. cond b (Some t.store) (stored_as name old)) e ∙ none.0,
        ap (λ n. cond (same n name) (Some u.store) (stored_as name new)) (keeps t u r)
            ∙ ap (λ b. cond b (Some u.store) (stored_as name new)) e ∙ none.1,
      )
  after_others t u old new r e (inr f) = inr (record {
    before = f.before;
    after = f.after;
    related = f.related;
    named = f.named;
    was = ap (λ b. cond b (Some t.store) (stored_as name old)) e ∙ f.was;
    now = ap (λ n. cond (same n name) (Some u.store) (stored_as name new)) (keeps t u r)
        ∙ ap (λ b. cond b (Some u.store) (stored_as name new)) e ∙ f.now;
  })

  pub paired : (old new : List MadeTable) → length new ≡ length old → AreRelated R old new
      → Paired R name old new
  paired [] [] e h = inl (refl, refl)
  paired [] (u ∷ new) e h = absurd (omega (arith, e))
  paired (t ∷ old) [] e h = absurd (omega (arith, e))
  paired (t ∷ old) (u ∷ new) e h = step (paired old new (omega (arith, e))
      (λ k d l. h (suc k) d (omega (arith, l)))) (same t.name name) refl
    where
      head : R t u
      head = h 0 t (omega arith)

      step : Paired R name old new → (b : Bool) → same t.name name ≡ b
          → Paired R name (t ∷ old) (u ∷ new)
      step rest true q = inr (record {
        before = t;
        after = u;
        related = head;
        named = same_is t.name name q;
        was = ap (λ b. cond b (Some t.store) (stored_as name old)) q;
        now = ap (λ n. cond (same n name) (Some u.store) (stored_as name new)) (keeps t u head)
            ∙ ap (λ b. cond b (Some u.store) (stored_as name new)) q;
      })
      step rest false q = after_others t u old new head q rest
