-- Tables of which changes are made, one after the other, among others that stay.
use Rattle.std.proofs.Common.{◌≡◌, ◌<◌, ℕ, suc, zero, List, [], ◌∷◌, length, get_or, refl, sym}
use Rattle.std.proofs.Common.{subst, ◌∙◌, arith, inl, inr, get_or-set_same, get_or-set_other}
use Rattle.std.specs.Prelude.{Option, Some, None, ◌⊎◌}
use Rattle.std.proofs.Math.ListN.{set, length-set}
use Rattle.relations_spec.specs.Sets.{In}
use Rattle.history_store.specs.Change.{PreparedChange}
use Rattle.version_groups_tables.specs.declared.made_table.MadeTable.{MadeTable}
use Rattle.version_groups_tables.specs.Becoming.{IsMade, IsAmong, IsMadeBy, AreMadeBy}
use Rattle.version_groups_tables.proofs.TablesInTurn.{one_place}

pub none_by : (prepared : List (Option PreparedChange)) (tables : List MadeTable)
    → AreMadeBy prepared tables tables
none_by prepared tables = record {
  count = refl;
  each = λ k d l.
      record { change = None; among = tt; made = refl };
}

-- a change that stands at a place is one of them
change_in : (prepared : List (Option PreparedChange)) (i : ℕ) (change : PreparedChange)
    → i < length prepared
    → get_or prepared i None ≡ Some change → In (Some change) prepared
change_in [] i change l e = absurd (omega (arith, l))
change_in (p ∷ prepared) zero change l e = inl e
change_in (p ∷ prepared) (suc i) change l e = inr (change_in prepared i change (omega (arith, l)) e)

pub among_at : (prepared : List (Option PreparedChange)) (i : ℕ) (p : Option PreparedChange)
    → i < length prepared → get_or prepared i None ≡ p → IsAmong p prepared
among_at prepared i None l e = tt
among_at prepared i (Some change) l e = change_in prepared i change l e

-- within a list the default has no part
same_default : (tables : List MadeTable) (q : ℕ) (d e : MadeTable) → q < length tables
    → get_or tables q d ≡ get_or tables q e
same_default [] q d e l = absurd (omega (arith, l))
same_default (t ∷ tables) zero d e l = refl
same_default (t ∷ tables) (suc q) d e l = same_default tables q d e (omega (arith, l))

-- one change is made of a table that was as it had been
pub one_by : (prepared : List (Option PreparedChange)) (old new : List MadeTable) (q : ℕ)
    (t u : MadeTable) (p : Option PreparedChange) → AreMadeBy prepared old new → q < length new
    → t ≡ get_or new q t → get_or old q t ≡ t
    → IsAmong p prepared → IsMade t p u → AreMadeBy prepared old (set new q u)
one_by prepared old new q t u p h within is was among made =
    record { count = length-set new q u ∙ h.count; each = λ k d l. there k d l (one_place k q) }
  where
    inside : q < length old
    inside = (let count = h.count in omega (arith, within, count))

    before : (d : MadeTable) → get_or old q d ≡ t
    before d = same_default old q d t inside ∙ was

    there : (k : ℕ) (d : MadeTable) → k < length old → (k ≡ q) ⊎ ((k < q) ⊎ (q < k))
        → IsMadeBy prepared (get_or old k d) (get_or (set new q u) k d)
    there k d l (inl e) =
        subst (λ j. IsMadeBy prepared (get_or old j d) (get_or (set new q u) j d)) (sym e)
        (subst (λ (x : MadeTable). IsMadeBy prepared x (get_or (set new q u) q d)) (sym (before d))
        (subst (λ (x : MadeTable). IsMadeBy prepared t x) (sym (get_or-set_same new q u d within))
        (record { change = p; among = among; made = made })))
    there k d l (inr (inl m)) = subst (λ (x : MadeTable). IsMadeBy prepared (get_or old k d) x)
        (sym (get_or-set_other new q k u d (λ e. omega (arith, e, m)))) (h.each k d l)
    there k d l (inr (inr m)) = subst (λ (x : MadeTable). IsMadeBy prepared (get_or old k d) x)
        (sym (get_or-set_other new q k u d (λ e. omega (arith, e, m)))) (h.each k d l)
