-- The tests of a command's changes, from a place on.
use Rattle.std.proofs.Common.{◌≡◌, ◌<◌, ◌+◌, ℕ, List, [], ◌∷◌, ◌++◌, length, take, drop, get_or}
use Rattle.std.proofs.Common.{sym, ap, subst, ◌∙◌}
use Rattle.std.specs.Prelude.{Option, Some, None, map}
use Rattle.std.proofs.lemmas.List.{map-append, take_more}
use Rattle.prima_base.specs.declared.refusal.Refusal.{Refusal}
use Rattle.schema_catalog.specs.Tables.{Tables, name_at}
use Rattle.smo_ops_types.specs.declared.change.Change.{Change}
use Rattle.smo_ops_types.specs.Changes.{PlainChange, change_of, changes_of, table_of}
use Rattle.smo_ops_spec.specs.First.{first_refusal}
use Rattle.smo_ops_spec.specs.Checks.{IsSmall, AllSmall, change_tests, changes_tests, change_nodes}
use Rattle.smo_ops_spec.proofs.Firsts.{drop_at, first_before, first_after}
use Rattle.smo_ops.specs.TablePlaces.{StandAt}

module _ (tables : Tables) (changes : List Change) (i at : ℕ) (c : Change)
    (below : i < length changes) (is : c ≡ get_or changes i c) where
  here : changes_tests tables (changes_of (drop i changes)) at
      ≡ change_tests tables (change_of c) at ++ changes_tests tables
      (changes_of (drop (i + 1) changes)) (at + change_nodes (change_of c))
  here = ap (λ rest. changes_tests tables (changes_of rest) at) (drop_at changes i c below is)

  pub change_refused : (r : Refusal) → first_refusal (change_tests tables (change_of c) at) ≡ Some r
      → first_refusal (changes_tests tables (changes_of (drop i changes)) at) ≡ Some r
  change_refused r e = ap first_refusal here
      ∙ first_before (change_tests tables (change_of c) at)
      (changes_tests tables (changes_of (drop (i + 1) changes))
      (at + change_nodes (change_of c))) r e

  pub change_accepted : (next : ℕ) → next ≡ at + change_nodes (change_of c)
      → first_refusal (change_tests tables (change_of c) at) ≡ None
      → first_refusal (changes_tests tables (changes_of (drop i changes)) at)
      ≡ first_refusal (changes_tests tables (changes_of (drop (i + 1) changes)) next)
  change_accepted next n e = ap first_refusal here
      ∙ first_after (change_tests tables (change_of c) at)
      (changes_tests tables (changes_of (drop (i + 1) changes))
      (at + change_nodes (change_of c))) e
      ∙ ap (λ m. first_refusal (changes_tests tables (changes_of (drop (i + 1) changes)) m)) (sym n)

pub change_is_small : (changes : List Change) (i : ℕ) (c : Change) → i < length changes
    → c ≡ get_or changes i c → AllSmall (changes_of (drop i changes))
    → IsSmall (change_of c) × AllSmall (changes_of (drop (i + 1) changes))
change_is_small changes i c below is h = subst (λ rest. AllSmall (changes_of rest))
    (drop_at changes i c below is) h

-- the table of one change more stands where it is told
pub one_more_stands : (tables : Tables) (changes : List Change) (i : ℕ) (c : Change)
    (places more : List ℕ) (place : ℕ) → i < length changes → c ≡ get_or changes i c
    → more ≡ places ++ place ∷ [] → name_at tables place ≡ Some (table_of (change_of c))
    → StandAt tables (changes_of (take i changes)) places
    → StandAt tables (changes_of (take (i + 1) changes)) more
one_more_stands tables changes i c places more place below is e name stand =
    let before = changes_of (take i changes) in
    let named : List PlainChange → List (Option (List ℕ)) = map (λ x. Some (table_of x)) in
    let until : changes_of (take (i + 1) changes) ≡ before ++ change_of c ∷ [] =
    ap changes_of (take_more changes i c below ∙ ap (λ x. take i changes ++ x ∷ []) (sym is))
    ∙ map-append change_of (take i changes) (c ∷ []) in
    ap (map (name_at tables)) e ∙ map-append (name_at tables) places (place ∷ [])
    ∙ ap (λ l. l ++ name_at tables place ∷ []) stand
    ∙ ap (λ n. named before ++ n ∷ []) name
    ∙ sym (map-append (λ (x : PlainChange). Some (table_of x)) before (change_of c ∷ []))
    ∙ ap named (sym until)
