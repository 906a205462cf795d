-- The database with an empty relation in the place of each lost one, and what is carried from it.
use Rattle.std.proofs.Common.{◌≡◌, ℕ, Bool, true, false, cond, List, [], ◌∷◌, map, refl, sym, ap}
use Rattle.std.proofs.Common.{subst, ◌∙◌, inl, inr}
use Rattle.std.specs.Prelude.{Option, Some, None}
use Rattle.std.specs.Option.{option_map, option_or}
use Rattle.std.specs.BTreeMap.{is_at}
use Rattle.std.specs.FinMap.{get, find, entries, get-entries, get-from_entries}
use Rattle.std.specs.Cmp.Lexicographic.{nat_list_cmp_total}
use Rattle.relations_spec.specs.Sets.{In}
use Rattle.relations_spec.proofs.SetLaws.{from_map}
use Rattle.prima_base.specs.Order.{bytes_cmp}
use Rattle.prima_base.specs.Columns.{Column}
use Rattle.schema_catalog.specs.Tables.{Tables}
use Rattle.schema_catalog.specs.Databases.{DatabaseEntry, Rows, Lost, Database, IsEntry, IsDatabase}
use Rattle.smo_ops_types.specs.Operators.{Operator}
use Rattle.smo_ops_spec.specs.OperatorTable.{Made, line, made_names}
use Rattle.smo_ops_spec.specs.Touching.{makes, consumes, made_of}
use Rattle.smo_ops_spec.specs.Losses.{IsEntryOrLost, IsDatabaseWithLosses, Loss, loss_of, loss_in}
use Rattle.smo_ops_spec.specs.Losses.{first_loss}
use Rattle.smo_ops_spec.specs.After.{op_fault, migrate}
use Rattle.smo_ops_spec.proofs.NameLaws.{among_in}
use Rattle.smo_ops_spec.proofs.LossLaws.{losses_handed_on}
use Rattle.smo_ops_spec.proofs.Locality.{made_alike}
use Rattle.smo_ops_spec.proofs.TouchedTables.{made_is_migrated, entry_stays, entry_gone}
use Rattle.smo_ops_versions_spec.specs.LostAsEmpty.{entry_emptied, whole}

abbrev whole_pair : List ℕ × DatabaseEntry → List ℕ × DatabaseEntry
whole_pair e = (e.0, entry_emptied e.1)

find_whole : (es : List (List ℕ × DatabaseEntry)) (n : List ℕ)
    → find bytes_cmp n (map whole_pair es) ≡ option_map entry_emptied (find bytes_cmp n es)
find_whole [] n = refl
find_whole (e ∷ es) n = ap (cond (is_at (bytes_cmp n) e.0) (Some (entry_emptied e.1)))
    (find_whole es n) ∙ step (is_at (bytes_cmp n) e.0)
  where
    step : (b : Bool) → cond b (Some (entry_emptied e.1))
        (option_map entry_emptied (find bytes_cmp n es))
        ≡ option_map entry_emptied (cond b (Some e.1) (find bytes_cmp n es))
    step true = refl
    step false = refl

-- each entry is as it was, or empty where it was lost
pub whole_at : (db : Database) (n : List ℕ) → get (whole db) n ≡ option_map entry_emptied (get db n)
whole_at db n = get-from_entries nat_list_cmp_total (map whole_pair (entries db)) n
    ∙ find_whole (entries db) n ∙ sym (ap (option_map entry_emptied) (get-entries db n))

kept : (x : Option DatabaseEntry) → loss_of x ≡ None → option_map entry_emptied x ≡ x
kept None e = refl
kept (Some (Rows rows)) e = refl
kept (Some (Lost k i)) e = absurd (cc)

emptied : (x : Option DatabaseEntry) (loss : Loss) → loss_of x ≡ Some loss
    → option_map entry_emptied x ≡ Some (Rows [])
emptied None loss e = absurd (cc)
emptied (Some (Rows rows)) loss e = absurd (cc)
emptied (Some (Lost k i)) loss e = refl

pub kept_at : (db : Database) (n : List ℕ) → loss_in db n ≡ None → get (whole db) n ≡ get db n
kept_at db n e = whole_at db n ∙ kept (get db n) e

pub emptied_at : (db : Database) (n : List ℕ) (loss : Loss) → loss_in db n ≡ Some loss
    → get (whole db) n ≡ Some (Rows [])
emptied_at db n loss e = whole_at db n ∙ emptied (get db n) loss e

whole_is : (o : Option (List Column)) (x : Option DatabaseEntry) → IsEntryOrLost o x
    → IsEntry o (option_map entry_emptied x)
whole_is None None h = tt
whole_is None (Some x) h = absurd h
whole_is (Some cs) None h = absurd h
whole_is (Some cs) (Some (Rows rows)) h = h
whole_is (Some cs) (Some (Lost k i)) h = record { ascending = tt; fitting = λ row m. absurd m }

pub whole_database : (tables : Tables) (db : Database) → IsDatabaseWithLosses tables db
    → IsDatabase tables (whole db)
whole_database tables db h = λ n. subst (IsEntry (get tables n)) (sym (whole_at db n))
    (whole_is (get tables n) (get db n) (h n))

-- ---- carried

none_first : (db : Database) (names : List (List ℕ)) → first_loss (loss_in db) names ≡ None
    → (n : List ℕ) → In n names → loss_in db n ≡ None
none_first db [] e n m = absurd m
none_first db (x ∷ names) e n m = step (λ h i. none_first db names h n i) (loss_in db x) refl e m
  where
    step : (first_loss (loss_in db) names ≡ None → In n names → loss_in db n ≡ None)
        → (o : Option Loss) → loss_in db x ≡ o → option_or o (first_loss (loss_in db) names) ≡ None
        → In n (x ∷ names) → loss_in db n ≡ None
    step more (Some l) q h i = absurd (cc)
    step more None q h (inl s) = subst (λ (y : List ℕ). loss_in db y ≡ None) s q
    step more None q h (inr i) = more h i

module _ (tables : Tables) (op : Operator) (accepted : op_fault tables op ≡ None)
    (db : Database) where
  -- a made table that is not lost is made of none that is
  made_of_whole : (m : Made) → In m (line tables op).made
      → loss_in (migrate tables op db) m.name ≡ None → (n : List ℕ) → In n (made_of op)
      → loss_in db n ≡ None
  made_of_whole m i e n j = none_first db (made_of op)
      (sym (losses_handed_on tables op db m accepted i) ∙ e) n j

  made_one : (n : List ℕ) → makes tables op n ≡ true → (m : Made) × In m (line tables op).made
      × (m.name ≡ n)
  made_one n e = from_map (λ (m : Made). m.name) n (line tables op).made
      (among_in n (made_names (line tables op).made) e)

  made_same : (m : Made) → In m (line tables op).made → loss_in (migrate tables op db) m.name ≡ None
      → get (migrate tables op (whole db)) m.name ≡ get (migrate tables op db) m.name
  made_same m i e =
      made_is_migrated tables op (whole db) m accepted i
      ∙ ap Some (made_alike tables (whole db) db op (λ s j. kept_at db s (made_of_whole m i e s j))
      m i)
      ∙ sym (made_is_migrated tables op db m accepted i)

  -- a table that is not lost is the same where each lost one is made an empty one first
  pub same_when_whole : (n : List ℕ) → loss_in (migrate tables op db) n ≡ None
      → get (migrate tables op (whole db)) n ≡ get (migrate tables op db) n
  same_when_whole n e = step (makes tables op n) refl (consumes tables op n) refl
    where
      step : (b : Bool) → makes tables op n ≡ b → (c : Bool) → consumes tables op n ≡ c
          → get (migrate tables op (whole db)) n ≡ get (migrate tables op db) n
      step true q c p =
          let m = made_one n q in
          subst (λ (x : List ℕ). get (migrate tables op (whole db)) x
          ≡ get (migrate tables op db) x) m.2
          (made_same m.0 m.1 (ap (loss_in (migrate tables op db)) m.2 ∙ e))
      step false q true p = entry_gone tables op n q (whole db) p
          ∙ sym (entry_gone tables op n q db p)
      step false q false p =
          let here = entry_stays tables op n q db p in
          entry_stays tables op n q (whole db) p ∙ kept_at db n (sym (ap loss_of here) ∙ e)
          ∙ sym here

  -- so carrying and making whole can change places
  pub whole_commutes : (n : List ℕ) → loss_in (migrate tables op db) n ≡ None
      → get (migrate tables op (whole db)) n ≡ get (whole (migrate tables op db)) n
  whole_commutes n e = same_when_whole n e ∙ sym (kept_at (migrate tables op db) n e)
