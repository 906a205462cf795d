-- The table at a place, and all tables, one after the other.
use Rattle.std.specs.Prelude.{◌≡◌, ◌+◌, ◌++◌, ℕ, zero, suc, true, List, [], ◌∷◌, map, take}
use Rattle.std.specs.Prelude.{length, Option, Some, is_some, slice_get, Ok, Err}
use Rattle.std.proofs.Common.{refl, sym, ap, subst, ◌∙◌, inl, inr, arith}
use Rattle.std.specs.Option.{unwrap_or, option_map}
use Rattle.std.specs.FinMap.{get, entries, contains_key, len, len-entries}
use Rattle.relations_spec.specs.Sets.{In}
use Rattle.prima_base.specs.Columns.{Column}
use Rattle.schema_catalog.specs.Places.{NamedColumns}
use Rattle.schema_catalog.specs.Tables.{Tables, columns_of}
use Rattle.smo_ops_spec.specs.First.{first_refusal}
use Rattle.smo_ops_spec.specs.Past.{Past, tables_of}
use Rattle.version_export_past_spec.specs.Showing.{tables_in}
use Rattle.version_export_past_spec.proofs.Changing.{table_found}
use Rattle.version_export.specs.declared.seen_table.SeenTable.{SeenTable}
use Rattle.version_export.specs.Refused.{Fault, no_inverse, by_loss, table_test}
use Rattle.version_export.specs.declared.seen.SeenFault.{SeenFault}
use Rattle.version_export.specs.declared.seen.SeenFault.TheVariants.{NoInverse, NoMemory}
use Rattle.version_export.specs.Seen.{table_in, IsListed}
use Rattle.version_export.specs.SeenTables.{Shows, AllShow, IsSeenTable, AreSeenTables}

-- ---- one table

pub in_place : {X : Type 0} (xs : List X) (i : ℕ) (x : X) → slice_get xs i ≡ Some x → In x xs
in_place [] i x e = absurd (cc)
in_place (y ∷ xs) zero x e = inl (same e)
  where
    same : Some y ≡ Some x → y ≡ x
    same q = cc
in_place (y ∷ xs) (suc i) x e = inr (in_place xs i x e)

pub table_at : (tables : Tables) (i : ℕ) (t : NamedColumns) → slice_get (entries tables) i ≡ Some t
    → get tables t.0 ≡ Some t.1
table_at tables i t e = table_found tables t (in_place (entries tables) i t e)

pub key_at : (tables : Tables) (i : ℕ) (t : NamedColumns) (n : List ℕ)
    → slice_get (entries tables) i ≡ Some t → n ≡ t.0 → contains_key tables n ≡ true
key_at tables i t n e q = ap (λ (m : List ℕ). contains_key tables m) q
    ∙ ap is_some (table_at tables i t e)

pub own_table : (past : Past) (version i : ℕ) (t : NamedColumns) (n : List ℕ)
    → slice_get (tables_in past version) i ≡ Some t → n ≡ t.0
    → ◌≡◌ {A = NamedColumns} (table_in past version n) t
own_table past version i t n e q = λ j. (q j, columns j)
  where
    columns : columns_of (tables_of past version) n ≡ t.1
    columns = ap (columns_of (tables_of past version)) q
        ∙ ap (λ (o : Option (List Column)). unwrap_or o [])
        (table_at (tables_of past version) i t e)

pub seen_fault : (past : Past) (version place : ℕ) (t : NamedColumns) (fault : SeenFault)
    → slice_get (tables_in past version) place ≡ Some t → IsListed past version t (Err fault)
    → IsSeenTable past version place (Err fault)
seen_fault past version place t (NoInverse k kind) there h = (t, there, h)
seen_fault past version place t NoMemory there h = tt

-- ---- all tables

pub show_one_more : (past : Past) (version : ℕ) (ts : List NamedColumns) (ss : List SeenTable)
    (t : NamedColumns) (s : SeenTable) → AllShow past version ts ss → Shows past version t s
    → AllShow past version (ts ++ t ∷ []) (ss ++ s ∷ [])
show_one_more past version [] [] t s h k = (k, tt)
show_one_more past version [] (x ∷ ss) t s h k = absurd h
show_one_more past version (u ∷ ts) [] t s h k = absurd h
show_one_more past version (u ∷ ts) (x ∷ ss) t s h k = (
  h.0,
  show_one_more past version ts ss t s h.1 k,
)

-- those before a place and the one there
pub taken_more : {X : Type 0} (xs : List X) (i : ℕ) (x : X) → slice_get xs i ≡ Some x
    → take (suc i) xs ≡ take i xs ++ x ∷ []
taken_more [] i x e = absurd (cc)
taken_more (y ∷ xs) zero x e = ap (λ z. z ∷ []) (same e)
  where
    same : Some y ≡ Some x → y ≡ x
    same q = cc
taken_more (y ∷ xs) (suc i) x e = ap (λ l. y ∷ l) (taken_more xs i x e)

-- where those before it have no loss, that of the one there counts
pub first_lost_table : (past : Past) (version : ℕ) (ts : List NamedColumns) (ss : List SeenTable)
    (i : ℕ) (t : NamedColumns) (f : Fault) → AllShow past version (take i ts) ss
    → slice_get ts i ≡ Some t → table_test past version t ≡ Some f
    → first_refusal (map (table_test past version) ts) ≡ Some f
first_lost_table past version [] ss i t f h e q = absurd (cc)
first_lost_table past version (u ∷ ts) ss zero t f h e q =
    ap (λ o. first_refusal (o ∷ map (table_test past version) ts))
    (ap (table_test past version) (same e) ∙ q)
  where
    same : Some u ≡ Some t → u ≡ t
    same r = cc
first_lost_table past version (u ∷ ts) [] (suc i) t f h e q = absurd h
first_lost_table past version (u ∷ ts) (s ∷ ss) (suc i) t f h e q =
    ap (λ o. first_refusal (option_map (by_loss past.versions) o
    ∷ map (table_test past version) ts)) h.0.none
    ∙ first_lost_table past version ts ss i t f h.1 e q

-- all of them
whole_taken : {X : Type 0} (ys : List X) → take (length ys) ys ≡ ys
whole_taken [] = refl
whole_taken (y ∷ ys) = ap (λ l. y ∷ l) (whole_taken ys)

pub all_taken : {X : Type 0} (xs : List X) (n : ℕ) → n ≡ length xs → take n xs ≡ xs
all_taken xs n e = ap (λ k. take k xs) e ∙ whole_taken xs

-- ---- in the words of the answers

pub err_counts : (past : Past) (version : ℕ) (ss : List SeenTable) (i : ℕ) (f : SeenFault)
    → AllShow past version (take i (tables_in past version)) ss
    → IsSeenTable past version i (Err f) → AreSeenTables past version (Err f)
err_counts past version ss i (NoInverse k kind) h e = first_lost_table past version
    (tables_in past version) ss i e.0 (no_inverse k kind) h e.1 e.2
err_counts past version ss i NoMemory h e = tt

pub ok_counts : (past : Past) (version : ℕ) (ss news : List SeenTable) (i : ℕ) (s : SeenTable)
    → AllShow past version (take i (tables_in past version)) ss
    → IsSeenTable past version i (Ok s) → news ≡ ss ++ s ∷ []
    → AllShow past version (take (i + 1) (tables_in past version)) news
ok_counts past version ss news i s h e q =
    let more = taken_more (tables_in past version) i e.0 e.1 in
    let one : i + 1 ≡ suc i = omega arith in
    subst (λ (xs : List SeenTable). AllShow past version (take (i + 1) (tables_in past version)) xs)
    (sym q) (subst (λ (ts : List NamedColumns). AllShow past version ts (ss ++ s ∷ []))
    (sym (ap (λ k. take k (tables_in past version)) one ∙ more))
    (show_one_more past version (take i (tables_in past version)) ss e.0 s h e.2))

pub done_counts : (past : Past) (version : ℕ) (ss : List SeenTable) (n : ℕ) (tables : Tables)
    → tables ≡ tables_of past version → n ≡ len tables
    → AllShow past version (take n (tables_in past version)) ss
    → AllShow past version (tables_in past version) ss
done_counts past version ss n tables q e h = subst (λ (ts : List NamedColumns).
    AllShow past version ts ss) (all_taken (tables_in past version) n
    (e ∙ ap len q ∙ len-entries (tables_of past version))) h
