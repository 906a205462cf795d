-- Databases that agree up to losses still do with the same names taken out, and with tables put in
-- that agree.
use Rattle.std.proofs.Common.{◌≡◌, ℕ, Bool, true, false, List, [], ◌∷◌, refl, sym, subst}
use Rattle.std.proofs.Common.{inl, inr}
use Rattle.std.specs.Prelude.{Option, Some, None, cond}
use Rattle.std.specs.Ordering.{eq_by_cmp}
use Rattle.std.specs.FinMap.{get, insert, remove, get-insert, get-remove}
use Rattle.std.specs.Cmp.Lexicographic.{nat_list_cmp_total}
use Rattle.relations_spec.specs.Sets.{In}
use Rattle.prima_base.specs.Order.{bytes_cmp}
use Rattle.prima_base.specs.Columns.{Column}
use Rattle.schema_catalog.specs.Tables.{Tables}
use Rattle.schema_catalog.specs.Databases.{DatabaseEntry, Database}
use Rattle.smo_ops_spec.specs.OperatorTable.{Made, without_all, with_all}
use Rattle.smo_ops_spec.specs.After.{lose_all, make_all}
use Rattle.smo_ops_versions_spec.specs.ColumnLosses.{TableLoss, Losses}
use Rattle.smo_ops_versions_spec.specs.LostNames.{none_lost, with_made}
use Rattle.temporal_lang_losses_spec.specs.Agreeing.{AgreeAt, AgreeUpTo}

pub no_table : AgreeAt None None None None
no_table = record {
  first = tt;
  second = tt;
  first_there = λ e. refl;
  second_there = λ e. refl;
  rows = λ e. refl;
}

-- under one name, with or without what is put there
at_name : (b : Bool) (o u : Option (List Column)) (l k : Option TableLoss)
    (x w y z : Option DatabaseEntry) → AgreeAt u k w z → AgreeAt o l x y
    → AgreeAt (cond b u o) (cond b k l) (cond b w x) (cond b z y)
at_name true o u l k x w y z h g = h
at_name false o u l k x w y z h g = g

pub agree_at : (o u : Option (List Column)) (l k : Option TableLoss)
    (x w y z : Option DatabaseEntry)
    → o ≡ u → l ≡ k → x ≡ w → y ≡ z → AgreeAt u k w z → AgreeAt o l x y
agree_at o u l k x w y z p q r s h =
    subst (λ (i : Option (List Column)). AgreeAt i l x y) (sym p)
    (subst (λ (i : Option TableLoss). AgreeAt u i x y) (sym q)
    (subst (λ (i : Option DatabaseEntry). AgreeAt u k i y) (sym r)
    (subst (λ (i : Option DatabaseEntry). AgreeAt u k w i) (sym s) h)))

pub one_out : (tables : Tables) (losses : Losses) (a b : Database) (n : List ℕ)
    → AgreeUpTo tables losses a b
    → AgreeUpTo (remove tables n) (remove losses n) (remove a n) (remove b n)
one_out tables losses a b n h = λ q. agree_at _ _ _ _ _ _ _ _
    (get-remove nat_list_cmp_total tables n q) (get-remove nat_list_cmp_total losses n q)
    (get-remove nat_list_cmp_total a n q) (get-remove nat_list_cmp_total b n q)
    (at_name (eq_by_cmp bytes_cmp q n) (get tables q) None (get losses q) None (get a q) None
    (get b q) None no_table (h q))

pub one_in : (tables : Tables) (losses : Losses) (a b : Database) (n : List ℕ)
    (columns : List Column) (loss : TableLoss) (x y : DatabaseEntry)
    → AgreeAt (Some columns) (Some loss) (Some x) (Some y) → AgreeUpTo tables losses a b
    → AgreeUpTo (insert tables n columns) (insert losses n loss) (insert a n x) (insert b n y)
one_in tables losses a b n columns loss x y h g = λ q. agree_at _ _ _ _ _ _ _ _
    (get-insert nat_list_cmp_total tables n columns q)
    (get-insert nat_list_cmp_total losses n loss q) (get-insert nat_list_cmp_total a n x q)
    (get-insert nat_list_cmp_total b n y q)
    (at_name (eq_by_cmp bytes_cmp q n) (get tables q) (Some columns) (get losses q) (Some loss)
    (get a q) (Some x) (get b q) (Some y) h (g q))

pub all_out : (names : List (List ℕ)) (tables : Tables) (losses : Losses) (a b : Database)
    → AgreeUpTo tables losses a b
    → AgreeUpTo (without_all names tables) (none_lost names losses) (lose_all names a)
    (lose_all names b)
all_out [] tables losses a b h = h
all_out (n ∷ names) tables losses a b h = all_out names (remove tables n) (remove losses n)
    (remove a n) (remove b n) (one_out tables losses a b n h)

-- what is made of the two databases `a` and `b`
module _ (of : List Column → TableLoss) (a b : Database) where
  pub all_in : (made : List Made) → ((m : Made) → In m made
      → AgreeAt (Some m.columns) (Some (of m.columns)) (Some (m.entry a)) (Some (m.entry b)))
      → (tables : Tables) (losses : Losses) (x y : Database) → AgreeUpTo tables losses x y
      → AgreeUpTo (with_all made tables) (with_made of made losses) (make_all made a x)
      (make_all made b y)
  all_in [] h tables losses x y g = g
  all_in (m ∷ made) h tables losses x y g =
      all_in made (λ n i. h n (inr i)) (insert tables m.name m.columns)
      (insert losses m.name (of m.columns)) (insert x m.name (m.entry a))
      (insert y m.name (m.entry b))
      (one_in tables losses x y m.name m.columns (of m.columns) (m.entry a) (m.entry b)
      (h m (inl refl)) g)
