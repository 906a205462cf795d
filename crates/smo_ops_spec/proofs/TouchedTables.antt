-- The tables that an operator does not name stay, those that it makes are there, and those that it
-- only consumes are gone.
use Rattle.std.proofs.Common.{◌≡◌, ℕ, Bool, true, false, List, [], ◌∷◌, refl, sym, ap, subst, ◌∙◌}
use Rattle.std.proofs.Common.{inl, inr}
use Rattle.std.specs.Prelude.{cond, not, ◌||◌, Option, Some, None, ⊤}
use Rattle.std.specs.Ordering.{eq_by_cmp}
use Rattle.std.specs.FinMap.{get, insert, remove, contains_key, get-insert, get-remove}
use Rattle.std.specs.Cmp.Lexicographic.{nat_list_cmp_total}
use Rattle.relations_spec.specs.Sets.{In}
use Rattle.prima_base.specs.declared.refusal.OpRefusal.TheVariants.{Exists, SameTable}
use Rattle.prima_base.specs.Order.{bytes_cmp}
use Rattle.prima_base.specs.Columns.{Column}
use Rattle.schema_catalog.specs.Tables.{Tables}
use Rattle.schema_catalog.specs.Databases.{DatabaseEntry, Database}
use Rattle.smo_ops_types.specs.Operators.{Operator, nop, create_table, drop_table, rename_table}
use Rattle.smo_ops_types.specs.Operators.{copy_table, merge_table, partition_table, decompose_table}
use Rattle.smo_ops_types.specs.Operators.{join_table, add_column, drop_column, rename_column}
use Rattle.smo_ops_spec.specs.OneRow.{same}
use Rattle.smo_ops_spec.specs.Preconditions.{among, is_free, differ}
use Rattle.smo_ops_spec.specs.OperatorTable.{Made, line, made_names, without_all, with_all}
use Rattle.smo_ops_spec.specs.Touching.{makes, consumes}
use Rattle.smo_ops_spec.specs.After.{op_fault, schema_after, lose_all, make_all, migrate}
use Rattle.smo_ops_spec.proofs.Firsts.{met}
use Rattle.smo_ops_spec.proofs.NameLaws.{same_itself, among_in, in_among}
use Rattle.smo_ops_spec.proofs.StepLaws.{AllMet}
use Rattle.smo_ops_spec.proofs.NextSchemas.{all_preconditions, is_table}
use Rattle.smo_ops_spec.proofs.MetPreconditions.{rename_met, merge_met, partition_met}
use Rattle.smo_ops_spec.proofs.MetPreconditions.{decompose_met}
use Rattle.smo_ops_spec.proofs.MetPreconditions.{join_met}

pub neither : (a b : Bool) → (a || b) ≡ false → (a ≡ false) × (b ≡ false)
neither true b e = absurd (cc)
neither false b e = (refl, e)

-- one name looked for in a map with another entry, or with one entry less
put_other : {X : Type 0} (n r : List ℕ) (x : X) (o : Option X) → same n r ≡ false
    → cond (eq_by_cmp bytes_cmp n r) (Some x) o ≡ o
put_other n r x o e = ap (λ b. cond b (Some x) o) e

-- tables made, and tables taken out
with_others : (made : List Made) (tables : Tables) (n : List ℕ) → among n (made_names made) ≡ false
    → get (with_all made tables) n ≡ get tables n
with_others [] tables n e = refl
with_others (m ∷ made) tables n e =
    let h = neither (same n m.name) (among n (made_names made)) e in
    with_others made (insert tables m.name m.columns) n h.1
    ∙ get-insert nat_list_cmp_total tables m.name m.columns n
    ∙ put_other n m.name m.columns (get tables n) h.0

made_others : (made : List Made) (before db : Database) (n : List ℕ)
    → among n (made_names made) ≡ false → get (make_all made before db) n ≡ get db n
made_others [] before db n e = refl
made_others (m ∷ made) before db n e =
    let h = neither (same n m.name) (among n (made_names made)) e in
    made_others made before (insert db m.name (m.entry before)) n h.1
    ∙ get-insert nat_list_cmp_total db m.name (m.entry before) n
    ∙ put_other n m.name (m.entry before) (get db n) h.0

without_others : (consumed : List (List ℕ)) (tables : Tables) (n : List ℕ)
    → get (without_all consumed tables) n ≡ cond (among n consumed) None (get tables n)
without_others [] tables n = refl
without_others (r ∷ consumed) tables n =
    without_others consumed (remove tables r) n
    ∙ ap (λ (o : Option (List Column)). cond (among n consumed) None o)
    (get-remove nat_list_cmp_total tables r n)
    ∙ step (same n r) (among n consumed) (get tables n)
  where
    step : (a b : Bool) (o : Option (List Column))
        → cond b None (cond a None o) ≡ cond (a || b) None o
    step true true o = refl
    step true false o = refl
    step false b o = refl

pub lost_others : (consumed : List (List ℕ)) (db : Database) (n : List ℕ)
    → get (lose_all consumed db) n ≡ cond (among n consumed) None (get db n)
lost_others [] db n = refl
lost_others (r ∷ consumed) db n =
    lost_others consumed (remove db r) n
    ∙ ap (λ (o : Option DatabaseEntry). cond (among n consumed) None o)
    (get-remove nat_list_cmp_total db r n)
    ∙ step (same n r) (among n consumed) (get db n)
  where
    step : (a b : Bool) (o : Option DatabaseEntry)
        → cond b None (cond a None o) ≡ cond (a || b) None o
    step true true o = refl
    step true false o = refl
    step false b o = refl

module _ (tables : Tables) (op : Operator) (n : List ℕ) (unmade : makes tables op n ≡ false) where
  not_made : get (schema_after tables op) n ≡ cond (consumes tables op n) None (get tables n)
  not_made = with_others (line tables op).made (without_all (line tables op).consumed tables) n
      unmade ∙ without_others (line tables op).consumed tables n

  not_migrated : (db : Database) → get (migrate tables op db) n
      ≡ cond (consumes tables op n) None (get db n)
  not_migrated db = made_others (line tables op).made db (lose_all (line tables op).consumed db) n
      unmade ∙ lost_others (line tables op).consumed db n

  pub table_stays : consumes tables op n ≡ false → get (schema_after tables op) n ≡ get tables n
  table_stays e = not_made ∙ ap (λ b. cond b None (get tables n)) e

  pub entry_stays : (db : Database) → consumes tables op n ≡ false
      → get (migrate tables op db) n ≡ get db n
  entry_stays db e = not_migrated db ∙ ap (λ b. cond b None (get db n)) e

  pub table_gone : consumes tables op n ≡ true → get (schema_after tables op) n ≡ None
  table_gone e = not_made ∙ ap (λ b. cond b None (get tables n)) e

  pub entry_gone : (db : Database) → consumes tables op n ≡ true
      → get (migrate tables op db) n ≡ None
  entry_gone db e = not_migrated db ∙ ap (λ b. cond b None (get db n)) e

-- no two made tables have one name
abbrev AreApart : List Made → Type 0
AreApart [] = ⊤
AreApart (m ∷ made) = (among m.name (made_names made) ≡ false) × AreApart made

pub opposite : (b : Bool) → not b ≡ true → b ≡ false
opposite true e = absurd (cc)
opposite false e = refl

other_name : (s t : List ℕ) → differ s t ≡ None → among s (t ∷ []) ≡ false
other_name s t e = step (same s t) (opposite (same s t) (met (not (same s t)) (SameTable s) e))
  where
    step : (c : Bool) → c ≡ false → (c || false) ≡ false
    step true h = absurd (cc)
    step false h = refl

made_apart : (tables : Tables) (op : Operator) → AllMet (line tables op).preconditions
    → AreApart (line tables op).made
made_apart tables nop m = tt
made_apart tables (create_table r cs) m = (refl, tt)
made_apart tables (drop_table r) m = tt
made_apart tables (rename_table r t) m = (refl, tt)
made_apart tables (copy_table r t) m = (refl, tt)
made_apart tables (merge_table r s t) m = (refl, tt)
made_apart tables (partition_table r s c t) m = (other_name s t m.1.0, (refl, tt))
made_apart tables (decompose_table r s xs t ys) m = (other_name s t m.1.0, (refl, tt))
made_apart tables (join_table r s t c) m = (refl, tt)
made_apart tables (add_column c e r) m = (refl, tt)
made_apart tables (drop_column c r) m = (refl, tt)
made_apart tables (rename_column b r c) m = (refl, tt)

with_it : (made : List Made) (tables : Tables) (m : Made) → AreApart made → In m made
    → get (with_all made tables) m.name ≡ Some m.columns
with_it [] tables m a i = absurd i
with_it (x ∷ made) tables m a (inl e) =
    subst (λ (y : Made). get (with_all (x ∷ made) tables) y.name ≡ Some y.columns) e
    (with_others made (insert tables x.name x.columns) x.name a.0
    ∙ get-insert nat_list_cmp_total tables x.name x.columns x.name
    ∙ ap (λ b. cond b (Some x.columns) (get tables x.name)) (same_itself x.name))
with_it (x ∷ made) tables m a (inr i) = with_it made (insert tables x.name x.columns) m a.1 i

made_it : (made : List Made) (before db : Database) (m : Made) → AreApart made → In m made
    → get (make_all made before db) m.name ≡ Some (m.entry before)
made_it [] before db m a i = absurd i
made_it (x ∷ made) before db m a (inl e) =
    subst (λ (y : Made). get (make_all (x ∷ made) before db) y.name ≡ Some (y.entry before)) e
    (made_others made before (insert db x.name (x.entry before)) x.name a.0
    ∙ get-insert nat_list_cmp_total db x.name (x.entry before) x.name
    ∙ ap (λ b. cond b (Some (x.entry before)) (get db x.name)) (same_itself x.name))
made_it (x ∷ made) before db m a (inr i) = made_it made before (insert db x.name (x.entry before)) m
    a.1 i

pub made_is_there : (tables : Tables) (op : Operator) (m : Made) → op_fault tables op ≡ None
    → In m (line tables op).made → get (schema_after tables op) m.name ≡ Some m.columns
made_is_there tables op m e i =
    with_it (line tables op).made (without_all (line tables op).consumed tables) m
    (made_apart tables op (all_preconditions tables op e)) i

pub made_is_migrated : (tables : Tables) (op : Operator) (db : Database) (m : Made)
    → op_fault tables op ≡ None → In m (line tables op).made
    → get (migrate tables op db) m.name ≡ Some (m.entry db)
made_is_migrated tables op db m e i =
    made_it (line tables op).made db (lose_all (line tables op).consumed db) m
    (made_apart tables op (all_preconditions tables op e)) i

-- one name, or one of two
pub one_of : (n a : List ℕ) → among n (a ∷ []) ≡ true → n ≡ a
one_of n a e = step (among_in n (a ∷ []) e)
  where
    step : In n (a ∷ []) → n ≡ a
    step (inl q) = sym q
    step (inr q) = absurd q

two_of : (P : List ℕ → Type 0) (n a b : List ℕ) → P a → P b → among n (a ∷ b ∷ []) ≡ true → P n
two_of P n a b p q e = step (among_in n (a ∷ b ∷ []) e)
  where
    step : In n (a ∷ b ∷ []) → P n
    step (inl h) = subst P h p
    step (inr (inl h)) = subst P h q
    step (inr (inr h)) = absurd h

one_so : (P : List ℕ → Type 0) (n a : List ℕ) → P a → among n (a ∷ []) ≡ true → P n
one_so P n a p e = subst P (sym (one_of n a e)) p

-- each consumed table is there
pub consumed_is_there : (tables : Tables) (op : Operator) (n : List ℕ) → op_fault tables op ≡ None
    → consumes tables op n ≡ true → contains_key tables n ≡ true
consumed_is_there tables op n e c = step op (all_preconditions tables op e) c
  where
    There : List ℕ → Type 0
    There r = contains_key tables r ≡ true

    step : (op : Operator) → AllMet (line tables op).preconditions → consumes tables op n ≡ true
        → contains_key tables n ≡ true
    step nop m c = absurd (cc)
    step (create_table r cs) m c = absurd (cc)
    step (drop_table r) m c = one_so There n r (is_table tables r m.0) c
    step (rename_table r t) m c = one_so There n r (is_table tables r m.0) c
    step (copy_table r t) m c = absurd (cc)
    step (merge_table r s t) m c = two_of There n r s (is_table tables r m.0)
        (is_table tables s m.1.0) c
    step (partition_table r s c t) m h = one_so There n r (is_table tables r m.0) h
    step (decompose_table r s xs t ys) m c = one_so There n r (is_table tables r m.0) c
    step (join_table r s t c) m h = two_of There n r s (is_table tables r m.0)
        (is_table tables s m.1.0) h
    step (add_column c e r) m h = one_so There n r (is_table tables r m.0) h
    step (drop_column c r) m h = one_so There n r (is_table tables r m.0) h
    step (rename_column b r c) m h = one_so There n r (is_table tables r m.0) h

-- a made table's name is that of no other table, or of one that is consumed
pub free_name : (tables : Tables) (consumed : List (List ℕ)) (t : List ℕ)
    → is_free tables consumed t ≡ None → contains_key tables t ≡ true → among t consumed ≡ true
free_name tables consumed t e h = step (contains_key tables t) (among t consumed)
    (met (not (contains_key tables t) || among t consumed) (Exists t) e) h
  where
    step : (c b : Bool) → (not c || b) ≡ true → c ≡ true → b ≡ true
    step true b p q = p
    step false b p q = absurd (cc)

pub made_is_free : (tables : Tables) (op : Operator) (n : List ℕ) → op_fault tables op ≡ None
    → makes tables op n ≡ true → contains_key tables n ≡ true → consumes tables op n ≡ true
made_is_free tables op n e m = step op (all_preconditions tables op e) m
  where
    Free : List (List ℕ) → List ℕ → Type 0
    Free consumed t = contains_key tables t ≡ true → among t consumed ≡ true

    own : (r : List ℕ) → Free (r ∷ []) r
    own r h = in_among r (r ∷ []) (inl refl)

    step : (op : Operator) → AllMet (line tables op).preconditions → makes tables op n ≡ true
        → contains_key tables n ≡ true → consumes tables op n ≡ true
    step nop p m = absurd (cc)
    step (create_table r cs) p m = one_so (Free []) n r (free_name tables [] r p.0) m
    step (drop_table r) p m = absurd (cc)
    step (rename_table r t) p m = one_so (Free (r ∷ [])) n t
        (free_name tables (r ∷ []) t (rename_met p).name_free) m
    step (copy_table r t) p m = one_so (Free []) n t (free_name tables [] t p.1.0) m
    step (merge_table r s t) p m = one_so (Free (r ∷ s ∷ [])) n t
        (free_name tables (r ∷ s ∷ []) t (merge_met p).name_free) m
    step (partition_table r s c t) p m =
        two_of (Free (r ∷ [])) n s t
        (free_name tables (r ∷ []) s (partition_met c p).first_free)
        (free_name tables (r ∷ []) t (partition_met c p).second_free) m
    step (decompose_table r s xs t ys) p m =
        two_of (Free (r ∷ [])) n s t
        (free_name tables (r ∷ []) s (decompose_met p).first_free)
        (free_name tables (r ∷ []) t (decompose_met p).second_free) m
    step (join_table r s t c) p m = one_so (Free (r ∷ s ∷ [])) n t
        (free_name tables (r ∷ s ∷ []) t (join_met c p).name_free) m
    step (add_column c e r) p m = one_so (Free (r ∷ [])) n r (own r) m
    step (drop_column c r) p m = one_so (Free (r ∷ [])) n r (own r) m
    step (rename_column b r c) p m = one_so (Free (r ∷ [])) n r (own r) m
