-- Names inserted into a set, and the operators that leave others out.
use Rattle.std.proofs.Common.{◌≡◌, ℕ, Bool, true, false, List, [], ◌∷◌, refl, sym, ap, ◌∙◌}
use Rattle.std.specs.Prelude.{cond, ◌||◌}
use Rattle.prima_base.specs.OrderLaws.{same_is}
use Rattle.smo_ops_spec.specs.OneRow.{same}
use Rattle.smo_ops_spec.specs.Preconditions.{among}
use Rattle.smo_ops_spec.proofs.NameLaws.{same_turned}
use Rattle.smo_ops_spec.proofs.TouchedTables.{neither}
use Rattle.prima_base.specs.Columns.{Column}
use Rattle.cond_expr.specs.Trees.{Tree, Test}
use Rattle.smo_ops_types.specs.Operators.{nop, create_table, drop_table, rename_table, copy_table}
use Rattle.smo_ops_types.specs.Operators.{merge_table, partition_table, decompose_table, join_table}
use Rattle.smo_ops_types.specs.Operators.{add_column, drop_column, rename_column}
use Rattle.smo_ops_widths.specs.Creating.{LeavesOut}

-- one that is there already
pub there_already : (these : List ℕ → Bool) (name : List ℕ) → these name ≡ true → (n : List ℕ)
    → these n ≡ cond (same name n) true (these n)
there_already these name t n = step (same name n) refl
  where
    step : (b : Bool) → same name n ≡ b → these n ≡ cond b true (these n)
    step true e = sym (ap these (same_is name n e)) ∙ t
    step false e = refl

pub another : (n a : List ℕ) (old new : Bool) → new ≡ cond (same a n) true old → new ≡ false
    → (old ≡ false) × (same n a ≡ false)
another n a old new e f = step (same a n) refl (sym e ∙ f)
  where
    step : (b : Bool) → same a n ≡ b → cond b true old ≡ false
        → (old ≡ false) × (same n a ≡ false)
    step true q h = absurd (cc)
    step false q h = (h, same_turned n a ∙ q)

-- a name that is none of these
pub not_one : (n a : List ℕ) → same n a ≡ false → among n (a ∷ []) ≡ false
not_one n a p = ap (λ (b : Bool). b || false) p

pub not_two : (n a b : List ℕ) → same n a ≡ false → same n b ≡ false → among n (a ∷ b ∷ []) ≡ false
not_two n a b p q = ap (λ (x : Bool). x || among n (b ∷ [])) p ∙ not_one n b q

pub not_three : (n a b c : List ℕ) → among n (a ∷ b ∷ []) ≡ false → same n c ≡ false
    → among n (a ∷ b ∷ c ∷ []) ≡ false
not_three n a b c p q =
    let first = neither (same n a) (among n (b ∷ [])) p in
    let second = neither (same n b) false first.1 in
    ap (λ (x : Bool). x || among n (b ∷ c ∷ [])) first.0 ∙ not_two n b c second.0 q

-- ---- what the operators leave out

pub none_left_out : (n : List ℕ) → LeavesOut nop n
none_left_out n = record { makes = λ t. refl; consumes = λ t. refl; reads = refl }

module _ (n a : List ℕ) (p : same n a ≡ false) where
  pub create_leaves : (cs : List Column) → LeavesOut (create_table a cs) n
  create_leaves cs = record {
    makes = λ t. not_one n a p;
    consumes = λ t. refl;
    reads = refl;
  }

  pub drop_leaves : LeavesOut (drop_table a) n
  drop_leaves = record { makes = λ t. refl; consumes = λ t. not_one n a p; reads = refl }

  pub add_leaves : (c : List ℕ) (e : Tree) → LeavesOut (add_column c e a) n
  add_leaves c e = record {
    makes = λ t. not_one n a p;
    consumes = λ t. not_one n a p;
    reads = not_one n a p;
  }

  pub less_leaves : (c : List ℕ) → LeavesOut (drop_column c a) n
  less_leaves c = record {
    makes = λ t. not_one n a p;
    consumes = λ t. not_one n a p;
    reads = not_one n a p;
  }

  pub other_leaves : (b c : List ℕ) → LeavesOut (rename_column b a c) n
  other_leaves b c = record {
    makes = λ t. not_one n a p;
    consumes = λ t. not_one n a p;
    reads = not_one n a p;
  }

module _ (n a b : List ℕ) (p : among n (a ∷ b ∷ []) ≡ false) where
  abbrev of_two : (same n a ≡ false) × (same n b ≡ false)
  of_two =
      let first = neither (same n a) (among n (b ∷ [])) p in
      (first.0, (neither (same n b) false first.1).0)

  pub rename_leaves : LeavesOut (rename_table a b) n
  rename_leaves = record {
    makes = λ t. not_one n b of_two.1;
    consumes = λ t. not_one n a of_two.0;
    reads = not_one n a of_two.0;
  }

  pub copy_leaves : LeavesOut (copy_table a b) n
  copy_leaves = record {
    makes = λ t. not_one n b of_two.1;
    consumes = λ t. refl;
    reads = not_one n a of_two.0;
  }

module _ (n a b c : List ℕ) (p : among n (a ∷ b ∷ c ∷ []) ≡ false) where
  abbrev of_three : (same n a ≡ false) × (same n b ≡ false) × (same n c ≡ false)
  of_three =
      let first = neither (same n a) (among n (b ∷ c ∷ [])) p in
      let second = neither (same n b) (among n (c ∷ [])) first.1 in
      (first.0, second.0, (neither (same n c) false second.1).0)

  -- of two one is made
  both : among n (a ∷ b ∷ []) ≡ false
  both = not_two n a b of_three.0 of_three.1

  pub merge_leaves : LeavesOut (merge_table a b c) n
  merge_leaves = record {
    makes = λ t. not_one n c of_three.2;
    consumes = λ t. both;
    reads = both;
  }

  pub join_leaves : (d : Test) → LeavesOut (join_table a b c d) n
  join_leaves d = record {
    makes = λ t. not_one n c of_three.2;
    consumes = λ t. both;
    reads = both;
  }

  -- and of one two
  parts : among n (b ∷ c ∷ []) ≡ false
  parts = not_two n b c of_three.1 of_three.2

  pub partition_leaves : (d : Test) → LeavesOut (partition_table a b d c) n
  partition_leaves d = record {
    makes = λ t. parts;
    consumes = λ t. not_one n a of_three.0;
    reads = not_one n a of_three.0;
  }

  pub decompose_leaves : (xs ys : List (List ℕ)) → LeavesOut (decompose_table a b xs c ys) n
  decompose_leaves xs ys = record {
    makes = λ t. parts;
    consumes = λ t. not_one n a of_three.0;
    reads = not_one n a of_three.0;
  }
