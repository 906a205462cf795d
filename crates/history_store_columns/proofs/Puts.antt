-- What one more value of an id leaves of the values of a column.
use Rattle.std.proofs.Common.{◌≡◌, ◌≢◌, ℕ, ◌<◌, ◌≤◌, Bool, true, false, List, [], ◌∷◌, ◌++◌, refl}
use Rattle.std.proofs.Common.{ap, arith, if◌then◌else◌}
use Rattle.std.proofs.lemmas.Map.Views.{tells_apart}
use Rattle.std.specs.declared.cmp.Ordering.TheVariants.{Equal}
use Rattle.std.proofs.lemmas.Map.Lookups.{exact_bytes, exact_signed}
use Rattle.prima_base.specs.declared.value.Value.{Value}
use Rattle.prima_base.specs.Order.{value_cmp}
use Rattle.prima_base.specs.declared.value.Value.TheVariants.{Int, Text}
use Rattle.history_store_columns.specs.Log.{Write, newest, value_at}
use Rattle.history_store_columns.specs.Entries.{AllCells}
use Rattle.history_store_columns.specs.Puts.{is_value, put}
use Rattle.history_store_columns.proofs.Newest.{newest-same, newest-other, value_at-before}

pub exact_values : (a b : Value) → value_cmp a b ≡ Equal → a ≡ b
exact_values (Int a) (Int b) e = ap Int (exact_signed a b e)
exact_values (Int a) (Text b) e = cc
exact_values (Text a) (Int b) e = cc
exact_values (Text a) (Text b) e = ap Text (exact_bytes a b e)

-- by whether a cell is added
pub by_put : (P : List Write → Type 0) (id : ℕ) (v : Value) (stamp : ℕ) (cells : List Write)
    → (is_value v (newest id cells) ≡ true → P cells)
    → P (cells ++ record { id = id; value = v; start = stamp } ∷ []) → P (put id v stamp cells)
by_put P id v stamp cells kept added = by_case (is_value v (newest id cells)) refl
  where
    by_case : (b : Bool) → is_value v (newest id cells) ≡ b
        → P (if b then cells else cells ++ record { id = id; value = v; start = stamp } ∷ [])
    by_case true e = kept e
    by_case false e = added

pub is_value_is : (v : Value) (vs : List Value) → is_value v vs ≡ true → vs ≡ v ∷ []
is_value_is v [] e = cc
is_value_is v (w ∷ []) e = ap (λ x. x ∷ []) (tells_apart exact_values w v e)
is_value_is v (w ∷ (x ∷ ws)) e = cc

pub put_before : (j m id : ℕ) (v : Value) (stamp : ℕ) (cells : List Write) → m < stamp
    → value_at j m (put id v stamp cells) ≡ value_at j m cells
put_before j m id v stamp cells h =
    by_put (λ cs. value_at j m cs ≡ value_at j m cells) id v stamp cells (λ e. refl)
    (value_at-before j m cells (record { id = id; value = v; start = stamp }) h)

pub put_same : (id : ℕ) (v : Value) (stamp : ℕ) (cells : List Write)
    → newest id (put id v stamp cells) ≡ v ∷ []
put_same id v stamp cells =
    by_put (λ cs. newest id cs ≡ v ∷ []) id v stamp cells (is_value_is v (newest id cells))
    (newest-same id cells (record { id = id; value = v; start = stamp }) refl)

pub put_other : (j id : ℕ) (v : Value) (stamp : ℕ) (cells : List Write) → id ≢ j
    → newest j (put id v stamp cells) ≡ newest j cells
put_other j id v stamp cells n =
    by_put (λ cs. newest j cs ≡ newest j cells) id v stamp cells (λ e. refl)
    (newest-other j cells (record { id = id; value = v; start = stamp }) n)

pub all_more : (last stamp : ℕ) (cells : List Write) → last ≤ stamp → AllCells last cells
    → AllCells stamp cells
all_more last stamp [] h a = tt
all_more last stamp (c ∷ cells) h a = let s : c.start ≤ last = a.0 in
    (omega arith, all_more last stamp cells h a.1)

all_added : (stamp : ℕ) (cells : List Write) (c : Write) → c.start ≤ stamp → AllCells stamp cells
    → AllCells stamp (cells ++ c ∷ [])
all_added stamp [] c h a = (h, tt)
all_added stamp (d ∷ cells) c h a = (a.0, all_added stamp cells c h a.1)

pub put_all_cells : (id : ℕ) (v : Value) (stamp : ℕ) (cells : List Write) → AllCells stamp cells
    → AllCells stamp (put id v stamp cells)
put_all_cells id v stamp cells a = by_put (AllCells stamp) id v stamp cells (λ e. a)
    (all_added stamp cells (record { id = id; value = v; start = stamp }) (omega arith) a)
