-- What is needed where a change is made ready.
use Rattle.std.proofs.Common.{◌≡◌, ℕ, suc, ◌<◌, List, [], ◌∷◌, length, get_or, sym, ap, ◌∙◌, subst}
use Rattle.std.proofs.Common.{arith}
use Rattle.std.specs.Prelude.{All}
use Rattle.relations_spec.specs.Spans.{Span}
use Rattle.relations_spec.specs.Sets.{In}
use Rattle.history_store_columns.specs.Log.{Log}
use Rattle.history_store_row_order.specs.Logs.{cells_of}
use Rattle.history_store_columns.specs.Keys.{IsOpen}
use Rattle.history_store_columns.specs.Entries.{AllCells}
use Rattle.history_store_change_spec.specs.Table.{AllColumns, IsStored}
use Rattle.history_store_value_order.proofs.Places.{in_get}

pub all_known : (live live' : List ℕ) (keys : List Span) (columns columns' : List Log)
    → live' ≡ live → columns' ≡ columns → ((q : ℕ) → In q live → IsOpen keys q)
    → All (λ c. c.ids ≡ length keys) columns
    → (id k : ℕ) (d : Log) → id < length live' → k < length columns'
    → get_or live' id 0 < (get_or columns' k d).ids
all_known live live' keys columns columns' el ec o a id k d b h =
    let i : In (get_or live' id 0) live = subst (In (get_or live' id 0)) el (in_get live' id 0 b) in
    let n : get_or live' id 0 < length keys = (o (get_or live' id 0) i).0 in
    let e : (get_or columns' k d).ids ≡ length keys = ap (λ cs. (get_or cs k d).ids) ec
    ∙ a k d (subst (λ cs. k < length cs) ec h) in
    omega (arith, n, e)

pub none_fit : (columns : List Log) → All (λ c. c.cells ≡ []) columns
    → AllColumns 0 (cells_of columns)
none_fit [] a = tt
none_fit (c ∷ columns) a = let e : c.cells ≡ [] = a 0 c (omega arith) in
    (subst (AllCells 0) (sym e) tt, none_fit columns (λ k d h. a (suc k) d (omega arith)))

pub none_stored : (columns : List Log) → All (λ c. c.cells ≡ []) columns
    → IsStored [] (cells_of columns) [] 0
none_stored columns a = record {
  columns_fit = none_fit columns a;
  started = λ id h. absurd (omega arith);
  ended = λ id h. absurd (omega arith);
  are_open = λ id i. absurd i;
  are_live = λ id o. absurd (let b = o.0 in omega arith);
  ordered = tt;
}

pub all_known_in : (live others : List ℕ) (keys : List Span) (columns columns' : List Log)
    → others ≡ live → columns' ≡ columns → ((q : ℕ) → In q live → IsOpen keys q)
    → All (λ c. c.ids ≡ length keys) columns
    → (id : ℕ) → In id others → (k : ℕ) (d : Log) → k < length columns'
    → id < (get_or columns' k d).ids
all_known_in live others keys columns columns' el ec o a id i k d h =
    let n : id < length keys = (o id (subst (In id) el i)).0 in
    let e : (get_or columns' k d).ids ≡ length keys = ap (λ cs. (get_or cs k d).ids) ec
    ∙ a k d (subst (λ cs. k < length cs) ec h) in
    omega (arith, n, e)
