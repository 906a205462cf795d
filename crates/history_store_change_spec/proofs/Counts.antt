-- What is written into a column, weighed.
use Rattle.std.proofs.Common.{◌≡◌, ◌≢◌, ℕ, suc, zero, ◌+◌, ◌<◌, ◌≤◌, false, List, [], ◌∷◌, length}
use Rattle.std.proofs.Common.{get_or, refl, sym, ap, ◌∙◌, subst, arith, if◌then◌else◌, inl, inr}
use Rattle.std.proofs.Common.{add_assoc}
use Rattle.std.proofs.lemmas.Bool.Decides.{eqb_tells}
use Rattle.prima_base.specs.declared.value.Value.{Value}
use Rattle.history_store_columns.specs.Log.{Write, newest}
use Rattle.relations_spec.specs.Sets.{In}
use Rattle.history_store_row_order.specs.Rows.{row_now, rows_of, AllWidth}
use Rattle.history_store_columns.specs.Puts.{put}
use Rattle.history_store_writes.specs.Writing.{put_row, put_rows}
use Rattle.history_store_row_order.specs.Handing.{handed}
use Rattle.history_store_change_spec.specs.Handing.{at_column, is_same, weigh, written}
use Rattle.history_store_value_order.specs.ByValue.{Distinct}
use Rattle.history_store_columns.proofs.Puts.{put_same, put_other}
use Rattle.history_store_change_spec.proofs.Puts.{row_other, row_width}
use Rattle.history_store_columns.proofs.Weights.{put_weight, weight_of}

abbrev pub One : ℕ → List (List Write) → Type 0
One id [] = Unit {0}
One id (c ∷ columns) = (length (newest id c) ≡ 1) × One id columns

abbrev pub NoneYet : ℕ → List (List Write) → Type 0
NoneYet id [] = Unit {0}
NoneYet id (c ∷ columns) = (newest id c ≡ []) × NoneYet id columns

row_weight : (f : Value → ℕ) (k id : ℕ) (row : List Value) (stamp : ℕ) (columns : List (List Write))
    → k < length columns → length row ≡ length columns
    → weight_of f (get_or (put_row id row stamp columns) k [])
    ≡ weight_of f (get_or columns k []) + (if is_same (newest id (get_or columns k []))
    (at_column k row) then 0 else weigh f (at_column k row))
row_weight f k id row stamp [] h w = absurd (omega arith)
row_weight f k id [] stamp (c ∷ columns) h w = absurd (omega arith)
row_weight f zero id (v ∷ row) stamp (c ∷ columns) h w = put_weight f id v stamp c
row_weight f (suc k) id (v ∷ row) stamp (c ∷ columns) h w =
    row_weight f k id row stamp columns (omega arith) (omega arith)

one_is : (vs : List Value) → length vs ≡ 1 → (v : Value) × (vs ≡ v ∷ [])
one_is [] e = absurd (omega arith)
one_is (v ∷ []) e = (v, refl)
one_is (v ∷ (w ∷ vs)) e = absurd (omega arith)

pub one_at : (k id : ℕ) (columns : List (List Write)) → k < length columns → One id columns
    → newest id (get_or columns k []) ≡ at_column k (row_now id columns)
one_at k id [] h o = absurd (omega arith)
one_at zero id (c ∷ columns) h o = let v = one_is (newest id c) o.0 in rw v.1 refl
one_at (suc k) id (c ∷ columns) h o = let v = one_is (newest id c) o.0 in let r =
    one_at k id columns (omega arith) o.1 in rw v.1 r

none_at : (k id : ℕ) (columns : List (List Write)) → k < length columns → NoneYet id columns
    → newest id (get_or columns k []) ≡ []
none_at k id [] h o = absurd (omega arith)
none_at zero id (c ∷ columns) h o = o.0
none_at (suc k) id (c ∷ columns) h o = none_at k id columns (omega arith) o.1

one_stays : (j id : ℕ) (row : List Value) (stamp : ℕ) (columns : List (List Write)) → One j columns
    → One j (put_row id row stamp columns)
one_stays j id row stamp [] o = tt
one_stays j id [] stamp (c ∷ columns) o = o
one_stays j id (v ∷ row) stamp (c ∷ columns) o = (
  elim (eqb_tells id j) [
    | inl e ↦ ap (λ n. length (newest n (put id v stamp c))) (sym e.1)
        ∙ ap length (put_same id v stamp c)
    | inr n ↦ ap length (put_other j id v stamp c n.1)
        ∙ o.0
  ],
  one_stays j id row stamp columns o.1,
)

none_stays : (j id : ℕ) (row : List Value) (stamp : ℕ) (columns : List (List Write)) → id ≢ j
    → NoneYet j columns → NoneYet j (put_row id row stamp columns)
none_stays j id row stamp [] n o = tt
none_stays j id [] stamp (c ∷ columns) n o = o
none_stays j id (v ∷ row) stamp (c ∷ columns) n o =
    (put_other j id v stamp c n ∙ o.0, none_stays j id row stamp columns n o.1)

rows_stay : (id : ℕ) (row : List Value) (stamp : ℕ) (columns : List (List Write)) (ids : List ℕ)
    → (In id ids → ⊥) → rows_of ids (put_row id row stamp columns) ≡ rows_of ids columns
rows_stay id row stamp columns [] n = refl
rows_stay id row stamp columns (j ∷ ids) n =
    let e = row_other j id row stamp columns (λ q. n (inl (sym q))) in
    let f = rows_stay id row stamp columns ids (λ i. n (inr i)) in
    rw (e, f) refl

none_same : (vs : List Value) → is_same [] vs ≡ false
none_same [] = refl
none_same (v ∷ vs) = refl

pub rows_weight : (f : Value → ℕ) (k : ℕ) (lost : List ℕ) (next : ℕ) (gained : List (List Value))
    (stamp : ℕ) (columns : List (List Write))
    → k < length columns → AllWidth (length columns) gained → Distinct lost
    → ((q : ℕ) → In q lost → One q columns) → ((q : ℕ) → In q lost → q < next)
    → ((q : ℕ) → next ≤ q → NoneYet q columns)
    → weight_of f (get_or (put_rows (handed lost next gained) gained stamp columns) k [])
    ≡ weight_of f (get_or columns k []) + written f k (rows_of lost columns) gained
rows_weight f k lost next [] stamp columns h w d o b n =
    let z : weight_of f (get_or columns k []) ≡ weight_of f (get_or columns k []) + 0 =
    omega arith in z
rows_weight f k [] next (g ∷ gained) stamp columns h w d o b n =
    let rest = rows_weight f k [] (next + 1) gained stamp (put_row next g stamp columns)
    (subst (λ m. k < m) (sym (row_width next g stamp columns)) h)
    (subst (λ m. AllWidth m gained) (sym (row_width next g stamp columns)) w.1) tt
    (λ q i. absurd i) (λ q i. absurd i)
    (λ q l. none_stays q next g stamp columns (omega arith) (n q (omega arith))) in
    let one = row_weight f k next g stamp columns h w.0 in
    let new : ℕ = weigh f (at_column k g) in
    let e : (if is_same (newest next (get_or columns k [])) (at_column k g) then 0 else new) ≡ new =
    ap (λ vs. if is_same vs (at_column k g) then 0 else new)
    (none_at k next columns h (n next (omega arith)))
    ∙ ap (λ t. if t then 0 else new) (none_same (at_column k g)) in
    rest ∙ ap (λ m. m + written f k [] gained)
    (one ∙ ap (λ m. weight_of f (get_or columns k []) + m) e)
    ∙ add_assoc (weight_of f (get_or columns k [])) new (written f k [] gained)
rows_weight f k (id ∷ lost) next (g ∷ gained) stamp columns h w d o b n =
    let rest = rows_weight f k lost next gained stamp (put_row id g stamp columns)
    (subst (λ m. k < m) (sym (row_width id g stamp columns)) h)
    (subst (λ m. AllWidth m gained) (sym (row_width id g stamp columns)) w.1) d.1
    (λ q i. one_stays q id g stamp columns (o q (inr i))) (λ q i. b q (inr i))
    (λ q l. let under : id < next = b id (inl refl) in
    none_stays q id g stamp columns (omega arith) (n q l)) in
    let one = row_weight f k id g stamp columns h w.0 in
    let new : ℕ = if is_same (at_column k (row_now id columns)) (at_column k g) then 0
    else weigh f (at_column k g) in
    rest
    ∙ ap (λ m. m + written f k (rows_of lost (put_row id g stamp columns)) gained)
    (one ∙ ap (λ vs. weight_of f (get_or columns k []) + (if is_same vs (at_column k g) then 0
    else weigh f (at_column k g))) (one_at k id columns h (o id (inl refl))))
    ∙ ap (λ rs. weight_of f (get_or columns k []) + new + written f k rs gained)
    (rows_stay id g stamp columns lost d.0)
    ∙ add_assoc (weight_of f (get_or columns k [])) new (written f k (rows_of lost columns) gained)
