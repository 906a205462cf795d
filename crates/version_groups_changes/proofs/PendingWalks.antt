-- Walks along what is known of rows, and the rows that are put there one by one.
use Rattle.std.proofs.Common.{◌≡◌, Bool, true, false, cond, List, [], ◌∷◌, ◌++◌, map, refl, sym, ap}
use Rattle.std.proofs.Common.{◌∙◌, subst, append-nil}
use Rattle.std.proofs.lemmas.List.Elements.{filter-append}
use Rattle.std.specs.Prelude.{not, ◌&&◌, ◌||◌, Option, if◌then◌else◌}
use Rattle.std.specs.List.{filter}
use Rattle.std.specs.Map.{keys_of}
use Rattle.std.specs.BTreeMap.Range.{range_contains}
use Rattle.std.specs.declared.ops.Bound.TheVariants.{Included, Unbounded}
use Rattle.std.specs.Ordering.{is_eq, is_le}
use Rattle.std.proofs.lemmas.Cmp.{eq_by_cmp_equiv}
use Rattle.relations_spec.specs.Sets.{Ascends, has}
use Rattle.prima_base.specs.Order.{row_cmp}
use Rattle.prima_base.specs.OrderLaws.{row_total}
use Rattle.history_store.specs.Cuts.{Cut, is_before}
use Rattle.smo_ops_spec.specs.OneRow.{Row, Relation}
use Rattle.version_groups_changes.specs.PendingChanges.{Pending, lost_by_now, gained_by_now}
use Rattle.version_groups_changes.proofs.PendingLaws.{none_past}

keys-append : (xs ys : Pending) → keys_of (xs ++ ys) ≡ keys_of xs ++ keys_of ys
keys-append [] ys = refl
keys-append (x ∷ xs) ys = ap (λ l. x.0 ∷ l) (keys-append xs ys)

map-append : (f : Row → Row) (xs ys : List Row) → map f (xs ++ ys) ≡ map f xs ++ map f ys
map-append f [] ys = refl
map-append f (x ∷ xs) ys = ap (λ l. f x ∷ l) (map-append f xs ys)

module _ (p : Row × Bool → Bool) where
  -- one entry more
  pub picked_more : (known : Pending) (e : Row × Bool)
      → keys_of (filter p (known ++ e ∷ [])) ≡ keys_of (filter p known)
      ++ (if p e then e.0 ∷ [] else [])
  picked_more known e = ap keys_of (filter-append p known (e ∷ []))
      ∙ keys-append (filter p known) (filter p (e ∷ []))
      ∙ elim (p e) as (λ b. keys_of (filter p known) ++ keys_of (cond b (e ∷ []) [])
      ≡ keys_of (filter p known) ++ (if b then e.0 ∷ [] else [])) [ true ↦ refl | false ↦ refl ]

  -- the same of what is made of each
  pub made_more : (f : Row → Row) (known : Pending) (e : Row × Bool)
      → map f (keys_of (filter p (known ++ e ∷ []))) ≡ map f (keys_of (filter p known))
      ++ (if p e then f e.0 ∷ [] else [])
  made_more f known e = ap (map f) (picked_more known e)
      ∙ map-append f (keys_of (filter p known)) (if p e then e.0 ∷ [] else [])
      ∙ elim (p e) as (λ b. map f (keys_of (filter p known)) ++ map f (if b then e.0 ∷ [] else [])
      ≡ map f (keys_of (filter p known)) ++ (if b then f e.0 ∷ [] else [])) [
        | true ↦ refl
        | false ↦ refl
      ]

  -- the entries from a row on
  pub picked_from : (first : Row) (known : Pending)
      → filter p (filter (λ (e : Row × Bool). range_contains row_cmp (Included first) Unbounded e.0)
      known) ≡ filter (λ (e : Row × Bool). is_le (row_cmp first e.0) && p e) known
  picked_from first [] = refl
  picked_from first (e ∷ known) =
      let rest = picked_from first known in
      elim (is_le (row_cmp first e.0)) as (λ b.
      filter p (cond (b && true) (e ∷ filter
      (λ (x : Row × Bool). range_contains row_cmp (Included first) Unbounded x.0) known)
      (filter (λ (x : Row × Bool). range_contains row_cmp (Included first) Unbounded x.0)
      known))
      ≡ cond (b && p e) (e ∷ filter (λ (x : Row × Bool). is_le (row_cmp first x.0) && p x) known)
      (filter (λ (x : Row × Bool). is_le (row_cmp first x.0) && p x) known)) [
        | true ↦ ap (λ l. cond (p e) (e ∷ l) l) rest
        | false ↦ rest
      ]

-- where the walk stops nothing is left
pub stopped : (to : Cut) (passes : Row → Bool) (all done rest : Pending) (e : Row × Bool)
    → all ≡ done ++ e ∷ rest → Ascends row_cmp (keys_of all) → is_before to e.0 ≡ false
    → filter (λ (x : Row × Bool). is_before to x.0 && (x.1 && passes x.0)) all
    ≡ filter (λ (x : Row × Bool). is_before to x.0 && (x.1 && passes x.0)) done
stopped to passes all done rest e is a h =
    ap (filter p) is ∙ filter-append p done (e ∷ rest)
    ∙ ap (λ l. filter p done ++ l) (none_past to to passes e rest
    (later done (subst (λ (l : List Row). Ascends row_cmp l)
    (ap keys_of is ∙ keys-append done (e ∷ rest)) a)) h)
    ∙ append-nil (filter p done)
  where
    p : Row × Bool → Bool
    p x = is_before to x.0 && (x.1 && passes x.0)

    later : (done : Pending) → Ascends row_cmp (keys_of done ++ keys_of (e ∷ rest))
        → Ascends row_cmp (keys_of (e ∷ rest))
    later [] b = b
    later (x ∷ done) b = later done b.1

-- ---- rows that are put one by one

pub has_more : (q row : Row) (rows : Relation)
    → has row_cmp q (rows ++ row ∷ []) ≡ (has row_cmp q rows || is_eq (row_cmp q row))
has_more q row [] = elim (is_eq (row_cmp q row)) as (λ b. (b || false) ≡ (false || b)) [
  | true ↦ refl
  | false ↦ refl
]
has_more q row (r ∷ rows) = elim (is_eq (row_cmp q r)) as (λ b.
    (b || has row_cmp q (rows ++ row ∷ [])) ≡ ((b || has row_cmp q rows) || is_eq (row_cmp q row)))
    [ true ↦ refl | false ↦ has_more q row rows ]

pub put_more : (q row : Row) (rows : Relation) (w start before after : Option Bool)
    → before ≡ cond (has row_cmp q rows) w start → after ≡ cond (is_eq (row_cmp row q)) w before
    → after ≡ cond (has row_cmp q (rows ++ row ∷ [])) w start
put_more q row rows w start before after e f =
    f ∙ ap (λ (o : Option Bool). cond (is_eq (row_cmp row q)) w o) e
    ∙ ap (λ b. cond b w (cond (has row_cmp q rows) w start))
    ((eq_by_cmp_equiv row_total).symm row q)
    ∙ either (has row_cmp q rows) (is_eq (row_cmp q row))
    ∙ ap (λ b. cond b w start) (sym (has_more q row rows))
  where
    either : (a b : Bool) → cond b w (cond a w start) ≡ cond (a || b) w start
    either true true = refl
    either true false = refl
    either false true = refl
    either false false = refl

-- ---- what is lost and gained, entry by entry

pub lost_more : (known : Pending) (row : Row) (there : Bool)
    → lost_by_now (known ++ (row, there) ∷ []) ≡ lost_by_now known
    ++ (if there then [] else row ∷ [])
lost_more known row there = picked_more (λ (e : Row × Bool). not e.1) known (row, there)
    ∙ ap (λ (rows : Relation). lost_by_now known ++ rows)
    (elim there as (λ b. (if not b then row ∷ [] else []) ≡ (if b then [] else row ∷ []))
    [ true ↦ refl | false ↦ refl ])

pub gained_more : (known : Pending) (row : Row) (there : Bool)
    → gained_by_now (known ++ (row, there) ∷ []) ≡ gained_by_now known
    ++ (if there then row ∷ [] else [])
gained_more known row there = picked_more (λ (e : Row × Bool). e.1) known (row, there)
