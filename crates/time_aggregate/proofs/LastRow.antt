-- The last of the rows that are listed.
use Rattle.std.specs.Prelude.{◌≡◌, ◌↔◌, ℕ, ◌-◌, ◌+◌, ◌<◌, List, [], ◌∷◌, ◌++◌, map, length, take}
use Rattle.std.proofs.Common.{sym, ap, ◌∙◌, get_or, length-append, arith}
use Rattle.std.proofs.lemmas.List.{take_more, take_all}
use Rattle.std.specs.Prelude.{slice_get, Some, max}
use Rattle.relations_spec.specs.Timed.{Entry}
use Rattle.std.specs.Prelude.{slice_set}
use Rattle.std.proofs.Common.{inl}
use Rattle.std.specs.declared.vec.Vec.{Vec}
use Rattle.std.specs.declared.alloc.Global.{Global}
use Rattle.std.proofs.lemmas.List.{take_more_set, length-set}
use Rattle.relations_spec.specs.Spans.{span}
use Rattle.relations_spec.proofs.ListingLaws.{same_entry}
use Rattle.prima_base.specs.declared.value.Val.{Val}
use Rattle.prima_base.specs.declared.value.Value.{Value}
use Rattle.prima_base.specs.Order.{shown}
use Rattle.prima_base.specs.declared.agg_row.AggValue.{AggValue}
use Rattle.prima_base.specs.declared.agg_row.AggRow.{AggRow}
use Rattle.prima_base.specs.Groups.{Amount, Group}
use Rattle.prima_base.specs.Groups.{group_shown, groups_shown, amount}
use Rattle.time_aggregate.specs.Listed.{EndsSo, IsPut}
use Rattle.time_aggregate.proofs.JoinedGroups.{map_join}

pub last_split : {X : Type 0} (xs : List X) (d : X) → 0 < length xs
    → xs ≡ take (length xs - 1) xs ++ get_or xs (length xs - 1) d ∷ []
last_split xs d h =
    let n : (length xs - 1) + 1 ≡ length xs = omega arith in
    let t = rw n at (take_more xs (length xs - 1) d (omega arith)) in
    sym (take_all (length xs) xs (omega arith)) ∙ t

pub shown_split : (rows init : List AggRow) (row : AggRow) → rows ≡ init ++ row ∷ []
    → groups_shown rows ≡ groups_shown init ++ group_shown row ∷ []
shown_split rows init row e = ap groups_shown e ∙ map_join group_shown init (row ∷ [])

-- the last member of a list is one
pub one_last : {X : Type 0} (xs ys : List X) (x y : X) → xs ++ x ∷ [] ≡ ys ++ y ∷ [] → x ≡ y
one_last [] [] x y e = cc
one_last [] (z ∷ []) x y e = absurd (let l = ap length e in omega arith)
one_last [] (z ∷ w ∷ ys) x y e = absurd (let l = ap length e in omega arith)
one_last (z ∷ []) [] x y e = absurd (let l = ap length e in omega arith)
one_last (z ∷ w ∷ xs) [] x y e = absurd (let l = ap length e in omega arith)
one_last (z ∷ xs) (w ∷ ys) x y e = one_last xs ys x y (cc)

-- whether the last tells so is seen at the last row
pub ends_so : (rows init : List AggRow) (row : AggRow) (amounts : List Amount) (moment : ℕ)
    → rows ≡ init ++ row ∷ [] → EndsSo (groups_shown rows) amounts moment
    ↔ ((map amount row.values.items ≡ amounts) × (row.period.end ≡ moment))
ends_so rows init row amounts moment e = (there, back)
  where
    there : EndsSo (groups_shown rows) amounts moment
        → (map amount row.values.items ≡ amounts) × (row.period.end ≡ moment)
    there h =
        let q : h.1 ≡ group_shown row = one_last h.0 (groups_shown init) h.1 (group_shown row)
        (sym h.2 ∙ shown_split rows init row e) in (
          ap (λ (w : Entry Group). w.item.amounts) (sym q) ∙ h.3,
          ap (λ (w : Entry Group). w.period.end) (sym q) ∙ h.4,
        )

    back : (map amount row.values.items ≡ amounts) × (row.period.end ≡ moment)
        → EndsSo (groups_shown rows) amounts moment
    back h = (groups_shown init, group_shown row, shown_split rows init row e, h.0, h.1)

pub there_is : {X : Type 0} (xs : List X) (x : X) → slice_get xs (length xs - 1) ≡ Some x
    → 0 < length xs
there_is [] x e = absurd (cc)
there_is (y ∷ xs) x e = omega arith

-- the last row goes on
pub put_on : (rows : List AggRow) (n : ℕ) (last y : AggRow) (key : List Value)
    (amounts : List Amount) (start end : ℕ) → n ≡ length rows
    → last ≡ get_or rows (n - 1) last → EndsSo (groups_shown rows) amounts start
    → y.group ≡ last.group → y.values ≡ last.values → y.period.start ≡ last.period.start
    → y.period.end ≡ end
    → IsPut (groups_shown rows) (record {
      item = record { key = key; amounts = amounts };
      period = span start end;
    }) (groups_shown (slice_set rows (n - 1) y))
put_on rows n last y key amounts start end e l h g v s f =
    let some : 0 < length rows = there_are rows h in
    let q : n - 1 ≡ length rows - 1 = omega arith in
    let c = rw q at l in
    let split : rows ≡ take (length rows - 1) rows ++ last ∷ [] = last_split rows last some
    ∙ ap (λ (w : AggRow). take (length rows - 1) rows ++ w ∷ []) (sym c) in
    let so = (ends_so rows (take (length rows - 1) rows) last amounts start split).0 h in
    let m : (length rows - 1) + 1 ≡ length rows = omega arith in
    let t = rw m at (take_more_set rows (length rows - 1) y (omega arith)) in
    let k : slice_set rows (length rows - 1) y ≡ take (length rows - 1) rows ++ y ∷ [] =
    sym (take_all (length rows) (slice_set rows (length rows - 1) y)
    (let z = length-set rows (length rows - 1) y in omega arith)) ∙ t in
    inl (
      groups_shown (take (length rows - 1) rows),
      group_shown last,
      shown_split rows (take (length rows - 1) rows) last split,
      so.0,
      so.1,
      ap (λ (i : ℕ). groups_shown (slice_set rows i y)) q
          ∙ shown_split (slice_set rows (length rows - 1) y) (take (length rows - 1) rows) y k
          ∙ ap (λ (w : Entry Group). groups_shown (take (length rows - 1) rows) ++ w ∷ [])
          (same_entry (group_shown y) (record (group_shown last)
          { period = span last.period.start end })
          (ap (λ (w : Vec Val Global). record {
            key = map shown w.items;
            amounts =
                map amount y.values.items;
          }) g
          ∙ ap (λ (w : Vec AggValue Global). record {
            key = map shown last.group.items;
            amounts =
                map amount w.items;
          }) v) s f),
    )
  where
    there_are : (rs : List AggRow) → EndsSo (groups_shown rs) amounts start → 0 < length rs
    there_are [] w = absurd (let z = ap length w.2 in let j = length-append w.0 (w.1 ∷ []) in
        omega arith)
    there_are (r ∷ rs) w = omega arith

-- it goes on up to the later end
pub ends_later : (rows : List AggRow) (n : ℕ) (last read : AggRow) (amounts : List Amount)
    (start end given : ℕ) → n ≡ length rows → last ≡ get_or rows (n - 1) last
    → EndsSo (groups_shown rows) amounts start → read ≡ last → given ≡ end → start < end
    → max read.period.end given ≡ end
ends_later rows n last read amounts start end given e l h s g o =
    let some : 0 < length rows = there_are rows h in
    let q : n - 1 ≡ length rows - 1 = omega arith in
    let c = rw q at l in
    let split : rows ≡ take (length rows - 1) rows ++ last ∷ [] = last_split rows last some
    ∙ ap (λ (w : AggRow). take (length rows - 1) rows ++ w ∷ []) (sym c) in
    let so = ((ends_so rows (take (length rows - 1) rows) last amounts start split).0 h).1 in
    let r = ap (λ (w : AggRow). w.period.end) s in
    omega arith
  where
    there_are : (rs : List AggRow) → EndsSo (groups_shown rs) amounts start → 0 < length rs
    there_are [] w = absurd (let z = ap length w.2 in let j = length-append w.0 (w.1 ∷ []) in
        omega arith)
    there_are (r ∷ rs) w = omega arith

pub some_there : (rows : List AggRow) (amounts : List Amount) (start : ℕ)
    → EndsSo (groups_shown rows) amounts start → 0 < length rows
some_there [] amounts start w = absurd (let z = ap length w.2 in
    let j = length-append w.0 (w.1 ∷ []) in omega arith)
some_there (r ∷ rs) amounts start w = omega arith
