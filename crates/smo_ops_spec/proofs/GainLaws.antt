-- The rows gained and lost fit the lengths of the relations.
use Rattle.std.proofs.Common.{◌≡◌, ◌+◌, Bool, true, false, [], ◌∷◌, length, refl, ap, arith}
use Rattle.std.specs.Prelude.{cond, not}
use Rattle.std.specs.List.{filter}
use Rattle.relations_spec.specs.Sets.{Ascends, has}
use Rattle.relations_spec.proofs.SetLaws.{in_filter, from_filter, in_has, has_in, one_list}
use Rattle.prima_base.specs.Order.{row_cmp}
use Rattle.prima_base.specs.OrderLaws.{row_exact}
use Rattle.smo_ops_spec.specs.OneRow.{Row, Relation}
use Rattle.smo_ops_spec.specs.Effects.{gained_rows}
use Rattle.smo_ops_spec.proofs.RelationLaws.{filter_ascends}

parted : (p : Row → Bool) (rows : Relation) → length (filter p rows) + length
    (filter (λ row. not (p row)) rows) ≡ length rows
parted p [] = refl
parted p (row ∷ rows) = step (p row) (parted p rows)
  where
    step : (b : Bool) → length (filter p rows) + length (filter (λ row. not (p row)) rows)
        ≡ length rows
        → length (cond b (row ∷ filter p rows) (filter p rows)) + length
        (cond (not b) (row ∷ filter (λ row. not (p row)) rows)
        (filter (λ row. not (p row)) rows)) ≡ length (row ∷ rows)
    step true h = omega arith
    step false h = omega arith

-- the rows that both have are one relation, from either side
common_rows : (a b : Relation) → Ascends row_cmp a → Ascends row_cmp b
    → filter (λ row. has row_cmp row a) b ≡ filter (λ row. has row_cmp row b) a
common_rows a b up_a up_b =
    one_list row_cmp row_exact (filter (λ row. has row_cmp row a) b)
    (filter (λ row. has row_cmp row b) a)
    (filter_ascends (λ row. has row_cmp row a) b up_b)
    (filter_ascends (λ row. has row_cmp row b) a up_a) (record {
      there = λ z m. (let h = from_filter (λ row. has row_cmp row a) z b m in
          in_filter (λ row. has row_cmp row b) z a (has_in row_cmp row_exact z a h.1)
          (in_has row_cmp row_exact z b h.0));
      back = λ z m. (let h = from_filter (λ row. has row_cmp row b) z a m in
          in_filter (λ row. has row_cmp row a) z b (has_in row_cmp row_exact z b h.1)
          (in_has row_cmp row_exact z a h.0));
    })

pub counts_fit : (old new : Relation) → Ascends row_cmp old → Ascends row_cmp new
    → length new + length (gained_rows new old) ≡ length old + length (gained_rows old new)
counts_fit old new up_old up_new =
    let n = parted (λ row. has row_cmp row old) new in
    let o = parted (λ row. has row_cmp row new) old in
    let c : length (filter (λ row. has row_cmp row old) new)
    ≡ length (filter (λ row. has row_cmp row new) old) =
    ap length (common_rows old new up_old up_new) in
    omega arith
