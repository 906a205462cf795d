-- What is lost and gained from one relation to another.
use Rattle.std.proofs.Common.{◌≡◌, false, List, ◌++◌, ap, ◌∙◌, inl, inr}
use Rattle.std.specs.Prelude.{not}
use Rattle.relations_spec.specs.Sets.{In, has, set_of}
use Rattle.relations_spec.proofs.SetLaws.{in_filter, from_filter, in_append, in_left, in_right}
use Rattle.relations_spec.proofs.SetLaws.{in_set}
use Rattle.relations_spec.proofs.SetLaws.{from_set, set_ascends, one_list, in_has, has_in}
use Rattle.prima_base.specs.Order.{row_cmp}
use Rattle.prima_base.specs.OrderLaws.{row_exact}
use Rattle.prima_base.specs.Columns.{Column, IsRelation}
use Rattle.history_store.specs.Change.{changed}
use Rattle.smo_ops_spec.specs.OneRow.{Row, Relation}
use Rattle.smo_ops_spec.specs.Effects.{gained_rows}
use Rattle.smo_ops_spec.proofs.RelationLaws.{filter_ascends}
use Rattle.version_groups_changes.proofs.Applying.{not_true, not_of}
use Rattle.version_groups_changes.proofs.Becoming.{only_is_gained}
use Rattle.version_groups_changes.proofs.PendingLaws.{known_or_not, never, not_in}

-- those of one relation that the other does not have
pub apart_relation : (columns : List Column) (one other : Relation) → IsRelation columns one
    → IsRelation columns (gained_rows other one)
apart_relation columns one other r = record {
  ascending = filter_ascends (λ row. not (has row_cmp row other)) one r.ascending;
  fitting = λ row m. r.fitting row (from_filter (λ q. not (has row_cmp q other)) row one m).0;
}

pub apart_in : (one other : Relation) (row : Row) → In row (gained_rows other one) → In row one
apart_in one other row m = (from_filter (λ q. not (has row_cmp q other)) row one m).0

module _ (columns : List Column) (old new : Relation) (n : IsRelation columns new) where
  abbrev lost : Relation
  lost = gained_rows new old

  abbrev gained : Relation
  gained = gained_rows old new

  in_lost : (row : Row) → In row old → has row_cmp row new ≡ false → In row lost
  in_lost row i e = in_filter (λ q. not (has row_cmp q new)) row old i
      (not_of (has row_cmp row new) e)

  stays : (row : Row) → In row new → has row_cmp row lost ≡ false
  stays row i = not_in row lost (λ m. never (has row_cmp row new)
      (in_has row_cmp row_exact row new i) (not_true (has row_cmp row new)
      (from_filter (λ q. not (has row_cmp q new)) row old m).1))

  forth : (row : Row) → In row (set_of row_cmp (gained_rows lost old ++ gained)) → In row new
  forth row m = elim (in_append row (gained_rows lost old) gained
      (from_set row_cmp row_exact row (gained_rows lost old ++ gained) m)) [
        | inl i ↦ (
            let h = from_filter (λ q. not (has row_cmp q lost)) row old i in
            elim (known_or_not (has row_cmp row new)) [
              | inl k ↦ has_in row_cmp row_exact row new k
              | inr k ↦ absurd (never (has row_cmp row lost)
                  (in_has row_cmp row_exact row lost (in_lost row h.0 k))
                  (not_true (has row_cmp row lost) h.1))
            ])
        | inr i ↦ apart_in new old row i
      ]

  back : (row : Row) → In row new → In row (set_of row_cmp (gained_rows lost old ++ gained))
  back row i = in_set row_cmp row_exact row (gained_rows lost old ++ gained)
      (elim (known_or_not (has row_cmp row old)) [
        | inl k ↦ in_left row (gained_rows lost old) gained
            (in_filter (λ q. not (has row_cmp q lost)) row old (has_in row_cmp row_exact row old k)
            (not_of (has row_cmp row lost) (stays row i)))
        | inr k ↦ in_right row (gained_rows lost old) gained
            (in_filter (λ q. not (has row_cmp q old)) row new i (not_of (has row_cmp row old) k))
      ])

  -- without the ones and with the others the one relation is the other
  pub leads_to : changed old lost gained ≡ new
  leads_to = ap (λ rows. set_of row_cmp (rows ++ gained)) (only_is_gained old lost)
      ∙ one_list row_cmp row_exact (set_of row_cmp (gained_rows lost old ++ gained)) new
      (set_ascends row_cmp row_exact (gained_rows lost old ++ gained)) n.ascending
      (record { there = forth; back = back })
