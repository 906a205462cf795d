-- What a change leaves of each moment: before its stamp all is as it was, from it on the ids of the
-- new rows hold.
use Rattle.std.proofs.Common.{◌≡◌, ◌⊎◌, ℕ, ◌+◌, ◌-◌, ◌<◌, ◌≤◌, true, false, List, [], ◌∷◌, ◌++◌}
use Rattle.std.proofs.Common.{length, get_or, sym, ap, ◌∙◌, subst, arith, nat_le, inl, inr}
use Rattle.std.proofs.Common.{length-append}
use Rattle.std.proofs.lemmas.Bool.{cases_lt}
use Rattle.std.proofs.lemmas.Bool.Decides.{nat_tests}
use Rattle.std.proofs.Math.ListN.{get_or-append}
use Rattle.std.proofs.Math.Seq.{get_or-append_right}
use Rattle.std.specs.declared.cmp.Ordering.TheVariants.{Less}
use Rattle.relations_spec.specs.Sets.{In, Ascends}
use Rattle.relations_spec.specs.Spans.{Span, span, forever, covers}
use Rattle.prima_base.specs.Order.{row_cmp}
use Rattle.prima_base.specs.OrderLaws.{row_exact}
use Rattle.prima_base.specs.declared.value.Value.{Value}
use Rattle.history_store_columns.specs.Log.{Write}
use Rattle.prima_base.specs.Columns.{Column, IsRow, IsRelation}
use Rattle.history_store_spec.specs.Store.{IsPeriod, Holds}
use Rattle.history_store_change_spec.specs.Table.{row_then, IsStored}
use Rattle.history_store_row_order.specs.Rows.{row_now, rows_of}
use Rattle.history_store_columns.specs.Keys.{no_span, IsOpen}
use Rattle.history_store_writes.specs.Writing.{unpaired, new_keys, keys_handed, logs_handed}
use Rattle.history_store_row_order.specs.Handing.{handed}
use Rattle.relations_spec.proofs.SetLaws.{before_in}
use Rattle.history_store_change_spec.proofs.Now.{row_is_now}
use Rattle.history_store_row_order.proofs.RowsOf.{rows_of_in}
use Rattle.history_store_change_spec.proofs.Applied.{rows_before, in_or_not, length-end_keys}
use Rattle.history_store_change_spec.proofs.Applied.{length-new_keys}
use Rattle.history_store_change_spec.proofs.Applied.{new_key, ended_start, ended_other}
use Rattle.history_store_change_spec.proofs.Applied.{ended_same}
use Rattle.history_store_change_spec.proofs.Applied.{holds_ended}
use Rattle.history_store_change_spec.proofs.Applied.{unpaired_in}

-- an id by its row
pub same_id : (columns : List (List Write)) (ids : List ℕ) (p q : ℕ)
    → Ascends row_cmp (rows_of ids columns) → In p ids → In q ids
    → row_now p columns ≡ row_now q columns → p ≡ q
same_id columns [] p q a i j e = absurd i
same_id columns (x ∷ ids) p q a (inl i) (inl j) e = sym i ∙ j
same_id columns (x ∷ ids) p q a (inl i) (inr j) e =
    absurd (row_exact.apart (row_now q columns)
    (subst (λ r. row_cmp r (row_now q columns) ≡ Less) (ap (λ n. row_now n columns) i ∙ e)
    (before_in row_cmp (row_now x columns) (row_now q columns) (rows_of ids columns) a.0
    (rows_of_in q ids columns j))))
same_id columns (x ∷ ids) p q a (inr i) (inl j) e =
    absurd (row_exact.apart (row_now p columns)
    (subst (λ r. row_cmp r (row_now p columns) ≡ Less) (ap (λ n. row_now n columns) j ∙ sym e)
    (before_in row_cmp (row_now x columns) (row_now p columns) (rows_of ids columns) a.0
    (rows_of_in p ids columns i))))
same_id columns (x ∷ ids) p q a (inr i) (inr j) e = same_id columns ids p q a.1 i j e

module _ (keys : List Span) (logs : List (List Write)) (stamp : ℕ) (lost : List ℕ)
    (gained : List (List Value)) (l : stamp < forever) (o : (id : ℕ) → In id lost
    → IsOpen keys id) where
  more : List Span
  more = keys ++ new_keys stamp (unpaired gained lost)

  -- a key after the change was there before, or is new
  key_is : (id : ℕ) → id < length more → ((id < length keys)
      × (get_or more id no_span ≡ get_or keys id no_span))
      ⊎ (get_or more id no_span ≡ span stamp forever)
  unfolding more
  key_is id h = elim (cases_lt id (length keys)) [
    | inl a ↦ inl (a, get_or-append keys (new_keys stamp (unpaired gained lost)) no_span id a)
    | inr a ↦
        let n : length (keys ++ new_keys stamp (unpaired gained lost))
        ≡ length keys + length (unpaired gained lost) =
        length-append keys (new_keys stamp (unpaired gained lost))
        ∙ ap (λ k. length keys + k) (length-new_keys stamp (unpaired gained lost)) in
        inr (get_or-append_right keys (new_keys stamp (unpaired gained lost)) id no_span a
        ∙ new_key stamp (unpaired gained lost) (id - length keys) (omega (arith, n, h, a)))
  ]

  open_more : (id : ℕ) → In id (unpaired lost gained) → (get_or more id no_span).end ≡ forever
  unfolding more
  open_more id i = let p = o id (unpaired_in id lost gained i) in
      ap (λ (k : Span). k.end) (get_or-append keys (new_keys stamp (unpaired gained lost)) no_span
      id p.0) ∙ p.1

  within : (id : ℕ) → id < length (keys_handed keys lost gained stamp) → id < length more
  unfolding more
  within id h = subst (λ n. id < n) (length-end_keys (unpaired lost gained) stamp
      (keys ++ new_keys stamp (unpaired gained lost))) h

  pub earlier : (m id : ℕ) → m < stamp → Holds (keys_handed keys lost gained stamp) id m
      → Holds keys id m × (row_then id m (logs_handed keys logs lost gained stamp)
      ≡ row_then id m logs)
  unfolding more
  earlier m id h w =
      let b = within id w.0 in
      let c : covers (get_or more id no_span) m ≡ true =
      sym (holds_ended m stamp id (unpaired lost gained)
      (keys ++ new_keys stamp (unpaired gained lost)) h l b open_more) ∙ w.1 in (
        elim (key_is id b) [
          | inl a ↦ (a.0, ap (λ p. covers p m) (sym a.1) ∙ c)
          | inr a ↦ absurd (let d : covers (span stamp forever) m ≡ true =
              ap (λ p. covers p m) (sym a) ∙ c in let n : nat_le stamp m ≡ false =
              grind (arith, nat_tests) in grind (arith, nat_tests))
        ],
        rows_before id m (handed lost (length keys) gained) gained stamp logs h,
      )

  -- the keys stay periods
  pub still_last : ((id : ℕ) → id < length keys → IsPeriod (get_or keys id no_span))
      → ((id : ℕ) → id < length keys → (get_or keys id no_span).start < stamp)
      → (id : ℕ) → id < length (keys_handed keys lost gained stamp)
      → IsPeriod (get_or (keys_handed keys lost gained stamp) id no_span)
  unfolding more
  still_last f s id h =
      let b = within id h in
      elim (in_or_not id (unpaired lost gained)) [
        | inl i ↦
            let p = o id (unpaired_in id lost gained i) in
            let e : (get_or (keys_handed keys lost gained stamp) id no_span).end ≡ stamp =
            ended_same id (unpaired lost gained) stamp
            (keys ++ new_keys stamp (unpaired gained lost)) i b in
            let g : (get_or (keys_handed keys lost gained stamp) id no_span).start
            ≡ (get_or keys id no_span).start =
            ended_start id (unpaired lost gained) stamp
            (keys ++ new_keys stamp (unpaired gained lost))
            ∙ ap (λ (k : Span). k.start) (get_or-append keys
            (new_keys stamp (unpaired gained lost)) no_span id p.0) in
            let q = s id p.0 in
            (omega (arith, e, g, q), omega (arith, e))
        | inr n ↦
            subst IsPeriod (sym (ended_other id (unpaired lost gained) stamp
            (keys ++ new_keys stamp (unpaired gained lost)) n))
            (elim (key_is id b) [
              | inl a ↦ subst IsPeriod (sym a.1) (f id a.0)
              | inr a ↦ subst IsPeriod (sym a) (l, omega arith)
            ])
      ]

  module _ (after : List ℕ) (s : IsStored (keys_handed keys lost gained stamp)
      (logs_handed keys logs lost gained stamp) after stamp) where
    pub from_then_on : (m id : ℕ) → stamp ≤ m → Holds (keys_handed keys lost gained stamp) id m
        → In id after × (row_then id m (logs_handed keys logs lost gained stamp)
        ≡ row_now id (logs_handed keys logs lost gained stamp))
    from_then_on m id h w =
        let t : covers (get_or (keys_handed keys lost gained stamp) id no_span) m ≡ true = w.1 in
        let open_end : (get_or (keys_handed keys lost gained stamp) id no_span).end ≡ forever =
        elim (s.ended id w.0) [ inl b ↦ grind (arith, nat_tests) | inr b ↦ b ] in (
          s.are_live id (w.0, open_end),
          row_is_now id m stamp
              (logs_handed keys logs lost gained stamp) s.columns_fit h,
        )

    -- each row fits, and no two are equal
    module _ (columns : List Column) (r : IsRelation columns
        (rows_of after (logs_handed keys logs lost gained stamp))) where
      pub still_fit : ((m id : ℕ) → Holds keys id m → IsRow columns (row_then id m logs))
          → (m id : ℕ) → Holds (keys_handed keys lost gained stamp) id m
          → IsRow columns (row_then id m (logs_handed keys logs lost gained stamp))
      still_fit f m id w = elim (cases_lt m stamp) [
        | inl h ↦ (let e = earlier m id h w in subst (IsRow columns) (sym e.1) (f m id e.0))
        | inr h ↦ (let e = from_then_on m id h w in
            subst (IsRow columns) (sym e.1) (r.fitting
            (row_now id (logs_handed keys logs lost gained stamp))
            (rows_of_in id after (logs_handed keys logs lost gained stamp) e.0)))
      ]

      pub still_apart : ((m i j : ℕ) → Holds keys i m → Holds keys j m
          → row_then i m logs ≡ row_then j m logs → i ≡ j)
          → (m i j : ℕ) → Holds (keys_handed keys lost gained stamp) i m
          → Holds (keys_handed keys lost gained stamp) j m
          → row_then i m (logs_handed keys logs lost gained stamp)
          ≡ row_then j m (logs_handed keys logs lost gained stamp) → i ≡ j
      still_apart f m i j v w q = elim (cases_lt m stamp) [
        | inl h ↦ (let a = earlier m i h v in let b = earlier m j h w in
            f m i j a.0 b.0 (sym a.1 ∙ q ∙ b.1))
        | inr h ↦ (let a = from_then_on m i h v in let b = from_then_on m j h w in
            same_id (logs_handed keys logs lost gained stamp) after i j r.ascending a.0 b.0
            (sym a.1 ∙ q ∙ b.1))
      ]
