-- What is answered so far, coalesced and packed.
use Rattle.std.proofs.Common.{◌≡◌, ℕ, Bool, true, false, List, [], ◌∷◌, map, refl, ap, ◌∙◌}
use Rattle.std.proofs.Common.{subst}
use Rattle.relations_spec.specs.Spans.{Span, covers}
use Rattle.relations_spec.specs.Timed.{Entry}
use Rattle.prima_base.specs.declared.value.Val.{Val}
use Rattle.prima_base.specs.declared.value.Value.{Value}
use Rattle.prima_base.specs.declared.timed_row.TimedRow.{TimedRow}
use Rattle.prima_base.specs.Order.{shown, is_borrowed}
use Rattle.prima_base.specs.Timed.{rows_at, entry_of, entries_of}
use Rattle.prima_base.proofs.BorrowedVals.{stays_borrowed}
use Rattle.cond_expr.specs.Trees.{Tree}
use Rattle.join_exec_spec.specs.BorrowedOutputs.{EachRow, BorrowedValues, is_borrowed_output}
use Rattle.join_exec_spec.specs.BorrowedOutputs.{StaysBorrowed, AllStayBorrowed}
use Rattle.join_exec_spec.proofs.BorrowedLaws.{each_member, all_members}
use Rattle.coalesce.specs.Joining.{HaveValuesOf}
use Rattle.prima_base_rows.specs.Rows.{borrowed_of}

-- rows with the values of others are so where these are
pub each_by_values : (so : List Val → Type 0) (before after : List TimedRow)
    → HaveValuesOf before after → EachRow so before → EachRow so after
each_by_values so before after h l = all_members so after
    (λ row i. let r = h row i in subst so r.2 (each_member so before r.0 r.1 l))

-- where nothing held, nothing holds
pub still_none : (slice : Span) (before after : List TimedRow) (m : ℕ)
    → (covers slice m ≡ true → rows_at after m ≡ rows_at before m)
    → (covers slice m ≡ false → rows_at after m ≡ []) → rows_at before m ≡ [] → rows_at after m ≡ []
still_none slice before after m same outside none = step (covers slice m) refl
  where
    step : (b : Bool) → covers slice m ≡ b → rows_at after m ≡ []
    step true e = same e ∙ none
    step false e = outside e

-- values that show the same, and lie elsewhere where the others do, stay borrowed where these do
stays_like : (which : BorrowedValues) (outs : List Tree) (values new : List Val)
    → map shown new ≡ map shown values → map is_borrowed new ≡ map is_borrowed values
    → StaysBorrowed which outs values → StaysBorrowed which outs new
stays_like which [] [] [] e b l = tt
stays_like which [] [] (w ∷ new) e b l = absurd (cc)
stays_like which [] (v ∷ values) new e b l = absurd l
stays_like which (t ∷ outs) [] new e b l = absurd l
stays_like which (t ∷ outs) (v ∷ values) [] e b l = absurd (cc)
stays_like which (t ∷ outs) (v ∷ values) (w ∷ new) e b l =
    let first : shown w ≡ shown v = cc in
    let lies : is_borrowed w ≡ is_borrowed v = cc in
    let more : map shown new ≡ map shown values = cc in
    let all : map is_borrowed new ≡ map is_borrowed values = cc in (
      λ so. stays_borrowed v w first lies (l.0
          (subst (λ (x : Value). is_borrowed_output which x t ≡ true) first so)),
      stays_like which outs values new more all l.1,
    )

-- so of rows that are the same
pub same_stay : (which : BorrowedValues) (outs : List Tree) (before after : List TimedRow)
    → entries_of after ≡ entries_of before → map borrowed_of after ≡ map borrowed_of before
    → AllStayBorrowed which outs before → AllStayBorrowed which outs after
same_stay which outs before [] e b l = tt
same_stay which outs [] (a ∷ after) e b l = absurd (cc)
same_stay which outs (r ∷ before) (a ∷ after) e b l =
    let first : entry_of a ≡ entry_of r = cc in
    let lies : borrowed_of a ≡ borrowed_of r = cc in
    let more : entries_of after ≡ entries_of before = cc in
    let all : map borrowed_of after ≡ map borrowed_of before = cc in (
      stays_like which outs r.values.items a.values.items
          (ap (λ (e : Entry (List Value)). e.item) first) lies l.0,
      same_stay which outs before after more all l.1,
    )
