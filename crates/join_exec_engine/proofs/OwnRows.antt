-- Rows that are their own answers.
use Rattle.std.proofs.Common.{◌≡◌, ℕ, Bool, true, false, cond, List, [], ◌∷◌, ◌++◌, map, length}
use Rattle.std.proofs.Common.{refl, sym, ap, ◌∙◌, subst, inl, inr, arith}
use Rattle.std.specs.Prelude.{min, max, nat_lt, ◌&&◌, Option, Some, None}
use Rattle.std.specs.List.{filter, filter_map, cons_option}
use Rattle.std.proofs.lemmas.List.Elements.{filter_agree}
use Rattle.relations_spec.specs.Sets.{In}
use Rattle.relations_spec.specs.Spans.{Span, span, common}
use Rattle.relations_spec.specs.Timed.{Entry}
use Rattle.relations_spec.proofs.SetLaws.{from_map, from_filter}
use Rattle.prima_base.specs.declared.value.Value.{Value}
use Rattle.prima_base.specs.declared.value.Val.{Val}
use Rattle.prima_base.specs.declared.timed_row.TimedRow.{TimedRow}
use Rattle.prima_base.specs.Order.{shown}
use Rattle.prima_base.specs.Timed.{entry_of, entries_of}
use Rattle.cond_expr.specs.declared.expr.Column.{Column}
use Rattle.cond_expr.specs.Trees.{Tree, Test}
use Rattle.coalesce.specs.Cutting.{entry_with, cut_entry}
use Rattle.coalesce.specs.Joining.{HaveValuesOf}
use Rattle.join_exec_spec.specs.Answering.{outputs, answer, answers}
use Rattle.join_exec_spec.specs.Choosing.{in_period}
use Rattle.join_exec_spec.specs.Keeping.{meets, meets_all, IsValidRow, AllValid}
use Rattle.join_exec_spec.specs.BorrowedOutputs.{BorrowedValues, RowsBorrow, StaysBorrowed}
use Rattle.join_exec_spec.specs.BorrowedOutputs.{AllStayBorrowed}
use Rattle.join_exec_spec.proofs.BorrowedLaws.{columns_stay}
use Rattle.join_exec_spec.proofs.Groups.{shown_kept}
use Rattle.join_exec_engine.specs.InSlice.{in_slice, all_in_slice}
use Rattle.join_exec_levels.proofs.CoalescedRows.{each_by_values}

-- ---- the values are those of rows that were there

pub valid_by_values : (before after : List TimedRow) → HaveValuesOf before after
    → AllValid (entries_of before) → AllValid (entries_of after)
valid_by_values before after h valid = λ e i.
    let r = from_map entry_of e after i in
    let old = h r.0 r.1 in
    subst (λ (x : Entry (List Value)). IsValidRow x.item) r.2
    (subst (λ (vs : List Val). IsValidRow (map shown vs)) old.2
    (valid (entry_of old.0) (entry_in old.0 before old.1)))
  where
    entry_in : (row : TimedRow) (rows : List TimedRow) → In row rows
        → In (entry_of row) (entries_of rows)
    entry_in row [] i = absurd i
    entry_in row (r ∷ rows) (inl e) = inl (ap entry_of e)
    entry_in row (r ∷ rows) (inr i) = inr (entry_in row rows i)

pub kept_values : (p : TimedRow → Bool) (before cut after : List TimedRow)
    → HaveValuesOf before cut → after ≡ filter p cut → HaveValuesOf before after
kept_values p before cut after h e = λ row i.
    h row (from_filter p row cut (subst (λ (rows : List TimedRow). In row rows) e i)).0

-- ---- which of them meet the condition

pub all_meet : (cs : List Column) (c : Test) → ((row : List Value) → meets cs c row ≡ true)
    → (es : List (Entry (List Value)))
    → filter (λ (e : Entry (List Value)). meets cs c e.item) es ≡ es
all_meet cs c all [] = refl
all_meet cs c all (e ∷ es) =
    ap (λ (b : Bool). cond b (e ∷ filter (λ (e : Entry (List Value)). meets cs c e.item) es)
    (filter (λ (e : Entry (List Value)). meets cs c e.item) es)) (all e.item)
    ∙ ap (λ (l : List (Entry (List Value))). e ∷ l) (all_meet cs c all es)

and_true : (b : Bool) → (b && true) ≡ b
and_true true = refl
and_true false = refl

pub passing_meet : (cs : List Column) (c : Test) (tests : List Test) → tests ≡ c ∷ []
    → (cut after : List TimedRow) (es : List (Entry (List Value)))
    → after ≡ filter (λ (t : TimedRow). meets_all cs tests (entry_of t).item) cut
    → entries_of cut ≡ es
    → entries_of after ≡ filter (λ (e : Entry (List Value)). meets cs c e.item) es
passing_meet cs c tests one cut after es kept is =
    ap entries_of kept
    ∙ shown_kept (λ (e : Entry (List Value)). meets_all cs tests e.item) cut
    ∙ ap (filter (λ (e : Entry (List Value)). meets_all cs tests e.item)) is
    ∙ filter_agree (λ (e : Entry (List Value)). meets_all cs tests e.item)
    (λ (e : Entry (List Value)). meets cs c e.item)
    (λ e. ap (λ (ts : List Test). meets_all cs ts e.item) one ∙ and_true (meets cs c e.item)) es

-- ---- what they answer

-- the common moments, whichever is named first
abbrev common_of : ℕ → ℕ → Option Span
common_of a b = cond (nat_lt a b) (Some (span a b)) None

turned : (p q : Span) → common q p ≡ common p q
turned p q =
    let starts : max q.start p.start ≡ max p.start q.start = omega arith in
    let ends : min q.end p.end ≡ min p.end q.end = omega arith in
    ap (λ (a : ℕ). common_of a (min q.end p.end)) starts
    ∙ ap (λ (b : ℕ). common_of (max p.start q.start) b) ends

module _ (cs : List Column) (outs : List Tree) (c : Test) where
  -- the outputs are the values of the row
  abbrev IsOwn : List Value → Type 0
  IsOwn row = outputs cs outs row ≡ row

  answer_itself : (e : Entry (List Value)) (rest : List (Entry (List Value))) → IsOwn e.item
      → answer cs outs c e ++ rest ≡ cond (meets cs c e.item) (e ∷ rest) rest
  answer_itself e rest own = step (meets cs c e.item)
    where
      step : (b : Bool) → cond b (record {
        item = outputs cs outs e.item;
        period = e.period;
      } ∷ []) [] ++ rest ≡ cond b (e ∷ rest) rest
      step true = ap (λ (row : List Value).
          let x : Entry (List Value) = record { item = row; period = e.period } in x ∷ rest) own
      step false = refl

  pub own_answers : (slice : Span) (es : List (Entry (List Value)))
      → ((e : Entry (List Value)) → In e es → IsOwn e.item)
      → filter (λ (e : Entry (List Value)). meets cs c e.item) (filter_map (cut_entry slice) es)
      ≡ answers cs outs c (all_in_slice slice es)
  own_answers slice [] own = refl
  own_answers slice (e ∷ es) own = step (common e.period slice) (turned e.period slice)
      (own_answers slice es (λ x i. own x (inr i)))
    where
      step : (o : Option Span) → common slice e.period ≡ o
          → filter (λ (x : Entry (List Value)). meets cs c x.item)
          (filter_map (cut_entry slice) es) ≡ answers cs outs c (all_in_slice slice es)
          → filter (λ (x : Entry (List Value)). meets cs c x.item)
          (cons_option (entry_with e.item o) (filter_map (cut_entry slice) es))
          ≡ answers cs outs c (in_slice slice e ++ all_in_slice slice es)
      step None q more = more ∙ sym (ap (λ (p : Option Span).
          answers cs outs c (in_period e.item p ++ all_in_slice slice es)) q)
      step (Some p) q more =
          let x : Entry (List Value) = record { item = e.item; period = p } in
          ap (λ (l : List (Entry (List Value))). cond (meets cs c e.item) (x ∷ l) l) more
          ∙ sym (answer_itself x (answers cs outs c (all_in_slice slice es)) (own e (inl refl)))
          ∙ sym (ap (λ (o : Option Span).
          answers cs outs c (in_period e.item o ++ all_in_slice slice es)) q)

-- what is borrowed of columns stays borrowed
pub own_borrowed : (which : BorrowedValues) (cs : List Column) (outs : List Tree)
    (before after : List TimedRow)
    → ((row : List Value) → length row ≡ length cs → outputs cs outs row ≡ row)
    → HaveValuesOf before after → RowsBorrow which cs before → AllStayBorrowed which outs after
own_borrowed which cs outs before after own h l =
    each_by_values (StaysBorrowed which outs) before after h (stay before l)
  where
    stay : (rows : List TimedRow) → RowsBorrow which cs rows → AllStayBorrowed which outs rows
    stay [] l = tt
    stay (r ∷ rows) l = (columns_stay which cs outs r.values.items own l.0, stay rows l.1)
