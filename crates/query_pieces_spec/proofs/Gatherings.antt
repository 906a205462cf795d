-- Rows that are gathered part by part are at each moment of the parts all that holds then.
use Rattle.std.proofs.Common.{◌≡◌, ℕ, Bool, true, false, List, [], ◌∷◌, ◌++◌, refl, sym, subst, inl}
use Rattle.std.proofs.Common.{inr}
use Rattle.std.specs.Prelude.{◌⊎◌}
use Rattle.std.specs.List.{flat_map}
use Rattle.relations_spec.specs.Sets.{In, Ascends}
use Rattle.relations_spec.specs.Spans.{Span, covers}
use Rattle.relations_spec.specs.Timed.{Entry, at}
use Rattle.relations_spec.proofs.SetLaws.{in_left, in_right, one_list, set_ascends}
use Rattle.relations_spec.proofs.Held.{in_at, at_ascends}
use Rattle.prima_base.specs.Order.{row_cmp}
use Rattle.prima_base.specs.OrderLaws.{row_exact}
use Rattle.smo_ops_spec.specs.OneRow.{Row, Relation}
use Rattle.smo_ops_spec.specs.Past.{Past}
use Rattle.plain_answers_spec.specs.Reading.{needed_reads}
use Rattle.piece_ir_spec.specs.Rules.{Book}
use Rattle.piece_ir_spec.specs.Reading.{unfolded_answers}
use Rattle.temporal_lang_types.specs.Queries.{PlainQuery}
use Rattle.query_pieces_spec.specs.Piecewise.{asked_branches, pieces_at, IsAskedOf, IsReadByPieces}
use Rattle.query_pieces_spec.specs.Gathering.{IsOfPart, IsGathered, HasMoment}

pub either : {X : Type 0} (z : X) (xs ys : List X) → In z (xs ++ ys) → In z xs ⊎ In z ys
either z [] ys m = inr m
either z (x ∷ xs) ys (inl e) = inl (inl e)
either z (x ∷ xs) ys (inr m) = step (either z xs ys m)
  where
    step : In z xs ⊎ In z ys → In z (x ∷ xs) ⊎ In z ys
    step (inl h) = inl (inr h)
    step (inr h) = inr h

-- what holds of joined entries holds of the one or of the others
pub of_either : (a b : List (Entry Row)) (x : Row) (m : ℕ) → In x (at row_cmp (a ++ b) m)
    → In x (at row_cmp a m) ⊎ In x (at row_cmp b m)
of_either a b x m h = (let held = (in_at row_cmp row_exact (a ++ b) x m).0 h in
    step held.0 held.2 held.3 (either held.0 a b held.1))
  where
    step : (e : Entry Row) → e.item ≡ x → covers e.period m ≡ true → In e a ⊎ In e b
        → In x (at row_cmp a m) ⊎ In x (at row_cmp b m)
    step e i c (inl k) = inl ((in_at row_cmp row_exact a x m).1 (e, k, i, c))
    step e i c (inr k) = inr ((in_at row_cmp row_exact b x m).1 (e, k, i, c))

pub of_first : (a b : List (Entry Row)) (x : Row) (m : ℕ) → In x (at row_cmp a m)
    → In x (at row_cmp (a ++ b) m)
of_first a b x m h = (let held = (in_at row_cmp row_exact a x m).0 h in
    (in_at row_cmp row_exact (a ++ b) x m).1 (held.0, in_left held.0 a b held.1, held.2, held.3))

pub of_second : (a b : List (Entry Row)) (x : Row) (m : ℕ) → In x (at row_cmp b m)
    → In x (at row_cmp (a ++ b) m)
of_second a b x m h = (let held = (in_at row_cmp row_exact b x m).0 h in
    (in_at row_cmp row_exact (a ++ b) x m).1 (held.0, in_right held.0 a b held.1, held.2, held.3))

module _ (relation : ℕ → Relation) where
  pub nothing_gathered : IsGathered relation [] []
  nothing_gathered = record {
    only = λ x m h. absurd ((in_at row_cmp row_exact [] x m).0 h).1;
    all = λ p k x m c h. absurd k;
  }

  pub more_gathered : (parts : List Span) (entries : List (Entry Row)) (p : Span)
      (news : List (Entry Row)) → IsGathered relation parts entries → IsOfPart relation p news
      → IsGathered relation (parts ++ p ∷ []) (entries ++ news)
  more_gathered parts entries p news g h = record {
    only = λ x m k. from x m (of_either entries news x m k);
    all = λ q k x m c i. into q x m c i (either q parts (p ∷ []) k);
  }
    where
      new_only : (x : Row) (m : ℕ) (b : Bool) → covers p m ≡ b → In x (at row_cmp news m)
          → In x (relation m)
      new_only x m true e k = subst (λ (r : Relation). In x r) (h.inside m e) k
      new_only x m false e k = absurd (subst (λ (r : Relation). In x r) (h.outside m e) k)

      from : (x : Row) (m : ℕ) → In x (at row_cmp entries m) ⊎ In x (at row_cmp news m)
          → In x (relation m)
      from x m (inl k) = g.only x m k
      from x m (inr k) = new_only x m (covers p m) refl k

      new_all : (q : Span) → p ≡ q → (x : Row) (m : ℕ) → covers q m ≡ true → In x (relation m)
          → In x (at row_cmp news m)
      new_all q e x m c i =
          let own : covers p m ≡ true = subst (λ (s : Span). covers s m ≡ true) (sym e) c in
          subst (λ (r : Relation). In x r) (sym (h.inside m own)) i

      into : (q : Span) (x : Row) (m : ℕ) → covers q m ≡ true → In x (relation m) → In q parts
          ⊎ In q (p ∷ []) → In x (at row_cmp (entries ++ news) m)
      into q x m c i (inl k) = of_first entries news x m (g.all q k x m c i)
      into q x m c i (inr (inl e)) = of_second entries news x m (new_all q e x m c i)
      into q x m c i (inr (inr k)) = absurd k

  pub all_gathered : (parts : List Span) (entries : List (Entry Row))
      → IsGathered relation parts entries → (m : ℕ) → HasMoment parts m
      → Ascends row_cmp (relation m)
      → at row_cmp entries m ≡ relation m
  all_gathered parts entries g m has ascends =
      one_list row_cmp row_exact (at row_cmp entries m) (relation m)
      (at_ascends row_cmp row_exact entries m) ascends (record {
        there = λ x k. g.only x m k;
        back = λ x k. g.all has.0 has.1 x m has.2 k;
      })

pub read_gathered : (book : Book) (past : Past) (query : PlainQuery) (parts : List Span)
    (entries : List (Entry Row)) → IsGathered (pieces_at book past query) parts entries
    → ((m : ℕ) → IsAskedOf query m → HasMoment parts m)
    → IsReadByPieces book past query (at row_cmp entries)
read_gathered book past query parts entries g all m asked =
    all_gathered (pieces_at book past query) parts entries g m (all m asked)
    (set_ascends row_cmp row_exact (flat_map (unfolded_answers book past m query.version
    needed_reads)
    (asked_branches past query)))
