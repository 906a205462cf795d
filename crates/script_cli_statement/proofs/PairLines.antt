-- The lines of related pairs.
use Rattle.std.proofs.Common.{◌≡◌, ◌<◌, ◌+◌, ℕ, List, [], ◌∷◌, ◌++◌, length, get_or, sym, ap, ◌∙◌}
use Rattle.std.proofs.Common.{subst, inl, inr, append_assoc, append-nil, arith}
use Rattle.std.specs.Prelude.{map}
use Rattle.std.specs.List.{flat_map}
use Rattle.std.proofs.lemmas.List.{length-map}
use Rattle.relations_spec.specs.Sets.{In}
use Rattle.prima_base.specs.declared.timed_row.TimedRow.{TimedRow}
use Rattle.prima_base.specs.declared.value.Val.{Val}
use Rattle.relations_spec.specs.Spans.{Span}
use Rattle.prima_base.specs.Order.{shown}
use Rattle.prima_base.specs.Timed.{entries_of}
use Rattle.temporal_lang_types.specs.declared.relation.Relation.{Relation}
use Rattle.period_join.specs.Pairs.{related}
use Rattle.period_join.specs.RelatedEntries.{related_entries, entries_at}
use Rattle.period_join.proofs.EntryLaws.{entries_related}
use Rattle.period_join.proofs.Steps.{no_row}
use Rattle.answer_text.specs.Texts.{pair_text, line_of_pair, pairs_text, count_text}

module _ (relation : Relation) (left right : List TimedRow) where
  -- the lines of pairs of places
  abbrev pub lines : List (ℕ × ℕ) → List ℕ
  lines pairs = flat_map line_of_pair (map (entries_at no_row left right) pairs)

  abbrev pub all_pairs : List (ℕ × ℕ)
  all_pairs = related relation left right

  abbrev pub whole : List ℕ
  whole = pairs_text (related_entries relation (entries_of left) (entries_of right))

  -- the text of all
  pub all_lines : whole ≡ lines all_pairs ++ count_text (length all_pairs)
  unfolding pairs_text
  all_lines =
      let e = entries_related relation left right no_row in
      let n : length all_pairs ≡ length (related_entries relation (entries_of left)
      (entries_of right)) = sym (length-map all_pairs (entries_at no_row left right))
      ∙ ap length e in
      ap (λ t. t ++ count_text (length (related_entries relation (entries_of left)
      (entries_of right)))) (ap (λ ps. flat_map line_of_pair ps) (sym e))
      ∙ ap (λ k. lines all_pairs ++ count_text k) (sym n)

  -- the line of the rows at two places
  pub line_is : (i j : ℕ) (p q : Span) (vs ws : List Val)
      → p ≡ (get_or left i no_row).period → q ≡ (get_or right j no_row).period
      → vs ≡ (get_or left i no_row).values.items → ws ≡ (get_or right j no_row).values.items
      → pair_text (record { item = map shown vs; period = p })
      (record { item = map shown ws; period = q })
      ≡ line_of_pair (entries_at no_row left right (i, j))
  line_is i j p q vs ws a b c d = λ k. pair_text (record { item = map shown (c k); period = a k })
      (record { item = map shown (d k); period = b k })

  module _ (sent said : List ℕ) (pair : ℕ × ℕ) (pairs rest : List (ℕ × ℕ))
      (e : lines all_pairs ≡ sent ++ lines pairs) (f : pairs ≡ pair ∷ rest)
      (is : said ≡ line_of_pair (entries_at no_row left right pair)) where
    next : lines all_pairs ≡ sent ++ (said ++ lines rest)
    next = e ∙ ap (λ ps. sent ++ lines ps) f ∙ ap (λ t. sent ++ (t ++ lines rest)) (sym is)

    pub next_lines : lines all_pairs ≡ (sent ++ said) ++ lines rest
    next_lines = next ∙ sym (append_assoc sent said (lines rest))

    pub next_text : whole
        ≡ sent ++ (said ++ (lines rest ++ count_text (length all_pairs)))
    next_text = all_lines ∙ ap (λ t. t ++ count_text (length all_pairs)) next_lines
        ∙ append_assoc (sent ++ said) (lines rest) (count_text (length all_pairs))
        ∙ append_assoc sent said (lines rest ++ count_text (length all_pairs))

  pub last_text : (sent : List ℕ) (pairs : List (ℕ × ℕ)) (n : ℕ)
      → lines all_pairs ≡ sent ++ lines pairs → pairs ≡ [] → n + length pairs ≡ length all_pairs
      → whole ≡ sent ++ count_text n
  last_text sent pairs n e f c =
      let m : length all_pairs ≡ n = (let g = ap length f in omega (arith, c, g)) in
      all_lines ∙ ap (λ t. t ++ count_text (length all_pairs))
      (e ∙ ap (λ ps. sent ++ lines ps) f ∙ append-nil sent)
      ∙ ap (λ k. sent ++ count_text k) m
