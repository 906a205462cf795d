-- How the lines of lifelines, put one after the other, add up.
use Rattle.std.proofs.Common.{◌≡◌, ◌<◌, ◌≤◌, ◌+◌, ℕ, true, List, [], ◌∷◌, ◌++◌, length, take, drop}
use Rattle.std.proofs.Common.{get_or, sym, ap, ◌∙◌, subst, append-nil, append_assoc, arith}
use Rattle.std.specs.Prelude.{Option, Some, None, MatchOption}
use Rattle.std.specs.Option.{is_some}
use Rattle.std.specs.List.{flat_map}
use Rattle.std.specs.Io.KnownBytes.{Appends}
use Rattle.std.proofs.KnownBytes.{Appends-trans}
use Rattle.std.proofs.Math.Seq.{take-length}
use Rattle.std.proofs.lemmas.List.{take-append-drop}
use Rattle.std.proofs.lemmas.Grind.{take_at_read, flat_map-append}
use Rattle.prima_io.specs.Moves.{AppendsPrefix, AppendsLess}
use Rattle.prima_io.proofs.Prefixes.{of_less, after, longer}
use Rattle.smo_ops_spec.specs.Sizes.{Size}
use Rattle.version_groups.specs.declared.size.SizeLine.{SizeLine}
use Rattle.version_groups.specs.Sizes.{IsLineOf}
use Rattle.answer_text.specs.Texts.{size_text, lifeline_text, count_text, sizes_text}

-- for a place at which there is none
abbrev pub no_size : Size
no_size = record { table = []; first = 0; last = None; keys = 0; columns = [] }

module _ (X A : Type 0) (B : X → Type 0) (r : Option X) where
  -- what was borrowed
  pub borrowed : (x : X) → r ≡ Some x → MatchOption r A B → B x
  borrowed x e h = let P : Option X → Type 0 = λ o. MatchOption o A B in subst P e h

  -- nothing was
  pub none_borrowed : r ≡ None → MatchOption r A B → A
  none_borrowed e h = let P : Option X → Type 0 = λ o. MatchOption o A B in subst P e h

-- what is borrowed stands before the end
pub one_borrowed : (n i : ℕ) (X : Type 0) (B : X → Type 0) (r : Option X) → is_some r ≡ true
    → MatchOption r (n ≤ i) (λ x. (i < n) × B x) → i + 1 ≤ n
one_borrowed n i X B (Some x) e h = let l = h.0 in omega (arith, l)
one_borrowed n i X B None e h = absurd (cc)

module _ (newest : ℕ) (sizes : List Size) where
  -- the lines of the first so many
  abbrev pub lines : ℕ → List ℕ
  lines i = flat_map (lifeline_text newest) (take i sizes)

  line_text : (s : Size) (line : SizeLine) → IsLineOf newest s line
      → size_text line.table.now line.first line.last line.keys line.cells ≡ lifeline_text newest s
  line_text s line h = λ i. size_text (h.table i) (h.first i) (h.last i) (h.keys i) (h.cells i)

  one_more : (i : ℕ) (s : Size) → i < length sizes
      → lines i ++ lifeline_text newest (get_or sizes i s) ≡ lines (i + 1)
  one_more i s l =
      let x = get_or sizes i s in
      sym (ap (λ t. flat_map (lifeline_text newest) t) (take_at_read sizes i s l).1
      ∙ flat_map-append (lifeline_text newest) (take i sizes) (x ∷ [])
      ∙ ap (λ t. lines i ++ t) (append-nil (lifeline_text newest x)))

  -- they stand before the rest of the text
  begins : (i : ℕ) → sizes_text newest sizes ≡ lines i
      ++ (flat_map (lifeline_text newest) (drop i sizes) ++ count_text (length sizes))
  unfolding sizes_text
  begins i =
      ap (λ t. t ++ count_text (length sizes))
      (ap (λ l. flat_map (lifeline_text newest) l) (sym (take-append-drop i sizes))
      ∙ flat_map-append (lifeline_text newest) (take i sizes) (drop i sizes))
      ∙ append_assoc (lines i) (flat_map (lifeline_text newest) (drop i sizes))
      (count_text (length sizes))

  all_lines : sizes_text newest sizes ≡ lines (length sizes) ++ count_text (length sizes)
  unfolding sizes_text
  all_lines = ap (λ l. flat_map (lifeline_text newest) l ++ count_text (length sizes))
      (sym (take-length sizes))

  module _ (a b c : Option (List ℕ)) where
    module _ (i : ℕ) (s : Size) (line : SizeLine) (l : i < length sizes)
        (is : IsLineOf newest (get_or sizes i s) line) (before : Appends a b (lines i)) where
      later : lines i ++ size_text line.table.now line.first line.last line.keys line.cells
          ≡ lines (i + 1)
      later = ap (λ t. lines i ++ t) (line_text (get_or sizes i s) line is) ∙ one_more i s l

      -- the next line was put
      pub line_put : Appends b c (size_text line.table.now line.first line.last line.keys
          line.cells) → Appends a c (lines (i + 1))
      line_put p = subst (Appends a c) later (Appends-trans a b c (lines i)
          (size_text line.table.now line.first line.last line.keys line.cells) before p)

      -- or the sink failed in it
      pub line_failed : AppendsLess b c (size_text line.table.now line.first line.last line.keys
          line.cells) → AppendsPrefix a c (sizes_text newest sizes)
      line_failed p =
          let text = size_text line.table.now line.first line.last line.keys line.cells in
          subst (AppendsPrefix a c) (sym (begins (i + 1)))
          (longer a c (lines (i + 1)) _ (subst (AppendsPrefix a c) later
          (after a b c (lines i) text before (of_less b c text p))))

    module _ (i n : ℕ) (e : i ≡ length sizes) (f : n ≡ length sizes)
        (before : Appends a b (lines i)) where
      ended : lines i ++ count_text n ≡ sizes_text newest sizes
      ended = (λ j. lines (e j) ++ count_text (f j)) ∙ sym all_lines

      -- the line after them was put
      pub count_put : Appends b c (count_text n) → Appends a c (sizes_text newest sizes)
      count_put p = subst (Appends a c) ended
          (Appends-trans a b c (lines i) (count_text n) before p)

      -- or the sink failed in it
      pub count_failed : AppendsLess b c (count_text n)
          → AppendsPrefix a c (sizes_text newest sizes)
      count_failed p = subst (AppendsPrefix a c) ended
          (after a b c (lines i) (count_text n) before (of_less b c (count_text n) p))
