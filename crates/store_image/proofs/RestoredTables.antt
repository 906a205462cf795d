-- Tables made again of the lines of an image, one after the other.
use Rattle.std.proofs.Common.{◌≡◌, ◌<◌, ◌≤◌, ℕ, ◌+◌, List, [], ◌∷◌, ◌++◌, length, map, drop, get_or}
use Rattle.std.proofs.Common.{sym, ap, subst, ◌∙◌, append_assoc, append-nil, arith}
use Rattle.std.proofs.lemmas.List.{drop_more, drop_all, map-append}
use Rattle.std.proofs.lemmas.Slice.Zip.{get_or-zip, length-zip}
use Rattle.std.specs.List.{zip}
use Rattle.history_store_spec.specs.Store.{Store}
use Rattle.store_image_spec.specs.Images.{StoredLine, store_of}
use Rattle.store_image_reader.specs.Seen.{line_seen, stored_seen, lines_seen}
use Rattle.store_image_reader.specs.declared.due.DueLine.{DueLine}
use Rattle.store_image_reader.specs.declared.line.ReadLine.{ReadLine}
use Rattle.store_image.specs.ImageIn.{bare, CanBeMade, CanAllBeMade}

-- a line and what it is over, at a place of both lists
module _ (lines : List ReadLine) (due : List DueLine) (n : ℕ) (kept : ReadLine) (line : DueLine)
    (within : n < length (zip lines due))
    (is : (kept, line) ≡ get_or (zip lines due) n (kept, line)) where
  inside : (n < length lines) × (n < length due)
  inside = let fewer = length-zip lines due in
      (omega (arith, fewer, within), omega (arith, fewer, within))

  kept_is : kept ≡ get_or lines n kept
  kept_is = ap (λ (p : ReadLine × DueLine). p.0)
      (is ∙ get_or-zip lines due n (kept, line) inside.0 inside.1)

  line_is : line ≡ get_or due n line
  line_is = ap (λ (p : ReadLine × DueLine). p.1)
      (is ∙ get_or-zip lines due n (kept, line) inside.0 inside.1)

  lines_from : drop n lines ≡ kept ∷ drop (n + 1) lines
  lines_from = drop_more lines n kept inside.0 ∙ ap (λ l. l ∷ drop (n + 1) lines) (sym kept_is)

  due_from : drop n due ≡ line ∷ drop (n + 1) due
  due_from = drop_more due n line inside.1 ∙ ap (λ d. d ∷ drop (n + 1) due) (sym line_is)

  -- the next line, and those after it
  pub next_line : lines_seen (map line_seen (drop n due)) (drop n lines)
      ≡ stored_seen (line_seen line) kept
      ∷ lines_seen (map line_seen (drop (n + 1) due)) (drop (n + 1) lines)
  next_line = ap (lines_seen (map line_seen (drop n due))) lines_from
      ∙ ap (λ ds. lines_seen (map line_seen ds) (kept ∷ drop (n + 1) lines)) due_from

  pub next_made : CanAllBeMade (map line_seen (drop n due)) (drop n lines)
      → CanBeMade (line_seen line) kept
      × CanAllBeMade (map line_seen (drop (n + 1) due)) (drop (n + 1) lines)
  next_made h = subst (λ ds. CanAllBeMade (map line_seen ds) (kept ∷ drop (n + 1) lines)) due_from
      (subst (CanAllBeMade (map line_seen (drop n due))) lines_from h)

-- one table more
pub table_more : (tables new : List Store) (t : Store) (l : StoredLine)
    (before rest : List StoredLine) → new ≡ tables ++ t ∷ [] → bare t ≡ store_of l
    → before ≡ l ∷ rest
    → map bare new ++ map store_of rest ≡ map bare tables ++ map store_of before
table_more tables new t l before rest more is lines =
    ap (λ ts. map bare ts ++ map store_of rest) more
    ∙ ap (λ ss. ss ++ map store_of rest) (map-append bare tables (t ∷ []))
    ∙ append_assoc (map bare tables) (bare t ∷ []) (map store_of rest)
    ∙ ap (λ s. map bare tables ++ s ∷ map store_of rest) is
    ∙ ap (λ ls. map bare tables ++ map store_of ls) (sym lines)

-- all tables, where there is a line for each that is due
pub all_restored : (tables : List Store) (lines : List ReadLine) (due : List DueLine) (n : ℕ)
    (whole : List Store) → length due ≤ length lines → n ≡ length (zip lines due)
    → map bare tables ++ map store_of (lines_seen (map line_seen (drop n due)) (drop n lines))
    ≡ whole → map bare tables ≡ whole
all_restored tables lines due n whole enough ended so =
    let fewer = length-zip lines due in
    sym (append-nil (map bare tables))
    ∙ sym (ap (λ ds. map bare tables ++ map store_of (lines_seen (map line_seen ds) (drop n lines)))
    (drop_all n due (omega (arith, fewer, enough, ended))))
    ∙ so
