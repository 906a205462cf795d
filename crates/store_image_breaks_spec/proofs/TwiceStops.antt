-- The reader of images stops at a lifeline that shows one row twice, where nothing before it is
-- wrong; and the one that compares no rows goes on.
use Rattle.std.proofs.Common.{◌≡◌, inl, inr, ℕ, zero, suc, ◌+◌, ◌^◌, ◌<◌, Bool, true}
use Rattle.std.proofs.Common.{false, List, [], ◌∷◌, ◌++◌, length, refl, sym, ap, ◌∙◌, subst}
use Rattle.std.proofs.Common.{append_assoc, append-nil, length-append, arith}
use Rattle.std.specs.Prelude.{Option, if◌then◌else◌}
use Rattle.std.specs.List.{flat_map}
use Rattle.relations_spec.specs.Sets.{In}
use Rattle.smo_ops_types.specs.Commands.{PlainVersion}
use Rattle.command_codec_spec.specs.Reading.{Parsed, Unexpected, and_then, bind}
use Rattle.command_codec_spec.specs.Reading.{map_to}
use Rattle.command_codec_spec.specs.Encoding.{number, list_bytes}
use Rattle.smo_ops_versions_spec.specs.Lifelines.{Lifeline, lifelines_of}
use Rattle.store_image_spec.specs.Images.{StoredLine}
use Rattle.store_image_spec.specs.Encoding.{last_bytes, version_bytes, stored_bytes}
use Rattle.store_image_spec.specs.Items.{if_right}
use Rattle.store_image_spec.specs.Reader.{all_versions, has_apart, lines}
use Rattle.store_image_spec.specs.Reader.{stored_line, all_lines, nothing_after, an_image, image}
use Rattle.store_image_spec.proofs.Places.{Leaves}
use Rattle.store_image_spec.proofs.ReadParts.{reads_last, reads_all_versions, reads_kept}
use Rattle.store_image_breaks_spec.specs.Agreement.{AreFirst, BeginsLine, BeginsImage}
use Rattle.store_image_breaks_spec.specs.Breaks.{ShowsTwice}
use Rattle.store_image_breaks_spec.proofs.ByteCounts.{line_some}
use Rattle.store_image_breaks_spec.proofs.Openly.{open_image, stops_map}
use Rattle.store_image_breaks_spec.proofs.Within.{AreFull, IsFull, counted_body, within_image}
use Rattle.store_image_breaks_spec.proofs.Within.{shorter}
use Rattle.store_image_breaks_spec.proofs.Full.{draft_is_full}
use Rattle.store_image_breaks_spec.proofs.Stops.{counted_32}
use Rattle.store_image_breaks_spec.proofs.ApartLines.{in_middle, found_apart, found_twice}

-- ---- lifelines

module _ (last : Option ℕ) (line : StoredLine) (more : List ℕ) where
  lines_twice : (n : ℕ) (due : List Lifeline) (earlier later : List StoredLine)
      → AreFull last due (earlier ++ line ∷ later)
      → ((l : StoredLine) → In l earlier → has_apart l ≡ true) → has_apart line ≡ false
      → length earlier < n
      → length (flat_map stored_bytes earlier ++ (stored_bytes line ++ more)) < 2 ^ 64
      → lines last n due (flat_map stored_bytes earlier ++ (stored_bytes line ++ more))
      ≡ Unexpected (stored_bytes line ++ more)
  unfolding lines stored_line
  lines_twice zero due earlier later h a t enough few = absurd (omega (arith, enough))
  lines_twice (suc n) [] [] later h a t enough few = absurd h
  lines_twice (suc n) [] (e ∷ earlier) later h a t enough few = absurd h
  lines_twice (suc n) (d ∷ due) [] later h a t enough few =
      let s = shorter (stored_bytes line ++ more) (stored_bytes line) more refl few in
      let got = (reads_kept last d).complete line
      (h.0.0, counted_body last d line h.0.1 s.0) more in
      ap (λ o. and_then (if_right (stored_bytes line ++ more) has_apart o)
      (λ l. map_to (λ ls. l ∷ ls) (lines last n due))) got
      ∙ ap (λ (b : Bool). and_then (if b then Parsed line more
      else Unexpected (stored_bytes line ++ more))
      (λ l. map_to (λ ls. l ∷ ls) (lines last n due))) t
  lines_twice (suc n) (d ∷ due) (e ∷ earlier) later h a t enough few =
      let same = append_assoc (stored_bytes e) (flat_map stored_bytes earlier)
      (stored_bytes line ++ more) in
      let s = shorter (flat_map stored_bytes (e ∷ earlier) ++ (stored_bytes line ++ more))
      (stored_bytes e) (flat_map stored_bytes earlier ++ (stored_bytes line ++ more)) same few in
      let got = (reads_kept last d).complete e (h.0.0, counted_body last d e h.0.1 s.0)
      (flat_map stored_bytes earlier ++ (stored_bytes line ++ more)) in
      ap (lines last (suc n) (d ∷ due)) same
      ∙ ap (λ o. and_then (if_right (stored_bytes e ++ (flat_map stored_bytes earlier
      ++ (stored_bytes line ++ more))) has_apart o)
      (λ l. map_to (λ ls. l ∷ ls) (lines last n due))) got
      ∙ ap (λ (b : Bool). and_then (if b then Parsed e (flat_map stored_bytes earlier
      ++ (stored_bytes line ++ more))
      else Unexpected (stored_bytes e ++ (flat_map stored_bytes earlier
      ++ (stored_bytes line ++ more))))
      (λ l. map_to (λ ls. l ∷ ls) (lines last n due))) (a e (inl refl))
      ∙ stops_map (λ ls. e ∷ ls) (lines last n due (flat_map stored_bytes earlier
      ++ (stored_bytes line ++ more))) (stored_bytes line ++ more)
      (lines_twice n due earlier later h.1 (λ l i. a l (inr i)) t
      (let k = enough in omega (arith, k)) s.1)

-- none of a list's items
nothing_first : (n : ℕ) (l : List StoredLine) → AreFirst BeginsLine stored_bytes n l []
nothing_first zero l = refl
nothing_first (suc n) [] = refl
nothing_first (suc n) (x ∷ l) = inl (inl refl)

-- up to the end of a lifeline
lines_begin : (n : ℕ) (earlier : List StoredLine) (line : StoredLine) (later : List StoredLine)
    → length earlier < n → AreFirst BeginsLine stored_bytes n (earlier ++ line ∷ later)
    (flat_map stored_bytes earlier ++ stored_bytes line)
lines_begin zero earlier line later enough = absurd (omega (arith, enough))
lines_begin (suc n) [] line later enough =
    inr ([], sym (append-nil (stored_bytes line)), nothing_first n later)
lines_begin (suc n) (e ∷ earlier) line later enough = inr (
  flat_map stored_bytes earlier ++ stored_bytes line,
  append_assoc (stored_bytes e) (flat_map stored_bytes earlier) (stored_bytes line),
  lines_begin n earlier line later (let k = enough in omega (arith, k)),
)

-- ---- images

module _ (bytes rest : List ℕ) (few : length bytes < 2 ^ 64) (t : ShowsTwice bytes rest) where
  abbrev last : Option ℕ
  last = t.image.last

  abbrev vs : List PlainVersion
  vs = t.image.versions

  full : IsFull t.image
  full = draft_is_full t.image t.draft

  -- the bytes behind the last stamp, behind the versions and behind the count
  abbrev behind_last : List ℕ
  behind_last = list_bytes 4 version_bytes vs
      ++ (number 4 t.count ++ (flat_map stored_bytes t.earlier ++ rest))

  in_order : bytes ≡ last_bytes last ++ behind_last
  in_order = t.are
      ∙ append_assoc (last_bytes last ++ list_bytes 4 version_bytes vs ++ number 4 t.count)
      (flat_map stored_bytes t.earlier) rest
      ∙ append_assoc (last_bytes last ++ list_bytes 4 version_bytes vs) (number 4 t.count)
      (flat_map stored_bytes t.earlier ++ rest)
      ∙ append_assoc (last_bytes last) (list_bytes 4 version_bytes vs)
      (number 4 t.count ++ (flat_map stored_bytes t.earlier ++ rest))

  there : In t.line t.image.lines
  there = subst (In t.line) (sym t.lines) (in_middle t.line t.earlier t.later)

  few_lines : length (flat_map stored_bytes t.earlier ++ rest) < 2 ^ 64
  few_lines =
      let a = shorter bytes (last_bytes last) behind_last in_order few in
      let b = shorter behind_last (list_bytes 4 version_bytes vs)
      (number 4 t.count ++ (flat_map stored_bytes t.earlier ++ rest)) refl a.1 in
      (shorter (number 4 t.count ++ (flat_map stored_bytes t.earlier ++ rest)) (number 4 t.count)
      (flat_map stored_bytes t.earlier ++ rest) refl b.1).1

  lines_stop : lines last t.count (lifelines_of vs) (flat_map stored_bytes t.earlier ++ rest)
      ≡ Unexpected rest
  lines_stop = subst (λ r. length (flat_map stored_bytes t.earlier ++ r) < 2 ^ 64
      → lines last t.count (lifelines_of vs) (flat_map stored_bytes t.earlier ++ r)
      ≡ Unexpected r) (sym t.whole)
      (lines_twice last t.line t.more t.count (lifelines_of vs) t.earlier t.later
      (subst (AreFull last (lifelines_of vs)) t.lines full.lines)
      (λ l i. found_apart l (t.apart l i)) (found_twice t.image t.draft t.line there t.twice)
      t.enough) few_lines

  pub twice_stops : image bytes ≡ Unexpected rest
  unfolding image all_lines
  twice_stops =
      ap image in_order
      ∙ ap (λ o. and_then o (λ l. bind (all_versions l) (λ v.
      bind (all_lines l (lifelines_of v)) (λ ls. nothing_after (an_image l v ls)))))
      (reads_last.complete last full.last behind_last)
      ∙ ap (λ o. and_then o (λ v. bind (all_lines last (lifelines_of v))
      (λ ls. nothing_after (an_image last v ls))))
      ((reads_all_versions last).complete vs full.versions
      (number 4 t.count ++ (flat_map stored_bytes t.earlier ++ rest)))
      ∙ ap (λ o. and_then (and_then o (λ n. lines last n (lifelines_of vs)))
      (λ ls. nothing_after (an_image last vs ls)))
      (counted_32.complete t.count (let k = t.counted in omega (arith, k))
      (flat_map stored_bytes t.earlier ++ rest))
      ∙ ap (λ o. and_then o (λ ls. nothing_after (an_image last vs ls))) lines_stop

  -- all up to the end of the lifeline
  abbrev first : List ℕ
  first = last_bytes last ++ (list_bytes 4 version_bytes vs
      ++ (number 4 t.count ++ (flat_map stored_bytes t.earlier ++ stored_bytes t.line)))

  begins : BeginsImage t.image first
  begins = inr (
    list_bytes 4 version_bytes vs
        ++ (number 4 t.count ++ (flat_map stored_bytes t.earlier ++ stored_bytes t.line)),
    refl,
    inr (
      number 4 t.count ++ (flat_map stored_bytes t.earlier ++ stored_bytes t.line),
      refl,
      inr (
        t.count,
        flat_map stored_bytes t.earlier ++ stored_bytes t.line,
        (let k = t.counted in omega (arith, k)),
        refl,
        subst (λ l. AreFirst BeginsLine stored_bytes t.count l
            (flat_map stored_bytes t.earlier ++ stored_bytes t.line)) (sym t.lines)
            (lines_begin t.count t.earlier t.line t.later t.enough),
      ),
    ),
  )

  then_more : bytes ≡ first ++ t.more
  then_more = in_order
      ∙ ap (λ r. last_bytes last ++ (list_bytes 4 version_bytes vs
      ++ (number 4 t.count ++ (flat_map stored_bytes t.earlier ++ r)))) t.whole
      ∙ sym (
      append_assoc (last_bytes last) (list_bytes 4 version_bytes vs
      ++ (number 4 t.count ++ (flat_map stored_bytes t.earlier ++ stored_bytes t.line))) t.more
      ∙ ap (λ r. last_bytes last ++ r)
      (append_assoc (list_bytes 4 version_bytes vs)
      (number 4 t.count ++ (flat_map stored_bytes t.earlier ++ stored_bytes t.line)) t.more
      ∙ ap (λ r. list_bytes 4 version_bytes vs ++ r)
      (append_assoc (number 4 t.count) (flat_map stored_bytes t.earlier ++ stored_bytes t.line)
      t.more
      ∙ ap (λ r. number 4 t.count ++ r)
      (append_assoc (flat_map stored_bytes t.earlier) (stored_bytes t.line) t.more))))

  -- the reader that compares no rows does not stop there
  pub goes_on : open_image bytes ≡ Unexpected rest → ⊥
  goes_on e =
      let s = shorter bytes first t.more then_more few in
      let at = subst (λ o. Leaves t.more o) (ap open_image (sym then_more) ∙ e)
      (within_image t.image full first t.more s.0 begins) in
      let a = ap length at.1 ∙ length-append at.0 rest in
      let b = ap length t.whole ∙ length-append (stored_bytes t.line) t.more in
      let c = line_some t.line in
      omega (arith, a, b, c)
