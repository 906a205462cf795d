-- The reader stops where the one does that compares no rows, or at a lifeline that shows one row
-- twice.
use Rattle.std.proofs.Common.{◌≡◌, ◌⊎◌, inl, inr, ℕ, List, [], ◌∷◌, ◌++◌, refl}
use Rattle.std.proofs.Common.{◌≤◌, sym, ap, ◌∙◌, subst, arith}
use Rattle.std.specs.Prelude.{Option, None}
use Rattle.std.specs.List.{flat_map}
use Rattle.relations_spec.proofs.SetLaws.{in_left}
use Rattle.smo_ops_types.specs.Commands.{PlainVersion}
use Rattle.smo_ops_spec.specs.Past.{no_tables}
use Rattle.command_codec_spec.specs.Reading.{Out, Parsed, Unexpected, and_then, bind}
use Rattle.command_codec_spec.specs.Encoding.{number, list_bytes}
use Rattle.command_codec_spec.proofs.Correctness.{true_false}
use Rattle.smo_ops_versions_spec.specs.Lifelines.{Lifeline, lifelines_of}
use Rattle.store_image_spec.specs.Images.{StoredLine, Image}
use Rattle.store_image_spec.specs.Encoding.{last_bytes, version_bytes, stored_bytes}
use Rattle.store_image_spec.specs.Items.{item}
use Rattle.store_image_spec.specs.Reader.{number_32, last_stamp, all_versions, lines, all_lines}
use Rattle.store_image_spec.specs.Reader.{nothing_after, an_image, image}
use Rattle.store_image_spec.proofs.Apartness.{apart_at_starts}
use Rattle.store_image_spec.proofs.ReadParts.{IsLast, most_32, reads_last, reads_all_versions}
use Rattle.store_image_spec.proofs.ReadParts.{BodyRead}
use Rattle.store_image_breaks_spec.specs.Breaks.{ShowsTwice}
use Rattle.store_image_breaks_spec.proofs.Openly.{open_lines, all_open_lines, open_image, AreBodies}
use Rattle.store_image_breaks_spec.proofs.Openly.{TwiceIn, lines_stop, lines_whole}
use Rattle.store_image_breaks_spec.proofs.Stops.{behind, AreSoFar, counted_32}
use Rattle.store_image_breaks_spec.proofs.StopsInLines.{AreKept, read_kept, nothing_over}
use Rattle.store_image_breaks_spec.proofs.StopsInLines.{nothing_is_over, IsReadDraft}
use Rattle.store_image_breaks_spec.proofs.Drafted.{read_is_draft}
use Rattle.store_image_breaks_spec.proofs.ApartLines.{shows_apart}

kept_all : (last : Option ℕ) (done : List Lifeline) (here : Lifeline) (after : List Lifeline)
    (earlier : List StoredLine) (line : StoredLine) → AreBodies last done earlier
    → BodyRead last here line
    → AreKept last (done ++ here ∷ after) (earlier ++ line ∷ nothing_over after)
kept_all last [] here after [] line h k = (
  read_kept last here line k,
  nothing_is_over last after,
)
kept_all last [] here after (l ∷ earlier) line h k = absurd h
kept_all last (d ∷ done) here after [] line h k = absurd h
kept_all last (d ∷ done) here after (l ∷ earlier) line h k = (
  read_kept last d l h.0,
  kept_all last done here after earlier line h.1 k,
)

module _ (last : Option ℕ) (ts us rest : List ℕ) (is_last : IsLast last)
    (e : ts ≡ last_bytes last ++ us) where
  shown : (vs : List PlainVersion) (vus more : List ℕ) (n : ℕ) → n ≤ most_32
      → AreSoFar last 0 None no_tables vs → us ≡ list_bytes 4 version_bytes vs ++ vus
      → vus ≡ number 4 n ++ more
      → TwiceIn last n (lifelines_of vs) more rest → ShowsTwice ts rest
  shown vs vus more n few h f k t = record {
    image = an_image last vs (t.earlier ++ t.line ∷ nothing_over t.after);
    draft = read_is_draft made kept;
    earlier = t.earlier;
    line = t.line;
    later = nothing_over t.after;
    lines = refl;
    apart = λ l i. shows_apart made (read_is_draft made kept) l
        (in_left l t.earlier (t.line ∷ nothing_over t.after) i) (t.apart l i);
    count = n;
    counted = omega (arith, few);
    enough = t.enough;
    are = behind (last_bytes last ++ list_bytes 4 version_bytes vs ++ number 4 n) ts more
        (flat_map stored_bytes t.earlier) rest
        (behind (last_bytes last ++ list_bytes 4 version_bytes vs) ts vus (number 4 n) more
        (behind (last_bytes last) ts us (list_bytes 4 version_bytes vs) vus e f) k) t.are;
    more = t.more;
    whole = t.whole;
    twice = λ apart. true_false (sym (apart_at_starts t.line.keys t.line.cells apart) ∙ t.twice);
  }
    where
      made : Image
      made = an_image last vs (t.earlier ++ t.line ∷ nothing_over t.after)

      kept : IsReadDraft made
      kept = record {
        last = is_last;
        versions = h;
        lines = subst (λ ds. AreKept last ds (t.earlier ++ t.line ∷ nothing_over t.after))
            (sym t.are_due)
            (kept_all last t.done t.here t.after t.earlier t.line t.read t.kept);
      }

  abbrev Opened : List PlainVersion → List ℕ → Type 0
  Opened vs vus = (bind (all_open_lines last (lifelines_of vs))
      (λ ls. nothing_after (an_image last vs ls)) vus ≡ Unexpected rest) ⊎ ShowsTwice ts rest

  abbrev Goes : List PlainVersion → ℕ → List ℕ → Type 0
  Goes vs n more = and_then (open_lines last n (lifelines_of vs) more)
      (λ ls. nothing_after (an_image last vs ls)) ≡ Unexpected rest

  in_count : (vs : List PlainVersion) (vus : List ℕ) → AreSoFar last 0 None no_tables vs
      → us ≡ list_bytes 4 version_bytes vs ++ vus → (o : Out ℕ) → item number_32 vus ≡ o
      → and_then (and_then o (λ n. lines last n (lifelines_of vs)))
      (λ ls. nothing_after (an_image last vs ls)) ≡ Unexpected rest → Opened vs vus
  in_count vs vus h f (Unexpected more) q g =
      let same : more ≡ rest = cc in
      inl (ap (λ o. and_then (and_then o (λ n. open_lines last n (lifelines_of vs)))
      (λ ls. nothing_after (an_image last vs ls))) q ∙ ap Unexpected same)
  in_count vs vus h f (Parsed n more) q g =
      by (lines last n (lifelines_of vs) more) refl g
    where
      told : Goes vs n more ⊎ TwiceIn last n (lifelines_of vs) more rest → Opened vs vus
      told (inl stops) = inl (ap (λ o. and_then (and_then o (λ m.
          open_lines last m (lifelines_of vs))) (λ ls. nothing_after (an_image last vs ls))) q
          ∙ stops)
      told (inr t) =
          let x = counted_32.sound vus n more q in inr (shown vs vus more n x.0 h f x.1 t)

      opened : (open_lines last n (lifelines_of vs) more ≡ Unexpected rest)
          ⊎ TwiceIn last n (lifelines_of vs) more rest
          → Goes vs n more ⊎ TwiceIn last n (lifelines_of vs) more rest
      opened (inl stops) = inl (ap (λ o. and_then o
          (λ ls. nothing_after (an_image last vs ls))) stops)
      opened (inr t) = inr t

      by : (o : Out (List StoredLine)) → lines last n (lifelines_of vs) more ≡ o
          → and_then o (λ ls. nothing_after (an_image last vs ls)) ≡ Unexpected rest
          → Opened vs vus
      by (Parsed ls end) r s = told (inl (ap (λ o. and_then o
          (λ ls. nothing_after (an_image last vs ls)))
          (lines_whole last n (lifelines_of vs) more end ls r) ∙ s))
      by (Unexpected end) r s =
          let same : end ≡ rest = cc in
          told (opened (lines_stop last n (lifelines_of vs) more rest (r ∙ ap Unexpected same)))

  in_versions : (o : Out (List PlainVersion)) → all_versions last us ≡ o
      → and_then o (λ vs. bind (all_lines last (lifelines_of vs))
      (λ ls. nothing_after (an_image last vs ls))) ≡ Unexpected rest
      → (bind (all_versions last) (λ vs. bind (all_open_lines last (lifelines_of vs))
      (λ ls. nothing_after (an_image last vs ls))) us ≡ Unexpected rest) ⊎ ShowsTwice ts rest
  unfolding all_lines
  in_versions (Unexpected more) q g =
      let same : more ≡ rest = cc in
      inl (ap (λ o. and_then o (λ vs. bind (all_open_lines last (lifelines_of vs))
      (λ ls. nothing_after (an_image last vs ls)))) q ∙ ap Unexpected same)
  in_versions (Parsed vs vus) q g =
      let x = (reads_all_versions last).sound us vs vus q in
      told (in_count vs vus x.0.1 x.1 (item number_32 vus) refl g)
    where
      told : Opened vs vus → (bind (all_versions last)
          (λ vs. bind (all_open_lines last (lifelines_of vs))
          (λ ls. nothing_after (an_image last vs ls))) us ≡ Unexpected rest) ⊎ ShowsTwice ts rest
      told (inl stops) = inl (ap (λ o. and_then o
          (λ vs. bind (all_open_lines last (lifelines_of vs))
          (λ ls. nothing_after (an_image last vs ls)))) q ∙ stops)
      told (inr t) = inr t

pub image_opens : (ts rest : List ℕ) → image ts ≡ Unexpected rest
    → (open_image ts ≡ Unexpected rest) ⊎ ShowsTwice ts rest
unfolding image
image_opens ts rest e = step (last_stamp ts) refl e
  where
    next : Option ℕ → List ℕ → Out Image
    next last = bind (all_versions last) (λ vs. bind (all_open_lines last (lifelines_of vs))
        (λ ls. nothing_after (an_image last vs ls)))

    told : (last : Option ℕ) (us : List ℕ) → last_stamp ts ≡ Parsed last us
        → (next last us ≡ Unexpected rest) ⊎ ShowsTwice ts rest
        → (open_image ts ≡ Unexpected rest) ⊎ ShowsTwice ts rest
    told last us q (inl stops) = inl (ap (λ o. and_then o next) q ∙ stops)
    told last us q (inr t) = inr t

    step : (o : Out (Option ℕ)) → last_stamp ts ≡ o
        → and_then o (λ last. bind (all_versions last) (λ vs.
        bind (all_lines last (lifelines_of vs)) (λ ls. nothing_after (an_image last vs ls))))
        ≡ Unexpected rest → (open_image ts ≡ Unexpected rest) ⊎ ShowsTwice ts rest
    step (Parsed last us) q g =
        let x = reads_last.sound ts last us q in
        told last us q (in_versions last ts us rest x.0 x.1 (all_versions last us) refl g)
    step (Unexpected us) q g =
        let same : us ≡ rest = cc in
        inl (ap (λ o. and_then o next) q ∙ ap Unexpected same)
