-- Of a lifeline that was read, where its columns began.
use Rattle.std.proofs.Common.{◌≡◌, ℕ, List, sym, ap, ◌∙◌}
use Rattle.std.specs.Prelude.{Option}
use Rattle.relations_spec.specs.Spans.{Span}
use Rattle.history_store_spec.specs.Store.{Cell}
use Rattle.command_codec_spec.specs.Reading.{Out, Parsed, Unexpected, Parser, and_then, bind, pure}
use Rattle.command_codec_spec.specs.Reading.{map_to}
use Rattle.smo_ops_versions_spec.specs.Lifelines.{Lifeline}
use Rattle.store_image_spec.specs.Images.{StoredLine}
use Rattle.store_image_spec.specs.Reader.{columns, a_line}

module _ {H : Type 0} (p : Parser H) (q : Parser (List Span)) (last : Option ℕ)
    (due : Lifeline) where
  after_keys : (ks : List Span) (l : StoredLine) (rest : List ℕ) (o : Out (List (List Cell)))
      → and_then o (λ cells. pure (a_line due ks cells)) ≡ Parsed l rest → (ks ≡ l.keys)
      × (o ≡ Parsed l.cells rest)
  after_keys ks l rest (Parsed cells more) e = (
    (let z : a_line due ks cells ≡ l = cc in ap (λ (x : StoredLine). x.keys) z),
    (let z : a_line due ks cells ≡ l = cc in let w : more ≡ rest = cc in
        ap (λ c. Parsed c more) (ap (λ (x : StoredLine). x.cells) z)
        ∙ ap (λ r. Parsed l.cells r) w),
  )
  after_keys ks l rest (Unexpected more) e = absurd (cc)

  abbrev BeganAt : StoredLine → List ℕ → Type 0
  BeganAt l rest = (us : List ℕ) × (columns last l.keys due.columns us ≡ Parsed l.cells rest)

  after_head : (l : StoredLine) (rest : List ℕ) (o : Out (List Span))
      → and_then o (λ ks. map_to (a_line due ks) (columns last ks due.columns)) ≡ Parsed l rest
      → BeganAt l rest
  after_head l rest (Parsed ks us) e = let b =
      after_keys ks l rest (columns last ks due.columns us) e in
      (us, ap (λ k. columns last k due.columns us) (sym b.0) ∙ b.1)
  after_head l rest (Unexpected more) e = absurd (cc)

  pub parts_read : (ts : List ℕ) (l : StoredLine) (rest : List ℕ)
      → bind p (λ h. bind q (λ ks. map_to (a_line due ks) (columns last ks due.columns))) ts
      ≡ Parsed l rest → BeganAt l rest
  parts_read ts l rest e = step (p ts) e
    where
      step : (o : Out H) → and_then o (λ h. bind q
          (λ ks. map_to (a_line due ks) (columns last ks due.columns))) ≡ Parsed l rest
          → BeganAt l rest
      step (Parsed h us) f = after_head l rest (q us) f
      step (Unexpected more) f = absurd (cc)
