-- Bytes with no end of a statement are parts, or parts up to a text that does not end.
use Rattle.std.proofs.Common.{◌≡◌, ℕ, Bool, true, false, not, cond, ◌||◌, ◌==◌, eqb-true, List, []}
use Rattle.std.proofs.Common.{◌∷◌, ◌++◌, refl, sym, ap, ◌∙◌, subst, append_assoc, append-nil, inl}
use Rattle.std.proofs.Common.{inr}
use Rattle.std.specs.Prelude.{◌⊎◌}
use Rattle.lexer_spec.specs.Bytes.{is_blank}
use Rattle.lexer_spec.specs.Spaced.{Each, in_line, NoneNext, no_gap, a_blank, a_comment}
use Rattle.lexer_spec.specs.Spaced.{last_comment, GapEnds, is_quote}
use Rattle.script_parse.specs.declared.mode.Mode.{Mode}
use Rattle.script_parse.specs.declared.mode.Mode.TheVariants.{Plain, Dash, Quoted, Comment}
use Rattle.script_parse.specs.Script.{next, is_end, mode_after}
use Rattle.script_parse.specs.Joining.{has_end}
use Rattle.script_parse_laws.specs.Parts.{IsInside, nothing, a_byte, a_quote, IsPart, gap, text}
use Rattle.script_parse_laws.specs.Parts.{other}
use Rattle.script_parse_laws.specs.Parts.{AreParts, no_part, a_part, HasOpenText}
use Rattle.script_parse_laws.proofs.Bytes.{true_false, by_test, no_gap_at, no_comment_at}
use Rattle.script_parse_laws.proofs.PartModes.{is_dash, plain_byte}
use Rattle.script_parse_laws.proofs.Prefixes.{one_part, open_after}

or_both : (a b : Bool) → (a || b) ≡ false → (a ≡ false) × (b ≡ false)
or_both true b h = true_false h
or_both false b h = (refl, h)

-- after a single dash
dash_same : (c : ℕ) → is_dash c ≡ false → next Dash c ≡ next Plain c
dash_same c d = ap (λ t. cond (c == 39) Quoted (cond t Comment Plain)) d
    ∙ sym (ap (λ t. cond (c == 39) Quoted (cond t Dash Plain)) d)

single_dash : (l : List ℕ) → NoneNext is_dash l → GapEnds (45 ∷ l)
single_dash [] h = refl
single_dash (c ∷ l) h = no_comment_at 45 c l refl h

-- of bytes before the rest, which begins with no quote and no dash
module _ (rest : List ℕ) (quote : NoneNext is_quote rest) (dash : NoneNext is_dash rest) where
  abbrev pub Split : List ℕ → Type 0
  Split bytes = AreParts bytes rest ⊎ ((rest ≡ []) × HasOpenText bytes)

  -- after an opening quote
  abbrev QuoteSplit : List ℕ → Type 0
  QuoteSplit bytes = ((inside : List ℕ) × (more : List ℕ) × (bytes ≡ inside ++ 39 ∷ more)
      × IsInside inside × NoneNext is_quote (more ++ rest) × Split more)
      ⊎ ((rest ≡ []) × IsInside bytes)

  -- in a comment
  abbrev LineSplit : List ℕ → Type 0
  LineSplit bytes = ((line : List ℕ) × (more : List ℕ) × (bytes ≡ line ++ 10 ∷ more)
      × Each in_line line × Split more) ⊎ ((rest ≡ []) × Each in_line bytes)

  -- what is open at the end is the last of the script
  abbrev Last : Mode → List ℕ → Type 0
  Last m bytes = is_end (mode_after m bytes) 59 ≡ false → rest ≡ []

  abbrev Reads : Mode → List ℕ → Type 0 → Type 0
  Reads m bytes X = has_end m bytes ≡ false → Last m bytes → X

  as_mode : (m n : Mode) (bytes : List ℕ) (X : Type 0) → m ≡ n → Reads n bytes X → Reads m bytes X
  as_mode m n bytes X e r = let P : Mode → Type 0 = λ k. Reads k bytes X in subst P (sym e) r

  abbrev All : List ℕ → Type 0
  All bytes = Reads Plain bytes (Split bytes) × Reads Quoted bytes (QuoteSplit bytes)
      × Reads Comment bytes (LineSplit bytes)

  after : (part bytes : List ℕ) → IsPart part (bytes ++ rest) → Split bytes → Split (part ++ bytes)
  after part bytes p (inl h) = inl (a_part part bytes rest p h)
  after part bytes p (inr h) =
      let P : List ℕ → Type 0 = λ l. IsPart part l in
      inr (h.0, open_after part bytes (subst P (ap (λ l. bytes ++ l) h.0 ∙ append-nil bytes) p) h.1)

  -- ---- texts

  from_quote : (bytes : List ℕ) → QuoteSplit bytes → Split (39 ∷ bytes)
  from_quote bytes (inl h) =
      let P : List ℕ → Type 0 = λ l. Split l in
      subst P (ap (λ l. 39 ∷ l) (append_assoc h.0 (39 ∷ []) h.1 ∙ sym h.2))
      (after (39 ∷ (h.0 ++ 39 ∷ [])) h.1 (text h.0 (h.1 ++ rest) h.3 h.4) h.5)
  from_quote bytes (inr h) = inr (h.0, ([], bytes, refl, no_part (39 ∷ bytes), h.1))

  quote_more : (b : ℕ) (bytes : List ℕ) → is_quote b ≡ false → QuoteSplit bytes
      → QuoteSplit (b ∷ bytes)
  quote_more b bytes q (inl h) = inl (
    b ∷ h.0,
    h.1,
    ap (λ l. b ∷ l) h.2,
    a_byte b h.0 q h.3,
    h.4,
    h.5,
  )
  quote_more b bytes q (inr h) = inr (h.0, a_byte b bytes q h.1)

  quote_two : (bytes : List ℕ) → QuoteSplit bytes → QuoteSplit (39 ∷ 39 ∷ bytes)
  quote_two bytes (inl h) = inl (
    39 ∷ 39 ∷ h.0,
    h.1,
    ap (λ l. 39 ∷ 39 ∷ l) h.2,
    a_quote h.0 h.3,
    h.4,
    h.5,
  )
  quote_two bytes (inr h) = inr (h.0, a_quote bytes h.1)

  quote_ends : (more : List ℕ) → NoneNext is_quote (more ++ rest) → Split more
      → QuoteSplit (39 ∷ more)
  quote_ends more n h = inl ([], more, refl, nothing, n, h)

  in_text : (b : ℕ) (bytes : List ℕ) → is_quote b ≡ false → Reads Quoted bytes (QuoteSplit bytes)
      → Reads Quoted (b ∷ bytes) (QuoteSplit (b ∷ bytes))
  in_text b bytes q r h l = quote_more b bytes q
      (as_mode (next Quoted b) Quoted bytes (QuoteSplit bytes) (ap (λ t. cond t Plain Quoted) q) r h
      l)

  closes : (b : ℕ) (bytes : List ℕ) → is_quote b ≡ true → NoneNext is_quote (bytes ++ rest)
      → Reads Plain bytes (Split bytes) → Reads Quoted (b ∷ bytes) (QuoteSplit (b ∷ bytes))
  closes b bytes q n r =
      let P : ℕ → Type 0 = λ k. Reads Quoted (k ∷ bytes) (QuoteSplit (k ∷ bytes)) in
      subst P (sym (eqb-true b 39 q)) (λ h l. quote_ends bytes n (r h l))

  doubles : (b c : ℕ) (bytes : List ℕ) → is_quote b ≡ true → is_quote c ≡ true
      → Reads Quoted bytes (QuoteSplit bytes)
      → Reads Quoted (b ∷ c ∷ bytes) (QuoteSplit (b ∷ c ∷ bytes))
  doubles b c bytes q p r =
      let P : ℕ → Type 0 = λ k. Reads Quoted (k ∷ c ∷ bytes) (QuoteSplit (k ∷ c ∷ bytes)) in
      let Q : ℕ → Type 0 = λ k. Reads Quoted (39 ∷ k ∷ bytes) (QuoteSplit (39 ∷ k ∷ bytes)) in
      subst P (sym (eqb-true b 39 q)) (subst Q (sym (eqb-true c 39 p))
      (λ h l. quote_two bytes (r h l)))

  -- ---- comments

  from_line : (bytes : List ℕ) → LineSplit bytes → Split (45 ∷ 45 ∷ bytes)
  from_line bytes (inl h) =
      let P : List ℕ → Type 0 = λ l. Split l in
      subst P (ap (λ l. 45 ∷ 45 ∷ l) (append_assoc h.0 (10 ∷ []) h.1 ∙ sym h.2))
      (after (45 ∷ 45 ∷ (h.0 ++ 10 ∷ [])) h.1
      (gap (45 ∷ 45 ∷ (h.0 ++ 10 ∷ [])) (h.1 ++ rest)
      (a_comment h.0 [] (h.1 ++ rest) h.3 (no_gap (h.1 ++ rest)))) h.4)
  from_line bytes (inr h) =
      let P : List ℕ → Type 0 = λ l. AreParts (45 ∷ 45 ∷ bytes) l in
      inl (subst P (sym h.0) (one_part (45 ∷ 45 ∷ bytes) []
      (gap (45 ∷ 45 ∷ bytes) [] (last_comment bytes h.1))))

  line_more : (b : ℕ) (bytes : List ℕ) → in_line b ≡ true → LineSplit bytes → LineSplit (b ∷ bytes)
  line_more b bytes q (inl h) = inl (b ∷ h.0, h.1, ap (λ l. b ∷ l) h.2, (q, h.3), h.4)
  line_more b bytes q (inr h) = inr (h.0, (q, h.1))

  in_comment : (b : ℕ) (bytes : List ℕ) → All bytes
      → Reads Comment (b ∷ bytes) (LineSplit (b ∷ bytes))
  in_comment b bytes r = by_test (b == 10)
      (λ e. let P : ℕ → Type 0 = λ k. Reads Comment (k ∷ bytes) (LineSplit (k ∷ bytes)) in
      subst P (sym (eqb-true b 10 e)) (λ h l. inl ([], bytes, refl, tt, r.0 h l)))
      (λ e h l. line_more b bytes (ap not e) (as_mode (next Comment b) Comment bytes
      (LineSplit bytes) (ap (λ t. cond t Plain Comment) e) r.2 h l))

  -- ---- outside of them

  opens : (b : ℕ) (bytes : List ℕ) → is_quote b ≡ true → All bytes
      → Reads Plain (b ∷ bytes) (Split (b ∷ bytes))
  opens b bytes q r =
      let P : ℕ → Type 0 = λ k. Reads Plain (k ∷ bytes) (Split (k ∷ bytes)) in
      subst P (sym (eqb-true b 39 q)) (λ h l. from_quote bytes (r.1 h l))

  goes_on : (b : ℕ) (bytes : List ℕ) → is_quote b ≡ false → is_dash b ≡ false → All bytes
      → Reads Plain (b ∷ bytes) (Split (b ∷ bytes))
  goes_on b bytes q d r h l =
      let s = or_both (b == 59) (has_end (next Plain b) bytes) h in
      let k : Split bytes = as_mode (next Plain b) Plain bytes (Split bytes) (plain_byte b q d) r.0
      s.1 l in
      by_test (is_blank b)
      (λ e. after (b ∷ []) bytes (gap (b ∷ []) (bytes ++ rest)
      (a_blank b [] (bytes ++ rest) e (no_gap (bytes ++ rest)))) k)
      (λ e. after (b ∷ []) bytes (other b (bytes ++ rest) (no_gap_at b (bytes ++ rest) e d, q, s.0))
      k)

  last_dash : (b : ℕ) → is_dash b ≡ true → Split (b ∷ [])
  last_dash b d =
      let P : ℕ → Type 0 = λ k. Split (k ∷ []) in
      subst P (sym (eqb-true b 45 d)) (inl (one_part (45 ∷ []) rest
      (other 45 rest (single_dash rest dash, refl, refl))))

  two_dashes : (b c : ℕ) (bytes : List ℕ) → is_dash b ≡ true → is_dash c ≡ true → All bytes
      → Reads Plain (b ∷ c ∷ bytes) (Split (b ∷ c ∷ bytes))
  two_dashes b c bytes d e r =
      let P : ℕ → Type 0 = λ k. Reads Plain (k ∷ c ∷ bytes) (Split (k ∷ c ∷ bytes)) in
      let Q : ℕ → Type 0 = λ k. Reads Plain (45 ∷ k ∷ bytes) (Split (45 ∷ k ∷ bytes)) in
      subst P (sym (eqb-true b 45 d)) (subst Q (sym (eqb-true c 45 e))
      (λ h l. from_line bytes (r.2 h l)))

  one_dash : (b c : ℕ) (bytes : List ℕ) → is_dash b ≡ true → is_dash c ≡ false → All (c ∷ bytes)
      → Reads Plain (b ∷ c ∷ bytes) (Split (b ∷ c ∷ bytes))
  one_dash b c bytes d e r =
      let P : ℕ → Type 0 = λ k. Reads Plain (k ∷ c ∷ bytes) (Split (k ∷ c ∷ bytes)) in
      let Q : Mode → Type 0 = λ m. ((c == 59) || has_end m bytes) ≡ false → Last m bytes
      → Split (c ∷ bytes) in
      subst P (sym (eqb-true b 45 d)) (λ h l.
      after (45 ∷ []) (c ∷ bytes) (other 45 (c ∷ bytes ++ rest)
      (no_comment_at 45 c (bytes ++ rest) refl e, refl, refl))
      (subst Q (sym (dash_same c e)) r.0 h l))

  -- ---- all of them

  all : (bytes : List ℕ) → All bytes
  all [] = (λ h l. inl (no_part rest), λ h l. inr (l refl, nothing), λ h l. inr (l refl, tt))
  all (b ∷ []) = (
    by_test (is_quote b) (λ q. opens b [] q (all []))
        (λ q. by_test (is_dash b) (λ d h l. last_dash b d) (λ d. goes_on b [] q d (all []))),
    by_test (is_quote b) (λ q. closes b [] q quote (all []).0) (λ q. in_text b [] q (all []).1),
    in_comment b [] (all []),
  )
  all (b ∷ c ∷ bytes) = (
    by_test (is_quote b) (λ q. opens b (c ∷ bytes) q (all (c ∷ bytes)))
        (λ q. by_test (is_dash b)
        (λ d. by_test (is_dash c) (λ e. two_dashes b c bytes d e (all bytes))
        (λ e. one_dash b c bytes d e (all (c ∷ bytes))))
        (λ d. goes_on b (c ∷ bytes) q d (all (c ∷ bytes)))),
    by_test (is_quote b)
        (λ q. by_test (is_quote c) (λ p. doubles b c bytes q p (all bytes).1)
        (λ p. closes b (c ∷ bytes) q p (all (c ∷ bytes)).0))
        (λ q. in_text b (c ∷ bytes) q (all (c ∷ bytes)).1),
    in_comment b (c ∷ bytes) (all (c ∷ bytes)),
  )

  pub split : (bytes : List ℕ) → has_end Plain bytes ≡ false → Last Plain bytes → Split bytes
  split bytes = (all bytes).0
