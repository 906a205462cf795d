-- The reader of images that does not compare rows; and that the reader stops where this one does,
-- or at a lifeline that shows one row twice.
use Rattle.std.proofs.Common.{◌≡◌, ◌⊎◌, inl, inr, ℕ, zero, suc, Bool, true, false, cond, List, []}
use Rattle.std.proofs.Common.{◌∷◌, ◌++◌, ◌<◌, length, refl, sym, ap, ◌∙◌, subst, append_assoc}
use Rattle.std.proofs.Common.{arith}
use Rattle.std.specs.Prelude.{Option}
use Rattle.std.specs.List.{flat_map}
use Rattle.relations_spec.specs.Sets.{In}
use Rattle.command_codec_spec.specs.Reading.{Out, Parsed, Unexpected, Parser, and_then, bind, pure}
use Rattle.command_codec_spec.specs.Reading.{map_to}
use Rattle.smo_ops_versions_spec.specs.Lifelines.{Lifeline, lifelines_of}
use Rattle.store_image_spec.specs.Images.{StoredLine, Image}
use Rattle.store_image_spec.specs.Encoding.{stored_bytes}
use Rattle.store_image_spec.specs.Items.{item, if_right, missing}
use Rattle.store_image_spec.specs.Reader.{number_32, last_stamp, all_versions, has_apart}
use Rattle.store_image_spec.specs.Reader.{stored_line}
use Rattle.store_image_spec.specs.Reader.{lines, nothing_after, an_image}
use Rattle.store_image_spec.proofs.ReadParts.{kept_line, reads_kept, BodyRead}

-- so many lifelines, whose rows are not compared
unfoldable pub open_lines : Option ℕ → ℕ → List Lifeline → Parser (List StoredLine)
open_lines last zero [] = pure []
open_lines last zero (due ∷ rest) = missing
open_lines last (suc n) [] = missing
open_lines last (suc n) (due ∷ rest) = bind (kept_line last due)
    (λ l. map_to (λ ls. l ∷ ls) (open_lines last n rest))

abbrev pub all_open_lines : Option ℕ → List Lifeline → Parser (List StoredLine)
all_open_lines last due = bind (item number_32) (λ n. open_lines last n due)

abbrev pub open_image : Parser Image
open_image =
    bind last_stamp (λ last. bind (all_versions last)
    (λ versions. bind (all_open_lines last (lifelines_of versions)) (λ lines.
    nothing_after (an_image last versions lines))))

-- ---- where what is made of values stops

pub map_stops : {A B : Type 0} (f : A → B) (o : Out A) (rest : List ℕ)
    → and_then o (λ a. pure (f a)) ≡ Unexpected rest → o ≡ Unexpected rest
map_stops f (Parsed a more) rest e = absurd (cc)
map_stops f (Unexpected more) rest e = let same : more ≡ rest = cc in ap Unexpected same

pub stops_map : {A B : Type 0} (f : A → B) (o : Out A) (rest : List ℕ) → o ≡ Unexpected rest
    → and_then o (λ a. pure (f a)) ≡ Unexpected rest
stops_map f o rest e = ap (λ x. and_then x (λ a. pure (f a))) e

-- ---- a lifeline that shows one row twice

-- what was read over each
abbrev pub AreBodies : Option ℕ → List Lifeline → List StoredLine → Type 0
AreBodies last [] [] = Unit {0}
AreBodies last [] (l ∷ ls) = ⊥
AreBodies last (d ∷ due) [] = ⊥
AreBodies last (d ∷ due) (l ∷ ls) = BodyRead last d l × AreBodies last due ls

-- so far the lifelines are those that are due, of so many, and here is one of which nothing else is
-- wrong
pub record TwiceIn (last : Option ℕ) (n : ℕ) (due : List Lifeline) (ts rest : List ℕ)
    : Type 0 where
  pub done : List Lifeline
  pub here : Lifeline
  pub after : List Lifeline
  pub are_due : due ≡ done ++ here ∷ after
  pub earlier : List StoredLine
  pub read : AreBodies last done earlier
  pub apart : (l : StoredLine) → In l earlier → has_apart l ≡ true
  pub enough : length earlier < n
  pub line : StoredLine
  pub kept : BodyRead last here line
  pub twice : has_apart line ≡ false
  pub are : ts ≡ flat_map stored_bytes earlier ++ rest
  pub more : List ℕ
  pub whole : rest ≡ stored_bytes line ++ more

module _ (last : Option ℕ) where
  later : (n : ℕ) (d : Lifeline) (due : List Lifeline) (l : StoredLine) (ts us rest : List ℕ)
      → BodyRead last d l → has_apart l ≡ true → ts ≡ stored_bytes l ++ us
      → TwiceIn last n due us rest → TwiceIn last (suc n) (d ∷ due) ts rest
  later n d due l ts us rest h a e t = record {
    done = d ∷ t.done;
    here = t.here;
    after = t.after;
    are_due = ap (λ x. d ∷ x) t.are_due;
    earlier = l ∷ t.earlier;
    read = (h, t.read);
    apart = all_apart;
    enough = (let b = t.enough in omega (arith, b));
    line = t.line;
    kept = t.kept;
    twice = t.twice;
    are = e ∙ ap (λ x. stored_bytes l ++ x) t.are
        ∙ sym (append_assoc (stored_bytes l) (flat_map stored_bytes t.earlier) rest);
    more = t.more;
    whole = t.whole;
  }
    where
      all_apart : (x : StoredLine) → In x (l ∷ t.earlier) → has_apart x ≡ true
      all_apart x (inl q) = subst (λ y. has_apart y ≡ true) q a
      all_apart x (inr i) = t.apart x i

  pub lines_stop : (n : ℕ) (due : List Lifeline) (ts rest : List ℕ)
      → lines last n due ts ≡ Unexpected rest
      → (open_lines last n due ts ≡ Unexpected rest) ⊎ TwiceIn last n due ts rest
  unfolding lines stored_line open_lines
  lines_stop zero [] ts rest e = absurd (cc)
  lines_stop zero (d ∷ due) ts rest e = inl (ap Unexpected (let same : ts ≡ rest = cc in same))
  lines_stop (suc n) [] ts rest e = inl (ap Unexpected (let same : ts ≡ rest = cc in same))
  lines_stop (suc n) (d ∷ due) ts rest e =
      first (λ us f. lines_stop n due us rest f) (kept_line last d ts) refl e
    where
      next : StoredLine → Parser (List StoredLine)
      next l = map_to (λ ls. l ∷ ls) (lines last n due)

      open_next : StoredLine → Parser (List StoredLine)
      open_next l = map_to (λ ls. l ∷ ls) (open_lines last n due)

      by : (l : StoredLine) (us : List ℕ) → kept_line last d ts ≡ Parsed l us
          → has_apart l ≡ true → (open_lines last n due us ≡ Unexpected rest)
          ⊎ TwiceIn last n due us rest
          → (and_then (kept_line last d ts) open_next ≡ Unexpected rest)
          ⊎ TwiceIn last (suc n) (d ∷ due) ts rest
      by l us q a (inl stops) = inl (ap (λ o. and_then o open_next) q
          ∙ stops_map (λ ls. l ∷ ls) (open_lines last n due us) rest stops)
      by l us q a (inr t) =
          let x = (reads_kept last d).sound ts l us q in
          inr (later n d due l ts us rest x.0.1 a x.1 t)

      compared : ((us : List ℕ) → lines last n due us ≡ Unexpected rest
          → (open_lines last n due us ≡ Unexpected rest) ⊎ TwiceIn last n due us rest)
          → (l : StoredLine) (us : List ℕ) → kept_line last d ts ≡ Parsed l us → (b : Bool)
          → has_apart l ≡ b
          → and_then (cond b (Parsed l us) (Unexpected ts)) next ≡ Unexpected rest
          → (and_then (kept_line last d ts) open_next ≡ Unexpected rest)
          ⊎ TwiceIn last (suc n) (d ∷ due) ts rest
      compared again l us q true f g = by l us q f (again us
          (map_stops (λ ls. l ∷ ls) (lines last n due us) rest g))
      compared again l us q false f g =
          let x = (reads_kept last d).sound ts l us q in
          let same : ts ≡ rest = cc in
          inr (record {
            done = [];
            here = d;
            after = due;
            are_due = refl;
            earlier = [];
            read = tt;
            apart = λ x i. absurd i;
            enough = omega arith;
            line = l;
            kept = x.0.1;
            twice = f;
            are = same;
            more = us;
            whole = sym same ∙ x.1;
          })

      first : ((us : List ℕ) → lines last n due us ≡ Unexpected rest
          → (open_lines last n due us ≡ Unexpected rest) ⊎ TwiceIn last n due us rest)
          → (o : Out StoredLine) → kept_line last d ts ≡ o
          → and_then (if_right ts has_apart o) next ≡ Unexpected rest
          → (and_then (kept_line last d ts) open_next ≡ Unexpected rest)
          ⊎ TwiceIn last (suc n) (d ∷ due) ts rest
      first again (Parsed l us) q g = compared again l us q (has_apart l) refl g
      first again (Unexpected us) q g =
          let same : us ≡ rest = cc in
          inl (ap (λ o. and_then o open_next) q ∙ ap Unexpected same)

  pub lines_whole : (n : ℕ) (due : List Lifeline) (ts rest : List ℕ) (l : List StoredLine)
      → lines last n due ts ≡ Parsed l rest → open_lines last n due ts ≡ Parsed l rest
  unfolding lines stored_line open_lines
  lines_whole zero [] ts rest l e = e
  lines_whole zero (d ∷ due) ts rest l e = absurd (cc)
  lines_whole (suc n) [] ts rest l e = absurd (cc)
  lines_whole (suc n) (d ∷ due) ts rest l e =
      first (λ us vs ls f. lines_whole n due us vs ls f) (kept_line last d ts) refl e
    where
      next : StoredLine → Parser (List StoredLine)
      next x = map_to (λ ls. x ∷ ls) (lines last n due)

      open_next : StoredLine → Parser (List StoredLine)
      open_next x = map_to (λ ls. x ∷ ls) (open_lines last n due)

      second : ((us vs : List ℕ) (ls : List StoredLine) → lines last n due us ≡ Parsed ls vs
          → open_lines last n due us ≡ Parsed ls vs)
          → (x : StoredLine) (us : List ℕ) → kept_line last d ts ≡ Parsed x us
          → (o : Out (List StoredLine)) → lines last n due us ≡ o
          → and_then o (λ ls. pure (x ∷ ls)) ≡ Parsed l rest
          → and_then (kept_line last d ts) open_next ≡ Parsed l rest
      second again x us q (Parsed ls vs) r g = ap (λ o. and_then o open_next) q
          ∙ ap (λ o. and_then o (λ m. pure (x ∷ m))) (again us vs ls r) ∙ g
      second again x us q (Unexpected vs) r g = absurd (cc)

      compared : ((us vs : List ℕ) (ls : List StoredLine) → lines last n due us ≡ Parsed ls vs
          → open_lines last n due us ≡ Parsed ls vs)
          → (x : StoredLine) (us : List ℕ) → kept_line last d ts ≡ Parsed x us → (b : Bool)
          → and_then (cond b (Parsed x us) (Unexpected ts)) next ≡ Parsed l rest
          → and_then (kept_line last d ts) open_next ≡ Parsed l rest
      compared again x us q true g = second again x us q (lines last n due us) refl g
      compared again x us q false g = absurd (cc)

      first : ((us vs : List ℕ) (ls : List StoredLine) → lines last n due us ≡ Parsed ls vs
          → open_lines last n due us ≡ Parsed ls vs)
          → (o : Out StoredLine) → kept_line last d ts ≡ o
          → and_then (if_right ts has_apart o) next ≡ Parsed l rest
          → and_then (kept_line last d ts) open_next ≡ Parsed l rest
      first again (Parsed x us) q g = compared again x us q (has_apart x) g
      first again (Unexpected us) q g = absurd (cc)
