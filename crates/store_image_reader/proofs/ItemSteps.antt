-- The steps of reading items.
use Rattle.std.proofs.Common.{◌≡◌, ℕ, Bool, true, false, cond, List, [], ◌∷◌, ◌++◌, refl, ap, ◌∙◌}
use Rattle.std.proofs.Common.{append-nil}
use Rattle.command_codec_spec.specs.Reading.{Out, Parsed, Unexpected, Parser, and_then, pure}
use Rattle.command_codec_spec.specs.Reading.{map_to}
use Rattle.command_codec_spec.specs.Reading.{prepend}
use Rattle.command_codec.specs.declared.reader.ReadStop.{ReadStop}
use Rattle.command_codec.specs.declared.reader.ReadStop.TheVariants as stop
use Rattle.command_codec.specs.Reads.{Fails}
use Rattle.command_codec.proofs.ReadSteps.{prepend_more}
use Rattle.store_image_spec.specs.Items.{named_at, item, if_right, checked}

module _ {A : Type 0} (p : Parser A) where
  pub item_got : (a : A) (ts rest : List ℕ) → p ts ≡ Parsed a rest → item p ts ≡ Parsed a rest
  item_got a ts rest e = ap (named_at ts) e

  -- where an item is not read the reader is set back to its first byte
  pub item_fails : (e : ReadStop) (ts rest : List ℕ) → Fails (p ts) e rest → Fails (item p ts) e ts
  item_fails stop.NoMemory ts rest h = tt
  item_fails stop.Unexpected ts rest h = ap (named_at ts) h

  pub checked_got : (right : A → Bool) (a : A) (ts rest : List ℕ) → p ts ≡ Parsed a rest
      → right a ≡ true → item (checked right p) ts ≡ Parsed a rest
  checked_got right a ts rest e h = ap (λ o. named_at ts (if_right ts right o)) e
      ∙ ap (λ b. named_at ts (cond b (Parsed a rest) (Unexpected ts))) h

  pub checked_wrong : (right : A → Bool) (a : A) (ts rest : List ℕ) → p ts ≡ Parsed a rest
      → right a ≡ false → item (checked right p) ts ≡ Unexpected ts
  checked_wrong right a ts rest e h = ap (λ o. named_at ts (if_right ts right o)) e
      ∙ ap (λ b. named_at ts (cond b (Parsed a rest) (Unexpected ts))) h

  pub checked_fails : (right : A → Bool) (e : ReadStop) (ts rest : List ℕ) → Fails (p ts) e rest
      → Fails (item (checked right p) ts) e ts
  checked_fails right stop.NoMemory ts rest h = tt
  checked_fails right stop.Unexpected ts rest h = ap (λ o. named_at ts (if_right ts right o)) h

-- ---- lists, of which so much was read: the whole is that before what is still read

nothing_before : {A : Type 0} (o : Out (List A)) → o ≡ prepend [] o
nothing_before (Parsed l rest) = refl
nothing_before (Unexpected rest) = refl

one_before : {A : Type 0} (a : A) (o : Out (List A))
    → and_then o (λ l. pure (a ∷ l)) ≡ prepend (a ∷ []) o
one_before a (Parsed l rest) = refl
one_before a (Unexpected rest) = refl

pub none_before : {A : Type 0} (whole : Out (List A)) → whole ≡ prepend [] whole
none_before whole = nothing_before whole

module _ {A : Type 0} (whole : Out (List A)) (l : List A) (p : Parser A) (ts : List ℕ) (f : A
    → Parser (List A)) (so : whole ≡ prepend l
    (and_then (p ts) (λ a. map_to (λ m. a ∷ m) (f a)))) where
  pub one_more : (a : A) (rest : List ℕ) → p ts ≡ Parsed a rest
      → whole ≡ prepend (l ++ a ∷ []) (f a rest)
  one_more a rest e = so ∙ ap (λ o. prepend l (and_then o (λ a. map_to (λ m. a ∷ m) (f a)))) e
      ∙ ap (prepend l) (one_before a (f a rest)) ∙ prepend_more l (a ∷ []) (f a rest)

  pub no_more : (e : ReadStop) (new : List ℕ) → Fails (p ts) e new → Fails whole e new
  no_more stop.NoMemory new h = tt
  no_more stop.Unexpected new h = so ∙ ap (λ o.
      prepend l (and_then o (λ a. map_to (λ m. a ∷ m) (f a)))) h

pub all_before : {A : Type 0} (whole : Out (List A)) (l : List A) (ts : List ℕ)
    → whole ≡ prepend l (Parsed [] ts) → whole ≡ Parsed l ts
all_before whole l ts so = so ∙ ap (λ x. Parsed x ts) (append-nil l)

pub stuck_after : {A : Type 0} (whole : Out (List A)) (l : List A) (ts : List ℕ)
    → whole ≡ prepend l (Unexpected ts) → whole ≡ Unexpected ts
stuck_after whole l ts so = so

-- ---- a count in prefix

module _ {A B : Type 0} (p : Parser A) (f : A → Parser B) (ts : List ℕ) where
  pub counted_fails : (e : ReadStop) (rest : List ℕ) → Fails (p ts) e rest
      → Fails (and_then (p ts) f) e rest
  counted_fails stop.NoMemory rest h = tt
  counted_fails stop.Unexpected rest h = ap (λ o. and_then o f) h

  pub after_fails : (a : A) (us : List ℕ) → p ts ≡ Parsed a us → (e : ReadStop) (rest : List ℕ)
      → Fails (f a us) e rest → Fails (and_then (p ts) f) e rest
  after_fails a us g stop.NoMemory rest h = tt
  after_fails a us g stop.Unexpected rest h = ap (λ o. and_then o f) g ∙ h
