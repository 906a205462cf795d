-- Readers that read a format: what is read has a spelling and it is these bytes, and what is
-- spelled is read, whatever follows. Of where they stop they say nothing, so that items may be
-- named by their first byte.
use Rattle.std.proofs.Common.{◌≡◌, ℕ, zero, suc, ◌≤◌, ◌^◌, ◌<◌, ◌*◌, Bool, true, false, cond, List}
use Rattle.std.proofs.Common.{[], ◌∷◌, ◌++◌, length, refl, sym, ap, ◌∙◌, subst, append_assoc}
use Rattle.std.specs.Prelude.{MatchBool, if◌then◌else◌}
use Rattle.std.specs.List.{flat_map}
use Rattle.std.proofs.lemmas.List.Concat.{flat_map-cons}
use Rattle.command_codec_spec.specs.Reading.{Out, Parsed, Unexpected, Parser, IsCorrectParser}
use Rattle.command_codec_spec.specs.Reading.{and_then, bind, pure, map_to, pair, digits, items}
use Rattle.command_codec_spec.specs.Encoding.{number, list_bytes}
use Rattle.command_codec_spec.proofs.Correctness.{is_read}
use Rattle.command_codec_spec.proofs.Numbers.{number_correct}
use Rattle.store_image_spec.specs.Items.{named_at, item, if_right, checked, missing}

pub record Reads {A : Type 0} (p : Parser A) (Is : A → Type 0) (encode : A → List ℕ) : Type 0 where
  pub sound : (ts : List ℕ) (a : A) (rest : List ℕ) → p ts ≡ Parsed a rest → Is a
      × (ts ≡ encode a ++ rest)
  pub complete : (a : A) → Is a → (rest : List ℕ) → p (encode a ++ rest) ≡ Parsed a rest

pub reads_correct : {A : Type 0} (p : Parser A) (Is : A → Type 0) (encode : A → List ℕ)
    → IsCorrectParser p Is encode → Reads p Is encode
reads_correct p Is encode correct = record {
  sound = λ ts a rest e.
      is_read p Is encode correct a ts rest e;
  complete = correct.complete;
}

-- ---- the same in other words

pub reads_so : {A : Type 0} (p : Parser A) (Is Also : A → Type 0) (encode again : A → List ℕ)
    → ((a : A) → Is a → Also a × (encode a ≡ again a)) → ((a : A) → Also a → Is a)
    → Reads p Is encode → Reads p Also again
reads_so p Is Also encode again to from r = record {
  sound = λ ts a rest e. (let x = r.sound ts a rest e in let y = to a x.0 in
      (y.0, x.1 ∙ ap (λ l. l ++ rest) y.1));
  complete = λ a h rest. (let i = from a h in ap (λ l. p (l ++ rest)) (sym (to a i).1)
      ∙ r.complete a i rest);
}

-- ---- items

module _ {A : Type 0} (p : Parser A) (Is : A → Type 0) (encode : A → List ℕ)
    (r : Reads p Is encode) where
  pub reads_item : Reads (item p) Is encode
  reads_item = record {
    sound = λ ts a rest e. step ts a rest (p ts) refl e;
    complete = λ a h rest.
        ap (named_at (encode a ++ rest)) (r.complete a h rest);
  }
    where
      step : (ts : List ℕ) (a : A) (rest : List ℕ) (o : Out A) → p ts ≡ o
          → named_at ts o ≡ Parsed a rest → Is a × (ts ≡ encode a ++ rest)
      step ts a rest (Parsed b more) e g = r.sound ts a rest (e ∙ g)
      step ts a rest (Unexpected more) e g = absurd (cc)

  pub reads_checked : (right : A → Bool) → Reads (checked right p) (λ a. Is a × (right a ≡ true))
      encode
  reads_checked right = record {
    sound = λ ts a rest e. step ts a rest (p ts) refl e;
    complete = λ a h rest. ap (if_right (encode a ++ rest) right) (r.complete a h.0 rest)
        ∙ ap (λ b. cond b (Parsed a rest) (Unexpected (encode a ++ rest))) h.1;
  }
    where
      taken : (ts : List ℕ) (a b : A) (rest more : List ℕ) (q : Bool) → right b ≡ q
          → p ts ≡ Parsed b more → cond q (Parsed b more) (Unexpected ts) ≡ Parsed a rest
          → (Is a × (right a ≡ true)) × (ts ≡ encode a ++ rest)
      taken ts a b rest more true f e g =
          let is : b ≡ a = cc in
          let x = r.sound ts a rest (e ∙ g) in
          ((x.0, ap right (sym is) ∙ f), x.1)
      taken ts a b rest more false f e g = absurd (cc)

      step : (ts : List ℕ) (a : A) (rest : List ℕ) (o : Out A) → p ts ≡ o
          → if_right ts right o ≡ Parsed a rest → (Is a × (right a ≡ true))
          × (ts ≡ encode a ++ rest)
      step ts a rest (Parsed b more) e g = taken ts a b rest more (right b) refl e g
      step ts a rest (Unexpected more) e g = absurd (cc)

-- ---- nothing, and what is missing

pub reads_pure : {A : Type 0} (a : A) → Reads (pure a) (λ b. b ≡ a) (λ b. [])
reads_pure a = record {
  sound = λ ts b rest e. ((let z : b ≡ a = cc in z), (let z : ts ≡ rest = cc in z));
  complete = λ b h rest. ap (λ c. Parsed c rest) (sym h);
}

pub reads_missing : {A : Type 0} (encode : A → List ℕ) → Reads (missing {A = A}) (λ a. ⊥) encode
reads_missing {A} encode = record {
  sound = λ ts a rest e. absurd (cc);
  complete = λ a h rest.
      absurd h;
}

-- ---- one after the other, where the first tells how the second is read

module _ {A C : Type 0} (p : Parser A) (Is : A → Type 0) (encode : A → List ℕ) (f : A → Parser C)
    (After : A → C → Type 0) (after : A → C → List ℕ) (Whole : C → Type 0) (whole : C → List ℕ)
    (rp : Reads p Is encode) (rf : (a : A) → Is a → Reads (f a) (After a) (after a))
    (up : (a : A) (c : C) → Is a → After a c → Whole c × (whole c ≡ encode a ++ after a c))
    (down : (c : C) → Whole c → (a : A) × Is a × After a c) where
  pub reads_then : Reads (bind p f) Whole whole
  reads_then = record { sound = λ ts c rest e. step ts c rest (p ts) refl e; complete = encoded }
    where
      step : (ts : List ℕ) (c : C) (rest : List ℕ) (o : Out A) → p ts ≡ o
          → and_then o f ≡ Parsed c rest → Whole c × (ts ≡ whole c ++ rest)
      step ts c rest (Parsed a more) e g =
          let first = rp.sound ts a more e in
          let second = (rf a first.0).sound more c rest g in
          let u = up a c first.0 second.0 in (
            u.0,
            first.1 ∙ ap (λ l. encode a ++ l) second.1
                ∙ sym (append_assoc (encode a) (after a c) rest) ∙ ap (λ l. l ++ rest) (sym u.1),
          )
      step ts c rest (Unexpected more) e g = absurd (cc)

      encoded : (c : C) → Whole c → (rest : List ℕ) → bind p f (whole c ++ rest) ≡ Parsed c rest
      encoded c h rest =
          let d = down c h in
          let a = d.0 in
          ap (λ l. bind p f (l ++ rest)) (up a c d.1 d.2).1
          ∙ ap (bind p f) (append_assoc (encode a) (after a c) rest)
          ∙ ap (λ o. and_then o f) (rp.complete a d.1 (after a c ++ rest))
          ∙ (rf a d.1).complete c d.2 rest

-- what is made of values that were read
module _ {A B : Type 0} (q : Parser B) (Part : B → Type 0) (part : B → List ℕ)
    (r : Reads q Part part) (make : B → A) (Is : A → Type 0) (encode : A → List ℕ)
    (up : (b : B) → Part b → Is (make b) × (encode (make b) ≡ part b)) (down : (a : A) → Is a
    → (b : B) × Part b × (a ≡ make b)) where
  pub reads_map : Reads (map_to make q) Is encode
  reads_map = record { sound = λ ts a rest e. step ts a rest (q ts) refl e; complete = encoded }
    where
      step : (ts : List ℕ) (a : A) (rest : List ℕ) (o : Out B) → q ts ≡ o
          → and_then o (λ b. pure (make b)) ≡ Parsed a rest → Is a × (ts ≡ encode a ++ rest)
      step ts a rest (Parsed b more) e g =
          let is : make b ≡ a = cc in
          let same : more ≡ rest = cc in
          let x = r.sound ts b more e in
          let u = up b x.0 in (
            subst Is is u.0,
            x.1 ∙ ap (λ l. part b ++ l) same
                ∙ ap (λ l. l ++ rest) (sym u.1 ∙ ap encode is),
          )
      step ts a rest (Unexpected more) e g = absurd (cc)

      encoded : (a : A) → Is a → (rest : List ℕ) → map_to make q (encode a ++ rest) ≡ Parsed a rest
      encoded a h rest =
          let d = down a h in
          ap (λ l. map_to make q (l ++ rest)) (ap encode d.2 ∙ (up d.0 d.1).1)
          ∙ ap (λ o. and_then o (λ c. pure (make c))) (r.complete d.0 d.1 rest)
          ∙ ap (λ c. Parsed c rest) (sym d.2)

pub reads_pair : {A B : Type 0} (p : Parser A) (Is : A → Type 0) (encode : A → List ℕ)
    (q : Parser B)
    (Also : B → Type 0) (again : B → List ℕ) → Reads p Is encode → Reads q Also again
    → Reads (pair p q) (λ x. Is x.0 × Also x.1) (λ x. encode x.0 ++ again x.1)
reads_pair {A} {B} p Is encode q Also again rp rq =
    reads_then p Is encode (λ a. map_to (λ b. (a, b)) q) (λ a x. (x.0 ≡ a) × Also x.1)
    (λ a x. again x.1) (λ x. Is x.0 × Also x.1) (λ x. encode x.0 ++ again x.1) rp
    (λ a h. reads_map q Also again rq (λ b. (a, b)) (λ x. (x.0 ≡ a) × Also x.1) (λ x. again x.1)
    (λ b k. ((refl, k), refl)) (λ x k. (x.1, k.1, ap (λ c. (c, x.1)) k.0)))
    (λ a x h k. ((subst Is (sym k.0) h, k.1), ap (λ c. encode c ++ again x.1) k.0))
    (λ x h. (x.0, h.0, (refl, h.1)))

-- ---- lists, of which each tells how those after it are read

-- the first, and those after it
abbrev pub Led : {A : Type 0} → (A → Type 0) → (A → List A → Type 0) → List A → Type 0
Led Is Rest [] = ⊥
Led Is Rest (a ∷ l) = Is a × Rest a l

module _ {A : Type 0} (p : Parser A) (Is : A → Type 0) (encode : A → List ℕ) (q : A
    → Parser (List A)) (Rest : A → List A → Type 0)
    (rp : Reads p Is encode) (rq : (a : A) → Is a → Reads (q a) (Rest a) (flat_map encode)) where
  pub reads_led : Reads (bind p (λ a. map_to (λ l. a ∷ l) (q a))) (Led Is Rest) (flat_map encode)
  reads_led = record { sound = λ ts l rest e. first ts l rest (p ts) refl e; complete = encoded }
    where
      second : (ts : List ℕ) (a : A) (more : List ℕ) → Is a → ts ≡ encode a ++ more
          → (l : List A) (rest : List ℕ) (o : Out (List A)) → q a more ≡ o
          → and_then o (λ m. pure (a ∷ m)) ≡ Parsed l rest
          → Led Is Rest l × (ts ≡ flat_map encode l ++ rest)
      second ts a more h s l rest (Parsed m end) e g =
          let is : a ∷ m ≡ l = cc in
          let same : end ≡ rest = cc in
          let x = (rq a h).sound more m end e in (
            subst (Led Is Rest) is (h, x.0),
            s ∙ ap (λ k. encode a ++ k) (x.1 ∙ ap (λ k. flat_map encode m ++ k) same)
                ∙ sym (append_assoc (encode a) (flat_map encode m) rest)
                ∙ ap (λ k. k ++ rest) (sym (flat_map-cons encode a m) ∙ ap (flat_map encode) is),
          )
      second ts a more h s l rest (Unexpected end) e g = absurd (cc)

      first : (ts : List ℕ) (l : List A) (rest : List ℕ) (o : Out A) → p ts ≡ o
          → and_then o (λ a. map_to (λ m. a ∷ m) (q a)) ≡ Parsed l rest → Led Is Rest l
          × (ts ≡ flat_map encode l ++ rest)
      first ts l rest (Parsed a more) e g = let x = rp.sound ts a more e in
          second ts a more x.0 x.1 l rest (q a more) refl g
      first ts l rest (Unexpected more) e g = absurd (cc)

      encoded : (l : List A) → Led Is Rest l → (rest : List ℕ)
          → bind p (λ a. map_to (λ m. a ∷ m) (q a)) (flat_map encode l ++ rest) ≡ Parsed l rest
      encoded [] h rest = absurd h
      encoded (a ∷ l) h rest =
          ap (λ k. bind p (λ b. map_to (λ m. b ∷ m) (q b)) (k ++ rest)) (flat_map-cons encode a l)
          ∙ ap (bind p (λ b. map_to (λ m. b ∷ m) (q b)))
          (append_assoc (encode a) (flat_map encode l) rest)
          ∙ ap (λ o. and_then o (λ b. map_to (λ m. b ∷ m) (q b)))
          (rp.complete a h.0 (flat_map encode l ++ rest))
          ∙ ap (λ o. and_then o (λ m. pure (a ∷ m))) ((rq a h.0).complete l h.1 rest)

-- no more
pub reads_none : {A : Type 0} (encode : A → List ℕ)
    → Reads (pure []) (λ (l : List A). l ≡ []) (flat_map encode)
reads_none {A} encode = record {
  sound = λ ts l rest e. (let is : l ≡ [] = cc in let same : ts ≡ rest = cc in
      (is, same ∙ ap (λ k. flat_map encode k ++ rest) (sym is)));
  complete = λ l h rest. ap (λ k. pure [] (flat_map encode k ++ rest)) h
      ∙ ap (λ k. Parsed k rest) (sym h);
}

pub reads_if : {A : Type 0} (b : Bool) (p q : Parser A) (P Q : A → Type 0) (encode : A → List ℕ)
    → Reads p P encode → Reads q Q encode
    → Reads (if b then p else q) (λ a. MatchBool b (P a) (Q a)) encode
reads_if true p q P Q encode rp rq = rp
reads_if false p q P Q encode rp rq = rq

-- ---- numbers

pub reads_number : (most k : ℕ) → most < 2 ^ (8 * k)
    → Reads (digits most k 0) (λ n. n ≤ most) (λ n. number k n)
reads_number most k small = reads_correct (digits most k 0) (λ n. n ≤ most) (λ n. number k n)
    (number_correct most k small)

-- ---- a count, and that many

module _ {A : Type 0} (counted : Parser ℕ) (k most : ℕ)
    (rn : Reads counted (λ n. n ≤ most) (λ n. number k n)) (encode : A → List ℕ) (p : ℕ
    → Parser (List A)) (Many : ℕ → List A → Type 0)
    (exact : (n : ℕ) (l : List A) → Many n l → length l ≡ n) (rp : (n : ℕ)
    → Reads (p n) (Many n) (flat_map encode)) where
  pub reads_counted : Reads (bind counted p) (λ l. (length l ≤ most) × Many (length l) l)
      (list_bytes k encode)
  reads_counted = reads_then counted (λ n. n ≤ most) (λ n. number k n) p Many
      (λ n l. flat_map encode l) (λ l. (length l ≤ most) × Many (length l) l) (list_bytes k encode)
      rn
      (λ n h. rp n)
      (λ n l h m. (let e = exact n l m in (
        (
          subst (λ x. x ≤ most) (sym e) h,
          subst (λ x. Many x l) (sym e) m,
        ),
        ap (λ x. number k x ++ flat_map encode l) e,
      )))
      (λ l h. (length l, h.0, h.1))

-- so many of one kind
abbrev pub Each : {A : Type 0} → (A → Type 0) → ℕ → List A → Type 0
Each Is zero l = l ≡ []
Each Is (suc n) l = Led Is (λ a m. Each Is n m) l

pub reads_items : {A : Type 0} (p : Parser A) (Is : A → Type 0) (encode : A → List ℕ)
    → Reads p Is encode → (n : ℕ) → Reads (items p n) (Each Is n) (flat_map encode)
unfolding items
reads_items p Is encode r zero = reads_none encode
reads_items p Is encode r (suc n) = reads_led p Is encode (λ a. items p n) (λ a m. Each Is n m) r
    (λ a h. reads_items p Is encode r n)
