-- The laws of reading, for all formats.
use Rattle.std.proofs.Common.{◌≡◌, ℕ, zero, suc, Bool, true, false, cond, List, [], ◌∷◌, ◌++◌, refl}
use Rattle.std.proofs.Common.{sym, ap, ◌∙◌, subst, append_assoc, append-nil, arith, length, drop}
use Rattle.std.specs.List.{AllByRecursion}
use Rattle.command_codec_spec.specs.Reading.{Out, Parsed, Unexpected, Parser, Begins, Same}
use Rattle.command_codec_spec.specs.Reading.{Explains}
use Rattle.command_codec_spec.specs.Reading.{IsCorrectParser, and_then, bind, pure, map_to, pair}
use Rattle.command_codec_spec.specs.Reading.{byte, by_tag, run}

pub true_false : {X : Type 0} → true ≡ false → X
true_false e = absurd cc

pub by_test : {X : Type 0} (b : Bool) → (b ≡ true → X) → (b ≡ false → X) → X
by_test true f g = f refl
by_test false f g = g refl

-- ---- the whole is known by its parts

-- with the byte at which it is stuck nothing goes on
pub halts : {A : Type 0} (p : Parser A) (Is : A → Type 0) (encode : A → List ℕ)
    → IsCorrectParser p Is encode → (prefix : List ℕ) (x : ℕ) (rest : List ℕ)
    → Same p prefix (x ∷ rest) → Begins Is encode (prefix ++ x ∷ []) → ⊥
halts {A} p Is encode correct prefix x rest same begins =
    let more : List ℕ = begins.0 in
    let a : A = begins.1 in
    let e : encode a ≡ prefix ++ x ∷ more = begins.3 ∙ append_assoc prefix (x ∷ []) more in
    let got : p (prefix ++ x ∷ more) ≡ Parsed a [] = ap p (sym (append-nil (encode a) ∙ e))
    ∙ correct.complete a begins.2 [] in
    let stuck : p (prefix ++ x ∷ more) ≡ Unexpected (x ∷ more) = same more in
    absurd (let z : Unexpected (x ∷ more) ≡ Parsed a [] = sym stuck ∙ got in cc)

-- what is read is spelled so
pub is_read : {A : Type 0} (p : Parser A) (Is : A → Type 0) (encode : A → List ℕ)
    → IsCorrectParser p Is encode → (a : A) (ts rest : List ℕ) → p ts ≡ Parsed a rest → Is a
    × (ts ≡ encode a ++ rest)
is_read {A} p Is encode correct a ts rest e = let P : Out A
    → Type 0 = λ o. Explains p Is encode ts o in subst P e (correct.explains ts)

-- values with the same spelling and the same rest after it are one, and so is the rest
pub one_value : {A : Type 0} (p : Parser A) (Is : A → Type 0) (encode : A → List ℕ)
    → IsCorrectParser p Is encode → (a b : A) (us vs : List ℕ) → Is a → Is b
    → encode a ++ us ≡ encode b ++ vs → (a ≡ b) × (us ≡ vs)
one_value {A} p Is encode correct a b us vs ha hb e =
    let same : Parsed a us ≡ Parsed b vs = sym (correct.complete a ha us) ∙ ap p e
    ∙ correct.complete b hb vs in
    ((let z : a ≡ b = cc in z), (let z : us ≡ vs = cc in z))

-- ---- another format of the same values

pub retold : {A : Type 0} (p : Parser A) (Is Also : A → Type 0) (encode again : A → List ℕ)
    → ((a : A) → Is a → Also a × (encode a ≡ again a)) → ((a : A) → Also a → Is a)
    → IsCorrectParser p Is encode → IsCorrectParser p Also again
retold {A} p Is Also encode again to from correct = record {
  one = correct.one;
  live = (to correct.one correct.live).0;
  explains = λ ts. explained ts (p ts) (correct.explains ts);
  complete = λ a h rest. ap (λ l. p (l ++ rest)) (sym (to a (from a h)).1)
      ∙ correct.complete a (from a h) rest;
}
  where
    explained : (ts : List ℕ) (o : Out A) → Explains p Is encode ts o → Explains p Also again ts o
    explained ts (Parsed a rest) x = ((to a x.0).0, x.1 ∙ ap (λ l. l ++ rest) (to a x.0).1)
    explained ts (Unexpected rest) x = (
      x.0,
      x.1,
      (x.2.0, x.2.1, (to x.2.1 x.2.2).0, sym (to x.2.1 x.2.2).1 ∙ x.2.3),
      x.3,
    )

-- ---- nothing, and one after the other

pub pure_correct : {A : Type 0} (a : A) → IsCorrectParser (pure a) (λ b. b ≡ a) (λ b. [])
pure_correct a = record {
  one = a;
  live = refl;
  explains = λ ts. (refl, refl);
  complete =
      λ b h rest. ap (λ c. Parsed c rest) (sym h);
}

-- where the first part is refused, so is the whole
same_first : {A B : Type 0} (p : Parser A) (f : A → Parser B) (prefix rest : List ℕ)
    → Same p prefix rest → Same (bind p f) prefix rest
same_first p f prefix [] s = tt
same_first p f prefix (x ∷ rest) s = λ other. ap (λ o. and_then o f) (s other)

-- where the second is refused after the first
same_second : {A B : Type 0} (p : Parser A) (f : A → Parser B) (a : A) (text prefix rest : List ℕ)
    → ((l : List ℕ) → p (text ++ l) ≡ Parsed a l) → Same (f a) prefix rest
    → Same (bind p f) (text ++ prefix) rest
same_second p f a text prefix [] got s = tt
same_second p f a text prefix (x ∷ rest) got s = λ other.
    ap (λ l. and_then (p l) f) (append_assoc text prefix (x ∷ other))
    ∙ ap (λ o. and_then o f) (got (prefix ++ x ∷ other)) ∙ s other

-- what is made of values that were read
module _ {A B : Type 0} (q : Parser B) (Part : B → Type 0) (part : B → List ℕ)
    (correct : IsCorrectParser q Part part) (make : B → A) (Is : A → Type 0) (encode : A → List ℕ)
    (up : (b : B) → Part b → Is (make b) × (encode (make b) ≡ part b)) (down : (a : A) → Is a
    → (b : B) × Part b × (a ≡ make b)) where
  mapped : (ts : List ℕ) (o : Out B) → Explains q Part part ts o
      → Explains (map_to make q) Is encode ts (and_then o (λ b. pure (make b)))
  mapped ts (Parsed b rest) h = ((up b h.0).0, h.1 ∙ ap (λ l. l ++ rest) (sym (up b h.0).1))
  mapped ts (Unexpected rest) h = (
    h.0,
    h.1,
    (
      h.2.0,
      make h.2.1,
      (up h.2.1 h.2.2).0,
      (up h.2.1 h.2.2).1 ∙ h.2.3,
    ),
    same_first q (λ b. pure (make b)) h.0 rest h.3,
  )

  complete : (a : A) → Is a → (rest : List ℕ) → map_to make q (encode a ++ rest) ≡ Parsed a rest
  complete a h rest =
      let d = down a h in
      ap (λ l. map_to make q (l ++ rest)) (ap encode d.2 ∙ (up d.0 d.1).1)
      ∙ ap (λ o. and_then o (λ c. pure (make c))) (correct.complete d.0 d.1 rest)
      ∙ ap (λ c. Parsed c rest) (sym d.2)

  pub mapped_correct : IsCorrectParser (map_to make q) Is encode
  mapped_correct = record {
    one = make correct.one;
    live = (up correct.one correct.live).0;
    explains = λ ts. mapped ts (q ts) (correct.explains ts);
    complete = complete;
  }

-- one after the other, where the first tells how the second is read
module _ {A C : Type 0} (p : Parser A) (Is : A → Type 0) (encode : A → List ℕ) (f : A → Parser C)
    (After : A → C → Type 0) (after : A → C → List ℕ) (Whole : C → Type 0) (whole : C → List ℕ)
    (gp : IsCorrectParser p Is encode) (gf : (a : A) → Is a
    → IsCorrectParser (f a) (After a) (after a))
    (up : (a : A) (c : C) → Is a → After a c → Whole c × (whole c ≡ encode a ++ after a c))
    (down : (c : C) → Whole c → (a : A) × Is a × After a c) where
  inner : (a : A) (ts rest : List ℕ) → Is a → ts ≡ encode a ++ rest → (o : Out C)
      → Explains (f a) (After a) (after a) rest o → Explains (bind p f) Whole whole ts o
  inner a ts rest h e (Parsed c rest2) x = let u = up a c h x.0 in (
    u.0,
    e ∙ ap (λ l. encode a ++ l) x.1 ∙ sym (append_assoc (encode a) (after a c) rest2)
        ∙ ap (λ l. l ++ rest2) (sym u.1),
  )
  inner a ts rest h e (Unexpected rest2) x =
      let u = up a x.2.1 h x.2.2 in (
        encode a ++ x.0,
        e ∙ ap (λ l. encode a ++ l) x.1 ∙ sym (append_assoc (encode a) x.0 rest2),
        (
          x.2.0,
          x.2.1,
          u.0,
          u.1 ∙ ap (λ l. encode a ++ l) x.2.3
              ∙ sym (append_assoc (encode a) x.0 x.2.0),
        ),
        same_second p f a (encode a) x.0 rest2 (gp.complete a h) x.3,
      )

  outer : (ts : List ℕ) (o : Out A) → Explains p Is encode ts o
      → Explains (bind p f) Whole whole ts (and_then o f)
  outer ts (Parsed a rest) x = inner a ts rest x.0 x.1 (f a rest) ((gf a x.0).explains rest)
  outer ts (Unexpected rest) x =
      let a = x.2.1 in
      let g = gf a x.2.2 in
      let u = up a g.one x.2.2 g.live in (
        x.0,
        x.1,
        (
          x.2.0 ++ after a g.one,
          g.one,
          u.0,
          u.1 ∙ ap (λ l. l ++ after a g.one) x.2.3
              ∙ append_assoc x.0 x.2.0 (after a g.one),
        ),
        same_first p f x.0 rest x.3,
      )

  then_complete : (c : C) → Whole c → (rest : List ℕ) → bind p f (whole c ++ rest) ≡ Parsed c rest
  then_complete c h rest =
      let d = down c h in
      let a = d.0 in
      ap (λ l. bind p f (l ++ rest)) (up a c d.1 d.2).1
      ∙ ap (bind p f) (append_assoc (encode a) (after a c) rest)
      ∙ ap (λ o. and_then o f) (gp.complete a d.1 (after a c ++ rest))
      ∙ (gf a d.1).complete c d.2 rest

  pub then_correct : IsCorrectParser (bind p f) Whole whole
  then_correct = record {
    one = (gf gp.one gp.live).one;
    live = (up gp.one (gf gp.one gp.live).one gp.live (gf gp.one gp.live).live).0;
    explains = λ ts. outer ts (p ts) (gp.explains ts);
    complete = then_complete;
  }

module _ {A B : Type 0} (p : Parser A) (Is : A → Type 0) (encode : A → List ℕ) (q : Parser B)
    (Also : B → Type 0) (again : B → List ℕ) (gp : IsCorrectParser p Is encode)
    (gq : IsCorrectParser q Also again) where
  pub pair_correct : IsCorrectParser (pair p q) (λ x. Is x.0 × Also x.1)
      (λ x. encode x.0 ++ again x.1)
  pair_correct = then_correct p Is encode (λ a. map_to (λ b. (a, b)) q) (λ a x. (x.0 ≡ a)
      × Also x.1)
      (λ a x. again x.1) (λ x. Is x.0 × Also x.1) (λ x. encode x.0 ++ again x.1) gp
      (λ a h. mapped_correct q Also again gq (λ b. (a, b)) (λ x. (x.0 ≡ a) × Also x.1)
      (λ x. again x.1) (λ b k. ((refl, k), refl)) (λ x k. (x.1, k.1, ap (λ c. (c, x.1)) k.0)))
      (λ a x h k. (
        (let P : A → Type 0 = Is in subst P (sym k.0) h, k.1),
        ap (λ c. encode c ++ again x.1) k.0,
      ))
      (λ x h. (x.0, h.0, (refl, h.1)))

-- ---- bytes

pub byte_correct : (takes : ℕ → Bool) (one : ℕ) → takes one ≡ true
    → IsCorrectParser (byte takes) (λ b. takes b ≡ true) (λ b. b ∷ [])
byte_correct takes one live = record {
  one = one;
  live = live;
  explains = explained;
  complete =
      λ b h rest. ap (λ c. cond c (Parsed b rest) (Unexpected (b ∷ rest))) h;
}
  where
    explained : (ts : List ℕ) → Explains (byte takes) (λ b. takes b ≡ true) (λ b. b ∷ []) ts
        (byte takes ts)
    explained [] = ([], refl, (one ∷ [], one, live, refl), tt)
    explained (x ∷ ts) = by_test (takes x)
        (λ e. let P : Bool → Type 0 = λ b. Explains (byte takes) (λ b. takes b ≡ true) (λ b. b ∷ [])
        (x ∷ ts) (cond b (Parsed x ts) (Unexpected (x ∷ ts))) in subst P (sym e) (e, refl))
        (λ e. let P : Bool → Type 0 = λ b. Explains (byte takes) (λ b. takes b ≡ true) (λ b. b ∷ [])
        (x ∷ ts) (cond b (Parsed x ts) (Unexpected (x ∷ ts))) in
        subst P (sym e) (
          [],
          refl,
          (one ∷ [], one, live, refl),
          (λ other. ap (λ b. cond b (Parsed x other) (Unexpected (x ∷ other))) e),
        ))

-- each byte is taken
abbrev pub Each : (ℕ → Bool) → List ℕ → Type 0
Each takes bytes = AllByRecursion (λ b. takes b ≡ true) bytes

pub run_correct : (takes : ℕ → Bool) (one : ℕ) → takes one ≡ true → (k : ℕ)
    → IsCorrectParser (run takes k) (λ l. (length l ≡ k) × Each takes l) (λ l. l)
unfolding run
run_correct takes one live zero = retold (pure []) (λ l. l ≡ []) (λ l. (length l ≡ 0)
    × Each takes l) (λ l. []) (λ l. l) empty nothing (pure_correct [])
  where
    empty : (l : List ℕ) → l ≡ [] → ((length l ≡ 0) × Each takes l) × ([] ≡ l)
    empty [] e = ((refl, tt), refl)
    empty (b ∷ l) e = absurd cc

    nothing : (l : List ℕ) → (length l ≡ 0) × Each takes l → l ≡ []
    nothing [] h = refl
    nothing (b ∷ l) h = absurd (omega (arith, h.0))
run_correct takes one live (suc k) =
    then_correct (byte takes) (λ b. takes b ≡ true) (λ b. b ∷ [])
    (λ b. map_to (λ l. b ∷ l) (run takes k)) (λ b l. (m : List ℕ)
    × ((length m ≡ k) × Each takes m) × (l ≡ b ∷ m)) (λ b l. drop 1 l) (λ l. (length l ≡ suc k)
    × Each takes l) (λ l. l) (byte_correct takes one live)
    (λ b h. mapped_correct (run takes k) (λ l. (length l ≡ k) × Each takes l) (λ l. l)
    (run_correct takes one live k) (λ l. b ∷ l) (λ l. (m : List ℕ)
    × ((length m ≡ k) × Each takes m) × (l ≡ b ∷ m)) (λ l. drop 1 l)
    (λ m e. ((m, e, refl), refl)) (λ l e. e))
    (λ b l h e. (let P : List ℕ → Type 0 = λ x. ((length x ≡ suc k) × Each takes x)
    × (x ≡ b ∷ drop 1 x) in subst P (sym e.2) ((ap suc e.1.0, (h, e.1.1)), refl)))
    parted
  where
    parted : (l : List ℕ) → (length l ≡ suc k) × Each takes l → (b : ℕ) × (takes b ≡ true)
        × ((m : List ℕ) × ((length m ≡ k) × Each takes m) × (l ≡ b ∷ m))
    parted [] h = absurd (omega (arith, h.0))
    parted (b ∷ l) h = (b, h.1.0, (l, (omega (arith, h.0), h.1.1), refl))

-- ---- a byte, and by it what follows

-- what a reader after this byte says of the whole
abbrev pub Arm : {A : Type 0} → (A → Type 0) → (A → List ℕ) → ℕ → Parser A → List ℕ → Out A → Type 0
Arm Is encode x p ts (Parsed a rest) = Is a × (x ∷ ts ≡ encode a ++ rest)
Arm Is encode x p ts (Unexpected rest) = (prefix : List ℕ) × (ts ≡ prefix ++ rest)
    × Begins Is encode (x ∷ prefix) × Same p prefix rest

abbrev pub ArmCorrect : {A : Type 0} → (A → Type 0) → (A → List ℕ) → ℕ → Parser A → Type 0
ArmCorrect Is encode x p = (ts : List ℕ) → Arm Is encode x p ts (p ts)

-- the parts of the whole, after the byte
module _ {A B : Type 0} (q : Parser B) (Part : B → Type 0) (part : B → List ℕ)
    (correct : IsCorrectParser q Part part) (make : B → A) (Is : A → Type 0) (encode : A → List ℕ)
    (x : ℕ) (up : (b : B) → Part b → Is (make b) × (encode (make b) ≡ x ∷ part b)) where
  arm_from : (ts : List ℕ) (o : Out B) → Explains q Part part ts o
      → Arm Is encode x (map_to make q) ts (and_then o (λ b. pure (make b)))
  arm_from ts (Parsed b rest) h = (
    (up b h.0).0,
    ap (λ l. x ∷ l) h.1
        ∙ ap (λ l. l ++ rest) (sym (up b h.0).1),
  )
  arm_from ts (Unexpected rest) h = (
    h.0,
    h.1,
    (h.2.0, make h.2.1, (up h.2.1 h.2.2).0, (up h.2.1 h.2.2).1 ∙ ap (λ l. x ∷ l) h.2.3),
    same_first q (λ b. pure (make b)) h.0 rest h.3,
  )

  pub parts_correct : ArmCorrect Is encode x (map_to make q)
  parts_correct ts = arm_from ts (q ts) (correct.explains ts)

  -- what is spelled so is read after the byte
  pub parts_read : (b : B) → Part b → (rest : List ℕ)
      → map_to make q (part b ++ rest) ≡ Parsed (make b) rest
  parts_read b h rest = ap (λ o. and_then o (λ c. pure (make c))) (correct.complete b h rest)

module _ {A : Type 0} (takes : ℕ → Bool) (arm : ℕ → Parser A) (Is : A → Type 0) (encode : A
    → List ℕ)
    (one : A) (live : Is one)
    (each : (x : ℕ) → takes x ≡ true → ArmCorrect Is encode x (arm x))
    (complete : (a : A) → Is a → (rest : List ℕ)
    → by_tag takes arm (encode a ++ rest) ≡ Parsed a rest) where
  refused : (x : ℕ) (rest : List ℕ) → takes x ≡ false → Same (by_tag takes arm) [] (x ∷ rest)
  refused x rest e = λ other. ap (λ b. and_then (cond b (Parsed x other) (Unexpected (x ∷ other)))
      arm) e

  later : (x : ℕ) (prefix rest : List ℕ) → takes x ≡ true → Same (arm x) prefix rest
      → Same (by_tag takes arm) (x ∷ prefix) rest
  later x prefix [] e s = tt
  later x prefix (y ∷ rest) e s = λ other. ap
      (λ b. and_then (cond b (Parsed x (prefix ++ y ∷ other))
      (Unexpected (x ∷ (prefix ++ y ∷ other)))) arm) e ∙ s other

  taken : (x : ℕ) (ts : List ℕ) → takes x ≡ true → (o : Out A) → Arm Is encode x (arm x) ts o
      → Explains (by_tag takes arm) Is encode (x ∷ ts) o
  taken x ts e (Parsed a rest) h = h
  taken x ts e (Unexpected rest) h = (x ∷ h.0, ap (λ l. x ∷ l) h.1, h.2, later x h.0 rest e h.3)

  explained : (ts : List ℕ) → Explains (by_tag takes arm) Is encode ts (by_tag takes arm ts)
  explained [] = ([], refl, (encode one, one, live, refl), tt)
  explained (x ∷ ts) = by_test (takes x)
      (λ e. let P : Bool → Type 0 = λ b. Explains (by_tag takes arm) Is encode (x ∷ ts)
      (and_then (cond b (Parsed x ts) (Unexpected (x ∷ ts))) arm) in
      subst P (sym e) (taken x ts e (arm x ts) (each x e ts)))
      (λ e. let P : Bool → Type 0 = λ b. Explains (by_tag takes arm) Is encode (x ∷ ts)
      (and_then (cond b (Parsed x ts) (Unexpected (x ∷ ts))) arm) in
      subst P (sym e) ([], refl, (encode one, one, live, refl), refused x ts e))

  pub tagged_correct : IsCorrectParser (by_tag takes arm) Is encode
  tagged_correct = record { one = one; live = live; explains = explained; complete = complete }
