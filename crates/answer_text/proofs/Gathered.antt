-- How what is gathered piece by piece adds up.
use Rattle.std.proofs.Common.{◌≡◌, ℕ, List, [], ◌++◌, sym, ap, ◌∙◌, append_assoc, append-nil, subst}
use Rattle.std.proofs.Common.{arith, length-append, Result, Ok, Err, OnErr}
use Rattle.std.specs.Prelude.{Option}
use Rattle.std.specs.Io.KnownBytes.{Appends}
use Rattle.std.proofs.KnownBytes.{Appends-trans, Appends-nil}
use Rattle.prima_io.specs.Moves.{AppendsLess}
use Rattle.answer_text.specs.Gathering.{Gathers}

-- at the exit of a `?`
pub on_err : {T E : Type 0} (r : Result T E) (P : Type 0) → P → OnErr r P
on_err (Ok x) P p = tt
on_err (Err e) P p = p

-- what a line that was empty holds after its first piece
pub begun : (empty line xs : List ℕ) → empty ≡ [] → line ≡ empty ++ xs → line ≡ xs
begun empty line xs e p = p ∙ ap (λ l. l ++ xs) e

-- a piece that the line has room for
pub added : (a : Option (List ℕ)) (h h' xs : List ℕ) → h' ≡ h ++ xs → Gathers a h a h' xs
added a h h' xs e = record { put = []; appended = Appends-nil a; split = sym e }

-- a piece after a flush
pub after_flush : (a b : Option (List ℕ)) (h h' xs : List ℕ) → Appends a b h → h' ≡ xs
    → Gathers a h b h' xs
after_flush a b h h' xs p e = record { put = h; appended = p; split = ap (λ l. h ++ l) (sym e) }

-- a piece that is put itself
pub put_too : (a b c : Option (List ℕ)) (h h' xs : List ℕ) → Appends a b h → Appends b c xs
    → h' ≡ [] → Gathers a h c h' xs
put_too a b c h h' xs p q e =
    record {
      put = h ++ xs;
      appended = Appends-trans a b c h xs p q;
      split =
          sym (append-nil (h ++ xs)) ∙ ap (λ l. (h ++ xs) ++ l) (sym e);
    }

pub nothing : (a : Option (List ℕ)) (h : List ℕ) → Gathers a h a h []
nothing a h = record { put = []; appended = Appends-nil a; split = append-nil h }

-- two pieces after one another
pub more : (a b c : Option (List ℕ)) (h h' h'' xs ys : List ℕ) → Gathers a h b h' xs
    → Gathers b h' c h'' ys → Gathers a h c h'' (xs ++ ys)
more a b c h h' h'' xs ys p q = record {
  put = p.put ++ q.put;
  appended = Appends-trans a b c p.put q.put p.appended q.appended;
  split = sym (append_assoc h xs ys) ∙ ap (λ l. l ++ ys) p.split ∙ append_assoc p.put h' ys
      ∙ ap (λ l. p.put ++ l) q.split ∙ sym (append_assoc p.put q.put h'');
}

-- all that was gathered in a line that was empty is put by the last flush
pub all_put : (a b c : Option (List ℕ)) (h xs : List ℕ) → Gathers a [] b h xs → Appends b c h
    → Appends a c xs
all_put a b c h xs p q = subst (Appends a c) (sym p.split)
    (Appends-trans a b c p.put h p.appended q)

-- not all of a text is not all of a longer one
pub less_longer : (a b : Option (List ℕ)) (xs ys : List ℕ) → AppendsLess a b xs
    → AppendsLess a b (xs ++ ys)
less_longer a b xs ys (prefix, suffix, e, l, p) = (
  prefix,
  suffix ++ ys,
  ap (λ m. m ++ ys) e ∙ append_assoc prefix suffix ys,
  omega (arith, length-append suffix ys),
  p,
)

-- a failure after bytes that were put
pub less_after : (a b c : Option (List ℕ)) (xs ys : List ℕ) → Appends a b xs → AppendsLess b c ys
    → AppendsLess a c (xs ++ ys)
less_after a b c xs ys p (prefix, suffix, e, l, q) = (
  xs ++ prefix,
  suffix,
  ap (λ m. xs ++ m) e ∙ sym (append_assoc xs prefix suffix),
  l,
  Appends-trans a b c xs prefix p q,
)

-- a failure after bytes that were gathered
pub less_gathered : (a b c : Option (List ℕ)) (h h' xs ys : List ℕ) → Gathers a h b h' xs
    → AppendsLess b c (h' ++ ys) → AppendsLess a c (h ++ (xs ++ ys))
less_gathered a b c h h' xs ys p q =
    let e : p.put ++ (h' ++ ys) ≡ h ++ (xs ++ ys) =
    sym (append_assoc p.put h' ys) ∙ ap (λ l. l ++ ys) (sym p.split) ∙ append_assoc h xs ys in
    subst (AppendsLess a c) e (less_after a b c p.put (h' ++ ys) p.appended q)

-- the same, with more of the text to come
pub less_within : (a b c : Option (List ℕ)) (h h' xs ys zs text : List ℕ) → Gathers a h b h' xs
    → AppendsLess b c (h' ++ ys) → text ≡ xs ++ (ys ++ zs)
    → AppendsLess a c (h ++ text)
less_within a b c h h' xs ys zs text p q e =
    let e' : (h ++ (xs ++ ys)) ++ zs ≡ h ++ text =
    append_assoc h (xs ++ ys) zs ∙ ap (λ l. h ++ l) (append_assoc xs ys zs ∙ sym e) in
    subst (AppendsLess a c) e' (less_longer a c (h ++ (xs ++ ys)) zs
    (less_gathered a b c h h' xs ys p q))

-- a failure of a flush after bytes that were gathered
pub less_flushed : (a b c : Option (List ℕ)) (h h' xs : List ℕ) → Gathers a h b h' xs
    → AppendsLess b c h' → AppendsLess a c (h ++ xs)
less_flushed a b c h h' xs p q =
    subst (AppendsLess a c) (sym p.split) (less_after a b c p.put h' p.appended q)

-- the line was empty at first
pub less_begun : (a b : Option (List ℕ)) (empty xs : List ℕ) → empty ≡ []
    → AppendsLess a b (empty ++ xs) → AppendsLess a b xs
less_begun a b empty xs e p = subst (AppendsLess a b) (ap (λ l. l ++ xs) e) p
