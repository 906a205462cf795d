-- How what several puts appended adds up.
use Rattle.std.proofs.Common.{ℕ, List, ◌++◌, sym, ap, ◌∙◌, append_assoc, Result, append-nil, [], Ok}
use Rattle.std.proofs.Common.{Err, OnErr}
use Rattle.std.specs.Prelude.{Option}
use Rattle.std.specs.Io.KnownBytes.{Appends}
use Rattle.std.proofs.KnownBytes.{Appends-trans}
use Rattle.prima_io.specs.Moves.{AppendsPrefix, AppendsLess}

pub on_err : {T E : Type 0} (r : Result T E) (P : Type 0) → P → OnErr r P
on_err (Ok x) P p = tt
on_err (Err e) P p = p

pub of_less : (a b : Option (List ℕ)) (xs : List ℕ) → AppendsLess a b xs → AppendsPrefix a b xs
of_less a b xs (prefix, suffix, e, l, p) = (prefix, suffix, e, p)

pub longer : (a b : Option (List ℕ)) (xs ys : List ℕ) → AppendsPrefix a b xs
    → AppendsPrefix a b (xs ++ ys)
longer a b xs ys (prefix, suffix, e, p) = (
  prefix,
  suffix ++ ys,
  ap (λ l. l ++ ys) e
      ∙ append_assoc prefix suffix ys,
  p,
)

pub after : (a b c : Option (List ℕ)) (xs ys : List ℕ) → Appends a b xs → AppendsPrefix b c ys
    → AppendsPrefix a c (xs ++ ys)
after a b c xs ys p (prefix, suffix, e, q) = (
  xs ++ prefix,
  suffix,
  ap (λ l. xs ++ l) e ∙ sym (append_assoc xs prefix suffix),
  Appends-trans a b c xs prefix p q,
)

pub whole : (a b : Option (List ℕ)) (xs : List ℕ) → Appends a b xs → AppendsPrefix a b xs
whole a b xs p = (xs, [], sym (append-nil xs), p)

-- the same where a call failed
pub after_less : {T E : Type 0} (r : Result T E) (a b c : Option (List ℕ)) (xs ys : List ℕ)
    → Appends a b xs → OnErr r (AppendsLess b c ys) → OnErr r (AppendsPrefix a c (xs ++ ys))
after_less (Ok x) a b c xs ys p q = tt
after_less (Err e) a b c xs ys p q = after a b c xs ys p (of_less b c ys q)

pub after_prefix : {T E : Type 0} (r : Result T E) (a b c : Option (List ℕ)) (xs ys : List ℕ)
    → Appends a b xs → OnErr r (AppendsPrefix b c ys) → OnErr r (AppendsPrefix a c (xs ++ ys))
after_prefix (Ok x) a b c xs ys p q = tt
after_prefix (Err e) a b c xs ys p q = after a b c xs ys p q
