-- The steps of reading, as functions take them.
use Rattle.std.proofs.Common.{◌≡◌, ℕ, suc, ◌+◌, ◌-◌, ◌*◌, ◌/◌, ◌^◌, ◌<◌, ◌≤◌, Bool, true, false}
use Rattle.std.proofs.Common.{cond, nat_lt, nat_le, List, [], ◌∷◌, ◌++◌, length, take, refl, sym}
use Rattle.std.proofs.Common.{ap, ◌∙◌, append_assoc, append-nil, length-append, arith}
use Rattle.std.proofs.lemmas.Bool.{leb-true}
use Rattle.std.proofs.lemmas.List.{take_at}
use Rattle.command_codec.specs.declared.reader.ReadStop.{ReadStop}
use Rattle.command_codec.specs.declared.reader.ReadStop.TheVariants as stop
use Rattle.command_codec_spec.specs.Reading.{Out, Parsed, Unexpected, Parser, and_then, pure}
use Rattle.command_codec_spec.specs.Reading.{map_to}
use Rattle.command_codec_spec.specs.Reading.{byte_by, byte, run, digits, prepend}
use Rattle.command_codec.specs.Reads.{Fails}
use Rattle.command_codec_spec.proofs.Numbers.{goes_on, of_both, higher}

-- a failure of a part is one of the whole
pub fails_along : {A B : Type 0} (p : Out A) (q : Out B) (e : ReadStop) (new : List ℕ)
    → ((rest : List ℕ) → p ≡ Unexpected rest → q ≡ Unexpected rest) → Fails p e new → Fails q e new
fails_along p q stop.NoMemory new h f = tt
fails_along p q stop.Unexpected new h f = h new f

pub of_stuck : {A : Type 0} (out : Out A) (e : ReadStop) (new : List ℕ) → e ≡ stop.Unexpected
    → Fails out e new → out ≡ Unexpected new
of_stuck out stop.NoMemory new h f = absurd cc
of_stuck out stop.Unexpected new h f = f

-- ---- numbers

-- the next byte of a number that begins with n
abbrev pub next_digit : ℕ → ℕ → ℕ → Parser ℕ
next_digit most k n = map_to (λ b. n * 256 + b) (byte (goes_on most k n))

after_digit : (most k n : ℕ) (o : Out ℕ) → and_then o (λ b. digits most k (n * 256 + b))
    ≡ and_then (and_then o (λ b. pure (n * 256 + b))) (λ m. digits most k m)
after_digit most k n (Parsed b rest) = refl
after_digit most k n (Unexpected rest) = refl

by_digit : (most k n : ℕ) (ts : List ℕ) → digits most (suc k) n ts
    ≡ and_then (next_digit most k n ts) (λ m. digits most k m)
unfolding digits
by_digit most k n ts = after_digit most k n (byte_by (goes_on most k n) ts)

from_left : (left : ℕ) → 0 < left → suc (left - 1) ≡ left
from_left left h = omega arith

pub digits_next : (most left n m : ℕ) (ts rest : List ℕ) → 0 < left
    → next_digit most (left - 1) n ts ≡ Parsed m rest
    → digits most left n ts ≡ digits most (left - 1) m rest
digits_next most left n m ts rest h e = ap (λ k. digits most k n ts) (sym (from_left left h))
    ∙ by_digit most (left - 1) n ts ∙ ap (λ o. and_then o (λ x. digits most (left - 1) x)) e

pub digits_stuck : (most left n : ℕ) (ts rest : List ℕ) → 0 < left
    → next_digit most (left - 1) n ts ≡ Unexpected rest → digits most left n ts ≡ Unexpected rest
digits_stuck most left n ts rest h e = ap (λ k. digits most k n ts) (sym (from_left left h))
    ∙ by_digit most (left - 1) n ts ∙ ap (λ o. and_then o (λ x. digits most (left - 1) x)) e

pub digits_done : (most left n : ℕ) (ts : List ℕ) → left ≤ 0 → digits most left n ts ≡ Parsed n ts
unfolding digits
digits_done most left n ts h = let e : left ≡ 0 = omega arith in ap (λ k. digits most k n ts) e

taken_is : (P : ℕ → Bool) (f : ℕ → ℕ) (x : ℕ) (ts rest : List ℕ) (m : ℕ) (b : Bool) → P x ≡ b
    → and_then (cond b (Parsed x ts) (Unexpected (x ∷ ts))) (λ y. pure (f y)) ≡ Parsed m rest
    → (P x ≡ true) × (m ≡ f x)
taken_is P f x ts rest m true e h = (e, (let z : m ≡ f x = cc in z))
taken_is P f x ts rest m false e h = absurd (let z : Unexpected (x ∷ ts) ≡ Parsed m rest = h in cc)

pub digit_small : (most left n m : ℕ) (ts rest : List ℕ)
    → next_digit most (left - 1) n ts ≡ Parsed m rest → m ≤ most / 2 ^ (8 * (left - 1))
digit_small most left n m [] rest h = absurd (let z : Unexpected [] ≡ Parsed m rest = h in cc)
digit_small most left n m (x ∷ ts) rest h =
    let k = taken_is (goes_on most (left - 1) n) (λ b. n * 256 + b) x ts rest m
    (goes_on most (left - 1) n x) refl h in
    let z = leb-true (n * 256 + x) (most / 2 ^ (8 * (left - 1)))
    (of_both (nat_lt x 256) (nat_le (n * 256 + x) (most / 2 ^ (8 * (left - 1)))) k.0).1 in
    omega (arith, z, k.1)

pub digit_fits : (most left n : ℕ) → 0 < left → n ≤ most / 2 ^ (8 * left)
    → n ≤ most / 2 ^ (8 * (left - 1)) / 256
digit_fits most left n h e = let a = ap (λ k. most / 2 ^ (8 * k)) (from_left left h) in let b =
    higher (left - 1) most in omega (arith, a, b, e)

-- ---- rows of bytes

pub prepend_more : {A : Type 0} (prefix more : List A) (o : Out (List A))
    → prepend prefix (prepend more o) ≡ prepend (prefix ++ more) o
prepend_more prefix more (Parsed l rest) = ap (λ x. Parsed x rest)
    (sym (append_assoc prefix more l))
prepend_more prefix more (Unexpected rest) = refl

one_before : {A : Type 0} (a : A) (o : Out (List A))
    → and_then o (λ l. pure (a ∷ l)) ≡ prepend (a ∷ []) o
one_before a (Parsed l rest) = refl
one_before a (Unexpected rest) = refl

byte_prefix : (P : ℕ → Bool) (x : ℕ) (ts rest : List ℕ) (m : ℕ) (b : Bool)
    → cond b (Parsed x ts) (Unexpected (x ∷ ts)) ≡ Parsed m rest → x ∷ ts ≡ m ∷ rest
byte_prefix P x ts rest m true h = (let z : x ∷ ts ≡ m ∷ rest = cc in z)
byte_prefix P x ts rest m false h = absurd (let z : Unexpected (x ∷ ts) ≡ Parsed m rest = h in cc)

-- the byte that was read stands in prefix
pub byte_is_prefix : (P : ℕ → Bool) (m : ℕ) (ts rest : List ℕ) → byte P ts ≡ Parsed m rest
    → ts ≡ m ∷ rest
byte_is_prefix P m [] rest h = absurd (let z : Unexpected [] ≡ Parsed m rest = h in cc)
byte_is_prefix P m (x ∷ ts) rest h = byte_prefix P x ts rest m (P x) h

by_byte : (P : ℕ → Bool) (k : ℕ) (ts : List ℕ)
    → run P (suc k) ts ≡ and_then (byte P ts) (λ b. map_to (λ l. b ∷ l) (run P k))
unfolding run
by_byte P k ts = refl

pub run_next : (P : ℕ → Bool) (left b : ℕ) (ts rest : List ℕ) → 0 < left → byte P ts ≡ Parsed b rest
    → run P left ts ≡ prepend (b ∷ []) (run P (left - 1) rest)
run_next P left b ts rest h e = ap (λ k. run P k ts) (sym (from_left left h))
    ∙ by_byte P (left - 1) ts ∙ ap (λ o. and_then o (λ x. map_to (λ l. x ∷ l) (run P (left - 1)))) e
    ∙ one_before b (run P (left - 1) rest)

pub run_stuck : (P : ℕ → Bool) (left : ℕ) (ts rest : List ℕ) → 0 < left
    → byte P ts ≡ Unexpected rest → run P left ts ≡ Unexpected rest
run_stuck P left ts rest h e = ap (λ k. run P k ts) (sym (from_left left h))
    ∙ by_byte P (left - 1) ts ∙ ap (λ o. and_then o (λ x. map_to (λ l. x ∷ l) (run P (left - 1)))) e

pub run_done : (P : ℕ → Bool) (left : ℕ) (ts : List ℕ) → left ≤ 0 → run P left ts ≡ Parsed [] ts
unfolding run
run_done P left ts h = let e : left ≡ 0 = omega arith in ap (λ k. run P k ts) e

-- what was read so far
pub record SoFar (P : ℕ → Bool) (count left : ℕ) (start rest : List ℕ) : Type 0 where
  pub prefix : List ℕ
  pub parts : start ≡ prefix ++ rest
  pub counted : length prefix + left ≡ count
  pub read : run P count start ≡ prepend prefix (run P left rest)

pub none_so_far : (P : ℕ → Bool) (count : ℕ) (start : List ℕ) → SoFar P count count start start
none_so_far P count start = record {
  prefix = [];
  parts = refl;
  counted = omega arith;
  read =
      nothing_before (run P count start);
}
  where
    nothing_before : (o : Out (List ℕ)) → o ≡ prepend [] o
    nothing_before (Parsed l rest) = refl
    nothing_before (Unexpected rest) = refl

pub one_more : (P : ℕ → Bool) (count left b : ℕ) (start ts rest : List ℕ)
    → SoFar P count left start ts → 0 < left → byte P ts ≡ Parsed b rest
    → SoFar P count (left - 1) start rest
one_more P count left b start ts rest so h e = record {
  prefix = so.prefix ++ b ∷ [];
  parts = so.parts ∙ ap (λ l. so.prefix ++ l) (byte_is_prefix P b ts rest e)
      ∙ sym (append_assoc so.prefix (b ∷ []) rest);
  counted = (let c = so.counted in omega (arith, c, h, length-append so.prefix (b ∷ [])));
  read = so.read ∙ ap (λ o. prepend so.prefix o) (run_next P left b ts rest h e)
      ∙ prepend_more so.prefix (b ∷ []) (run P (left - 1) rest);
}

pub then_stuck : (P : ℕ → Bool) (count left : ℕ) (start ts rest : List ℕ)
    → SoFar P count left start ts → 0 < left → byte P ts ≡ Unexpected rest
    → run P count start ≡ Unexpected rest
then_stuck P count left start ts rest so h e = so.read
    ∙ ap (λ o. prepend so.prefix o) (run_stuck P left ts rest h e)

-- all were read: they are the prefix of what stood there
pub all_read : (P : ℕ → Bool) (count left : ℕ) (start ts : List ℕ) → SoFar P count left start ts
    → left ≤ 0 → (count ≤ length start) × (run P count start ≡ Parsed (take count start) ts)
all_read P count left start ts so h =
    let c = so.counted in
    let len : length so.prefix ≡ count = omega (arith, c, h) in
    let prefix : take count start ≡ so.prefix = ap (take count) so.parts
    ∙ take_at so.prefix ts count len in (
      (let e = ap length so.parts in omega (arith, e, len, length-append so.prefix ts)),
      so.read
          ∙ ap (λ o. prepend so.prefix o) (run_done P left ts h)
          ∙ ap (λ l. Parsed l ts) (append-nil so.prefix ∙ sym prefix),
    )
