-- The steps of going over bytes.
use Rattle.std.proofs.Common.{◌≡◌, ℕ, List, Result, Ok, Err, ap, ◌∙◌}
use Rattle.command_codec_spec.specs.Reading.{Out, Parsed, Parser, and_then, bind, pure}
use Rattle.command_codec_spec.specs.Reading.{map_to, pair}
use Rattle.command_codec.specs.Reads.{Passes, Halts, Recognizes}

-- what was read and is not kept was passed
pub passed : {A : Type 0} (a : A) (out : Out A) (new : List ℕ) → out ≡ Parsed a new → Passes out new
passed a out new e = record { read = a; got = e }

module _ {A B : Type 0} (p : Parser A) (f : A → Parser B) (ts : List ℕ) where
  -- where the first part is stuck, so is the whole
  pub first_halts : {E : Type 0} (e : E) (new : List ℕ) → Halts (p ts) e new
      → Halts (bind p f ts) e new
  first_halts e new h = ap (λ o. and_then o f) h

  -- after it the second part decides, whatever was read
  pub second_decides : {X E : Type 0} (us : List ℕ) (result : Result X E) (new : List ℕ)
      → Passes (p ts) us → ((a : A) → Recognizes (f a us) result new)
      → Recognizes (bind p f ts) result new
  second_decides us (Ok x) new h k = let g = k h.read in
      record { read = g.read; got = ap (λ o. and_then o f) h.got ∙ g.got }
  second_decides us (Err e) new h k = ap (λ o. and_then o f) h.got ∙ k h.read

  -- and where a number or a tag was read, by it
  pub after : {X E : Type 0} (a : A) (us : List ℕ) (result : Result X E) (new : List ℕ)
      → p ts ≡ Parsed a us → Recognizes (f a us) result new → Recognizes (bind p f ts) result new
  after a us (Ok x) new e k = record { read = k.read; got = ap (λ o. and_then o f) e ∙ k.got }
  after a us (Err stop) new e k = ap (λ o. and_then o f) e ∙ k

-- what is made of a part is recognized where the part is
pub mapped : {A B X E : Type 0} (f : A → B) (p : Parser A) (ts : List ℕ) (result : Result X E)
    (new : List ℕ) → Recognizes (p ts) result new → Recognizes (map_to f p ts) result new
mapped f p ts (Ok x) new h = record {
  read = f h.read;
  got =
      ap (λ o. and_then o (λ a. pure (f a))) h.got;
}
mapped f p ts (Err e) new h = ap (λ o. and_then o (λ a. pure (f a))) h

pub mapped_halts : {A B E : Type 0} (f : A → B) (p : Parser A) (ts : List ℕ) (e : E)
    (new : List ℕ)
    → Halts (p ts) e new → Halts (map_to f p ts) e new
mapped_halts f p ts e new h = first_halts p (λ a. pure (f a)) ts e new h

-- two, one after the other
module _ {A B : Type 0} (p : Parser A) (q : Parser B) (ts : List ℕ) where
  pub paired : {X E : Type 0} (us : List ℕ) (result : Result X E) (new : List ℕ)
      → Passes (p ts) us
      → Recognizes (q us) result new → Recognizes (pair p q ts) result new
  paired us result new h k = second_decides p (λ a. map_to (λ b. (a, b)) q) ts us result new h
      (λ a. mapped (λ b. (a, b)) q us result new k)

  pub both_pass : (us vs : List ℕ) → Passes (p ts) us → Passes (q us) vs → Passes (pair p q ts) vs
  both_pass us vs h k = record {
    read = (h.read, k.read);
    got =
        ap (λ o. and_then o (λ a. map_to (λ b. (a, b)) q)) h.got
        ∙ ap (λ o. and_then o (λ b. pure (h.read, b))) k.got;
  }

  pub first_of_pair_halts : {E : Type 0} (e : E) (new : List ℕ) → Halts (p ts) e new
      → Halts (pair p q ts) e new
  first_of_pair_halts e new h = first_halts p (λ a. map_to (λ b. (a, b)) q) ts e new h

  pub second_of_pair_halts : {E : Type 0} (us : List ℕ) (e : E) (new : List ℕ) → Passes (p ts) us
      → Halts (q us) e new → Halts (pair p q ts) e new
  second_of_pair_halts us e new h k =
      ap (λ o. and_then o (λ a. map_to (λ b. (a, b)) q)) h.got
      ∙ ap (λ o. and_then o (λ b. pure (h.read, b))) k
