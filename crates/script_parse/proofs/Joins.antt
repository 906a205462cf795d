-- A script is its statements and its tail.
use Rattle.std.proofs.Common.{◌≡◌, ℕ, true, false, List, [], ◌∷◌, ◌++◌, refl, arith, sym, ap, ◌∙◌}
use Rattle.std.proofs.Common.{append_assoc, append-nil}
use Rattle.std.specs.Prelude.{◌==◌, ◌||◌, cond}
use Rattle.std.proofs.lemmas.Bool.Decides.{nat_tests}
use Rattle.script_parse.specs.Script.{next, is_end, mode_after, statements_from, tail_from}
use Rattle.script_parse.specs.Script.{statements_of, tail_of}
use Rattle.script_parse.specs.Joining.{joined, has_end, IsTail, IsStatement, Each}
use Rattle.script_parse.proofs.Keeping.{mode_append}
use Rattle.script_parse.specs.declared.mode.Mode.{Mode}
use Rattle.script_parse.specs.declared.mode.Mode.TheVariants.{Plain, Dash, Quoted, Comment}

same_number : (b : ℕ) → (b == 59) ≡ true → b ≡ 59
same_number b e = grind (arith, nat_tests)

-- only a `;` is an end
end_is : (m : Mode) (b : ℕ) → is_end m b ≡ true → b ≡ 59
end_is Plain b e = same_number b e
end_is Dash b e = same_number b e
end_is Quoted b e = absurd (cc)
end_is Comment b e = absurd (cc)

pub joined_again : (bs : List ℕ) (m : Mode) (c : List ℕ)
    → joined (statements_from m c bs) (tail_from m c bs) ≡ c ++ bs
joined_again [] m c = sym (append-nil c)
joined_again (b ∷ bs) m c =
    elim (is_end m b) as (λ v. is_end m b ≡ v
    → joined (cond v (c ∷ statements_from Plain [] bs)
    (statements_from (next m b) (c ++ b ∷ []) bs))
    (cond v (tail_from Plain [] bs) (tail_from (next m b) (c ++ b ∷ []) bs)) ≡ c ++ b ∷ bs) [
      | true ↦ λ e. ap (λ l. c ++ 59 ∷ l) (joined_again bs Plain [])
          ∙ ap (λ n. c ++ n ∷ bs) (sym (end_is m b e))
      | false ↦ λ e. joined_again bs (next m b) (c ++ b ∷ []) ∙ append_assoc c (b ∷ []) bs
    ] refl

-- a byte that ends nothing keeps a statement without an end
open_append : (xs : List ℕ) (m : Mode) (b : ℕ) → has_end m xs ≡ false
    → is_end (mode_after m xs) b ≡ false → has_end m (xs ++ b ∷ []) ≡ false
open_append [] m b h e = rw e refl
open_append (x ∷ xs) m b h e =
    elim (is_end m x) as (λ v. (v || has_end (next m x) xs) ≡ false
    → (v || has_end (next m x) (xs ++ b ∷ [])) ≡ false) [
      | true ↦ λ w. w
      | false ↦ λ w. open_append xs (next m x) b w e
    ] h

pub statements_whole : (bs : List ℕ) (m : Mode) (c : List ℕ) → has_end Plain c ≡ false
    → m ≡ mode_after Plain c → Each IsStatement (statements_from m c bs)
statements_whole [] m c h e = tt
statements_whole (b ∷ bs) m c h e =
    elim (is_end m b) as (λ v. is_end m b ≡ v
    → Each IsStatement (cond v (c ∷ statements_from Plain [] bs)
    (statements_from (next m b) (c ++ b ∷ []) bs))) [
      | true ↦ λ w. (
        record {
          whole = h;
          closed = ap (λ n. is_end n 59) (sym e)
              ∙ ap (is_end m) (sym (end_is m b w)) ∙ w;
        },
        statements_whole bs Plain [] refl refl,
      )
      | false ↦ λ w. statements_whole bs (next m b) (c ++ b ∷ [])
          (open_append c Plain b h (ap (λ n. is_end n b) (sym e) ∙ w))
          (ap (λ n. next n b) e ∙ sym (mode_append c Plain b))
    ] refl

pub tail_whole : (bs : List ℕ) (m : Mode) (c : List ℕ) → has_end Plain c ≡ false
    → m ≡ mode_after Plain c → IsTail (tail_from m c bs)
tail_whole [] m c h e = h
tail_whole (b ∷ bs) m c h e =
    elim (is_end m b) as (λ v. is_end m b ≡ v
    → IsTail (cond v (tail_from Plain [] bs) (tail_from (next m b) (c ++ b ∷ []) bs))) [
      | true ↦ λ w. tail_whole bs Plain [] refl refl
      | false ↦ λ w. tail_whole bs (next m b) (c ++ b ∷ [])
          (open_append c Plain b h (ap (λ n. is_end n b) (sym e) ∙ w))
          (ap (λ n. next n b) e ∙ sym (mode_append c Plain b))
    ] refl

-- a statement's bytes are read into it
statements_through : (xs ys : List ℕ) (m : Mode) (c : List ℕ) → has_end m xs ≡ false
    → statements_from m c (xs ++ ys) ≡ statements_from (mode_after m xs) (c ++ xs) ys
statements_through [] ys m c h = ap (λ d. statements_from m d ys) (sym (append-nil c))
statements_through (x ∷ xs) ys m c h =
    elim (is_end m x) as (λ v. (v || has_end (next m x) xs) ≡ false
    → cond v (c ∷ statements_from Plain [] (xs ++ ys))
    (statements_from (next m x) (c ++ x ∷ []) (xs ++ ys))
    ≡ statements_from (mode_after (next m x) xs) (c ++ x ∷ xs) ys) [
      | true ↦ λ w. absurd (cc)
      | false ↦ λ w. statements_through xs ys (next m x) (c ++ x ∷ []) w
          ∙ ap (λ d. statements_from (mode_after (next m x) xs) d ys) (append_assoc c (x ∷ []) xs)
    ] h

tail_through : (xs ys : List ℕ) (m : Mode) (c : List ℕ) → has_end m xs ≡ false
    → tail_from m c (xs ++ ys) ≡ tail_from (mode_after m xs) (c ++ xs) ys
tail_through [] ys m c h = ap (λ d. tail_from m d ys) (sym (append-nil c))
tail_through (x ∷ xs) ys m c h =
    elim (is_end m x) as (λ v. (v || has_end (next m x) xs) ≡ false
    → cond v (tail_from Plain [] (xs ++ ys)) (tail_from (next m x) (c ++ x ∷ []) (xs ++ ys))
    ≡ tail_from (mode_after (next m x) xs) (c ++ x ∷ xs) ys) [
      | true ↦ λ w. absurd (cc)
      | false ↦ λ w. tail_through xs ys (next m x) (c ++ x ∷ []) w
          ∙ ap (λ d. tail_from (mode_after (next m x) xs) d ys) (append_assoc c (x ∷ []) xs)
    ] h

-- what begins with a statement and its `;`
first_statement : (s ys : List ℕ) → IsStatement s
    → statements_of (s ++ 59 ∷ ys) ≡ s ∷ statements_of ys
first_statement s ys h =
    statements_through s (59 ∷ ys) Plain [] h.whole
    ∙ ap (λ v. cond v (s ∷ statements_from Plain [] ys)
    (statements_from (next (mode_after Plain s) 59) (s ++ 59 ∷ []) ys)) h.closed

first_tail : (s ys : List ℕ) → IsStatement s → tail_of (s ++ 59 ∷ ys) ≡ tail_of ys
first_tail s ys h =
    tail_through s (59 ∷ ys) Plain [] h.whole
    ∙ ap (λ v. cond v (tail_from Plain [] ys)
    (tail_from (next (mode_after Plain s) 59) (s ++ 59 ∷ []) ys)) h.closed

pub statements_again : (ss : List (List ℕ)) (t : List ℕ) → Each IsStatement ss → IsTail t
    → statements_of (joined ss t) ≡ ss
statements_again [] t hs ht = ap statements_of (sym (append-nil t))
    ∙ statements_through t [] Plain [] ht
statements_again (s ∷ ss) t hs ht = first_statement s (joined ss t) hs.0
    ∙ ap (λ l. s ∷ l) (statements_again ss t hs.1 ht)

pub tail_again : (ss : List (List ℕ)) (t : List ℕ) → Each IsStatement ss → IsTail t
    → tail_of (joined ss t) ≡ t
tail_again [] t hs ht = ap tail_of (sym (append-nil t)) ∙ tail_through t [] Plain [] ht
tail_again (s ∷ ss) t hs ht = first_tail s (joined ss t) hs.0 ∙ tail_again ss t hs.1 ht
