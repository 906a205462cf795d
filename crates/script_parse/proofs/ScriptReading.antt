-- What a script still holds does not change as it is read byte by byte.
use Rattle.std.proofs.Common.{◌≡◌, ◌<◌, ◌≤◌, ◌+◌, ◌-◌, ℕ, Bool, true, false, List, [], ◌∷◌, ◌++◌}
use Rattle.std.proofs.Common.{length, map, refl, sym, ap, ◌∙◌, arith, length-append, get_or, take}
use Rattle.std.proofs.Common.{drop, length-drop}
use Rattle.std.specs.Prelude.{cond, nat_lt}
use Rattle.std.proofs.lemmas.Bool.Decides.{nat_tests}
use Rattle.std.proofs.lemmas.List.{drop_more, take_all}
use Rattle.prima_base.specs.Limits.{max_statement}
use Rattle.script_parse.specs.Script.{next, is_end, is_too_long, statements_from, tail_from}
use Rattle.script_parse.specs.Script.{Skipped, part_of, parts_from, ending}
use Rattle.script_parse.specs.Splitting.{keep, IsEndOf}
use Rattle.script_parse.specs.declared.mode.Mode.{Mode}
use Rattle.script_parse.specs.declared.mode.Mode.TheVariants.{Plain}
use Rattle.script_parse.specs.declared.splitter.Tail.TheVariants.{TooLong}

-- a too long statement stays too long
still_long : (m b : ℕ) (c : List ℕ) → nat_lt m (length c) ≡ true
    → nat_lt m (length (c ++ b ∷ [])) ≡ true
still_long m b c h = grind (arith, length-append c (b ∷ []), nat_tests)

part_long : (c : List ℕ) → is_too_long c ≡ true → part_of c ≡ Skipped
part_long c h = rw h refl

ending_long : (c : List ℕ) → is_too_long c ≡ true → ending c ≡ TooLong
ending_long c h = rw h refl

-- of a too long statement nothing more counts
pub parts_alike : (bs : List ℕ) (m : Mode) (c d : List ℕ) → is_too_long c ≡ true
    → is_too_long d ≡ true → parts_from m c bs ≡ parts_from m d bs
parts_alike [] m c d hc hd = refl
parts_alike (b ∷ bs) m c d hc hd =
    elim (is_end m b) as (λ v. map part_of (cond v (c ∷ statements_from Plain [] bs)
    (statements_from (next m b) (c ++ b ∷ []) bs))
    ≡ map part_of (cond v (d ∷ statements_from Plain [] bs)
    (statements_from (next m b) (d ++ b ∷ []) bs))) [
      | true ↦ ap (λ p. p ∷ parts_from Plain [] bs) (part_long c hc ∙ sym (part_long d hd))
      | false ↦ parts_alike bs (next m b) (c ++ b ∷ []) (d ++ b ∷ [])
          (still_long max_statement b c hc) (still_long max_statement b d hd)
    ]

pub endings_alike : (bs : List ℕ) (m : Mode) (c d : List ℕ) → is_too_long c ≡ true
    → is_too_long d ≡ true → ending (tail_from m c bs) ≡ ending (tail_from m d bs)
endings_alike [] m c d hc hd = ending_long c hc ∙ sym (ending_long d hd)
endings_alike (b ∷ bs) m c d hc hd =
    elim (is_end m b) as (λ v. ending (cond v (tail_from Plain [] bs)
    (tail_from (next m b) (c ++ b ∷ []) bs))
    ≡ ending (cond v (tail_from Plain [] bs) (tail_from (next m b) (d ++ b ∷ []) bs))) [
      | true ↦ refl
      | false ↦ endings_alike bs (next m b) (c ++ b ∷ []) (d ++ b ∷ [])
          (still_long max_statement b c hc) (still_long max_statement b d hd)
    ]

kept_parts : (bs : List ℕ) (m : Mode) (c : List ℕ) (b : ℕ)
    → parts_from m (c ++ b ∷ []) bs ≡ parts_from m (keep c b) bs
kept_parts bs m c b = by (is_too_long c) refl
  where
    by : (v : Bool) → is_too_long c ≡ v → parts_from m (c ++ b ∷ []) bs
        ≡ parts_from m (keep c b) bs
    by true e = rw e (parts_alike bs m (c ++ b ∷ []) c (still_long max_statement b c e) e)
    by false e = rw e refl

kept_endings : (bs : List ℕ) (m : Mode) (c : List ℕ) (b : ℕ)
    → ending (tail_from m (c ++ b ∷ []) bs) ≡ ending (tail_from m (keep c b) bs)
kept_endings bs m c b = by (is_too_long c) refl
  where
    by : (v : Bool) → is_too_long c ≡ v → ending (tail_from m (c ++ b ∷ []) bs)
        ≡ ending (tail_from m (keep c b) bs)
    by true e = rw e (endings_alike bs m (c ++ b ∷ []) c (still_long max_statement b c e) e)
    by false e = rw e refl

-- a byte of a statement
pub parts_step : (m : Mode) (c : List ℕ) (b : ℕ) (bs : List ℕ) → is_end m b ≡ false
    → parts_from m c (b ∷ bs) ≡ parts_from (next m b) (keep c b) bs
parts_step m c b bs e = ap (λ v. map part_of
    (cond v (c ∷ statements_from Plain [] bs) (statements_from (next m b) (c ++ b ∷ []) bs))) e
    ∙ kept_parts bs (next m b) c b

pub endings_step : (m : Mode) (c : List ℕ) (b : ℕ) (bs : List ℕ) → is_end m b ≡ false
    → ending (tail_from m c (b ∷ bs)) ≡ ending (tail_from (next m b) (keep c b) bs)
endings_step m c b bs e = ap (λ v. ending (cond v (tail_from Plain [] bs)
    (tail_from (next m b) (c ++ b ∷ []) bs))) e ∙ kept_endings bs (next m b) c b

-- a statement's end
pub parts_end : (m : Mode) (c : List ℕ) (b : ℕ) (bs : List ℕ) → is_end m b ≡ true
    → parts_from m c (b ∷ bs) ≡ part_of c ∷ parts_from Plain [] bs
parts_end m c b bs e = ap (λ v. map part_of
    (cond v (c ∷ statements_from Plain [] bs) (statements_from (next m b) (c ++ b ∷ []) bs))) e

pub endings_end : (m : Mode) (c : List ℕ) (b : ℕ) (bs : List ℕ) → is_end m b ≡ true
    → ending (tail_from m c (b ∷ bs)) ≡ ending (tail_from Plain [] bs)
endings_end m c b bs e = ap (λ v. ending (cond v (tail_from Plain [] bs)
    (tail_from (next m b) (c ++ b ∷ []) bs))) e

-- a loop's turn
pub parts_turn : (bs more : List ℕ) (i : ℕ) (m : Mode) (c : List ℕ) → i < length bs
    → is_end m (get_or bs i 0) ≡ false
    → parts_from m c (drop i bs ++ more) ≡ parts_from (next m (get_or bs i 0))
    (keep c (get_or bs i 0)) (drop (i + 1) bs ++ more)
parts_turn bs more i m c h e = ap (λ l. parts_from m c (l ++ more)) (drop_more bs i 0 h)
    ∙ parts_step m c (get_or bs i 0) (drop (i + 1) bs ++ more) e

pub endings_turn : (bs more : List ℕ) (i : ℕ) (m : Mode) (c : List ℕ) → i < length bs
    → is_end m (get_or bs i 0) ≡ false
    → ending (tail_from m c (drop i bs ++ more))
    ≡ ending (tail_from (next m (get_or bs i 0)) (keep c (get_or bs i 0))
    (drop (i + 1) bs ++ more))
endings_turn bs more i m c h e = ap (λ l. ending (tail_from m c (l ++ more))) (drop_more bs i 0 h)
    ∙ endings_step m c (get_or bs i 0) (drop (i + 1) bs ++ more) e

-- what is left of the bytes after `n` of them
pub rest_is_end : (bs : List ℕ) (n : ℕ) → n ≤ length bs
    → IsEndOf (take (length bs - n) (drop n bs)) bs
rest_is_end bs n h =
    let rest : take (length bs - n) (drop n bs) ≡ drop n bs =
    take_all (length bs - n) (drop n bs) (omega (arith, length-drop n bs)) in
    let back : length bs - length (drop n bs) ≡ n = omega (arith, length-drop n bs) in
    rest ∙ ap (λ k. drop k bs) (sym back) ∙ ap (λ l. drop (length bs - length l) bs) (sym rest)
