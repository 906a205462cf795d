-- What is kept of a statement tells what it is.
use Rattle.std.proofs.Common.{◌≡◌, ◌≤◌, ◌+◌, ℕ, Bool, true, false, List, [], ◌∷◌, ◌++◌, length}
use Rattle.std.proofs.Common.{refl, sym, ap, ◌∙◌, arith, length-append}
use Rattle.std.specs.Prelude.{◌&&◌, nat_lt}
use Rattle.std.proofs.lemmas.Bool.Decides.{nat_tests}
use Rattle.prima_base.specs.Limits.{max_statement}
use Rattle.script_parse.specs.Script.{next, is_too_long, mode_after, all_quiet, is_quiet}
use Rattle.script_parse.specs.Splitting.{keep, IsTracked}
use Rattle.script_parse.specs.declared.mode.Mode.{Mode}
use Rattle.script_parse.specs.declared.mode.Mode.TheVariants.{Plain}

pub mode_append : (xs : List ℕ) (m : Mode) (b : ℕ)
    → mode_after m (xs ++ b ∷ []) ≡ next (mode_after m xs) b
mode_append [] m b = refl
mode_append (x ∷ xs) m b = mode_append xs (next m x) b

and_true : (a : Bool) → (a && true) ≡ a
and_true true = refl
and_true false = refl

and_assoc : (a b c : Bool) → (a && (b && c)) ≡ ((a && b) && c)
and_assoc true b c = refl
and_assoc false b c = refl

quiet_append : (xs : List ℕ) (m : Mode) (b : ℕ)
    → all_quiet m (xs ++ b ∷ []) ≡ (all_quiet m xs && is_quiet (mode_after m xs) b)
quiet_append [] m b = and_true (is_quiet m b)
quiet_append (x ∷ xs) m b = ap (λ q. is_quiet m x && q) (quiet_append xs (next m x) b)
    ∙ and_assoc (is_quiet m x) (all_quiet (next m x) xs) (is_quiet (mode_after (next m x) xs) b)

was_short : (m b : ℕ) (c : List ℕ) → nat_lt m (length (c ++ b ∷ [])) ≡ false
    → nat_lt m (length c) ≡ false
was_short m b c h = grind (arith, length-append c (b ∷ []), nat_tests)

room : (m b : ℕ) (c : List ℕ) → nat_lt m (length c) ≡ false → length (c ++ b ∷ []) ≤ m + 1
room m b c h = grind (arith, length-append c (b ∷ []), nat_tests)

-- one more byte that was kept
tracked_kept : (m : Mode) (c : List ℕ) (q : Bool) (b : ℕ) → is_too_long c ≡ false → IsTracked m c q
    → IsTracked (next m b) (c ++ b ∷ []) (q && is_quiet m b)
tracked_kept m c q b short h = record {
  short = room max_statement b c short;
  mode_is = λ e. ap (λ n. next n b) (h.mode_is short) ∙ sym (mode_append c Plain b);
  quiet_is = λ e. ap (λ n. q && is_quiet n b) (h.mode_is short)
      ∙ ap (λ p. p && is_quiet (mode_after Plain c) b) (h.quiet_is short)
      ∙ sym (quiet_append c Plain b);
}

-- one more byte that was not
tracked_skipped : (m n : Mode) (c : List ℕ) (q r : Bool) → is_too_long c ≡ true → IsTracked m c q
    → IsTracked n c r
tracked_skipped m n c q r long h = record {
  short = h.short;
  mode_is = λ e. absurd (let a : true ≡ false = sym long ∙ e in cc);
  quiet_is = λ e. absurd (let a : true ≡ false = sym long ∙ e in cc);
}

pub tracked_step : (m : Mode) (c : List ℕ) (q : Bool) (b : ℕ) → IsTracked m c q
    → IsTracked (next m b) (keep c b) (q && is_quiet m b)
tracked_step m c q b h = by (is_too_long c) refl
  where
    by : (v : Bool) → is_too_long c ≡ v → IsTracked (next m b) (keep c b) (q && is_quiet m b)
    by true e = rw e (tracked_skipped m (next m b) c q (q && is_quiet m b) e h)
    by false e = rw e (tracked_kept m c q b e h)
