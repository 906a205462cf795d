-- The law of a part with counts of its own.
use Rattle.std.proofs.Common.{◌≡◌, ℕ, ◌≤◌, max, Bool, true, false, cond, ◌==◌, eqb-true, get_or}
use Rattle.std.proofs.Common.{List, [], ◌∷◌, ◌++◌, refl, sym, ap, ◌∙◌, subst, arith}
use Rattle.std.proofs.Math.Nat.{max-le}
use Rattle.prima_base.specs.declared.refusal.What.{What}
use Rattle.prima_base.specs.declared.refusal.What.TheVariants as what
use Rattle.lexer_spec.specs.Lexemes.{Lexeme}
use Rattle.lexer_combinators.specs.Parsing.{limit, limits, Out, Parsed, Unexpected, LimitExceeded}
use Rattle.lexer_combinators.specs.Parsing.{Parser, Same, GoesOnWith, Valid, Explains, Exceeds}
use Rattle.lexer_combinators.specs.Parsing.{Fine, IsCorrectParser, set_back, fresh}
use Rattle.lexer_combinators.specs.Grammar.{Size, fresh_size, rank}
use Rattle.lexer_combinators.specs.Grammar as grammar

valid_fresh : (d : ℕ) (s : Size) → s.nodes ≤ 256 → Valid d s → Valid d (fresh_size s)
valid_fresh d s h l = (l.0, λ w. within w (rank w == 0) refl)
  where
    within : (w : What) (b : Bool) → (rank w == 0) ≡ b
        → cond b (max s.nodes (s.wide w)) (s.wide w) ≤ limit w
    within w true e = let k : limit w ≡ 256 = ap (λ r. get_or limits r 0) (eqb-true (rank w) 0 e) in
        max-le (omega (arith, h, k)) (l.1 w)
    within w false e = l.1 w

exceeds_fresh : (w : What) (n d : ℕ) (s : Size) → Exceeds w 0 d s → Exceeds w n d (fresh_size s)
exceeds_fresh what.Nodes n d s h = omega (arith, h)
exceeds_fresh what.Depth n d s h = h
exceeds_fresh what.Parts n d s h = h
exceeds_fresh what.Tables n d s h = h
exceeds_fresh what.Branches n d s h = h
exceeds_fresh what.Outputs n d s h = h
exceeds_fresh what.Keeps n d s h = h
exceeds_fresh what.Changes n d s h = h
exceeds_fresh what.Columns n d s h = h
exceeds_fresh what.Inverse n d s h = h
exceeds_fresh what.Versions n d s h = h

module _ {A : Type 0} (d : ℕ) (p : Parser A) (G : A → Size → List Lexeme → Type 0) where
  same_fresh : (n : ℕ) (make1 make : List Lexeme → Out A) (prefix suffix : List Lexeme)
      → ((l : List Lexeme) → set_back n (make1 l) ≡ make l) → Same (p 0) prefix suffix make1
      → Same (fresh p n) prefix suffix make
  same_fresh n make1 make prefix [] e s = tt
  same_fresh n make1 make prefix (x ∷ suffix) e s = λ other. ap (set_back n) (s other)
      ∙ e (x ∷ other)

  follow_fresh : (prefix suffix : List Lexeme) → GoesOnWith G prefix suffix
      → GoesOnWith (grammar.fresh G) prefix suffix
  follow_fresh prefix [] h = h
  follow_fresh prefix (x ∷ suffix) h = (h.0, h.1, fresh_size h.2, (h.2, refl, h.3))

  explains_fresh : (n : ℕ) (ts : List Lexeme) (o : Out A) → Explains d (p 0) G 0 ts o
      → Explains d (fresh p n) (grammar.fresh G) n ts (set_back n o)
  explains_fresh n ts (Parsed a m suffix) h =
      let few : h.1.nodes ≤ 256 = omega (arith, h.4, h.5 (omega arith)) in (
        h.0,
        fresh_size h.1,
        h.2,
        (h.1, refl, h.3),
        omega arith,
        (λ k. k),
        valid_fresh d h.1 few h.6,
        same_fresh n (Parsed a m) (Parsed a n) h.0 suffix (λ l. refl) h.7,
      )
  explains_fresh n ts (Unexpected c suffix) h = (
    h.0,
    h.1,
    (h.2.0, h.2.1, fresh_size h.2.2, (h.2.2, refl, h.2.3)),
    same_fresh n (Unexpected c) (Unexpected n) h.0 suffix (λ l. refl) h.3,
  )
  explains_fresh n ts (LimitExceeded w c suffix) h = (
    h.0,
    h.1,
    follow_fresh h.0 suffix h.2,
    same_fresh n (LimitExceeded w c) (LimitExceeded w n) h.0 suffix (λ l. refl) h.3,
  )

  fine_fresh : (a : A) (s : Size) (n : ℕ) (ts suffix : List Lexeme) (o : Out A)
      → Explains d (p 0) G 0 ts o → Fine d a s 0 suffix o
      → Fine d a (fresh_size s) n suffix (set_back n o)
  fine_fresh a s n ts suffix (Parsed b m r) x h =
      (h.0, h.1, omega arith, valid_fresh d s (omega (arith, h.2, x.5 (omega arith))) h.3)
  fine_fresh a s n ts suffix (Unexpected c r) x h = h
  fine_fresh a s n ts suffix (LimitExceeded w c r) x h = exceeds_fresh w n d s h

  pub fresh_correct : (low : ℕ) (follow : Lexeme → Bool) → IsCorrectParser 0 d p G follow
      → IsCorrectParser low d (fresh p) (grammar.fresh G) follow
  fresh_correct low follow g = record {
    live = (let x = g.live in (x.0, fresh_size x.1, x.2, (x.1, refl, x.3)));
    explains = λ n h ts. explains_fresh n ts (p 0 ts) (g.explains 0 (omega arith) ts);
    complete = λ n k a s prefix suffix h stops.
        (let P : Size → Type 0 = λ z. Fine d a z n suffix (fresh p n (prefix ++ suffix)) in
        subst P (sym h.1) (fine_fresh a h.0 n (prefix ++ suffix) suffix (p 0 (prefix ++ suffix))
        (g.explains 0 (omega arith) (prefix ++ suffix))
        (g.complete 0 (omega arith) a h.0 prefix suffix h.2 stops)));
  }
