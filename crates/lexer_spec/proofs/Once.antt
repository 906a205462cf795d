-- A text has one list of tokens, or one first fault.
use Rattle.std.proofs.Common.{◌≡◌, ℕ, ◌+◌, List, [], ◌∷◌, map, take, drop, length, Option, refl}
use Rattle.std.proofs.Common.{sym, ap, ◌∙◌, subst}
use Rattle.lexer_spec.specs.declared.token.Token.{Token}
use Rattle.lexer_spec.specs.declared.kind.TokenKind.{TokenKind}
use Rattle.lexer_spec.specs.declared.scan_of.Scanned.{Scanned}
use Rattle.lexer_spec.specs.declared.scan_of.Scanned.TheVariants.{End, Of, Bad, Open, Long}
use Rattle.lexer_spec.specs.declared.scan_of.Scanned.TheVariants.{Big}
use Rattle.lexer_spec.specs.declared.fault.LexFault.{LexFault}
use Rattle.lexer_spec.specs.Lexed.{Lexes, EndsBy, key, after_gap}

ends_once : (at : ℕ) (p : Scanned) (e f : Option LexFault) → EndsBy at p e → EndsBy at p f → e ≡ f
ends_once at End e f h k = h ∙ sym k
ends_once at (Of kind n) e f h k = absurd h
ends_once at (Bad n) e f h k = h ∙ sym k
ends_once at Open e f h k = h ∙ sym k
ends_once at Long e f h k = h ∙ sym k
ends_once at Big e f h k = h ∙ sym k

no_end : {X : Type 0} (at : ℕ) (p : Scanned) (kind : TokenKind) (n : ℕ) (e : Option LexFault)
    → p ≡ Of kind n → EndsBy at p e → X
no_end at p kind n e h k = absurd (let P : Scanned → Type 0 = λ q. EndsBy at q e in subst P h k)

same_of : (k l : TokenKind) (m n : ℕ) → Of k m ≡ Of l n → (k ≡ l) × (m ≡ n)
same_of k l m n e = (cc, cc)

pub lexes_once : (ts us : List Token) (at : ℕ) (bytes : List ℕ) (e f : Option LexFault)
    → Lexes at bytes ts e → Lexes at bytes us f → (map key ts ≡ map key us) × (e ≡ f)
lexes_once [] [] at bytes e f h k = (refl, ends_once _ _ e f h k)
lexes_once [] (u ∷ us) at bytes e f h k = no_end _ _ u.kind (length u.text.now) e k.0 h
lexes_once (t ∷ ts) [] at bytes e f h k = no_end _ _ t.kind (length t.text.now) f h.0 k
lexes_once (t ∷ ts) (u ∷ us) at bytes e f h k =
    let s = same_of t.kind u.kind (length t.text.now) (length u.text.now) (sym h.0 ∙ k.0) in
    let text : t.text.now ≡ u.text.now = h.1 ∙ ap (λ n. take n (after_gap bytes)) s.1 ∙ sym k.1 in
    let place : t.at ≡ u.at = h.2 ∙ sym k.2 in
    let P : ℕ → Type 0 = λ n. Lexes (t.at + n) (drop n (after_gap bytes)) us f in
    let Q : ℕ → Type 0 = λ a. Lexes (a + length u.text.now)
    (drop (length u.text.now) (after_gap bytes)) us f in
    let rest = lexes_once ts us (t.at + length t.text.now)
    (drop (length t.text.now) (after_gap bytes)) e f h.3
    (subst P (sym s.1) (subst Q (sym place) k.3)) in
    let kt : key t ≡ key u = rw (s.0, text, place) refl in
    (rw kt (ap (λ l. key u ∷ l) rest.0), rest.1)
