-- The steps of the loops over bytes.
use Rattle.std.proofs.Common.{◌≡◌, ℕ, suc, ◌+◌, ◌<◌, false, List, [], ◌∷◌, length, drop, get_or}
use Rattle.std.proofs.Common.{drop-cons, ap, ◌∙◌, subst, arith, Option, ◌++◌, append-nil, take, ◌-◌}
use Rattle.lexer_spec.specs.Bytes.{gap_len, scan_of}
use Rattle.lexer_spec.specs.Lexed.{Lexes, EndsBy}
use Rattle.lexer_spec.specs.declared.token.Token.{Token}
use Rattle.lexer_spec.specs.declared.fault.LexFault.{LexFault}
use Rattle.lexer_spec.specs.declared.scan_of.Scanned.{Scanned}
use Rattle.lexer_spec.proofs.Cuts.{tail_is}

pub dropped : (bytes : List ℕ) (i : ℕ) → i < length bytes
    → drop i bytes ≡ get_or bytes i 0 ∷ drop (i + 1) bytes
dropped bytes i h = let e : suc i ≡ i + 1 = omega arith in drop-cons bytes i 0 h
    ∙ ap (λ k. get_or bytes i 0 ∷ drop k bytes) e

pub ends_here : (text : List ℕ) (done : List Token) (at : ℕ) (bytes : List ℕ) (g : ℕ) (p : Scanned)
    (e : Option LexFault) →
    ((ts : List Token) (e : Option LexFault) → Lexes at bytes ts e → Lexes 0 text (done ++ ts) e) →
    g ≡ gap_len false 0 bytes → p ≡ scan_of (take (length bytes - g) (drop g bytes))
    → EndsBy (at + g) p e → Lexes 0 text done e
ends_here text done at bytes g p e so_far eg ep h =
    let P : Scanned → Type 0 = λ q. EndsBy (at + g) q e in
    let Q : ℕ → Type 0 = λ k. EndsBy (at + k) (scan_of (drop k bytes)) e in
    let R : List Token → Type 0 = λ l. Lexes 0 text l e in
    subst R (append-nil done) (so_far [] e (subst Q eg
    (subst P (ep ∙ ap scan_of (tail_is bytes g)) h)))
