-- Each token is a slice of its text.
use Rattle.std.proofs.Common.{◌≡◌, ℕ, ◌+◌, false, List, [], ◌∷◌, take, drop, length, Option, sym}
use Rattle.std.proofs.Common.{ap, ◌∙◌, arith}
use Rattle.lexer_spec.specs.declared.token.Token.{Token}
use Rattle.lexer_spec.specs.declared.fault.LexFault.{LexFault}
use Rattle.lexer_spec.specs.Bytes.{gap_len}
use Rattle.lexer_spec.specs.Lexed.{Lexes, InPlace, after_gap}
use Rattle.lexer_spec.proofs.Cuts.{drop_drop}

pub in_place : (text : List ℕ) (at : ℕ) (bytes : List ℕ) (ts : List Token) (e : Option LexFault)
    → bytes ≡ drop at text → Lexes at bytes ts e → InPlace text at ts
in_place text at bytes [] e h k = tt
in_place text at bytes (t ∷ ts) e h k =
    let from : after_gap bytes ≡ drop t.at text = ap (drop (gap_len false 0 bytes)) h
    ∙ drop_drop (gap_len false 0 bytes) at text ∙ ap (λ n. drop n text) (sym k.2) in
    let slice : t.text.now ≡ take (length t.text.now) (drop t.at text) = k.1
    ∙ ap (take (length t.text.now)) from in
    let next : drop (length t.text.now) (after_gap bytes) ≡ drop (t.at + length t.text.now) text =
    ap (drop (length t.text.now)) from ∙ drop_drop (length t.text.now) t.at text in (
      (let p : t.at ≡ at + gap_len false 0 bytes = k.2 in omega (arith, p)),
      slice,
      in_place text (t.at + length t.text.now) (drop (length t.text.now) (after_gap bytes)) ts e
          next k.3,
    )
