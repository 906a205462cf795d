-- What a token says, apart from its place and spelling.
use Rattle.std.specs.Prelude.{ℕ, zero, suc, ℤ, pos, negsuc, Bool, true, false, not, ◌||◌, ◌&&◌}
use Rattle.std.specs.Prelude.{nat_le, ◌==◌, List, [], ◌∷◌, length, drop, codes, if◌then◌else◌}
use Rattle.std.specs.Str.{bytes_eq}
use Rattle.prima_base.specs.Limits.{max_name}
use Rattle.lexer_spec.specs.declared.token.Token.{Token}
use Rattle.lexer_spec.specs.declared.kind.TokenKind.{TokenKind}
use Rattle.lexer_spec.specs.declared.kind.TokenKind.TheVariants.{Word, Number, Text, Sign}
use Rattle.lexer_spec.specs.Bytes.{number as value_of, text_value}

pub data Lexeme : Type 0 where
  word : List ℕ → Lexeme
  number : ℤ → Lexeme
  -- what the text stands for
  text : List ℕ → Lexeme
  sign : List ℕ → Lexeme

-- the number, or the one below zero
abbrev pub signed_value : Bool → ℕ → ℤ
signed_value false n = pos n
signed_value true zero = pos zero
signed_value true (suc n) = negsuc n

-- a number by its bytes
abbrev pub integer : List ℕ → ℤ
integer [] = pos 0
integer (b ∷ bytes) = if b == 45 then signed_value true (value_of bytes)
    else signed_value false (value_of (b ∷ bytes))

abbrev pub says : TokenKind → List ℕ → Lexeme
says Word bytes = word bytes
says Number bytes = number (integer bytes)
says Text bytes = text (text_value (drop 1 bytes))
says Sign bytes = sign bytes

abbrev pub lexeme : Token → Lexeme
lexeme t = says t.kind t.text.now

abbrev pub is_word : List ℕ → Lexeme → Bool
is_word w (word bytes) = bytes_eq bytes w
is_word w _ = false

abbrev pub is_sign : List ℕ → Lexeme → Bool
is_sign s (sign bytes) = bytes_eq bytes s
is_sign s _ = false

-- the words that no name is
abbrev pub reserved : List (List ℕ)
reserved =
    codes "ADD" ∷ codes "AND" ∷ codes "AS" ∷ codes "AT" ∷ codes "CASE" ∷ codes "CHECKPOINT"
    ∷ codes "COLUMN" ∷ codes "CONCAT"
    ∷ codes "COPY" ∷ codes "COVERING" ∷ codes "CREATE" ∷ codes "DECOMPOSE" ∷ codes "DELETE"
    ∷ codes "DROP" ∷ codes "DURING"
    ∷ codes "ELSE" ∷ codes "END" ∷ codes "ENDING" ∷ codes "EVOLVE" ∷ codes "EXPLAIN" ∷ codes "FALSE"
    ∷ codes "FROM" ∷ codes "IN"
    ∷ codes "INSERT" ∷ codes "INT" ∷ codes "INTO" ∷ codes "INVERSE" ∷ codes "JOIN" ∷ codes "KEEP"
    ∷ codes "LASTING"
    ∷ codes "LENGTH" ∷ codes "MERGE" ∷ codes "NOP" ∷ codes "NOT" ∷ codes "OF" ∷ codes "OR"
    ∷ codes "OVERLAPPING"
    ∷ codes "PARTITION" ∷ codes "QUERY" ∷ codes "RENAME" ∷ codes "SCHEMA" ∷ codes "SELECT"
    ∷ codes "SET" ∷ codes "SHOW"
    ∷ codes "SIZES" ∷ codes "STARTING" ∷ codes "TABLE" ∷ codes "TEXT" ∷ codes "THEN" ∷ codes "TO"
    ∷ codes "TRUE" ∷ codes "UNION"
    ∷ codes "UPDATE" ∷ codes "VALUES" ∷ codes "VERSION" ∷ codes "VERSIONS" ∷ codes "WHEN"
    ∷ codes "WHERE" ∷ codes "WITH"
    ∷ codes "now" ∷ []

abbrev pub is_one_of : List (List ℕ) → List ℕ → Bool
is_one_of [] bytes = false
is_one_of (w ∷ words) bytes = bytes_eq bytes w || is_one_of words bytes

-- a word of at most 63 bytes that is not reserved
unfoldable pub is_name : List ℕ → Bool
is_name bytes = nat_le (length bytes) max_name && not (is_one_of reserved bytes)

-- -2^63 to 2^63 - 1
abbrev pub is_int : ℤ → Bool
is_int (pos n) = nat_le n 9223372036854775807
is_int (negsuc n) = nat_le n 9223372036854775807
