-- The text of a piece, byte for byte.
use Rattle.std.specs.Prelude.{ℕ, true, false, List, [], ◌∷◌, ◌++◌, codes, map}
use Rattle.cond_expr.specs.Trees.{Tree}
use Rattle.smo_parse.specs.TreeTexts.{tree_text, test_text}
use Rattle.smo_parse.specs.Texts.{listed}
use Rattle.piece_ir_spec.specs.Pieces.{PlainPiece}

-- an output's name, and its expression; atoms are numbered
abbrev pub out_text : List ℕ × Tree → List ℕ
out_text o = o.0 ++ codes " = " ++ tree_text true o.1

-- with commas between them; of none a dash
abbrev pub listed_or_dash : List (List ℕ) → List ℕ
listed_or_dash [] = codes "-"
listed_or_dash (t ∷ texts) = listed (t ∷ texts)

abbrev pub piece_text : PlainPiece → List ℕ
piece_text p = codes "SELECT " ++ listed_or_dash (map out_text p.outs) ++ codes " FROM "
    ++ listed_or_dash p.atoms ++ codes " WHERE " ++ test_text true false p.cond
