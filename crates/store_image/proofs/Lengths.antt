-- How many bytes parts of an image have.
use Rattle.std.proofs.Common.{◌≡◌, ◌<◌, ℕ, ◌+◌, ◌*◌, List, [], ◌∷◌, length, drop, get_or, refl, ap}
use Rattle.std.proofs.Common.{◌∙◌, arith, length-append}
use Rattle.std.specs.Prelude.{Option, Some, None}
use Rattle.std.specs.List.{flat_map}
use Rattle.std.proofs.lemmas.List.{drop_more}
use Rattle.std.proofs.lemmas.List.Concat.{flat_map-cons}
use Rattle.relations_spec.specs.Spans.{Span}
use Rattle.history_store_spec.specs.Store.{Cell}
use Rattle.command_codec_spec.specs.Encoding.{number, list_bytes}
use Rattle.command_codec_writer.proofs.Lengths.{number_length}
use Rattle.store_image_spec.specs.Encoding.{span_bytes, cell_bytes, last_bytes}

pub span_length : (p : Span) → length (span_bytes p) ≡ 16
span_length p = length-append (number 8 p.start) (number 8 p.end)
    ∙ ap (λ n. n + length (number 8 p.end)) (number_length 8 p.start)
    ∙ ap (λ n. 8 + n) (number_length 8 p.end)

pub spans_length : (keys : List Span) → length (flat_map span_bytes keys) ≡ 16 * length keys
spans_length [] = refl
spans_length (p ∷ keys) =
    let e = length-append (span_bytes p) (flat_map span_bytes keys) in
    let f = span_length p in
    let g = spans_length keys in
    omega (arith, e, f, g)

pub last_length : (last : Option ℕ) → length (last_bytes last) ≡ 9
last_length None = let e = number_length 8 0 in omega (arith, e)
last_length (Some stamp) = let e = number_length 8 stamp in omega (arith, e)

-- the columns from this one on
pub columns_length : (columns : List (List Cell)) (k : ℕ) → k < length columns
    → length (flat_map (list_bytes 8 cell_bytes) (drop k columns))
    ≡ 8 + length (flat_map cell_bytes (get_or columns k [])) + length
    (flat_map (list_bytes 8 cell_bytes) (drop (k + 1) columns))
columns_length columns k inside =
    let c : List Cell = get_or columns k [] in
    let rest : List ℕ = flat_map (list_bytes 8 cell_bytes) (drop (k + 1) columns) in
    let e = length-append (list_bytes 8 cell_bytes c) rest in
    let f = length-append (number 8 (length c)) (flat_map cell_bytes c) in
    let g = number_length 8 (length c) in
    ap (λ l. length (flat_map (list_bytes 8 cell_bytes) l)) (drop_more columns k [] inside)
    ∙ ap (λ (l : List ℕ). length l) (flat_map-cons (list_bytes 8 cell_bytes) c
    (drop (k + 1) columns)) ∙ omega (arith, e, f, g)
