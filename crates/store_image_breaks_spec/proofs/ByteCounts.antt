-- There are no more entries than bytes, and of a lifeline there are some bytes.
use Rattle.std.proofs.Common.{◌≡◌, ℕ, zero, suc, ◌+◌, ◌^◌, ◌<◌, ◌≤◌, List, [], ◌∷◌, ◌++◌, length}
use Rattle.std.proofs.Common.{length-append, ap, ◌∙◌, arith}
use Rattle.std.specs.List.{flat_map}
use Rattle.history_store_spec.specs.Store.{Cell}
use Rattle.command_codec_spec.specs.Encoding.{number, name_bytes, value_bytes, list_bytes}
use Rattle.command_codec_spec.proofs.Numbers.{number_zero, number_suc}
use Rattle.store_image_spec.specs.Images.{StoredLine}
use Rattle.store_image_spec.specs.Encoding.{last_number, span_bytes, cell_bytes, line_bytes}
use Rattle.store_image_spec.specs.Encoding.{stored_bytes}
use Rattle.store_image_spec.proofs.ReadParts.{most_64}

number_length : (k n : ℕ) → length (number k n) ≡ k
number_length zero n = ap length (number_zero n)
number_length (suc k) n = ap length (number_suc k n) ∙ ap suc (number_length k n)

cell_some : (c : Cell) → 1 ≤ length (cell_bytes c)
cell_some c =
    let a = length-append (number 8 c.id ++ value_bytes c.value) (span_bytes c.period) in
    let b = length-append (number 8 c.id) (value_bytes c.value) in
    let x = number_length 8 c.id in
    omega (arith, a, b, x)

each_some : (l : List Cell) → length l ≤ length (flat_map cell_bytes l)
each_some [] = omega arith
each_some (c ∷ l) =
    let a = length-append (cell_bytes c) (flat_map cell_bytes l) in
    let x = cell_some c in
    let y = each_some l in
    omega (arith, a, x, y)

pub few_cells : (l : List Cell) → length (list_bytes 8 cell_bytes l) < 2 ^ 64 → length l ≤ most_64
few_cells l few =
    let a = length-append (number 8 (length l)) (flat_map cell_bytes l) in
    let x = each_some l in
    omega (arith, a, x, few)

pub line_some : (l : StoredLine) → 1 ≤ length (stored_bytes l)
line_some l =
    let a = length-append (line_bytes l.line ++ list_bytes 8 span_bytes l.keys)
    (flat_map (list_bytes 8 cell_bytes) l.cells) in
    let b = length-append (line_bytes l.line) (list_bytes 8 span_bytes l.keys) in
    let c = length-append (number 4 l.line.first ++ number 4 (last_number l.line.last))
    (name_bytes l.line.table) in
    let d = length-append (number 4 l.line.first) (number 4 (last_number l.line.last)) in
    let x = number_length 4 l.line.first in
    omega (arith, a, b, c, d, x)
