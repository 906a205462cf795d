-- How many bytes an image and its parts have.
use Rattle.std.proofs.Common.{◌≡◌, ℕ, zero, suc, ◌+◌, ◌*◌, List, [], ◌∷◌, ◌++◌, map, length}
use Rattle.std.proofs.Common.{length-append, refl, ap, ◌∙◌, arith}
use Rattle.std.specs.Prelude.{Option, Some, None}
use Rattle.std.specs.Int.{w64, cast_unsigned}
use Rattle.std.specs.List.{flat_map}
use Rattle.std.proofs.lemmas.List.Concat.{flat_map-cons}
use Rattle.relations_spec.specs.Spans.{Span}
use Rattle.prima_base.specs.declared.value.Value.{Value}
use Rattle.prima_base.specs.declared.value.Value.TheVariants.{Int, Text}
use Rattle.history_store_spec.specs.Store.{Cell, weight}
use Rattle.smo_ops_types.specs.Commands.{PlainVersion}
use Rattle.smo_ops_spec.specs.Sizes.{value_bytes as value_length}
use Rattle.command_codec_spec.specs.Encoding.{number, name_bytes, value_bytes, list_bytes}
use Rattle.command_codec_spec.proofs.Numbers.{number_zero, number_suc}
use Rattle.smo_ops_versions_spec.specs.Lifelines.{Lifeline}
use Rattle.store_image_spec.specs.Images.{StoredLine, Image}
use Rattle.store_image_spec.specs.Encoding.{last_number, last_bytes, version_bytes, span_bytes}
use Rattle.store_image_spec.specs.Encoding.{cell_bytes, line_bytes, stored_bytes, image_bytes}
use Rattle.store_image_spec.specs.ShownPast.{cells_written, line_size, image_past}
use Rattle.store_image_spec.specs.Lengths.{versions_length, column_length, columns_length}
use Rattle.store_image_spec.specs.Lengths.{size_length, sizes_length, image_length}

number_length : (k n : ℕ) → length (number k n) ≡ k
number_length zero n = ap length (number_zero n)
number_length (suc k) n = ap length (number_suc k n) ∙ ap suc (number_length k n)

-- a list's bytes are those of each of its parts
sum_of : {A : Type 0} → (A → ℕ) → List A → ℕ
sum_of f [] = 0
sum_of f (a ∷ l) = f a + sum_of f l

flat_length : {A : Type 0} (encode : A → List ℕ) (f : A → ℕ) → ((a : A) → length (encode a) ≡ f a)
    → (l : List A) → length (flat_map encode l) ≡ sum_of f l
unfolding sum_of
flat_length encode f e [] = refl
flat_length encode f e (a ∷ l) =
    ap length (flat_map-cons encode a l) ∙ length-append (encode a) (flat_map encode l)
    ∙ (let x = e a in let y = flat_length encode f e l in
    let z : length (encode a) + length (flat_map encode l) ≡ f a + sum_of f l =
    omega (arith, x, y) in z)

list_length : {A : Type 0} (k : ℕ) (encode : A → List ℕ) (f : A → ℕ)
    → ((a : A) → length (encode a) ≡ f a) → (l : List A)
    → length (list_bytes k encode l) ≡ k + sum_of f l
list_length k encode f e l =
    length-append (number k (length l)) (flat_map encode l)
    ∙ (let x = number_length k (length l) in let y = flat_length encode f e l in
    let z : length (number k (length l)) + length (flat_map encode l) ≡ k + sum_of f l =
    omega (arith, x, y) in z)

-- ---- the parts

last_length : (last : Option ℕ) → length (last_bytes last) ≡ 9
last_length None = ap suc (number_length 8 0)
last_length (Some stamp) = ap suc (number_length 8 stamp)

versions_sum : (versions : List PlainVersion)
    → sum_of (λ v. length (version_bytes v)) versions ≡ versions_length versions
unfolding sum_of
versions_sum [] = refl
versions_sum (v ∷ versions) = ap (λ n. length (version_bytes v) + n) (versions_sum versions)

span_length : (p : Span) → length (span_bytes p) ≡ 16
span_length p =
    length-append (number 8 p.start) (number 8 p.end)
    ∙ (let x = number_length 8 p.start in let y = number_length 8 p.end in
    let z : length (number 8 p.start) + length (number 8 p.end) ≡ 16 = omega (arith, x, y) in z)

keys_sum : (keys : List Span) → sum_of (λ p. 16) keys ≡ 16 * length keys
unfolding sum_of
keys_sum [] = omega arith
keys_sum (k ∷ keys) = (let h = keys_sum keys in omega (arith, h))

value_sum : (v : Value) → length (value_bytes v) ≡ value_length v
value_sum (Int n) = ap suc (number_length 8 (cast_unsigned w64 n))
value_sum (Text t) =
    ap suc (length-append (number 2 (length t)) t)
    ∙ (let x = number_length 2 (length t) in let z : suc (length (number 2 (length t)) + length t)
    ≡ 3 + length t = omega (arith, x) in z)

cell_length : (c : Cell) → length (cell_bytes c) ≡ 24 + value_length c.value
cell_length c =
    let a = length-append (number 8 c.id ++ value_bytes c.value) (span_bytes c.period) in
    let b = length-append (number 8 c.id) (value_bytes c.value) in
    let x = number_length 8 c.id in
    let y = value_sum c.value in
    let z = span_length c.period in
    omega (arith, a, b, x, y, z)

cells_sum : (cells : List Cell) → sum_of (λ c. 24 + value_length c.value) cells
    ≡ 24 * length cells + weight value_length cells
unfolding sum_of
cells_sum [] = omega arith
cells_sum (c ∷ cells) = (let h = cells_sum cells in omega (arith, h))

column_bytes_length : (cells : List Cell) → length (list_bytes 8 cell_bytes cells)
    ≡ column_length (cells_written cells)
column_bytes_length cells =
    list_length 8 cell_bytes (λ c. 24 + value_length c.value) cell_length cells
    ∙ ap (λ n. 8 + n) (cells_sum cells)

columns_sum : (columns : List (List Cell)) → sum_of (λ cells. column_length (cells_written cells))
    columns ≡ columns_length (map cells_written columns)
unfolding sum_of
columns_sum [] = refl
columns_sum (cells ∷ columns) = ap (λ n. column_length (cells_written cells) + n)
    (columns_sum columns)

line_length : (l : Lifeline) → length (line_bytes l) ≡ 9 + length l.table
line_length l =
    let a = length-append (number 4 l.first ++ number 4 (last_number l.last))
    (name_bytes l.table) in
    let b = length-append (number 4 l.first) (number 4 (last_number l.last)) in
    let x = number_length 4 l.first in
    let y = number_length 4 (last_number l.last) in
    omega (arith, a, b, x, y)

stored_length : (l : StoredLine) → length (stored_bytes l) ≡ size_length (line_size l)
stored_length l =
    let a = length-append (line_bytes l.line ++ list_bytes 8 span_bytes l.keys)
    (flat_map (list_bytes 8 cell_bytes) l.cells) in
    let b = length-append (line_bytes l.line) (list_bytes 8 span_bytes l.keys) in
    let x = line_length l.line in
    let y = list_length 8 span_bytes (λ p. 16) span_length l.keys in
    let k = keys_sum l.keys in
    let z = flat_length (list_bytes 8 cell_bytes) (λ cells. column_length (cells_written cells))
    column_bytes_length l.cells ∙ columns_sum l.cells in
    omega (arith, a, b, x, y, k, z)

sizes_sum : (lines : List StoredLine) → sum_of (λ l. size_length (line_size l)) lines
    ≡ sizes_length (map line_size lines)
unfolding sum_of
sizes_sum [] = refl
sizes_sum (l ∷ lines) = ap (λ n. size_length (line_size l) + n) (sizes_sum lines)

pub has_length : (n : ℕ) (i : Image) → length (image_bytes i) ≡ image_length (image_past n i)
unfolding image_length
has_length n i =
    let a = length-append (last_bytes i.last ++ list_bytes 4 version_bytes i.versions)
    (list_bytes 4 stored_bytes i.lines) in
    let b = length-append (last_bytes i.last) (list_bytes 4 version_bytes i.versions) in
    let x = last_length i.last in
    let y = list_length 4 version_bytes (λ v. length (version_bytes v)) (λ v. refl) i.versions
    ∙ ap (λ k. 4 + k) (versions_sum i.versions) in
    let z = list_length 4 stored_bytes (λ l. size_length (line_size l)) stored_length i.lines
    ∙ ap (λ k. 4 + k) (sizes_sum i.lines) in
    omega (arith, a, b, x, y, z)
