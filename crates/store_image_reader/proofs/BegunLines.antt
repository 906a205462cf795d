-- Lifelines that begin, up to a table.
use Rattle.std.proofs.Common.{◌≡◌, ℕ, ◌+◌, Bool, true, false, List, [], ◌∷◌, ◌++◌, map, take, refl}
use Rattle.std.proofs.Common.{sym, ap, ◌∙◌}
use Rattle.std.specs.Prelude.{Some, slice_get, if◌then◌else◌}
use Rattle.std.specs.List.{filter}
use Rattle.std.proofs.lemmas.List.{map-append}
use Rattle.prima_base.specs.Columns.{Column}
use Rattle.smo_ops_versions_spec.specs.Lifelines.{line_begun}
use Rattle.store_image_reader.specs.Due.{begun_of}
use Rattle.store_image_reader.proofs.ListPlaces.{chosen_more}

one_begun : (b : Bool) (version : ℕ) (t : List ℕ × List Column)
    → map (line_begun version) (if b then t ∷ [] else [])
    ≡ (if b then line_begun version t ∷ [] else [])
one_begun true version t = refl
one_begun false version t = refl

pub begun_more : (p : List ℕ → Bool) (version : ℕ) (es : List (List ℕ × List Column)) (i : ℕ)
    (t : List ℕ × List Column) → slice_get es i ≡ Some t
    → map (line_begun version) (filter (λ (e : List ℕ × List Column). p e.0) (take i es))
    ++ begun_of p version t ≡ map (line_begun version)
    (filter (λ (e : List ℕ × List Column). p e.0) (take (i + 1) es))
begun_more p version es i t e =
    let chosen : List ℕ × List Column → Bool = λ x. p x.0 in
    ap (λ l. map (line_begun version) (filter chosen (take i es)) ++ l)
    (sym (one_begun (p t.0) version t))
    ∙ sym (map-append (line_begun version) (filter chosen (take i es))
    (if p t.0 then t ∷ [] else []))
    ∙ ap (map (line_begun version)) (sym (chosen_more chosen es i t e))
