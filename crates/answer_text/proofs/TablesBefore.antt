-- The lines of the tables before a place.
use Rattle.std.proofs.Common.{◌≡◌, ◌+◌, ℕ, List, [], ◌∷◌, ◌++◌, take, sym, ap, ◌∙◌}
use Rattle.std.proofs.Common.{append_assoc, append-nil}
use Rattle.std.specs.Prelude.{Some, slice_get}
use Rattle.std.specs.FinMap.{entries, len, len-entries}
use Rattle.std.proofs.lemmas.List.{take_more}
use Rattle.std.proofs.lemmas.Option.{slice_get_within, get_or_from_slice_get}
use Rattle.prima_base.specs.Columns.{Column}
use Rattle.schema_catalog.specs.Tables.{Tables}
use Rattle.answer_text.specs.Texts.{table_text, tables_text, count_text, schema_text}

abbrev Entry : Type 0
Entry = List ℕ × List Column

text_more : (tables : List Entry) (t : Entry)
    → tables_text (tables ++ t ∷ []) ≡ tables_text tables ++ table_text t
text_more [] t = append-nil (table_text t)
text_more (s ∷ tables) t = ap (λ l. table_text s ++ l) (text_more tables t)
    ∙ sym (append_assoc (table_text s) (tables_text tables) (table_text t))

-- one table more
pub with_one : (tables : List Entry) (at : ℕ) (t : Entry) (before lines more : List ℕ)
    → slice_get tables at ≡ Some t → lines ≡ before ++ tables_text (take at tables)
    → more ≡ lines ++ table_text t → more ≡ before ++ tables_text (take (at + 1) tables)
with_one tables at t before lines more s l m =
    let is : take (at + 1) tables ≡ take at tables ++ t ∷ [] =
    take_more tables at t (slice_get_within tables at t s)
    ∙ ap (λ (d : Entry). take at tables ++ d ∷ []) (get_or_from_slice_get tables at t t s) in
    m ∙ ap (λ x. x ++ table_text t) l
    ∙ append_assoc before (tables_text (take at tables)) (table_text t)
    ∙ ap (λ x. before ++ x) (sym (ap tables_text is ∙ text_more (take at tables) t))

-- all of them, and how many they are
pub whole_schema : (schema : Tables) (nothing one all : List ℕ) (n : ℕ) → nothing ≡ []
    → one ≡ nothing ++ tables_text (entries schema) → all ≡ one ++ count_text n
    → n ≡ len schema
    → all ≡ schema_text schema
unfolding schema_text
whole_schema schema nothing one all n a b c d =
    c ∙ ap (λ l. l ++ count_text n) (b ∙ ap (λ l. l ++ tables_text (entries schema)) a)
    ∙ ap (λ k. tables_text (entries schema) ++ count_text k) (d ∙ len-entries schema)
