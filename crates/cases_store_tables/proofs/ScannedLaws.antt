-- What scans hand out is what the table keeps.
use Rattle.std.specs.Prelude.{◌≡◌, ℕ, ◌+◌, ◌<◌, List, [], ◌∷◌, ◌++◌, length, map, All}
use Rattle.std.proofs.Common.{refl, sym, ap, subst, ◌∙◌, append_assoc, take, get_or, Vec, Global}
use Rattle.std.proofs.lemmas.List.{map-append, take_more}
use Rattle.std.proofs.lemmas.List.Elements.{All-push}
use Rattle.relations_spec.specs.Spans.{Span}
use Rattle.prima_base.specs.Columns.{IsValid}
use Rattle.history_store.specs.Scans.{keys_from}
use Rattle.history_store.specs.Store.{Store, Cell, Column, IsStore}
use Rattle.history_store.specs.Restoring.{cell_of, entries_of, store_with}
use Rattle.history_store.specs.declared.restoration.Cell.{Cell as GivenCell}

-- one more is taken
pub taken_more : {X Y : Type 0} (f : X → Y) (xs : List X) (x : X) (y : Y) (taken : List X)
    (rest old whole : List Y)
    → taken ≡ xs ++ x ∷ [] → old ≡ y ∷ rest → f x ≡ y → map f xs ++ old ≡ whole
    → map f taken ++ rest ≡ whole
taken_more f xs x y taken rest old whole t o e w =
    ap (λ l. map f l ++ rest) t ∙ ap (λ l. l ++ rest) (map-append f xs (x ∷ []))
    ∙ append_assoc (map f xs) (f x ∷ []) rest
    ∙ ap (λ z. map f xs ++ (z ∷ rest)) e ∙ ap (λ l. map f xs ++ l) (sym o) ∙ w

-- the cells of one column more
pub columns_more : (lists : List (Vec GivenCell Global)) (taken : Vec GivenCell Global)
    (new : List (Vec GivenCell Global)) (cells : List (List Cell)) (k : ℕ)
    → new ≡ lists ++ taken ∷ [] → map cell_of taken.items ≡ get_or cells k [] → k < length cells
    → entries_of lists ≡ take k cells → entries_of new ≡ take (k + 1) cells
columns_more lists taken new cells k n t inside e =
    ap entries_of n ∙ map-append (λ (list : Vec GivenCell Global). map cell_of list.items) lists
    (taken ∷ [])
    ∙ ap (λ (l : List (List Cell)). l ++ map cell_of taken.items ∷ []) e
    ∙ ap (λ (l : List Cell). take k cells ++ l ∷ []) t ∙ sym (take_more cells k [] inside)

-- its values are valid, too
pub cells_valid : (cells taken : List GivenCell) (x : GivenCell) (y : Cell)
    → taken ≡ cells ++ x ∷ [] → cell_of x ≡ y → IsValid y.value
    → All (λ c. IsValid c.value) (map cell_of cells)
    → All (λ c. IsValid c.value) (map cell_of taken)
cells_valid cells taken x y t e l all =
    let L : Cell → Type 0 = λ c. IsValid c.value in
    subst (All L) (sym (ap (map cell_of) t ∙ map-append cell_of cells (x ∷ [])))
    (All-push L (map cell_of cells) (cell_of x) all (subst L (sym e) l))

pub columns_valid : (lists : List (Vec GivenCell Global)) (taken : Vec GivenCell Global)
    (new : List (Vec GivenCell Global)) → new ≡ lists ++ taken ∷ []
    → All (λ c. IsValid c.value) (map cell_of taken.items)
    → All (All (λ c. IsValid c.value)) (entries_of lists)
    → All (All (λ c. IsValid c.value)) (entries_of new)
columns_valid lists taken new n l all =
    let L : List Cell → Type 0 = All (λ c. IsValid c.value) in
    subst (All L) (sym (ap entries_of n ∙ map-append
    (λ (list : Vec GivenCell Global). map cell_of list.items) lists (taken ∷ [])))
    (All-push L (entries_of lists) (map cell_of taken.items) all l)

-- the keys, of which each has its id
pub periods_are : (id : ℕ) (keys : List Span) → map (λ k. k.period) (keys_from id keys) ≡ keys
periods_are id [] = refl
periods_are id (p ∷ keys) = ap (λ ps. p ∷ ps) (periods_are (id + 1) keys)

-- a table of the same columns, keys and cells
pub same_store : (s : Store) (columns : List Column) (keys : List Span) (cells : List (List Cell))
    → s.columns ≡ columns → keys ≡ s.keys → cells ≡ s.cells → IsStore s
    → IsStore (store_with columns keys cells)
same_store s columns keys cells c k e h =
    subst (λ (l : List Column). IsStore (store_with l keys cells)) c
    (subst (λ (l : List Span). IsStore (store_with s.columns l cells)) (sym k)
    (subst (λ (l : List (List Cell)). IsStore (store_with s.columns s.keys l)) (sym e) it))
  where
    it : IsStore (store_with s.columns s.keys s.cells)
    it = record {
      columns = h.columns;
      width = h.width;
      lasting = h.lasting;
      filled = h.filled;
      fitting = h.fitting;
      apart = h.apart;
    }
