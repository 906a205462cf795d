-- Where the columns of rows have a name, and what the rows have there.
use Rattle.std.proofs.Common.{◌≡◌, ℕ, suc, Bool, true, false, List, [], ◌∷◌, map, refl, sym, ap}
use Rattle.std.proofs.Common.{◌∙◌}
use Rattle.std.specs.Prelude.{cond, ◌||◌, Option, Some, None, is_some, pos, if◌then◌else◌}
use Rattle.std.specs.Option.{option_map}
use Rattle.relations_spec.specs.Sets.{set_of}
use Rattle.prima_base.specs.declared.value.Value.{Value}
use Rattle.prima_base.specs.declared.value.Value.TheVariants.{Int}
use Rattle.prima_base.specs.declared.value.ColType.{ColType}
use Rattle.prima_base.specs.Order.{row_cmp}
use Rattle.prima_base.specs.Columns.{Column, names_of}
use Rattle.prima_base.specs.OrderLaws.{same_is}
use Rattle.schema_catalog.specs.Databases.{cell}
use Rattle.smo_ops_spec.specs.OneRow.{Row, Relation, same}
use Rattle.smo_ops_spec.specs.Preconditions.{among}
use Rattle.smo_ops_spec.specs.Making.{image, joined_value, joined_columns, joined_row}
use Rattle.smo_ops_spec.proofs.NameLaws.{same_turned}
use Rattle.smo_maps.specs.declared.source.Source.{Source}
use Rattle.smo_maps.specs.Picking.{place_of, source_of, value_at, picked_value, picked_row}

nothing_there : (p : Option ℕ) → value_at [] p ≡ Int (pos 0)
nothing_there None = refl
nothing_there (Some k) = refl

-- a row has at the place of a name its cell
pub value_there : (cs : List Column) (row : Row) (n : List ℕ)
    → value_at row (place_of cs n) ≡ cell cs row n
value_there [] row n = refl
value_there (c ∷ cs) [] n = nothing_there (place_of (c ∷ cs) n)
value_there (c ∷ cs) (v ∷ row) n = step (same c.0 n) (place_of cs n) (value_there cs row n)
  where
    step : (b : Bool) (p : Option ℕ) → value_at row p ≡ cell cs row n
        → value_at (v ∷ row) (cond b (Some 0) (option_map suc p)) ≡ cond b v (cell cs row n)
    step true p e = refl
    step false None e = e
    step false (Some k) e = e

pub is_there : (cs : List Column) (n : List ℕ) → is_some (place_of cs n) ≡ among n (names_of cs)
is_there [] n = refl
is_there (c ∷ cs) n = step (same c.0 n) (same n c.0) (place_of cs n) (among n (names_of cs))
    (same_turned c.0 n) (is_there cs n)
  where
    step : (b s : Bool) (p : Option ℕ) (a : Bool) → b ≡ s → is_some p ≡ a
        → is_some (cond b (Some 0) (option_map suc p)) ≡ (s || a)
    step true true p a e h = refl
    step false false None a e h = h
    step false false (Some k) a e h = h
    step true false p a e h = absurd (cc)
    step false true p a e h = absurd (cc)

-- what is picked out of two rows, of one, and of one with a value more
pub picked_joined : (cs ds : List Column) (a b : Row) (n : List ℕ)
    → picked_value a b (source_of cs ds n) ≡ joined_value cs ds a b n
picked_joined cs ds a b n =
    ap (λ t. cond t (value_at a (place_of cs n)) (value_at b (place_of ds n))) (is_there cs n)
    ∙ ap (λ x. cond (among n (names_of cs)) x (value_at b (place_of ds n))) (value_there cs a n)
    ∙ ap (λ y. cond (among n (names_of cs)) (cell cs a n) y) (value_there ds b n)

first_alone : (a : Row) (p : Option ℕ) → cond (is_some p) (value_at a p) (Int (pos 0))
    ≡ value_at a p
first_alone a None = refl
first_alone a (Some k) = refl

pub picked_own : (cs : List Column) (a : Row) (n : List ℕ)
    → picked_value a [] (source_of cs [] n) ≡ cell cs a n
picked_own cs a n = first_alone a (place_of cs n) ∙ value_there cs a n

pub picked_added : (cs : List Column) (c n : List ℕ) (k : ColType) (v : Value) (row : Row)
    → among c (names_of cs) ≡ false
    → picked_value row (v ∷ []) (source_of cs ((c, k) ∷ []) n)
    ≡ (if same c n then v else cell cs row n)
picked_added cs c n k v row new = step (same c n) refl
  where
    step : (b : Bool) → same c n ≡ b → cond (is_some (place_of cs n)) (value_at row (place_of cs n))
        (value_at (v ∷ []) (cond b (Some 0) None)) ≡ cond b v (cell cs row n)
    step true e = ap (λ t. cond t (value_at row (place_of cs n)) v)
        (is_there cs n ∙ ap (λ m. among m (names_of cs)) (sym (same_is c n e)) ∙ new)
    step false e = first_alone row (place_of cs n) ∙ value_there cs row n

pub picked_moved : (cs : List Column) (old new : List ℕ) (row : Row) (n : List ℕ)
    → picked_value row [] (source_of cs [] (if same new n then old else n))
    ≡ (if same new n then cell cs row old else cell cs row n)
picked_moved cs old new row n = picked_own cs row (if same new n then old else n)
    ∙ step (same new n)
  where
    step : (b : Bool) → cell cs row (cond b old n) ≡ cond b (cell cs row old) (cell cs row n)
    step true = refl
    step false = refl

-- a row that shows a value under each name
pub shown_row : (g : List ℕ → Source) (a b : Row) (f : List ℕ → Value) (made : List Column)
    → ((n : List ℕ) → picked_value a b (g n) ≡ f n)
    → picked_row (map g (names_of made)) a b ≡ map (λ (c : Column). f c.0) made
shown_row g a b f [] h = refl
shown_row g a b f (c ∷ made) h = ap (λ v. v ∷ picked_row (map g (names_of made)) a b) (h c.0)
    ∙ ap (λ row. f c.0 ∷ row) (shown_row g a b f made h)

pub shown_image : (g : List ℕ → Source) (more : Row → Row) (f : Row → List ℕ → Value)
    (made : List Column) (sources : List Source) (names : List (List ℕ)) (rows : Relation)
    → sources ≡ map g names → names ≡ names_of made
    → ((row : Row) (n : List ℕ) → picked_value row (more row) (g n) ≡ f row n)
    → set_of row_cmp (map (λ (row : Row). picked_row sources row (more row)) rows)
    ≡ image made f rows
shown_image g more f made sources names rows s e h =
    let each : (row : Row) → picked_row sources row (more row)
    ≡ map (λ (c : Column). f row c.0) made =
    λ row. ap (λ (ss : List Source). picked_row ss row (more row)) (s ∙ ap (map g) e)
    ∙ shown_row g row (more row) (f row) made (h row) in
    ap (λ (show : Row → Row). set_of row_cmp (map show rows)) (λ i row. each row i)

pub shown_joined : (cs ds : List Column) (a b : Row) (sources : List Source) (names : List (List ℕ))
    → sources ≡ map (source_of cs ds) names → names ≡ names_of (joined_columns cs ds)
    → picked_row sources a b ≡ joined_row cs ds a b
shown_joined cs ds a b sources names s e =
    ap (λ (ss : List Source). picked_row ss a b) (s ∙ ap (map (source_of cs ds)) e)
    ∙ shown_row (source_of cs ds) a b (joined_value cs ds a b) (joined_columns cs ds)
    (picked_joined cs ds a b)
