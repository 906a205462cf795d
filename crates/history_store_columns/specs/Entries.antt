-- The entries of a column: each write up to the next of its id, or to the end of the key.
use Rattle.std.specs.Prelude.{◌≡◌, ℕ, ◌+◌, ◌<◌, ◌≤◌, List, [], ◌∷◌, ◌++◌, length, slice_index_or}
use Rattle.relations_spec.specs.Sets.{In}
use Rattle.relations_spec.specs.Spans.{Span, span}
use Rattle.history_store_columns.specs.Log.{Write}
use Rattle.history_store_columns.specs.Chains.{of_id}
use Rattle.history_store_columns.specs.Keys.{no_span}
use Rattle.history_store_spec.specs.Store.{Cell}

abbrev pub entry : Write → ℕ → Cell
entry c to = record { id = c.id; value = c.value; period = span c.start to }

abbrev pub with_ends : ℕ → List Write → List Cell
with_ends to [] = []
with_ends to (c ∷ []) = entry c to ∷ []
with_ends to (c ∷ (d ∷ cells)) = entry c d.start ∷ with_ends to (d ∷ cells)

-- ascending by id and start
abbrev pub entries_from : ℕ → List Span → List Write → List Cell
entries_from id [] cells = []
entries_from id (k ∷ keys) cells = with_ends k.end (of_id id cells)
    ++ entries_from (id + 1) keys cells

-- each write starts later than the one before it, and before the end
abbrev pub Climbs : ℕ → ℕ → List Write → Type 0
Climbs from to [] = from < to
Climbs from to (c ∷ cells) = (from < c.start) × Climbs c.start to cells

-- the first write starts with the key
abbrev pub Fits : Span → List Write → Type 0
Fits key [] = ⊥
Fits key (c ∷ cells) = (c.start ≡ key.start) × Climbs c.start key.end cells

-- the writes of a column are those of the keys
pub record IsHistory (keys : List Span) (cells : List Write) : Type 0 where
  pub known : (c : Write) → In c cells → c.id < length keys
  pub fits : (id : ℕ) → id < length keys → Fits (slice_index_or keys id no_span) (of_id id cells)

-- no write is from later on
abbrev pub AllCells : ℕ → List Write → Type 0
AllCells last [] = Unit {0}
AllCells last (c ∷ cells) = (c.start ≤ last) × AllCells last cells
