-- The cells of one id, by links from each to the next.
use Rattle.std.specs.Prelude.{◌≡◌, ◌≢◌, ℕ, ◌+◌, ◌<◌, ◌==◌, List, [], ◌∷◌, length, drop}
use Rattle.std.specs.Prelude.{if◌then◌else◌, slice_index}
use Rattle.history_store_columns.specs.Log.{Write}

-- the cells of this id, oldest first
abbrev pub of_id : ℕ → List Write → List Write
of_id id [] = []
of_id id (c ∷ cells) = if c.id == id then c ∷ of_id id cells else of_id id cells

abbrev pub ids_of : List Write → List ℕ
ids_of [] = []
ids_of (c ∷ cells) = c.id ∷ ids_of cells

abbrev pub id_at : List Write → ℕ → ℕ
id_at cells p = slice_index (ids_of cells) p

-- where the next cell of the same id stands; 0 after the last
pub record IsLinked (first next last : List ℕ) (cells : List Write) : Type 0 where
  pub long : length next ≡ length cells
  pub each : length first ≡ length last
  pub starts : (id : ℕ) → id < length first → (slice_index first id < length cells)
      × (of_id id cells ≡ of_id id (drop (slice_index first id) cells))
      × (id_at cells (slice_index first id) ≡ id)
  pub goes : (p : ℕ) → p < length cells → slice_index next p ≢ 0
      → (slice_index next p < length cells) × (of_id (id_at cells p) (drop (p + 1) cells)
      ≡ of_id (id_at cells p) (drop (slice_index next p) cells))
      × (id_at cells (slice_index next p) ≡ id_at cells p)
  pub ends : (p : ℕ) → p < length cells → slice_index next p ≡ 0
      → (slice_index last (id_at cells p) ≡ p) × (of_id (id_at cells p) (drop (p + 1) cells) ≡ [])
  pub known : (p : ℕ) → p < length cells → id_at cells p < length last
  pub last_in : (id : ℕ) → id < length last → (slice_index last id < length cells)
      × (slice_index next (slice_index last id) ≡ 0) × (id_at cells (slice_index last id) ≡ id)

pub record IsChain (first next : List ℕ) (cells : List Write) : Type 0 where
  pub long : length next ≡ length cells
  pub starts : (id : ℕ) → id < length first → (slice_index first id < length cells)
      × (of_id id cells ≡ of_id id (drop (slice_index first id) cells))
      × (id_at cells (slice_index first id) ≡ id)
  pub goes : (p : ℕ) → p < length cells → slice_index next p ≢ 0
      → (slice_index next p < length cells) × (of_id (id_at cells p) (drop (p + 1) cells)
      ≡ of_id (id_at cells p) (drop (slice_index next p) cells))
      × (id_at cells (slice_index next p) ≡ id_at cells p)
  pub ends : (p : ℕ) → p < length cells → slice_index next p ≡ 0
      → of_id (id_at cells p) (drop (p + 1) cells) ≡ []
