-- Ids in an order, kept in blocks.
use Rattle.std.specs.Prelude.{◌≡◌, ℕ, zero, suc, ◌+◌, ◌-◌, ◌*◌, ◌^◌, ◌<◌, ◌≤◌, min, max, List, []}
use Rattle.std.specs.Prelude.{◌∷◌, length, All, slice_index, vec_len, vec_capacity}
use Rattle.std.specs.List.{concat}
use Rattle.history_store_index.specs.declared.index.Block.TheInside.{Inside as InsideBlock}
use Rattle.history_store_index.specs.declared.index.RowIndex.TheInside.{Inside}

-- the ids, and for how many more there is room wherever they are put
pub record Ids : Type 0 where
  pub ids : List ℕ
  pub room : ℕ

-- a block has at most this many ids
abbrev pub block_size : ℕ
block_size = 256

-- half a block: a full one is split into two of this many
abbrev pub half_size : ℕ
half_size = 128

-- a block has room for all that it may get
abbrev pub IsBlock : InsideBlock → Type 0
IsBlock b = (vec_len b.ids ≤ block_size) × (block_size ≤ vec_capacity b.ids)

-- how many ids stand before the block at this place
abbrev pub before : ℕ → List (List ℕ) → ℕ
before zero blocks = 0
before (suc k) [] = 0
before (suc k) (b ∷ blocks) = length b + before k blocks

-- the numbers are how many ids stand before each block
pub record IsCounted (starts : List ℕ) (blocks : List (List ℕ)) : Type 0 where
  pub long : length starts ≡ length blocks
  pub each : (k : ℕ) → k < length blocks → slice_index starts k ≡ before k blocks

-- how many ids the blocks have above half their size, each counted by itself
abbrev pub filled : List (List ℕ) → ℕ
filled [] = 0
filled (b ∷ blocks) = (length b - half_size) + filled blocks

-- how many ids may come to these blocks, at any places, where so many blocks more may come: at the
-- worst each takes a block, and each block more takes half a block of ids but for those that now
-- stand above the halves
abbrev pub ids_left : ℕ → List (List ℕ) → ℕ
ids_left more blocks = max more (half_size * more - filled blocks)

-- how many blocks may come: as many as are spare, and as there is room for among the blocks and
-- among the numbers
abbrev pub blocks_left : ℕ → ℕ → ℕ → ℕ
blocks_left spare blocks starts = min spare (min blocks starts)

abbrev pub ids_view : Inside → Ids
ids_view a = record {
  ids = concat a.blocks.items;
  room = min (ids_left (blocks_left (vec_len a.spare) (vec_capacity a.blocks - vec_len a.blocks)
      (vec_capacity a.starts - vec_len a.starts)) a.blocks.items) (2 ^ 64 - 1 - a.count);
}

-- there is a block always, and each spare block is empty
pub record IsIndex (a : Inside) : Type 0 where
  pub some : 0 < length a.blocks.items
  pub counted : IsCounted a.starts.items a.blocks.items
  pub count : a.count ≡ length (concat a.blocks.items)
  pub spare : All (λ b. b ≡ []) a.spare.items
