-- What is due: the tables of an operator, and the keys that entries fill.
use Rattle.std.specs.Prelude.{◌≡◌, ℕ, ◌+◌, ◌==◌, Bool, List, [], ◌∷◌, drop, Option, Some, None}
use Rattle.std.specs.Prelude.{if◌then◌else◌}
use Rattle.relations_spec.specs.Spans.{Span, span}
use Rattle.prima_base.specs.Columns.{Column}
use Rattle.smo_ops_versions_spec.specs.Lifelines.{Lifeline, line_begun}
use Rattle.store_image_reader.specs.declared.entry.Due.{Due}

-- the lifeline that a table begins with a version, where its name is one of those that are made
abbrev pub begun_of : (List ℕ → Bool) → ℕ → List ℕ × List Column → List Lifeline
begun_of is_made version t = if is_made t.0 then line_begun version t ∷ [] else []

-- the keys that are not yet filled, of the first of which a part is left
abbrev pub with_left : List Span → ℕ → Option Span → List Span
with_left keys id None = []
with_left keys id (Some left) = left ∷ drop (id + 1) keys

abbrev pub keys_left : List Span → Due → List Span
keys_left keys due = with_left keys due.id due.left

-- when this part of a key is filled up to the end, the rest of it, or the next key
pub record IsNextDue (keys : List Span) (id : ℕ) (part : Span) (end : ℕ) (due : Due) : Type 0 where
  pub key : due.id ≡ (if end == part.end then id + 1 else id)
  pub left : keys_left keys due ≡ (if end == part.end then drop (id + 1) keys
      else span end part.end ∷ drop (id + 1) keys)
