use Rattle.std.proofs.Common.{◌≡◌, ◌<◌, ◌≤◌, true, length, sym, subst}
use Rattle.prima_base.specs.Order.{bytes_of, shown}
use Rattle.prima_base.specs.Columns.{has_type}
use Rattle.history_store_columns.specs.Log.{Log}
use Rattle.history_store_columns.specs.ColumnFields.{links_left}
use Rattle.history_store_columns.specs.StoredValues.{text_room}
use Rattle.history_store_columns.proofs.Room.{room_for}
use Rattle.history_store_columns.proofs.column.Column.has_room.Goals as goal

pub returns-clause-place : goal.returns-clause-place
returns-clause-place c =
    let v = shown c.args.value.now in
    subst (λ (l : Log). 1 ≤ l.places) c.self.view_is
    (room_for c.self.inside.values v (links_left c.self.inside)
    (subst (λ (l : Log). has_type l.kind v ≡ true) (sym c.self.view_is) c.requires.typed)
    (subst (λ (l : Log). text_room v < l.spare) (sym c.self.view_is) c.requires.room)).0

pub returns-clause-room : goal.returns-clause-room
returns-clause-room c =
    let v = shown c.args.value.now in
    subst (λ (l : Log). length (bytes_of v) ≤ l.bytes) c.self.view_is
    (room_for c.self.inside.values v (links_left c.self.inside)
    (subst (λ (l : Log). has_type l.kind v ≡ true) (sym c.self.view_is) c.requires.typed)
    (subst (λ (l : Log). text_room v < l.spare) (sym c.self.view_is) c.requires.room)).1
