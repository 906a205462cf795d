-- Rows that are fetched, and the cursor that goes on over them.
use Rattle.std.proofs.Common.{◌≡◌, ℕ, zero, suc, ◌-◌, Bool, true, false, cond, List, [], ◌∷◌}
use Rattle.std.proofs.Common.{length, take, drop, Option, Some, refl, sym, ap, ◌∙◌, arith}
use Rattle.std.proofs.Common.{position, slice_get, is_some, min, true≢false, unwrap_or, length-drop}
use Rattle.std.proofs.Common.{length-take}
use Rattle.std.proofs.lemmas.List.{take_all, take-take}
use Rattle.std.specs.List.{take-map, drop-map}
use Rattle.std.specs.Borrow.{Bor}
use Rattle.std.specs.Map.{keys_of, values_of, lookup, set_value}
use Rattle.indexmap.specs.Layout.{set_value_at}
use Rattle.indexmap.proofs.MapLemmas.{Found-position, insert_entry-first, some_index}
use Rattle.indexmap.specs.IndexMap.{insert_entry}
use Rattle.sessions.specs.declared.cursor.Cursor.{Cursor}
use Rattle.sessions.specs.declared.vault.KeptRow.{KeptRow}
use Rattle.sessions.specs.Kept.{kept_entry, kept_entries}
use Rattle.sessions.specs.SessionStates.{CursorKey, PlainTransaction, advanced}
use Rattle.sessions.specs.SessionStates.{is_cursor, some_sessions}
use Rattle.sessions.specs.Meaning.{plain_cursor, cursors_of}
use Rattle.sessions.specs.Steps.{fetched, fetch_answer, with_fetched, cursor_fault}
use Rattle.sessions.specs.Fetching.{Advances, ServesFetch, fetched_rows}
use Rattle.sessions.proofs.Keyed.{set_value-seen}
use Rattle.sessions.proofs.Places.{entry_at}

pub next_kept : (rows d : List KeptRow) (from count m : ℕ) → d ≡ drop from rows
    → m ≡ min (length d) count
    → kept_entries (take m d) ≡ take count (drop from (kept_entries rows))
next_kept rows d from count m is e =
    ap kept_entries (sym (take-take m count d (omega (arith, e)))
    ∙ take_all m (take count d) (omega (arith, e, length-take count d)))
    ∙ sym (take-map kept_entry count d) ∙ ap (take count) (ap kept_entries is
    ∙ sym (drop-map kept_entry from rows))

pub whole_rest : (rows : List KeptRow) (from : ℕ)
    → take (length rows - from) (drop from rows) ≡ drop from rows
whole_rest rows from = take_all (length rows - from) (drop from rows)
    (omega (arith, length-drop from rows))

module _ {K X : Type 0} where
  -- a value at a place stands under a key
  pub key_of_value : (es : List (K × X)) (i : ℕ) (v : X) → slice_get (values_of es) i ≡ Some v
      → (k : K) × (slice_get es i ≡ Some (k, v))
  key_of_value [] i v h = absurd (true≢false (sym (ap is_some h)))
  key_of_value (e ∷ es) zero v h =
      (e.0, ap (λ x. Some (e.0, x)) (ap (λ (o : Option X). unwrap_or o v) h))
  key_of_value (e ∷ es) (suc i) v h = key_of_value es i v h

  pub set_there : (es : List (K × X)) (i : ℕ) (k : K) (v w : X) → slice_get es i ≡ Some (k, v)
      → slice_get (set_value_at es i w) i ≡ Some (k, w)
  set_there [] i k v w h = absurd (true≢false (sym (ap is_some h)))
  set_there (e ∷ es) zero k v w h =
      ap (λ (o : Option (K × X)). Some ((unwrap_or o (k, v)).0, w)) h
  set_there (e ∷ es) (suc i) k v w h = set_there es i k v w h

-- where one passes the test, to insert is to set the first that does
insert_as_set : {K X : Type 0} (test : K → Bool) (es : List (K × X)) (k : K) (w : X)
    → is_some (lookup test es) ≡ true → insert_entry (λ (_ : K). test) es k w ≡ set_value test es w
insert_as_set test [] k w h = absurd (true≢false (sym h))
insert_as_set {K} {X} test (e ∷ es) k w h = by (test e.0) h (insert_as_set test es k w)
  where
    by : (b : Bool) → is_some (cond b (Some e.1) (lookup test es)) ≡ true
        → (is_some (lookup test es) ≡ true
        → insert_entry (λ (_ : K). test) es k w ≡ set_value test es w)
        → cond b ((e.0, w) ∷ es) (e ∷ insert_entry (λ (_ : K). test) es k w)
        ≡ cond b ((e.0, w) ∷ es) (e ∷ set_value test es w)
    by true h rest = refl
    by false h rest = ap (λ l. e ∷ l) (rest h)

-- the first under a test is where it is
pub set_first : {K X : Type 0} (test : K → Bool) (es : List (K × X)) (i : ℕ) (k : K) (w : X)
    → position test (keys_of es) ≡ Some i → set_value test es w ≡ set_value_at es i w
set_first {K} test es i k w p =
    sym (insert_as_set test es k w (sym (some_index test es) ∙ ap is_some p))
    ∙ insert_entry-first (λ (_ : K). test) k w es i (Found-position test es i p).first

module _ (transaction : ℕ → Option PlainTransaction) (old new : List (CursorKey × Cursor)) (s : ℕ)
    (name : List ℕ) (count place from : ℕ) (adv : Advances count old new place from)
    (p : position (is_cursor s name) (keys_of old) ≡ Some place) where
  pub there : lookup (is_cursor s name) (cursors_of old) ≡ Some (plain_cursor adv.before)
  there = entry_at plain_cursor (is_cursor s name) old place (adv.key, adv.before) p adv.stood

  pub new_there : slice_get new place ≡ Some (adv.key, adv.next)
  new_there = ap (λ l. slice_get l place) adv.entries
      ∙ set_there old place adv.key adv.before adv.next adv.stood

  gone_on : cursors_of new
      ≡ set_value (is_cursor s name) (cursors_of old) (advanced count (plain_cursor adv.before))
  gone_on = ap cursors_of adv.entries
      ∙ ap cursors_of (sym (set_first (is_cursor s name) old place adv.key adv.next p))
      ∙ sym (set_value-seen plain_cursor (is_cursor s name) old adv.next)
      ∙ ap (set_value (is_cursor s name) (cursors_of old)) adv.is

  pub fetched_serves : (rows : Bor (List KeptRow))
      → kept_entries rows.now ≡ take count (drop from (kept_entries adv.next.rows.items))
      → ServesFetch (some_sessions transaction (cursors_of old)) s name count (Some rows)
      (some_sessions transaction (cursors_of new))
  fetched_serves rows is needs shared = (
    ap (cursor_fault s name) there,
    ap (λ o. fetched_rows o rows.now) there
        ∙ ap (fetched (plain_cursor adv.before).periods)
        (is ∙ (λ i. take count (drop (adv.begins i) (kept_entries (adv.rows i)))))
        ∙ sym (ap (fetch_answer count) there),
    (λ i. some_sessions transaction (gone_on i))
        ∙ sym (ap (λ o. with_fetched s name count o (some_sessions transaction (cursors_of old)))
        there),
  )
