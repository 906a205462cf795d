use Rattle.std.proofs.Common.{◌≡◌, ◌+◌, ◌++◌, ◌∷◌, [], List, length, take, drop, sym, ap, ◌∙◌}
use Rattle.std.proofs.Common.{subst, arith}
use Rattle.std.specs.Prelude.{Option, IfNone, option_to_list}
use Rattle.std.proofs.lemmas.Grind.{common_steps}
use Rattle.prima_base.specs.declared.timed_row.TimedRow.{TimedRow}
use Rattle.prima_base.specs.Timed.{entries_of}
use Rattle.join_exec_spec.specs.BorrowedOutputs.{AllBorrowed}
use Rattle.history_store.specs.declared.scan.KeyEntry.{KeyEntry}
use Rattle.history_store.proofs.Scanning.{keys_count}
use Rattle.join_exec.specs.declared.cursor.Cursor.{Cursor}
use Rattle.join_exec.specs.Entries.{AllInTurn, HasRow}
use Rattle.join_exec.specs.Walking.{all_left, unread, both, AreLeft, AreAdded}
use Rattle.join_exec.proofs.KeysInTurn.{IsAt, at_first, turn_at_key, row_at_key, at_next}
use Rattle.join_exec.proofs.KeysInTurn.{all_gathered}
use Rattle.join_exec.proofs.gathered_table.gather.Goals as goal

pub keys-init : goal.keys-init
keys-init g c =
    let s = c.args.table.now in
    record {
      none = c.in_ok-values.ensures.items;
      at = subst (λ (rows : List TimedRow). IsAt s c.args.slice c.args.columns.now
          c.scan_keys-keys.result (all_left c.in_ok-cursors.cursors.items) (entries_of rows))
          (sym c.in_ok-rows.ensures)
          (at_first s c.args.slice c.args.columns.now c.scan_keys-keys.result
          (all_left c.in_ok-cursors.cursors.items) c.scan_keys-keys.ensures.valid c.requires
          c.scan_keys-keys.ensures.entries c.in_ok-cursors.ensures.left);
      borrowed = subst AllBorrowed (sym c.in_ok-rows.ensures) tt;
      count = omega arith;
      rises = omega arith;
    }

pub put_key-requires-clause-turn : goal.put_key-requires-clause-turn
put_key-requires-clause-turn g c =
    let next : c.keys.keys ≡ c.in-Some.key ∷ c.next_key.new.self = c.next_key.ensures.entries
    ∙ ap (λ (o : Option KeyEntry). option_to_list o ++ c.next_key.new.self) c.in-Some.is in
    subst (λ (cs : List Cursor). AllInTurn (all_left cs)) (sym c.deref_mut.ensures.value)
    (turn_at_key c.args.table.now c.args.slice c.args.columns.now c.scan_keys-keys.ensures.valid
    c.requires c.keys.keys (all_left c.keys.cursors.items) (entries_of c.keys.rows.items)
    c.keys.invariant.at c.in-Some.key c.next_key.new.self next)

pub put_key-requires-clause-there : goal.put_key-requires-clause-there
put_key-requires-clause-there g c =
    let next : c.keys.keys ≡ c.in-Some.key ∷ c.next_key.new.self = c.next_key.ensures.entries
    ∙ ap (λ (o : Option KeyEntry). option_to_list o ++ c.next_key.new.self) c.in-Some.is in
    λ m h.
    let r = row_at_key c.args.table.now c.args.slice c.args.columns.now
    c.scan_keys-keys.ensures.valid c.requires c.keys.keys (all_left c.keys.cursors.items)
    (entries_of c.keys.rows.items) c.keys.invariant.at c.in-Some.key c.next_key.new.self next
    m h in (
      r.0,
      subst (λ (cs : List Cursor). HasRow (all_left cs) c.in-Some.key.id r.0 m)
          (sym c.deref_mut.ensures.value) r.1,
    )

pub keys-preserved : goal.keys-preserved
keys-preserved g c =
    let s = c.args.table.now in
    let i = c.keys.invariant in
    let key = c.in-Some.key in
    let news = c.put_key.new.cursors in
    let was = c.deref_mut.ensures.value in
    let kept = c.put_key.auto.cursors in
    let full = c.keys.cursors.ok in
    let same : take c.keys.cursors.len (news ++ drop (length news) c.keys.cursors.items) ≡ news =
    grind (arith, common_steps) in
    let next : c.keys.keys ≡ key ∷ c.next_key.new.self = c.next_key.ensures.entries
    ∙ ap (λ (o : Option KeyEntry). option_to_list o ++ c.next_key.new.self) c.in-Some.is in
    let fewer = ap (λ (ks : List KeyEntry). length ks) next in
    let one = ap (λ (o : Option KeyEntry). length (option_to_list o)) c.in-Some.is in
    let before = ap unread was in
    let after = ap unread same in
    record {
      none = c.in_ok-put_key.ensures.none;
      at = subst (λ (cs : List Cursor). IsAt s c.args.slice c.args.columns.now
          c.next_key.new.self (all_left cs) (entries_of c.put_key.new.rows.items)) (sym same)
          (at_next s c.args.slice c.args.columns.now c.scan_keys-keys.ensures.valid c.requires
          c.keys.keys (all_left c.keys.cursors.items) (entries_of c.keys.rows.items) i.at key
          c.next_key.new.self next (all_left news) (entries_of c.put_key.new.rows.items)
          (subst (λ (cs : List Cursor). AreLeft (key.id + 1) 0 (all_left cs) (all_left news)) was
          c.in_ok-put_key.ensures.left)
          (subst (λ (cs : List Cursor). AreAdded (both key.period c.args.slice) (all_left cs)
          key.id (entries_of c.keys.rows.items) (entries_of c.put_key.new.rows.items)) was
          c.in_ok-put_key.ensures.rows));
      borrowed = c.in_ok-put_key.ensures.borrowed i.borrowed;
      count = omega (
        arith,
        i.count,
        fewer,
        one,
        before,
        after,
        c.next_key.ensures.cost,
        c.put_key.ensures.cost,
      );
      rises = omega (arith, i.rises, c.next_key.ensures.cost, c.put_key.ensures.rises);
    }

pub returns-in_err-put_key-clause-cost : goal.returns-in_err-put_key-clause-cost
returns-in_err-put_key-clause-cost g c =
    let next : c.keys.keys ≡ c.in-Some.key ∷ c.next_key.new.self = c.next_key.ensures.entries
    ∙ ap (λ (o : Option KeyEntry). option_to_list o ++ c.next_key.new.self) c.in-Some.is in
    let fewer = ap (λ (ks : List KeyEntry). length ks) next in
    let one = ap (λ (o : Option KeyEntry). length (option_to_list o)) c.in-Some.is in
    let before = ap unread c.deref_mut.ensures.value in
    let all = ap (λ (ks : List KeyEntry). length ks) c.scan_keys-keys.ensures.entries
    ∙ keys_count 0 c.args.table.now.keys in
    omega (
      arith,
      c.keys.invariant.count,
      fewer,
      one,
      before,
      all,
      c.in_ok-cursors.ensures.unread,
      c.next_key.ensures.cost,
      c.put_key.ensures.cost,
    )

pub returns-clause-gathered : goal.returns-clause-gathered
returns-clause-gathered g c = all_gathered c.args.table.now c.args.slice c.args.columns.now
    c.scan_keys-keys.ensures.valid c.requires c.keys.keys (all_left c.keys.cursors.items)
    (entries_of c.keys.rows.items) c.keys.invariant.at
    (subst (λ (o : Option KeyEntry). IfNone o (c.keys.keys ≡ [])) c.in_default.is
    c.next_key.ensures.all)

pub returns-clause-cost : goal.returns-clause-cost
returns-clause-cost g c =
    let none = ap (λ (o : Option KeyEntry). length (option_to_list o)) c.in_default.is in
    let before = ap unread c.deref_mut-2.ensures.value in
    let all = ap (λ (ks : List KeyEntry). length ks) c.scan_keys-keys.ensures.entries
    ∙ keys_count 0 c.args.table.now.keys in
    omega (
      arith,
      c.keys.invariant.count,
      none,
      before,
      all,
      c.in_ok-cursors.ensures.unread,
      c.next_key.ensures.cost,
      c.read_all.ensures,
    )

pub returns-clause-counted : goal.returns-clause-counted
returns-clause-counted g c =
    let none = ap (λ (o : Option KeyEntry). length (option_to_list o)) c.in_default.is in
    let ended : c.keys.keys ≡ [] = subst (λ (o : Option KeyEntry).
    IfNone o (c.keys.keys ≡ [])) c.in_default.is c.next_key.ensures.all in
    let fewer = ap (λ (ks : List KeyEntry). length ks) ended in
    let before = ap unread c.deref_mut-2.ensures.value in
    let all = ap (λ (ks : List KeyEntry). length ks) c.scan_keys-keys.ensures.entries
    ∙ keys_count 0 c.args.table.now.keys in
    omega (
      arith,
      c.keys.invariant.count,
      none,
      fewer,
      before,
      all,
      c.in_ok-cursors.ensures.unread,
      c.next_key.ensures.cost,
      c.read_all.ensures,
    )
