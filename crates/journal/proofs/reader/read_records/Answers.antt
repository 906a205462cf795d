use Rattle.std.proofs.Common.{◌≡◌, ◌+◌, inl, ◌++◌, ◌∷◌, [], Err, ◌∙◌, arith, rules, length}
use Rattle.std.proofs.Common.{drop, get_or, subst}
use Rattle.disk_model.specs.Meaning.{IfKnown}
use Rattle.journal.specs.Damage.{IsDamagedAt, IsBadFrame, DiffersAt}
use Rattle.journal.specs.Reading.{IsRead}
use Rattle.journal.specs.declared.fault.JournalFault.TheVariants as mounting
use Rattle.journal.proofs.Known.{known_two, known_three}
use Rattle.journal.proofs.ReadCalls.{reads_then}
use Rattle.journal.proofs.Walked.{IsWalked, IsPlaced, next_placed, next_walked, damaged_after}
use Rattle.journal.proofs.reader.read_records.Goals as goal

pub returns-in_err-gate-clause-damaged : goal.returns-in_err-gate-clause-damaged
returns-in_err-gate-clause-damaged g c place is =
    let was : c.read_first_gate.result ≡ Err (mounting.Damaged place) = search rules in
    let seen = (g.D.Disk.meaning c.args.disk.now).seen in
    known_two (λ file. c.args.len ≡ length file) (λ file. DiffersAt file place)
    (λ file. IsDamagedAt file place)
    (λ file len differs. record { long = omega (arith, len, c.requires.long); is = inl differs })
    seen c.requires.len (c.read_first_gate.ensures.damaged place was)

pub returns-in_err-rec-clause-damaged : goal.returns-in_err-rec-clause-damaged
returns-in_err-rec-clause-damaged g c place is =
    let i = c.records.invariant in
    let M = g.D.Disk.meaning in
    let seen = (M c.args.disk.now).seen in
    let at = c.records.at in
    let was : c.read_record.result ≡ Err (mounting.Damaged place) = search rules in
    let start = c.in_ok-gate.ensures.reads.seen in
    known_three (λ file. c.args.len ≡ length file)
    (λ file. IsWalked file c.records.recs.items at c.records.gate)
    (λ file. IsBadFrame at (drop (at + 1) file) place)
    (λ file. IsDamagedAt file place)
    (λ file len walked bad. damaged_after file c.records.recs.items at c.records.gate walked
    c.records-test.true i.placed place (omega (arith, len, c.requires.long)) bad)
    seen c.requires.len
    (subst (λ o. IfKnown o (λ file. IsWalked file c.records.recs.items at c.records.gate)) start
    i.walked)
    (subst (λ o. IfKnown o (λ file. IsBadFrame at (drop (at + 1) file) place))
    (i.reads.seen ∙ start) (c.read_record.ensures.damaged place was))

pub records-preserved : goal.records-preserved
records-preserved g c =
    let i = c.records.invariant in
    let M = g.D.Disk.meaning in
    let at = c.records.at in
    let recs = c.records.recs.items in
    let more = c.push.new.self.items in
    let rec = c.in_ok-rec.rec in
    let next = c.in_ok-rec.next in
    let it = c.in_ok-rec.ensures in
    let seen = (M c.read_first_gate.new.disk).seen in
    let pushed : more ≡ recs ++ rec ∷ [] = search rules in
    let here = i.reads.seen in
    let used = 9 + length rec.payload.items in
    let to = at + (10 + length rec.payload.items) in
    let read : IfKnown seen (λ file. IsRead at (drop (at + 1) file) rec used) =
    subst (λ o. IfKnown o (λ file. IsRead at (drop (at + 1) file) rec used)) here it.read in
    let gate : IfKnown seen (λ file. next ≡ get_or file (at + 10 + length rec.payload.items) 0) =
    subst (λ o. IfKnown o (λ file. next ≡ get_or file (at + 10 + length rec.payload.items) 0)) here
    it.gate in
    let end : IfKnown seen (λ file. c.read_record.new.end ≡ length file) =
    subst (λ o. IfKnown o (λ file. c.read_record.new.end ≡ length file)) here it.end in
    let placed = next_placed recs rec more pushed at i.placed it.place it.known
    (omega (arith, it.inside, it.below)) in
    let walked : IfKnown seen (λ file. IsWalked file more to next) =
    known_three (λ file. IsWalked file recs at c.records.gate)
    (λ file. IsRead at (drop (at + 1) file) rec used)
    (λ file. next ≡ get_or file (at + 10 + length rec.payload.items) 0)
    (λ file. IsWalked file more to next)
    (λ file walked read gate. next_walked file recs at c.records.gate walked c.records-test.true rec
    read next gate more pushed)
    seen i.walked read gate in
    let n_is : length rec.payload.items ≡ c.len.result = omega (arith, c.len.ensures) in
    record {
      reads = reads_then _ _ _ i.reads it.reads;
      unfailed = it.unfailed (search rules) ∙ i.unfailed;
      below = it.below;
      end = end;
      inside = omega (arith, it.inside, c.len.ensures);
      placed = subst (λ n. IsPlaced more (at + (10 + n))) n_is placed;
      walked = subst (λ n. IfKnown seen (λ file. IsWalked file more (at + (10 + n)) next))
          n_is walked;
    }
