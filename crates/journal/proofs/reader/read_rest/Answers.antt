use Rattle.std.proofs.Common.{◌≡◌, ◌+◌, ◌<◌, length, take, drop, get_or, refl, arith, subst, length-drop}
use Rattle.disk_model.specs.Meaning.{IfKnown}
use Rattle.journal.specs.Reading.{IsHead, IsRead}
use Rattle.journal.specs.declared.rec.Rec.{Rec}
use Rattle.journal.proofs.Heads.{record_read, payload_filled, gate_filled}
use Rattle.journal.proofs.Known.{known_two, known_three}
use Rattle.journal.proofs.reader.read_rest.Goals as goal

pub returns-clause-read : goal.returns-clause-read
returns-clause-read g c =
    let at = c.args.at in
    let n = c.args.head.len in
    let got = c.read_at.new.buf in
    let zeros = c.in_ok-payload.payload.items in
    let m = c.in_ok-payload.payload.len in
    let seen = (g.D.Disk.meaning c.args.disk.now).seen in
    let size : length c.deref_mut.result.now ≡ m = c.deref_mut.ensures.len in
    let paid : length c.truncate.new.self.items ≡ n =
    omega (arith, c.truncate.ensures.len, c.in_ok-payload.ensures.len) in
    let rec : Rec = record { at = at; kind = c.args.head.kind; payload = c.truncate.new.self } in
    let it : IfKnown seen (λ file. IsRead at (drop (at + 1) file) rec
    (9 + length rec.payload.items)) =
    known_three (λ file. at + 10 + n < length file)
    (λ file. got ≡ take (length c.deref_mut.result.now) (drop (at + 1 + 9) file))
    (λ file. IsHead (drop (at + 1) file) c.args.head.kind n)
    (λ file. IsRead at (drop (at + 1) file) rec (9 + length rec.payload.items))
    (λ file inside read head. record_read at (drop (at + 1) file) rec n head c.requires.known
    (omega (arith, inside, length-drop (at + 1) file)) (omega (arith, c.requires.ends)) refl paid
    (payload_filled file zeros got at n m c.in_ok-payload.ensures.len
    (subst (λ k. got ≡ take k (drop (at + 1 + 9) file)) size read)
    inside c.truncate.new.self.items c.truncate.ensures.items))
    seen c.requires.within c.in_ok-read_at.ensures.bytes c.requires.head in
    it

pub returns-clause-gate : goal.returns-clause-gate
returns-clause-gate g c =
    let at = c.args.at in
    let n = c.args.head.len in
    let got = c.read_at.new.buf in
    let zeros = c.in_ok-payload.payload.items in
    let m = c.in_ok-payload.payload.len in
    let seen = (g.D.Disk.meaning c.args.disk.now).seen in
    let gate = c.index-gate.result.now in
    let size : length c.deref_mut.result.now ≡ m = c.deref_mut.ensures.len in
    let paid : n ≡ length c.truncate.new.self.items =
    omega (arith, c.truncate.ensures.len, c.in_ok-payload.ensures.len) in
    known_two (λ file. at + 10 + n < length file)
    (λ file. got ≡ take (length c.deref_mut.result.now) (drop (at + 1 + 9) file))
    (λ file. gate ≡ get_or file (at + 10 + length c.truncate.new.self.items) 0)
    (λ file inside read. subst (λ k. gate ≡ get_or file (at + 10 + k) 0) paid
    (gate_filled file zeros got at n m c.in_ok-payload.ensures.len
    (subst (λ k. got ≡ take k (drop (at + 1 + 9) file)) size read)
    inside gate c.index-gate.ensures))
    seen c.requires.within c.in_ok-read_at.ensures.bytes
