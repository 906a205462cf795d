use Rattle.std.proofs.Common.{◌≡◌, ℕ, ◌+◌, [], ◌∷◌, List, length, take, drop, arith, length-take}
use Rattle.std.proofs.Common.{length-drop}
use Rattle.journal.specs.Damage.{IsBadFrame}
use Rattle.journal.proofs.Heads.{first_nine}
use Rattle.journal.proofs.Known.{known_two}
use Rattle.journal.proofs.reader.read_head.Goals as goal

pub returns-clause-damaged : goal.returns-clause-damaged
returns-clause-damaged g c place is =
    let at = c.args.at in
    let seen = (g.D.Disk.meaning c.args.disk.now).seen in
    let zeros : List ℕ = 0 ∷ 0 ∷ 0 ∷ 0 ∷ 0 ∷ 0 ∷ 0 ∷ 0 ∷ 0 ∷ [] in
    let n = length (take c.min.result zeros) in
    known_two (λ file. at + 1 + c.args.left ≡ length file)
    (λ file. c.read_at.new.buf ≡ take n (drop (at + 1) file))
    (λ file. IsBadFrame at (drop (at + 1) file) place)
    (λ file left bytes. c.head_of.ensures.damaged place is (drop (at + 1) file)
    (first_nine (drop (at + 1) file) c.read_at.new.buf n
    (omega (arith, left, length-drop (at + 1) file, length-take c.min.result zeros)) bytes))
    seen c.requires.left c.in_ok-read_at.ensures.bytes
