use Rattle.std.proofs.Common.{◌≡◌, ◌<◌, ◌∷◌, length, ap, arith}
use Rattle.prima_io.specs.Memory.{sure_left}
use Rattle.script_cli_sample.proofs.Handing.{handed}
use Rattle.script_cli_sample.proofs.source.SampleSourceSource.take.Goals as goal

pub returns-in-Ok-Some-clause-bytes : goal.returns-in-Ok-Some-clause-bytes
returns-in-Ok-Some-clause-bytes c =
    let none : length (sure_left c.args.self.now.line) ≡ 0 =
    omega (arith, c.moved-count.ensures.count, c.requires) in
    let some : 0 < length c.in-Ok-Some.line.items =
    rw c.in-Ok-Some.field-0-is at c.in-Ok-Some.ensures.some in
    let next : c.args.self.now.script ≡ c.in-Ok-Some.line.items ∷ c.next.new.self =
    rw c.in-Ok-Some.field-0-is at c.in-Ok-Some.ensures.next in (
      handed (sure_left c.args.self.now.line) c.in-Ok-Some.line.items (sure_left c.new.result) _ _
          c.args.self.now.script c.next.new.self none next c.new.ensures c.moved.ensures.moved,
      λ zero room. absurd (omega (
        arith,
        zero,
        room,
        some,
        c.moved.ensures.count,
        c.moved.ensures.len,
        ap length c.new.ensures,
      )),
    )
