use Rattle.std.proofs.Common.{◌≡◌, ◌+◌, ◌-◌, min, length, take, drop, replicate, ◌∙◌, ap, arith}
use Rattle.std.proofs.lemmas.List.{length-take, length-drop}
use Rattle.disk_model.proofs.Spoiling.{spoiled_part}
use Rattle.disk_model.proofs.crash_image.spoil.Goals as goal

pub returns-clause-bytes : goal.returns-clause-bytes
returns-clause-bytes c i lt =
    let file = c.args.file.now in
    let from = c.min-from.result in
    let more = c.min.result in
    let to = from + more in
    let starts = c.min-from.ensures in
    let ends : to ≡ from + min c.args.len (length file - from) = ap (λ n. from + n) c.min.ensures in
    let part : length (take (to - from) (drop from file)) ≡ to - from =
    omega (arith, length-take (to - from) (drop from file), length-drop from file, starts, ends) in
    spoiled_part file c.fill.new.self c.args.at c.args.len from to c.args.byte starts ends
    (c.fill.ensures.after (λ y e. e) ∙ ap (λ n. replicate n c.args.byte) part)
    (c.fill.ensures.len ∙ part) i lt
