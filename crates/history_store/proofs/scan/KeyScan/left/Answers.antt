use Rattle.std.proofs.Common.{◌∙◌, ap, sym, drop, length, arith}
use Rattle.std.proofs.lemmas.List.{length-drop}
use Rattle.history_store.proofs.Scanning.{keys_count}
use Rattle.history_store.proofs.scan.KeyScan.left.Goals as goal

pub returns : goal.returns
returns c =
    let a = c.self.inside in
    let left = ap length (sym c.self.view_is) ∙ keys_count a.at (drop a.at a.keys.now)
    ∙ length-drop a.at a.keys.now in
    omega (arith, left)
