-- What a list of values has in memory has room in one of its own.
use Rattle.std.specs.Prelude.{ℕ, ◌≤◌, ◌<◌, ◌^◌, take, drop, length}
use Rattle.std.specs.declared.vec.Vec.{Vec}
use Rattle.std.specs.declared.alloc.Global.{Global}
use Rattle.std.proofs.Common.{arith}
use Rattle.std.proofs.lemmas.List.{length-take, length-drop}
use Rattle.prima_base.specs.declared.value.Val.{Val}

pub no_more : (n : ℕ) → n ≤ n
no_more n = omega arith

pub short : (values : Vec Val Global) → length values.items < 2 ^ 63
short values = let few = values.ok in let room = values.small in grind arith

pub short_part : (values : Vec Val Global) (start len : ℕ)
    → length (take len (drop start values.items)) < 2 ^ 63
short_part values start len =
    let all = short values in
    let part = length-take len (drop start values.items) in
    let rest = length-drop start values.items in omega arith
