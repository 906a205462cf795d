-- The steps of reading expressions and conditions.
use Rattle.std.proofs.Common.{◌≡◌, ℕ, suc, ◌-◌, ◌≢◌, nat_lt, List, Result, subst, arith}
use Rattle.cond_expr.specs.declared.expr.Expr.{Expr}
use Rattle.cond_expr.specs.declared.expr.Cond.{Cond}
use Rattle.cond_expr.specs.Seen.{tree, test}
use Rattle.command_codec.specs.declared.reader.ReadStop.{ReadStop}
use Rattle.command_codec_spec.specs.Reader.{expr, cond, level}
use Rattle.command_codec.specs.Reads.{Reads}

-- a level over the one below
pub expr_levels : (levels : ℕ) (ts : List ℕ) (result : Result Expr ReadStop) (new : List ℕ)
    → levels ≢ 0
    → Reads tree (expr (nat_lt 0 (levels - 1)) (level (levels - 1)) ts) result new
    → Reads tree ((level levels).expr ts) result new
expr_levels levels ts result new h r =
    let e : suc (levels - 1) ≡ levels = omega arith in
    let P : ℕ → Type 0 = λ n. Reads tree ((level n).expr ts) result new in
    subst P e r

pub cond_levels : (levels : ℕ) (ts : List ℕ) (result : Result Cond ReadStop) (new : List ℕ)
    → levels ≢ 0
    → Reads test (cond (nat_lt 0 (levels - 1)) (level (levels - 1)) ts) result new
    → Reads test ((level levels).cond ts) result new
cond_levels levels ts result new h r =
    let e : suc (levels - 1) ≡ levels = omega arith in
    let P : ℕ → Type 0 = λ n. Reads test ((level n).cond ts) result new in
    subst P e r
