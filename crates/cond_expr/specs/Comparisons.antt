-- The six comparisons, and each with its sides exchanged.
use Rattle.std.specs.Prelude.{Bool, true, false}
use Rattle.cond_expr.specs.declared.expr.CmpOp.{CmpOp}
use Rattle.cond_expr.specs.declared.expr.CmpOp.TheVariants.{Eq, Ne, Lt, Le, Gt, Ge}

-- the comparison of the right side with the left one
abbrev pub turned_op : CmpOp → CmpOp
turned_op Eq = Eq
turned_op Ne = Ne
turned_op Lt = Gt
turned_op Le = Ge
turned_op Gt = Lt
turned_op Ge = Le

-- the two comparisons are one
abbrev pub same_way : CmpOp → CmpOp → Bool
same_way Eq Eq = true
same_way Ne Ne = true
same_way Lt Lt = true
same_way Le Le = true
same_way Gt Gt = true
same_way Ge Ge = true
same_way Eq o = false
same_way Ne o = false
same_way Lt o = false
same_way Le o = false
same_way Gt o = false
same_way Ge o = false
