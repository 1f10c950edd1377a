use Rattle.std.proofs.Common.{◌+◌, ◌-◌, ◌*◌, length}
use Rattle.av_expr.specs.Grammar.{IsUnary, NoUnary, IsProduct, NoProduct, additive, multiplicative}
use Rattle.av_expr.proofs.ReadLemmas.{Chained}
use Rattle.av_expr.proofs.reader.+grammar.Given as goal

abbrev pub decreases-read_unary : goal.decreases-read_unary
decreases-read_unary l = l.levels * 3

abbrev pub decreases-read_product : goal.decreases-read_product
decreases-read_product l = l.levels * 3 + 1

abbrev pub decreases-read_sum : goal.decreases-read_sum
decreases-read_sum l = l.levels * 3 + 2

abbrev pub invariant-read_product-operands : goal.invariant-read_product-operands
invariant-read_product-operands l = Chained multiplicative (IsUnary l.allowed l.levels) (NoUnary l.allowed l.levels) l.text l.place l.fn.out.items l.out.items l.end

abbrev pub decreases-read_product-operands : goal.decreases-read_product-operands
decreases-read_product-operands l = length l.text - l.end

abbrev pub invariant-read_sum-operands : goal.invariant-read_sum-operands
invariant-read_sum-operands l =
    Chained additive (IsProduct (IsUnary l.allowed l.levels)) (NoProduct (IsUnary l.allowed l.levels) (NoUnary l.allowed l.levels)) l.text l.place l.fn.out.items l.out.items l.end

abbrev pub decreases-read_sum-operands : goal.decreases-read_sum-operands
decreases-read_sum-operands l = length l.text - l.end
