-- `evaluate::measure` meets its contract: the strides, a dimension at a time.
-- Assumes nothing.
use borrow.Author.Rules.{rules}
use Rattle.evaluate.proofs.Judging.{size_some, inputs_few, stride-fits, shaped}
use Rattle.evaluate.proofs.measure.Goals as goal

pub overflow_sub-hop : goal.overflow_sub-hop
overflow_sub-hop c = search (rules, size_some)

pub overflow_mul-s0 : goal.overflow_mul-s0
overflow_mul-s0 c = search (rules, stride-fits)

pub dim-g0-requires : goal.dim-g0-requires
dim-g0-requires c = search (rules, inputs_few)

pub dim-g1-requires : goal.dim-g1-requires
dim-g1-requires c = search (rules, inputs_few)

pub dim-g2-requires : goal.dim-g2-requires
dim-g2-requires c = search (rules, inputs_few)

pub dim-g3-requires : goal.dim-g3-requires
dim-g3-requires c = search (rules, inputs_few)

pub overflow_mul-s1 : goal.overflow_mul-s1
overflow_mul-s1 c = search (rules, stride-fits)

pub overflow_mul-s2 : goal.overflow_mul-s2
overflow_mul-s2 c = search (rules, stride-fits)

pub overflow_mul-s3 : goal.overflow_mul-s3
overflow_mul-s3 c = search (rules, stride-fits)

pub overflow_mul-bytes : goal.overflow_mul-bytes
overflow_mul-bytes c = search (rules, stride-fits)

pub returns : goal.returns
returns c = search (rules, shaped)
