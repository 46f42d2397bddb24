use Rattle.std.proofs.Common.{arith}
use Rattle.cp_heap.proofs.lemmas.Growth.{places-more, term-stays}
use Rattle.cp_heap.proofs.laws.terms_stay.Goals as goal

pub returns : goal.returns
returns c = λ old new grown at lt. (let n = places-more old new grown in omega arith, term-stays old new grown at lt)
