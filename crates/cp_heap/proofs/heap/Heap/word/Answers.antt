use Rattle.std.proofs.Common.{arith}
use Rattle.cp_heap.proofs.HeapLaws.{places}
use Rattle.cp_heap.proofs.LookLaws.{word_is, word_placed, one_term}
use Rattle.cp_heap.proofs.heap.Heap.word.Goals as goal

pub index-requires : goal.index-requires
index-requires c = let e = places c.self.inside c.self.invariant c.args.self.now c.self.view_is in let l = c.requires in omega arith

pub returns-clause-term : goal.returns-clause-term
returns-clause-term c = word_is c.self.inside c.self.invariant c.args.self.now c.self.view_is c.args.at.at c.index.result.now c.requires c.index.ensures

pub returns-clause-placed : goal.returns-clause-placed
returns-clause-placed c = word_placed c.self.inside c.self.invariant c.args.self.now c.self.view_is c.args.at.at c.index.result.now c.requires c.index.ensures

pub returns-clause-one_term : goal.returns-clause-one_term
returns-clause-one_term c = one_term c.self.inside c.self.invariant c.args.self.now c.self.view_is c.args.at.at c.requires
