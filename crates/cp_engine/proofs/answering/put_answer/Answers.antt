use Rattle.std.proofs.Common.{◌∙◌, ap}
use Rattle.cp_term.specs.Substitution.{apply}
use Rattle.cp_term.proofs.lemmas.NumberingLaws.{fresh-zero}
use Rattle.cp_heap.specs.State.{term, substitution}
use Rattle.cp_run.proofs.GainLaws.{gained-is}
use Rattle.cp_engine.proofs.answering.put_answer.Goals as goal

pub returns-clause-instance : goal.returns-clause-instance
returns-clause-instance c =
    ap (λ s. apply s (term c.import_over.new.self c.in_ok-put.put.at)) c.in_ok-put.ensures.bindings
    ∙ ap (apply (substitution c.args.run.now.heap)) (c.in_ok-put.ensures.term ∙ fresh-zero c.args.answer.now)

pub returns-clause-gained : goal.returns-clause-gained
returns-clause-gained c =
    gained-is c.args.run.now c.import_over.new.self c.requires
    (record { bindings = c.in_ok-put.ensures.bindings; extends = c.in_ok-put.ensures.extends; trail = c.in_ok-put.ensures.trail; variables = c.in_ok-put.ensures.variables })
