use Rattle.std.proofs.Common.{◌∙◌, ap}
use Rattle.cp_code.specs.Clauses.{head_of, body_term}
use Rattle.cp_run.proofs.ClauseLaws.{head-new, body-new}
use Rattle.cp_run.proofs.EnteringLaws.{extended-is}
use Rattle.cp_run.proofs.run.Run.put_clause.Goals as goal

pub returns-clause-clause : goal.returns-clause-clause
returns-clause-clause c =
    record {
      variables = c.in_ok-at.ensures.variables;
      bindings = c.in_ok-at.ensures.bindings;
      extends = c.in_ok-at.ensures.extends;
      head = c.of-parts.ensures.head ∙ ap head_of c.in_ok-at.ensures.term ∙ head-new c.args.self.now.heap.variables c.args.clause.now.whole;
      body = c.of-parts.ensures.body ∙ ap body_term c.in_ok-at.ensures.term ∙ body-new c.args.self.now.heap.variables c.args.clause.now.whole;
      head_there = c.of-parts.ensures.head_there;
      body_there = c.of-parts.ensures.body_there;
    }

pub returns-clause-extended : goal.returns-clause-extended
returns-clause-extended c = extended-is c.args.self.now c.import.new.self c.requires c.in_ok-at.ensures.extends
