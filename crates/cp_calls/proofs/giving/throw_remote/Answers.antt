use Rattle.std.proofs.Common.{◌≡◌, [], get_or, ◌∙◌, ap}
use Rattle.cp_term.specs.Substitution.{apply}
use Rattle.cp_heap.specs.State.{substitution}
use Rattle.cp_code.specs.Requests.{full_name, handed_out}
use Rattle.cp_run.specs.declared.run.Run.{Run}
use Rattle.cp_run.specs.Shown.{here_of, instance_in}
use Rattle.cp_run.proofs.EnteringLaws.{extended-is}
use Rattle.cp_calls.proofs.RemoteLaws.{fresh-stays, fresh-handed, throw-extended}
use Rattle.cp_calls.proofs.giving.throw_remote.Goals as goal

pub throw_copy-requires-clause-holds : goal.throw_copy-requires-clause-holds
throw_copy-requires-clause-holds c = (extended-is c.args.run.now c.import.new.self c.requires.holds c.in_ok-at.ensures.extends).holds

pub returns-clause-moved : goal.returns-clause-moved
returns-clause-moved c code level =
    let old : Run = c.args.run.now in
    let h = c.args.run.now.heap in
    let new : Run = record c.args.run.now { heap = c.import.new.self } in
    let t = c.args.ball.now in
    let handed : handed_out (instance_in (here_of new) c.in_ok-at.at.at) ≡ handed_out t =
    ap (λ s. handed_out (apply s (get_or c.import.new.self.terms c.in_ok-at.at.at []))) c.in_ok-at.ensures.bindings
    ∙ ap (λ x. handed_out (apply (substitution h) x)) c.in_ok-at.ensures.term
    ∙ ap handed_out (fresh-stays h c.mark-mark.ensures.well_formed t)
    ∙ fresh-handed h.variables t in
    c.in_ok-throw_copy.ensures.moved code level
    ∙ throw-extended code old new c.args.rest level (instance_in (here_of new) c.in_ok-at.at.at) t (full_name c.args.pred.now) (extended-is c.args.run.now c.import.new.self c.requires.holds c.in_ok-at.ensures.extends) c.requires.rest handed
