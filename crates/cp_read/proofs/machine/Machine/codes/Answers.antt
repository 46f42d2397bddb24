use Rattle.std.proofs.Common.{ℕ, List, [], ◌∷◌, ◌++◌, ap, sym, ◌∙◌, append_assoc, map-id}
use Rattle.std.specs.Prelude.{pos, codes}
use Rattle.std.proofs.lemmas.Iterator.{YieldsList-from_chars}
use Rattle.std.proofs.lemmas.Iterator.Consumers.{YieldsList-end}
use Rattle.cp_term.specs.declared.cell.Cell.{Cell}
use Rattle.cp_term.specs.declared.cell.Cell.TheVariants.{Int, Func}
use Rattle.cp_read.specs.Drafts.{code_pieces}
use Rattle.cp_read.specs.Progress.{Progress}
use Rattle.cp_read.proofs.lemmas.DraftLaws.{code_pieces-more}
use Rattle.cp_read.proofs.machine.Machine.codes.Goals as goal

pub loop-character-preserved : goal.loop-character-preserved
loop-character-preserved c =
    let more : List (List Cell) = (Func (codes ".") 2 ∷ []) ∷ (Int (pos c.in-Some.character) ∷ []) ∷ [] in
    c.in_ok-code.ensures.ok
    ∙ ap (λ (p : Progress). record p { pieces = p.pieces ++ more }) c.loop-character.invariant
    ∙ ap (λ (ps : List (List Cell)). record c.args.self.now { pieces = ps })
    (append_assoc c.args.self.now.pieces (code_pieces c.loop-character.yielded) more
    ∙ ap (λ (ps : List (List Cell)). c.args.self.now.pieces ++ ps) (sym (code_pieces-more c.loop-character.yielded c.in-Some.character)))

pub returns-clause-ok : goal.returns-clause-ok
returns-clause-ok c =
    let done = YieldsList-end (YieldsList-from_chars c.args.text.now c.utf8.text cc) c.loop-character.yielded _ c.loop-character.yielded_by _ _ c.in-None.is c.next.ensures.steps in
    c.loop-character.invariant
    ∙ ap (λ (cs : List ℕ). record c.args.self.now { pieces = c.args.self.now.pieces ++ code_pieces cs }) (sym (map-id c.loop-character.yielded) ∙ done.0)
