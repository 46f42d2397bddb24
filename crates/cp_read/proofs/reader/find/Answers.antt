use Rattle.std.proofs.Common.{◌≡◌, ℕ, List, [], sym, ap, subst}
use Rattle.cp_term.specs.declared.cell.Cell.{Cell}
use Rattle.cp_ops.specs.Operators.{Ops}
use Rattle.cp_read.specs.declared.bounds.Bounds.{Bounds}
use Rattle.cp_read.specs.Drafts.{cells_of}
use Rattle.cp_read.specs.Filling.{IsTermWithin}
use Rattle.cp_read.specs.Lexemes.{lexemes}
use Rattle.cp_read.specs.Grammar.{primary, clause}
use Rattle.cp_read.specs.Derivation.{alone}
use Rattle.cp_read.specs.Progress.{Progress}
use Rattle.cp_read.proofs.lemmas.Sound.{sound_clause}
use Rattle.cp_read.proofs.lemmas.ClauseTerm.{clause_term}
use Rattle.cp_read.proofs.lemmas.ReadLaws.{find-ok, find-err}
use Rattle.cp_read.proofs.reader.find.Goals as goal

-- what was read is one term, where it is within the bounds
read_term : (bounds : Bounds) (ops : Ops) (m r : Progress) (pieces : List (List Cell)) →
    (list : List (List ℕ)) × (clause ops (lexemes [] m.tokens) ≡ primary (cells_of r.pieces) (lexemes list r.tokens)) → pieces ≡ r.pieces → IsTermWithin bounds (cells_of pieces)
read_term bounds ops m r pieces (list, e) same =
    subst (λ (ps : List (List Cell)). IsTermWithin bounds (cells_of ps)) (sym same)
    (clause_term ops bounds m.tokens (cells_of r.pieces) (lexemes list r.tokens) (sound_clause ops (lexemes [] m.tokens) (alone (cells_of r.pieces) (lexemes list r.tokens)) e))

pub finish-requires : goal.finish-requires
finish-requires c = read_term c.args.bounds c.args.ops.now c.new-machine.result c.run.new.self c.into_draft.result c.in-Ok.ensures c.into_draft.ensures

pub returns-in-Ok : goal.returns-in-Ok
returns-in-Ok c =
    find-ok c.args.bounds c.args.ops.now c.args.tokens.now c.new-machine.result c.run.new.self c.into_draft.result c.left-left.result c.finish.result
    (ap (λ (p : Progress). p.tokens) c.new-machine.ensures) c.in-Ok.ensures c.into_draft.ensures c.left-left.ensures c.finish.ensures

pub returns-in-Err : goal.returns-in-Err
returns-in-Err c =
    find-err c.args.bounds c.args.ops.now c.args.tokens.now c.new-machine.result c.run.new.self c.left-left-in-Err.result c.in-Err.stop c.refusal_at.result
    (ap (λ (p : Progress). p.tokens) c.new-machine.ensures) c.in-Err.ensures c.left-left-in-Err.ensures c.refusal_at.ensures
