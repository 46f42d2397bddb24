use Rattle.std.proofs.Common.{◌≡◌, ℕ, List, [], ◌∷◌, ◌++◌, length, subst, sym}
use Rattle.std.specs.Prelude.{drop}
use Rattle.cp_read.specs.declared.frame.Turn.TheVariants as turns
use Rattle.cp_read.specs.Grammar.{empty_list}
use Rattle.cp_read.proofs.lemmas.MoreLaws.{made}
use Rattle.std.specs.Str.{chars}
use Rattle.std.proofs.lemmas.Str.{IsUtf8-from_is_utf8}
use Rattle.cp_read.specs.Stands.{Keeps}
use Rattle.cp_read.specs.Drafts.{code_pieces}
use Rattle.cp_read.proofs.lemmas.OperandLaws.{text_comes, text_is_utf8}
use Rattle.cp_read.proofs.machine.Machine.text.Goals as goal

pub returns-in-Ok : goal.returns-in-Ok
returns-in-Ok c = λ ops s front h.
    let e = c.in-Ok.ensures.cases.0 in
    let same : c.in-Ok.text.now ≡ c.args.bytes.now = cc in
    made ops s c.code_list.result (turns.Has (length c.args.self.now.pieces) 0 c.args.max) c.code_list.new.self
    (record c.args.self.now { tokens = drop 1 c.args.self.now.tokens; pieces = (c.args.self.now.pieces ++ code_pieces (chars c.in-Ok.text.now)) ++ (empty_list ∷ []) ∷ [] })
    c.code_list.ensures.turn c.code_list.ensures.ok c.code_list.ensures.err
    (subst (λ (bs : List ℕ). Keeps ops s (turns.Has (length c.args.self.now.pieces) 0 c.args.max) (record c.args.self.now { tokens = drop 1 c.args.self.now.tokens; pieces = (c.args.self.now.pieces ++ code_pieces (chars bs)) ++ (empty_list ∷ []) ∷ [] })) (sym same)
    (text_comes ops s c.args.self.now c.args.max c.args.bytes front h))

pub returns-in-Err : goal.returns-in-Err
returns-in-Err c = λ ops s front h. absurd (c.in-Err.ensures.cases.0 (IsUtf8-from_is_utf8 c.args.bytes.now (text_is_utf8 c.args.bytes c.args.self.now.tokens front)))
