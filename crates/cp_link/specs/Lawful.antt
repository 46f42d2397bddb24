-- What the engine rests on: the bodies of all clauses are goals, as the module of their file sees them.
use Rattle.std.specs.Prelude.{◌≡◌, true, List, [], ◌∷◌}
use Rattle.cp_code.specs.declared.clause.Clause.{Clause}
use Rattle.cp_code.specs.declared.pred_info.PredInfo.{PredInfo}
use Rattle.cp_code.specs.declared.program.Program.{Program}
use Rattle.cp_code.specs.Clauses.{body_term}
use Rattle.cp_code.specs.Lawful.{IsLawful}
use Rattle.cp_module.specs.Causes.{is_body}

abbrev pub HaveBodies : List Clause → Type 0
HaveBodies [] = Unit {0}
HaveBodies (c ∷ clauses) = (is_body c.module (body_term c.whole) ≡ true) × HaveBodies clauses

abbrev pub AllHaveBodies : List PredInfo → Type 0
AllHaveBodies [] = Unit {0}
AllHaveBodies (p ∷ preds) = HaveBodies p.clauses × AllHaveBodies preds

-- its shared predicates are among its objects, and its bodies are goals
pub record IsRunnable (p : Program) : Type 0 where
  pub lawful : IsLawful p
  pub bodies : AllHaveBodies p.preds
