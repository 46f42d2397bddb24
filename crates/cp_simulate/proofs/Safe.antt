-- A program that loading has accepted is good for an engine.
use Rattle.std.proofs.Common.{◌≡◌, ℕ, List, [], ◌∷◌, Option, Some, None, true}
use Rattle.cp_term.specs.declared.cell.Cell.{Cell}
use Rattle.cp_code.specs.declared.assertion.Assertion.{Assertion}
use Rattle.cp_code.specs.declared.clause.Clause.{Clause}
use Rattle.cp_code.specs.declared.pred_info.PredInfo.{PredInfo}
use Rattle.cp_code.specs.declared.program.Program.{Program}
use Rattle.cp_code.specs.Clauses.{body_term}
use Rattle.cp_code.specs.Programs.{prop_of}
use Rattle.cp_code.specs.Properties.{Prop, Of, ListOf, Both, Either, Always}
use Rattle.cp_module.specs.Causes.{is_body}
use Rattle.cp_link.specs.Lawful.{HaveBodies, AllHaveBodies}
use Rattle.cp_assertion.specs.Formulas.{SpeaksOf}
use Rattle.cp_load.specs.Answers.{SpeakOfArguments, IsSafe}
use Rattle.cp_props.specs.Arguments.{HasArguments}
use Rattle.cp_run.specs.Entering.{IsBodyOf}
use Rattle.cp_run.specs.Programs.{HasGoodClauses, HasGoodPreds}
use Rattle.cp_calls.specs.Goals.{AreGoodChecks}
use Rattle.cp_engine.specs.Good.{IsGood}

has_arguments : (n : ℕ) (p : Prop) → SpeaksOf n p → HasArguments n p
has_arguments n (Of name k) h = h
has_arguments n (ListOf name k) h = h
has_arguments n (Both p q) h = (has_arguments n p h.0, has_arguments n q h.1)
has_arguments n (Either p q) h = (has_arguments n p h.0, has_arguments n q h.1)
has_arguments n Always h = tt

good_checks : (assertions : List Assertion) → SpeakOfArguments assertions → AreGoodChecks assertions
good_checks [] h = tt
good_checks (a ∷ more) h = ((has_arguments a.pred.arity (prop_of a.before) h.0.0, has_arguments a.pred.arity (prop_of a.after) h.0.1), good_checks more h.1)

good_body : (m : List ℕ) (body : Option (List Cell)) → is_body m body ≡ true → IsBodyOf m body
good_body m None h = tt
good_body m (Some cells) h = h

good_clauses : (clauses : List Clause) → HaveBodies clauses → HasGoodClauses clauses
good_clauses [] h = tt
good_clauses (c ∷ clauses) h = (good_body c.module (body_term c.whole) h.0, good_clauses clauses h.1)

good_preds : (preds : List PredInfo) → AllHaveBodies preds → HasGoodPreds preds
good_preds [] h = tt
good_preds (p ∷ preds) h = (good_clauses p.clauses h.0, good_preds preds h.1)

pub safe_good : (p : Program) → IsSafe p → IsGood p
safe_good p safe = record {
  lawful = safe.runnable.lawful;
  bodies = good_preds p.preds safe.runnable.bodies;
  checks = good_checks p.checks safe.arguments;
}
