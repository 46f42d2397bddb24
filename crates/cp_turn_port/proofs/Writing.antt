-- What a write adds to the entries of a port behind its turnstile.
use Rattle.std.proofs.Common.{◌≡◌, ℕ, List, [], ◌∷◌, ◌++◌, sym, ◌∙◌, ap, append-nil}
use Rattle.std.specs.Prelude.{Result, Ok, Err, IfOk, OnErr}
use Rattle.cp_call.specs.declared.item.PutReply.{PutReply}
use Rattle.cp_call.specs.declared.outcome.OutEntry.{OutEntry}
use Rattle.cp_turn.specs.Passes.{PassView, Lengthens}

-- the list that a pass has found
pub found_is : {E B : Type 0} (p q : PassView E B) → p ≡ q → p.found ≡ q.found
found_is p q e = ap (λ x. x.found) e

pub lengthened : {E : Type 0} (r : Result PutReply E) (engine n : ℕ) (bytes : List ℕ) (found now : List OutEntry) → engine ≡ n
    → IfOk r (λ reply. now ≡ found ++ record { engine = engine; bytes = bytes; reply = reply } ∷ []) → OnErr r (now ≡ found)
    → Lengthens (λ (e : OutEntry). e.engine) n found now
lengthened (Ok reply) engine n bytes found now same entry err = (record { engine = engine; bytes = bytes; reply = reply } ∷ [], entry, (same, tt))
lengthened (Err e) engine n bytes found now same entry err = ([], err ∙ sym (append-nil found), tt)
