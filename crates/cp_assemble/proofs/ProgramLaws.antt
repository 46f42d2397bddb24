-- A program that has the predicates of the program of files is that program.
use Rattle.std.proofs.Common.{◌≡◌, ◌∙◌, List, [], ◌++◌, map}
use Rattle.std.specs.List.{flat_map}
use Rattle.cp_term.specs.declared.pred_name.PredName.{PredName}
use Rattle.cp_code.specs.declared.peer.Peer.{Peer}
use Rattle.cp_code.specs.declared.pred_info.PredInfo.{PredInfo}
use Rattle.cp_code.specs.declared.program.Program.{Program}
use Rattle.cp_module.specs.Parts.{Part}
use Rattle.cp_link.specs.Linked.{linked, all_shared, active_modules, peer_of, preds_in, remote_preds}
use Rattle.cp_assemble.specs.Answers.{Assembles}
use Rattle.cp_assemble.specs.Given.{with_preds}

abbrev pub preds_with : (shared : List PredName) → List Part → (prelude : Part) → List PredInfo
preds_with shared parts prelude = flat_map (preds_in shared) parts ++ remote_preds parts ++ preds_in [] prelude

as_linked : (parts : List Part) (prelude : Part) → with_preds parts (preds_with (all_shared parts) parts prelude) (all_shared parts) (map peer_of (active_modules parts)) ≡ record (linked parts prelude) { ops = [] }
unfolding linked
as_linked parts prelude = λ i. with_preds parts (preds_with (all_shared parts) parts prelude) (all_shared parts) (map peer_of (active_modules parts))

pub assembled : (parts : List Part) (prelude : Part) (preds : List PredInfo) (shared : List PredName) (peers : List Peer) (p : Program) → p ≡ with_preds parts preds shared peers
    → shared ≡ all_shared parts → preds ≡ preds_with shared parts prelude → peers ≡ map peer_of (active_modules parts) → Assembles parts prelude p
assembled parts prelude preds shared peers p made are_shared are_preds are_peers =
    made
    ∙ (λ i. with_preds parts ((are_preds ∙ (λ j. preds_with (are_shared j) parts prelude)) i) (are_shared i) (are_peers i))
    ∙ as_linked parts prelude
