-- The program of files, where its predicates are given.
use Rattle.std.specs.Prelude.{List, [], map}
use Rattle.std.specs.List.{flat_map}
use Rattle.cp_term.specs.declared.pred_name.PredName.{PredName}
use Rattle.cp_code.specs.declared.peer.Peer.{Peer}
use Rattle.cp_code.specs.declared.pred_info.PredInfo.{PredInfo}
use Rattle.cp_code.specs.declared.program.Program.{Program}
use Rattle.cp_module.specs.Parts.{Part}
use Rattle.cp_link.specs.Modules.{name_of}
use Rattle.cp_link.specs.Refusals.{rules_of_parts}
use Rattle.cp_link.specs.Linked.{first_name, first_exports, types_in, imports_of}

-- the program of these files with these predicates, of which these are shared, and these active modules
abbrev pub with_preds : List Part → List PredInfo → (shared : List PredName) → List Peer → Program
with_preds parts preds shared peers = record {
  first = first_name parts;
  preds = preds;
  shared = shared;
  exports = first_exports parts;
  peers = peers;
  types = flat_map types_in parts;
  checks = [];
  modules = map name_of parts;
  ops = [];
  imports = flat_map (imports_of parts) parts;
  written = rules_of_parts parts;
}
