use Rattle.std.proofs.Common.{ℕ, List, [], map, sym, ap, ◌∙◌, map-id}
use Rattle.std.proofs.lemmas.Iterator.{YieldsList-from_chars}
use Rattle.std.proofs.lemmas.Iterator.Consumers.{YieldsList-end}
use Rattle.cp_log_text.specs.Line.{atom, list_parts}
use Rattle.cp_log_text.specs.Port.{cut_from}
use Rattle.cp_log_text.proofs.Parts.{same}
use Rattle.cp_log_text.proofs.Cuts.{more_characters, more_begun, cut_whole}
use Rattle.cp_log_text.proofs.piece.add_cut.Goals as goal

pub characters-preserved : goal.characters-preserved
characters-preserved c = record {
  line = more_characters c.characters.yielded _ c.in-Some.character c.characters.invariant.piece c.characters.invariant.line c.in_ok-add_character.ensures.line;
  piece = more_begun c.characters.yielded _ _ c.in-Some.character c.characters.invariant.piece c.in_ok-add_character.ensures.piece;
}

pub returns : goal.returns
returns c =
    let done = YieldsList-end (YieldsList-from_chars c.args.text.now c.utf8.text cc) c.characters.yielded _ c.characters.yielded_by _ _ c.in-None.is c.next.ensures.steps in
    same
    (cut_whole c.characters.yielded _ c.characters.invariant.piece c.characters.invariant.line (same c.in_ok-add_element.ensures (cc)) (same c.in_ok-word.ensures (cc)))
    (ap (λ (cs : List ℕ). list_parts (map atom (cut_from [] cs))) (sym (map-id c.characters.yielded) ∙ done.0))
