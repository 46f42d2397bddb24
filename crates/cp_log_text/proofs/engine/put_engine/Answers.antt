use Rattle.std.proofs.Common.{List, ◌++◌, map, ap, ◌∙◌}
use Rattle.std.proofs.lemmas.Bool.{and_parts}
use Rattle.cp_term.specs.declared.cell.Cell.{Cell}
use Rattle.cp_call.specs.declared.item.Item.{Item}
use Rattle.cp_log_text.specs.Line.{line_text, lines_text, term_with}
use Rattle.cp_log_text.specs.Engine.{engine_parts, item_line, stand_parts}
use Rattle.cp_log_text.proofs.Elements.{is_not}
use Rattle.cp_log_text.proofs.Texts.{engine_text}
use Rattle.cp_log_text.proofs.engine.put_engine.Goals as goal

pub put_items-requires : goal.put_items-requires
put_items-requires c = rw c.as_slice.ensures (and_parts _ _ c.requires).1

pub stand_line-requires : goal.stand_line-requires
stand_line-requires c = is_not _ (and_parts _ _ c.requires).0

pub returns : goal.returns
returns c =
    let e = c.args.engine.now in
    engine_text c.args.log.now c.put.new.self c.put_items.new.log c.put-2.new.self (term_with (engine_parts e.number)) (map item_line e.items) (term_with (stand_parts e.stand))
    (c.in_ok-put.ensures ∙ ap (λ (cells : List Cell). c.args.log.now ++ line_text cells) c.in_ok-line.ensures)
    (c.in_ok-put_items.ensures ∙ ap (λ (items : List Item). c.put.new.self ++ lines_text (map item_line items)) c.as_slice.ensures)
    (c.in_ok-put-2.ensures ∙ ap (λ (cells : List Cell). c.put_items.new.log ++ line_text cells) c.in_ok-line-2.ensures)
