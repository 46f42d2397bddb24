use Rattle.std.proofs.Common.{ℕ, List, ◌++◌, take, map, ap, ◌∙◌}
use Rattle.cp_call.specs.declared.item.Item.{Item}
use Rattle.cp_log_text.specs.Line.{line_text, lines_text}
use Rattle.cp_log_text.specs.Engine.{item_line, is_logged}
use Rattle.cp_log_text.proofs.Parts.{taken}
use Rattle.cp_log_text.proofs.Texts.{more_lines}
use Rattle.cp_log_text.proofs.Elements.{all_at}
use Rattle.cp_log_text.proofs.engine.put_items.Goals as goal

pub items-preserved : goal.items-preserved
items-preserved c =
    let xs = c.args.items.now in
    let i = c.items.item-index in
    let x = c.item-item.result in
    c.in_ok-put_item.ensures
    ∙ ap (λ (t : List ℕ). t ++ line_text (item_line x)) c.items.invariant
    ∙ more_lines item_line c.args.log.now (take i xs) x
    ∙ ap (λ (ys : List Item). c.args.log.now ++ lines_text (map item_line ys)) (taken xs i x c.item-item.is c.items-test.true)

pub put_item-requires : goal.put_item-requires
put_item-requires c = all_at is_logged c.args.items.now c.items.item-index _ c.requires c.item-item.is c.items-test.true
