use Rattle.std.proofs.Common.{◌≡◌, true, [], drop}
use Rattle.cp_term.specs.Preorder.{is_terms}
use Rattle.cp_ops.specs.Text.{written}
use Rattle.cp_write.specs.declared.place.Place.TheVariants.{Nothing, Whole}
use Rattle.cp_write.specs.Writing.{style_of, finished, awaited}
use Rattle.cp_write.proofs.write.text_of.Given as goal

-- what is written and what is left to write are the whole text
abbrev pub invariant-loop-cell : goal.invariant-loop-cell
invariant-loop-cell l = record {
  same : finished (style_of l.style) l.writer.out.items l.writer.frames.items l.writer.place (written (style_of l.style) l.ops (drop l.cell-index l.cells)) ≡ finished (style_of l.style) [] [] Whole (written (style_of l.style) l.ops l.cells);
  count : is_terms (awaited l.writer.frames.items l.writer.place) (drop l.cell-index l.cells) ≡ true;
  done : l.writer.place ≡ Nothing → l.writer.frames.items ≡ [];
}
