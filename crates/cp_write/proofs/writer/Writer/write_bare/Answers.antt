use Rattle.cp_write.specs.Writing.{style_of}
use Rattle.cp_write.proofs.lemmas.WriterLaws.{at-atom}
use Rattle.cp_write.proofs.writer.Writer.write_bare.Goals as goal

pub returns-in_ok-settle-in-Atom : goal.returns-in_ok-settle-in-Atom
returns-in_ok-settle-in-Atom c =
    at-atom (style_of c.args.style) c.args.shape c.args.cell.now _ _ c.args.self.now.out.items c.put_name.new.out.items c.args.self.now.frames.items
    c.settle-in-Atom.new.self.out.items c.settle-in-Atom.new.self.frames.items c.settle-in-Atom.new.self.place
    c.in-Atom.is c.bytes.ensures.bytes c.requires c.in_ok-put_name-in-Atom.ensures c.in_ok-settle-in-Atom.ensures
