use Rattle.std.proofs.Common.{◌≡◌, ◌++◌, [], ◌∷◌, rules}
use Rattle.cp_ops.specs.Text.{text_of, quoting}
use Rattle.cp_log_text.proofs.Texts.{put_line}
use Rattle.cp_log_text.proofs.log.Log.put.Goals as goal

pub returns : goal.returns
returns c =
    let first : c.extend_from_slice.new.self.items ≡ c.args.self.now ++ c.as_slice.result.now = search rules in
    let second : c.extend_from_slice-2.new.self.items ≡ c.extend_from_slice.new.self.items ++ 46 ∷ 10 ∷ [] = search rules in
    let text : c.as_slice.result.now ≡ text_of quoting c.self.inside.ops c.in-Ok.term = search rules in
    let term : c.in-Ok.term ≡ c.args.line.cells = search rules in
    put_line _ _ _ _ _ _ _ first second text c.self.invariant term
