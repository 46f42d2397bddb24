use Rattle.std.proofs.Common.{◌≡◌, length}
use Rattle.std.specs.Str.Lossy.{utf8_valid_len}
use Rattle.std.proofs.lemmas.Str.{utf8_valid_len-IsUtf8}
use Rattle.std.proofs.lemmas.Bool.{eq-eqb}
use Rattle.cp_lex.proofs.scan.scan_text.Goals as goal

pub returns-in-Ok : goal.returns-in-Ok
returns-in-Ok c =
    let text = c.args.text.now in
    let whole : utf8_valid_len text ≡ length text = utf8_valid_len-IsUtf8 text c.in-Ok.ensures.cases in
    let same = eq-eqb (utf8_valid_len text) (length text) whole in
    rw same c.scan_utf8.ensures
